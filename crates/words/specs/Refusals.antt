-- Refusals as the code has them, and their numbers.
use Rattle.std.specs.Prelude.{ℕ, ◌≡◌}
use Rattle.reading.specs.Answer.{Refusal as Met, too_long, not_utf8, ends_early, stray_close, unclosed, too_deep, no_room, malformed, decimal_read, repeated_name, bad_literal, bad_func, unwritable, unprintable, wrong_width}
use Rattle.words.specs.declared.refusal.Refusal.{Refusal}
use Rattle.words.specs.declared.refusal.Refusal.TheVariants as refusal

-- The number of a refusal.
abbrev pub number_of : Refusal → ℕ
number_of refusal.TooLong = 1
number_of refusal.NotUtf8 = 2
number_of refusal.EndsEarly = 3
number_of refusal.StrayClose = 4
number_of refusal.Unclosed = 5
number_of refusal.TooDeep = 6
number_of refusal.NoRoom = 7
number_of refusal.Malformed = 8
number_of refusal.DecimalRead = 9
number_of refusal.RepeatedName = 10
number_of refusal.BadLiteral = 11
number_of refusal.BadFunc = 12
number_of refusal.NumbersSpent = 13
number_of refusal.NotWords = 14
number_of refusal.Unwritable = 15
number_of refusal.Unprintable = 16
number_of refusal.WrongWidth = 17

-- What the number of a refusal is.
abbrev pub NumberIs : Refusal → ℕ → Type 0
NumberIs r n = n ≡ number_of r

-- A refusal that is met in a text, as the code has it.
abbrev pub refusal_of : Met → Refusal
refusal_of too_long = refusal.TooLong
refusal_of not_utf8 = refusal.NotUtf8
refusal_of ends_early = refusal.EndsEarly
refusal_of stray_close = refusal.StrayClose
refusal_of unclosed = refusal.Unclosed
refusal_of too_deep = refusal.TooDeep
refusal_of no_room = refusal.NoRoom
refusal_of malformed = refusal.Malformed
refusal_of decimal_read = refusal.DecimalRead
refusal_of repeated_name = refusal.RepeatedName
refusal_of bad_literal = refusal.BadLiteral
refusal_of bad_func = refusal.BadFunc
refusal_of unwritable = refusal.Unwritable
refusal_of unprintable = refusal.Unprintable
refusal_of wrong_width = refusal.WrongWidth
