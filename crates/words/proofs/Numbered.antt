-- The number of a refusal that is met is the one that the definitions give it.
use mathlib.Core.Path.{◌≡◌, refl}
use Rattle.reading.specs.Answer.{Refusal, number, too_long, not_utf8, ends_early, stray_close, unclosed, too_deep, no_room, malformed, decimal_read, repeated_name, bad_literal, bad_func, unwritable, unprintable, wrong_width}
use Rattle.words.specs.Refusals.{number_of, refusal_of}

pub number_told : (e : Refusal) → number_of (refusal_of e) ≡ number e
number_told too_long = refl
number_told not_utf8 = refl
number_told ends_early = refl
number_told stray_close = refl
number_told unclosed = refl
number_told too_deep = refl
number_told no_room = refl
number_told malformed = refl
number_told decimal_read = refl
number_told repeated_name = refl
number_told bad_literal = refl
number_told bad_func = refl
number_told unwritable = refl
number_told unprintable = refl
number_told wrong_width = refl
