-- 128-bit numbers in four words, as the code has them.
use Rattle.std.specs.Prelude.{ℕ, ◌≡◌}
use Rattle.reading.specs.Number.{Wide, wide_of}
use Rattle.words.specs.declared.quad.Quad.{Quad}

-- Four words, as a definition and as the code have them.
abbrev pub as_quad : Wide → Quad
as_quad w = record { a = w.a; b = w.b; c = w.c; d = w.d }

abbrev pub as_wide : Quad → Wide
as_wide q = record { a = q.a; b = q.b; c = q.c; d = q.d }

-- A number in four words.
abbrev pub InFour : ℕ → Quad → Type 0
InFour n q = q ≡ as_quad (wide_of n)
