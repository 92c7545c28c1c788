-- The bits of literals.
use Prim.Native.Nat.{ℕ, ◌-◌, ◌^◌, ◌≤◌}
use mathlib.Core.Bool.{true, false}
use mathlib.Core.Path.{◌≡◌, refl, ap, ◌∙◌}
use mathlib.Core.List.{List}
use native.Mathlib.Omega.{arith}
use lib.ListN.{length, take, drop}
use Rattle.reading.specs.Bytes.{ascii, begins_with, Maybe, nothing, just}
use Rattle.reading.specs.Number.{wide_of, below, digits}
use Rattle.std.specs.Prelude.{Option, Err}
use Rattle.std.specs.Option.{ok_or}
use Rattle.words.specs.declared.quad.Quad.{Quad}
use Rattle.words.specs.declared.refusal.Refusal.TheVariants.{Malformed, BadLiteral}
use Rattle.lexing.specs.Quads.{as_mag}
use Rattle.forms.specs.FormNames.{as_bits}
use Rattle.reading.proofs.Bytes.{begins-length}
use Rattle.reading.specs.Answer.{got, and_then, or_bad, bad_literal}
use Rattle.lexing.proofs.Lexing.Parts.{tail}
use Rattle.grammar.specs.ParseExpr.{bits_of}

module _ (w : List ℕ) where
  pub bits_not : begins_with (ascii "#b") w ≡ false → Err Malformed ≡ as_bits (and_then (bits_of w) (λ v. got (wide_of v)))
  unfolding bits_of
  bits_not e = rw e refl

  -- There are two bytes.
  pub bits_there : begins_with (ascii "#b") w ≡ true → 2 ≤ length w
  bits_there b = omega (arith, begins-length (ascii "#b") w b)

  pub bits_are : {r : Option Quad} → begins_with (ascii "#b") w ≡ true → r ≡ as_mag (below (2 ^ 128) (digits 2 (take (length w - 2) (drop 2 w)))) → ok_or r BadLiteral ≡ as_bits (and_then (bits_of w) (λ v. got (wide_of v)))
  unfolding bits_of
  bits_are b h = ap (λ (x : Option Quad). ok_or x BadLiteral) h ∙ rw (b, tail w 2) (go (below (2 ^ 128) (digits 2 (drop 2 w))))
    where
      go : (m : Maybe ℕ) → ok_or (as_mag m) BadLiteral ≡ as_bits (and_then (or_bad bad_literal m) (λ v. got (wide_of v)))
      go nothing = refl
      go (just n) = refl
