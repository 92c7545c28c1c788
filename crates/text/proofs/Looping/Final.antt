-- From what is found in a text to what the operation decides, answers and leaves.
use Prim.Native.Nat.{ℕ, ◌≤◌, ◌<◌}
use mathlib.Core.Bool.{Bool, true, false}
use mathlib.Core.Path.{◌≡◌, refl, sym, ap, ◌∙◌}
use mathlib.Core.List.{List}
use native.Mathlib.Omega.{arith}
use lib.ListN.{length}
use borrow.Author.Tests.{le-leb, lt-leb}
use Rattle.std.specs.Prelude.{Ok, Err}
use Rattle.reading.specs.Limits.{max_bytes}
use Rattle.reading.specs.Answer.{Refusal, number, too_long, not_utf8, ends_early, stray_close, unclosed, too_deep, no_room, malformed, decimal_read, repeated_name, bad_literal, bad_func, unwritable, unprintable, wrong_width, Ans, got, bad, lifted, accepts, refuses, finish, fits_in, accepted, over, output_of, said_of}
use Rattle.reading.specs.Utf8.{utf8}
use Rattle.reading.specs.Tree.{trees}
use Rattle.reading.specs.Reading.{Read, read_text, read_words, read_report, read_final, read_said, read_out}
use Rattle.words.specs.Refusals.{number_of, refusal_of}
use Rattle.words.specs.declared.refusal.Refusal.{Refusal as Refused}
use Rattle.words.specs.declared.refusal.Refusal.TheVariants as refusals
use Rattle.text.specs.Scanned.{scan_of, as_outcome, Left, Scanned, Attempted}
use Rattle.text.specs.declared.scan.Found.{Found}
use Rattle.reading.proofs.Finish.{finish-short, finish-long}

module _ {all : Bool} {text out out' : List ℕ} where
  refusal : {r : Refused} → read_final all text out ≡ refuses (number_of r) → Attempted all text out out' (Err r)
  unfolding read_said said_of read_out output_of
  refusal e = record { answer = rw e; left = rw e }

  acceptance : {a b : ℕ} (r : Read) → read_final all text out ≡ accepts r 0 → out' ≡ over (read_words r) out → read_report all r ≡ accepted a b → Attempted all text out out' (Ok (record { first = a; second = b }))
  unfolding read_said said_of read_out output_of
  acceptance r e l q = record { answer = rw (e, q); left = rw e l }

  -- A text that is too long is 1.
  pub too_long_lem : max_bytes < length text → Attempted all text out out' (Err refusals.TooLong)
  unfolding read_final read_text finish
  too_long_lem h = refusal (rw (lt-leb (length text) max_bytes h))

  -- A text that is not UTF-8 is 2.
  pub not-utf8 : {t : Bool} → length text ≤ max_bytes → t ≡ utf8 text → t ≡ false → Attempted all text out out' (Err refusals.NotUtf8)
  unfolding read_final read_text finish
  not-utf8 h u e = let q : utf8 text ≡ false = sym u ∙ e in refusal (rw (le-leb (length text) max_bytes h, q))

-- Any other text is decided by what is found in it.
module _ (all : Bool) (text out : List ℕ) (h : length text ≤ max_bytes) (u : utf8 text ≡ true) where
  final-found : read_final all text out ≡ finish (λ r. fits_in out (read_words r)) 0 (lifted (scan_of all text) 0)
  unfolding read_final read_text
  final-found = rw (le-leb (length text) max_bytes h, u)

  final-bad : (r : Refusal) → scan_of all text ≡ bad r → read_final all text out ≡ refuses (number r)
  unfolding finish
  final-bad r e = final-found ∙ rw e

  final-short : (r : Read) → scan_of all text ≡ got r → length out < length (read_words r) → read_final all text out ≡ refuses (number no_room)
  final-short r e l =
      final-found ∙ ap (λ (x : Ans Read). finish (λ q. fits_in out (read_words q)) 0 (lifted x 0)) e
      ∙ finish-short (λ q. fits_in out (read_words q)) 0 r 0 (omega arith) (lt-leb (length (read_words r)) (length out) l)

  final-long : (r : Read) → scan_of all text ≡ got r → length (read_words r) ≤ length out → read_final all text out ≡ accepts r 0
  final-long r e l =
      final-found ∙ ap (λ (x : Ans Read). finish (λ q. fits_in out (read_words q)) 0 (lifted x 0)) e
      ∙ finish-long (λ q. fits_in out (read_words q)) 0 r 0 (omega arith) (le-leb (length (read_words r)) (length out) l)

-- The number of a refusal is that of the definitions.
numbered : (r : Refusal) → number_of (refusal_of r) ≡ number r
numbered too_long = refl
numbered not_utf8 = refl
numbered ends_early = refl
numbered stray_close = refl
numbered unclosed = refl
numbered too_deep = refl
numbered no_room = refl
numbered malformed = refl
numbered decimal_read = refl
numbered repeated_name = refl
numbered bad_literal = refl
numbered bad_func = refl
numbered unwritable = refl
numbered unprintable = refl
numbered wrong_width = refl

-- What was read, by the numbers that the code has of it.
record Known (all : Bool) (text out out' : List ℕ) (k w at : ℕ) : Type 0 where
  pub what : Read
  pub finds : scan_of all text ≡ got what
  pub many : k ≡ trees what.read
  pub long : w ≡ length (read_words what)
  pub behind : at ≡ what.next
  pub lies : out' ≡ over (read_words what) out

report-all : (all : Bool) (r : Read) (k w : ℕ) → all ≡ true → k ≡ trees r.read → w ≡ length (read_words r) → read_report all r ≡ accepted k w
report-all all r k w b p q = rw (b, p, q)

report-one : (all : Bool) (r : Read) (w at : ℕ) → all ≡ false → w ≡ length (read_words r) → at ≡ r.next → read_report all r ≡ accepted w at
report-one all r w at b p q = rw (b, p, q)

module _ {all : Bool} {text out out' : List ℕ} {t : Bool} (h : length text ≤ max_bytes) (u : t ≡ utf8 text) (y : t ≡ true) where
  -- A refusal in the text.
  pub scan_refused : {n : Refused} → Scanned all text out out' (Err n) → Attempted all text out out' (Err n)
  scan_refused {n} s = go (scan_of all text) refl s.answer
    where
      go : (x : Ans Read) → scan_of all text ≡ x → Err n ≡ as_outcome x → Attempted all text out out' (Err n)
      go (bad r) q a =
          let m : n ≡ refusal_of r = cc in
          rw m (refusal (final-bad all text out h (sym u ∙ y) r q ∙ ap refuses (sym (numbered r))))
      go (got r) q a = absurd cc

  module _ {f : Found} (s : Scanned all text out out' (Ok f)) where
    known : Known all text out out' f.trees f.words f.next
    known = go (scan_of all text) refl s.answer s.left
      where
        go : (x : Ans Read) → scan_of all text ≡ x → Ok f ≡ as_outcome x → Left x out out' → Known all text out out' f.trees f.words f.next
        go (bad r) q a l = absurd cc
        go (got r) q a l =
            let m : f ≡ record { trees = trees r.read; words = length (read_words r); next = r.next } = cc in
            record { what = r; finds = q; many = ap (λ (x : Found). x.trees) m; long = ap (λ (x : Found). x.words) m; behind = ap (λ (x : Found). x.next) m; lies = l }

    -- The words do not fit: 7.
    pub scan_short : length out < f.words → Attempted all text out out' (Err refusals.NoRoom)
    scan_short l = refusal (final-short all text out h (sym u ∙ y) known.what known.finds (omega (arith, known.long)))

    fits : f.words ≤ length out → read_final all text out ≡ accepts known.what 0
    fits l = final-long all text out h (sym u ∙ y) known.what known.finds (omega (arith, known.long))

    -- They fit: read all reports the expressions and the words.
    pub scan_all : all ≡ true → f.words ≤ length out → Attempted all text out out' (Ok (record { first = f.trees; second = f.words }))
    scan_all b l = acceptance known.what (fits l) known.lies (report-all all known.what f.trees f.words b known.many known.long)

    -- They fit: read one reports the words and the byte behind the expression.
    pub scan_one : all ≡ false → f.words ≤ length out → Attempted all text out out' (Ok (record { first = f.words; second = f.next }))
    scan_one b l = acceptance known.what (fits l) known.lies (report-one all known.what f.words f.next b known.long known.behind)
