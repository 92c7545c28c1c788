-- Hypotheses of demand 3 that can be met: every call agrees with itself, and for every call and answer there is one that is long enough.
use mathlib.Core.Path.{refl}
use native.Mathlib.Omega.{arith}
use lib.ListN.{length}
use borrow.Author.Tests.{le-leb}
use Rattle.reading.specs.Pick.{pick}
use Rattle.grammar.specs.Item.{words_of}
use Rattle.session.specs.Session.{Call, Term, term_items, draft_items, room_for}
use Rattle.session.specs.Compared.{Agree, LongEnough}

pub agrees : (call : Call) → Agree call call
agrees call = record { op = refl; text = refl; tree = refl; draft = refl; out = refl }

-- The call with a draft and an output of as many words as an answer takes.
abbrev pub lengthened : Call → Term → Call
lengthened call m =
    record { op = call.op; text = call.text; tree = call.tree; draft = words_of (draft_items m); out = words_of (term_items m) }

pub long-enough : (call : Call) (m : Term) → LongEnough call (lengthened call m) m
unfolding room_for pick
long-enough call m =
    record {
      same = record { op = refl; text = refl; tree = refl };
      room = rw (le-leb (length (words_of (draft_items m))) (length (words_of (draft_items m))) (omega arith), le-leb (length (words_of (term_items m))) (length (words_of (term_items m))) (omega arith)) refl;
    }
