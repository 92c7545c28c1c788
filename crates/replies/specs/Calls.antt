-- The calls that the methods stand for.
use Rattle.std.specs.Prelude.{ℕ, List, []}
use Rattle.session.specs.Session.{Call, read_one, read_all, sort, expression, bind, solution}

-- Each call with its text and the words of the slices that it is lent; a slice that it does not take is empty.
abbrev pub one_call : List ℕ → List ℕ → Call
one_call text out = record { op = read_one; text = text; tree = []; draft = []; out = out }

abbrev pub all_call : List ℕ → List ℕ → Call
all_call text out = record { op = read_all; text = text; tree = []; draft = []; out = out }

abbrev pub sort_call : List ℕ → List ℕ → List ℕ → Call
sort_call text tree out = record { op = sort; text = text; tree = tree; draft = []; out = out }

abbrev pub expr_call : List ℕ → List ℕ → List ℕ → Call
expr_call text tree out = record { op = expression; text = text; tree = tree; draft = []; out = out }

abbrev pub bind_call : List ℕ → List ℕ → List ℕ → Call
bind_call text tree out = record { op = bind; text = text; tree = tree; draft = []; out = out }

abbrev pub solution_call : List ℕ → List ℕ → List ℕ → List ℕ → Call
solution_call text tree draft out = record { op = solution; text = text; tree = tree; draft = draft; out = out }
