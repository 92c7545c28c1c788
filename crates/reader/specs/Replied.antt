-- What a caller sees of a method's answer.
use Rattle.std.specs.Prelude.{ℕ, List}
use Rattle.words.specs.Answered.{heard}
use Rattle.replies.specs.Sessions.{Reply}
use Rattle.reader.specs.declared.Answer.{Answer}

-- A method's answer and the words of tree, draft and output afterwards; a slice that it does not take is empty.
abbrev pub replied : Answer → List ℕ → List ℕ → List ℕ → Reply
replied a tree draft out = record { said = heard a.said; next = a.reader.next; tree = tree; draft = draft; out = out }
