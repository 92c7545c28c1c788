-- The form of a list, as the code finds it in the table of keywords.
use mathlib.Core.Bool.{Bool}
use mathlib.Core.Path.{◌≡◌, refl, sym, ap, subst}
use Rattle.reading.specs.Bytes.{Maybe, nothing, just}
use Rattle.grammar.specs.Names.{Form}
use Rattle.grammar.specs.ParseExpr.{or_else_form}
use Rattle.forms.specs.FormNames.{FormIs}
use Rattle.forms.specs.declared.keywords.Form.{Form as Code}

-- The form of a keyword.
pub keyword_is : (b : Bool) {m : Maybe Form} {f : Form} → just f ≡ m → or_else_form b m ≡ f
keyword_is b e = ap (or_else_form b) (sym e)

-- The form of another name, by the test of its first bytes.
pub keyword_not : (u : Bool) {t b : Bool} {m : Maybe Form} → t ≡ b → t ≡ u → nothing ≡ m → or_else_form b m ≡ or_else_form u nothing
keyword_not u p q e = rw (← p, q, ← e) refl

-- What the rest of the table says, said of the whole.
pub rest-says : (b : Bool) (r : Code) {m n : Maybe Form} → m ≡ n → FormIs (or_else_form b m) r → FormIs (or_else_form b n) r
rest-says b r e x = subst (λ (m : Maybe Form). FormIs (or_else_form b m) r) e x
