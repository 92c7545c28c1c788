-- Opens every definition of this crate at once, for claims that are proved by computing.
use Rattle.reading.specs.Compute.{text_computes}
use Rattle.writing.specs.Laid.{laid}
use Rattle.writing.specs.Digits.{digit, figures, decimal}

unfoldable pub writing_computes : Unit {0}
unfolding text_computes laid digit figures decimal
writing_computes = tt
