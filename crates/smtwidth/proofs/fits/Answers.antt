use native.Mathlib.Omega.{arith}
use Rattle.smtwidth.proofs.Powers.{fits-never, fits_all, fits-d, over-d, fits-c, over-c, fits-b, over-b, fits-a}
use Rattle.smtwidth.proofs.fits.Goals as goal

-- src/width.rt:27:9
pub returns-then-width-eq0 : goal.returns-then-width-eq0
returns-then-width-eq0 c = fits-never _ _ c.if-width-eq0.true

-- src/width.rt:30:9
pub returns-then-width-ge128 : goal.returns-then-width-ge128
returns-then-width-ge128 c = fits_all _ _ c.if-width-eq0.false (omega arith) (omega arith) (omega arith) (omega arith) c.if-width-ge128.true

-- src/width.rt:33:9
pub returns-then-width-ge96 : goal.returns-then-width-ge96
returns-then-width-ge96 c = fits-d _ _ c.if-width-eq0.false (omega arith) (omega arith) (omega arith) c.if-width-ge96.true c.power.ensures

-- src/width.rt:36:9
pub returns-then-q-ne0 : goal.returns-then-q-ne0
returns-then-q-ne0 c = over-d _ _ c.if-width-eq0.false (omega arith) (omega arith) (omega arith) c.if-width-ge96.false c.if-q-ne0.true

-- src/width.rt:39:9
pub returns-then-width-ge64 : goal.returns-then-width-ge64
returns-then-width-ge64 c = fits-c _ _ c.if-width-eq0.false (omega arith) (omega arith) (omega arith) c.if-q-ne0.false c.if-width-ge64.true c.power-then-width-ge64.ensures

-- src/width.rt:42:9
pub returns-then-q-ne0-2 : goal.returns-then-q-ne0-2
returns-then-q-ne0-2 c = over-c _ _ c.if-width-eq0.false (omega arith) (omega arith) (omega arith) c.if-q-ne0.false c.if-width-ge64.false c.if-q-ne0-2.true

-- src/width.rt:45:9
pub returns-then-width-ge32 : goal.returns-then-width-ge32
returns-then-width-ge32 c = fits-b _ _ c.if-width-eq0.false (omega arith) (omega arith) (omega arith) c.if-q-ne0.false c.if-q-ne0-2.false c.if-width-ge32.true c.power-then-width-ge32.ensures

-- src/width.rt:48:9
pub returns-then-q-ne0-3 : goal.returns-then-q-ne0-3
returns-then-q-ne0-3 c = over-b _ _ c.if-width-eq0.false (omega arith) (omega arith) (omega arith) c.if-q-ne0.false c.if-q-ne0-2.false c.if-width-ge32.false c.if-q-ne0-3.true

-- src/width.rt:23:1
pub returns : goal.returns
returns c = fits-a _ _ c.if-width-eq0.false (omega arith) (omega arith) (omega arith) c.if-q-ne0.false c.if-q-ne0-2.false c.if-q-ne0-3.false c.power-2.ensures
