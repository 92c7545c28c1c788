use mathlib.Core.Path.{refl, ap}
use Rattle.smtsorts.specs.SortNode.{open_text}
use Rattle.smtnames.proofs.Tells.{gone, gone-told, tells_as, tells-to}
use Rattle.smtsorts.proofs.sort_node.opened.Goals as goal

pub returns-in-Int : goal.returns-in-Int
returns-in-Int c = tells_as (ap (open_text _) c.in-Int.is) (tells-to c.bytes.ensures)

pub returns-in-Bool : goal.returns-in-Bool
returns-in-Bool c = tells_as (ap (open_text _) c.in-Bool.is) (tells-to c.bytes-in-Bool.ensures)

pub returns-in-Real : goal.returns-in-Real
returns-in-Real c = tells_as (ap (open_text _) c.in-Real.is) (tells-to c.bytes-in-Real.ensures)

pub returns-in-Str : goal.returns-in-Str
returns-in-Str c = tells_as (ap (open_text _) c.in-Str.is) (tells-to c.bytes-in-Str.ensures)

pub returns-in-BitVec : goal.returns-in-BitVec
returns-in-BitVec c = tells_as (ap (open_text _) c.in-BitVec.is) c.bit_vec.ensures

pub returns-in-Array : goal.returns-in-Array
returns-in-Array c = tells_as (ap (open_text _) c.in-Array.is) c.array.ensures

pub returns-in-Data : goal.returns-in-Data
returns-in-Data c = tells_as (ap (open_text _) c.in-Data.is) c.data.ensures

pub returns-in-Other : goal.returns-in-Other
returns-in-Other c = tells_as (ap (open_text _) c.in-Other.is) (gone-told (gone refl refl))
