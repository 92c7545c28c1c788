use Rattle.sorts.proofs.sort_words.put_row.Goals as goal

pub returns-in-Function : goal.returns-in-Function
returns-in-Function c = rw c.in-Function.is c.put_one.ensures

pub returns-in-BitVec : goal.returns-in-BitVec
returns-in-BitVec c = rw c.in-BitVec.is c.put_one-in-BitVec.ensures

pub returns-in-Set : goal.returns-in-Set
returns-in-Set c = rw c.in-Set.is c.put_ctor.ensures

pub returns-in-Map : goal.returns-in-Map
returns-in-Map c = rw c.in-Map.is c.put_ctor-in-Map.ensures

pub returns-in-Data : goal.returns-in-Data
returns-in-Data c = rw c.in-Data.is c.put_data.ensures
