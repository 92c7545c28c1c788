use Rattle.recorded.specs.Fields.{line_at}
use Rattle.recorded.proofs.Places.{field_next, number_in_lem, field-first, line_equal}
use Rattle.recorded.proofs.line.line_at.Goals as goal

pub returns : goal.returns
unfolding line_at
returns c =
    let s = c.args.lines.now in
    let at = c.args.at in
    let f1 = field_next s at 0 (field-first s at) c.next_field-start.ensures in
    let f2 = field_next s at 1 f1 c.next_field-tree.ensures in
    let f3 = field_next s at 2 f2 c.next_field-draft.ensures in
    let f4 = field_next s at 3 f3 c.next_field-out.ensures in
    let f5 = field_next s at 4 f4 c.next_field-input.ensures in
    let f6 = field_next s at 5 f5 c.next_field.ensures in
    let f7 = field_next s at 6 f6 c.next_field-refusal.ensures in
    let f8 = field_next s at 7 f7 c.next_field-a.ensures in
    let f9 = field_next s at 8 f8 c.next_field-b.ensures in
    let f10 = field_next s at 9 f9 c.next_field-count.ensures in
    let f11 = field_next s at 10 f10 c.next_field-words.ensures in
    let f12 = field_next s at 11 f11 c.next_field-2.ensures in
    line_equal c.byte_at.ensures (number_in_lem s at 1 f1 c.decimal.ensures) (number_in_lem s at 2 f2 c.decimal-2.ensures) (number_in_lem s at 3 f3 c.decimal-3.ensures) (number_in_lem s at 4 f4 c.decimal-4.ensures) f5 (number_in_lem s at 7 f7 c.decimal-5.ensures) (number_in_lem s at 8 f8 c.decimal-6.ensures) (number_in_lem s at 9 f9 c.decimal-7.ensures) (number_in_lem s at 10 f10 c.decimal-8.ensures) f11 f12
