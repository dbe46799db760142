use Rattle.std.proofs.Common.{◌≡◌, ◌≤◌, Some, drop, length, take}
use Rattle.std.specs.List.{slice_split}
use Rattle.number_text.specs.ListTexts.{is_comma, items_of}
use Rattle.number_text.proofs.list.read_list.Given as goal

abbrev pub invariant-loop-part : goal.invariant-loop-part
invariant-loop-part l = record {
  can_next : (goal.iterator-loop-part).can_next l.part-iterator;
  is_finite : (goal.iterator-loop-part).is_finite l.part-iterator;
  counted : l.count ≡ length l.yielded;
  room : l.count ≤ length l.out;
  items : items_of l.low l.high (take l.count (slice_split is_comma l.text)) ≡ Some (take l.count l.out);
  rest : drop l.count l.out ≡ drop l.count l.fn.out;
}
