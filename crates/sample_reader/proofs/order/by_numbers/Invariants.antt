use Rattle.std.proofs.Common.{◌≡◌, map, take, get_or}
use Rattle.sample_reader.proofs.order.by_numbers.Given as goal

abbrev pub invariant-loop-member : goal.invariant-loop-member
invariant-loop-member l = l.new ≡ map (λ member. get_or l.numbers member 0) (take l.member-index l.members)
