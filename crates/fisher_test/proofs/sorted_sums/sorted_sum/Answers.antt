use Rattle.std.proofs.Common.{sym, ◌∙◌, ap}
use Rattle.weights.specs.declared.tails.Tail.TheVariants.{Two}
use Rattle.networks.specs.Completions.{extreme_weight, total_weight}
use Rattle.networks.proofs.Following.{extreme-is, whole-is}
use Rattle.room_network.specs.Meanings.{Meaning}
use Rattle.room_network.specs.RoomNetworks.{room_network}
use Rattle.sorted_tables.specs.SortedRooms.{sorted_weight}
use Rattle.fisher_test.specs.FisherExact.{fisher_test}
use Rattle.fisher_test.specs.SortedWeighing.{sorted_network}
use Rattle.fisher_test.proofs.sorted_sums.sorted_sum.Goals as goal

pub sum_of-requires-clause-same : goal.sum_of-requires-clause-same
sum_of-requires-clause-same c = c.in_ok-stages.ensures ∙ sym c.in_ok-last.ensures

pub sum_of-requires-clause-total : goal.sum_of-requires-clause-total
sum_of-requires-clause-total c =
    c.made-made.ensures.frame.total
    ∙ sym (whole-is (fisher_test c.args.table.now) Two (sorted_network c.args.table.now) c.facts.ensures.follows_sorted)
    ∙ ap (λ (m : Meaning). total_weight (room_network m sorted_weight) 0 (room_network m sorted_weight).first) (sym c.in_ok-last.ensures)

pub returns : goal.returns
returns c =
    c.in_ok-sum.ensures
    ∙ ap (λ (m : Meaning). extreme_weight (room_network m sorted_weight) Two 0 (room_network m sorted_weight).first) c.in_ok-last.ensures
    ∙ extreme-is (fisher_test c.args.table.now) Two (sorted_network c.args.table.now) c.facts.ensures.follows_sorted
