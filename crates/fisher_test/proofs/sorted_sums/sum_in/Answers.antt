use Rattle.std.proofs.Common.{◌≡◌, ◌+◌, ◌≤◌, ap, sym, subst, ◌∙◌, arith}
use Rattle.weights.specs.declared.tails.Tail.TheVariants.{Two}
use Rattle.node_pool.specs.Nodes.{weighted}
use Rattle.networks.specs.Completions.{extreme_weight, total_weight}
use Rattle.networks.specs.EachTail.{sum_for}
use Rattle.fisher_test.specs.LastSteps.{IsFirstHalf}
use Rattle.room_network.specs.Meanings.{Meaning}
use Rattle.room_network.specs.RoomNetworks.{room_network}
use Rattle.sorted_tables.specs.SortedRooms.{sorted_weight}
use Rattle.fisher_test.proofs.sorted_sums.sum_in.Goals as goal

pub overflow_sub-before : goal.overflow_sub-before
overflow_sub-before g c = omega (arith, c.stages-before.ensures.count, ap (λ (m : Meaning). m.floor.count) c.requires.same, c.args.last.now.right.two)

pub half_to-requires-clause-last : goal.half_to-requires-clause-last
half_to-requires-clause-last g c = omega (arith, c.stages-before.ensures.count)

pub half_to-requires-clause-limit : goal.half_to-requires-clause-limit
half_to-requires-clause-limit g c =
    subst (λ (m : Meaning). total_weight (room_network m sorted_weight) 0 (room_network m sorted_weight).first ≤ g.C.Count.LIMIT) (sym c.requires.same) c.requires.limit

pub sum-requires : goal.sum-requires
sum-requires g c =
    let half = c.in_ok-half.half in
    record {
      half = subst (λ (m : Meaning). IsFirstHalf (room_network m sorted_weight) m.floor.width g.C.Count.LIMIT half.stage half.nodes half.closed) c.requires.same c.in_ok-half.ensures.meeting;
      left = omega (arith, c.in_ok-half.ensures.stage, c.stages-before.ensures.count, ap (λ (m : Meaning). m.floor.count) c.requires.same, c.args.last.now.right.two);
    }

pub returns : goal.returns
returns g c =
    let half = c.in_ok-half.half in
    c.in_ok-sum.ensures
    ∙ subst (λ (m : Meaning). (sum_for half.closed Two).sum + weighted (extreme_weight (room_network m sorted_weight) Two half.stage) half.nodes.nodes ≡ extreme_weight (room_network m sorted_weight) Two 0 (room_network m sorted_weight).first) c.requires.same (c.in_ok-half.ensures.whole Two c.only.ensures.asked)
