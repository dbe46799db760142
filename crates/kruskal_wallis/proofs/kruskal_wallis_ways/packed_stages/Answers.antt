use Rattle.std.proofs.Common.{◌≡◌, ℕ, ◌∙◌, ◌*◌, ◌/◌, ◌^◌, ◌≤◌, List, ap, arith, get_or, length, refl, subst, sym}
use Rattle.networks.specs.Network.{Network}
use Rattle.networks.specs.GoesOn.{GoesOnFor}
use Rattle.networks.proofs.GoingOn.{goes_on-then}
use Rattle.networks.proofs.Mapping.{within}
use Rattle.label_network.specs.declared.rooms.LabelRooms.{LabelRooms}
use Rattle.symmetry_reduction.specs.OrderedGroups.{groups_in_order}
use Rattle.symmetry_reduction.specs.declared.orders.Order.{Order}
use Rattle.symmetry_reduction.specs.declared.orders.Order.TheVariants.{Sums}
use Rattle.packed_keys.specs.PackedGroups.{AreOrderable}
use Rattle.packed_keys.specs.PackedKeys.{packed_key, packed_network}
use Rattle.kruskal_wallis.specs.declared.centred_sums.CentredSums.{CentredSums}
use Rattle.kruskal_wallis.specs.RankSums.{unpacked_meaning}
use Rattle.weights.specs.declared.tails.Tail.{Tail}
use Rattle.weights.specs.declared.tails.Tail.TheVariants.{Greater}
use Rattle.networks.specs.Follows.{Follows}
use Rattle.label_network.specs.LabelNetwork.{label_network}
use Rattle.symmetry_reduction.specs.ReducedNetworks.{reduced_network}
use Rattle.label_network.specs.Meanings.{Meaning}
use Rattle.scores.specs.PlaceScores.{common_multiple}
use Rattle.sample_reader.specs.Groups.{group_sizes}
use Rattle.kruskal_wallis.specs.KruskalWallis.{ScoredGroups, kruskal_wallis_test}
use Rattle.kruskal_wallis.specs.SumMeanings.{AreSums, seen_meaning}
use Rattle.kruskal_wallis.proofs.FittingCentred.{multiple-is, multiple-some, seen-adds, seen-follows, seen-goes_on, seen-ordered, seen-packed, size-parts, some-scores, square-within}
use Rattle.kruskal_wallis.proofs.FittingKruskalWallis.{column-total, multiple-within}
use Rattle.kruskal_wallis.proofs.kruskal_wallis_ways.packed_stages.Goals as goal
use Rattle.kruskal_wallis.proofs.kruskal_wallis_ways.packed_stages.Goals.{After-new-ordered}

pub overflow_mul-multiple : goal.overflow_mul-multiple
overflow_mul-multiple c =
    let made = c.made-made.ensures in
    let samples : ScoredGroups = c.args.problem.now in
    let multiple : c.index.result.now * get_or c.as_slice-groups.result.now 0 0 ≡ common_multiple (group_sizes samples.groups) = multiple-is samples made.fitting c.index.result.now c.index.result.now c.as_slice-groups.result.now (c.index.ensures ∙ ap (λ fs. get_or fs 0 c.index.result.now) made.factors) (c.as_slice-groups.ensures ∙ made.sizes) in
    rw multiple (omega (arith, multiple-within samples, made.fitting.bound_fits))

pub new-seen-requires-clause-any : goal.new-seen-requires-clause-any
new-seen-requires-clause-any c = rw (c.as_slice.ensures ∙ c.made-made.ensures.scores) (some-scores c.args.problem.now c.made-made.ensures.fitting)

pub new-seen-requires-clause-some : goal.new-seen-requires-clause-some
new-seen-requires-clause-some c =
    let made = c.made-made.ensures in
    let samples : ScoredGroups = c.args.problem.now in
    let multiple : c.index.result.now * get_or c.as_slice-groups.result.now 0 0 ≡ common_multiple (group_sizes samples.groups) = multiple-is samples made.fitting c.index.result.now c.index.result.now c.as_slice-groups.result.now (c.index.ensures ∙ ap (λ fs. get_or fs 0 c.index.result.now) made.factors) (c.as_slice-groups.ensures ∙ made.sizes) in
    rw multiple (multiple-some samples made.fitting)

pub new-seen-requires-clause-parts : goal.new-seen-requires-clause-parts
new-seen-requires-clause-parts c =
    let made = c.made-made.ensures in
    let samples : ScoredGroups = c.args.problem.now in
    let multiple : c.index.result.now * get_or c.as_slice-groups.result.now 0 0 ≡ common_multiple (group_sizes samples.groups) = multiple-is samples made.fitting c.index.result.now c.index.result.now c.as_slice-groups.result.now (c.index.ensures ∙ ap (λ fs. get_or fs 0 c.index.result.now) made.factors) (c.as_slice-groups.ensures ∙ made.sizes) in
    rw (multiple, c.in_ok-sums.ensures.factors, ap (λ (m : Meaning). m.rows) c.in_ok-sums.ensures.meaning) (size-parts samples made.fitting)

pub new-seen-requires-clause-all : goal.new-seen-requires-clause-all
new-seen-requires-clause-all c =
    let made = c.made-made.ensures in
    rw (c.in_ok-sums.ensures.scores, ap (λ (m : Meaning). m.columns) c.in_ok-sums.ensures.meaning) (made.sum ∙ sym (column-total c.args.problem.now made.fitting))

pub new-seen-requires-clause-bound : goal.new-seen-requires-clause-bound
new-seen-requires-clause-bound c =
    let made = c.made-made.ensures in
    let samples : ScoredGroups = c.args.problem.now in
    let multiple : c.index.result.now * get_or c.as_slice-groups.result.now 0 0 ≡ common_multiple (group_sizes samples.groups) = multiple-is samples made.fitting c.index.result.now c.index.result.now c.as_slice-groups.result.now (c.index.ensures ∙ ap (λ fs. get_or fs 0 c.index.result.now) made.factors) (c.as_slice-groups.ensures ∙ made.sizes) in
    rw (multiple, made.sum, c.in_ok-sums.ensures.bound) (square-within samples made.fitting)

pub new-ordered-requires-clause-ordered : goal.new-ordered-requires-clause-ordered
new-ordered-requires-clause-ordered c =
    let made = c.made-made.ensures in
    let sums : AreSums c.args.problem.now c.in_ok-stages.stages.1.sums = rw (c.in_ok-stages.ensures.measure, c.new-seen.ensures) c.in_ok-sums.ensures in
    seen-ordered c.args.problem.now made.fitting c.in_ok-stages.stages.1 sums c.in_ok-sizes.sizes.items (c.in_ok-sizes.ensures.items ∙ c.as_slice-groups.ensures ∙ made.sizes)

-- the network with its groups in order follows the test
in-order : (c : After-new-ordered) (t : Tail) → Follows (kruskal_wallis_test c.args.problem.now) t (reduced_network Sums c.in_ok-sizes.sizes.items (label_network (seen_meaning c.in_ok-stages.stages.1)))
in-order c t =
    let made = c.made-made.ensures in
    let sums : AreSums c.args.problem.now c.in_ok-stages.stages.1.sums = rw (c.in_ok-stages.ensures.measure, c.new-seen.ensures) c.in_ok-sums.ensures in
    c.new-ordered.ensures.follows (kruskal_wallis_test c.args.problem.now) t (ap (λ (m : Meaning). m.judge) sums.meaning)
    (seen-follows c.args.problem.now made.fitting c.in_ok-stages.stages.1 sums t)

pub new-packed-requires-clause-packed : goal.new-packed-requires-clause-packed
new-packed-requires-clause-packed c =
    let made = c.made-made.ensures in
    let sums : AreSums c.args.problem.now c.in_ok-stages.stages.1.sums = rw (c.in_ok-stages.ensures.measure, c.new-seen.ensures) c.in_ok-sums.ensures in
    let sizes = c.in_ok-sizes.ensures.items ∙ c.as_slice-groups.ensures ∙ made.sizes in
    rw c.new-ordered.ensures.parts
    (seen-packed c.args.problem.now made.fitting c.in_ok-stages.stages.1 sums c.in_ok-sizes.sizes.items sizes Sums c.bits_for.result (c.bits_for.ensures ∙ ap (λ ns. 127 / length ns) (sym c.in_ok-sizes.ensures.items)) c.requires.small
    Greater (in-order (goal.at.new-packed-requires-clause-packed c).After-new-ordered Greater) c.new-ordered.ensures.reached)

pub new-packed-requires-clause-adds : goal.new-packed-requires-clause-adds
new-packed-requires-clause-adds c =
    let made = c.made-made.ensures in
    let sums : AreSums c.args.problem.now c.in_ok-stages.stages.1.sums = rw (c.in_ok-stages.ensures.measure, c.new-seen.ensures) c.in_ok-sums.ensures in
    rw c.new-ordered.ensures.parts (seen-adds c.args.problem.now made.fitting c.in_ok-stages.stages.1 sums Sums)

pub returns-clause-follows : goal.returns-clause-follows
returns-clause-follows c t =
    let follows = rw c.new-ordered.ensures.parts at (c.new-packed.ensures.follows (kruskal_wallis_test c.args.problem.now) t) in
    rw (c.new-packed.ensures.parts, c.new-ordered.ensures.parts) (follows (in-order (goal.at.returns-clause-follows c).After-new-ordered t))

-- a network of a test's groups that goes on for the written one
abbrev GoesOnWith : ScoredGroups → (LabelRooms × CentredSums × List ℕ × Order) × ℕ → Type 0
GoesOnWith samples s =
    let k : ℕ = length s.0.1.sums.rows.items in
    let seen : Network = label_network (seen_meaning s.0.1) in
    GoesOnFor (label_network (unpacked_meaning samples)) (packed_network k s.1 (reduced_network s.0.3 s.0.2 seen)) (λ g key. AreOrderable s.0.3 s.0.2 seen key) (λ g key. packed_key k (2 ^ s.1) (groups_in_order s.0.3 s.0.2 key))

pub returns-clause-goes_on : goal.returns-clause-goes_on
returns-clause-goes_on c =
    let made = c.made-made.ensures in
    let samples : ScoredGroups = c.args.problem.now in
    let stages = c.in_ok-stages.stages in
    let groups = c.in_ok-sizes.sizes.items in
    let bits : ℕ = c.bits_for.result in
    let sums : AreSums samples stages.1.sums = rw (c.in_ok-stages.ensures.measure, c.new-seen.ensures) c.in_ok-sums.ensures in
    let own : groups ≡ group_sizes samples.groups = c.in_ok-sizes.ensures.items ∙ c.as_slice-groups.ensures ∙ made.sizes in
    let n : Network = label_network (unpacked_meaning samples) in
    let seen = seen-goes_on samples made.fitting stages.1 sums in
    let ordered = c.new-ordered.ensures.goes_on refl in
    let packed = rw c.new-ordered.ensures.parts at c.new-packed.ensures.goes_on in
    let parts = c.new-packed.ensures.parts ∙ ap (λ o. (o, bits)) c.new-ordered.ensures.parts in
    subst (GoesOnWith samples) (sym parts) (record {
      goes_on = λ g h. goes_on-then (goes_on-then (seen g h) (ordered g (seen g h).within)) (packed g (ordered g (seen g h).within).within);
      taken = λ g key r.
          let h : g ≤ n.count = within n g key r in
          let there = (seen g h).reached key r in
          record {
            long = c.stages-count.ensures.lawful.long g key there ∙ (seen-ordered samples made.fitting stages.1 sums groups own).wide;
            stage = g;
            reached = (ordered g (seen g h).within).reached key there;
          };
    })
