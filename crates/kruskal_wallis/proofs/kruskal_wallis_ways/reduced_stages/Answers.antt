use Rattle.std.proofs.Common.{◌≡◌, ◌∙◌, ℕ, ◌+◌, List, ap, arith, length, refl, subst, sym}
use Rattle.sample_reader.specs.Groups.{group_sizes}
use Rattle.networks.specs.Follows.{Follows}
use Rattle.networks.specs.GoesOn.{GoesOnFor}
use Rattle.label_network.specs.LabelNetwork.{IsMargin, label_network, over_rooms}
use Rattle.label_network.specs.Meanings.{Meaning}
use Rattle.label_network.specs.declared.rooms.LabelRooms.{LabelRooms}
use Rattle.symmetry_reduction.specs.OrderedGroups.{groups_in_order}
use Rattle.symmetry_reduction.specs.ReducedNetworks.{MayBeReduced, reduced_network}
use Rattle.symmetry_reduction.specs.declared.orders.Order.{Order}
use Rattle.kruskal_wallis.specs.KruskalWallis.{ScoredGroups, kruskal_wallis_test, size_factors}
use Rattle.kruskal_wallis.specs.SumMeanings.{AreSums, sums_meaning}
use Rattle.kruskal_wallis.specs.RankSumSteps.{AreFitting}
use Rattle.kruskal_wallis.specs.declared.rank_sums.RankSums.{RankSums}
use Rattle.kruskal_wallis.proofs.EqualKeys.{groups-reduced}
use Rattle.kruskal_wallis.proofs.FittingKruskalWallis.{margin}
use Rattle.kruskal_wallis.proofs.kruskal_wallis_ways.reduced_stages.Goals as goal

module _ (samples : ScoredGroups) (m : RankSums) (f : AreFitting samples) (a : AreSums samples m) where
  rows-are : m.rows.items ≡ group_sizes samples.groups
  rows-are = ap (λ (x : Meaning). x.rows) a.meaning

  is-margin : (columns rows : List ℕ) → columns ≡ m.later.columns.items → rows ≡ m.rows.items → IsMargin (over_rooms (sums_meaning m)) columns rows
  is-margin columns rows c r =
      let columns-are = ap (λ (x : Meaning). x.columns) a.meaning in
      margin samples f (sums_meaning m) columns rows columns-are rows-are (omega (arith, ap length rows-are, f.few_rows)) (c ∙ columns-are) (r ∙ rows-are)

  reduced : (sizes : List ℕ) → sizes ≡ group_sizes samples.groups → MayBeReduced sizes (label_network (sums_meaning m)) m.judge
  reduced sizes s = groups-reduced m sizes (s ∙ sym rows-are) (a.factors ∙ ap size_factors (sym s))

pub new-requires : goal.new-requires
new-requires c =
    let made = c.made-made.ensures in
    let sums = c.in_ok-stages.ensures.sums in
    (is-margin c.args.problem.now c.in_ok-stages.stages.1 made.fitting sums c.as_slice-columns.result.now c.as_slice-groups.result.now
    (c.as_slice-columns.ensures ∙ made.column_sizes ∙ sym (ap (λ (x : Meaning). x.columns) sums.meaning))
    (c.as_slice-groups.ensures ∙ made.sizes ∙ sym (ap (λ (x : Meaning). x.rows) sums.meaning))).labelled

pub new-ordered-requires-clause-rooms : goal.new-ordered-requires-clause-rooms
new-ordered-requires-clause-rooms c =
    let made = c.made-made.ensures in
    let sums = c.in_ok-stages.ensures.sums in
    let rows : c.in_ok-rooms.rooms.rows.items ≡ c.in_ok-stages.stages.1.rows.items = c.in_ok-rooms.ensures.rows ∙ c.as_slice-groups.ensures ∙ made.sizes ∙ sym (ap (λ (x : Meaning). x.rows) sums.meaning) in
    let margin_is = is-margin c.args.problem.now c.in_ok-stages.stages.1 made.fitting sums c.in_ok-rooms.rooms.columns.items c.in_ok-rooms.rooms.rows.items
    (c.in_ok-rooms.ensures.columns ∙ c.as_slice-columns.ensures ∙ made.column_sizes ∙ sym (ap (λ (x : Meaning). x.columns) sums.meaning)) rows in
    record {
      weights = refl;
      housed = record {
        floor_is = margin_is.floor_is;
        some = omega (arith, margin_is.some, ap length rows);
        few = omega (arith, margin_is.wide, ap length rows);
      };
      width = ap length (ap (λ (x : Meaning). x.rows) sums.meaning ∙ sym (c.in_ok-sizes.ensures.items ∙ c.as_slice-groups.ensures ∙ made.sizes));
      small_steps = omega (arith, margin_is.wide, ap length rows);
    }

pub new-ordered-requires-clause-ordered : goal.new-ordered-requires-clause-ordered
new-ordered-requires-clause-ordered c =
    let made = c.made-made.ensures in
    reduced c.args.problem.now c.in_ok-stages.stages.1 made.fitting c.in_ok-stages.ensures.sums c.in_ok-sizes.sizes.items (c.in_ok-sizes.ensures.items ∙ c.as_slice-groups.ensures ∙ made.sizes)

pub returns-clause-follows : goal.returns-clause-follows
returns-clause-follows c t =
    let samples : ScoredGroups = c.args.problem.now in
    let sums = c.in_ok-stages.ensures.sums in
    rw c.new-ordered.ensures.parts
    (c.new-ordered.ensures.follows (kruskal_wallis_test samples) t
    (ap (λ (m : Meaning). m.judge) sums.meaning)
    (subst (λ m. Follows (kruskal_wallis_test samples) t (label_network m)) (sym sums.meaning) (c.written_stages.ensures.follows t)))

-- a network of a test's groups that goes on for the written one
abbrev GoesOnWith : Meaning → LabelRooms × RankSums × List ℕ × Order → Type 0
GoesOnWith m s = GoesOnFor (label_network m) (reduced_network s.3 s.2 (label_network (sums_meaning s.1))) (λ g key. length key ≡ length s.2 + length s.2) (λ g key. groups_in_order s.3 s.2 key)

pub returns-clause-goes_on : goal.returns-clause-goes_on
returns-clause-goes_on c =
    let made = c.made-made.ensures in
    let samples : ScoredGroups = c.args.problem.now in
    let sums = c.in_ok-stages.ensures.sums in
    let stages = c.in_ok-stages.stages in
    let groups = c.in_ok-sizes.sizes.items in
    let own : groups ≡ group_sizes samples.groups = c.in_ok-sizes.ensures.items ∙ c.as_slice-groups.ensures ∙ made.sizes in
    subst (λ (m : Meaning). GoesOnWith m c.new-ordered.result) sums.meaning
    (subst (GoesOnWith (sums_meaning stages.1)) (sym c.new-ordered.ensures.parts) (record {
      goes_on = c.new-ordered.ensures.goes_on refl;
      taken = λ g key r. c.stages-count.ensures.lawful.long g key r ∙ (reduced samples stages.1 made.fitting sums groups own).wide;
    }))
