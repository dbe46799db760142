use Rattle.std.proofs.Common.{◌≡◌, ◌∙◌, ℕ, List, ap, subst, sym}
use Rattle.networks.specs.declared.verdicts.Judge.{Judge}
use Rattle.symmetry_reduction.specs.ReducedNetworks.{AreItsRooms, MayBeReduced}
use Rattle.symmetry_reduction.specs.declared.orders.Order.{Order}
use Rattle.rank_assignments.specs.Reflections.{AreReflections}
use Rattle.rank_assignments.specs.Assignments.{AreAssignments, alike, assigned_sums, assignment_network, assignment_plan}
use Rattle.rank_assignments.specs.declared.assigned_sums.AssignedSums.{AssignedSums}
use Rattle.rank_assignments.specs.declared.assigned_sums.AssignmentRooms.{AssignmentRooms}
use Rattle.rank_assignments.specs.declared.assignment.Assignment.{Assignment}
use Rattle.rank_assignments.proofs.ReflectionSteps.{are-reflections}
use Rattle.rank_assignments.proofs.AssignedFold.{treatments-housed, treatments-reduced}
use Rattle.rank_assignments.proofs.assigned_blocks.ordered_blocks.Goals as goal
use Rattle.rank_assignments.proofs.assigned_blocks.ordered_blocks.Goals.{After-new-stages}

-- the measure is of the assignments that were given
record Given (k : ℕ) (vs : List Assignment) (judge : Judge) (p : AssignmentRooms × AssignedSums) (s : List ℕ) : Type 0 where
  treatments : p.1.assignments.treatments ≡ k
  items : p.1.assignments.items.items ≡ vs
  judge_is : p.1.assignments.judge ≡ judge
  sizes : s ≡ alike k
  reflections : AreReflections k vs p.1.assignments.reflections.items

rooms-given : (k : ℕ) (vs : List Assignment) (judge : Judge) → AreAssignments k vs judge → (p : AssignmentRooms × AssignedSums) (s : List ℕ) → Given k vs judge p s → (j : ℕ) (us : List Assignment) → j ≡ k → us ≡ vs
    → AreItsRooms (assignment_plan j us) (assignment_plan p.0.assignments.treatments p.0.assignments.items.items) (assigned_sums p.1.assignments.treatments p.1.assignments.items.items p.1.assignments.reflections.items p.1.assignments.judge) s
rooms-given k vs judge a p s f j us e i =
    rw (f.sizes, f.treatments, f.items, f.judge_is, e, i)
    (treatments-housed k vs judge a p.1.assignments.reflections.items p.0.assignments.treatments p.0.assignments.items.items)

order-given : (k : ℕ) (vs : List Assignment) (judge : Judge) → AreAssignments k vs judge → (p : AssignmentRooms × AssignedSums) (s : List ℕ) → Given k vs judge p s
    → MayBeReduced s (assignment_network p.1.assignments.treatments p.1.assignments.items.items p.1.assignments.reflections.items p.1.assignments.judge) p.1.assignments.judge
order-given k vs judge a p s f = rw (f.sizes, f.treatments, f.items, f.judge_is) (treatments-reduced k vs judge a p.1.assignments.reflections.items f.reflections)

given : (c : After-new-stages) → Given c.args.treatments c.args.items.now c.args.judge c.new-stages.result c.in_ok-sizes.sizes.items
given c =
    let parts = c.new-stages.ensures.parts in
    record {
      treatments = ap (λ (p : AssignmentRooms × AssignedSums). p.1.assignments.treatments) parts ∙ c.in_ok-summed.ensures.treatments;
      items = ap (λ (p : AssignmentRooms × AssignedSums). p.1.assignments.items.items) parts ∙ c.in_ok-summed.ensures.items;
      judge_is = ap (λ (p : AssignmentRooms × AssignedSums). p.1.assignments.judge) parts ∙ c.in_ok-summed.ensures.judge;
      reflections = subst (λ (p : AssignmentRooms × AssignedSums). AreReflections c.args.treatments c.args.items.now p.1.assignments.reflections.items) (sym parts)
          (subst (AreReflections c.args.treatments c.args.items.now) (sym c.in_ok-summed.ensures.reflections) (are-reflections c.args.from c.args.treatments c.args.items.now));
      sizes = c.in_ok-sizes.ensures.items_if_clones_equal (λ y same. same);
    }

pub new-ordered-requires-clause-rooms : goal.new-ordered-requires-clause-rooms
new-ordered-requires-clause-rooms c =
    rooms-given c.args.treatments c.args.items.now c.args.judge c.requires c.new-stages.result c.in_ok-sizes.sizes.items (given (goal.at.new-ordered-requires-clause-rooms c).After-new-stages)
    c.in_ok-beside.beside.treatments c.in_ok-beside.beside.items.items c.in_ok-beside.ensures.treatments c.in_ok-beside.ensures.items

pub new-ordered-requires-clause-ordered : goal.new-ordered-requires-clause-ordered
new-ordered-requires-clause-ordered c =
    order-given c.args.treatments c.args.items.now c.args.judge c.requires c.new-stages.result c.in_ok-sizes.sizes.items (given (goal.at.new-ordered-requires-clause-ordered c).After-new-stages)

pub returns-clause-reflections : goal.returns-clause-reflections
returns-clause-reflections c =
    ap (λ (s : AssignmentRooms × AssignedSums × List ℕ × Order). s.1.assignments.reflections.items) c.new-ordered.ensures.parts
    ∙ ap (λ (p : AssignmentRooms × AssignedSums). p.1.assignments.reflections.items) c.new-stages.ensures.parts
    ∙ c.in_ok-summed.ensures.reflections

pub returns-clause-follows : goal.returns-clause-follows
returns-clause-follows c =
    let f = given (goal.at.returns-clause-follows c).After-new-stages in
    rw (c.new-ordered.ensures.parts) (rw (c.order_for.ensures, f.sizes, f.treatments, f.items, f.judge_is) at c.new-ordered.ensures.follows)

pub returns-clause-reached : goal.returns-clause-reached
returns-clause-reached c =
    let f = given (goal.at.returns-clause-reached c).After-new-stages in
    rw (c.new-ordered.ensures.parts) (rw (c.order_for.ensures, f.sizes, f.treatments, f.items, f.judge_is) at c.new-ordered.ensures.reached)
