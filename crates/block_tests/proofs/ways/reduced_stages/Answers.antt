use Rattle.std.proofs.Common.{◌≡◌, ◌∙◌, ◌⊎◌, ℕ, List, ap, refl, subst, sym}
use Rattle.weights.specs.declared.tails.Tail.{Tail}
use Rattle.weights.specs.declared.tails.Tail.TheVariants.{Greater}
use Rattle.networks.specs.Follows.{Follows}
use Rattle.networks.specs.Judged.{judge_of}
use Rattle.rank_assignments.specs.Reflections.{AreReflections}
use Rattle.rank_assignments.specs.Assignments.{alike, all_assignments, assigned_network, assignment_network, order_for}
use Rattle.rank_assignments.proofs.ReflectionSteps.{are-reflections}
use Rattle.rank_assignments.proofs.PackedAssignments.{assigned-adds, packed-sums}
use Rattle.block_tests.specs.BlockTests.{BlockTests, block_counts, block_test}
use Rattle.block_tests.specs.EvenBlocks.{block_reflections, reflected_from}
use Rattle.block_tests.specs.PreparedSteps.{AreFitting}
use Rattle.block_tests.specs.declared.kinds.BlockKind.TheVariants.{Cochran, Friedman}
use Rattle.block_tests.proofs.AssignedOnward.{ordered-go_on, sums-long}
use Rattle.block_tests.proofs.AssignmentFollows.{tests-follow, tests-assignments}
use Rattle.block_tests.proofs.ways.reduced_stages.Goals as goal
use Rattle.block_tests.proofs.ways.reduced_stages.Goals.{In_ok-stages}

pub ordered_blocks-requires : goal.ordered_blocks-requires
ordered_blocks-requires c =
    rw (c.treatments.ensures, c.as_slice.ensures.value ∙ c.in_ok-items.ensures ∙ ap all_assignments c.blocks-blocks.ensures.blocks, c.requires.judge)
    (tests-assignments c.args.test.now c.blocks-blocks.ensures.fitting c.requires.kind Greater)

-- reflections that are made of a test's blocks
record AreFor (tests : BlockTests) (reflections : List ℕ) : Type 0 where
  reflections_are : AreReflections tests.blocks.treatments (all_assignments (block_counts tests)) reflections
  follows : (t : Tail) → Follows (block_test tests) t (assignment_network tests.blocks.treatments (all_assignments (block_counts tests)) reflections (judge_of (block_test tests)))

made-for : (tests : BlockTests) → AreFitting tests → (tests.kind ≡ Friedman) ⊎ (tests.kind ≡ Cochran) → (cut : ℕ) (reflections : List ℕ) → reflections ≡ block_reflections tests.blocks.treatments (block_counts tests) cut → AreFor tests reflections
made-for tests f kind cut reflections e =
    subst (AreFor tests) (sym e) (record {
      reflections_are = are-reflections (reflected_from (block_counts tests) cut) tests.blocks.treatments (all_assignments (block_counts tests));
      follows = λ t. tests-follow tests f kind t cut;
    })

-- the assignments are those of the test's blocks
items-are : (c : In_ok-stages) → c.as_slice.result.now ≡ all_assignments (block_counts c.args.test.now)
items-are c = c.as_slice.ensures.value ∙ c.in_ok-items.ensures ∙ ap all_assignments c.blocks-blocks.ensures.blocks

-- the reflections are made for the test from a stage on
reflections-are : (c : In_ok-stages) → c.in_ok-stages.stages.1.assignments.reflections.items ≡ block_reflections c.args.test.now.blocks.treatments (block_counts c.args.test.now) c.args.stage
reflections-are c = c.in_ok-stages.ensures.reflections ∙ rw (c.treatments.ensures, items-are c, c.in_ok-from.ensures ∙ ap (λ bs. reflected_from bs c.args.stage) c.blocks-blocks.ensures.blocks) refl

-- what is made for the test here
made : (c : In_ok-stages) → AreFor c.args.test.now c.in_ok-stages.stages.1.assignments.reflections.items
made c = made-for c.args.test.now c.blocks-blocks.ensures.fitting c.requires.kind c.args.stage c.in_ok-stages.stages.1.assignments.reflections.items (reflections-are c)

-- it follows the test with its treatments in order
in-order : (c : In_ok-stages) (t : Tail)
    → Follows (block_test c.args.test.now) t (assigned_network c.args.test.now.blocks.treatments (all_assignments (block_counts c.args.test.now)) c.in_ok-stages.stages.1.assignments.reflections.items (judge_of (block_test c.args.test.now)))
in-order c t =
    let follows = rw (c.treatments.ensures, items-are c, c.requires.judge) at (c.in_ok-stages.ensures.follows (block_test c.args.test.now) t c.requires.judge) in
    follows ((made c).follows t)

pub returns-clause-follows : goal.returns-clause-follows
returns-clause-follows c t =
    let here = (goal.at.returns-clause-follows c).In_ok-stages in
    rw (c.in_ok-stages.ensures.order ∙ ap order_for c.treatments.ensures, c.in_ok-stages.ensures.sizes ∙ ap alike c.treatments.ensures, c.in_ok-stages.ensures.treatments ∙ c.treatments.ensures, c.in_ok-stages.ensures.items ∙ items-are here, c.in_ok-stages.ensures.judge ∙ c.requires.judge)
    (in-order here t)

pub returns-clause-packs : goal.returns-clause-packs
returns-clause-packs c room =
    let here = (goal.at.returns-clause-packs c).In_ok-stages in
    let k : ℕ = c.args.test.now.blocks.treatments in
    rw (c.in_ok-stages.ensures.order ∙ ap order_for c.treatments.ensures, c.in_ok-stages.ensures.sizes ∙ ap alike c.treatments.ensures, c.in_ok-stages.ensures.treatments ∙ c.treatments.ensures, c.in_ok-stages.ensures.items ∙ items-are here, c.in_ok-stages.ensures.judge ∙ c.requires.judge)
    (packed-sums k (all_assignments (block_counts c.args.test.now)) (judge_of (block_test c.args.test.now)) (tests-assignments c.args.test.now c.blocks-blocks.ensures.fitting c.requires.kind Greater) c.in_ok-stages.stages.1.assignments.reflections.items (made here).reflections_are c.requires.some room
    (record { judge = judge_of (block_test c.args.test.now); intervals = (in-order here Greater).intervals })
    (rw (c.treatments.ensures, items-are here, c.requires.judge) at c.in_ok-stages.ensures.reached))

pub returns-clause-adds : goal.returns-clause-adds
returns-clause-adds c =
    let here = (goal.at.returns-clause-adds c).In_ok-stages in
    rw (c.in_ok-stages.ensures.order ∙ ap order_for c.treatments.ensures, c.in_ok-stages.ensures.treatments ∙ c.treatments.ensures, c.in_ok-stages.ensures.items ∙ items-are here, c.in_ok-stages.ensures.judge ∙ c.requires.judge)
    (assigned-adds c.args.test.now.blocks.treatments (all_assignments (block_counts c.args.test.now)) (judge_of (block_test c.args.test.now)) (tests-assignments c.args.test.now c.blocks-blocks.ensures.fitting c.requires.kind Greater) c.in_ok-stages.stages.1.assignments.reflections.items (made here).reflections_are)

pub reflected_from-requires : goal.reflected_from-requires
reflected_from-requires c = rw (c.blocks-blocks.ensures.blocks) c.requires.within

pub returns-clause-goes_on : goal.returns-clause-goes_on
returns-clause-goes_on c =
    let here = (goal.at.returns-clause-goes_on c).In_ok-stages in
    rw (c.in_ok-stages.ensures.order ∙ ap order_for c.treatments.ensures, c.in_ok-stages.ensures.sizes ∙ ap alike c.treatments.ensures, c.in_ok-stages.ensures.treatments ∙ c.treatments.ensures, c.in_ok-stages.ensures.items ∙ items-are here, c.in_ok-stages.ensures.judge ∙ c.requires.judge, reflections-are here)
    (ordered-go_on c.args.test.now c.blocks-blocks.ensures.fitting c.requires.kind Greater c.args.stage c.requires.within)

pub returns-clause-long : goal.returns-clause-long
returns-clause-long c key r =
    rw (c.in_ok-stages.ensures.sizes ∙ ap alike c.treatments.ensures, c.in_ok-stages.ensures.treatments ∙ c.treatments.ensures)
    (sums-long c.args.test.now c.blocks-blocks.ensures.fitting c.requires.kind c.args.stage key r)
