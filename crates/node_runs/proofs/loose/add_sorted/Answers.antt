use Rattle.std.proofs.Common.{ap, arith, ◌∙◌}
use Rattle.node_pool.specs.Nodes.{weighted}
use Rattle.node_runs.proofs.Aside.{sorted-sum, sorted-heavy}
use Rattle.node_runs.proofs.loose.add_sorted.Goals as goal

pub loop-place-init : goal.loop-place-init
loop-place-init g c =
    let moved = c.sort_unstable_by_key.ensures.permutation in
    record {
      within = omega arith;
      one = c.in_ok-begin_run.ensures.width ∙ c.requires.one;
      sums = λ f. omega (arith, ap (λ ns. weighted f ns) c.in_ok-begin_run.ensures.nodes, sorted-sum g.C.Count.number f _ _ moved);
      heavy = λ more old. (rw c.in_ok-begin_run.ensures.nodes old, sorted-heavy g.C.Count.number _ _ moved more);
    }

pub loop-place-preserved : goal.loop-place-preserved
loop-place-preserved g c =
    let i = c.loop-place.invariant in
    let within = rw c.deref.ensures.value at c.joined-lead.ensures.within in
    let joined = rw c.deref.ensures.value at c.joined-lead.ensures.joined in
    record {
      within = within;
      one = c.in_ok-add_one.ensures.width;
      sums = λ f. omega (arith, i.sums f, c.in_ok-add_one.ensures.grown.sums f, joined.sums f);
      heavy = λ more old.
          let before = i.heavy more old in
          let here = joined.heavy before.1 in
          (c.in_ok-add_one.ensures.grown.heavy here.0 before.0, here.1);
    }
