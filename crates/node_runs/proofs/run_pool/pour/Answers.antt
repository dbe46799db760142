use Rattle.std.proofs.Common.{◌∙◌, ℕ, arith}
use Rattle.node_runs.proofs.Passing.{next-sum, next-fits, next-heavy}
use Rattle.node_runs.proofs.run_pool.pour.Goals as goal

pub put-requires-clause-fits : goal.put-requires-clause-fits
put-requires-clause-fits g c =
    let low = rw c.len-i-end.ensures.count at c.loop-i-test.true in
    omega (arith, c.loop-i.invariant.poured.sums (λ k. 1), next-fits c.args.from.now c.loop-i.i c.key.result.now (g.C.Count.number c.weight.result) low c.key.ensures.key c.weight.ensures, c.requires.fits)

pub loop-i-preserved : goal.loop-i-preserved
loop-i-preserved g c =
    let low = rw c.len-i-end.ensures.count at c.loop-i-test.true in
    let w : ℕ = g.C.Count.number c.weight.result in
    record {
      wide = c.put.ensures.width ∙ c.loop-i.invariant.wide;
      poured = record {
        sums = λ f. omega (arith, c.in_ok-put.ensures.grown.sums f, c.loop-i.invariant.poured.sums f, next-sum c.args.from.now c.loop-i.i c.key.result.now w low c.key.ensures.key c.weight.ensures f);
        heavy = λ more old.
            let here = next-heavy c.args.from.now c.loop-i.i c.key.result.now w low c.key.ensures.key c.weight.ensures more in
            c.in_ok-put.ensures.grown.heavy here.1 (c.loop-i.invariant.poured.heavy here.0 old);
      };
    }
