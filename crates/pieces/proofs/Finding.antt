-- Where a sweep for one tail stands, it has found the open keys.
use Rattle.std.proofs.Common.{◌≡◌, ℕ, ◌+◌, ◌≤◌, true, ap, subst, arith}
use Rattle.weights.specs.declared.tails.Tail.{Tail}
use Rattle.weights.specs.declared.tails.Tails.{Tails}
use Rattle.weights.specs.declared.TheConstants.{MAX}
use Rattle.node_pool.specs.Nodes.{weighted}
use Rattle.stage_network.specs.declared.sweep.Sweep.{Sweep}
use Rattle.networks.specs.declared.tail_sums.Kept.TheVariants.{Open}
use Rattle.networks.specs.Asked.{asks}
use Rattle.networks.specs.Completions.{total_weight}
use Rattle.networks.specs.Network.{Network}
use Rattle.stage_network.specs.NodeSteps.{AllReached}
use Rattle.networks.specs.EachTail.{sum_for}
use Rattle.stage_network.specs.SweepSteps.{HasSwept, IsSweeping, first_course}
use Rattle.stage_network.proofs.Courses.{sweeping-nodes, swept-light}
use Rattle.pieces.specs.Cuts.{closed_sum}
use Rattle.pieces.proofs.Arriving.{cut-told, cut-closed, cut-members}
use Rattle.pieces.proofs.FoundKeys.{AreFound}

module _ {C : Type 0} (n : Network) (tails : Tails) (t : Tail) (own : asks tails t ≡ true) (alone : (u : Tail) → asks tails u ≡ true → u ≡ t) (width step_width limit : ℕ) (sweep : Sweep C) (s : IsSweeping n width step_width limit (first_course n (Open tails)) sweep) (at : ℕ) (h : at ≤ n.count) (stage : sweep.stage ≡ at) where
  gone : s.gone ≡ at
  gone = omega (arith, s.stands, stage)

  swept : HasSwept n (first_course n (Open tails)) at sweep.sums sweep.nodes.nodes
  swept = subst (λ m. HasSwept n (first_course n (Open tails)) m sweep.sums sweep.nodes.nodes) gone s.swept

  within : 0 + at ≤ n.count
  within = omega (arith, h)

  light : weighted (total_weight n at) sweep.nodes.nodes ≤ MAX
  light =
      let e : 0 + at ≡ at = omega arith in
      omega (arith, ap (λ g. weighted (total_weight n g) sweep.nodes.nodes) e, swept-light n s.lawful limit (first_course n (Open tails)) s.starts at sweep.sums sweep.nodes.nodes within swept t, s.starts.light.fits)

  pub found-of : AreFound n t at sweep.nodes.nodes
  found-of = record {
    within = h;
    reached = subst (λ g. AllReached n g sweep.nodes.nodes) stage (sweeping-nodes n width step_width limit (first_course n (Open tails)) sweep s);
    heavy = swept.heavy;
    distinct = swept.distinct;
    fits = light;
    told = cut-told n tails t own alone s.lawful limit s.starts at h sweep.sums sweep.nodes.nodes swept;
    members = cut-members n tails t own alone s.lawful limit s.starts at h sweep.sums sweep.nodes.nodes swept;
  }

  pub closed-of : (sum_for sweep.sums t).sum ≡ closed_sum n t at
  closed-of = cut-closed n tails t own alone s.lawful limit s.starts at h sweep.sums sweep.nodes.nodes swept
