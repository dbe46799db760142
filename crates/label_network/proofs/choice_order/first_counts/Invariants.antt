use Rattle.std.proofs.Common.{◌≡◌, ℕ, ◌≤◌, List, ◌++◌, length, take, drop}
use Rattle.std.specs.List.{sum}
use Rattle.label_network.specs.LabelSteps.{least}
use Rattle.label_network.specs.Meanings.{sizes_in}
use Rattle.label_network.proofs.choice_order.first_counts.Given as goal

pub record Filled (total : ℕ) (sizes counts : List ℕ) (i later left : ℕ) : Type 0 where
  pub long : length counts ≡ length sizes
  pub rest : later ≡ sum (drop i sizes)
  pub within : left ≤ later
  pub same : take i counts ++ least left (drop i sizes) ≡ least total sizes

abbrev pub invariant-loop-i : goal.invariant-loop-i
invariant-loop-i l = Filled l.total (sizes_in l.sizes) l.counts l.i l.later l.left
