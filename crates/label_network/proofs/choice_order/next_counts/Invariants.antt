use Rattle.std.proofs.Common.{◌≡◌, ℕ, ◌≤◌, List, length, drop, None}
use Rattle.std.specs.List.{sum}
use Rattle.label_network.proofs.ChoiceSteps.{choice_after}
use Rattle.label_network.specs.Meanings.{sizes_in}
use Rattle.label_network.proofs.choice_order.next_counts.Given as goal

pub record Searched (sizes before counts : List ℕ) (i later : ℕ) : Type 0 where
  pub kept : counts ≡ before
  pub within : i ≤ length counts
  pub rest : later ≡ sum (drop i counts)
  pub none : choice_after later (drop i sizes) (drop i counts) ≡ None

abbrev pub invariant-loop-i : goal.invariant-loop-i
invariant-loop-i l = Searched (sizes_in l.sizes) l.fn.counts l.counts l.i l.later

abbrev pub decreases-loop-i : goal.decreases-loop-i
decreases-loop-i l = l.i
