use Rattle.std.proofs.Common.{◌≡◌, ℤ, map, take}
use Rattle.midranks.specs.declared.ties.Tie.{Tie}
use Rattle.scores.proofs.spread.spread.Given as goal

abbrev pub invariant-loop-value : goal.invariant-loop-value
invariant-loop-value l = (f : ℤ → ℤ) → l.scores ≡ map (λ (t : Tie). f t.value) l.ties → l.list ≡ map f (take l.value-index l.values)
