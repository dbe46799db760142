use Rattle.stage_network.proofs.Laying.{AreLaid}
use Rattle.stage_network.proofs.flat_keys.laid_flat.Given as goal

-- the entries before this one are laid flat
abbrev pub invariant-loop-i : goal.invariant-loop-i
invariant-loop-i l = AreLaid l.width l.entries l.i l.keys.items l.weights.items
