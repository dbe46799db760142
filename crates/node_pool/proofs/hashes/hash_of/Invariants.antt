use Rattle.std.proofs.Common.{◌≡◌, take, fold}
use Rattle.node_pool.specs.HashSteps.{stirred_number}
use Rattle.node_pool.proofs.hashes.hash_of.Given as goal

abbrev pub invariant-loop-number : goal.invariant-loop-number
invariant-loop-number l = l.hash ≡ fold stirred_number 0 (take l.number-index l.key)
