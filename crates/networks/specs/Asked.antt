-- The tails that are asked, and what a network is for these alone.
use Rattle.std.specs.Prelude.{ℕ, ℤ, List, Bool, if◌then◌else◌}
use Rattle.weights.specs.declared.tails.Tail.{Tail}
use Rattle.weights.specs.declared.tails.Tail.TheVariants.{Less, Greater, Two}
use Rattle.weights.specs.declared.tails.Tails.{Tails}
use Rattle.networks.specs.declared.stages.Verdict.{Verdict}
use Rattle.networks.specs.declared.stages.Verdict.TheVariants.{Outside}
use Rattle.networks.specs.Network.{Network}

abbrev pub asks : Tails → Tail → Bool
asks tails Less = tails.less
asks tails Greater = tails.greater
asks tails Two = tails.two

-- a network with other verdicts
abbrev pub with_verdicts : Network → (Tail → ℕ → List ℤ → Verdict) → Network
with_verdicts n v = record n { verdict = v }

-- the verdicts of the asked tails are the network's; for any other tail every key is Outside
abbrev pub asked : Tails → Network → Network
asked tails n = with_verdicts n (λ t g k. if asks tails t then n.verdict t g k else Outside)
