use Rattle.std.proofs.Common.{subst, ◌≡◌, List, ℤ}
use Rattle.networks.specs.Network.{IsReached, Network}
use Rattle.block_tests.specs.BlockStages.{of_kind}
use Rattle.block_tests.proofs.block_stages.BlockStagesStages.value.Goals as goal

moved : {A : Type 0} (net : A → Network) (i j : A) (key : List ℤ) → i ≡ j → IsReached (net i) (net i).count key → IsReached (net j) (net j).count key
moved net i j key e reached = subst (λ v. IsReached (net v) (net v).count key) e reached

pub value-requires : goal.value-requires
value-requires c = moved (of_kind _ _ _) _ _ c.args.key.now c.in-Assigned.is c.requires
