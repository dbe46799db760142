use Rattle.std.proofs.Common.{subst, ◌≡◌, List, ℤ}
use Rattle.networks.specs.Network.{IsReached, Network}
use Rattle.kruskal_wallis.specs.SquaredStages.{of_kind}
use Rattle.kruskal_wallis.proofs.squared_stages.SquaredStagesStages.value.Goals as goal

moved : {A : Type 0} (net : A → Network) (i j : A) (key : List ℤ) → i ≡ j → IsReached (net i) (net i).count key → IsReached (net j) (net j).count key
moved net i j key e reached = subst (λ v. IsReached (net v) (net v).count key) e reached

pub value-requires : goal.value-requires
value-requires c = moved (of_kind _ _ _) _ _ c.args.key.now c.in-Packed.is c.requires
