use Rattle.std.proofs.Common.{◌≡◌, length, subst, sym}
use Rattle.networks.specs.Follows.{Follows}
use Rattle.networks.specs.GoesOn.{GoesOnFor}
use Rattle.networks.specs.Network.{Network}
use Rattle.networks.proofs.GoingOn.{itself-goes_on}
use Rattle.label_network.specs.LabelNetwork.{label_network}
use Rattle.label_network.specs.Meanings.{Meaning}
use Rattle.kruskal_wallis.specs.KruskalWallis.{kruskal_wallis_test}
use Rattle.kruskal_wallis.specs.SumMeanings.{sums_meaning}
use Rattle.kruskal_wallis.proofs.kruskal_wallis_ways.quick_stages.Goals as goal

pub returns-in_ok-stages-clause-follows : goal.returns-in_ok-stages-clause-follows
returns-in_ok-stages-clause-follows c t = c.in_ok-stages.ensures.follows t

pub returns-in_ok-stages-clause-goes_on : goal.returns-in_ok-stages-clause-goes_on
returns-in_ok-stages-clause-goes_on c = c.in_ok-stages.ensures.goes_on

pub returns-in_ok-stages-2-clause-follows : goal.returns-in_ok-stages-2-clause-follows
returns-in_ok-stages-2-clause-follows c t = c.in_ok-stages-2.ensures.follows t

pub returns-in_ok-stages-2-clause-goes_on : goal.returns-in_ok-stages-2-clause-goes_on
returns-in_ok-stages-2-clause-goes_on c = c.in_ok-stages-2.ensures.goes_on

pub returns-in_ok-stages-3-clause-follows : goal.returns-in_ok-stages-3-clause-follows
returns-in_ok-stages-3-clause-follows c t = subst (λ m. Follows (kruskal_wallis_test c.args.problem.now) t (label_network m)) (sym c.in_ok-stages-3.ensures.sums.meaning) (c.written_stages.ensures.follows t)

pub returns-in_ok-stages-3-clause-goes_on : goal.returns-in_ok-stages-3-clause-goes_on
returns-in_ok-stages-3-clause-goes_on c =
    let n : Network = label_network (sums_meaning c.in_ok-stages-3.stages.1) in
    subst (λ (m : Meaning). GoesOnFor (label_network m) n (λ g key. length key ≡ n.width) (λ g key. key)) c.in_ok-stages-3.ensures.sums.meaning
    (record { goes_on = itself-goes_on n; taken = c.stages-lawful.ensures.lawful.long })
