use Rattle.std.proofs.Common.{◌≡◌, ◌≤◌, ◌∙◌, List, rules, ap, sym, subst, FitsSigned}
use Rattle.std.specs.Prelude.{pos}
use mir.Syntax.{w128}
use mir.Val.{of_z, to_z}
use Rattle.std.proofs.lemmas.Int.{to_z-of_z}
use Rattle.weights.specs.declared.rules.Rule.TheVariants.{AtMost}
use Rattle.weights.specs.declared.TheConstants.{MAX}
use Rattle.strata_cells.specs.declared.stratum.Stratum.{Stratum}
use Rattle.zelen_test.specs.Zelen.{observed_strata_labels, rarity}
use Rattle.zelen_test.proofs.ZelenTests.{members-are, observed-is, observed-weight, total-is}
use Rattle.zelen_test.proofs.zelen.frame_of.Goals as goal

pub own_weight-requires-clause-fits : goal.own_weight-requires-clause-fits
own_weight-requires-clause-fits c = observed-weight c.args.strata.now (subst (λ n. n ≤ MAX) c.requires.total c.requires.fits)

pub held-weight-requires : goal.held-weight-requires
held-weight-requires c = rw c.own_weight.ensures (observed-weight c.args.strata.now (subst (λ n. n ≤ MAX) c.requires.total c.requires.fits))

pub returns : goal.returns
returns c =
    let strata : List Stratum = c.args.strata.now in
    let fits : FitsSigned w128 c.held-weight.result = search rules in
    let weight : to_z w128 (of_z w128 c.held-weight.result) ≡ pos (rarity strata (observed_strata_labels strata)) = to_z-of_z w128 c.held-weight.result fits ∙ c.held-weight.ensures ∙ ap pos (c.own_weight.ensures ∙ sym (observed-is strata)) in
    record {
      statistic = weight;
      scale = c.requires.total ∙ sym (members-are strata);
      total = c.requires.total ∙ sym (total-is strata);
      two = ap AtMost weight;
    }
