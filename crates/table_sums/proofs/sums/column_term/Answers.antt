use Rattle.std.proofs.Common.{◌≤◌, ◌∙◌, rules, sym, subst, arith, FitsSigned}
use mir.Syntax.{w128}
use Rattle.std.proofs.lemmas.Int.{to_z-of_z, unsigned_abs-mul}
use Rattle.label_network.specs.Linear.{row_sum}
use Rattle.table_sums.specs.TableSteps.{most_added}
use Rattle.table_sums.proofs.ColumnSums.{row-fits, term-small}
use Rattle.table_sums.proofs.sums.column_term.Goals as goal

pub score_choice-requires-clause-small : goal.score_choice-requires-clause-small
score_choice-requires-clause-small c = row-fits c.args.row_scores.now c.args.counts.now c.requires.rows c.requires.few

pub times-requires : goal.times-requires
times-requires c =
    let a : FitsSigned w128 c.args.score = search rules in
    let b : FitsSigned w128 c.score_choice.result = search rules in
    rw (to_z-of_z w128 c.args.score a, to_z-of_z w128 c.score_choice.result b ∙ c.score_choice.ensures) (omega (arith, term-small c.args.row_scores.now c.args.score c.args.counts.now c.requires.rows c.requires.score c.requires.few))

pub returns-clause-term : goal.returns-clause-term
returns-clause-term c =
    let a : FitsSigned w128 c.args.score = search rules in
    let b : FitsSigned w128 c.score_choice.result = search rules in
    let t : FitsSigned w128 c.times.result = search rules in
    let given = rw (to_z-of_z w128 c.args.score a, to_z-of_z w128 c.score_choice.result b ∙ c.score_choice.ensures) at c.times.ensures in
    to_z-of_z w128 c.times.result t ∙ given

pub returns-clause-small : goal.returns-clause-small
returns-clause-small c =
    let a : FitsSigned w128 c.args.score = search rules in
    let b : FitsSigned w128 c.score_choice.result = search rules in
    let t : FitsSigned w128 c.times.result = search rules in
    let given = rw (to_z-of_z w128 c.args.score a, to_z-of_z w128 c.score_choice.result b ∙ c.score_choice.ensures) at c.times.ensures in
    rw (to_z-of_z w128 c.times.result t, given) (subst (λ n. n ≤ most_added) (sym (unsigned_abs-mul c.args.score (row_sum c.args.row_scores.now c.args.counts.now))) (term-small c.args.row_scores.now c.args.score c.args.counts.now c.requires.rows c.requires.score c.requires.few))
