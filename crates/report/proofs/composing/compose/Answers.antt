use Rattle.std.proofs.Common.{◌≡◌, [], ◌++◌, FitsSigned, if◌then◌else◌, append-nil, refl, rules, sym, ◌∙◌}
use Rattle.std.specs.Int.{w128}
use Rattle.std.proofs.lemmas.Int.{to_z-of_z}
use Rattle.report.specs.Report.{node_lines, report_text}
use Rattle.report.proofs.composing.compose.Goals as goal
use Rattle.report.proofs.composing.compose.Goals.{then-nodes+in_ok-push_nodes, else-nodes}

pub returns : goal.returns
unfolding report_text
returns c =
    let nodes : c.if-nodes.text ≡ c.push_answer.new.text ++ (if c.args.nodes then node_lines c.args.answer.now else []) = elim c.if-nodes.branch [
      | then-nodes+in_ok-push_nodes w ↦ w.text-is ∙ rw w.if-nodes.true w.in_ok-push_nodes.ensures
      | else-nodes w ↦ w.text-is ∙ rw w.if-nodes.false (sym (append-nil c.push_answer.new.text))
    ] in
    let fits : FitsSigned w128 c.args.answer.now.statistic = search rules in
    rw (c.in_ok-push_spread.ensures, nodes, c.in_ok-push_answer.ensures, c.in_ok-text.ensures, to_z-of_z w128 c.args.answer.now.statistic fits) refl
