use Rattle.std.proofs.Common.{◌<◌, ◌≤◌, length, min, sym, ◌∙◌, arith}
use Rattle.report.proofs.ReportLemmas.{first_lines-all, first_lines-more}
use Rattle.report.proofs.heading_lines.push_groups.Goals as goal

pub loop-i-preserved : goal.loop-i-preserved
loop-i-preserved c =
    let here : c.loop-i.i < length c.args.sizes.now = omega arith in
    let there : c.loop-i.i < length c.args.labels.now = omega arith in
    rw (c.in_ok-push_group.ensures, c.label.ensures, c.loop-i.invariant) (sym (first_lines-more c.args.text.now c.args.sizes.now c.args.labels.now c.loop-i.i here there))

pub returns : goal.returns
returns c =
    let all : min (length c.args.sizes.now) (length c.args.labels.now) ≤ c.loop-i.i = omega arith in
    c.loop-i.invariant ∙ first_lines-all c.args.text.now c.args.sizes.now c.args.labels.now c.loop-i.i all
