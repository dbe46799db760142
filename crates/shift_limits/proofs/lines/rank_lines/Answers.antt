use Rattle.std.proofs.Common.{◌∙◌, ap, Err}
use Rattle.sample_reader.specs.Groups.{GroupData}
use Rattle.scores.specs.declared.kinds.ScoreKind.TheVariants.{Wilcoxon}
use Rattle.shift_limits.proofs.RankLines.{are-rank-lines, refused}
use Rattle.shift_limits.proofs.lines.rank_lines.Goals as goal

pub unreachable-requires : goal.unreachable-requires
unreachable-requires c =
    refused c.args.groups.now _ c.prepare.result c.in-Err-TooWide.field-0-0 c.requires.fits c.in_ok-made.ensures (c.in-Err-TooWide.is ∙ ap Err c.in-Err-TooWide.field-0-is) c.prepare.ensures

pub returns : goal.returns
returns c =
    are-rank-lines c.args.groups.now c.requires.two c.in-Ok.problem c.distribution.result (c.in-Ok.ensures.0 ∙ ap (λ (groups : GroupData). record { kind = Wilcoxon; groups = groups }) c.in_ok-made.ensures)
    c.distribution.ensures.lines c.distribution.ensures.weights
