use Rattle.std.proofs.Common.{rules, ◌≡◌}
use Rattle.std.specs.Prelude.{option_map}
use Rattle.run_outcome.specs.Outcome.{part_of}
use Rattle.run_outcome.proofs.PiecesFormed.{asked-part}
use Rattle.run_outcome.proofs.reports.Asking.of.Goals as goal

pub returns-clause-parts : goal.returns-clause-parts
returns-clause-parts c =
    let same : c.map.result ≡ option_map (part_of c.args.file.now) c.args.settings.now.piece = search rules in
    rw same (asked-part c.args.file.now c.args.settings.now.piece c.requires)
