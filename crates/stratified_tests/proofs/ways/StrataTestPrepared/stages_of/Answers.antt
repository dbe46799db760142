use Rattle.std.proofs.Common.{◌∙◌}
use Rattle.strata_cells.specs.Strata.{strata_of}
use Rattle.stratified_tests.proofs.FittingStrata.{follows, stages-fit}
use Rattle.stratified_tests.proofs.ways.StrataTestPrepared.stages_of.Goals as goal

pub returns-in_err-strata-clause-follows : goal.returns-in_err-strata-clause-follows
returns-in_err-strata-clause-follows c t has =
    let given = c.args.self.now in
    follows given.odds (strata_of given.cells) c.made.ensures.fitting t

pub invariant_of-stages : goal.invariant_of-stages
invariant_of-stages c =
    let given = c.args.self.now in
    record { sound = rw (c.odds-odds.ensures.given, c.in_ok-strata.ensures ∙ c.made.ensures.tables, c.judge-judge.ensures) (stages-fit given.odds (strata_of given.cells) c.made.ensures.fitting) }

pub returns-clause-follows : goal.returns-clause-follows
returns-clause-follows c t has =
    let given = c.args.self.now in
    follows given.odds (strata_of given.cells) c.made.ensures.fitting t
