use Rattle.fisher_test.proofs.fisher_ways.FisherTablePrepared.stages_of.Goals as goal

pub returns-clause-follows : goal.returns-clause-follows
returns-clause-follows c = c.facts.ensures.follows
