use Rattle.later_scores.proofs.later_scores.add_stage.Given as goal

abbrev pub ghost-add_column : goal.ghost-add_column
ghost-add_column g a = g.rest
