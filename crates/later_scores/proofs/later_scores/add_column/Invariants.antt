use Rattle.later_scores.proofs.later_scores.add_column.Given as goal

abbrev pub ghost-add_units : goal.ghost-add_units
ghost-add_units g a = g.scores
