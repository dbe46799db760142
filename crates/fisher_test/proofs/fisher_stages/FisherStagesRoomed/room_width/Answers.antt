use Rattle.fisher_test.proofs.fisher_stages.FisherStagesRoomed.room_width.Goals as goal

pub returns-in-Cell-clause-roomed : goal.returns-in-Cell-clause-roomed
returns-in-Cell-clause-roomed c = rw c.in-Cell.is c.room_width.ensures.roomed

pub returns-in-Weight-clause-roomed : goal.returns-in-Weight-clause-roomed
returns-in-Weight-clause-roomed c = rw c.in-Weight.is c.room_width-in-Weight.ensures.roomed

pub returns-in-Sorted-clause-roomed : goal.returns-in-Sorted-clause-roomed
returns-in-Sorted-clause-roomed c = rw c.in-Sorted.is c.room_width-in-Sorted.ensures.roomed
