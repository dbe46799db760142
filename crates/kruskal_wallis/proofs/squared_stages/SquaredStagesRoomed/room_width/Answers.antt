use Rattle.kruskal_wallis.proofs.squared_stages.SquaredStagesRoomed.room_width.Goals as goal

pub returns-in-Packed-clause-roomed : goal.returns-in-Packed-clause-roomed
returns-in-Packed-clause-roomed c = rw c.in-Packed.is c.room_width.ensures.roomed

pub returns-in-Ordered-clause-roomed : goal.returns-in-Ordered-clause-roomed
returns-in-Ordered-clause-roomed c = rw c.in-Ordered.is c.room_width-in-Ordered.ensures.roomed
