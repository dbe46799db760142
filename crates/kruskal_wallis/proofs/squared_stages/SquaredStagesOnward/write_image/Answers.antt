use Rattle.kruskal_wallis.proofs.squared_stages.SquaredStagesOnward.write_image.Goals as goal

pub write_image-requires-clause-key : goal.write_image-requires-clause-key
write_image-requires-clause-key c = rw c.in-Packed.is at c.requires.key
