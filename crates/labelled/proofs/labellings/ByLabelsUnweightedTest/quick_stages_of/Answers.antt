use Rattle.labelled.proofs.labellings.ByLabelsUnweightedTest.quick_stages_of.Goals as goal

pub returns : goal.returns
returns g c = rw (← c.self.view_is) c.quick_stages_of.ensures
