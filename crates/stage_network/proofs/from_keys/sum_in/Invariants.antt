use Rattle.stage_network.proofs.from_keys.sum_in.Given as goal

-- it begins with these nodes where it stands
abbrev pub ghost-advance_to : goal.ghost-advance_to
ghost-advance_to g a = record { keep = a.self.now.keep; stage = a.self.now.stage; nodes = g.nodes }

abbrev pub ghost-sum_by_rows : goal.ghost-sum_by_rows
ghost-sum_by_rows g a = g.nodes
