use Rattle.stage_network.proofs.from_keys.sum_by_rows.Given as goal

-- it begins with these nodes where it stands
abbrev pub ghost-advance_to : goal.ghost-advance_to
ghost-advance_to g a = record { keep = a.self.now.keep; stage = a.self.now.stage; nodes = g.nodes }
