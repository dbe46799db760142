use Rattle.std.proofs.Common.{◌∙◌, sym}
use Rattle.label_network.proofs.Rows.{column-read}
use Rattle.fisher_test.proofs.WeightKeys.{choice, choice-few, choice-held}
use Rattle.fisher_test.proofs.weight_measure.WeightMeasure.weight.Goals as goal

pub labellings-requires-clause-whole : goal.labellings-requires-clause-whole
labellings-requires-clause-whole c =
    column-read c.args.self.now.columns.items c.args.stage c.index.result.now c.requires.move.before c.index.ensures
    ∙ sym (choice c.args.self.now.rows.items c.args.self.now.columns.items c.args.self.now.binomials.width c.args.self.now.falling_binomials.width c.args.self.now.highs.items c.args.self.now.judge c.args.self.now.right c.args.stage c.args.remaining.now c.requires.partial c.requires.move.place c.requires.move.before c.args.choice.now c.requires.move.allowed).whole

pub labellings-requires-clause-held : goal.labellings-requires-clause-held
labellings-requires-clause-held c = choice-held c.args.self.now.rows.items c.args.self.now.columns.items c.args.self.now.binomials.width c.args.self.now.falling_binomials.width c.args.self.now.highs.items c.args.self.now.judge c.args.self.now.right c.args.stage c.args.remaining.now c.requires.partial c.requires.move.place c.requires.move.before c.args.choice.now c.requires.move.allowed

pub labellings-requires-clause-fits : goal.labellings-requires-clause-fits
labellings-requires-clause-fits c = choice-few c.args.self.now.rows.items c.args.self.now.columns.items c.args.self.now.binomials.width c.args.self.now.falling_binomials.width c.args.self.now.highs.items c.args.self.now.judge c.args.self.now.right c.args.stage c.args.remaining.now c.requires.partial c.requires.move.place c.requires.move.before c.args.choice.now c.requires.move.allowed

pub held-requires : goal.held-requires
held-requires c = rw c.labellings.ensures (choice-few c.args.self.now.rows.items c.args.self.now.columns.items c.args.self.now.binomials.width c.args.self.now.falling_binomials.width c.args.self.now.highs.items c.args.self.now.judge c.args.self.now.right c.args.stage c.args.remaining.now c.requires.partial c.requires.move.place c.requires.move.before c.args.choice.now c.requires.move.allowed)
