use Rattle.std.proofs.Common.{◌∙◌, ap, arith, refl, subst, sym}
use Rattle.label_network.specs.LabelNetwork.{IsMargin, label_network, over_rooms}
use Rattle.label_network.specs.Linear.{linear_meaning}
use Rattle.label_network.specs.Meanings.{Meaning}
use Rattle.label_network.specs.declared.linear.LinearMeasure.{LinearMeasure}
use Rattle.label_network.proofs.linear_network.linear_stages.Goals as goal

abbrev meaning_of : LinearMeasure → Meaning
meaning_of m = linear_meaning m.scores.items m.rows.items m.later.scores.items m.later.columns.items m.judge

pub label_stages-requires : goal.label_stages-requires
label_stages-requires c = subst (λ m. IsMargin m c.args.columns.now c.args.rows.now) (sym (ap over_rooms (ap meaning_of c.new-2.ensures ∙ c.in_ok-measure.ensures))) (record {
  floor_is = refl;
  labelled = record {
    level = c.requires.linear.level;
    units = c.requires.linear.units;
    few = c.requires.linear.few;
    total = c.requires.total;
  };
  some = c.requires.some;
  wide = omega (arith, c.requires.linear.few);
})

pub returns : goal.returns
returns c = ap label_network (ap meaning_of (c.in_ok-labels.ensures.measure ∙ c.new-2.ensures) ∙ c.in_ok-measure.ensures)
