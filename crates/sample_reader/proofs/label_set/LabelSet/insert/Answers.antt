use Rattle.std.proofs.Common.{map, ap, ◌∙◌}
use Rattle.sample_reader.proofs.LabelSets.{inserted-is, number-is}
use Rattle.sample_reader.proofs.label_set.LabelSet.insert.Goals as goal

pub returns-clause-number : goal.returns-clause-number
returns-clause-number c =
    let labels = c.self.inside.labels.keys in
    let label_is = c.in_ok-copy.ensures.items in
    c.in_ok-number.ensures.index ∙ number-is (λ label. label.items) labels c.in_ok-copy.copy
    ∙ rw (c.self.view_is, label_is)

pub returns-clause-ok : goal.returns-clause-ok
returns-clause-ok c =
    let labels = c.self.inside.labels.keys in
    let label_is = c.in_ok-copy.ensures.items in
    ap (map (λ label. label.items)) c.in_ok-number.ensures.keys ∙ inserted-is (λ label. label.items) labels c.in_ok-copy.copy
    ∙ rw (c.self.view_is, label_is)
