use Rattle.std.proofs.Common.{◌∙◌, ap, map}
use Rattle.std.specs.Prelude.{pos}
use Rattle.label_network.specs.Meanings.{sizes_in}
use Rattle.label_network.proofs.LabelPlans.{sizes-back}
use Rattle.rank_assignments.specs.Assignments.{gained}
use Rattle.rank_assignments.specs.Upright.{upright}
use Rattle.rank_assignments.proofs.ReflectionSteps.{gained-sums}
use Rattle.rank_assignments.proofs.assigned_sums.write_reflected.Goals as goal

pub write_upright-requires-clause-sums : goal.write_upright-requires-clause-sums
write_upright-requires-clause-sums c = gained-sums c.args.value c.args.choice.now c.args.partial.now c.write_gained.new.next c.requires.sums c.requires.value c.requires.counts c.requires.as_many c.write_gained.ensures

pub returns : goal.returns
returns c =
    c.write_upright.ensures
    ∙ ap (λ z. map pos (upright c.args.number (sizes_in z))) c.write_gained.ensures
    ∙ ap (λ s. map pos (upright c.args.number s)) (sizes-back (gained c.args.value c.args.choice.now (sizes_in c.args.partial.now)))
