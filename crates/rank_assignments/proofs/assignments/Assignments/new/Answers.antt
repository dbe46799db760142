use Rattle.std.proofs.Common.{◌/◌, ◌∙◌, ap, subst, sym}
use Rattle.networks.specs.Distances.{correction}
use Rattle.networks.proofs.SquaredDistances.{mean-within}
use Rattle.rank_assignments.specs.Reflections.{AreReflections, reflections_of}
use Rattle.rank_assignments.specs.Assignments.{given}
use Rattle.rank_assignments.proofs.ReflectionSteps.{are-reflections}
use Rattle.rank_assignments.proofs.assignments.Assignments.new.Goals as goal

pub correction-base-requires-clause-within : goal.correction-base-requires-clause-within
correction-base-requires-clause-within c = mean-within c.args.treatments c.given-given.result

pub invariant_of-result-clause-base_is : goal.invariant_of-result-clause-base_is
invariant_of-result-clause-base_is c =
    let k = c.args.treatments in
    c.correction-base.ensures.is ∙ ap (λ n. correction k (n / k) n) (c.given-given.ensures.is ∙ ap given c.as_slice-2.ensures.value)

pub invariant_of-result-clause-reflections_are : goal.invariant_of-result-clause-reflections_are
invariant_of-result-clause-reflections_are c =
    subst (AreReflections c.args.treatments c.args.items.items) (sym (c.in_ok-reflections.ensures ∙ ap (reflections_of c.args.from c.args.treatments) c.as_slice-3.ensures.value))
    (are-reflections c.args.from c.args.treatments c.args.items.items)
