use Rattle.std.proofs.Common.{◌≡◌, ◌∙◌, ap, subst, sym}
use Rattle.std.proofs.lemmas.Result.{IfOk-weaker}
use Rattle.midranks.specs.Ties.{AreCounted, IsAscending, tie_groups}
use Rattle.midranks.proofs.OneGrouping.{groups-permutation}
use Rattle.midranks.proofs.Places.{groups-counted}
use Rattle.midranks.proofs.TieLemmas.{groups-ascend}
use Rattle.midranks.proofs.ties.tie_groups.Goals as goal

pub returns-clause-groups : goal.returns-clause-groups
returns-clause-groups c =
    let moved = groups-permutation c.in_ok-sorted.sorted.items c.sort_unstable.new.self.items c.sort_unstable.ensures.permutation in
    IfOk-weaker c.runs.result (λ ties. ties ≡ tie_groups c.as_slice.result.now) (λ ties. ties ≡ tie_groups c.args.values.now)
    (λ ties e. e ∙ ap tie_groups c.as_slice.ensures.value ∙ moved ∙ ap tie_groups c.in_ok-sorted.ensures.items) c.runs.ensures

pub returns-clause-ascending : goal.returns-clause-ascending
returns-clause-ascending c =
    IfOk-weaker c.runs.result (λ ties. ties ≡ tie_groups c.args.values.now) (λ ties. IsAscending ties)
    (λ ties e. subst IsAscending (sym e) (groups-ascend c.args.values.now)) (returns-clause-groups c)

pub returns-clause-counted : goal.returns-clause-counted
returns-clause-counted c =
    IfOk-weaker c.runs.result (λ ties. ties ≡ tie_groups c.args.values.now) (λ ties. AreCounted c.args.values.now ties)
    (λ ties e. subst (AreCounted c.args.values.now) (sym e) (groups-counted c.args.values.now)) (returns-clause-groups c)
