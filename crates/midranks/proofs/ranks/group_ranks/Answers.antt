use Rattle.std.proofs.Common.{◌≡◌, ℤ, List, ◌∙◌, map, ap, sym}
use Rattle.std.proofs.lemmas.Result.{IfOk-weaker}
use Rattle.midranks.specs.Midranks.{doubled_midrank}
use Rattle.midranks.specs.MidrankSteps.{ranks_after}
use Rattle.midranks.specs.Ties.{tie_groups}
use Rattle.midranks.specs.declared.ties.Tie.{Tie}
use Rattle.midranks.proofs.Places.{ranks-are}
use Rattle.midranks.proofs.ranks.group_ranks.Goals as goal

pub returns : goal.returns
returns c =
    let ties : List Tie = c.args.ties.now in
    IfOk-weaker c.ranks.result (λ ranks. ranks ≡ ranks_after 0 ties) (λ ranks. (values : List ℤ) → ties ≡ tie_groups values → ranks ≡ map (λ t. doubled_midrank values t.value) ties)
    (λ ranks is values e. is ∙ ap (ranks_after 0) e ∙ ranks-are values ∙ ap (map (λ (t : Tie). doubled_midrank values t.value)) (sym e)) c.ranks.ensures
