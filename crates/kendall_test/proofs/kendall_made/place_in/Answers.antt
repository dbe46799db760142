use Rattle.std.proofs.Common.{◌∙◌, FitsSigned}
use mir.Syntax.{w128}
use Rattle.std.proofs.lemmas.Int.{to_z-of_z}
use Rattle.kendall_test.proofs.Places.{place-found}
use Rattle.kendall_test.proofs.kendall_made.place_in.Goals as goal

pub returns : goal.returns
returns c =
    let f : FitsSigned w128 c.args.value = record { sfits = c.ranges.value.sfits } in
    place-found c.args.ties.now c.args.value c.group_of.result c.requires.ascending c.group_of.ensures.within (λ d. c.group_of.ensures.found d ∙ to_z-of_z w128 c.args.value f)
