use Rattle.std.proofs.Common.{◌≡◌, ◌<◌, ◌++◌, ℕ, List, FitsSigned, length, take, replicate, get_or, ap, sym, rules, ◌∙◌, arith}
use mir.Syntax.{w128}
use Rattle.std.proofs.lemmas.Int.{to_z-of_z}
use Rattle.std.specs.Prelude.{pos}
use Rattle.std.proofs.lemmas.List.{take_more, take_all}
use Rattle.midranks.specs.declared.ties.Tie.{Tie}
use Rattle.one_sample_tests.specs.SampleSteps.{subjects_of}
use Rattle.one_sample_tests.proofs.MarksLeft.{subjects-more}
use Rattle.one_sample_tests.proofs.marks.scores_of.Goals as goal

pub loop-i-preserved : goal.loop-i-preserved
loop-i-preserved c =
    let groups : List Tie = c.args.groups.now in
    let i : ℕ = c.loop-i.i in
    let d : Tie = record { value = pos 0; count = 0 } in
    let low : i < length groups = omega (arith, c.loop-i-test.true) in
    let fits : FitsSigned w128 (get_or groups i d).value = search rules in
    (rw (to_z-of_z w128 (get_or groups i d).value fits) at c.in_ok-push_times.ensures)
    ∙ ap (λ zs. zs ++ replicate (get_or groups i d).count (get_or groups i d).value) c.loop-i.invariant
    ∙ sym (subjects-more (take i groups) (get_or groups i d))
    ∙ ap subjects_of (sym (take_more groups i d low))

pub returns : goal.returns
returns c = c.loop-i.invariant ∙ ap subjects_of (take_all c.loop-i.i c.args.groups.now (omega (arith, c.loop-i-test.false)))
