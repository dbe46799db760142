use Rattle.std.proofs.Common.{◌≡◌, ◌<◌, ◌++◌, ◌∷◌, [], ℤ, List, Bool, true, false, cond, nat_eq, eq-eqb, ne_eqb, FitsSigned, get_or, length, pos, take, rules, sym, ap, ◌∙◌, arith}
use Rattle.std.specs.Int.{w128}
use Rattle.std.proofs.lemmas.Int.{to_z-of_z}
use Rattle.std.proofs.lemmas.List.{append-nil, take_all}
use Rattle.shift_limits.specs.Differences.{labelled_values}
use Rattle.shift_limits.proofs.ChosenValues.{labelled-more, labelled-none}
use Rattle.shift_limits.proofs.samples.labelled_values.Goals as goal
use Rattle.shift_limits.proofs.samples.labelled_values.Goals.{then-members-i+in_ok-push, else-members-i}

pub loop-i-init : goal.loop-i-init
loop-i-init c = c.empty-chosen.ensures ∙ sym (labelled-none c.args.label)

pub loop-i-preserved : goal.loop-i-preserved
loop-i-preserved c =
    let values = c.args.values.now in
    let members = c.args.members.now in
    let i = c.loop-i.i in
    let here = c.loop-i-test.true in
    let there : i < length members = omega (arith, c.requires) in
    let fits : FitsSigned w128 (get_or values i (pos 0)) = search rules in
    let more = λ (b : Bool) (e : nat_eq (get_or members i 0) c.args.label ≡ b). labelled-more c.args.label values members i here there ∙ ap (λ b. labelled_values c.args.label (take i values) (take i members) ++ cond b (get_or values i (pos 0) ∷ []) []) e in
    elim c.if-members-i.branch [
      | then-members-i+in_ok-push w ↦ rw (w.chosen-is, w.in_ok-push.ensures.ok, to_z-of_z w128 (get_or values i (pos 0)) fits, c.loop-i.invariant) (sym (more true (eq-eqb (get_or members i 0) c.args.label w.if-members-i.true)))
      | else-members-i w ↦ rw (w.chosen-is, c.loop-i.invariant) (sym (more false (ne_eqb (get_or members i 0) c.args.label w.if-members-i.false) ∙ append-nil _))
    ]

pub returns : goal.returns
returns c =
    let values = c.args.values.now in
    let members = c.args.members.now in
    let end = c.loop-i-test.false in
    c.loop-i.invariant
    ∙ ap (λ (vs : List ℤ). labelled_values c.args.label vs (take c.loop-i.i members)) (take_all c.loop-i.i values end)
    ∙ ap (labelled_values c.args.label values) (take_all c.loop-i.i members (omega (arith, end, c.requires)))
