use Rattle.std.proofs.Common.{◌≡◌, ◌≢◌, ◌+◌, ◌<◌, ℤ, FitsSigned, get_or, length, pos, rules, sym, ap, ◌∙◌, arith}
use Rattle.std.specs.Int.{w128, cast_signed, cast_unsigned}
use Rattle.std.proofs.lemmas.Int.{to_z-of_z}
use Rattle.midranks.proofs.Runs.{grouped-all, grouped-closed, grouped-more, grouped-none}
use Rattle.midranks.proofs.ties.runs.Goals as goal
use Rattle.midranks.proofs.ties.runs.Goals.{then-i-sorted+in_ok-push, then-i-sorted-via-then-i-sorted, then-i-sorted-via-else-i-sorted+then-sorted-i, else-i-sorted+else-sorted-i}

-- numbers of the same bits are the same
same_number : (a b : ℤ) → FitsSigned w128 a → FitsSigned w128 b → cast_unsigned w128 a ≡ cast_unsigned w128 b → a ≡ b
same_number a b f g e = sym (to_z-of_z w128 a f) ∙ ap (cast_signed w128) e ∙ to_z-of_z w128 b g

pub loop-i-init : goal.loop-i-init
loop-i-init c = rw c.empty-ties.ensures (grouped-none c.args.sorted.now)

pub loop-i-preserved : goal.loop-i-preserved
loop-i-preserved c =
    let sorted = c.args.sorted.now in
    let i = c.loop-i.i in
    let here = c.loop-i-test.true in
    let fits : FitsSigned w128 (get_or sorted i (pos 0)) = search rules in
    elim c.if-i-sorted.branch [
      | then-i-sorted+in_ok-push w ↦
          let apart : i + 1 < length sorted → get_or sorted i (pos 0) ≢ get_or sorted (i + 1) (pos 0) = elim w.then-i-sorted.branch [
            | then-i-sorted-via-then-i-sorted w' ↦ (λ next. absurd (omega (arith, w'.if-i-sorted.true)))
            | then-i-sorted-via-else-i-sorted+then-sorted-i w' ↦ (λ next e. w'.if-sorted-i.true (ap (cast_unsigned w128) e))
          ] in
          rw (w.ties-is, w.count-is, w.in_ok-push.ensures.ok) (grouped-closed sorted i c.loop-i.ties c.loop-i.count _ c.requires here (to_z-of_z w128 _ fits) apart c.loop-i.invariant)
      | else-i-sorted+else-sorted-i w ↦
          let next : i + 1 < length sorted = omega (arith, w.if-i-sorted.false) in
          let fits_next : FitsSigned w128 (get_or sorted (i + 1) (pos 0)) = search rules in
          rw (w.ties-is, w.count-is) (grouped-more sorted i c.loop-i.ties c.loop-i.count next (same_number _ _ fits fits_next w.if-sorted-i.false) c.loop-i.invariant)
    ]

pub returns : goal.returns
returns c = grouped-all c.args.sorted.now c.loop-i.i c.loop-i.ties c.loop-i.count c.loop-i-test.false c.loop-i.invariant
