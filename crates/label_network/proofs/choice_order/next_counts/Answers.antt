use Rattle.std.proofs.Common.{◌≡◌, ◌+◌, ◌-◌, ◌<◌, ◌≤◌, length, get_or, set, drop, min, None, refl, ap, sym, ◌∙◌, arith, rules, length-drop, length-set, length-take, get_or-set_same}
use Rattle.std.specs.Prelude.{nat_abs, pos}
use mir.Syntax.{w128}
use Rattle.std.proofs.lemmas.Int.{to_z-of_z}
use Rattle.std.specs.List.{sum, Contains}
use Rattle.std.proofs.Math.Seq.{drop-length}
use Rattle.std.proofs.lemmas.List.Sums.{sum_by-drop_more}
use Rattle.weights.specs.Grouped.{choices}
use Rattle.label_network.specs.LabelSteps.{least}
use Rattle.label_network.proofs.ChoiceSteps.{choice_after}
use Rattle.label_network.specs.Meanings.{sizes_in}
use Rattle.weights.proofs.ChoiceLists.{IsChoice}
use Rattle.label_network.proofs.ChoiceMoves.{last_choice, changed, not_here, fits-drop, drop-whole, rest-sizes, sizes-drop, take_rest, written}
use Rattle.label_network.proofs.Rows.{abs-at, length-abs}
use Rattle.label_network.proofs.Narrowing.{chosen}
use Rattle.label_network.proofs.choice_order.next_counts.Goals.{else-counts-i-via-then-counts-i+else-counts-i-2, else-counts-i-via-else-counts-i}
use Rattle.label_network.proofs.choice_order.next_counts.Goals as goal

pub loop-i-init : goal.loop-i-init
loop-i-init c =
    let none : choice_after 0 (drop (length c.args.counts.now) (sizes_in c.args.sizes.now)) (drop (length c.args.counts.now) c.args.counts.now) ≡ None = rw ((chosen c.args.total (sizes_in c.args.sizes.now) c.args.counts.now c.requires.allowed).long, drop-length (sizes_in c.args.sizes.now)) refl in
    record { kept = refl; within = omega arith; rest = rw (drop-length c.args.counts.now) refl; none = none }

pub overflow_add-later : goal.overflow_add-later
overflow_add-later c =
    let i : c.loop-i.i ≡ c.loop-i.i - 1 + 1 = omega arith in
    let rest : c.loop-i.later ≡ sum (drop (c.loop-i.i - 1 + 1) c.loop-i.counts) = rw i at c.loop-i.invariant.rest in
    omega (arith, (sum_by-drop_more (λ v. v) c.loop-i.counts (c.loop-i.i - 1) 0 (omega arith)), drop-whole (c.loop-i.i - 1) c.loop-i.counts, ap sum c.loop-i.invariant.kept, (chosen c.args.total (sizes_in c.args.sizes.now) c.args.counts.now c.requires.allowed).whole)

pub bounds-sizes-i : goal.bounds-sizes-i
bounds-sizes-i c =
    omega (arith, (chosen c.args.total (sizes_in c.args.sizes.now) c.args.counts.now c.requires.allowed).long, length-abs c.args.sizes.now, ap length c.loop-i.invariant.kept)

pub first_counts-requires-clause-sizes : goal.first_counts-requires-clause-sizes
first_counts-requires-clause-sizes c = rw (take_rest (c.loop-i.i - 1 + 1) c.args.sizes.now) (sizes-drop (c.loop-i.i - 1 + 1) c.args.sizes.now c.requires.sizes)

pub first_counts-requires-clause-small : goal.first_counts-requires-clause-small
first_counts-requires-clause-small c =
    rw (rest-sizes (c.loop-i.i - 1 + 1) c.args.sizes.now) (omega (arith, drop-whole (c.loop-i.i - 1 + 1) (sizes_in c.args.sizes.now), c.requires.small))

pub first_counts-requires-clause-enough : goal.first_counts-requires-clause-enough
first_counts-requires-clause-enough c =
    let i : c.loop-i.i ≡ c.loop-i.i - 1 + 1 = omega arith in
    let rest : c.loop-i.later ≡ sum (drop (c.loop-i.i - 1 + 1) c.loop-i.counts) = rw i at c.loop-i.invariant.rest in
    rw (rest-sizes (c.loop-i.i - 1 + 1) c.args.sizes.now, get_or-set_same c.loop-i.counts (c.loop-i.i - 1) (get_or c.loop-i.counts (c.loop-i.i - 1) 0 + 1) 0 (omega arith))
    (omega (arith, (fits-drop (c.loop-i.i - 1 + 1) (sizes_in c.args.sizes.now) c.args.counts.now (chosen c.args.total (sizes_in c.args.sizes.now) c.args.counts.now c.requires.allowed).fitting), ap (λ x. sum (drop (c.loop-i.i - 1 + 1) x)) c.loop-i.invariant.kept))

pub first_counts-requires-clause-room : goal.first_counts-requires-clause-room
first_counts-requires-clause-room c =
    simp (length-take, length-drop, length-set) (omega (arith, (chosen c.args.total (sizes_in c.args.sizes.now) c.args.counts.now c.requires.allowed).long, length-abs c.args.sizes.now, ap length c.loop-i.invariant.kept))

pub returns-then-counts-i-2 : goal.returns-then-counts-i-2
returns-then-counts-i-2 c =
    let i : c.loop-i.i ≡ c.loop-i.i - 1 + 1 = omega arith in
    let kept : c.loop-i.counts ≡ c.args.counts.now = c.loop-i.invariant.kept in
    let allowed : Contains (choices c.args.total (sizes_in c.args.sizes.now)) c.loop-i.counts = rw kept c.requires.allowed in
    let rest : c.loop-i.later ≡ sum (drop (c.loop-i.i - 1 + 1) c.loop-i.counts) = rw i at c.loop-i.invariant.rest in
    let none : choice_after c.loop-i.later (drop (c.loop-i.i - 1 + 1) (sizes_in c.args.sizes.now)) (drop (c.loop-i.i - 1 + 1) c.loop-i.counts) ≡ None = rw i at c.loop-i.invariant.none in
    let inside : c.loop-i.i - 1 < length c.loop-i.counts = omega arith in
    let less : get_or c.loop-i.counts (c.loop-i.i - 1) 0 < get_or (sizes_in c.args.sizes.now) (c.loop-i.i - 1) 0 = omega (arith, (c.size_in.ensures ∙ ap nat_abs (to_z-of_z w128 (get_or c.args.sizes.now (c.loop-i.i - 1) (pos 0)) (search rules)) ∙ sym (abs-at c.args.sizes.now (c.loop-i.i - 1) (omega (arith, inside, (chosen c.args.total (sizes_in c.args.sizes.now) c.args.counts.now c.requires.allowed).long, length-abs c.args.sizes.now, ap length kept)))), c.if-counts-i-2.true) in
    let more : sum (drop (c.loop-i.i - 1) c.loop-i.counts) ≡ get_or c.loop-i.counts (c.loop-i.i - 1) 0 + sum (drop (c.loop-i.i - 1 + 1) c.loop-i.counts) = sum_by-drop_more (λ v. v) c.loop-i.counts (c.loop-i.i - 1) 0 inside in
    rw (← kept) (changed c.args.total (sizes_in c.args.sizes.now) c.loop-i.counts (c.loop-i.i - 1) allowed inside (rw rest at none) (omega (arith, c.if-counts-i.true, more, rest)) less _
    (written (sizes_in c.args.sizes.now) c.loop-i.counts c.first_counts.new.counts (c.loop-i.i - 1) _ inside (let less : c.loop-i.later + get_or c.loop-i.counts (c.loop-i.i - 1) 0 - get_or (set c.loop-i.counts (c.loop-i.i - 1) (get_or c.loop-i.counts (c.loop-i.i - 1) 0 + 1)) (c.loop-i.i - 1) 0 ≡ sum (drop (c.loop-i.i - 1) c.loop-i.counts) - (get_or c.loop-i.counts (c.loop-i.i - 1) 0 + 1) = omega (arith, more, rest, (get_or-set_same c.loop-i.counts (c.loop-i.i - 1) (get_or c.loop-i.counts (c.loop-i.i - 1) 0 + 1) 0 inside)) in less) (c.first_counts.ensures ∙ ap (least _) (rest-sizes (c.loop-i.i - 1 + 1) c.args.sizes.now ∙ sym (take_rest (c.loop-i.i - 1 + 1) (sizes_in c.args.sizes.now))))))

pub loop-i-preserved : goal.loop-i-preserved
loop-i-preserved c =
    let o : IsChoice c.args.total (sizes_in c.args.sizes.now) c.args.counts.now = chosen c.args.total (sizes_in c.args.sizes.now) c.args.counts.now c.requires.allowed in
    let i : c.loop-i.i ≡ c.loop-i.i - 1 + 1 = omega arith in
    let rest : c.loop-i.later ≡ sum (drop (c.loop-i.i - 1 + 1) c.loop-i.counts) = rw i at c.loop-i.invariant.rest in
    let none : choice_after c.loop-i.later (drop (c.loop-i.i - 1 + 1) (sizes_in c.args.sizes.now)) (drop (c.loop-i.i - 1 + 1) c.loop-i.counts) ≡ None = rw i at c.loop-i.invariant.none in
    let more : sum (drop (c.loop-i.i - 1) c.loop-i.counts) ≡ get_or c.loop-i.counts (c.loop-i.i - 1) 0 + sum (drop (c.loop-i.i - 1 + 1) c.loop-i.counts) = sum_by-drop_more (λ v. v) c.loop-i.counts (c.loop-i.i - 1) 0 (omega arith) in
    let here : c.loop-i.later + get_or c.loop-i.counts (c.loop-i.i - 1) 0 ≡ sum (drop (c.loop-i.i - 1) c.loop-i.counts) = omega arith in
    let full : min (sum (drop (c.loop-i.i - 1) c.loop-i.counts)) (get_or (sizes_in c.args.sizes.now) (c.loop-i.i - 1) 0) ≤ get_or c.loop-i.counts (c.loop-i.i - 1) 0 = elim c.else-counts-i.branch [
      | else-counts-i-via-then-counts-i+else-counts-i-2 w ↦
          omega (arith, (w.size_in.ensures ∙ ap nat_abs (to_z-of_z w128 (get_or c.args.sizes.now (c.loop-i.i - 1) (pos 0)) (search rules)) ∙ sym (abs-at c.args.sizes.now (c.loop-i.i - 1) (omega (arith, o.long, length-abs c.args.sizes.now, ap length c.loop-i.invariant.kept)))), w.if-counts-i-2.false)
      | else-counts-i-via-else-counts-i w ↦ omega (arith, w.if-counts-i.false, here)
    ] in
    record {
      kept = c.loop-i.invariant.kept;
      within = omega arith;
      rest = here;
      none = rw here (not_here (c.loop-i.i - 1) (sizes_in c.args.sizes.now) c.loop-i.counts (omega arith) (ap length c.loop-i.invariant.kept ∙ o.long) (rw rest at none) full);
    }

pub returns : goal.returns
returns c =
    let start : c.loop-i.i ≡ 0 = omega arith in
    let none : choice_after c.loop-i.later (sizes_in c.args.sizes.now) c.loop-i.counts ≡ None = rw start at c.loop-i.invariant.none in
    let all : c.loop-i.later ≡ sum c.loop-i.counts = rw start at c.loop-i.invariant.rest in
    last_choice c.args.total (sizes_in c.args.sizes.now) c.args.counts.now c.requires.allowed (rw (all, c.loop-i.invariant.kept) at none)
