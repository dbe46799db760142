use Rattle.std.proofs.Common.{◌≡◌, ◌+◌, ◌++◌, ◌∷◌, ℕ, List, take, drop, set, subst, sym, ◌∙◌, ap, arith, FitsSigned}
use Rattle.std.specs.Prelude.{ℤ}
use Rattle.std.specs.Ordering.{int_eq}
use Rattle.std.proofs.lemmas.Int.{to_z-of_z}
use mir.Syntax.{w128}
use mir.Val.{to_z, of_z}
use Rattle.weights.specs.declared.lines.Line.{Line}
use Rattle.networks.specs.Lines.{IsAscending, add_line, place_of}
use Rattle.networks.proofs.LineSums.{add-ascending, place-≤, add-same-at, add-other-at, add-past-at}
use Rattle.networks.proofs.lines.Spread.add_some.Goals as goal
use Rattle.networks.proofs.lines.Spread.add_some.Goals.{After-index_mut, After-insert, else-place-len-via-then-place-len+else-has_value, else-place-len-via-else-place-len}

-- the place of a value, as it was passed on
at : (v : ℤ) (lines items : List Line) (place : ℕ) → FitsSigned w128 v → place ≡ place_of (to_z w128 (of_z w128 v)) lines → lines ≡ items → place ≡ place_of v items
at v lines items place fits is same = is ∙ ap (λ z. place_of z lines) (to_z-of_z w128 v fits) ∙ ap (place_of v) same

pub insert-requires : goal.insert-requires
insert-requires c = omega (arith, at _ _ _ _ c.ranges.value c.place_of-place.ensures c.deref.ensures.value, place-≤ c.args.value c.self.inside.lines.items, c.self.inside.lines.ok.0)

-- the line of the value weighs more
grown : (c : After-index_mut) → set c.self.inside.lines.items c.place_of-place.result (record { value = c.index_mut.result.now.value; weight = c.index_mut.result.now.weight + c.args.weight }) ≡ add_line c.args.value c.args.weight c.self.inside.lines.items
grown c =
    add-same-at c.args.value c.args.weight c.self.inside.lines.items c.place_of-place.result c.index.result.now c.index_mut.result.now (at _ _ _ _ c.ranges.value c.place_of-place.ensures c.deref.ensures.value) (omega (arith, c.if-place-len.true, c.len.ensures, c.self.inside.lines.ok.0)) c.index.ensures c.index_mut.ensures.value
    (ap (int_eq c.index.result.now.value) (sym (to_z-of_z w128 c.args.value c.ranges.value)) ∙ sym c.has_value.ensures ∙ c.if-has_value.true)

pub returns-then-has_value : goal.returns-then-has_value
returns-then-has_value c = grown (goal.at.returns-then-has_value c).After-index_mut ∙ ap (add_line c.args.value c.args.weight) c.self.view_is

pub invariant_of-self : goal.invariant_of-self
invariant_of-self c = subst IsAscending (sym (grown (goal.at.invariant_of-self c).After-index_mut)) (add-ascending c.args.value c.args.weight c.self.inside.lines.items c.self.invariant)

-- a line is put in
added : (c : After-insert) → take c.place_of-place.result c.self.inside.lines.items ++ record { value = c.args.value; weight = c.args.weight } ∷ drop c.place_of-place.result c.self.inside.lines.items ≡ add_line c.args.value c.args.weight c.self.inside.lines.items
added c =
    let items = c.self.inside.lines.items in
    let place = at _ _ _ _ c.ranges.value c.place_of-place.ensures c.deref.ensures.value in
    elim c.else-place-len.branch [
      | else-place-len-via-then-place-len+else-has_value w ↦ add-other-at c.args.value c.args.weight items c.place_of-place.result w.index.result.now place w.index.ensures (ap (int_eq w.index.result.now.value) (sym (to_z-of_z w128 c.args.value c.ranges.value)) ∙ sym w.has_value.ensures ∙ w.if-has_value.false)
      | else-place-len-via-else-place-len w ↦ add-past-at c.args.value c.args.weight items c.place_of-place.result place (omega (arith, w.if-place-len.false, c.len.ensures, c.self.inside.lines.ok.0))
    ]

pub returns : goal.returns
returns c = (rw (to_z-of_z w128 c.args.value c.ranges.value) at c.in_ok-insert.ensures.items) ∙ added (goal.at.returns c).After-insert ∙ ap (add_line c.args.value c.args.weight) c.self.view_is

pub invariant_of-self-2 : goal.invariant_of-self-2
invariant_of-self-2 c = subst IsAscending (sym ((rw (to_z-of_z w128 c.args.value c.ranges.value) at c.in_ok-insert.ensures.items) ∙ added (goal.at.invariant_of-self-2 c).After-insert)) (add-ascending c.args.value c.args.weight c.self.inside.lines.items c.self.invariant)
