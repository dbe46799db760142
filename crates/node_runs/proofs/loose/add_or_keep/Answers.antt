use Rattle.std.proofs.Common.{◌≡◌, ◌∷◌, [], get_or, refl, ◌∙◌, rules, FitsSigned}
use Rattle.std.specs.Prelude.{ℤ, pos}
use Rattle.std.specs.Int.{w128}
use Rattle.std.proofs.lemmas.Int.{to_z-of_z}
use Rattle.node_runs.proofs.Passing.{one-number}
use Rattle.node_runs.proofs.Aside.{kept-one}
use Rattle.node_runs.proofs.loose.add_or_keep.Goals as goal

pub returns-clause-added : goal.returns-clause-added
returns-clause-added g c =
    let z : ℤ = get_or c.args.key.now 0 (pos 0) in
    let fits : FitsSigned w128 z = search rules in
    let key : z ∷ [] ≡ c.args.key.now = one-number (z ∷ []) c.args.key.now refl (c.requires.wide ∙ c.takes.ensures c.if-takes.false) refl in
    kept-one g.C.Count.number _ _ _ _ _ _ c.in_ok-push.ensures.items (rw (to_z-of_z w128 z fits) key) refl
