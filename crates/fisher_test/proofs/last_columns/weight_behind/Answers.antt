use Rattle.std.proofs.Common.{◌≡◌, ◌∙◌, ◌/◌, ℕ, ap}
use Rattle.std.specs.Prelude.{ℤ, pos, nat_abs, int_le}
use Rattle.std.proofs.lemmas.Int.{to_z-of_z}
use mir.Syntax.{w128}
use mir.Val.{to_z, of_z}
use Rattle.fisher_test.specs.LastSteps.{once, valued}
use Rattle.fisher_test.specs.WeightSteps.{past_of}
use Rattle.fisher_test.proofs.LastColumns.{valued-within}
use Rattle.fisher_test.proofs.last_columns.weight_behind.Goals as goal

pub returns : goal.returns
returns c =
    let past : c.unsigned_abs-past.result ≡ past_of c.args.partial.now = c.unsigned_abs-past.ensures.value ∙ ap nat_abs (to_z-of_z w128 c.only.result (record { sfits = c.only.type_inv }) ∙ c.only.ensures) in
    let limit : to_z w128 (of_z w128 c.held.result) ≡ pos (c.args.most / past_of c.args.partial.now) = to_z-of_z w128 c.held.result (record { sfits = c.held.type_inv }) ∙ c.held.ensures ∙ ap (λ (p : ℕ). pos (c.args.most / p)) past in
    c.weight_up_to.ensures
    ∙ ap (λ (z : ℤ). valued (once (λ v. int_le v z)) c.args.lines.now) limit
    ∙ valued-within (past_of c.args.partial.now) c.args.most c.requires.some c.args.lines.now c.requires.natural
