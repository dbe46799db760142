use Rattle.std.proofs.Common.{◌≡◌, ◌+◌, ◌++◌, List, [], ◌∷◌, length, refl, sym, ◌∙◌, arith}
use Rattle.std.specs.Prelude.{ℤ}
use Rattle.std.proofs.lemmas.List.{drop_all}
use Rattle.networks.proofs.Steps.{reached-next}
use Rattle.networks.proofs.whole.WholeRoomed.advance.Goals as goal

none : (xs : List ℤ) → length xs ≡ 0 → xs ≡ []
none [] e = refl
none (x ∷ xs) e = absurd (omega (arith, e))

pub returns : goal.returns
returns g c =
    let n = g.S.Stages.network c.args.self.now.stages.now in
    let key = n.next c.args._stage (c.args._room.now ++ c.args._partial.now) c.args._choice.now in
    let long : length key ≡ n.width = c.stages-lawful.ensures.lawful.long (c.args._stage + 1) key (reached-next n c.args._stage (c.args._room.now ++ c.args._partial.now) c.args._choice.now c.requires.reached c.requires.before c.requires.allowed) in
    none c.args._next.now (omega (arith, c.requires.next)) ∙ sym (drop_all n.width key (omega (arith, long)))
