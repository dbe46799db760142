use Rattle.std.proofs.Common.{◌≡◌, ◌++◌, ◌∷◌, [], length, rules}
use Rattle.record_reader.proofs.Pieces.{are-all, pushed}
use Rattle.record_reader.proofs.fields.Fields.push.Goals as goal

pub invariant_of-self-2 : goal.invariant_of-self-2
invariant_of-self-2 c =
    let all = are-all c.self.view_is c.self.invariant in
    let ends : c.push.new.self.items ≡ c.self.inside.ends.items ++ length c.extend_from_slice.new.self.items ∷ [] = search rules in
    (pushed c.args.field.now all c.in_ok-extend_from_slice.ensures.items ends).cuts

pub returns-clause-ok : goal.returns-clause-ok
returns-clause-ok c =
    let all = are-all c.self.view_is c.self.invariant in
    let ends : c.push.new.self.items ≡ c.self.inside.ends.items ++ length c.extend_from_slice.new.self.items ∷ [] = search rules in
    (pushed c.args.field.now all c.in_ok-extend_from_slice.ensures.items ends).view
