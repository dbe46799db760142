use Rattle.std.proofs.Common.{◌≤◌, ◌∙◌, subst, sym}
use Rattle.weights.specs.Labellings.{number_of_labellings}
use Rattle.weights.specs.declared.TheConstants.{MAX}
use Rattle.sample_reader.specs.Data.{data_of}
use Rattle.sample_reader.specs.Groups.{group_sizes}
use Rattle.shift_limits.specs.Limits.{AreShown, LimitsDivide}
use Rattle.shift_limits.proofs.Promises.{are-shown, limits-divide}
use Rattle.shift_limits.proofs.limits.Goals as goal

pub returns-clause-between : goal.returns-clause-between
returns-clause-between c =
    let groups = data_of c.args.groups.now in
    subst (LimitsDivide groups c.args.miss) (sym c.in_ok-told.ensures) (limits-divide groups c.args.miss)

pub returns-clause-shown : goal.returns-clause-shown
returns-clause-shown c =
    let groups = data_of c.args.groups.now in
    let fits : number_of_labellings (group_sizes groups) ≤ MAX = subst (λ sizes. number_of_labellings sizes ≤ MAX) (c.as_slice.ensures ∙ c.args.groups.now.counted) c.in-Some.ensures.0 in
    subst AreShown (sym c.in_ok-told.ensures) (are-shown groups c.args.miss c.requires.miss fits)
