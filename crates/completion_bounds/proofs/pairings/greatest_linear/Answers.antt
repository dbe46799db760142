use Rattle.std.proofs.Common.{rules, ◌≡◌, ◌∙◌, sym, subst, FitsSigned, to_z, of_z}
use Rattle.std.specs.Int.{w128}
use Rattle.std.proofs.lemmas.Int.{to_z-of_z}
use Rattle.completion_bounds.specs.Pairings.{paired, row_units, later_units, IsGreatestPairing}
use Rattle.completion_bounds.proofs.Ascending.{units_ascend, later_units_ascend}
use Rattle.completion_bounds.proofs.Rearranged.{is_greatest}
use Rattle.completion_bounds.proofs.pairings.greatest_linear.Goals as goal

pub returns : goal.returns
returns c =
    let xs = row_units c.args.rows.now in
    let ys = later_units c.args.from c.args.columns.now in
    let f : FitsSigned w128 c.pair_runs.result = search rules in
    let value : to_z w128 (of_z w128 c.pair_runs.result) ≡ paired xs ys = to_z-of_z w128 _ f ∙ c.pair_runs.ensures in
    subst (IsGreatestPairing xs ys) (sym value) (is_greatest xs ys (units_ascend c.args.rows.now c.requires.rows_ascend) (later_units_ascend c.args.from c.args.columns.now c.requires.columns_ascend) c.requires.level)
