use Rattle.std.proofs.Common.{rules, ◌≡◌, ap, ◌∙◌, sym, subst, FitsSigned, to_z, of_z}
use Rattle.std.specs.Prelude.{reverse}
use Rattle.std.specs.Int.{w128}
use Rattle.std.proofs.lemmas.Int.{to_z-of_z}
use Rattle.completion_bounds.specs.Pairings.{paired, row_units, later_units, IsLeastPairing}
use Rattle.completion_bounds.proofs.Ascending.{units_ascend, later_units_ascend}
use Rattle.completion_bounds.proofs.Rearranged.{is_least}
use Rattle.completion_bounds.proofs.Runs.{later_units-reverse}
use Rattle.completion_bounds.proofs.pairings.least_linear.Goals as goal

pub returns : goal.returns
returns c =
    let xs = row_units c.args.rows.now in
    let ys = later_units c.args.from c.args.columns.now in
    let f : FitsSigned w128 c.pair_runs.result = search rules in
    let value : to_z w128 (of_z w128 c.pair_runs.result) ≡ paired xs (reverse ys) = to_z-of_z w128 _ f ∙ c.pair_runs.ensures ∙ ap (paired xs) (later_units-reverse c.args.from c.args.columns.now) in
    subst (IsLeastPairing xs ys) (sym value) (is_least xs ys (units_ascend c.args.rows.now c.requires.rows_ascend) (later_units_ascend c.args.from c.args.columns.now c.requires.columns_ascend) c.requires.level)
