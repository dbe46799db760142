use Rattle.std.proofs.Common.{◌≤◌, ◌*◌, ◌∙◌, ap, arith, refl}
use Rattle.std.proofs.lemmas.Result.{err_from_is_err_and}
use Rattle.weights.specs.declared.TheConstants.{MAX}
use Rattle.weights.proofs.Centred.{past-limit}
use Rattle.scores.specs.PlaceScores.{common_multiple}
use Rattle.sample_reader.specs.Data.{data_of}
use Rattle.sample_reader.specs.Groups.{group_sizes}
use Rattle.kruskal_wallis.specs.KruskalWallis.{ScoredGroups, size_factors}
use Rattle.kruskal_wallis.proofs.FittingKruskalWallis.{are-found, multiple-some, multiple-wide, scale-fits, scores-refused}
use Rattle.pooled_columns.proofs.GroupFacts.{none-empty}
use Rattle.kruskal_wallis.proofs.group_scores.made_of.Goals as goal

pub returns-in_err-made : goal.returns-in_err-made
returns-in_err-made c =
    let p = err_from_is_err_and c.from_residual-in_err-made.result c.from_residual-in_err-made.ensures.1 in
    rw (p.1, p.2) (scores-refused c.args.kind c.args.groups.now c.in_err-made.field-0.0 c.in_err-made.ensures)

pub returns-in_default : goal.returns-in_default
returns-in_default c =
    let none = rw (c.as_slice.ensures ∙ c.in_ok-sizes.ensures ∙ c.args.groups.now.counted) at c.in_default.ensures.least in
    multiple-wide c.args.kind c.args.groups.now (past-limit (common_multiple (group_sizes (data_of c.args.groups.now))) none)

pub times_square-requires : goal.times_square-requires
times_square-requires c =
    rw (c.in-Some.ensures.least.1, (c.as_slice.ensures ∙ c.in_ok-sizes.ensures ∙ c.args.groups.now.counted)) (multiple-some (group_sizes (data_of c.args.groups.now)) (none-empty c.args.groups.now))

pub overflow_mul-scale : goal.overflow_mul-scale
overflow_mul-scale c =
    let samples : ScoredGroups = record { kind = c.args.kind; groups = data_of c.args.groups.now } in
    let found = are-found c.args.kind c.args.groups.now _ _ _ _ c.in-Some-times_square.bound (c.as_slice.ensures ∙ c.in_ok-sizes.ensures ∙ c.args.groups.now.counted) c.in_ok-made.ensures.scores c.in-Some.ensures.least.1 c.max.ensures c.in-Some-times_square.ensures c.requires in
    let square : c.in_ok-made.made.scored.scale * c.in_ok-made.made.scored.scale ≤ MAX = rw found.scores.scale (scale-fits samples found.fitting) in
    omega (arith, square)

pub returns : goal.returns
returns c =
    let found = are-found c.args.kind c.args.groups.now _ _ _ _ c.in-Some-times_square.bound (c.as_slice.ensures ∙ c.in_ok-sizes.ensures ∙ c.args.groups.now.counted) c.in_ok-made.ensures.scores c.in-Some.ensures.least.1 c.max.ensures c.in-Some-times_square.ensures c.requires in
    record {
      sizes = c.in_ok-sizes.ensures ∙ c.args.groups.now.counted;
      labels = c.in_ok-made.ensures.labels;
      factors = c.in_ok-factors.ensures ∙ ap size_factors (c.as_slice-2.ensures ∙ c.in_ok-sizes.ensures ∙ c.args.groups.now.counted);
      bound = found.bound_is;
      scores = found.scores.list;
      sum = found.scores.sum;
      column_sizes = c.in_ok-made.ensures.column_sizes;
      column_scores = c.in_ok-made.ensures.column_scores;
      scale = rw (found.multiple_is, found.scores.scale) refl;
      fitting = found.fitting;
    }
