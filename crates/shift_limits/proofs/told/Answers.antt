use Rattle.std.proofs.Common.{◌≡◌, ℕ, ◌+◌, ◌-◌, ◌*◌, ◌∙◌, ℤ, List, FitsSigned, length, ap, arith, rules}
use Rattle.std.specs.Int.{w128}
use Rattle.std.proofs.lemmas.Int.{to_z-of_z}
use Rattle.weights.specs.Labellings.{number_of_labellings}
use Rattle.sample_reader.specs.Data.{data_of}
use Rattle.sample_reader.specs.Groups.{group_sizes}
use Rattle.shift_limits.specs.Differences.{difference_at, differences, middle_of}
use Rattle.shift_limits.specs.Limits.{limit_at, place_of_limits}
use Rattle.shift_limits.specs.LaterPairs.{greatest_to, labellings_below, misses_at_most}
use Rattle.shift_limits.proofs.Halving.{greatest-most, missed-part}
use Rattle.shift_limits.proofs.Promises.{same-limits}
use Rattle.shift_limits.proofs.told.Goals as goal

pub limits_at-lower-requires : goal.limits_at-lower-requires
limits_at-lower-requires c = rw c.place_of_limits-place.ensures (greatest-most (misses_at_most c.as_slice-sizes.result.now c.args.miss) (length c.as_slice-list.result.now))

pub overflow_mul-result : goal.overflow_mul-result
overflow_mul-result c =
    let sizes = c.args.groups.now.sizes in
    let place : c.place_of_limits-place.result ≡ greatest_to (misses_at_most sizes c.args.miss) (length c.as_slice-list.result.now) = c.place_of_limits-place.ensures ∙ ap (λ s. greatest_to (misses_at_most s c.args.miss) (length c.as_slice-list.result.now)) c.as_slice-sizes.ensures in
    let count : c.labellings_below.result ≡ labellings_below sizes (greatest_to (misses_at_most sizes c.args.miss) (length c.as_slice-list.result.now)) = c.labellings_below.ensures ∙ ap (λ s. labellings_below s c.place_of_limits-place.result) c.as_slice-sizes.ensures ∙ ap (labellings_below sizes) place in
    let part = missed-part sizes c.args.miss (length c.as_slice-list.result.now) c.requires.miss.part in
    omega (arith, part, count, c.requires.total, c.requires.fits)

pub returns : goal.returns
returns c =
    let groups = data_of c.args.groups.now in
    let miss = c.args.miss in
    let list : c.as_slice-list.result.now ≡ differences groups = c.as_slice-list.ensures.value ∙ c.in_ok-made.ensures.list in
    let sizes : c.as_slice-sizes.result.now ≡ group_sizes groups = c.as_slice-sizes.ensures ∙ c.args.groups.now.counted in
    let place : c.place_of_limits-place.result ≡ place_of_limits groups miss = c.place_of_limits-place.ensures ∙ ap (λ s. greatest_to (misses_at_most s miss) (length c.as_slice-list.result.now)) sizes ∙ ap (λ ds. greatest_to (misses_at_most (group_sizes groups) miss) (length ds)) list in
    let limit : (d : List ℤ → ℕ → ℤ) → limit_at c.place_of_limits-place.result (d c.as_slice-list.result.now c.place_of_limits-place.result) ≡ limit_at (place_of_limits groups miss) (d (differences groups) (place_of_limits groups miss)) = λ d. ap (λ ds. limit_at c.place_of_limits-place.result (d ds c.place_of_limits-place.result)) list ∙ ap (λ k. limit_at k (d (differences groups) k)) place in
    let fits : FitsSigned w128 c.middle_of.result = search rules in
    same-limits
    (ap length list)
    c.in_ok-made.ensures.places
    (to_z-of_z w128 c.middle_of.result fits ∙ c.middle_of.ensures ∙ ap middle_of list)
    (c.limits_at-lower.ensures.lower ∙ limit difference_at)
    (c.limits_at-lower.ensures.upper ∙ limit (λ ds k. difference_at ds (length ds + 1 - k)))
    (c.requires.total ∙ ap number_of_labellings c.args.groups.now.counted)
    (ap (λ n. 2 * n) (c.labellings_below.ensures ∙ ap (λ s. labellings_below s c.place_of_limits-place.result) sizes ∙ ap (labellings_below (group_sizes groups)) place))
