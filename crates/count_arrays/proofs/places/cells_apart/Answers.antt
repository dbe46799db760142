use Rattle.std.proofs.Common.{◌≡◌, ◌*◌, ◌∙◌, arith}
use Rattle.std.specs.Prelude.{pos}
use Rattle.std.proofs.lemmas.Int.{ints}
use Rattle.count_arrays.specs.Rows.{stepped}
use Rattle.count_arrays.proofs.RowSums.{mapped, stepped-is}
use Rattle.count_arrays.proofs.places.cells_apart.Goals as goal

pub returns : goal.returns
returns c = mapped c.times_in.result (λ i. i * c.args.stride ≡ c.args.of) (λ i. stepped (pos 0) (pos c.args.stride) i ≡ pos c.args.of) (λ i e. stepped-is (pos 0) c.args.stride i ∙ (omega (arith, ints, e))) c.times_in.ensures
