use Rattle.std.proofs.Common.{◌≡◌}
use Rattle.weights.specs.declared.tails.Tail.TheVariants.{Two}
use Rattle.table_sums.specs.Tables.{is_two_by_two}
use Rattle.fisher_test.specs.Transposed.{IsServedBy}
use Rattle.fisher_test.proofs.TransposedParts.{both-sides}
use Rattle.fisher_test.proofs.by_transposing.quick_sum.Goals as goal

pub returns-in-Some : goal.returns-in-Some
returns-in-Some c asked =
    let served : IsServedBy c.args.table.now c.in-Some.transposed = rw c.in-Some.is at c.in_ok-transposed.ensures in
    let tail : c.args.tail ≡ Two = both-sides c.args.tail (is_two_by_two c.args.table.now) served.shape (c.requires asked) in
    rw tail c.sum_by_transposing.ensures
