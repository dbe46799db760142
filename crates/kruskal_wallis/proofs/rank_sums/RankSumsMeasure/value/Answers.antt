use Rattle.std.proofs.Common.{◌∙◌, ap, arith, length, sym}
use Rattle.kruskal_wallis.proofs.RankKeys.{partial_is}
use Rattle.kruskal_wallis.proofs.rank_sums.RankSumsMeasure.value.Goals as goal

pub squares_of-requires-clause-one_each : goal.squares_of-requires-clause-one_each
squares_of-requires-clause-one_each c =
    let m = c.args.self.now in
    ap length c.as_slice.ensures.value ∙ m.right.squaring.one_each
    ∙ sym (partial_is m (length m.later.columns.items) c.requires.room c.args.partial.now c.requires.reached).wide

pub squares_of-requires-clause-within : goal.squares_of-requires-clause-within
squares_of-requires-clause-within c =
    let m = c.args.self.now in
    rw c.as_slice.ensures.value (m.right.squaring.bounded c.args.partial.now (omega (arith, (partial_is m (length m.later.columns.items) c.requires.room c.args.partial.now c.requires.reached).small)))
