use Rattle.std.proofs.Common.{rules, ◌≡◌, ◌∙◌, arith, length, sym}
use Rattle.pooled_columns.proofs.GroupFacts.{room-of}
use Rattle.ordered_samples.proofs.PairKeys.{choice, left, long, sizes}
use Rattle.ordered_samples.proofs.pair_counts.PairCountsScalarMeasure.number.Goals as goal

pub read_sizes-requires-clause-sizes : goal.read_sizes-requires-clause-sizes
read_sizes-requires-clause-sizes c = sizes c.args.self.now.pairs.items c.args.self.now.rows.items c.args.self.now.columns.items c.args.self.now.judge c.args.self.now.right c.args._stage c.args.room.now c.requires.partial c.requires.move.reached

pub read_sizes-requires-clause-room : goal.read_sizes-requires-clause-room
read_sizes-requires-clause-room c =
    let rows : c.len.result ≡ length c.args.self.now.rows.items = search rules in
    room-of c.len.result (omega (arith, rows, c.args.self.now.right.few_rows)) ∙ rows ∙ sym (long c.args.self.now.pairs.items c.args.self.now.rows.items c.args.self.now.columns.items c.args.self.now.judge c.args.self.now.right c.args._stage c.args.room.now c.requires.partial c.requires.move.reached)

pub column_points-requires-clause-left : goal.column_points-requires-clause-left
column_points-requires-clause-left c = rw (c.read_sizes.ensures, c.as_slice-2.ensures.value) (left c.args.self.now.pairs.items c.args.self.now.rows.items c.args.self.now.columns.items c.args.self.now.judge c.args.self.now.right c.args._stage c.args.room.now c.requires.partial c.requires.move.reached).within

pub column_points-requires-clause-column : goal.column_points-requires-clause-column
column_points-requires-clause-column c = rw c.read_sizes.ensures (choice c.args.self.now.pairs.items c.args.self.now.rows.items c.args.self.now.columns.items c.args.self.now.judge c.args.self.now.right c.args._stage c.args.room.now c.requires.partial c.requires.move.reached c.args.choice.now c.requires.move.allowed).fitting
