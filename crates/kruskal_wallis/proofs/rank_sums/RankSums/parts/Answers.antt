use Rattle.std.proofs.Common.{arith, length, sym}
use Rattle.pooled_columns.proofs.GroupFacts.{room-of}
use Rattle.kruskal_wallis.proofs.RankKeys.{are-tabled, long, sizes, within-stages}
use Rattle.kruskal_wallis.proofs.rank_sums.RankSums.parts.Goals as goal

pub slice_bounds-numbers-end : goal.slice_bounds-numbers-end
slice_bounds-numbers-end c = omega (arith, long c.args.self.now c.args.stage c.args.remaining.now c.requires.sizes.partial c.requires.sizes.reached, c.args.self.now.right.squaring.few_rows)

pub slice_bounds-sizes-end : goal.slice_bounds-sizes-end
slice_bounds-sizes-end c = sym (room-of (length c.args.remaining.now) (omega (arith, long c.args.self.now c.args.stage c.args.remaining.now c.requires.sizes.partial c.requires.sizes.reached, c.args.self.now.right.squaring.few_rows)))

pub read_sizes-requires-clause-sizes : goal.read_sizes-requires-clause-sizes
read_sizes-requires-clause-sizes c = sizes c.args.self.now c.args.stage c.args.remaining.now c.requires.sizes.partial c.requires.sizes.reached

pub read_sizes-requires-clause-room : goal.read_sizes-requires-clause-room
read_sizes-requires-clause-room c = room-of (length c.args.remaining.now) (omega (arith, long c.args.self.now c.args.stage c.args.remaining.now c.requires.sizes.partial c.requires.sizes.reached, c.args.self.now.right.squaring.few_rows))

pub write_parts-requires-clause-stage : goal.write_parts-requires-clause-stage
write_parts-requires-clause-stage c = within-stages c.args.self.now c.args.stage c.args.remaining.now c.requires.sizes.partial c.requires.sizes.reached

pub write_parts-requires-clause-held : goal.write_parts-requires-clause-held
write_parts-requires-clause-held c = rw c.read_sizes.ensures (are-tabled c.args.self.now c.args.stage c.args.remaining.now c.requires.sizes.partial c.requires.sizes.reached c.args.self.now.later.right.wide)

pub write_parts-requires-2-clause-stage : goal.write_parts-requires-2-clause-stage
write_parts-requires-2-clause-stage c = within-stages c.args.self.now c.args.stage c.args.remaining.now c.requires.sizes.partial c.requires.sizes.reached

pub write_parts-requires-2-clause-held : goal.write_parts-requires-2-clause-held
write_parts-requires-2-clause-held c = rw c.read_sizes.ensures (are-tabled c.args.self.now c.args.stage c.args.remaining.now c.requires.sizes.partial c.requires.sizes.reached c.args.self.now.later.right.wide)
