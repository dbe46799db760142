use Rattle.std.proofs.Common.{rules, ◌≡◌, ◌∙◌, ap, arith, length, pos, sym}
use mir.Syntax.{w128}
use Rattle.std.proofs.lemmas.Int.{to_z-of_z}
use Rattle.label_network.specs.Meanings.{sizes_in}
use Rattle.label_network.proofs.Narrowing.{fits-self}
use Rattle.pooled_columns.proofs.GroupFacts.{room-of}
use Rattle.ordered_samples.proofs.PairFits.{pairs-most, points-most}
use Rattle.ordered_samples.proofs.PairKeys.{around, few, left, long, sizes}
use Rattle.ordered_samples.proofs.pair_counts.PairCountsScalarMeasure.later.Goals as goal

pub read_sizes-requires-clause-sizes : goal.read_sizes-requires-clause-sizes
read_sizes-requires-clause-sizes c = sizes c.args.self.now.pairs.items c.args.self.now.rows.items c.args.self.now.columns.items c.args.self.now.judge c.args.self.now.right c.args._stage c.args.room.now c.requires.partial c.requires.reached

pub read_sizes-requires-clause-room : goal.read_sizes-requires-clause-room
read_sizes-requires-clause-room c =
    let rows : c.len.result ≡ length c.args.self.now.rows.items = search rules in
    room-of c.len.result (omega (arith, rows, c.args.self.now.right.few_rows)) ∙ rows ∙ sym (long c.args.self.now.pairs.items c.args.self.now.rows.items c.args.self.now.columns.items c.args.self.now.judge c.args.self.now.right c.args._stage c.args.room.now c.requires.partial c.requires.reached)

pub subject_pairs-open-requires-clause-few : goal.subject_pairs-open-requires-clause-few
subject_pairs-open-requires-clause-few c = rw c.read_sizes.ensures (few c.args.self.now.pairs.items c.args.self.now.rows.items c.args.self.now.columns.items c.args.self.now.judge c.args.self.now.right c.args._stage c.args.room.now c.requires.partial c.requires.reached)

pub column_points-middle-requires-clause-left : goal.column_points-middle-requires-clause-left
column_points-middle-requires-clause-left c = rw (c.read_sizes.ensures, c.as_slice.ensures.value) (left c.args.self.now.pairs.items c.args.self.now.rows.items c.args.self.now.columns.items c.args.self.now.judge c.args.self.now.right c.args._stage c.args.room.now c.requires.partial c.requires.reached).within

pub column_points-middle-requires-clause-column : goal.column_points-middle-requires-clause-column
column_points-middle-requires-clause-column c = fits-self c.read_sizes.new.sizes

pub overflow_sub-middle : goal.overflow_sub-middle
overflow_sub-middle c =
    let open_is = rw (c.read_sizes.ensures, c.as_slice-pairs.ensures.value) at c.subject_pairs-open.ensures in
    let middle_is = rw (c.read_sizes.ensures, c.as_slice-pairs.ensures.value, c.as_slice.ensures.value) at c.column_points-middle.ensures in
    (around c.args.self.now.pairs.items c.args.self.now.rows.items (sizes_in c.args.room.now) c.subject_pairs-open.result c.column_points-middle.result open_is middle_is).0

pub overflow_add-middle : goal.overflow_add-middle
overflow_add-middle c =
    let open_is = rw (c.read_sizes.ensures, c.as_slice-pairs.ensures.value) at c.subject_pairs-open.ensures in
    let middle_is = rw (c.read_sizes.ensures, c.as_slice-pairs.ensures.value, c.as_slice.ensures.value) at c.column_points-middle.ensures in
    omega (
      arith,
      open_is,
      middle_is,
      pairs-most c.args.self.now.pairs.items (sizes_in c.args.room.now) c.args.self.now.right.pairs_are.few (few c.args.self.now.pairs.items c.args.self.now.rows.items c.args.self.now.columns.items c.args.self.now.judge c.args.self.now.right c.args._stage c.args.room.now c.requires.partial c.requires.reached),
      points-most c.args.self.now.rows.items (sizes_in c.args.room.now) (sizes_in c.args.room.now) c.args.self.now.right.few (left c.args.self.now.pairs.items c.args.self.now.rows.items c.args.self.now.columns.items c.args.self.now.judge c.args.self.now.right c.args._stage c.args.room.now c.requires.partial c.requires.reached).within (fits-self (sizes_in c.args.room.now)) c.args.self.now.pairs.items c.args.self.now.right.pairs_are.few,
    )

pub returns-clause-low : goal.returns-clause-low
returns-clause-low c =
    let open_is = rw (c.read_sizes.ensures, c.as_slice-pairs.ensures.value) at c.subject_pairs-open.ensures in
    let middle_is = rw (c.read_sizes.ensures, c.as_slice-pairs.ensures.value, c.as_slice.ensures.value) at c.column_points-middle.ensures in
    to_z-of_z w128 c.signed.result (search rules) ∙ c.signed.ensures ∙ ap pos (around c.args.self.now.pairs.items c.args.self.now.rows.items (sizes_in c.args.room.now) c.subject_pairs-open.result c.column_points-middle.result open_is middle_is).1

pub returns-clause-high : goal.returns-clause-high
returns-clause-high c =
    let open_is = rw (c.read_sizes.ensures, c.as_slice-pairs.ensures.value) at c.subject_pairs-open.ensures in
    let middle_is = rw (c.read_sizes.ensures, c.as_slice-pairs.ensures.value, c.as_slice.ensures.value) at c.column_points-middle.ensures in
    to_z-of_z w128 c.signed-2.result (search rules) ∙ c.signed-2.ensures ∙ ap pos (around c.args.self.now.pairs.items c.args.self.now.rows.items (sizes_in c.args.room.now) c.subject_pairs-open.result c.column_points-middle.result open_is middle_is).2
