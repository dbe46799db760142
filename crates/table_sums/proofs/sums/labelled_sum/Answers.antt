use Rattle.std.proofs.Common.{length, get_or, take, rules, FitsSigned, ap, ◌∙◌, arith}
use Rattle.std.specs.Prelude.{pos}
use mir.Syntax.{w128}
use Rattle.std.proofs.lemmas.Int.{to_z-of_z}
use Rattle.weights.proofs.Sized.{length-counts_of}
use Rattle.table_sums.proofs.ColumnSums.{next-of, none-of, read, score-small, sum-first, sum-last, sum-next}
use Rattle.table_sums.proofs.sums.labelled_sum.Goals as goal

pub loop-j-init : goal.loop-j-init
loop-j-init c = record { room = search rules; reading = record { level = c.requires.whole.level; few = c.requires.whole.few }; sums = sum-first _ _ _ }

pub read_labels-later-requires : goal.read_labels-later-requires
read_labels-later-requires c = (read c.loop-j.invariant.reading c.loop-j-test.true).within

pub column_term-requires-clause-score : goal.column_term-requires-clause-score
column_term-requires-clause-score c =
    let v : FitsSigned w128 (get_or c.args.column_scores.now c.loop-j.j (pos 0)) = search rules in
    rw (to_z-of_z w128 (get_or c.args.column_scores.now c.loop-j.j (pos 0)) v) (score-small c.args.column_scores.now c.loop-j.j c.requires.column_sizes)

pub column_term-requires-clause-few : goal.column_term-requires-clause-few
column_term-requires-clause-few c = rw (c.read_labels-later.ensures.counts, c.loop-j.invariant.room) (read c.loop-j.invariant.reading c.loop-j-test.true).few

pub loop-j-preserved : goal.loop-j-preserved
loop-j-preserved c =
    let v : FitsSigned w128 (get_or c.args.column_scores.now c.loop-j.j (pos 0)) = search rules in
    let s : FitsSigned w128 c.plus-sum.result = search rules in
    let r : FitsSigned w128 c.column_term.result = search rules in
    let term = rw (to_z-of_z w128 (get_or c.args.column_scores.now c.loop-j.j (pos 0)) v, c.read_labels-later.ensures.counts, c.loop-j.invariant.room) at c.column_term.ensures.term in
    record {
      room = ap length c.read_labels-later.ensures.counts ∙ length-counts_of (length c.loop-j.counts) (take (get_or c.args.columns.now c.loop-j.j 0) c.loop-j.later.now) ∙ c.loop-j.invariant.room;
      reading = rw c.read_labels-later.ensures.rest (read c.loop-j.invariant.reading c.loop-j-test.true).next;
      sums = rw (to_z-of_z w128 c.plus-sum.result s, c.plus-sum.ensures, to_z-of_z w128 c.column_term.result r, c.read_labels-later.ensures.rest)
          (sum-next c.column_term.result (next-of c.args.column_scores.now c.loop-j.j (pos 0) (omega (arith, c.loop-j-test.true, c.requires.level))) (read c.loop-j.invariant.reading c.loop-j-test.true).split c.loop-j.invariant.sums c.column_term.ensures.small term);
    }

pub returns : goal.returns
returns c = sum-last (none-of c.args.column_scores.now c.loop-j.j (omega (arith, c.loop-j-test.false, c.requires.level))) c.loop-j.invariant.sums
