use Rattle.std.proofs.Common.{◌≡◌, ◌∙◌, length, get_or, sym, arith, rules}
use Rattle.std.specs.Prelude.{nat_eq}
use Rattle.std.specs.List.{count_by}
use Rattle.std.proofs.lemmas.List.FromFn.{get_or-map-range_with_len}
use Rattle.weights.specs.Labellings.{counts_of}
use Rattle.weights.proofs.Sized.{length-counts_of}
use Rattle.label_network.proofs.Rows.{grown, written}
use Rattle.table_sums.proofs.sums.count_labels.Goals as goal

pub loop-i-preserved : goal.loop-i-preserved
loop-i-preserved c =
    let here : c.count_label.result ≡ get_or (counts_of (length c.args.counts.now) c.args.labels.now) c.loop-i.i 0 = c.count_label.ensures ∙ sym (get_or-map-range_with_len (λ i. count_by (λ l. nat_eq l i) c.args.labels.now) 0 (length c.args.counts.now) c.loop-i.i c.loop-i.i 0 (omega (arith, c.loop-i.invariant.long, c.loop-i-test.true)) (omega arith)) in
    record {
      long = search rules;
      filled = grown c.loop-i.counts (counts_of (length c.args.counts.now) c.args.labels.now) c.loop-i.i (c.count_label.result) 0 (omega (arith, c.loop-i.invariant.long, c.loop-i-test.true)) (omega (arith, length-counts_of (length c.args.counts.now) c.args.labels.now, c.loop-i.invariant.long, c.loop-i-test.true)) c.loop-i.invariant.filled here;
    }

pub returns : goal.returns
returns c = written c.loop-i.counts (counts_of (length c.args.counts.now) c.args.labels.now) c.loop-i.i (omega (arith, c.loop-i.invariant.long, c.loop-i-test.false, c.loop-i.auto.i-end)) (omega (arith, length-counts_of (length c.args.counts.now) c.args.labels.now, c.loop-i.invariant.long, c.loop-i-test.false, c.loop-i.auto.i-end)) c.loop-i.invariant.filled
