use Rattle.std.proofs.Common.{◌∙◌, arith, length, rules, sym}
use Rattle.weights.specs.Labellings.{counts_of}
use Rattle.weights.proofs.Sized.{length-counts_of}
use Rattle.label_network.proofs.Rows.{grown, written}
use Rattle.ordered_samples.proofs.PairValues.{count-at}
use Rattle.ordered_samples.proofs.subjects.count_labels.Goals as goal

pub loop-i-preserved : goal.loop-i-preserved
loop-i-preserved c = record {
  long = search rules;
  filled = grown c.loop-i.counts (counts_of (length c.args.counts.now) c.args.labels.now) c.loop-i.i c.count_label.result 0 (omega (arith, c.loop-i.invariant.long, c.loop-i-test.true)) (omega (arith, length-counts_of (length c.args.counts.now) c.args.labels.now, c.loop-i-test.true)) c.loop-i.invariant.filled
      (c.count_label.ensures ∙ sym (count-at (length c.args.counts.now) c.loop-i.i c.args.labels.now c.loop-i-test.true));
}

pub returns : goal.returns
returns c = written c.loop-i.counts (counts_of (length c.args.counts.now) c.args.labels.now) c.loop-i.i (omega (arith, c.loop-i.invariant.long, c.loop-i-test.false)) (omega (arith, length-counts_of (length c.args.counts.now) c.args.labels.now, c.loop-i-test.false)) c.loop-i.invariant.filled
