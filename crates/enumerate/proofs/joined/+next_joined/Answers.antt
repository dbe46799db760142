use Rattle.enumerate.proofs.JoinedSteps.{step-none, step-part, step-rest}
use Rattle.enumerate.proofs.joined.+next_joined.Goals as goal

pub returns-then-next_joined : goal.returns-then-next_joined
returns-then-next_joined t c =
    step-rest c.args.lengths.now c.args.labels.now c.min-end.result c.split_at_mut-front.result.0.now c.split_at_mut-front.result.1.now c.in-len1-up.len_at_least c.min-end.ensures c.split_at_mut-front.ensures.front c.split_at_mut-front.ensures.back
    c.next_joined.result c.next_joined.new.labels c.if-next_joined.true c.next_joined.ensures

pub returns-then-not-next_labelling : goal.returns-then-not-next_labelling
returns-then-not-next_labelling t c =
    step-none c.args.lengths.now c.args.labels.now c.min-end.result c.split_at_mut-front.result.0.now c.split_at_mut-front.result.1.now c.in-len1-up.len_at_least c.min-end.ensures c.split_at_mut-front.ensures.front c.split_at_mut-front.ensures.back
    c.next_joined.result c.next_labelling.result c.next_joined.new.labels c.next_labelling.new.labels c.if-next_joined.false c.if-not-next_labelling.true c.next_joined.ensures c.next_labelling.ensures

pub returns : goal.returns
returns t c =
    step-part c.args.lengths.now c.args.labels.now c.min-end.result c.split_at_mut-front.result.0.now c.split_at_mut-front.result.1.now c.in-len1-up.len_at_least c.min-end.ensures c.split_at_mut-front.ensures.front c.split_at_mut-front.ensures.back
    c.next_joined.result c.next_labelling.result c.next_joined.new.labels c.next_labelling.new.labels c.begin_anew.new.labels c.if-next_joined.false c.if-not-next_labelling.false c.next_joined.ensures c.next_labelling.ensures c.begin_anew.ensures
