use Rattle.fisher_test.proofs.TransposedParts.{is-part}
use Rattle.fisher_test.proofs.by_transposing.sum_by_transposing.Goals as goal

pub in_ratio-requires-clause-some : goal.in_ratio-requires-clause-some
in_ratio-requires-clause-some c = (is-part c.requires.transposed c.frame-all.ensures.frame.total c.in_ok-found.ensures c.frame-of.ensures.frame.total).some

pub in_ratio-requires-clause-within : goal.in_ratio-requires-clause-within
in_ratio-requires-clause-within c = (is-part c.requires.transposed c.frame-all.ensures.frame.total c.in_ok-found.ensures c.frame-of.ensures.frame.total).within

pub in_ratio-requires-clause-whole : goal.in_ratio-requires-clause-whole
in_ratio-requires-clause-whole c = (is-part c.requires.transposed c.frame-all.ensures.frame.total c.in_ok-found.ensures c.frame-of.ensures.frame.total).whole

pub returns : goal.returns
returns c = (is-part c.requires.transposed c.frame-all.ensures.frame.total c.in_ok-found.ensures c.frame-of.ensures.frame.total).law c.in_ratio.result c.in_ratio.ensures
