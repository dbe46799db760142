use Rattle.zelen_test.proofs.SumWalk.{old-in, step-found, step-none}
use Rattle.zelen_test.proofs.sum_walk.next_with_sum.Goals as goal

pub move_on-requires-clause-member : goal.move_on-requires-clause-member
move_on-requires-clause-member c = old-in c.args.strata.now c.args.sum c.args.labels.now c.requires.member

pub returns-then-move_on : goal.returns-then-move_on
returns-then-move_on c = step-found c.args.strata.now c.args.sum c.args.labels.now c.requires.member c.move_on.new.labels c.if-move_on.ensures

pub returns : goal.returns
returns c = step-none c.args.strata.now c.args.sum c.args.labels.now c.requires.member c.move_on.new.labels c.go_back.new.labels c.if-move_on.ensures c.go_back.ensures
