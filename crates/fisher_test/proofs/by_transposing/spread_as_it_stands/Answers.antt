use Rattle.std.proofs.Common.{refl}
use Rattle.stage_network.proofs.Following.{spread-follows}
use Rattle.table_reader.specs.TableLayout.{TableData}
use Rattle.fisher_test.specs.FisherExact.{fisher_test}
use Rattle.fisher_test.proofs.FisherTests.{bounded, shown}
use Rattle.fisher_test.proofs.TransposedSpreads.{rules-fit-lines, weights-fit}
use Rattle.fisher_test.proofs.by_transposing.spread_as_it_stands.Goals as goal

pub quick_stages_of-requires : goal.quick_stages_of-requires
quick_stages_of-requires c = rw c.first_tail.ensures (shown c.args.table.now).has

pub returns-clause-lines : goal.returns-clause-lines
returns-clause-lines c =
    let t : TableData = c.args.table.now in
    let follows = c.in_ok-stages.ensures c.first_tail.result (rw c.first_tail.ensures (shown t).has) refl in
    spread-follows (fisher_test t) (shown t) _ (rw c.first_tail.ensures at follows) c.in_ok-found.found c.in_ok-found.ensures

pub returns-clause-weights : goal.returns-clause-weights
returns-clause-weights c =
    let t : TableData = c.args.table.now in
    let follows = c.in_ok-stages.ensures c.first_tail.result (rw c.first_tail.ensures (shown t).has) refl in
    weights-fit t (bounded t c.made-made.ensures.fitting) c.in_ok-found.found
    (spread-follows (fisher_test t) (shown t) _ (rw c.first_tail.ensures at follows) c.in_ok-found.found c.in_ok-found.ensures)

pub returns-clause-rules : goal.returns-clause-rules
returns-clause-rules c =
    let t : TableData = c.args.table.now in
    let follows = c.in_ok-stages.ensures c.first_tail.result (rw c.first_tail.ensures (shown t).has) refl in
    rules-fit-lines t c.in_ok-found.found
    (spread-follows (fisher_test t) (shown t) _ (rw c.first_tail.ensures at follows) c.in_ok-found.found c.in_ok-found.ensures)
