use Rattle.std.proofs.Common.{ℕ, arith, subst, sym}
use Rattle.std.proofs.lemmas.Result.{IfOk-weaker}
use Rattle.networks.specs.Addends.{Addends, additive_network}
use Rattle.networks.specs.Follows.{Follows}
use Rattle.networks.specs.GoesOn.{GoesOnAlike}
use Rattle.networks.specs.Network.{Network}
use Rattle.networks.specs.declared.verdicts.Judge.{Judge}
use Rattle.block_tests.specs.BlockNetworks.{network_by, running_addends, square_addends}
use Rattle.block_tests.specs.BlockSteps.{AreSquares}
use Rattle.block_tests.specs.BlockTests.{block_counts, block_test}
use Rattle.block_tests.proofs.Fitting.{are-stages, blocks-many, bound-fits, bounded, squares-follow, squares-go_on}
use Rattle.block_tests.proofs.ways.centred_stages.Goals as goal

pub squares_from_mean-squares-requires : goal.squares_from_mean-squares-requires
squares_from_mean-squares-requires c =
    let tests = c.args.test.now in
    let f = c.blocks-blocks.ensures.fitting in
    rw (c.blocks-blocks.ensures.blocks, c.treatments.ensures, c.bound.ensures) (record {
      few = omega (arith, blocks-many tests f.blocks, f.blocks.few_enough);
      some = omega (arith, f.blocks.at_least_two);
      bounded = bounded tests f.blocks c.requires.kind;
      fits = bound-fits tests f;
    })

pub square_stages-requires : goal.square_stages-requires
square_stages-requires c =
    let tests = c.args.test.now in
    let f = c.blocks-blocks.ensures.fitting in
    record {
      stages = rw c.requires.judge (are-stages tests f);
      squares = rw (c.blocks-blocks.ensures.blocks, c.treatments.ensures) at c.squares_from_mean-squares.ensures.squares;
    }

pub returns-clause-follows : goal.returns-clause-follows
returns-clause-follows c =
    let tests = c.args.test.now in
    let f = c.blocks-blocks.ensures.fitting in
    let squares : AreSquares tests.blocks.treatments (block_counts tests) c.squares_from_mean-squares.result = rw (c.blocks-blocks.ensures.blocks, c.treatments.ensures) at c.squares_from_mean-squares.ensures.squares in
    IfOk-weaker c.square_stages.result _ _ (λ s e t. subst (λ (a : Addends). Follows (block_test tests) t (additive_network a)) (sym e) (rw (← c.requires.judge) at (squares-follow tests f c.squares_from_mean-squares.result squares t c.requires.kind))) c.square_stages.ensures

pub returns-clause-goes_on : goal.returns-clause-goes_on
returns-clause-goes_on c =
    let tests = c.args.test.now in
    let f = c.blocks-blocks.ensures.fitting in
    let n : Network = network_by running_addends tests in
    let k : ℕ = tests.blocks.treatments in
    let squares : AreSquares k (block_counts tests) c.squares_from_mean-squares.result = rw (c.blocks-blocks.ensures.blocks, c.treatments.ensures) at c.squares_from_mean-squares.ensures.squares in
    let own = squares-go_on tests f c.squares_from_mean-squares.result squares c.requires.kind in
    let here = subst (λ (j : Judge). GoesOnAlike n (additive_network (square_addends c.squares_from_mean-squares.result k (block_counts tests) j))) (sym c.requires.judge) own in
    IfOk-weaker c.square_stages.result _ _ (λ s e. subst (λ (a : Addends). GoesOnAlike n (additive_network a)) (sym e) here) c.square_stages.ensures
