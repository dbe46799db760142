use Rattle.std.proofs.Common.{◌≡◌, ◌∙◌, ap, refl, sym, subst}
use Rattle.networks.specs.Addends.{Addends, additive_network}
use Rattle.networks.specs.GoesOn.{GoesOnAlike}
use Rattle.networks.specs.Judged.{judge_of}
use Rattle.networks.specs.Network.{Network}
use Rattle.networks.proofs.GoingOn.{itself-goes_on}
use Rattle.block_tests.specs.BlockNetworks.{line_addends, network_by, running_addends}
use Rattle.block_tests.specs.BlockTests.{block_counts, block_test}
use Rattle.block_tests.proofs.Fitting.{are-stages}
use Rattle.block_tests.proofs.AssignedOnward.{alike-onward}
use Rattle.block_tests.proofs.ways.page_onward.Goals as goal

pub page_stages-requires : goal.page_stages-requires
page_stages-requires c = rw c.requires.judge (are-stages c.args.test.now c.blocks-fitting.ensures.fitting)

pub returns : goal.returns
returns c =
    let tests = c.args.test.now in
    let n : Network = network_by running_addends tests in
    let same : n ≡ additive_network (line_addends (block_counts tests) (judge_of (block_test tests))) =
    ap (λ kind. additive_network (running_addends kind (block_test tests).bound tests.blocks.treatments (block_counts tests) (judge_of (block_test tests)))) c.requires.kind in
    let own : GoesOnAlike n n = record { wide = refl; goes_on = itself-goes_on n } in
    alike-onward tests _ (subst (λ (a : Addends). GoesOnAlike n (additive_network a)) (sym (c.in_ok-stages.ensures ∙ ap (line_addends (block_counts tests)) c.requires.judge)) (subst (GoesOnAlike n) same own)) c.args.stage c.requires.within
