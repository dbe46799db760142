use Rattle.std.proofs.Common.{◌≡◌, ◌∙◌, ap, arith, length, pos, refl, rules, sym, to_z}
use mir.Syntax.{w128}
use Rattle.std.specs.List.{sum}
use Rattle.weights.proofs.Centred.{framed, rules-fit}
use Rattle.block_tests.specs.BlockNetworks.{arrangement_test}
use Rattle.block_tests.specs.BlockTests.{page_sum}
use Rattle.block_tests.proofs.Arranged.{length-first}
use Rattle.block_tests.proofs.OneBlock.{arrangements-centred, arrangements-some, arrangements-total}
use Rattle.block_tests.proofs.page.BlockFramed.frame.Goals as goal

pub page_sum-statistic-requires : goal.page_sum-statistic-requires
page_sum-statistic-requires c =
    let long : length c.first-cells.result.now ≡ sum c.args.self.now = ap length c.first-cells.ensures.first ∙ length-first c.args.self.now in
    omega (arith, long, c.first-cells.ensures.few)

pub returns-clause-frame : goal.returns-clause-frame
returns-clause-frame c =
    let observed : to_z w128 c.page_sum-statistic.result ≡ pos c.page_sum-statistic.result = search rules in
    framed 0 (pos 0) (arrangement_test c.args.self.now) _ refl (observed ∙ ap pos (c.page_sum-statistic.ensures.is ∙ ap (page_sum 1) c.first-cells.ensures.first)) refl (c.number.ensures ∙ sym (arrangements-total c.args.self.now)) c.one_sided.ensures

pub returns-clause-fits : goal.returns-clause-fits
returns-clause-fits c = rules-fit (arrangement_test c.args.self.now) (arrangements-centred c.args.self.now)

pub returns-clause-some : goal.returns-clause-some
returns-clause-some c = arrangements-some c.args.self.now
