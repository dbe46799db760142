use Rattle.std.proofs.Common.{◌≤◌, ◌≡◌, ℕ, List, length, ap, arith}
use Rattle.std.specs.List.{sum}
use Rattle.block_tests.specs.BlockNetworks.{first_arrangement}
use Rattle.block_tests.proofs.Arranged.{length-first}
use Rattle.block_tests.proofs.page.PageBlocksAdditive.range.Goals as goal

narrow : (counts first : List ℕ) → first ≡ first_arrangement counts → sum counts ≤ 8 → length first ≤ 8
narrow counts first e few = (let long = ap length e in omega (arith, long, length-first counts, few))

pub page_sum_back-requires : goal.page_sum_back-requires
page_sum_back-requires c = narrow c.behind-self.inside.block c.first-first.result.now c.first-first.ensures.first c.first-first.ensures.few

pub page_sum-requires : goal.page_sum-requires
page_sum-requires c = narrow c.behind-self.inside.block c.first-first.result.now c.first-first.ensures.first c.first-first.ensures.few
