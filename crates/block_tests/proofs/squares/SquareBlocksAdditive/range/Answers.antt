use Rattle.std.proofs.Common.{◌≡◌, ◌<◌, ◌∙◌, ℕ, List, length, get_or, ap, arith}
use Rattle.std.specs.List.{All}
use Rattle.block_tests.specs.BlockSteps.{IsWhole}
use Rattle.block_tests.specs.BlockNetworks.{block_at, first_arrangement}
use Rattle.block_tests.proofs.Arranged.{length-first}
use Rattle.block_tests.proofs.Staged.{whole-at}
use Rattle.block_tests.proofs.Steps.{found-at}
use Rattle.block_tests.proofs.squares.SquareBlocksAdditive.range.Goals as goal

long : (k : ℕ) (blocks : List (List ℕ)) (g : ℕ) (x first : List ℕ) → All (IsWhole k) blocks → g < length blocks → x ≡ get_or blocks g x → first ≡ first_arrangement x → length first ≡ k
long k blocks g x first whole h e f =
    ap length f ∙ ap (λ counts. length (first_arrangement counts)) (found-at blocks g x h e) ∙ length-first (block_at blocks g) ∙ (whole-at k blocks g whole h).treatments

pub bounds-first-0 : goal.bounds-first-0
bounds-first-0 c = (let l = long c.args.self.now.treatments c.args.self.now.blocks.items c.args.stage c.index.result.now c.first-first.result.now c.args.self.now.sound.whole c.requires c.index.ensures c.first-first.ensures.first in omega (arith, l, c.args.self.now.sound.some))

pub overflow_sub-result : goal.overflow_sub-result
overflow_sub-result c = (let l = long c.args.self.now.treatments c.args.self.now.blocks.items c.args.stage c.index.result.now c.first-first.result.now c.args.self.now.sound.whole c.requires c.index.ensures c.first-first.ensures.first in omega (arith, l, c.args.self.now.sound.some))

pub bounds-first-first : goal.bounds-first-first
bounds-first-first c = (let l = long c.args.self.now.treatments c.args.self.now.blocks.items c.args.stage c.index.result.now c.first-first.result.now c.args.self.now.sound.whole c.requires c.index.ensures c.first-first.ensures.first in omega (arith, l, c.args.self.now.sound.some))
