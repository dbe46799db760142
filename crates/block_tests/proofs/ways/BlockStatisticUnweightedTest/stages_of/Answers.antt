use Rattle.std.proofs.Common.{◌∙◌, sym, inl, inr}
use Rattle.block_tests.specs.BlockTests.{block_counts, block_test}
use Rattle.block_tests.proofs.Fitting.{are-stages, bound-fits, bounded}
use Rattle.block_tests.proofs.SquareLaws.{squares-from-zero}
use Rattle.block_tests.proofs.ways.BlockStatisticUnweightedTest.stages_of.Goals as goal

pub page_stages-requires : goal.page_stages-requires
page_stages-requires c = rw c.requires (are-stages c.args.self.now c.blocks-fitting.ensures.fitting)

pub square_stages-requires : goal.square_stages-requires
square_stages-requires c =
    let fitting = c.blocks-fitting.ensures.fitting in
    record {
      stages = rw c.requires (are-stages c.args.self.now fitting);
      squares = rw (c.from_zero-squares.ensures, c.bound.ensures) (squares-from-zero c.args.self.now.blocks.treatments (block_test c.args.self.now).bound (block_counts c.args.self.now) (bounded c.args.self.now fitting.blocks (elim c.in-Friedman.is [
        | inl e ↦ inl (sym c.kind.ensures ∙ e)
        | inr e ↦ inr (sym c.kind.ensures ∙ e)
      ])) (bound-fits c.args.self.now fitting));
    }
