use Rattle.std.proofs.Common.{◌∙◌, subst}
use Rattle.std.specs.List.Sorted.{IsPermutation}
use Rattle.completion_bounds.proofs.FallingSizes.{reversed_is}
use Rattle.completion_bounds.proofs.fillings.fall.Goals as goal

pub returns : goal.returns
returns c =
    let same : IsPermutation c.args.sizes.now c.sort_unstable.new.self = subst (λ ms. IsPermutation ms c.sort_unstable.new.self) c.copy_from_slice.ensures.after c.sort_unstable.ensures.permutation in
    c.reverse.ensures.after ∙ reversed_is c.args.sizes.now c.sort_unstable.new.self same c.sort_unstable.ensures.sorted
