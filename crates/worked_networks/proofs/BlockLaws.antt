-- The worked blocks keep the laws.
use Rattle.std.proofs.Common.{◌≡◌, ℕ, ◌<◌, List, [], ◌∷◌, refl, ap, arith, lit≤}
use Rattle.std.specs.Prelude.{pos, slice_index}
use Rattle.std.specs.List.{Contains}
use Rattle.std.proofs.lemmas.Int.{ints}
use Rattle.std.proofs.lemmas.List.Elements.{All-contains, All-from_recursion}
use Rattle.weights.specs.declared.tails.Tail.{Tail}
use Rattle.weights.specs.declared.tails.Tail.TheVariants.{Less, Greater, Two}
use Rattle.weights.specs.Rules.{RuleFits}
use Rattle.networks.specs.Judged.{rule_in}
use Rattle.networks.specs.SoundAddends.{IsAdditive}
use Rattle.networks.proofs.Apart.{two_apart}
use Rattle.worked_networks.specs.Blocks.{block_choices, worked_blocks}

-- the rules fit the first interval
low : (t : Tail) → RuleFits (rule_in worked_blocks.judge t) (pos 32)
low Less = record { least_factor = lit≤ tt; observed = lit≤ tt; times = lit≤ tt; apart = lit≤ tt }
low Greater = record { least_factor = lit≤ tt; observed = lit≤ tt; times = lit≤ tt; apart = lit≤ tt }
low Two = record { least_factor = lit≤ tt; observed = lit≤ tt; times = lit≤ tt; apart = lit≤ tt }

high : (t : Tail) → RuleFits (rule_in worked_blocks.judge t) (pos 128)
high Less = record { least_factor = lit≤ tt; observed = lit≤ tt; times = lit≤ tt; apart = lit≤ tt }
high Greater = record { least_factor = lit≤ tt; observed = lit≤ tt; times = lit≤ tt; apart = lit≤ tt }
high Two = record { least_factor = lit≤ tt; observed = lit≤ tt; times = lit≤ tt; apart = lit≤ tt }

pub blocks_additive : IsAdditive worked_blocks
blocks_additive = record {
  slots_some = lit≤ tt;
  slots_few = lit≤ tt;
  some_choice = λ g b e. cc;
  different = λ g b. two_apart (0 ∷ 1 ∷ []) (1 ∷ 0 ∷ []) (λ e. (let rank : 0 ≡ 1 = ap (λ c. slice_index c 0) e in omega (arith, rank)));
  weighty = λ g c b m. omega arith;
  fits = lit≤ tt;
  between = λ g b. (record { wide = refl; between = ((omega (arith, ints), omega (arith, ints)), ((omega (arith, ints), omega (arith, ints)), tt)) }, (record { wide = refl; between = ((omega (arith, ints), omega (arith, ints)), ((omega (arith, ints), omega (arith, ints)), tt)) }, tt));
  sums_fit = lit≤ tt;
  measured = record {
    least_some = λ g b. omega (arith, ints);
    most_some = λ g b. omega (arith, ints);
    each = λ g. 6;
    alike = λ g b. (refl, (refl, tt));
    bounded = lit≤ tt;
    within = lit≤ tt;
    beside_is = refl;
    bound_fits = lit≤ tt;
    reach_small = lit≤ tt;
    centre_small = lit≤ tt;
    beside_small = lit≤ tt;
  };
  low_fits = record { fits = low };
  high_fits = record { fits = high };
}

-- a choice is one of the two
pub record IsPair (c : List ℕ) : Type 0 where
  pub first : slice_index c 0 < 2
  pub second : slice_index c 1 < 2

pub pair_of : (c : List ℕ) → Contains block_choices c → IsPair c
pair_of c m = All-contains IsPair block_choices c (All-from_recursion IsPair block_choices (record { first = omega arith; second = omega arith }, (record { first = omega arith; second = omega arith }, tt))) m
