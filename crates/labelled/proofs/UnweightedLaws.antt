-- What a test has whose rearrangements all weigh 1 and whose both sides go by distance.
use Rattle.std.proofs.Common.{◌≡◌, true, ℕ, ◌≤◌, List, [], ◌∷◌, arith}
use Rattle.std.specs.Prelude.{ℤ}
use Rattle.std.specs.List.{AllByRecursion}
use Rattle.weights.specs.Conditional.{ConditionalTest, total}
use Rattle.weights.specs.Frames.{first_tail}
use Rattle.weights.specs.declared.TheConstants.{MAX}
use Rattle.weights.specs.declared.tails.Tail.{Tail}
use Rattle.weights.proofs.Centred.{IsCentred, measured-is, rules-fit, shown}
use Rattle.networks.specs.Follows.{Follows}
use Rattle.networks.specs.Network.{Network}
use Rattle.networks.specs.Written.{RunsFor}
use Rattle.labelled.specs.UnweightedTests.{CanBeAnswered}

all-weighty : (weight : List ℕ → ℕ) → ((r : List ℕ) → weight r ≡ 1) → (rs : List (List ℕ)) → AllByRecursion (λ r. 1 ≤ weight r) rs
all-weighty weight one [] = tt
all-weighty weight one (r ∷ rs) = (omega (arith, one r), all-weighty weight one rs)

pub can-be-answered : {q : ℕ} {c : ℤ} {n written : Network} (test : ConditionalTest) → IsCentred test q c → ((r : List ℕ) → test.weight r ≡ 1) → test.has_tail (first_tail test) ≡ true → 1 ≤ total test → total test ≤ MAX
    → ((tail : Tail) → Follows test tail n) → ((tail : Tail) → RunsFor n written tail) → CanBeAnswered test n written
can-be-answered test centred one has some fits follows runs = record {
  unweighted = one;
  by_statistic = measured-is test centred.by;
  shown = shown test centred.by has (all-weighty test.weight one test.reference);
  rules_fit = rules-fit test centred;
  some = some;
  total_fits = fits;
  follows = follows;
  written = runs;
}
