-- The laws of a network of stages.
use Rattle.std.specs.Prelude.{◌≡◌, ◌≢◌, ℕ, ℤ, ◌≤◌, ◌<◌, List, [], length, AllPairs, Bool, true, false}
use Rattle.std.specs.List.{Contains, AllByRecursion}
use Rattle.weights.specs.declared.tails.Tail.{Tail}
use Rattle.weights.specs.declared.TheConstants.{MAX}
use Rattle.networks.specs.declared.stages.Verdict.{Verdict}
use Rattle.networks.specs.declared.stages.Verdict.TheVariants.{Inside, Outside, Undecided}
use Rattle.networks.specs.Network.{Network, IsReached}
use Rattle.networks.specs.Completions.{completions, total_weight, ends_inside}

-- each completion of each key that gets this verdict is extreme, or each is not
abbrev pub IsSound : Network → Verdict → Bool → Type 0
IsSound n v extreme =
    (t : Tail) (g : ℕ) (k : List ℤ) → IsReached n g k → g ≤ n.count → n.verdict t g k ≡ v
    → AllByRecursion (λ cs. ends_inside n t g k cs ≡ extreme) (completions n g k)

pub record IsLawful (n : Network) : Type 0 where
  -- a key has 1 to 16 numbers
  pub width_least : 1 ≤ n.width
  pub width_most : n.width ≤ 16
  pub long : (g : ℕ) (k : List ℤ) → IsReached n g k → length k ≡ n.width
  -- a reached key before the last stage has a choice, and every arc weighs at least 1
  pub some_choice : (g : ℕ) (k : List ℤ) → IsReached n g k → g < n.count → n.choices g k ≢ []
  pub weighty : (g : ℕ) (k : List ℤ) (c : List ℕ) → IsReached n g k
      → Contains (n.choices g k) c → 1 ≤ n.weight g k c
  -- the choices of a reached key are all different
  pub different : (g : ℕ) (k : List ℤ) → IsReached n g k → AllPairs ◌≢◌ (n.choices g k)
  -- there is none at the last stage
  pub ends : (k : List ℤ) → IsReached n n.count k → n.choices n.count k ≡ []
  -- the completions of the first key weigh at most MAX
  pub fits : total_weight n 0 n.first ≤ MAX
  -- a verdict is sound, and decided at the last stage
  pub inside : IsSound n Inside true
  pub outside : IsSound n Outside false
  pub decided : (t : Tail) (k : List ℤ) → IsReached n n.count k → n.verdict t n.count k ≢ Undecided
