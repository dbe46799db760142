-- The toss of a coin is a lawful network.
use Rattle.std.proofs.Common.{◌≡◌, ◌≢◌, ℕ, cond, zero, suc, ◌<◌, ◌≤◌, ◌-◌, nat_eq, List, [], ◌∷◌, length, AllPairs, Bool, true, false, refl, sym, arith}
use Rattle.std.specs.Prelude.{ℤ, pos, int_le, slice_index_or}
use Rattle.std.proofs.lemmas.Bool.Decides.{nat_tests}
use Rattle.std.specs.List.{AllByRecursion}
use Rattle.weights.specs.declared.tails.Tail.{Tail}
use Rattle.networks.specs.declared.stages.Verdict.{Verdict}
use Rattle.networks.specs.declared.stages.Verdict.TheVariants.{Inside, Outside, Undecided}
use Rattle.networks.specs.Network.{IsReached, pending}
use Rattle.networks.specs.Completions.{completions, ends_inside, total_weight}
use Rattle.networks.specs.Laws.{IsLawful, IsSound}
use Rattle.networks.proofs.Apart.{none_apart, two_apart}
use Rattle.worked_surface.specs.OneToss.{one_toss, both_sides, seen}

-- a stage is the toss or the end
past : (g : ℕ) → suc g ≤ 1 → g ≡ 0
past g within = omega (arith, within)

long : (g : ℕ) (k : List ℤ) → IsReached one_toss g k → length k ≡ 1
long zero k reached = rw reached refl
long (suc g) k reached = rw reached.5 refl

some : (g : ℕ) (k : List ℤ) → g < 1 → both_sides g k ≢ []
some zero k before none = cc
some (suc g) k before none = omega (arith, before)

different : (g : ℕ) (k : List ℤ) → AllPairs {X = List ℕ} ◌≢◌ (both_sides g k)
different zero k = two_apart (0 ∷ []) (1 ∷ []) (λ same. cc)
different (suc g) k = none_apart

-- at the end a completion has no choice, and the verdict says what is so
of-end : (k : List ℤ) (v : Verdict) (t : Tail) (extreme : Bool) → seen 1 k ≡ v → (v ≡ Inside → extreme ≡ true) → (v ≡ Outside → extreme ≡ false) → v ≢ Undecided
    → AllByRecursion (λ cs. ends_inside one_toss t 1 k cs ≡ extreme) (completions one_toss 1 k)
of-end k Inside t extreme is inside outside known = (rw (is, inside refl) refl, tt)
of-end k Outside t extreme is inside outside known = (rw (is, outside refl) refl, tt)
of-end k Undecided t extreme is inside outside known = absurd (known refl)

sound : (v : Verdict) (extreme : Bool) → (v ≡ Inside → extreme ≡ true) → (v ≡ Outside → extreme ≡ false) → v ≢ Undecided → IsSound one_toss v extreme
sound v extreme inside outside known t zero k reached within is = absurd (known (sym is))
sound v extreme inside outside known t (suc zero) k reached within is = of-end k v t extreme is inside outside known
sound v extreme inside outside known t (suc (suc g)) k reached within is = absurd (omega (arith, within))

decided : (b : Bool) → cond b Inside Outside ≢ Undecided
decided true none = cc
decided false none = cc

pub one_toss-lawful : IsLawful one_toss
unfolding total_weight
one_toss-lawful = record {
  width_least = omega arith;
  width_most = omega arith;
  long = long;
  some_choice = λ g k reached before. some g k before;
  weighty = λ g k c reached allowed. omega arith;
  different = λ g k reached. different g k;
  ends = λ k reached. refl;
  fits = omega arith;
  inside = sound Inside true (λ e. refl) (λ e. absurd cc) (λ e. cc);
  outside = sound Outside false (λ e. absurd cc) (λ e. refl) (λ e. cc);
  decided = λ t k reached. decided (int_le (pos 1) (slice_index_or k 0 (pos 0)));
}

-- ---- what a stage has

no-first : (g : ℕ) → nat_eq (suc g) 0 ≡ false
no-first g = grind (arith, nat_tests)

pub sides-pending : (g : ℕ) (k : List ℤ) → both_sides g k ≡ pending one_toss g k (nat_eq g 0) (0 ∷ [])
sides-pending zero k = refl
sides-pending (suc g) k = rw (no-first g) refl

pub rest-first : (g : ℕ) (k : List ℤ) → g ≡ 0 → total_weight one_toss g k ≡ 2
unfolding total_weight
rest-first zero k is = refl
rest-first (suc g) k is = absurd (omega (arith, is))

pub rest-end : (g : ℕ) (k : List ℤ) → (g ≡ 0 → ⊥) → total_weight one_toss g k ≡ 1
unfolding total_weight
rest-end zero k not = absurd (not refl)
rest-end (suc g) k not = let over : 1 - suc g ≡ 0 = omega arith in rw over refl
