-- From a key on, what closes and what stays open for a tail is all that is extreme.
use Rattle.std.proofs.Common.{◌≡◌, ℕ, zero, suc, ◌+◌, ◌*◌, ◌<◌, ◌≤◌, List, cond, refl, sym, ◌∙◌, ap, arith}
use Rattle.std.specs.Prelude.{ℤ}
use Rattle.std.specs.List.{sum_by, Contains}
use Rattle.std.proofs.lemmas.List.Elements.{recursion_from_All, All-contains_itself}
use Rattle.weights.specs.declared.tails.Tail.{Tail}
use Rattle.weights.proofs.Sums.{sum_by-plus, sum_by-same_where}
use Rattle.networks.specs.declared.stages.Verdict.{Verdict}
use Rattle.networks.specs.declared.stages.Verdict.TheVariants.{Inside, Outside, Undecided}
use Rattle.networks.specs.Network.{Network, IsReached}
use Rattle.networks.specs.Completions.{is_inside, total_weight, extreme_weight}
use Rattle.networks.specs.Laws.{IsLawful}
use Rattle.networks.specs.Opened.{is_open, is_undecided}
use Rattle.networks.proofs.Steps.{reached-next, extreme_weight-step}
use Rattle.stage_network.proofs.Conserved.{inside-sum, outside-sum}

-- what f says of the keys that are reached m stages on through open keys alone
abbrev pub openly : Network → Tail → ℕ → ℕ → (List ℤ → ℕ) → List ℤ → ℕ
openly n t zero g f k = cond (is_open n t g k) (f k) 0
openly n t (suc m) g f k =
    cond (is_open n t g k) (sum_by (λ c. n.weight g k c * openly n t m (g + 1) f (n.next g k c)) (n.choices g k)) 0

-- the weight that closes at a key, or at one of those that are reached openly from it in m stages
abbrev pub closing : Network → Tail → ℕ → ℕ → List ℤ → ℕ
closing n t zero g k = cond (is_inside (n.verdict t g k)) (total_weight n g k) 0
closing n t (suc m) g k =
    cond (is_inside (n.verdict t g k)) (total_weight n g k) 0
    + cond (is_open n t g k) (sum_by (λ c. n.weight g k c * closing n t m (g + 1) (n.next g k c)) (n.choices g k)) 0

-- over the choices of a key
pub over-choices : (n : Network) (g : ℕ) (k : List ℤ) (f h : List ℕ → ℕ) → ((c : List ℕ) → Contains (n.choices g k) c → f c ≡ h c) → sum_by f (n.choices g k) ≡ sum_by h (n.choices g k)
over-choices n g k f h same =
    sum_by-same_where (Contains (n.choices g k)) f h same (n.choices g k) (recursion_from_All (Contains (n.choices g k)) (n.choices g k) (All-contains_itself (n.choices g k)))

spread-out : (a b c : ℕ) → a * (b + c) ≡ a * b + a * c
spread-out a b c = grind arith

-- soundness, as sums
by_verdict : (v : Verdict) (b o e total : ℕ) → (v ≡ Inside → e ≡ total) → (v ≡ Outside → e ≡ 0) → (v ≡ Undecided → b + o ≡ e) → cond (is_inside v) total 0 + cond (is_undecided v) b 0 + cond (is_undecided v) o 0 ≡ e
by_verdict Inside b o e total i out u = omega (arith, i refl)
by_verdict Outside b o e total i out u = omega (arith, out refl)
by_verdict Undecided b o e total i out u = omega (arith, u refl)

by_last : (v : Verdict) (e total : ℕ) → (v ≡ Inside → e ≡ total) → (v ≡ Outside → e ≡ 0) → cond (is_inside v) total 0 + cond (is_undecided v) e 0 ≡ e
by_last Inside e total i out = omega (arith, i refl)
by_last Outside e total i out = omega (arith, out refl)
by_last Undecided e total i out = omega arith

module _ (n : Network) (l : IsLawful n) (t : Tail) where
  pub conserved : (m g e : ℕ) (k : List ℤ) → IsReached n g k → g + m ≡ e → e ≤ n.count → closing n t m g k + openly n t m g (extreme_weight n t e) k ≡ extreme_weight n t g k
  conserved zero g e k r is h =
      let same : e ≡ g = omega (arith, is) in
      let within : g ≤ n.count = omega (arith, same, h) in
      let on : openly n t zero g (extreme_weight n t e) k ≡ openly n t zero g (extreme_weight n t g) k = ap (λ j. openly n t zero g (extreme_weight n t j) k) same in
      omega (arith, on, by_last (n.verdict t g k) (extreme_weight n t g k) (total_weight n g k) (inside-sum n l t g k r within) (outside-sum n l t g k r within))
  conserved (suc m) g e k r is h =
      let before : g < n.count = omega (arith, is, h) in
      let within' : g ≤ n.count = omega (arith, before) in
      let next : (g + 1) + m ≡ e = omega (arith, is) in
      let w : List ℕ → ℕ = n.weight g k in
      let a : List ℕ → ℕ = λ c. closing n t m (g + 1) (n.next g k c) in
      let b : List ℕ → ℕ = λ c. openly n t m (g + 1) (extreme_weight n t e) (n.next g k c) in
      let each : (c : List ℕ) → Contains (n.choices g k) c → a c + b c ≡ extreme_weight n t (g + 1) (n.next g k c) = λ c allowed.
      conserved m (g + 1) e (n.next g k c) (reached-next n g k c r before allowed) next h in
      let all : sum_by (λ c. w c * a c) (n.choices g k) + sum_by (λ c. w c * b c) (n.choices g k) ≡ extreme_weight n t g k =
      sym (sum_by-plus (λ c. w c * a c) (λ c. w c * b c) (n.choices g k))
      ∙ over-choices n g k (λ c. w c * a c + w c * b c) (λ c. w c * extreme_weight n t (g + 1) (n.next g k c)) (λ c allowed. sym (spread-out (w c) (a c) (b c)) ∙ ap (λ j. w c * j) (each c allowed))
      ∙ sym (extreme_weight-step n t g k before) in
      by_verdict (n.verdict t g k) (sum_by (λ c. w c * a c) (n.choices g k)) (sum_by (λ c. w c * b c) (n.choices g k)) (extreme_weight n t g k) (total_weight n g k) (inside-sum n l t g k r within') (outside-sum n l t g k r within') (λ u. all)
