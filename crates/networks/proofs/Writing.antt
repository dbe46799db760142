-- A network whose keys stand for those of another opens as many: each running key is open where its written one is.
use Rattle.std.proofs.Common.{◌≡◌, ℕ, zero, suc, ◌*◌, ◌<◌, ◌≤◌, List, [], ◌∷◌, Bool, true, false, cond, inl, inr, refl, sym, ◌∙◌, ap, arith}
use Rattle.std.specs.Prelude.{ℤ}
use Rattle.std.specs.List.{sum_by, Contains}
use Rattle.std.specs.Ordering.{is_eq}
use Rattle.std.proofs.lemmas.List.Sums.{sum_by-cons}
use Rattle.weights.specs.declared.tails.Tail.{Tail}
use Rattle.weights.specs.Conditional.{ConditionalTest}
use Rattle.weights.proofs.Members.{Contains-here, Contains-later}
use Rattle.node_pool.specs.Nodes.{key_eq}
use Rattle.node_pool.proofs.Puts.{alike, same_key}
use Rattle.networks.specs.Completions.{over_arcs}
use Rattle.networks.specs.Network.{Network, IsReached}
use Rattle.networks.specs.Follows.{OpenAlike}
use Rattle.networks.specs.Opened.{opened_below}
use Rattle.networks.specs.Written.{AreWritten, StandsFor}
use Rattle.networks.proofs.Elements.{term-le-sum_by}
use Rattle.networks.proofs.Images.{OpensImages, opened-images}

-- ---- where something weighs, an arc leads

pub one_where : Bool → ℕ
one_where b = cond b 1 0

pub some_term : {X : Type 0} (h : X → ℕ) (xs : List X) → 1 ≤ sum_by h xs → (x : X) × Contains xs x × (1 ≤ h x)
some_term h [] most = absurd (omega (arith, most))
some_term {X} h (x ∷ xs) most = by (h x) refl (some_term h xs)
  where
    by : (m : ℕ) → h x ≡ m → (1 ≤ sum_by h xs → (y : X) × Contains xs y × (1 ≤ h y)) → (y : X) × Contains (x ∷ xs) y × (1 ≤ h y)
    by (suc m) e rest = (x, Contains-here x x xs refl, omega (arith, e))
    by zero e rest =
        let later = rest (omega (arith, most, sum_by-cons h x xs, e)) in
        (later.0, Contains-later x later.0 xs later.1, later.2)

-- an arc of at least 1 to a key weighs there
pub leads : (w : ℕ) (j k : List ℤ) → 1 ≤ w → j ≡ k → 1 ≤ w * one_where (key_eq j k)
unfolding one_where
leads w j k some e = rw (alike j k e) (omega (arith, some))

pub led : (w : ℕ) (j k : List ℤ) → 1 ≤ w * one_where (key_eq j k) → j ≡ k
unfolding one_where
led w j k most = by (key_eq j k) refl most
  where
    by : (b : Bool) → key_eq j k ≡ b → 1 ≤ w * cond b 1 0 → j ≡ k
    by true e h = same_key j k e
    by false e h = absurd (omega (arith, h))

-- ---- the written keys as images

module _ (n q : Network) (t : Tail) (w : StandsFor n q t) where
  pub one_to_one : (g : ℕ) (j k : List ℤ) → IsReached n g j → IsReached n g k → w.written j ≡ w.written k → j ≡ k
  one_to_one g j k a b e = same_key j k (sym (ap is_eq (w.order g j k a b)) ∙ alike (w.written j) (w.written k) e)

  -- over the arcs of a written key, and of the one that stands for it
  over_written : (f : List ℤ → ℕ) (g : ℕ) (k : List ℤ) → IsReached n g k → g < n.count → over_arcs q f g (w.written k) ≡ over_arcs n (λ j. f (w.written j)) g k
  over_written f g k r before = sym (w.lumped.arcs (λ j. f (w.written j)) f g k (w.written k) before (r, refl) (λ j i a. ap f (sym a.1)))

  -- to a written key weighs as much of the one as of the other
  to_key : List ℤ → List ℤ → ℕ
  to_key target j = one_where (key_eq j target)

  pub there : (g : ℕ) (k : List ℤ) (c : List ℕ) → IsReached n g k → g < n.count → Contains (n.choices g k) c
      → (d : List ℕ) × Contains (q.choices g (w.written k)) d × (q.next g (w.written k) d ≡ w.written (n.next g k c))
  unfolding to_key
  there g k c r before m =
      let target = w.written (n.next g k c) in
      let one : 1 ≤ n.weight g k c * one_where (key_eq target target) = leads (n.weight g k c) target target (w.weighty g k c r before m) refl in
      let among = term-le-sum_by (λ d. n.weight g k d * one_where (key_eq (w.written (n.next g k d)) target)) (n.choices g k) c m in
      let all = over_written (to_key target) g k r before in
      let found = some_term (λ d. q.weight g (w.written k) d * one_where (key_eq (q.next g (w.written k) d) target)) (q.choices g (w.written k)) (omega (arith, one, among, all)) in
      (found.0, found.1, led (q.weight g (w.written k) found.0) (q.next g (w.written k) found.0) target found.2)

  pub back : (g : ℕ) (k : List ℤ) (d : List ℕ) → IsReached n g k → g < n.count → Contains (q.choices g (w.written k)) d
      → (c : List ℕ) × Contains (n.choices g k) c × (q.next g (w.written k) d ≡ w.written (n.next g k c))
  unfolding to_key
  back g k d r before m =
      let target = q.next g (w.written k) d in
      let one : 1 ≤ q.weight g (w.written k) d * one_where (key_eq target target) = leads (q.weight g (w.written k) d) target target (w.weighty_written g k d r before m) refl in
      let among = term-le-sum_by (λ c. q.weight g (w.written k) c * one_where (key_eq (q.next g (w.written k) c) target)) (q.choices g (w.written k)) d m in
      let found = some_term (λ c. n.weight g k c * one_where (key_eq (w.written (n.next g k c)) target)) (n.choices g k) (omega (arith, one, among, over_written (to_key target) g k r before)) in
      (found.0, found.1, sym (led (n.weight g k found.0) (w.written (n.next g k found.0)) target found.2))

  abbrev pub as-images : OpensImages q n t
  as-images = record {
    image = λ g k. w.written k;
    one_to_one = one_to_one;
    count = sym w.lumped.count;
    first = w.lumped.first.1;
    verdict = λ g k r h. w.verdict g k r;
    there = there;
    back = back;
  }

-- two networks of a tail of which the one stands for the other open as many keys
pub opened-alike : (test : ConditionalTest) (running network : Tail → Network) → AreWritten test running network → OpenAlike test running network
opened-alike test running network written t has = elim (written t has) [
  | inl same ↦ ap (λ (n : Network). opened_below n t n.count) same
  | inr w ↦ sym (ap (opened_below (network t) t) (sym w.lumped.count) ∙ opened-images (network t) (running t) t (as-images (running t) (network t) t w) (running t).count (omega arith))
]
