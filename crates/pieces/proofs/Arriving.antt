-- What a sweep for one tail comes to from the first key: the open keys that are reached openly.
use Rattle.std.proofs.Common.{◌≡◌, ◌≢◌, ℕ, zero, suc, ◌+◌, ◌*◌, ◌≤◌, ◌&&◌, ◌||◌, List, [], ◌∷◌, map, Bool, true, false, cond, refl, sym, ◌∙◌, ap, arith}
use Rattle.std.specs.Prelude.{ℤ}
use Rattle.std.specs.List.{sum_by, filter, flat_map}
use Rattle.std.specs.Set.{is_member}
use Rattle.std.proofs.lemmas.Map.Made.{is_member-filter}
use Rattle.weights.specs.declared.tails.Tail.{Tail}
use Rattle.weights.specs.declared.tails.Tail.TheVariants.{Less, Greater, Two}
use Rattle.weights.specs.declared.tails.Tails.{Tails}
use Rattle.node_pool.specs.Nodes.{Node, key_eq, keys, is_held, weighted}
use Rattle.node_pool.proofs.Puts.{same_key, key_equiv}
use Rattle.networks.specs.declared.tail_sums.Kept.TheVariants.{Open}
use Rattle.networks.specs.declared.tail_sums.TailSums.{TailSums}
use Rattle.networks.specs.Asked.{asked, asks}
use Rattle.networks.specs.Completions.{extreme_weight}
use Rattle.networks.specs.Laws.{IsLawful}
use Rattle.networks.specs.Network.{Network}
use Rattle.networks.specs.Opened.{is_open, is_open_for_some, is_undecided, reached_through, reached_openly}
use Rattle.networks.specs.EachTail.{sum_for}
use Rattle.stage_network.specs.SweepSteps.{Course, HasSwept, IsCourse, arriving, first_course, stays, staying}
use Rattle.stage_network.proofs.Asked.{asked-own, asked-else, asked-extreme_at}
use Rattle.stage_network.proofs.Carried.{carried}
use Rattle.stage_network.proofs.Courses.{arriving-heavy, keys-first, swept-kept}
use Rattle.networks.proofs.Steps.{sum_by-same}
use Rattle.stage_network.proofs.Sweeps.{weighted-filter, stay-members, one}
use Rattle.pieces.specs.Cuts.{closed_sum, met_sum, keys_open_at}
use Rattle.pieces.proofs.ByPaths.{met-openly, closed-and_open}
use Rattle.pieces.proofs.Conserving.{openly}

-- one stage more at the end
pub openly-last : (n : Network) (t : Tail) (f : List ℤ → ℕ) (m g h : ℕ) (k : List ℤ) → h ≡ g + m → openly n t m g (λ j. sum_by (λ c. n.weight h j c * cond (is_open n t (h + 1) (n.next h j c)) (f (n.next h j c)) 0) (n.choices h j)) k ≡ openly n t (suc m) g f k
openly-last n t f zero g h k at =
    let same : h ≡ g = omega (arith, at) in
    rw same refl
openly-last n t f (suc m) g h k at =
    let next : h ≡ (g + 1) + m = omega (arith, at) in
    ap (λ s. cond (is_open n t g k) s 0) (sum_by-same _ _ (λ c. ap (λ s. n.weight g k c * s) (openly-last n t f m (g + 1) h (n.next g k c) next)) (n.choices g k))

-- where one tail alone is asked, its open keys are those that stay
not_asked : (tails : Tails) (t s : Tail) → ((u : Tail) → asks tails u ≡ true → u ≡ t) → s ≢ t → (b : Bool) → asks tails s ≡ b → asks tails s ≡ false
not_asked tails t s alone ne true e = absurd (ne (alone s e))
not_asked tails t s alone ne false e = e

or_false : (b : Bool) → (b || false) ≡ b
or_false true = refl
or_false false = refl

module _ (n : Network) (tails : Tails) (t : Tail) (own : asks tails t ≡ true) (alone : (u : Tail) → asks tails u ≡ true → u ≡ t) where
  mine : (g : ℕ) (k : List ℤ) → is_open (asked tails n) t g k ≡ is_open n t g k
  mine g k = ap (λ v. is_undecided (v g k)) (asked-own tails n t own)

  shut-else : (s : Tail) (g : ℕ) (k : List ℤ) → s ≢ t → is_open (asked tails n) s g k ≡ false
  shut-else s g k ne = ap is_undecided (asked-else tails n s (not_asked tails t s alone ne (asks tails s) refl) g k)

  by_tail : (s : Tail) → s ≡ t → (g : ℕ) (k : List ℤ) → is_open_for_some (asked tails n) g k ≡ is_open (asked tails n) s g k
  by_tail Less e g k = rw (shut-else Greater g k (λ e'. let clash : Greater ≡ Less = e' ∙ sym e in cc), shut-else Two g k (λ e'. let clash : Two ≡ Less = e' ∙ sym e in cc)) (or_false (is_open (asked tails n) Less g k))
  by_tail Greater e g k = rw (shut-else Less g k (λ e'. let clash : Less ≡ Greater = e' ∙ sym e in cc), shut-else Two g k (λ e'. let clash : Two ≡ Greater = e' ∙ sym e in cc)) (or_false (is_open (asked tails n) Greater g k))
  by_tail Two e g k = rw (shut-else Less g k (λ e'. let clash : Less ≡ Two = e' ∙ sym e in cc), shut-else Greater g k (λ e'. let clash : Greater ≡ Two = e' ∙ sym e in cc)) refl

  pub only-open : (g : ℕ) (k : List ℤ) → is_open_for_some (asked tails n) g k ≡ is_open n t g k
  only-open g k = by_tail t refl g k ∙ mine g k

  abbrev course : Course
  course = first_course n (Open tails)

  pub arriving-openly : (m : ℕ) (f : List ℤ → ℕ) → weighted f (staying n (Open tails) (0 + m) (arriving n course m)) ≡ openly n t m 0 f n.first
  arriving-openly zero f =
      let e : 0 + 0 ≡ 0 = omega arith in
      ap (λ g. weighted f (staying n (Open tails) g (arriving n course 0))) e
      ∙ weighted-filter f (stays n (Open tails) 0) (arriving n course 0)
      ∙ one (λ k. cond (stays n (Open tails) 0 k) (f k) 0) n.first
      ∙ ap (λ b. cond b (f n.first) 0) (only-open 0 n.first)
  arriving-openly (suc m) f =
      let h : ℕ = 0 + m in
      let next : h + 1 ≡ 0 + suc m = omega arith in
      let open-f : List ℤ → ℕ = λ k. cond (is_open n t (h + 1) k) (f k) 0 in
      let here : List ℤ → ℕ = λ k. sum_by (λ c. n.weight h k c * open-f (n.next h k c)) (n.choices h k) in
      ap (λ g. weighted f (staying n (Open tails) g (arriving n course (suc m)))) (sym next)
      ∙ weighted-filter f (stays n (Open tails) (h + 1)) (arriving n course (suc m))
      ∙ sum_by-same _ _ (λ (a : Node). ap (λ b. a.weight * cond b (f a.key) 0) (only-open (h + 1) a.key)) (arriving n course (suc m))
      ∙ carried n h here open-f (λ k. refl) (staying n (Open tails) h (arriving n course m))
      ∙ arriving-openly m here
      ∙ openly-last n t f m 0 h n.first refl

  -- the keys that come to a stage
  through-same : (p q : ℕ → List ℤ → Bool) → ((g : ℕ) (k : List ℤ) → p g k ≡ q g k) → (g : ℕ) → reached_through n p g ≡ reached_through n q g
  through-same p q same zero = refl
  through-same p q same (suc g) =
      ap (λ ks. flat_map (λ k. map (n.next g k) (n.choices g k)) (filter (p g) ks)) (through-same p q same g)
      ∙ ap (flat_map (λ k. map (n.next g k) (n.choices g k))) (filter-same (p g) (q g) (same g) (reached_through n q g))
    where
      filter-same : (a b : List ℤ → Bool) → ((k : List ℤ) → a k ≡ b k) → (ks : List (List ℤ)) → filter a ks ≡ filter b ks
      filter-same a b e [] = refl
      filter-same a b e (k ∷ ks) = rw (e k, filter-same a b e ks) refl

  came : (m : ℕ) → keys (arriving n course m) ≡ reached_openly n t m
  came m = keys-first n tails m ∙ through-same (is_open_for_some (asked tails n)) (is_open n t) only-open m

  module _ (l : IsLawful n) (limit : ℕ) (starts : IsCourse n limit course) (at : ℕ) (h : at ≤ n.count) (sums : TailSums) (nodes : List Node) (swept : HasSwept n course at sums nodes) where
    within : 0 + at ≤ n.count
    within = omega (arith, h)

    pub cut-told : (f : List ℤ → ℕ) → weighted f nodes ≡ met_sum n t at f
    cut-told f = swept.told f ∙ arriving-openly at f ∙ sym (met-openly n t at f)

    pub cut-closed : (sum_for sums t).sum ≡ closed_sum n t at
    cut-closed =
        let v : ℕ → List ℤ → ℕ = extreme_weight (asked tails n) t in
        let kept : (sum_for sums t).sum + weighted (v (0 + at)) nodes ≡ v 0 n.first = swept-kept n l limit tails starts at within sums nodes swept t in
        let e : 0 + at ≡ at = omega arith in
        let left : weighted (v (0 + at)) nodes ≡ met_sum n t at (extreme_weight n t at) =
        ap (λ g. weighted (v g) nodes) e ∙ sum_by-same _ _ (λ (a : Node). ap (λ x. a.weight * x) (asked-extreme_at tails n t own at a.key)) nodes ∙ cut-told (extreme_weight n t at) in
        omega (arith, kept, left, closed-and_open n t l at h, asked-extreme_at tails n t own 0 n.first)

    pub cut-members : (q : List ℤ) → is_held nodes q ≡ is_member key_eq (keys_open_at n t at) q
    cut-members q =
        let e : 0 + at ≡ at = omega arith in
        let all : List Node = arriving n course at in
        stay-members n tails at nodes all swept.heavy (arriving-heavy n l limit course starts at within) (λ f. swept.told f ∙ ap (λ g. weighted f (staying n (Open tails) g all)) e) q
        ∙ ap (λ b. is_held all q && b) (only-open at q)
        ∙ ap (λ ks. is_member key_eq ks q && is_open n t at q) (came at)
        ∙ sym (is_member-filter key_equiv (is_open n t at) q (λ x same. ap (is_open n t at) (same_key q x same)) (reached_openly n t at))
