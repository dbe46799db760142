-- What closes and what stays open, read over completions.
use Rattle.std.proofs.Common.{◌≡◌, ℕ, zero, suc, ◌+◌, ◌-◌, ◌*◌, ◌<◌, ◌≤◌, List, [], ◌∷◌, map, Bool, true, false, cond, ◌&&◌, ◌||◌, refl, sym, ◌∙◌, ap, arith}
use Rattle.std.specs.Prelude.{ℤ}
use Rattle.std.specs.List.{sum_by, filter, Contains}
use Rattle.std.proofs.lemmas.List.Sums.{sum_by-cons}
use Rattle.std.proofs.Math.Nat.{mul_assoc}
use Rattle.weights.specs.declared.tails.Tail.{Tail}
use Rattle.weights.proofs.Filters.{filter-same}
use Rattle.weights.proofs.Sums.{sum_by-zero}
use Rattle.weights.proofs.GroupingLaw.{cond-both}
use Rattle.networks.specs.declared.stages.Verdict.{Verdict}
use Rattle.networks.specs.declared.stages.Verdict.TheVariants.{Inside, Outside, Undecided}
use Rattle.networks.specs.Network.{Network, IsReached}
use Rattle.networks.specs.Completions.{completions, paths, path_weight, ends_inside, is_inside, total_weight, extreme_weight}
use Rattle.networks.specs.Laws.{IsLawful}
use Rattle.networks.specs.Opened.{is_open}
use Rattle.networks.proofs.Steps.{sum_by-same, sum_by-scaled, sum_by-map, sum_by-flat_map, filter-map, filter-flat_map, reached-next}
use Rattle.pieces.specs.Cuts.{stays_open, meets_inside, met, closed_sum, open_sum, met_sum}
use Rattle.pieces.proofs.Conserving.{openly, closing, over-choices, conserved}
use Rattle.stage_network.proofs.Conserved.{inside-sum, outside-sum}

and_true : (a : Bool) → (a && true) ≡ a
and_true true = refl
and_true false = refl

and_false : (a : Bool) → (a && false) ≡ false
and_false true = refl
and_false false = refl

filter_no : {X : Type 0} (xs : List X) → filter (λ x. false) xs ≡ []
filter_no [] = refl
filter_no (x ∷ xs) = filter_no xs

-- a condition that does not depend on the element
module _ {X : Type 0} (f : X → ℕ) (x : X → Bool) (xs : List X) where
  with-last : (b : Bool) → sum_by f (filter (λ a. x a && b) xs) ≡ cond b (sum_by f (filter x xs)) 0
  with-last true = ap (sum_by f) (filter-same (λ a. x a && true) x (λ a. and_true (x a)) xs)
  with-last false = ap (sum_by f) (filter-same (λ a. x a && false) (λ a. false) (λ a. and_false (x a)) xs ∙ filter_no xs)

  with-inner : (s r : X → Bool) (b : Bool) → sum_by f (filter (λ a. x a && ((b && s a) && r a)) xs) ≡ cond b (sum_by f (filter (λ a. x a && (s a && r a)) xs)) 0
  with-inner s r true = refl
  with-inner s r false = ap (sum_by f) (filter-same (λ a. x a && false) (λ a. false) (λ a. and_false (x a)) xs ∙ filter_no xs)

  with-first : (b : Bool) → sum_by f (filter (λ a. b && x a) xs) ≡ cond b (sum_by f (filter x xs)) 0
  with-first true = refl
  with-first false = ap (sum_by f) (filter_no xs)

  with-or : (b : Bool) → b ≡ false → (s : X → Bool) → sum_by f (filter (λ a. x a && (b || s a)) xs) ≡ sum_by f (filter (λ a. x a && s a) xs)
  with-or b e s = rw e refl

-- one choice more, for a sum over ways that pass
module _ (n : Network) (m g : ℕ) (k : List ℤ) (f : List (List ℕ) → ℕ) (q : List (List ℕ) → Bool) (w : List ℕ → ℕ) (f' : List ℕ → List (List ℕ) → ℕ) (split : (c : List ℕ) (cs : List (List ℕ)) → f (c ∷ cs) ≡ w c * f' c cs) where
  one-choice : (c : List ℕ) → sum_by f (filter q (map (λ cs. c ∷ cs) (paths n m (g + 1) (n.next g k c)))) ≡ w c * sum_by (f' c) (filter (λ cs. q (c ∷ cs)) (paths n m (g + 1) (n.next g k c)))
  one-choice c =
      let kept : List (List (List ℕ)) = filter (λ cs. q (c ∷ cs)) (paths n m (g + 1) (n.next g k c)) in
      ap (sum_by f) (filter-map q (λ cs. c ∷ cs) (paths n m (g + 1) (n.next g k c)))
      ∙ sum_by-map f (λ cs. c ∷ cs) kept
      ∙ sum_by-same (λ cs. f (c ∷ cs)) (λ cs. w c * f' c cs) (split c) kept
      ∙ sum_by-scaled (w c) (f' c) kept

  paths-step : sum_by f (filter q (paths n (suc m) g k)) ≡ sum_by (λ c. w c * sum_by (f' c) (filter (λ cs. q (c ∷ cs)) (paths n m (g + 1) (n.next g k c)))) (n.choices g k)
  paths-step =
      ap (sum_by f) (filter-flat_map q (λ c. map (λ cs. c ∷ cs) (paths n m (g + 1) (n.next g k c))) (n.choices g k))
      ∙ sum_by-flat_map f (λ c. filter q (map (λ cs. c ∷ cs) (paths n m (g + 1) (n.next g k c)))) (n.choices g k)
      ∙ sum_by-same _ _ one-choice (n.choices g k)

no-times : (a : ℕ) → a * 0 ≡ 0
no-times a = grind arith

-- a condition at the key itself, in the sum over its choices
cond-out : {X : Type 0} (b : Bool) (w a : X → ℕ) (xs : List X) → sum_by (λ x. w x * cond b (a x) 0) xs ≡ cond b (sum_by (λ x. w x * a x) xs) 0
cond-out true w a xs = refl
cond-out false w a xs = sum_by-same (λ x. w x * 0) (λ x. 0) (λ x. no-times (w x)) xs ∙ sum_by-zero xs

module _ (n : Network) (t : Tail) where
  -- the ways that meet open keys alone
  open_ways : (m g : ℕ) (f : List ℤ → ℕ) (k : List ℤ) → sum_by (λ cs. path_weight n g k cs * f (met n m g k cs)) (filter (stays_open n t m g k) (paths n m g k)) ≡ openly n t m g f k
  open_ways zero g f k = by (is_open n t g k) (f k)
    where
      by : (b : Bool) (x : ℕ) → sum_by (λ (cs : List (List ℕ)). path_weight n g k cs * x) (cond b ([] ∷ []) []) ≡ cond b x 0
      by true x = omega arith
      by false x = refl
  open_ways (suc m) g f k =
      let o : Bool = is_open n t g k in
      let inner : List ℕ → ℕ = λ c. sum_by (λ cs. path_weight n (g + 1) (n.next g k c) cs * f (met n m (g + 1) (n.next g k c) cs)) (filter (stays_open n t m (g + 1) (n.next g k c)) (paths n m (g + 1) (n.next g k c))) in
      paths-step n m g k (λ cs. path_weight n g k cs * f (met n (suc m) g k cs)) (stays_open n t (suc m) g k) (n.weight g k) (λ c cs. path_weight n (g + 1) (n.next g k c) cs * f (met n m (g + 1) (n.next g k c) cs)) (λ c cs. mul_assoc (n.weight g k c) (path_weight n (g + 1) (n.next g k c) cs) (f (met n m (g + 1) (n.next g k c) cs)))
      ∙ sum_by-same _ _ (λ c. ap (λ j. n.weight g k c * j) (with-first (λ cs. path_weight n (g + 1) (n.next g k c) cs * f (met n m (g + 1) (n.next g k c) cs)) (stays_open n t m (g + 1) (n.next g k c)) (paths n m (g + 1) (n.next g k c)) o)) (n.choices g k)
      ∙ cond-out o (n.weight g k) inner (n.choices g k)
      ∙ ap (λ j. cond o j 0) (sum_by-same _ _ (λ c. ap (λ j. n.weight g k c * j) (open_ways m (g + 1) f (n.next g k c))) (n.choices g k))

  pub met-openly : (m : ℕ) (f : List ℤ → ℕ) → met_sum n t m f ≡ openly n t m 0 f n.first
  unfolding met_sum
  met-openly m f = open_ways m 0 f n.first

  -- the extreme completions that meet open keys alone, and then one that passes
  abbrev open_part : (List ℤ → Bool) → ℕ → ℕ → ℕ → List ℤ → ℕ
  open_part p m e g k = sum_by (path_weight n g k) (filter (λ cs. ends_inside n t g k cs && (stays_open n t m g k cs && p (met n m g k cs))) (paths n e g k))

  abbrev pub passing_extreme : (List ℤ → Bool) → ℕ → List ℤ → ℕ
  passing_extreme p h j = cond (p j) (extreme_weight n t h j) 0

  extreme-is : (e g : ℕ) (k : List ℤ) → g + e ≡ n.count → sum_by (path_weight n g k) (filter (ends_inside n t g k) (paths n e g k)) ≡ extreme_weight n t g k
  unfolding extreme_weight
  extreme-is e g k is = let same : e ≡ n.count - g = omega (arith, is) in ap (λ j. sum_by (path_weight n g k) (filter (ends_inside n t g k) (paths n j g k))) same

  open_parts : (p : List ℤ → Bool) (m e g h : ℕ) (k : List ℤ) → m ≤ e → g + e ≡ n.count → g + m ≡ h → open_part p m e g k ≡ openly n t m g (passing_extreme p h) k
  open_parts p zero e g h k le is at =
      let same : h ≡ g = omega (arith, at) in
      with-last (path_weight n g k) (ends_inside n t g k) (paths n e g k) (is_open n t g k && p k)
      ∙ ap (λ j. cond (is_open n t g k && p k) j 0) (extreme-is e g k is)
      ∙ cond-both (is_open n t g k) (p k) (extreme_weight n t g k)
      ∙ rw same refl
  open_parts p (suc m) zero g h k le is at = absurd (omega (arith, le))
  open_parts p (suc m) (suc e) g h k le is at =
      let o : Bool = is_open n t g k in
      let inner : List ℕ → ℕ = λ c. open_part p m e (g + 1) (n.next g k c) in
      let le' : m ≤ e = omega (arith, le) in
      let is' : (g + 1) + e ≡ n.count = omega (arith, is) in
      let at' : (g + 1) + m ≡ h = omega (arith, at) in
      paths-step n e g k (path_weight n g k) (λ cs. ends_inside n t g k cs && (stays_open n t (suc m) g k cs && p (met n (suc m) g k cs))) (n.weight g k) (λ c cs. path_weight n (g + 1) (n.next g k c) cs) (λ c cs. refl)
      ∙ sum_by-same _ _ (λ c. ap (λ j. n.weight g k c * j) (with-inner (path_weight n (g + 1) (n.next g k c)) (ends_inside n t (g + 1) (n.next g k c)) (paths n e (g + 1) (n.next g k c)) (stays_open n t m (g + 1) (n.next g k c)) (λ cs. p (met n m (g + 1) (n.next g k c) cs)) o)) (n.choices g k)
      ∙ cond-out o (n.weight g k) inner (n.choices g k)
      ∙ ap (λ j. cond o j 0) (sum_by-same _ _ (λ c. ap (λ j. n.weight g k c * j) (open_parts p m e (g + 1) h (n.next g k c) le' is' at')) (n.choices g k))

  pub open-openly : (p : List ℤ → Bool) (m : ℕ) → m ≤ n.count → open_sum n t m p ≡ openly n t m 0 (passing_extreme p m) n.first
  unfolding open_sum
  open-openly p m h = open_parts p m (n.count - 0) 0 m n.first (omega (arith, h)) (omega arith) (omega arith)

  -- a part, over the ways
  pub open-met : (p : List ℤ → Bool) (m : ℕ) → m ≤ n.count → open_sum n t m p ≡ met_sum n t m (passing_extreme p m)
  open-met p m h = open-openly p m h ∙ sym (met-openly m (passing_extreme p m))

  -- the extreme completions that meet an inside key at one of m + 1 stages
  abbrev pub inside_part : ℕ → ℕ → ℕ → List ℤ → ℕ
  inside_part m e g k = sum_by (path_weight n g k) (filter (λ cs. ends_inside n t g k cs && meets_inside n t m g k cs) (paths n e g k))

  meets : (m g : ℕ) (k : List ℤ) (cs : List (List ℕ)) → n.verdict t g k ≡ Inside → meets_inside n t m g k cs ≡ true
  meets zero g k cs v = rw v refl
  meets (suc m) g k [] v = rw v refl
  meets (suc m) g k (c ∷ cs) v = rw v refl

  -- all that are extreme, from an inside key on
  pub inside-here : (m e g : ℕ) (k : List ℤ) → g + e ≡ n.count → n.verdict t g k ≡ Inside → inside_part m e g k ≡ extreme_weight n t g k
  inside-here m e g k is v =
      ap (sum_by (path_weight n g k)) (filter-same (λ cs. ends_inside n t g k cs && meets_inside n t m g k cs) (ends_inside n t g k) (λ cs. ap (λ b. ends_inside n t g k cs && b) (meets m g k cs v) ∙ and_true (ends_inside n t g k cs)) (paths n e g k))
      ∙ extreme-is e g k is

  -- and from another those that meet one later
  pub none-inside : (e g : ℕ) (k : List ℤ) → is_inside (n.verdict t g k) ≡ false → inside_part zero e g k ≡ 0
  none-inside e g k v =
      with-last (path_weight n g k) (ends_inside n t g k) (paths n e g k) (is_inside (n.verdict t g k))
      ∙ rw v refl

  pub inside-later : (m e g : ℕ) (k : List ℤ) → is_inside (n.verdict t g k) ≡ false → inside_part (suc m) (suc e) g k ≡ sum_by (λ c. n.weight g k c * inside_part m e (g + 1) (n.next g k c)) (n.choices g k)
  inside-later m e g k v =
      paths-step n e g k (path_weight n g k) (λ cs. ends_inside n t g k cs && meets_inside n t (suc m) g k cs) (n.weight g k) (λ c cs. path_weight n (g + 1) (n.next g k c) cs) (λ c cs. refl)
      ∙ sum_by-same _ _ (λ c. ap (λ j. n.weight g k c * j)
      (with-or (path_weight n (g + 1) (n.next g k c)) (ends_inside n t (g + 1) (n.next g k c)) (paths n e (g + 1) (n.next g k c)) (is_inside (n.verdict t g k)) v (meets_inside n t m (g + 1) (n.next g k c)))) (n.choices g k)

  closing_inside : (m g : ℕ) (k : List ℤ) → n.verdict t g k ≡ Inside → closing n t m g k ≡ total_weight n g k
  closing_inside zero g k v = rw v refl
  closing_inside (suc m) g k v = rw v (omega arith)

  closing_outside : (m g : ℕ) (k : List ℤ) → n.verdict t g k ≡ Outside → closing n t m g k ≡ 0
  closing_outside zero g k v = rw v refl
  closing_outside (suc m) g k v = rw v refl

  both : {X : Type 0} (f : X → ℕ) (p q : X → Bool) (xs : List X) → sum_by f (filter (λ a. p a && q a) xs) ≤ sum_by f (filter p xs)
  both f p q [] = omega arith
  both f p q (a ∷ xs) = by (p a) (q a) (both f p q xs)
    where
      by : (b c : Bool) → sum_by f (filter (λ a. p a && q a) xs) ≤ sum_by f (filter p xs) → sum_by f (cond (b && c) (a ∷ filter (λ a. p a && q a) xs) (filter (λ a. p a && q a) xs)) ≤ sum_by f (cond b (a ∷ filter p xs) (filter p xs))
      by true true h = omega (arith, sum_by-cons f a (filter (λ a. p a && q a) xs), sum_by-cons f a (filter p xs), h)
      by true false h = omega (arith, sum_by-cons f a (filter p xs), h)
      by false c h = h

  -- no more than all that is extreme
  pub open-le : (p : List ℤ → Bool) (m : ℕ) → open_sum n t m p ≤ extreme_weight n t 0 n.first
  unfolding open_sum extreme_weight
  open-le p m = both (path_weight n 0 n.first) (ends_inside n t 0 n.first) (λ cs. stays_open n t m 0 n.first cs && p (met n m 0 n.first cs)) (completions n 0 n.first)

  pub closed-le : (m : ℕ) → closed_sum n t m ≤ extreme_weight n t 0 n.first
  unfolding closed_sum extreme_weight
  closed-le m = both (path_weight n 0 n.first) (ends_inside n t 0 n.first) (meets_inside n t m 0 n.first) (completions n 0 n.first)

  by_verdict : (P : Type 0) (v : Verdict) → (v ≡ Inside → P) → (v ≡ Outside → P) → (v ≡ Undecided → P) → P
  by_verdict P Inside i o u = i refl
  by_verdict P Outside i o u = o refl
  by_verdict P Undecided i o u = u refl

  module _ (l : IsLawful n) where
    -- by the verdict at the key
    settled_inside : (m e g : ℕ) (k : List ℤ) → IsReached n g k → g + e ≡ n.count → n.verdict t g k ≡ Inside → inside_part m e g k ≡ closing n t m g k
    settled_inside m e g k r is v =
        inside-here m e g k is v ∙ inside-sum n l t g k r (omega (arith, is)) v ∙ sym (closing_inside m g k v)

    settled_outside : (m e g : ℕ) (k : List ℤ) → IsReached n g k → g + e ≡ n.count → n.verdict t g k ≡ Outside → inside_part m e g k ≡ closing n t m g k
    settled_outside m e g k r is v =
        let less : inside_part m e g k ≤ 0 = omega (arith, both (path_weight n g k) (ends_inside n t g k) (meets_inside n t m g k) (paths n e g k), extreme-is e g k is, outside-sum n l t g k r (omega (arith, is)) v) in
        omega (arith, less, closing_outside m g k v)

    undecided_first : (e g : ℕ) (k : List ℤ) → n.verdict t g k ≡ Undecided → inside_part zero e g k ≡ closing n t zero g k
    undecided_first e g k v =
        none-inside e g k (ap is_inside v) ∙ rw v refl

    undecided_on : (m e g : ℕ) (k : List ℤ) → ((c : List ℕ) → Contains (n.choices g k) c → inside_part m e (g + 1) (n.next g k c) ≡ closing n t m (g + 1) (n.next g k c)) → n.verdict t g k ≡ Undecided → inside_part (suc m) (suc e) g k ≡ closing n t (suc m) g k
    undecided_on m e g k later v =
        let outer : is_inside (n.verdict t g k) ≡ false = ap is_inside v in
        let rest : closing n t (suc m) g k ≡ sum_by (λ c. n.weight g k c * closing n t m (g + 1) (n.next g k c)) (n.choices g k) = rw v (omega arith) in
        inside-later m e g k outer
        ∙ over-choices n g k _ (λ c. n.weight g k c * closing n t m (g + 1) (n.next g k c)) (λ c allowed. ap (λ j. n.weight g k c * j) (later c allowed))
        ∙ sym rest

    inside_parts : (m e g : ℕ) (k : List ℤ) → IsReached n g k → m ≤ e → g + e ≡ n.count → inside_part m e g k ≡ closing n t m g k
    inside_parts zero e g k r le is = by_verdict _ (n.verdict t g k) (settled_inside zero e g k r is) (settled_outside zero e g k r is) (undecided_first e g k)
    inside_parts (suc m) zero g k r le is = absurd (omega (arith, le))
    inside_parts (suc m) (suc e) g k r le is =
        let before : g < n.count = omega (arith, is) in
        let le' : m ≤ e = omega (arith, le) in
        let is' : (g + 1) + e ≡ n.count = omega (arith, is) in
        by_verdict _ (n.verdict t g k) (settled_inside (suc m) (suc e) g k r is) (settled_outside (suc m) (suc e) g k r is)
        (undecided_on m e g k (λ c allowed. inside_parts m e (g + 1) (n.next g k c) (reached-next n g k c r before allowed) le' is'))

    pub closed-is : (m : ℕ) → m ≤ n.count → closed_sum n t m ≡ closing n t m 0 n.first
    unfolding closed_sum
    closed-is m h = inside_parts m (n.count - 0) 0 n.first refl (omega (arith, h)) (omega arith)

    -- the closed sum, and what passes of the open keys
    pub closed-and_open : (m : ℕ) → m ≤ n.count → closed_sum n t m + met_sum n t m (extreme_weight n t m) ≡ extreme_weight n t 0 n.first
    closed-and_open m h = omega (arith, closed-is m h, met-openly m (extreme_weight n t m), conserved n l t m 0 m n.first refl (omega arith) h)
