-- Stretches of a row's cells whose keys have the same verdicts.
use Rattle.std.proofs.Common.{◌≡◌, ℕ, zero, suc, ◌+◌, ◌-◌, ◌*◌, ◌<◌, ◌≤◌, List, [], ◌∷◌, ◌++◌, length, take, drop, get_or, Bool, true, false, cond, refl, sym, ◌∙◌, ap, subst, arith, append-nil}
use Rattle.std.specs.Prelude.{ℤ, pos, ◌+ℤ◌}
use Rattle.std.specs.List.{AllByRecursion, filter, sum}
use Rattle.std.proofs.lemmas.Int.{ints}
use Rattle.std.proofs.lemmas.List.{get_or-drop, length-append, length-take-le, take-append-drop}
use Rattle.std.proofs.lemmas.List.Elements.{filter-append}
use Rattle.std.proofs.lemmas.List.Sums.{sum_by-cons, sum_by-append, sum_by-take-drop}
use Rattle.weights.specs.declared.tails.Tail.{Tail}
use Rattle.weights.specs.declared.tails.Tail.TheVariants.{Less, Greater, Two}
use Rattle.node_pool.specs.Nodes.{Node, node, weighted}
use Rattle.count_arrays.specs.Rows.{row_nodes, stepped}
use Rattle.count_arrays.proofs.RowSums.{positive, sum-take}
use Rattle.count_arrays.proofs.RowNodes.{row-parts}
use Rattle.networks.specs.declared.tail_sums.Verdicts.{Verdicts}
use Rattle.networks.specs.Network.{Network, IsReached}
use Rattle.networks.specs.Completions.{is_inside}
use Rattle.networks.specs.Opened.{is_undecided, is_open, is_open_for_some}
use Rattle.stage_network.specs.NodeSteps.{AllReached, closes_inside, open_nodes, opened_in}
use Rattle.stage_network.specs.ArcSteps.{lift}
use Rattle.networks.specs.EachTail.{some_undecided, verdict_for}
use Rattle.stage_network.proofs.NodeSums.{inside_weight}
use Rattle.stage_network.proofs.OpenKeys.{map-append}
use Rattle.std.proofs.Math.Seq.{drop-nil, take-nil}

-- all keys of these nodes have these verdicts
abbrev pub Uniform : Network → ℕ → Verdicts → List Node → Type 0
Uniform n g v nodes = AllByRecursion (λ a. (t : Tail) → n.verdict t g a.key ≡ verdict_for v t) nodes

same_some : (v : Verdicts) (n : Network) (g : ℕ) (k : List ℤ) → ((t : Tail) → n.verdict t g k ≡ verdict_for v t) → is_open_for_some n g k ≡ some_undecided v
same_some v n g k e = rw (e Less, e Greater, e Two) refl

neither : (b : Bool) → ◌≡◌ {A = ℕ} 0 (cond b 0 0)
neither true = refl
neither false = refl

module _ (n : Network) (g : ℕ) (v : Verdicts) where
  pub open-uniform : (nodes : List Node) → Uniform n g v nodes → open_nodes n g nodes ≡ cond (some_undecided v) nodes []
  open-uniform [] u = none (some_undecided v)
    where
      none : (b : Bool) → ◌≡◌ {A = List Node} [] (cond b [] [])
      none true = refl
      none false = refl
  open-uniform (a ∷ nodes) u = rw (same_some v n g a.key u.0, open-uniform nodes u.1) (by (some_undecided v))
    where
      by : (b : Bool) → cond b (a ∷ cond b nodes []) (cond b nodes []) ≡ cond b (a ∷ nodes) []
      by true = refl
      by false = refl

  module _ (t : Tail) where
    abbrev closes : Bool
    closes = cond (some_undecided v) false (is_inside (verdict_for v t))

    pub inside-uniform : (nodes : List Node) → Uniform n g v nodes → inside_weight n t g nodes ≡ cond closes (weighted (λ k. 1) nodes) 0
    inside-uniform [] u = neither closes
    inside-uniform (a ∷ nodes) u =
        rw (sum_by-cons (λ (b : Node). cond (closes_inside n t g b.key) b.weight 0) a nodes, sum_by-cons (λ (b : Node). b.weight * 1) a nodes, inside-uniform nodes u.1, same_some v n g a.key u.0, u.0 t) (by closes (weighted (λ k. 1) nodes))
      where
        by : (b : Bool) (m : ℕ) → cond b a.weight 0 + cond b m 0 ≡ cond b (a.weight * 1 + m) 0
        by true m = omega arith
        by false m = refl

    pub opened-uniform : (nodes : List Node) → Uniform n g v nodes → opened_in n t g nodes ≡ cond (is_undecided (verdict_for v t)) (length nodes) 0
    opened-uniform [] u = neither (is_undecided (verdict_for v t))
    opened-uniform (a ∷ nodes) u = rw (u.0 t) (by (is_undecided (verdict_for v t)) (filter (λ b. is_open n t g b.key) nodes) (opened-uniform nodes u.1))
      where
        by : (b : Bool) (ns : List Node) → length ns ≡ cond b (length nodes) 0 → length (cond b (a ∷ ns) ns) ≡ cond b (suc (length nodes)) 0
        by true ns e = ap suc e
        by false ns e = e

-- parts of nodes
lift-append : (r : List ℤ) (xs ys : List Node) → lift r (xs ++ ys) ≡ lift r xs ++ lift r ys
lift-append r xs ys = map-append (λ (a : Node). node (r ++ a.key) a.weight) xs ys

open-append : (n : Network) (g : ℕ) (xs ys : List Node) → open_nodes n g (xs ++ ys) ≡ open_nodes n g xs ++ open_nodes n g ys
open-append n g xs ys = filter-append (λ a. is_open_for_some n g a.key) xs ys

inside-append : (n : Network) (t : Tail) (g : ℕ) (xs ys : List Node) → inside_weight n t g (xs ++ ys) ≡ inside_weight n t g xs + inside_weight n t g ys
inside-append n t g xs ys = sum_by-append (λ a. cond (closes_inside n t g a.key) a.weight 0) xs ys

opened-append : (n : Network) (t : Tail) (g : ℕ) (xs ys : List Node) → opened_in n t g (xs ++ ys) ≡ opened_in n t g xs + opened_in n t g ys
opened-append n t g xs ys = ap length (filter-append (λ (a : Node). is_open n t g a.key) xs ys) ∙ length-append (filter (λ (a : Node). is_open n t g a.key) xs) (filter (λ (a : Node). is_open n t g a.key) ys)

-- a list up to a place, in two parts
pub take-split : (xs : List ℕ) (i j : ℕ) → i ≤ j → take j xs ≡ take i xs ++ take (j - i) (drop i xs)
take-split xs zero j h = let e : j - 0 ≡ j = omega arith in rw e refl
take-split [] (suc i) zero h = absurd (omega (arith, h))
take-split [] (suc i) (suc j) h = sym (take-nil (suc j - suc i))
take-split (x ∷ xs) (suc i) zero h = absurd (omega (arith, h))
take-split (x ∷ xs) (suc i) (suc j) h = let e : suc j - suc i ≡ j - i = omega arith in rw e (ap (λ ys. x ∷ ys) (take-split xs i j (omega (arith, h))))

pub drop-more : (xs ys : List ℕ) (i j : ℕ) → i ≤ j → drop i xs ≡ drop i ys → drop j xs ≡ drop j ys
drop-more xs ys zero j h e = ap (drop j) e
drop-more [] [] (suc i) j h e = refl
drop-more xs ys (suc i) zero h e = absurd (omega (arith, h))
drop-more [] (y ∷ ys) (suc i) (suc j) h e = sym (drop-nil j) ∙ drop-more [] ys i j (omega (arith, h)) (drop-nil i ∙ e)
drop-more (x ∷ xs) [] (suc i) (suc j) h e = drop-more xs [] i j (omega (arith, h)) (e ∙ sym (drop-nil i)) ∙ drop-nil j
drop-more (x ∷ xs) (y ∷ ys) (suc i) (suc j) h e = drop-more xs ys i j (omega (arith, h)) e

-- a row up to a place, in two parts
pub row-split : (lowest stride : ℤ) (xs : List ℕ) (i j : ℕ) → i ≤ j → i ≤ length xs → row_nodes lowest stride (take j xs) ≡ row_nodes lowest stride (take i xs) ++ row_nodes (stepped lowest stride i) stride (take (j - i) (drop i xs))
row-split lowest stride xs i j h low =
    ap (row_nodes lowest stride) (take-split xs i j h) ∙ row-parts lowest stride (take i xs) (take (j - i) (drop i xs))
    ∙ ap (λ m. row_nodes lowest stride (take i xs) ++ row_nodes (stepped lowest stride m) stride (take (j - i) (drop i xs))) (length-take-le i xs low)

-- empty cells behind a place change nothing
pub row-gap : (lowest stride : ℤ) (xs : List ℕ) (i j : ℕ) → i ≤ j → i ≤ length xs → ((l s : ℤ) → row_nodes l s (take (j - i) (drop i xs)) ≡ []) → row_nodes lowest stride (take j xs) ≡ row_nodes lowest stride (take i xs)
row-gap lowest stride xs i j h low none = row-split lowest stride xs i j h low ∙ ap (λ ns. row_nodes lowest stride (take i xs) ++ ns) (none (stepped lowest stride i) stride) ∙ append-nil (row_nodes lowest stride (take i xs))

-- what lies before where the rest begins is empty
pub nothing-before : (xs ys : List Node) → xs ++ ys ≡ ys → xs ≡ []
nothing-before [] ys e = refl
nothing-before (x ∷ xs) ys e = let l : length ((x ∷ xs) ++ ys) ≡ length ys = ap length e in absurd (omega (arith, l, length-append (x ∷ xs) ys))

pub front-empty : (lowest stride : ℤ) (xs : List ℕ) (r : ℕ) → r ≤ length xs → row_nodes lowest stride xs ≡ row_nodes (stepped lowest stride r) stride (drop r xs) → row_nodes lowest stride (take r xs) ≡ []
front-empty lowest stride xs r low e =
    nothing-before (row_nodes lowest stride (take r xs)) (row_nodes (stepped lowest stride r) stride (drop r xs))
    (ap (λ m. row_nodes lowest stride (take r xs) ++ row_nodes (stepped lowest stride m) stride (drop r xs)) (sym (length-take-le r xs low))
    ∙ sym (row-parts lowest stride (take r xs) (drop r xs)) ∙ ap (row_nodes lowest stride) (take-append-drop r xs) ∙ e)

-- the keys of a stretch have the verdicts of its first one
module _ (n : Network) (g : ℕ) (r : List ℤ) (v : Verdicts) (p : ℤ) (most s : ℕ) (same : (t : Tail) (d : ℕ) → d ≤ most → IsReached n g (r ++ (p +ℤ pos d) ∷ []) → n.verdict t g (r ++ (p +ℤ pos d) ∷ []) ≡ n.verdict t g (r ++ p ∷ [])) (told : (t : Tail) → verdict_for v t ≡ n.verdict t g (r ++ p ∷ [])) where
  steady-from : (d : ℕ) (l : ℤ) (cells : List ℕ) → l ≡ p +ℤ pos d → d + length cells * s ≤ most + s → AllReached n g (lift r (row_nodes l (pos s) cells)) → Uniform n g v (lift r (row_nodes l (pos s) cells))
  steady-from d l [] is near reached = tt
  steady-from d l (zero ∷ cells) is near reached = steady-from (d + s) (l +ℤ pos s) cells (omega (arith, ints, is)) (let e : suc (length cells) * s ≡ s + length cells * s = omega arith in omega (arith, near, e)) reached
  steady-from d l (suc c ∷ cells) is near reached =
      let e : suc (length cells) * s ≡ s + length cells * s = omega arith in
      rw (positive c) (by (omega (arith, near, e)) (steady-from (d + s) (l +ℤ pos s) cells (omega (arith, ints, is)) (omega (arith, near, e))) (rw (positive c) at reached))
    where
      by : d ≤ most → (AllReached n g (lift r (row_nodes (l +ℤ pos s) (pos s) cells)) → Uniform n g v (lift r (row_nodes (l +ℤ pos s) (pos s) cells))) → AllReached n g (lift r (node (l ∷ []) (suc c) ∷ row_nodes (l +ℤ pos s) (pos s) cells)) → Uniform n g v (lift r (node (l ∷ []) (suc c) ∷ row_nodes (l +ℤ pos s) (pos s) cells))
      by few rest reached = (λ t. subst (λ z. IsReached n g (r ++ z ∷ []) → n.verdict t g (r ++ z ∷ []) ≡ n.verdict t g (r ++ p ∷ [])) (sym is) (same t d few) reached.0 ∙ sym (told t), rest reached.1)

  pub steady-row : (cells : List ℕ) → length cells * s ≤ most + s → AllReached n g (lift r (row_nodes p (pos s) cells)) → Uniform n g v (lift r (row_nodes p (pos s) cells))
  steady-row cells near reached = steady-from 0 p cells (omega (arith, ints)) (omega (arith, near)) reached

-- one stretch more: xs are the cells at first, ys those before it was settled, zs those after it
module _ (n : Network) (g : ℕ) (r : List ℤ) (v : Verdicts) (lowest stride : ℤ) (xs ys zs : List ℕ) (i j m : ℕ) (before : i ≤ j) (last : j ≤ m) (within : m ≤ length xs) (long : length zs ≡ length xs)
    (rest : drop i ys ≡ drop i xs) (front : take i zs ≡ take i ys) (back : drop j zs ≡ drop j ys)
    (mid : (l s : ℤ) → row_nodes l s (take (j - i) (drop i zs)) ≡ cond (some_undecided v) (row_nodes l s (take (j - i) (drop i ys))) [])
    (gap : (l s : ℤ) → row_nodes l s (take (m - j) (drop j zs)) ≡ [])
    (uniform : Uniform n g v (lift r (row_nodes (stepped lowest stride i) stride (take (j - i) (drop i xs))))) where
  abbrev part : List Node
  part = lift r (row_nodes (stepped lowest stride i) stride (take (j - i) (drop i xs)))

  pub same-rest : drop m zs ≡ drop m xs
  same-rest = drop-more zs ys j m last back ∙ drop-more ys xs i m (omega (arith, before, last)) rest

  gap-of : (l s : ℤ) → row_nodes l s (take (m - j) (drop j xs)) ≡ []
  gap-of l s = ap (λ ws. row_nodes l s (take (m - j) ws)) (sym (back ∙ drop-more ys xs i j before rest)) ∙ gap l s

  pub all-old : lift r (row_nodes lowest stride (take m xs)) ≡ lift r (row_nodes lowest stride (take i xs)) ++ part
  all-old =
      ap (lift r) (row-gap lowest stride xs j m last (omega (arith, last, within)) gap-of ∙ row-split lowest stride xs i j before (omega (arith, before, last, within)))
      ∙ lift-append r (row_nodes lowest stride (take i xs)) (row_nodes (stepped lowest stride i) stride (take (j - i) (drop i xs)))

  lift-cond : (b : Bool) (ns : List Node) → lift r (cond b ns []) ≡ cond b (lift r ns) []
  lift-cond true ns = refl
  lift-cond false ns = refl

  pub nodes-more : lift r (row_nodes lowest stride (take i ys)) ≡ open_nodes n g (lift r (row_nodes lowest stride (take i xs))) → lift r (row_nodes lowest stride (take m zs)) ≡ open_nodes n g (lift r (row_nodes lowest stride (take m xs)))
  nodes-more was =
      ap (lift r) (row-gap lowest stride zs j m last (omega (arith, last, within, long)) gap ∙ row-split lowest stride zs i j before (omega (arith, before, last, within, long)))
      ∙ lift-append r (row_nodes lowest stride (take i zs)) (row_nodes (stepped lowest stride i) stride (take (j - i) (drop i zs)))
      ∙ ap (λ ws. lift r (row_nodes lowest stride ws) ++ lift r (row_nodes (stepped lowest stride i) stride (take (j - i) (drop i zs)))) front
      ∙ ap (λ ns. lift r (row_nodes lowest stride (take i ys)) ++ ns) (ap (lift r) (mid (stepped lowest stride i) stride ∙ ap (λ ws. cond (some_undecided v) (row_nodes (stepped lowest stride i) stride (take (j - i) ws)) []) rest) ∙ lift-cond (some_undecided v) (row_nodes (stepped lowest stride i) stride (take (j - i) (drop i xs))) ∙ sym (open-uniform n g v part uniform))
      ∙ ap (λ ns. ns ++ open_nodes n g part) was
      ∙ sym (open-append n g (lift r (row_nodes lowest stride (take i xs))) part)
      ∙ ap (open_nodes n g) (sym all-old)

  module _ (t : Tail) where
    pub inside-more : (inside inside' weight : ℕ) → inside ≡ inside_weight n t g (lift r (row_nodes lowest stride (take i xs))) → weight ≡ weighted (λ k. 1) part → inside' ≡ inside + cond (cond (some_undecided v) false (is_inside (verdict_for v t))) weight 0 → inside' ≡ inside_weight n t g (lift r (row_nodes lowest stride (take m xs)))
    inside-more inside inside' weight was is step =
        step ∙ ap (λ w. inside + cond (cond (some_undecided v) false (is_inside (verdict_for v t))) w 0) is
        ∙ ap (λ w. inside + w) (sym (inside-uniform n g v t part uniform)) ∙ ap (λ w. w + inside_weight n t g part) was
        ∙ sym (inside-append n t g (lift r (row_nodes lowest stride (take i xs))) part) ∙ ap (inside_weight n t g) (sym all-old)

    pub opened-more : (opened opened' keys : ℕ) → opened ≡ opened_in n t g (lift r (row_nodes lowest stride (take i xs))) → keys ≡ length part → opened' ≡ opened + cond (is_undecided (verdict_for v t)) keys 0 → opened' ≡ opened_in n t g (lift r (row_nodes lowest stride (take m xs)))
    opened-more opened opened' keys was is step =
        step ∙ ap (λ w. opened + cond (is_undecided (verdict_for v t)) w 0) is
        ∙ ap (λ w. opened + w) (sym (opened-uniform n g v t part uniform)) ∙ ap (λ w. w + opened_in n t g part) was
        ∙ sym (opened-append n t g (lift r (row_nodes lowest stride (take i xs))) part) ∙ ap (opened_in n t g) (sym all-old)

-- the key of a full cell is reached
pub cell-reached : (n : Network) (g : ℕ) (r : List ℤ) (lowest stride : ℤ) (xs : List ℕ) (i : ℕ) → AllReached n g (lift r (row_nodes lowest stride xs)) → i < length xs → 0 < get_or xs i 0 → IsReached n g (r ++ stepped lowest stride i ∷ [])
cell-reached n g r lowest stride [] i a h full = absurd (omega (arith, h))
cell-reached n g r lowest stride (zero ∷ xs) zero a h full = absurd (omega (arith, full))
cell-reached n g r lowest stride (suc c ∷ xs) zero a h full = (rw (positive c) at a).0
cell-reached n g r lowest stride (zero ∷ xs) (suc i) a h full = cell-reached n g r (lowest +ℤ stride) stride xs i a (omega (arith, h)) full
cell-reached n g r lowest stride (suc c ∷ xs) (suc i) a h full = cell-reached n g r (lowest +ℤ stride) stride xs i (rw (positive c) at a).1 (omega (arith, h)) full

-- what is reached of a row is reached of its parts
pub part-reached : (n : Network) (g : ℕ) (r : List ℤ) (lowest stride : ℤ) (xs : List ℕ) (i m : ℕ) → AllReached n g (lift r (row_nodes lowest stride xs)) → i ≤ length xs → AllReached n g (lift r (row_nodes (stepped lowest stride i) stride (take m (drop i xs))))
part-reached n g r lowest stride xs zero zero a h = tt
part-reached n g r lowest stride [] zero (suc m) a h = tt
part-reached n g r lowest stride (zero ∷ xs) zero (suc m) a h = part-reached n g r (lowest +ℤ stride) stride xs 0 m a (omega arith)
part-reached n g r lowest stride (suc c ∷ xs) zero (suc m) a h = rw (positive c) ((rw (positive c) at a).0, part-reached n g r (lowest +ℤ stride) stride xs 0 m (rw (positive c) at a).1 (omega arith))
part-reached n g r lowest stride [] (suc i) m a h = absurd (omega (arith, h))
part-reached n g r lowest stride (zero ∷ xs) (suc i) m a h = part-reached n g r (lowest +ℤ stride) stride xs i m a (omega (arith, h))
part-reached n g r lowest stride (suc c ∷ xs) (suc i) m a h = part-reached n g r (lowest +ℤ stride) stride xs i m (rw (positive c) at a).1 (omega (arith, h))

-- a part of cells weighs no more than all
pub part-sum : (xs : List ℕ) (i m : ℕ) → sum (take m (drop i xs)) ≤ sum xs
part-sum xs i m = omega (arith, sum-take (drop i xs) m, sum_by-take-drop (λ x. x) xs i)

-- a cell behind which nothing has changed
pub cell-rest : (xs ys : List ℕ) (i : ℕ) → drop i ys ≡ drop i xs → get_or ys i 0 ≡ get_or xs i 0
cell-rest xs ys i e =
    let on : i + 0 ≡ i = omega arith in
    ap (λ j. get_or ys j 0) (sym on) ∙ sym (get_or-drop i ys 0 0) ∙ ap (λ ws. get_or ws 0 0) e ∙ get_or-drop i xs 0 0 ∙ ap (λ j. get_or xs j 0) on
