-- The keys that a sweep begins from, one by one.
use Rattle.std.proofs.Common.{◌≡◌, ℕ, zero, suc, ◌+◌, ◌*◌, ◌^◌, ◌<◌, ◌≤◌, List, [], ◌∷◌, ◌++◌, length, take, drop, get_or, Bool, refl, sym, ◌∙◌, ap, subst, arith}
use Rattle.std.specs.Prelude.{ℤ}
use Rattle.std.specs.List.{filter, IsDistinct}
use Rattle.std.proofs.lemmas.List.{length-append, take_all}
use Rattle.std.proofs.lemmas.List.Sums.{sum_by_more, sum_by_more_le}
use Rattle.std.proofs.lemmas.List.Elements.{filter_more}
use Rattle.weights.specs.declared.tails.Tail.{Tail}
use Rattle.weights.specs.declared.TheConstants.{MAX}
use Rattle.weights.proofs.Filters.{all_filter}
use Rattle.node_pool.specs.Nodes.{Node, NodeRow, node, key_eq, keys, weighted}
use Rattle.node_pool.specs.PoolSteps.{nodes_of}
use Rattle.node_pool.specs.TableSteps.{key_at}
use Rattle.node_pool.proofs.NodeLists.{nodes-at, length-nodes}
use Rattle.networks.specs.declared.tail_sums.Kept.{Kept}
use Rattle.networks.specs.declared.tail_sums.Kept.TheVariants.{Open, All}
use Rattle.networks.specs.declared.tail_sums.TailSums.{TailSums}
use Rattle.networks.specs.Asked.{asked}
use Rattle.networks.specs.Completions.{total_weight}
use Rattle.stage_network.specs.FromKeys.{AreStarts, course_from}
use Rattle.networks.specs.Laws.{IsLawful}
use Rattle.networks.specs.Network.{Network, IsReached}
use Rattle.networks.specs.Opened.{is_open}
use Rattle.stage_network.specs.NodeSteps.{AllHeavy, AllReached}
use Rattle.stage_network.specs.StageSteps.{Housed}
use Rattle.stage_network.specs.ArcSteps.{lift}
use Rattle.networks.specs.EachTail.{sum_for}
use Rattle.stage_network.specs.SweepSteps.{HasSwept, IsCourse, IsRoomful, stays, staying, closed_at, counted}
use Rattle.stage_network.proofs.ArcLists.{choice-fits}
use Rattle.networks.proofs.Bounds.{total_weight-least}
use Rattle.stage_network.proofs.Roomwise.{all_at, lift-whole}
use Rattle.stage_network.proofs.OpenKeys.{one_distinct}
use Rattle.stage_network.proofs.Carried.{open-distinct}
use Rattle.stage_network.proofs.Sweeps.{closed-le, counted-le, counted-staying}
use Rattle.stage_network.proofs.Sweeps.{one as first_one}
use Rattle.stage_network.proofs.Courses.{swept-first}

-- a key alone in its room
lift_one : (width : ℕ) (room key partial : List ℤ) (w : ℕ) → room ≡ take width key → partial ≡ drop width key → lift room (node partial w ∷ []) ≡ node key w ∷ []
lift_one width room key partial w e f = rw (e, f) (ap (λ k. node k w ∷ []) (lift-whole width (take width key) key refl))

-- one key more
module _ (nodes : List Node) (i : ℕ) (d : Node) (low : i < length nodes) where
  staying-more : (n : Network) (keep : Kept) (g : ℕ) → staying n keep g (take (i + 1) nodes) ≡ staying n keep g (take i nodes) ++ staying n keep g (get_or nodes i d ∷ [])
  staying-more n keep g = filter_more (λ (a : Node). stays n keep g a.key) nodes i d low

  counted-next : (n : Network) (keep : Kept) (t : Tail) (g : ℕ) → counted n keep t g (take (i + 1) nodes) ≡ counted n keep t g (take i nodes) + counted n keep t g (get_or nodes i d ∷ [])
  counted-next n All t g = refl
  counted-next n (Open tails) t g =
      let free : (a : Node) → Bool = λ a. is_open (asked tails n) t g a.key in
      ap length (filter_more free nodes i d low) ∙ length-append (filter free (take i nodes)) (filter free (get_or nodes i d ∷ []))

  one : (f : List ℤ → ℕ) (a : Node) → weighted f (a ∷ []) ≡ a.weight * f a.key
  one f a = omega arith

  weighted-more : (f : List ℤ → ℕ) → weighted f (take (i + 1) nodes) ≡ weighted f (take i nodes) + weighted f (get_or nodes i d ∷ [])
  weighted-more f = sum_by_more (λ (a : Node). a.weight * f a.key) nodes i d low ∙ omega (arith, one f (get_or nodes i d))

  weighted-more_le : (f : List ℤ → ℕ) → weighted f (take i nodes) + weighted f (get_or nodes i d ∷ []) ≤ weighted f nodes
  weighted-more_le f = omega (arith, one f (get_or nodes i d), sum_by_more_le (λ (a : Node). a.weight * f a.key) nodes i d low)

-- a key that is put into its room
module _ (n : Network) (lawful : IsLawful n) (width g : ℕ) (row : List ℤ) (weights : List ℕ) (starts : AreStarts n g row weights) (keep : Kept) (i w : ℕ) (key room partial : List ℤ) (sums : TailSums) (low : i < length weights) (w_is : w ≡ get_or weights i 0) (key_is : key ≡ key_at n.width row i) (room_is : room ≡ take width key) (partial_is : partial ≡ drop width key) (work : NodeRow) (work_is : work.nodes ≡ node partial w ∷ []) (sum : (t : Tail) → (sum_for sums t).sum ≡ weighted (closed_at n keep t g) (take i (nodes_of n.width row weights))) (opened : (t : Tail) → (sum_for sums t).opened ≡ counted n keep t g (take i (nodes_of n.width row weights))) where
  abbrev pub all : List Node
  all = nodes_of n.width row weights

  abbrev pub none : Node
  none = node [] 0

  within : i < length all
  within = omega (arith, low, length-nodes n.width row weights)

  start_is : get_or all i none ≡ node key w
  start_is = nodes-at n.width row weights i none low ∙ ap (node (key_at n.width row i)) (sym w_is) ∙ ap (λ k. node k w) (sym key_is)

  lift_is : lift room work.nodes ≡ get_or all i none ∷ []
  lift_is = ap (lift room) work_is ∙ lift_one width room key partial w room_is partial_is ∙ ap (λ a. a ∷ []) (sym start_is)

  sum_fits : (t : Tail) → (sum_for sums t).sum + weighted (total_weight n g) (get_or all i none ∷ []) ≤ MAX
  sum_fits t = omega (arith, sum t, closed-le n keep t g (take i all), weighted-more_le all i none within (total_weight n g), starts.fits)

  few : (t : Tail) → (sum_for sums t).opened ≤ i
  few t = omega (arith, opened t, counted-le n keep t g (take i all), short all i)
    where
      short : (ns : List Node) (m : ℕ) → length (take m ns) ≤ m
      short ns zero = omega arith
      short [] (suc m) = omega arith
      short (a ∷ ns) (suc m) = omega (arith, short ns m)

  pub roomful : (kept : Housed) → i < 2 ^ 64 → length room ≡ width → width + work.width ≡ n.width → kept.room_width ≡ width → kept.width ≡ n.width → IsRoomful n width g sums room work kept
  roomful kept small long wide here deep = record {
    lawful = lawful;
    within = starts.within;
    reached = rw lift_is (all_at (λ a. IsReached n g a.key) all i none starts.reached within, tt);
    fits = λ t. rw lift_is (sum_fits t);
    few = λ t. omega (arith, few t, small);
    room_is = long;
    long = omega (arith, long, wide);
    here = here ∙ sym long;
    wide = deep;
  }

  pub nodes-next : (old new : List Node) → old ≡ staying n keep g (take i all) → new ≡ old ++ staying n keep g (lift room work.nodes) → new ≡ staying n keep g (take (i + 1) all)
  nodes-next old new was is = is ∙ ap (λ ns. ns ++ staying n keep g (lift room work.nodes)) was ∙ ap (λ ns. staying n keep g (take i all) ++ staying n keep g ns) lift_is ∙ sym (staying-more all i none within n keep g)

  pub sum-next : (more : TailSums) (t : Tail) → (sum_for more t).sum ≡ (sum_for sums t).sum + weighted (closed_at n keep t g) (lift room work.nodes) → (sum_for more t).sum ≡ weighted (closed_at n keep t g) (take (i + 1) all)
  sum-next more t is = is ∙ ap (λ m. m + weighted (closed_at n keep t g) (lift room work.nodes)) (sum t) ∙ ap (λ ns. weighted (closed_at n keep t g) (take i all) + weighted (closed_at n keep t g) ns) lift_is ∙ sym (weighted-more all i none within (closed_at n keep t g))

  pub opened-next : (more : TailSums) (t : Tail) → (sum_for more t).opened ≡ (sum_for sums t).opened + counted n keep t g (lift room work.nodes) → (sum_for more t).opened ≡ counted n keep t g (take (i + 1) all)
  opened-next more t is = is ∙ ap (λ m. m + counted n keep t g (lift room work.nodes)) (opened t) ∙ ap (λ ns. counted n keep t g (take i all) + counted n keep t g ns) lift_is ∙ sym (counted-next all i none within n keep t g)

-- the key at a place of the row
pub row-fits : (width w i : ℕ) (row : List ℤ) (weights : List ℕ) → w ≡ width → length row ≡ length weights * width → i < length weights → i * w + w ≤ length row
row-fits width w i row weights e long low = rw e (omega (arith, long, choice-fits width (length weights) i low))

times-least : (x y : ℕ) → 1 ≤ y → x ≤ x * y
times-least x y h = grind arith

module _ (n : Network) (g : ℕ) (row : List ℤ) (weights : List ℕ) (starts : AreStarts n g row weights) (i : ℕ) (low : i < length weights) where
  here : get_or (nodes_of n.width row weights) i (node [] 0) ≡ node (key_at n.width row i) (get_or weights i 0)
  here = nodes-at n.width row weights i (node [] 0) low

  inside : i < length (nodes_of n.width row weights)
  inside = omega (arith, low, length-nodes n.width row weights)

  pub key-reached : (w : ℕ) (key : List ℤ) → w ≡ n.width → key ≡ key_at w row i → IsReached n g key
  key-reached w key wide is =
      let r : IsReached n g (get_or (nodes_of n.width row weights) i (node [] 0)).key = all_at (λ a. IsReached n g a.key) (nodes_of n.width row weights) i (node [] 0) starts.reached inside in
      subst (IsReached n g) (ap (λ (a : Node). a.key) here ∙ ap (λ v. key_at v row i) (sym wide) ∙ sym is) r

  pub light-at : IsLawful n → (w : ℕ) → w ≡ get_or weights i 0 → w ≤ weighted (total_weight n g) (nodes_of n.width row weights)
  light-at l w w_is =
      let a = get_or (nodes_of n.width row weights) i (node [] 0) in
      let some : 1 ≤ total_weight n g a.key = total_weight-least n l g a.key (all_at (λ a. IsReached n g a.key) (nodes_of n.width row weights) i (node [] 0) starts.reached inside) starts.within in
      let is : a.weight ≡ w = ap (λ (b : Node). b.weight) here ∙ sym w_is in
      omega (arith, times-least a.weight (total_weight n g a.key) some, sum_by_more_le (λ (b : Node). b.weight * total_weight n g b.key) (nodes_of n.width row weights) i (node [] 0) inside, is)

  -- one product more
  pub total-more : (f : List ℤ → ℕ) (w total rest : ℕ) → w ≡ get_or weights i 0 → rest ≡ f (key_at n.width row i) → total ≡ weighted f (take i (nodes_of n.width row weights)) → total + w * rest ≡ weighted f (take (i + 1) (nodes_of n.width row weights))
  total-more f w total rest is r t =
      let at : (get_or (nodes_of n.width row weights) i (node [] 0)).weight * f (get_or (nodes_of n.width row weights) i (node [] 0)).key ≡ w * rest = ap (λ (a : Node). a.weight * f a.key) here ∙ ap (λ m. m * f (key_at n.width row i)) (sym is) ∙ ap (λ m. w * m) (sym r) in
      omega (arith, sum_by_more (λ (a : Node). a.weight * f a.key) (nodes_of n.width row weights) i (node [] 0) inside, at, t)

  pub total-fits : (f : List ℤ → ℕ) (w total rest : ℕ) → w ≡ get_or weights i 0 → rest ≡ f (key_at n.width row i) → total ≡ weighted f (take i (nodes_of n.width row weights)) → total + w * rest ≤ weighted f (nodes_of n.width row weights)
  total-fits f w total rest is r t =
      let at : (get_or (nodes_of n.width row weights) i (node [] 0)).weight * f (get_or (nodes_of n.width row weights) i (node [] 0)).key ≡ w * rest = ap (λ (a : Node). a.weight * f a.key) here ∙ ap (λ m. m * f (key_at n.width row i)) (sym is) ∙ ap (λ m. w * m) (sym r) in
      omega (arith, sum_by_more_le (λ (a : Node). a.weight * f a.key) (nodes_of n.width row weights) i (node [] 0) inside, at, t)

-- a sweep can start with these keys, and stands at those that stay once they are settled
module _ (n : Network) (keep : Kept) (g : ℕ) (row : List ℤ) (weights : List ℕ) (starts : AreStarts n g row weights) where
  pub starts-course : (limit : ℕ) → weighted (total_weight n g) (nodes_of n.width row weights) ≤ limit → IsCourse n limit (course_from n keep g row weights)
  starts-course limit light = record {
    within = starts.within;
    reached = starts.reached;
    heavy = starts.heavy;
    light = record { limit = light; fits = starts.fits };
  }

  pub starts-swept : (sums : TailSums) (kept : List Node) → kept ≡ staying n keep g (nodes_of n.width row weights) → ((t : Tail) → (sum_for sums t).sum ≡ weighted (closed_at n keep t g) (nodes_of n.width row weights)) → ((t : Tail) → (sum_for sums t).opened ≡ counted n keep t g (nodes_of n.width row weights)) → HasSwept n (course_from n keep g row weights) 0 sums kept
  starts-swept sums kept is sum opened =
      let all = nodes_of n.width row weights in
      let heavy : AllHeavy kept = rw is (all_filter (λ (a : Node). 1 ≤ a.weight) (λ a. stays n keep g a.key) all starts.heavy) in
      swept-first n (course_from n keep g row weights) sums kept is starts.heavy heavy (rw is (open-distinct (stays n keep g) all starts.distinct)) sum
      (λ t. opened t ∙ sym (ap (counted n keep t g) is ∙ counted-staying n keep t g all))

-- the first key, laid flat
module _ (n : Network) (key : List ℤ) (l : IsLawful n) (is : key ≡ n.first) where
  pub first-laid : nodes_of n.width key (1 ∷ []) ≡ node n.first 1 ∷ []
  first-laid = ap (λ k. node k 1 ∷ []) (take_all n.width key (omega (arith, ap length is, l.long 0 n.first refl)) ∙ is)

  pub first-total : weighted (total_weight n 0) (nodes_of n.width key (1 ∷ [])) ≡ total_weight n 0 n.first
  first-total = ap (weighted (total_weight n 0)) first-laid ∙ first_one (total_weight n 0) n.first

  pub first-starts : AreStarts n 0 key (1 ∷ [])
  first-starts = record {
    within = omega arith;
    long = omega (arith, ap length is, l.long 0 n.first refl);
    reached = subst (AllReached n 0) (sym first-laid) (refl, tt);
    heavy = subst AllHeavy (sym first-laid) (omega arith, tt);
    distinct = subst (λ ns. IsDistinct key_eq (keys ns)) (sym first-laid) (one_distinct n.first);
    fits = omega (arith, first-total, l.fits);
  }
