-- A network whose keys are the images of another's, one for one, opens as many: how many choices lead from a key to another does not matter.
use Rattle.std.proofs.Common.{◌≡◌, ◌≢◌, ℕ, zero, suc, ◌+◌, ◌<◌, ◌≤◌, List, [], ◌∷◌, map, filter, Bool, true, false, inl, inr, refl, sym, ◌∙◌, ap, subst, arith, add-one}
use Rattle.std.specs.Prelude.{ℤ}
use Rattle.std.specs.List.{flat_map, Contains, AllByRecursion, IsDistinct}
use Rattle.std.specs.Set.{is_member, distinct_count}
use Rattle.std.proofs.lemmas.List.{length-map}
use Rattle.std.proofs.lemmas.List.Elements.{All-contains, All-contains_itself, All-filter, filter_passes, Contains-append_cases}
use Rattle.std.proofs.lemmas.Map.Keys.{IsDistinct-head, IsDistinct-tail, IsDistinct-cons}
use Rattle.std.proofs.lemmas.Map.Made.{is_member-Decides, length-from_keys}
use Rattle.weights.specs.declared.tails.Tail.{Tail}
use Rattle.weights.proofs.Members.{Contains-cons, Contains-here, Contains-later, Contains-map, Contains-flat_map, Contains-filter}
use Rattle.node_pool.specs.Nodes.{key_eq}
use Rattle.node_pool.proofs.Puts.{alike, key_equiv, same_key, unlike}
use Rattle.networks.specs.Network.{Network, IsReached}
use Rattle.networks.specs.Opened.{is_open, is_undecided, opened_below, reached_openly}

-- Of each key that q reaches n has an image, and no two have the same. The arcs of an image lead to the images of what the key's arcs lead to, and its verdict for a tail is the key's.
pub record OpensImages (n q : Network) (t : Tail) : Type 0 where
  pub image : ℕ → List ℤ → List ℤ
  pub one_to_one : (g : ℕ) (j k : List ℤ) → IsReached q g j → IsReached q g k → image g j ≡ image g k → j ≡ k
  pub count : n.count ≡ q.count
  pub first : n.first ≡ image 0 q.first
  pub verdict : (g : ℕ) (k : List ℤ) → IsReached q g k → g < q.count → n.verdict t g (image g k) ≡ q.verdict t g k
  -- a choice of q has one of n, and the other way around
  pub there : (g : ℕ) (k : List ℤ) (c : List ℕ) → IsReached q g k → g < q.count → Contains (q.choices g k) c
      → (d : List ℕ) × Contains (n.choices g (image g k)) d × (n.next g (image g k) d ≡ image (g + 1) (q.next g k c))
  pub back : (g : ℕ) (k : List ℤ) (d : List ℕ) → IsReached q g k → g < q.count → Contains (n.choices g (image g k)) d
      → (c : List ℕ) × Contains (q.choices g k) c × (n.next g (image g k) d ≡ image (g + 1) (q.next g k c))

-- where a member comes from

pub mapped_from : {X Y : Type 0} (f : X → Y) (y : Y) (xs : List X) → Contains (map f xs) y → (x : X) × Contains xs x × (f x ≡ y)
mapped_from f y [] c = absurd (omega (arith, c.1))
mapped_from f y (x ∷ xs) c = elim (Contains-cons (f x) y (map f xs) c) [
  | inl e ↦ (x, Contains-here x x xs refl, e)
  | inr later ↦ (let rest = mapped_from f y xs later in (rest.0, Contains-later x rest.0 xs rest.1, rest.2))
]

pub flat_mapped_from : {X Y : Type 0} (f : X → List Y) (y : Y) (xs : List X) → Contains (flat_map f xs) y → (x : X) × Contains xs x × Contains (f x) y
flat_mapped_from f y [] c = absurd (omega (arith, c.1))
flat_mapped_from f y (x ∷ xs) c = elim (Contains-append_cases (f x) (flat_map f xs) y c) [
  | inl here ↦ (x, Contains-here x x xs refl, here)
  | inr later ↦ (let rest = flat_mapped_from f y xs later in (rest.0, Contains-later x rest.0 xs rest.1, rest.2))
]

pub filtered_from : {X : Type 0} (p : X → Bool) (x : X) (xs : List X) → Contains (filter p xs) x → Contains xs x × (p x ≡ true)
filtered_from p x xs c = (
  All-contains (Contains xs) (filter p xs) x (All-filter p (Contains xs) xs (All-contains_itself xs)) c,
  All-contains (λ y. p y ≡ true) (filter p xs) x (filter_passes p xs) c,
)

-- keys that are counted once

same_bool : (a b : Bool) → (a ≡ true → b ≡ true) → (b ≡ true → a ≡ true) → a ≡ b
same_bool true b f h = sym (f refl)
same_bool false true f h = h refl
same_bool false false f h = refl

of_member : (ks : List (List ℤ)) (k : List ℤ) → is_member key_eq ks k ≡ true → Contains ks k
of_member ks k e = (is_member-Decides (λ a b. (same_key a b, alike a b)) ks k).0 e

is_one : (ks : List (List ℤ)) (k : List ℤ) → Contains ks k → is_member key_eq ks k ≡ true
is_one ks k c = (is_member-Decides (λ a b. (same_key a b, alike a b)) ks k).1 c

same_members : (js ks : List (List ℤ)) → ((p : List ℤ) → Contains js p → Contains ks p) → ((p : List ℤ) → Contains ks p → Contains js p) → (q : List ℤ) → is_member key_eq js q ≡ is_member key_eq ks q
same_members js ks to from q = same_bool _ _ (λ e. is_one ks q (to q (of_member js q e))) (λ e. is_one js q (from q (of_member ks q e)))

-- each key of a list once
record Apart (ks : List (List ℤ)) : Type 0 where
  once : List (List ℤ)
  apart : IsDistinct key_eq once
  within : (k : List ℤ) → Contains once k → Contains ks k
  all : (k : List ℤ) → Contains ks k → Contains once k

other_than : (x : List ℤ) (xs once : List (List ℤ)) → is_member key_eq xs x ≡ false → ((k : List ℤ) → Contains once k → Contains xs k) → AllByRecursion (λ y. key_eq x y ≡ false) once
other_than x xs [] none within = tt
other_than x xs (y ∷ once) none within = (
  unlike x y (λ e. let held : is_member key_eq xs x ≡ true = is_one xs x (subst (Contains xs) (sym e) (within y (Contains-here y y once refl))) in absurd (cc)),
  other_than x xs once none (λ k c. within k (Contains-later y k once c)),
)

apart_of : (ks : List (List ℤ)) → Apart ks
unfolding IsDistinct
apart_of [] = record { once = []; apart = tt; within = λ k c. c; all = λ k c. c }
apart_of (x ∷ xs) = by (is_member key_eq xs x) refl (apart_of xs)
  where
    by : (b : Bool) → is_member key_eq xs x ≡ b → Apart xs → Apart (x ∷ xs)
    by true held rest = record {
      once = rest.once;
      apart = rest.apart;
      within = λ k c. Contains-later x k xs (rest.within k c);
      all = λ k c. elim (Contains-cons x k xs c) [
        | inl e ↦ rest.all k (subst (Contains xs) e (of_member xs x held))
        | inr later ↦ rest.all k later
      ];
    }
    by false none rest = record {
      once = x ∷ rest.once;
      apart = IsDistinct-cons key_eq x rest.once (other_than x xs rest.once none rest.within) rest.apart;
      within = λ k c. elim (Contains-cons x k rest.once c) [
        | inl e ↦ Contains-here x k xs e
        | inr later ↦ Contains-later x k xs (rest.within k later)
      ];
      all = λ k c. elim (Contains-cons x k xs c) [
        | inl e ↦ Contains-here x k rest.once e
        | inr later ↦ Contains-later x k rest.once (rest.all k later)
      ];
    }

different : (j k : List ℤ) → key_eq j k ≡ false → j ≢ k
different j k none e = let same : key_eq j k ≡ true = alike j k e in cc

images_other : (f : List ℤ → List ℤ) (x : List ℤ) (ys : List (List ℤ)) → ((k : List ℤ) → Contains ys k → f x ≡ f k → x ≡ k) → AllByRecursion (λ y. key_eq x y ≡ false) ys → AllByRecursion (λ y. key_eq (f x) y ≡ false) (map f ys)
images_other f x [] one a = tt
images_other f x (y ∷ ys) one a = (
  unlike (f x) (f y) (λ e. different x y a.0 (one y (Contains-here y y ys refl) e)),
  images_other f x ys (λ k c. one k (Contains-later y k ys c)) a.1,
)

images_apart : (f : List ℤ → List ℤ) (ks : List (List ℤ)) → ((j k : List ℤ) → Contains ks j → Contains ks k → f j ≡ f k → j ≡ k) → IsDistinct key_eq ks → IsDistinct key_eq (map f ks)
images_apart f [] one d = d
images_apart f (x ∷ xs) one d =
    IsDistinct-cons key_eq (f x) (map f xs)
    (images_other f x xs (λ k c. one x k (Contains-here x x xs refl) (Contains-later x k xs c)) (IsDistinct-head key_eq x xs d))
    (images_apart f xs (λ j k a b. one j k (Contains-later x j xs a) (Contains-later x k xs b)) (IsDistinct-tail key_eq x xs d))

-- lists of keys and of their images have as many that are different
pub images_counted : (f : List ℤ → List ℤ) (js ks : List (List ℤ)) → ((j k : List ℤ) → Contains ks j → Contains ks k → f j ≡ f k → j ≡ k) → ((k : List ℤ) → Contains ks k → Contains js (f k)) → ((j : List ℤ) → Contains js j → (k : List ℤ) × Contains ks k × (j ≡ f k)) → distinct_count key_eq js ≡ distinct_count key_eq ks
images_counted f js ks one to from =
    let a = apart_of ks in
    let back : (j : List ℤ) → Contains (map f a.once) j → Contains js j = λ j c. (let source = mapped_from f j a.once c in subst (Contains js) source.2 (to source.0 (a.within source.0 source.1))) in
    let forth : (j : List ℤ) → Contains js j → Contains (map f a.once) j = λ j c. (let source = from j c in subst (Contains (map f a.once)) (sym source.2) (Contains-map f source.0 a.once (a.all source.0 source.1))) in
    sym (length-from_keys key_equiv (map f a.once) js (images_apart f a.once (λ j k c d. one j k (a.within j c) (a.within k d)) a.apart) (same_members (map f a.once) js back forth))
    ∙ length-map a.once f
    ∙ length-from_keys key_equiv a.once ks a.apart (same_members a.once ks a.within a.all)

module _ (n q : Network) (t : Tail) (i : OpensImages n q t) where
  -- keys that are reached openly are reached
  pub openly_reached : (g : ℕ) (k : List ℤ) → g ≤ q.count → Contains (reached_openly q t g) k → IsReached q g k
  openly_reached zero k h c = elim (Contains-cons q.first k [] c) [ inl e ↦ sym e | inr none ↦ absurd (omega (arith, none.1)) ]
  openly_reached (suc g) k h c =
      let from = flat_mapped_from (λ j. map (q.next g j) (q.choices g j)) k (filter (is_open q t g) (reached_openly q t g)) c in
      let arc = mapped_from (q.next g from.0) k (q.choices g from.0) from.2 in
      (from.0, arc.0, openly_reached g from.0 (omega arith) (filtered_from (is_open q t g) from.0 (reached_openly q t g) from.1).0, omega arith, arc.1, sym arc.2)

  open_alike : (g : ℕ) (k : List ℤ) → IsReached q g k → g < q.count → is_open n t g (i.image g k) ≡ is_open q t g k
  open_alike g k r h = ap is_undecided (i.verdict g k r h)

  -- the open ones of a stage, and their images
  open_there : (g : ℕ) → g < q.count → ((k : List ℤ) → Contains (reached_openly q t g) k → Contains (reached_openly n t g) (i.image g k)) → (k : List ℤ) → Contains (filter (is_open q t g) (reached_openly q t g)) k → Contains (filter (is_open n t g) (reached_openly n t g)) (i.image g k)
  open_there g h to k c =
      let held = filtered_from (is_open q t g) k (reached_openly q t g) c in
      Contains-filter (is_open n t g) (i.image g k) (reached_openly n t g) (to k held.0) (open_alike g k (openly_reached g k (omega (arith, h)) held.0) h ∙ held.1)

  open_back : (g : ℕ) → g < q.count → ((j : List ℤ) → Contains (reached_openly n t g) j → (k : List ℤ) × Contains (reached_openly q t g) k × (j ≡ i.image g k)) → (j : List ℤ) → Contains (filter (is_open n t g) (reached_openly n t g)) j → (k : List ℤ) × Contains (filter (is_open q t g) (reached_openly q t g)) k × (j ≡ i.image g k)
  open_back g h from j c =
      let held = filtered_from (is_open n t g) j (reached_openly n t g) c in
      let source = from j held.0 in
      let open_here : is_open q t g source.0 ≡ true = sym (open_alike g source.0 (openly_reached g source.0 (omega (arith, h)) source.1) h) ∙ ap (is_open n t g) (sym source.2) ∙ held.1 in
      (source.0, Contains-filter (is_open q t g) source.0 (reached_openly q t g) source.1 open_here, source.2)

  -- where an arc leads
  led_to : (g : ℕ) (k next : List ℤ) (c d : List ℕ) → q.next g k c ≡ next → n.next g (i.image g k) d ≡ i.image (g + 1) (q.next g k c) → n.next g (i.image g k) d ≡ i.image (suc g) next
  led_to g k next c d is led = rw add-one at (led ∙ ap (i.image (g + 1)) is)

  led_from : (g : ℕ) (j k next : List ℤ) (d c : List ℕ) → n.next g j d ≡ next → j ≡ i.image g k → n.next g (i.image g k) d ≡ i.image (g + 1) (q.next g k c) → next ≡ i.image (suc g) (q.next g k c)
  led_from g j k next d c is from led = rw add-one at (sym is ∙ ap (λ x. n.next g x d) from ∙ led)

  pub to_images : (g : ℕ) → g ≤ q.count → (k : List ℤ) → Contains (reached_openly q t g) k → Contains (reached_openly n t g) (i.image g k)
  to_images zero h k c = elim (Contains-cons q.first k [] c) [
    | inl e ↦ Contains-here n.first (i.image 0 k) [] (i.first ∙ ap (i.image 0) e)
    | inr none ↦ absurd (omega (arith, none.1))
  ]
  to_images (suc g) h k c =
      let before : g < q.count = omega arith in
      let from = flat_mapped_from (λ j. map (q.next g j) (q.choices g j)) k (filter (is_open q t g) (reached_openly q t g)) c in
      let arc = mapped_from (q.next g from.0) k (q.choices g from.0) from.2 in
      let moved = i.there g from.0 arc.0 (openly_reached g from.0 (omega arith) (filtered_from (is_open q t g) from.0 (reached_openly q t g) from.1).0) before arc.1 in
      let led : Contains (map (n.next g (i.image g from.0)) (n.choices g (i.image g from.0))) (n.next g (i.image g from.0) moved.0) = Contains-map (n.next g (i.image g from.0)) moved.0 (n.choices g (i.image g from.0)) moved.1 in
      let all : Contains (reached_openly n t (suc g)) (n.next g (i.image g from.0) moved.0) = Contains-flat_map (λ j. map (n.next g j) (n.choices g j)) (i.image g from.0) _ (filter (is_open n t g) (reached_openly n t g)) (open_there g before (to_images g (omega arith)) from.0 from.1) led in
      subst (Contains (reached_openly n t (suc g))) (led_to g from.0 k arc.0 moved.0 arc.2 moved.2) all

  pub of_images : (g : ℕ) → g ≤ q.count → (j : List ℤ) → Contains (reached_openly n t g) j → (k : List ℤ) × Contains (reached_openly q t g) k × (j ≡ i.image g k)
  of_images zero h j c = elim (Contains-cons n.first j [] c) [
    | inl e ↦ (q.first, Contains-here q.first q.first [] refl, sym e ∙ i.first)
    | inr none ↦ absurd (omega (arith, none.1))
  ]
  of_images (suc g) h j c =
      let before : g < q.count = omega arith in
      let from = flat_mapped_from (λ k. map (n.next g k) (n.choices g k)) j (filter (is_open n t g) (reached_openly n t g)) c in
      let source = open_back g before (of_images g (omega arith)) from.0 from.1 in
      let reached : IsReached q g source.0 = openly_reached g source.0 (omega arith) (filtered_from (is_open q t g) source.0 (reached_openly q t g) source.1).0 in
      let arc = mapped_from (n.next g from.0) j (n.choices g from.0) from.2 in
      let moved = i.back g source.0 arc.0 reached before (subst (λ x. Contains (n.choices g x) arc.0) source.2 arc.1) in
      let led : Contains (map (q.next g source.0) (q.choices g source.0)) (q.next g source.0 moved.0) = Contains-map (q.next g source.0) moved.0 (q.choices g source.0) moved.1 in
      (q.next g source.0 moved.0, Contains-flat_map (λ k. map (q.next g k) (q.choices g k)) source.0 (q.next g source.0 moved.0) (filter (is_open q t g) (reached_openly q t g)) source.1 led, led_from g from.0 source.0 j arc.0 moved.0 arc.2 source.2 moved.2)

  -- so the stages below each have as many open keys
  pub opened-images : (g : ℕ) → g ≤ q.count → opened_below n t g ≡ opened_below q t g
  opened-images zero h = refl
  opened-images (suc g) h =
      let before : g < q.count = omega arith in
      let here : distinct_count key_eq (filter (is_open n t g) (reached_openly n t g)) ≡ distinct_count key_eq (filter (is_open q t g) (reached_openly q t g)) =
      images_counted (i.image g) _ _
      (λ j k a b. i.one_to_one g j k
      (openly_reached g j (omega (arith, before)) (filtered_from (is_open q t g) j (reached_openly q t g) a).0)
      (openly_reached g k (omega (arith, before)) (filtered_from (is_open q t g) k (reached_openly q t g) b).0))
      (open_there g before (to_images g (omega (arith, before)))) (open_back g before (of_images g (omega (arith, before)))) in
      ap (λ a. a + distinct_count key_eq (filter (is_open n t g) (reached_openly n t g))) (opened-images g (omega arith))
      ∙ ap (λ b. opened_below q t g + b) here
