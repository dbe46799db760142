-- Room by room: what one more node, arc or room changes.
use Rattle.std.proofs.Common.{◌≡◌, ℕ, zero, suc, ◌+◌, ◌-◌, ◌*◌, ◌<◌, ◌≤◌, List, [], ◌∷◌, ◌++◌, length, map, take, drop, get_or, Bool, true, false, cond, refl, sym, ◌∙◌, ap, arith, subst, add-one, append_assoc, append-nil, nat_eq}
use Rattle.std.specs.Prelude.{ℤ}
use Rattle.std.specs.List.{sum_by, flat_map, filter, Contains, AllByRecursion, IsDistinct}
use Rattle.node_pool.specs.Pool.{IsPlaced}
use Rattle.node_pool.proofs.Puts.{alike, unlike}
use Rattle.std.proofs.lemmas.List.{take-append-drop, take-append-le, length-drop, length-take-le, take_all, get_or-take, get_or-drop}
use Rattle.node_pool.specs.Nodes.{Node, node, key_eq, keys, weighted}
use Rattle.networks.specs.Network.{Network, IsReached}
use Rattle.stage_network.specs.NodeSteps.{AllReached, AllHeavy, successor, successors}
use Rattle.networks.specs.Rooms.{AreRoommates, IsRoomed}
use Rattle.weights.proofs.Sums.{sum_by-map, sum_by-same, sum_by-plus, sum_by-zero}
use Rattle.stage_network.specs.ArcSteps.{IsRun, Arc, segment, arc_nodes, spread_out, bucket, lift, IsFine, AllFine}
use Rattle.std.proofs.lemmas.Map.Keys.{IsDistinct-head, IsDistinct-tail, IsDistinct-cons}
use Rattle.std.proofs.lemmas.List.Sums.{sum_by-cons, sum_by_more, sum_by-take-le, sum_by-append}
use Rattle.std.proofs.lemmas.List.Elements.{filter_more}
use Rattle.std.proofs.lemmas.List.Concat.{flat_map-append}
use Rattle.stage_network.proofs.Stepping.{is_node, reached_at}

-- a node more that passes
module _ (p : List ℤ → Bool) (nodes : List Node) (i : ℕ) (low : i < length nodes) (d : Node) (k : List ℤ) (w : ℕ) (key : k ≡ (get_or nodes i d).key) (weight : w ≡ (get_or nodes i d).weight) where
  pub kept-next : (kept kept' old : List Node) → kept ≡ old ++ filter (λ a. p a.key) (take i nodes) → kept' ≡ kept ++ cond (p k) (node k w ∷ []) [] → kept' ≡ old ++ filter (λ a. p a.key) (take (i + 1) nodes)
  kept-next kept kept' old before step =
      step ∙ ap (λ ns. ns ++ cond (p k) (node k w ∷ []) []) before
      ∙ append_assoc old (filter (λ a. p a.key) (take i nodes)) (cond (p k) (node k w ∷ []) [])
      ∙ ap (λ ns. old ++ ns) (sym (filter_more (λ b. p b.key) nodes i (node k w) low ∙ ap (λ b. filter (λ b. p b.key) (take i nodes) ++ cond (p b.key) (b ∷ []) []) (sym (is_node nodes i low d k w key weight))))

-- heavy nodes
pub heavy_at : (nodes : List Node) (i : ℕ) (d : Node) → AllHeavy nodes → i < length nodes → 1 ≤ (get_or nodes i d).weight
heavy_at [] i d a h = absurd (omega arith)
heavy_at (b ∷ nodes) zero d a h = a.0
heavy_at (b ∷ nodes) (suc i) d a h = heavy_at nodes i d a.1 (omega (arith, h))

-- segments
pub length-segment : (s e : ℕ) (nodes : List Node) → s ≤ e → e ≤ length nodes → length (segment s e nodes) ≡ e - s
length-segment s e nodes h k = length-take-le (e - s) (drop s nodes) (omega (arith, length-drop s nodes, h, k))

pub segment-at : (s e i : ℕ) (nodes : List Node) (d : Node) → s ≤ i → i < e → e ≤ length nodes → get_or (segment s e nodes) (i - s) d ≡ get_or nodes i d
segment-at s e i nodes d h k l =
    let on : s + (i - s) ≡ i = omega (arith, h) in
    get_or-take (e - s) (drop s nodes) (i - s) d (omega (arith, h, k)) ∙ get_or-drop s nodes (i - s) d ∙ ap (λ j. get_or nodes j d) on

-- those before a place behind them are all of them
pub segment-all : (s e i : ℕ) (nodes : List Node) → s < e → e ≤ length nodes → e ≤ i → take (i - s) (segment s e nodes) ≡ segment s e nodes
segment-all s e i nodes h k low = take_all (i - s) (segment s e nodes) (omega (arith, length-segment s e nodes (omega (arith, h)) k, h, low))

-- the nodes that an arc leads to, one more
module _ (n : Network) (g : ℕ) (c : List ℕ) (f : List ℤ → ℕ) (nodes : List Node) (s e i : ℕ) (d : Node) (h : s ≤ i) (k : i < e) (l : e ≤ length nodes) where
  part : Node → ℕ
  part b = (b.weight * n.weight g b.key c) * f (n.next g b.key c)

  as_sum : (xs : List Node) → weighted f (map (λ b. successor n g b c) xs) ≡ sum_by part xs
  unfolding part
  as_sum xs = sum_by-map (λ (b : Node). b.weight * f b.key) (λ b. successor n g b c) xs

  pub pour-more : weighted f (map (λ b. successor n g b c) (take ((i + 1) - s) (segment s e nodes))) ≡ weighted f (map (λ b. successor n g b c) (take (i - s) (segment s e nodes))) + ((get_or nodes i d).weight * n.weight g (get_or nodes i d).key c) * f (n.next g (get_or nodes i d).key c)
  unfolding part
  pour-more =
      let on : (i + 1) - s ≡ (i - s) + 1 = omega (arith, h) in
      rw on (as_sum (take ((i - s) + 1) (segment s e nodes)) ∙ sum_by_more part (segment s e nodes) (i - s) d (omega (arith, length-segment s e nodes (omega (arith, h, k)) l, h, k))
      ∙ ap (λ b. sum_by part (take (i - s) (segment s e nodes)) + part b) (segment-at s e i nodes d h k l)
      ∙ ap (λ m. m + part (get_or nodes i d)) (sym (as_sum (take (i - s) (segment s e nodes)))))

  pub pour-fits : weighted f (map (λ b. successor n g b c) (take (i - s) (segment s e nodes))) + ((get_or nodes i d).weight * n.weight g (get_or nodes i d).key c) * f (n.next g (get_or nodes i d).key c) ≤ weighted f (map (λ b. successor n g b c) (segment s e nodes))
  unfolding part
  pour-fits = omega (arith, pour-more, as_sum (take ((i + 1) - s) (segment s e nodes)), as_sum (segment s e nodes), sum_by-take-le part (segment s e nodes) ((i + 1) - s))

pub by_choices : (n : Network) (g : ℕ) (f : List ℤ → ℕ) (cs : List (List ℕ)) (seg : List Node) → AllByRecursion (λ (b : Node). n.choices g b.key ≡ cs) seg → sum_by (λ c. weighted f (map (λ b. successor n g b c) seg)) cs ≡ weighted f (flat_map (successors n g) seg)
by_choices n g f cs [] a = sum_by-zero cs
by_choices n g f cs (b ∷ seg) a =
    sum_by-same _ (λ c. (b.weight * n.weight g b.key c) * f (n.next g b.key c) + weighted f (map (λ b. successor n g b c) seg)) (λ c. sum_by-cons (λ (b : Node). b.weight * f b.key) (successor n g b c) (map (λ b. successor n g b c) seg)) cs
    ∙ sum_by-plus (λ c. (b.weight * n.weight g b.key c) * f (n.next g b.key c)) (λ c. weighted f (map (λ b. successor n g b c) seg)) cs
    ∙ ap (λ m. m + sum_by (λ c. weighted f (map (λ b. successor n g b c) seg)) cs) (sym (sum_by-map (λ (b : Node). b.weight * f b.key) (successor n g b) cs))
    ∙ ap (λ m. weighted f (map (successor n g b) cs) + m) (by_choices n g f cs seg a.1)
    ∙ ap (λ xs. weighted f (map (successor n g b) xs) + weighted f (flat_map (successors n g) seg)) (sym a.0)
    ∙ sym (sum_by-append (λ (b : Node). b.weight * f b.key) (successors n g b) (flat_map (successors n g) seg))

all_take : (P : Node → Type 0) (xs : List Node) (m : ℕ) → ((i : ℕ) (d : Node) → i < m → i < length xs → P (get_or xs i d)) → AllByRecursion P (take m xs)
all_take P xs zero h = tt
all_take P [] (suc m) h = tt
all_take P (x ∷ xs) (suc m) h = (h 0 x (omega arith) (omega arith), all_take P xs m (λ i d a b. h (suc i) d (omega (arith, a)) (omega (arith, b))))

pub all_segment : (P : Node → Type 0) (s e : ℕ) (nodes : List Node) → ((i : ℕ) (d : Node) → s ≤ i → i < e → P (get_or nodes i d)) → AllByRecursion P (segment s e nodes)
all_segment P s e nodes h = all_take P (drop s nodes) (e - s) (λ i d a b. subst P (sym (get_or-drop s nodes i d)) (h (s + i) d (omega arith) (omega (arith, a))))

-- one more arc
pub spread-push : (n : Network) (g : ℕ) (nodes : List Node) (f : List ℤ → ℕ) (arcs : List Arc) (w : Arc) → weighted f (spread_out n g nodes (arcs ++ w ∷ [])) ≡ weighted f (spread_out n g nodes arcs) + weighted f (arc_nodes n g nodes w)
spread-push n g nodes f arcs w =
    ap (weighted f) (flat_map-append (arc_nodes n g nodes) arcs (w ∷ []))
    ∙ sum_by-append (λ (b : Node). b.weight * f b.key) (spread_out n g nodes arcs) (arc_nodes n g nodes w ++ [])
    ∙ ap (λ xs. weighted f (spread_out n g nodes arcs) + weighted f xs) (append-nil (arc_nodes n g nodes w))

pub fine-push : (n : Network) (g width : ℕ) (nodes rooms : List Node) (arcs : List Arc) (w : Arc) → AllFine n g width nodes rooms arcs → IsFine n g width nodes rooms w → AllFine n g width nodes rooms (arcs ++ w ∷ [])
fine-push n g width nodes rooms [] w a h = (h, tt)
fine-push n g width nodes rooms (v ∷ arcs) w a h = (a.0, fine-push n g width nodes rooms arcs w a.1 h)

pub fine-kept : (n : Network) (g width : ℕ) (nodes rooms rooms' : List Node) → ((i : ℕ) (d : Node) → i < length rooms → (get_or rooms' i d).key ≡ (get_or rooms i d).key) → length rooms ≤ length rooms' → (arcs : List Arc) → AllFine n g width nodes rooms arcs → AllFine n g width nodes rooms' arcs
fine-kept n g width nodes rooms rooms' kept more [] a = tt
fine-kept n g width nodes rooms rooms' kept more (w ∷ arcs) a = (
  record {
    chosen = a.0.chosen;
    run = a.0.run;
    target = omega (arith, a.0.target, more);
    room = λ i d e h k. a.0.room i d e h k ∙ sym (kept w.target e a.0.target);
  },
  fine-kept n g width nodes rooms rooms' kept more arcs a.1,
)

pub placed-more : (old : List Node) (k : List ℤ) (new : List Node) (i : ℕ) → IsPlaced old k new i → length old ≤ length new
placed-more old k new i p = by (nat_eq i (length old)) p.count
  where
    by : (b : Bool) → length new ≡ cond b (length old + 1) (length old) → length old ≤ length new
    by true e = omega arith
    by false e = omega arith

pub fine_arc : (n : Network) (g width : ℕ) (nodes rooms : List Node) (s e t w : ℕ) (c : List ℕ) (k next : List ℤ) → IsRoomed n width → AllReached n g nodes → s < e → e ≤ length nodes → IsRun width nodes s e → t < length rooms → IsReached n g k → ((d : Node) → k ≡ (get_or nodes s d).key) → Contains (n.choices g k) c → w ≡ n.weight g k c → next ≡ n.next g k c → ((d : Node) → (get_or rooms t d).key ≡ take width next) → IsFine n g width nodes rooms (record { start = s; end = e; choice = c; weight = w; target = t })
fine_arc n g width nodes rooms s e t w c k next roomed reached order last run target here key allowed weight is place =
    let mates : (i : ℕ) (d : Node) → s ≤ i → i < e → AreRoommates n width g (get_or nodes i d).key k = λ i d h j. record {
      first = reached_at n g nodes i d reached (omega (arith, j, last));
      second = here;
      same = run i d h j ∙ sym (ap (take width) (key d));
    } in
    record {
      chosen = record {
        order = order;
        last = last;
        allowed = λ i d h j. subst (λ cs. Contains cs c) (sym (roomed.choices g (get_or nodes i d).key k (mates i d h j))) allowed;
        weighs = λ i d h j. roomed.weight g (get_or nodes i d).key k c (mates i d h j) allowed ∙ sym weight;
      };
      run = run;
      target = target;
      room = λ i d e' h j. roomed.next g (get_or nodes i d).key k c (mates i d h j) allowed ∙ ap (take width) (sym is) ∙ sym (place e');
    }

nat_eq-same : (m : ℕ) → nat_eq m m ≡ true
nat_eq-same m = grind arith

-- the arcs to one room, from the last to the first
bucket-last : (t : ℕ) (arcs : List Arc) (i : ℕ) (d : Arc) → i < length arcs → (get_or arcs i d).target ≡ t → bucket t (take (i + 1) arcs) ≡ bucket t (take i arcs) ++ get_or arcs i d ∷ []
bucket-last t arcs i d low e =
    let yes : nat_eq (get_or arcs i d).target t ≡ true = rw e (nat_eq-same t) in
    filter_more (λ a. nat_eq a.target t) arcs i d low ∙ ap (λ b. bucket t (take i arcs) ++ cond b (get_or arcs i d ∷ []) []) yes

pub fill-step : (n : Network) (g : ℕ) (nodes : List Node) (f : List ℤ → ℕ) (t : ℕ) (arcs : List Arc) (i place : ℕ) (d : Arc) → i < length arcs → (get_or arcs i d).target ≡ t → place ≡ i + 1 → weighted f (spread_out n g nodes (bucket t (take place arcs))) ≡ weighted f (spread_out n g nodes (bucket t (take i arcs))) + weighted f (arc_nodes n g nodes (get_or arcs i d))
fill-step n g nodes f t arcs i place d low e is = rw is (ap (λ ws. weighted f (spread_out n g nodes ws)) (bucket-last t arcs i d low e) ∙ spread-push n g nodes f (bucket t (take i arcs)) (get_or arcs i d))

pub all_at : {X : Type 0} (P : X → Type 0) (xs : List X) (i : ℕ) (d : X) → AllByRecursion P xs → i < length xs → P (get_or xs i d)
all_at P [] i d a h = absurd (omega arith)
all_at P (x ∷ xs) zero d a h = a.0
all_at P (x ∷ xs) (suc i) d a h = all_at P xs i d a.1 (omega (arith, h))

-- the nodes of one room more
take-none : (m : ℕ) → take {A = Node} m [] ≡ []
take-none zero = refl
take-none (suc m) = refl

take-add : (xs : List Node) (s m : ℕ) → take (s + m) xs ≡ take s xs ++ take m (drop s xs)
take-add xs zero m = let e : 0 + m ≡ m = omega arith in ap (λ j. take j xs) e
take-add [] (suc s) m = take-none (suc s + m) ∙ sym (take-none m)
take-add (x ∷ xs) (suc s) m = let e : suc s + m ≡ suc (s + m) = omega arith in rw e (ap (λ ys. x ∷ ys) (take-add xs s m))

pub list-more : (n : Network) (g : ℕ) (f : List ℤ → ℕ) (nodes : List Node) (s e : ℕ) → s ≤ e → weighted f (flat_map (successors n g) (take e nodes)) ≡ weighted f (flat_map (successors n g) (take s nodes)) + weighted f (flat_map (successors n g) (segment s e nodes))
list-more n g f nodes s e h =
    let on : s + (e - s) ≡ e = omega (arith, h) in
    ap (λ j. weighted f (flat_map (successors n g) (take j nodes))) (sym on)
    ∙ ap (λ xs. weighted f (flat_map (successors n g) xs)) (take-add nodes s (e - s))
    ∙ ap (weighted f) (flat_map-append (successors n g) (take s nodes) (segment s e nodes))
    ∙ sum_by-append (λ (b : Node). b.weight * f b.key) (flat_map (successors n g) (take s nodes)) (flat_map (successors n g) (segment s e nodes))

-- partials behind a room
pub lift-weighted : (f : List ℤ → ℕ) (r : List ℤ) (nodes : List Node) → weighted f (lift r nodes) ≡ weighted (λ k. f (r ++ k)) nodes
lift-weighted f r nodes = sum_by-map (λ (a : Node). a.weight * f a.key) (λ (a : Node). node (r ++ a.key) a.weight) nodes

pub lift-whole : (width : ℕ) (r next : List ℤ) → take width next ≡ r → r ++ drop width next ≡ next
lift-whole width r next e = rw (← e) (take-append-drop width next)

pub lift-heavy : (r : List ℤ) (nodes : List Node) → AllHeavy nodes → AllHeavy (lift r nodes)
lift-heavy r [] a = tt
lift-heavy r (b ∷ nodes) a = (a.0, lift-heavy r nodes a.1)

pub lift-length : (r : List ℤ) (nodes : List Node) → length (lift r nodes) ≡ length nodes
lift-length r [] = refl
lift-length r (b ∷ nodes) = ap suc (lift-length r nodes)

pub lift-at : (r : List ℤ) (nodes : List Node) (i : ℕ) (d e : Node) → i < length nodes → get_or (lift r nodes) i d ≡ node (r ++ (get_or nodes i e).key) (get_or nodes i e).weight
lift-at r [] i d e h = absurd (omega arith)
lift-at r (b ∷ nodes) zero d e h = refl
lift-at r (b ∷ nodes) (suc i) d e h = lift-at r nodes i d e (omega (arith, h))

same_behind : (r j k : List ℤ) → r ++ j ≡ r ++ k → j ≡ k
same_behind [] j k e = e
same_behind (x ∷ r) j k e = same_behind r j k (ap (drop 1) e)

lift-apart : (r j : List ℤ) (nodes : List Node) → AllByRecursion (λ y. key_eq j y ≡ false) (keys nodes) → AllByRecursion (λ y. key_eq (r ++ j) y ≡ false) (keys (lift r nodes))
lift-apart r j [] a = tt
lift-apart r j (b ∷ nodes) a = (unlike (r ++ j) (r ++ b.key) (λ e. let yes : key_eq j b.key ≡ true = alike j b.key (same_behind r j b.key e) in let no : key_eq j b.key ≡ false = a.0 in cc), lift-apart r j nodes a.1)

pub lift-distinct : (r : List ℤ) (nodes : List Node) → IsDistinct key_eq (keys nodes) → IsDistinct key_eq (keys (lift r nodes))
lift-distinct r [] d = d
lift-distinct r (b ∷ nodes) d = IsDistinct-cons key_eq (r ++ b.key) (keys (lift r nodes)) (lift-apart r b.key nodes (IsDistinct-head key_eq b.key (keys nodes) d)) (lift-distinct r nodes (IsDistinct-tail key_eq b.key (keys nodes) d))

pub whole-key : (width : ℕ) (r p k : List ℤ) → r ≡ take width k → p ≡ drop width k → r ++ p ≡ k
whole-key width r p k e h = rw (e, h) (take-append-drop width k)

pub front-room : (width : ℕ) (r k : List ℤ) → length r ≡ width → take width (r ++ k) ≡ r
front-room width r k e = take-append-le width r k (omega (arith, e)) ∙ take_all width r (omega (arith, e))

-- partials of nodes that are all of one room
pub whole-weighted : (width : ℕ) (r : List ℤ) (f : List ℤ → ℕ) (nodes : List Node) → AllByRecursion (λ (b : Node). take width b.key ≡ r) nodes → weighted (λ k. f (r ++ drop width k)) nodes ≡ weighted f nodes
whole-weighted width r f [] a = refl
whole-weighted width r f (b ∷ nodes) a =
    let here : f (r ++ drop width b.key) ≡ f b.key = ap f (lift-whole width r b.key a.0) in
    rw (sum_by-cons (λ (c : Node). c.weight * f (r ++ drop width c.key)) b nodes, sum_by-cons (λ (c : Node). c.weight * f c.key) b nodes, here, whole-weighted width r f nodes a.1) refl

-- one node more
pub take-next : (xs : List Node) (i : ℕ) (a : Node) → i < length xs → a ≡ get_or xs i a → take (i + 1) xs ≡ take i xs ++ a ∷ []
take-next xs i a h e = rw add-one (by xs i h e)
  where
    by : (xs : List Node) (i : ℕ) → i < length xs → a ≡ get_or xs i a → take (suc i) xs ≡ take i xs ++ a ∷ []
    by [] i h e = absurd (omega arith)
    by (x ∷ xs) zero h e = rw e refl
    by (x ∷ xs) (suc i) h e = ap (λ ys. x ∷ ys) (by xs i (omega (arith, h)) e)

pub lift-rooms : (width : ℕ) (r : List ℤ) (nodes : List Node) → length r ≡ width → AllByRecursion (λ (a : Node). take width a.key ≡ r) (lift r nodes)
lift-rooms width r [] e = tt
lift-rooms width r (b ∷ nodes) e = (front-room width r b.key e, lift-rooms width r nodes e)
