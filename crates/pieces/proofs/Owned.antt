-- The parts that keys are given to.
use Rattle.std.proofs.Common.{◌≡◌, ℕ, zero, suc, ◌+◌, ◌*◌, ◌<◌, ◌≤◌, List, [], ◌∷◌, ◌++◌, length, take, get_or, Bool, true, false, cond, ◌&&◌, ◌||◌, nat_eq, refl, sym, ◌∙◌, ap, subst, arith, add-one}
use Rattle.std.specs.Prelude.{ℤ}
use Rattle.std.specs.List.{AllByRecursion, IsDistinct}
use Rattle.std.proofs.lemmas.List.{append-nil}
use Rattle.std.proofs.lemmas.List.Sums.{sum_by-cons}
use Rattle.std.proofs.lemmas.Map.Keys.{IsDistinct-head, IsDistinct-tail, IsDistinct-cons}
use Rattle.node_pool.specs.Nodes.{Node, node, key_eq, keys, weighted}
use Rattle.node_pool.specs.PoolSteps.{IsRow, nodes_of}
use Rattle.node_pool.specs.TableSteps.{key_at}
use Rattle.node_pool.proofs.NodeLists.{nodes-at, nodes-more, row-more, length-nodes, key-wide}
use Rattle.node_pool.proofs.Puts.{alike, unlike, key_equiv, none_distinct}
use Rattle.networks.specs.Completions.{total_weight}
use Rattle.stage_network.specs.FromKeys.{AreStarts}
use Rattle.networks.specs.Network.{Network, IsReached}
use Rattle.stage_network.specs.NodeSteps.{AllHeavy, AllReached}
use Rattle.piece_texts.specs.Merges.{over_parts}
use Rattle.piece_texts.proofs.EachPart.{over-plus}
use Rattle.pieces.specs.Cuts.{is_owned, owned_nodes}

no-times : (a : ℕ) → a * 0 ≡ 0
no-times a = grind arith

-- keys that are apart from one
not_owned : (k : List ℤ) (ks : List (List ℤ)) (owners : List ℕ) (part : ℕ) → AllByRecursion (λ y. key_eq k y ≡ false) ks → is_owned ks owners part k ≡ false
not_owned k [] owners part a = refl
not_owned k (y ∷ ks) [] part a = refl
not_owned k (y ∷ ks) (o ∷ owners) part a = rw (a.0) (not_owned k ks owners part a.1)

other_way : (k y : List ℤ) → key_eq k y ≡ false → key_eq y k ≡ false
other_way k y differ = unlike y k (λ e. let yes : key_eq k y ≡ true = alike k y (sym e) in cc)

apart : (f : List ℤ → ℕ) (k : List ℤ) (b : Bool) (x : List ℤ → Bool) (nodes : List Node) → AllByRecursion (λ y. key_eq k y ≡ false) (keys nodes) → weighted (λ q. cond ((key_eq q k && b) || x q) (f q) 0) nodes ≡ weighted (λ q. cond (x q) (f q) 0) nodes
apart f k b x [] a = refl
apart f k b x (c ∷ nodes) a =
    let here : cond ((key_eq c.key k && b) || x c.key) (f c.key) 0 ≡ cond (x c.key) (f c.key) 0 = rw (other_way k c.key a.0) refl in
    omega (
      arith,
      sum_by-cons (λ (d : Node). d.weight * cond ((key_eq d.key k && b) || x d.key) (f d.key) 0) c nodes,
      sum_by-cons (λ (d : Node). d.weight * cond (x d.key) (f d.key) 0) c nodes,
      ap (λ m. c.weight * m) here,
      apart f k b x nodes a.1,
    )

or_false : (b : Bool) → (b || false) ≡ b
or_false true = refl
or_false false = refl

-- what a part's keys come to
pub owned-weighted : (f : List ℤ → ℕ) (nodes : List Node) (owners : List ℕ) (part : ℕ) → IsDistinct key_eq (keys nodes) → weighted (λ q. cond (is_owned (keys nodes) owners part q) (f q) 0) nodes ≡ weighted f (owned_nodes nodes owners part)
owned-weighted f [] owners part d = refl
owned-weighted f (a ∷ nodes) [] part d = none (a ∷ nodes)
  where
    none : (ns : List Node) → weighted (λ q. 0) ns ≡ 0
    none [] = refl
    none (b ∷ ns) = omega (arith, sum_by-cons (λ (e : Node). e.weight * 0) b ns, none ns)
owned-weighted f (a ∷ nodes) (o ∷ owners) part d =
    let head = IsDistinct-head key_eq a.key (keys nodes) d in
    let x : List ℤ → Bool = is_owned (keys nodes) owners part in
    let mine : ((key_eq a.key a.key && nat_eq o part) || x a.key) ≡ nat_eq o part = rw (key_equiv.refl a.key, not_owned a.key (keys nodes) owners part head) (or_false (nat_eq o part)) in
    let rest = apart f a.key (nat_eq o part) x nodes head ∙ owned-weighted f nodes owners part (IsDistinct-tail key_eq a.key (keys nodes) d) in
    sum_by-cons (λ (e : Node). e.weight * cond ((key_eq e.key a.key && nat_eq o part) || x e.key) (f e.key) 0) a nodes
    ∙ ap (λ m. a.weight * cond ((key_eq a.key a.key && nat_eq o part) || x a.key) (f a.key) 0 + m) rest
    ∙ ap (λ b. a.weight * cond b (f a.key) 0 + weighted f (owned_nodes nodes owners part)) mine
    ∙ by (nat_eq o part)
  where
    by : (b : Bool) → a.weight * cond b (f a.key) 0 + weighted f (owned_nodes nodes owners part) ≡ weighted f (cond b (a ∷ owned_nodes nodes owners part) (owned_nodes nodes owners part))
    by true = sym (sum_by-cons (λ (e : Node). e.weight * f e.key) a (owned_nodes nodes owners part))
    by false = omega (arith, no-times a.weight)

pub over-same : (f h : ℕ → ℕ) (parts : ℕ) → ((p : ℕ) → f p ≡ h p) → over_parts f parts ≡ over_parts h parts
over-same f h zero same = refl
over-same f h (suc parts) same = omega (arith, over-same f h parts same, same parts)

over-none : (parts : ℕ) → over_parts (λ p. 0) parts ≡ 0
over-none zero = refl
over-none (suc parts) = omega (arith, over-none parts)

eq_is : (o p : ℕ) → nat_eq o p ≡ true → o ≡ p
eq_is o p e = grind arith

ne_is : (o p : ℕ) → nat_eq o p ≡ false → o < suc p → o < p
ne_is o p e h = grind arith

past : (o p : ℕ) → p < o → nat_eq o p ≡ false
past o p h = grind arith

pick_none : (o v parts : ℕ) → parts ≤ o → over_parts (λ p. cond (nat_eq o p) v 0) parts ≡ 0
pick_none o v zero h = refl
pick_none o v (suc parts) h = rw (past o parts (omega (arith, h))) (omega (arith, pick_none o v parts (omega (arith, h))))

pub pick_one : (o v parts : ℕ) → o < parts → over_parts (λ p. cond (nat_eq o p) v 0) parts ≡ v
pick_one o v zero h = absurd (omega (arith, h))
pick_one o v (suc parts) h = by (nat_eq o parts) refl (pick_one o v parts)
  where
    by : (b : Bool) → nat_eq o parts ≡ b → (o < parts → over_parts (λ p. cond (nat_eq o p) v 0) parts ≡ v) → over_parts (λ p. cond (nat_eq o p) v 0) (suc parts) ≡ v
    by true e rest = rw e (omega (arith, pick_none o v parts (omega (arith, eq_is o parts e))))
    by false e rest = rw e (omega (arith, rest (ne_is o parts e h)))

-- each key is in one part
pub parts-all : (f : List ℤ → ℕ) (nodes : List Node) (owners : List ℕ) (parts : ℕ) → length owners ≡ length nodes → AllByRecursion (λ o. o < parts) owners → over_parts (λ part. weighted f (owned_nodes nodes owners part)) parts ≡ weighted f nodes
parts-all f [] owners parts long below = over-none parts
parts-all f (a ∷ nodes) [] parts long below = absurd (omega (arith, long))
parts-all f (a ∷ nodes) (o ∷ owners) parts long below =
    let v : ℕ = a.weight * f a.key in
    let rest : ℕ → ℕ = λ part. weighted f (owned_nodes nodes owners part) in
    over-same _ (λ part. cond (nat_eq o part) v 0 + rest part) parts (λ part. by part (nat_eq o part))
    ∙ over-plus (λ part. cond (nat_eq o part) v 0) rest parts
    ∙ omega (arith, pick_one o v parts below.0, parts-all f nodes owners parts (omega (arith, long)) below.1, sum_by-cons (λ (e : Node). e.weight * f e.key) a nodes)
  where
    by : (part : ℕ) (b : Bool) → weighted f (cond b (a ∷ owned_nodes nodes owners part) (owned_nodes nodes owners part)) ≡ cond b (a.weight * f a.key) 0 + weighted f (owned_nodes nodes owners part)
    by part true = sum_by-cons (λ (e : Node). e.weight * f e.key) a (owned_nodes nodes owners part)
    by part false = omega arith

-- what holds of all nodes holds of a part's
owned-all : (P : Node → Type 0) (nodes : List Node) (owners : List ℕ) (part : ℕ) → AllByRecursion P nodes → AllByRecursion P (owned_nodes nodes owners part)
owned-all P [] owners part a = tt
owned-all P (b ∷ nodes) [] part a = tt
owned-all P (b ∷ nodes) (o ∷ owners) part a = elim (nat_eq o part) as (λ t. AllByRecursion P (cond t (b ∷ owned_nodes nodes owners part) (owned_nodes nodes owners part))) [ true ↦ (a.0, owned-all P nodes owners part a.1) | false ↦ owned-all P nodes owners part a.1 ]

owned-keys : (P : List ℤ → Type 0) (nodes : List Node) (owners : List ℕ) (part : ℕ) → AllByRecursion P (keys nodes) → AllByRecursion P (keys (owned_nodes nodes owners part))
owned-keys P [] owners part a = tt
owned-keys P (b ∷ nodes) [] part a = tt
owned-keys P (b ∷ nodes) (o ∷ owners) part a = elim (nat_eq o part) as (λ t. AllByRecursion P (keys (cond t (b ∷ owned_nodes nodes owners part) (owned_nodes nodes owners part)))) [ true ↦ (a.0, owned-keys P nodes owners part a.1) | false ↦ owned-keys P nodes owners part a.1 ]

owned-distinct : (nodes : List Node) (owners : List ℕ) (part : ℕ) → IsDistinct key_eq (keys nodes) → IsDistinct key_eq (keys (owned_nodes nodes owners part))
owned-distinct [] owners part d = none_distinct
owned-distinct (b ∷ nodes) [] part d = none_distinct
owned-distinct (b ∷ nodes) (o ∷ owners) part d =
    let head = IsDistinct-head key_eq b.key (keys nodes) d in
    let rest = owned-distinct nodes owners part (IsDistinct-tail key_eq b.key (keys nodes) d) in
    elim (nat_eq o part) as (λ t. IsDistinct key_eq (keys (cond t (b ∷ owned_nodes nodes owners part) (owned_nodes nodes owners part)))) [
      | true ↦ IsDistinct-cons key_eq b.key (keys (owned_nodes nodes owners part)) (owned-keys (λ y. key_eq b.key y ≡ false) nodes owners part head) rest
      | false ↦ rest
    ]

owned-le : (f : List ℤ → ℕ) (nodes : List Node) (owners : List ℕ) (part : ℕ) → weighted f (owned_nodes nodes owners part) ≤ weighted f nodes
owned-le f [] owners part = omega arith
owned-le f (a ∷ nodes) [] part = omega arith
owned-le f (a ∷ nodes) (o ∷ owners) part =
    let rest = owned-le f nodes owners part in
    elim (nat_eq o part) as (λ t. weighted f (cond t (a ∷ owned_nodes nodes owners part) (owned_nodes nodes owners part)) ≤ weighted f (a ∷ nodes)) [
      | true ↦ omega (arith, sum_by-cons (λ (e : Node). e.weight * f e.key) a (owned_nodes nodes owners part), sum_by-cons (λ (e : Node). e.weight * f e.key) a nodes, rest)
      | false ↦ omega (arith, sum_by-cons (λ (e : Node). e.weight * f e.key) a nodes, rest)
    ]

-- a sweep can begin with the keys that a part owns
pub owned-starts : (n : Network) (g : ℕ) (row own-row : List ℤ) (weights own : List ℕ) (owners : List ℕ) (part : ℕ) → AreStarts n g row weights → nodes_of n.width own-row own ≡ owned_nodes (nodes_of n.width row weights) owners part → length own-row ≡ length own * n.width → AreStarts n g own-row own
owned-starts n g row own-row weights own owners part a is long =
    let all : List Node = nodes_of n.width row weights in
    record {
      within = a.within;
      long = long;
      heavy = subst AllHeavy (sym is) (owned-all (λ (b : Node). 1 ≤ b.weight) all owners part a.heavy);
      reached = subst (AllReached n g) (sym is) (owned-all (λ (b : Node). IsReached n g b.key) all owners part a.reached);
      distinct = subst (λ ns. IsDistinct key_eq (keys ns)) (sym is) (owned-distinct all owners part a.distinct);
      fits = omega (arith, ap (weighted (total_weight n g)) is, owned-le (total_weight n g) all owners part, a.fits);
    }

-- one key more
owned-next_one : (nodes : List Node) (owners : List ℕ) (part i : ℕ) (d : Node) → i < length nodes → i < length owners → owned_nodes (take (suc i) nodes) (take (suc i) owners) part ≡ owned_nodes (take i nodes) (take i owners) part ++ cond (nat_eq (get_or owners i 0) part) (get_or nodes i d ∷ []) []
owned-next_one [] owners part i d low here = absurd (omega (arith, low))
owned-next_one (a ∷ nodes) [] part i d low here = absurd (omega (arith, here))
owned-next_one (a ∷ nodes) (o ∷ owners) part zero d low here = refl
owned-next_one (a ∷ nodes) (o ∷ owners) part (suc i) d low here =
    let rest = owned-next_one nodes owners part i d (omega (arith, low)) (omega (arith, here)) in
    elim (nat_eq o part) as (λ t. cond t (a ∷ owned_nodes (take (suc i) nodes) (take (suc i) owners) part) (owned_nodes (take (suc i) nodes) (take (suc i) owners) part) ≡ cond t (a ∷ owned_nodes (take i nodes) (take i owners) part) (owned_nodes (take i nodes) (take i owners) part) ++ cond (nat_eq (get_or owners i 0) part) (get_or nodes i d ∷ []) []) [
      | true ↦ ap (λ ns. a ∷ ns) rest
      | false ↦ rest
    ]

owned-more : (nodes : List Node) (owners : List ℕ) (part i : ℕ) (d : Node) → i < length nodes → i < length owners → owned_nodes (take (i + 1) nodes) (take (i + 1) owners) part ≡ owned_nodes (take i nodes) (take i owners) part ++ cond (nat_eq (get_or owners i 0) part) (get_or nodes i d ∷ []) []
owned-more nodes owners part i d low here = rw add-one (owned-next_one nodes owners part i d low here)

pub record AreOwned (width : ℕ) (row : List ℤ) (weights owners : List ℕ) (part i : ℕ) (own-row : List ℤ) (own : List ℕ) : Type 0 where
  pub nodes : nodes_of width own-row own ≡ owned_nodes (take i (nodes_of width row weights)) (take i owners) part
  pub long : length own-row ≡ length own * width

pub owned-step : (width : ℕ) (row : List ℤ) (weights owners : List ℕ) (part i : ℕ) (own-row own-row' key : List ℤ) (own own' : List ℕ) (w : ℕ) (b : Bool) → i < length weights → length owners ≡ length weights → length row ≡ length weights * width → w ≡ get_or weights i 0 → key ≡ key_at width row i → nat_eq (get_or owners i 0) part ≡ b → own-row' ≡ own-row ++ cond b key [] → own' ≡ own ++ cond b (w ∷ []) [] → AreOwned width row weights owners part i own-row own → AreOwned width row weights owners part (i + 1) own-row' own'
owned-step width row weights owners part i own-row own-row' key own own' w true low each long is key_is mine more more' was =
    let within : i < length (nodes_of width row weights) = omega (arith, low, length-nodes width row weights) in
    let rows : IsRow width row weights = record { long = long } in
    let old : IsRow width own-row own = record { long = was.long } in
    let wide : length key ≡ width = ap length key_is ∙ key-wide rows i within in
    let at : get_or (nodes_of width row weights) i (node [] 0) ≡ node key w = nodes-at width row weights i (node [] 0) low ∙ ap (λ k. node k (get_or weights i 0)) (sym key_is) ∙ ap (node key) (sym is) in
    let next = owned-more (nodes_of width row weights) owners part i (node [] 0) within (omega (arith, low, each)) in
    let grown : owned_nodes (take (i + 1) (nodes_of width row weights)) (take (i + 1) owners) part ≡ owned_nodes (take i (nodes_of width row weights)) (take i owners) part ++ node key w ∷ [] =
    next ∙ ap (λ t. owned_nodes (take i (nodes_of width row weights)) (take i owners) part ++ cond t (get_or (nodes_of width row weights) i (node [] 0) ∷ []) []) mine
    ∙ ap (λ a. owned_nodes (take i (nodes_of width row weights)) (take i owners) part ++ a ∷ []) at in
    rw (more, more') (record {
      nodes = nodes-more old key w wide ∙ ap (λ ns. ns ++ node key w ∷ []) was.nodes ∙ sym grown;
      long = (row-more old key w wide).long;
    })
owned-step width row weights owners part i own-row own-row' key own own' w false low each long is key_is mine more more' was =
    let within : i < length (nodes_of width row weights) = omega (arith, low, length-nodes width row weights) in
    let same : own-row' ≡ own-row = more ∙ append-nil own-row in
    let same' : own' ≡ own = more' ∙ append-nil own in
    let next = owned-more (nodes_of width row weights) owners part i (node [] 0) within (omega (arith, low, each)) in
    let left : owned_nodes (take (i + 1) (nodes_of width row weights)) (take (i + 1) owners) part ≡ owned_nodes (take i (nodes_of width row weights)) (take i owners) part =
    next ∙ ap (λ t. owned_nodes (take i (nodes_of width row weights)) (take i owners) part ++ cond t (get_or (nodes_of width row weights) i (node [] 0) ∷ []) []) mine
    ∙ append-nil (owned_nodes (take i (nodes_of width row weights)) (take i owners) part) in
    rw (same, same') (record { nodes = was.nodes ∙ sym left; long = was.long })
