-- A pool, one key at a time.
use Rattle.std.proofs.Common.{◌≡◌, ◌≢◌, ℕ, ◌+◌, ◌-◌, ◌*◌, ◌^◌, ◌<◌, ◌≤◌, List, [], ◌∷◌, ◌++◌, length, get_or, set, true, false, refl, arith, sym, ◌∙◌, ap, subst}
use Rattle.std.specs.Prelude.{ℤ}
use Rattle.std.proofs.lemmas.List.{length_push, length-set, get_or_append_left, get_or_push}
use Rattle.node_pool.specs.HashSteps.{home_of}
use Rattle.node_pool.specs.Nodes.{Node, node, is_held, weight_in}
use Rattle.node_pool.specs.Pool.{IsMerge, IsPlaced}
use Rattle.node_pool.specs.TableSteps.{IsWalk, IsHeldAt, IsFreeAt, key_at, AllEmpty}
use Rattle.node_pool.specs.PoolSteps.{IsPool, IsRow, nodes_of, put}
use Rattle.node_pool.proofs.Tables.{table-more, table-none}
use Rattle.node_pool.proofs.Puts.{none_distinct, put-new, put-held, put-distinct, put-merge, put-placed, put-keeps, put-longer, weight-held, held-member, not-member}
use Rattle.node_pool.proofs.NodeLists.{length-nodes, nodes-at, nodes-set, nodes-more, row-more, key_at-more, key_at-new}

pub pool-none : (width : ℕ) (buckets : List ℕ) (spare sr : ℕ) → width ≤ 16 → AllEmpty buckets → 2 * spare ≤ length buckets → 1 ≤ length buckets → length buckets ≤ 2 ^ 32 → spare ≤ sr → IsPool width [] [] [] buckets spare sr
pool-none width buckets spare sr b empty half some small s =
    let none : 0 + spare ≡ spare = omega arith in
    record {
      widest = b;
      table = table-none width [] [] buckets empty;
      long = omega arith;
      weighed = refl;
      half = rw none half;
      some = some;
      small = small;
      apart = none_distinct;
      slots_fit = rw none s;
    }

module _ {width : ℕ} {row : List ℤ} {ws slots buckets : List ℕ} {spare sr : ℕ} (pool : IsPool width row ws slots buckets spare sr) where
  pub pool-row : IsRow width row ws
  pool-row = record { long = rw pool.weighed pool.long }

  pub count-nodes : length (nodes_of width row ws) ≡ length slots
  count-nodes = length-nodes width row ws ∙ pool.weighed

  -- a key that is held at a place, and its weight raised
  module _ {key : List ℤ} {place : ℕ} (held : IsHeldAt width (length slots) row key place) where
    weighs : place < length ws
    weighs = omega (arith, held.low, pool.weighed)

    low : place < length (nodes_of width row ws)
    low = omega (arith, held.low, count-nodes)

    here : (d : Node) → (get_or (nodes_of width row ws) place d).key ≡ key
    here d = ap (λ (a : Node). a.key) (nodes-at width row ws place d weighs) ∙ held.here

    pub held-true : is_held (nodes_of width row ws) key ≡ true
    held-true = held-member key (nodes_of width row ws) place (node key 0) low (here (node key 0))

    pub raised-fits : (w limit : ℕ) → weight_in (nodes_of width row ws) key + w ≤ limit → get_or ws place 0 + w ≤ limit
    raised-fits w limit fits =
        let d : Node = node key 0 in
        let is : weight_in (nodes_of width row ws) key ≡ get_or ws place 0 = weight-held key (nodes_of width row ws) place d pool.apart low (here d) ∙ ap (λ (a : Node). a.weight) (nodes-at width row ws place d weighs) in
        omega (arith, fits, is)

    raised-nodes : (w : ℕ) → nodes_of width row (set ws place (get_or ws place 0 + w)) ≡ put key w (nodes_of width row ws)
    raised-nodes w =
        let d : Node = node key 0 in
        nodes-set width row ws place (get_or ws place 0 + w) weighs
        ∙ ap (λ k. set (nodes_of width row ws) place (node k (get_or ws place 0 + w))) held.here
        ∙ ap (λ (a : Node). set (nodes_of width row ws) place (node key (a.weight + w))) (sym (nodes-at width row ws place d weighs))
        ∙ sym (put-held key w (nodes_of width row ws) place d pool.apart low (here d))

    pub raised-pool : (w : ℕ) → IsPool width row (set ws place (get_or ws place 0 + w)) slots buckets spare sr
    raised-pool w = record {
      widest = pool.widest;
      table = pool.table;
      long = pool.long;
      weighed = length-set ws place (get_or ws place 0 + w) ∙ pool.weighed;
      half = pool.half;
      some = pool.some;
      small = pool.small;
      apart = rw (raised-nodes w) (put-distinct key w (nodes_of width row ws) pool.apart);
      slots_fit = pool.slots_fit;
    }

    pub raised-merge : (w : ℕ) → IsMerge (nodes_of width row ws) key w (nodes_of width row (set ws place (get_or ws place 0 + w)))
    raised-merge w = rw (raised-nodes w) (put-merge key w (nodes_of width row ws) pool.apart)

    pub raised-placed : (w : ℕ) → IsPlaced (nodes_of width row ws) key (nodes_of width row (set ws place (get_or ws place 0 + w))) place
    raised-placed w = rw (raised-nodes w) (put-placed key w (nodes_of width row ws) place (omega (arith, low, put-longer key w (nodes_of width row ws))) (λ d. put-keeps key w (nodes_of width row ws) place d low ∙ here d))

  -- a key that is not held, and a slot that is free for it
  module _ {key : List ℤ} {slot : ℕ} (free : IsFreeAt width (length slots) row buckets key slot) where
    none_there : (i : ℕ) (d : Node) → i < length (nodes_of width row ws) → (get_or (nodes_of width row ws) i d).key ≢ key
    none_there i d h e =
        let low : i < length slots = omega (arith, h, count-nodes) in
        free.absent i low (ap (λ (a : Node). a.key) (sym (nodes-at width row ws i d (omega (arith, pool.weighed, low)))) ∙ e)

    pub held-false : is_held (nodes_of width row ws) key ≡ false
    held-false = not-member key (nodes_of width row ws) none_there

    pub slots-room : 1 ≤ spare → length slots < sr
    slots-room some = omega (arith, pool.slots_fit, some)

    put-last : (w : ℕ) → put key w (nodes_of width row ws) ≡ nodes_of width row ws ++ node key w ∷ []
    put-last w = put-new key w (nodes_of width row ws) none_there

    added-nodes : (w : ℕ) → length key ≡ width → nodes_of width (row ++ key) (ws ++ w ∷ []) ≡ put key w (nodes_of width row ws)
    added-nodes w wide = nodes-more pool-row key w wide ∙ sym (put-last w)

    pub added-pool : (w sr' : ℕ) → length key ≡ width → 1 ≤ spare → sr ≤ sr' → IsPool width (row ++ key) (ws ++ w ∷ []) (slots ++ slot ∷ []) (set buckets slot (length slots + 1)) (spare - 1) sr'
    added-pool w sr' wide some s =
        let here : key_at width (row ++ key) (length slots) ≡ key = key_at-new width (length slots) row key pool.long wide in
        let count : length (slots ++ slot ∷ []) ≡ length slots + 1 = length_push slots slot in
        let weights : length (ws ++ w ∷ []) ≡ length ws + 1 = length_push ws w in
        let size : length (set buckets slot (length slots + 1)) ≡ length buckets = length-set buckets slot (length slots + 1) in
        let longer = row-more pool-row key w wide in
        record {
          widest = pool.widest;
          table = rw count (table-more width (length slots) row (row ++ key) slots (slots ++ slot ∷ []) buckets slot pool.table free.within free.empty
              (subst (λ k. IsWalk buckets (home_of (length buckets) k) slot) (sym here) free.walk)
              (λ i low. key_at-more width i (length slots) row key low pool.long)
              (λ i low. get_or_append_left slots (slot ∷ []) 0 i low)
              (get_or_push slots slot 0 (length slots) refl));
          long = longer.long ∙ ap (λ n. n * width) (weights ∙ ap (λ n. n + 1) pool.weighed ∙ sym count);
          weighed = omega (arith, count, weights, pool.weighed);
          half = rw (count, size) (omega (arith, pool.half, some));
          some = rw size pool.some;
          small = rw size pool.small;
          apart = rw (added-nodes w wide) (put-distinct key w (nodes_of width row ws) pool.apart);
          slots_fit = rw count (omega (arith, pool.slots_fit, s, some));
        }

    pub added-merge : (w : ℕ) → length key ≡ width → IsMerge (nodes_of width row ws) key w (nodes_of width (row ++ key) (ws ++ w ∷ []))
    added-merge w wide = rw (added-nodes w wide) (put-merge key w (nodes_of width row ws) pool.apart)

    pub added-placed : (w : ℕ) → length key ≡ width → IsPlaced (nodes_of width row ws) key (nodes_of width (row ++ key) (ws ++ w ∷ [])) (length slots)
    added-placed w wide = rw (added-nodes w wide) (put-placed key w (nodes_of width row ws) (length slots)
        (omega (arith, ap length (put-last w), length_push (nodes_of width row ws) (node key w), count-nodes))
        (λ d. ap (λ ns. (get_or ns (length slots) d).key) (put-last w) ∙ ap (λ (a : Node). a.key) (get_or_push (nodes_of width row ws) (node key w) d (length slots) count-nodes)))
