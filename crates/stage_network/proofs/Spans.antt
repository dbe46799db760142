-- Which nodes are those of a row, and which shift an arc has.
use Rattle.std.proofs.Common.{append_assoc, ◌≡◌, ℕ, zero, suc, ◌+◌, ◌-◌, ◌<◌, ◌≤◌, inl, inr, List, [], ◌∷◌, ◌++◌, length, take, drop, get_or, refl, sym, ◌∙◌, ap, subst, arith}
use Rattle.std.specs.Prelude.{ℤ, pos, ◌+ℤ◌}
use Rattle.std.specs.List.{Contains}
use Rattle.std.proofs.lemmas.List.{length-append, get_or_append_left, get_or_push, length_push}
use Rattle.node_pool.specs.Nodes.{Node, node}
use Rattle.count_arrays.specs.Rows.{row_nodes, stepped}
use Rattle.count_arrays.proofs.RowSums.{positive}
use Rattle.networks.specs.Network.{Network, IsReached}
use Rattle.networks.specs.Rooms.{IsArc}
use Rattle.networks.specs.Shifts.{IsShifting}
use Rattle.stage_network.specs.ArcSteps.{Arc, lift, segment}
use Rattle.stage_network.proofs.Roomwise.{lift-length, segment-at, lift-rooms, all_at, whole-key}
use Rattle.stage_network.specs.declared.row_heads.Shift.{Shift}
use Rattle.stage_network.specs.RowSteps.{Row, IsShift, AreShifts, IsSpan, all_nodes, row_whole}
use Rattle.stage_network.proofs.ArcLists.{last_or_before}

abbrev pub no_row : Row
no_row = record { room = []; lowest = pos 0; stride = pos 0; cells = [] }

-- nodes between others
between : (xs ys zs : List Node) → take (length ys) (drop (length xs) (xs ++ (ys ++ zs))) ≡ ys
between [] ys zs = front ys zs
  where
    front : (ys zs : List Node) → take (length ys) (ys ++ zs) ≡ ys
    front [] zs = refl
    front (y ∷ ys) zs = ap (λ ns. y ∷ ns) (front ys zs)
between (x ∷ xs) ys zs = between xs ys zs

-- all nodes, in three parts
pub parts : (rows : List Row) (i : ℕ) (d : Row) → i < length rows → all_nodes rows ≡ all_nodes (take i rows) ++ (row_whole (get_or rows i d) ++ all_nodes (drop (i + 1) rows))
parts [] i d h = absurd (omega (arith, h))
parts (r ∷ rows) zero d h = refl
parts (r ∷ rows) (suc i) d h =
    let e : suc i + 1 ≡ suc (i + 1) = omega arith in
    rw e (ap (λ ns. row_whole r ++ ns) (parts rows i d (omega (arith, h))) ∙ sym (append_assoc (row_whole r) (all_nodes (take i rows)) _))

-- one row more
pub before-more : (rows : List Row) (i : ℕ) (d : Row) → i < length rows → length (all_nodes (take (i + 1) rows)) ≡ length (all_nodes (take i rows)) + length (row_whole (get_or rows i d))
before-more [] i d h = absurd (omega (arith, h))
before-more (r ∷ rows) zero d h = length-append (row_whole r) [] ∙ omega arith
before-more (r ∷ rows) (suc i) d h =
    let e : suc i + 1 ≡ suc (i + 1) = omega arith in
    rw e (omega (arith, length-append (row_whole r) (all_nodes (take (i + 1) rows)), length-append (row_whole r) (all_nodes (take i rows)), before-more rows i d (omega (arith, h))))

module _ (rows : List Row) (width i start end : ℕ) (d : Row) (low : i < length rows) (from : start ≡ length (all_nodes (take i rows))) (to : end ≡ start + length (row_whole (get_or rows i d))) where
  at_once : end - start ≡ length (row_whole (get_or rows i d))
  at_once = omega (arith, to)

  same_row : (e : Row) → get_or rows i e ≡ get_or rows i d
  same_row e = by rows i low
    where
      by : (rows : List Row) (i : ℕ) → i < length rows → get_or rows i e ≡ get_or rows i d
      by [] i h = absurd (omega (arith, h))
      by (r ∷ rows) zero h = refl
      by (r ∷ rows) (suc i) h = by rows i (omega (arith, h))

  is_at : segment start end (all_nodes rows) ≡ row_whole (get_or rows i d)
  is_at =
      rw (at_once, from) (ap (λ ns. take (length (row_whole (get_or rows i d))) (drop (length (all_nodes (take i rows))) ns)) (parts rows i d low)
      ∙ between (all_nodes (take i rows)) (row_whole (get_or rows i d)) (all_nodes (drop (i + 1) rows)))

  last_at : end ≤ length (all_nodes rows)
  last_at = omega (
    arith,
    ap length (parts rows i d low),
    length-append (all_nodes (take i rows)) (row_whole (get_or rows i d) ++ all_nodes (drop (i + 1) rows)),
    length-append (row_whole (get_or rows i d)) (all_nodes (drop (i + 1) rows)),
    from,
    to,
  )

  rooms_at : length (get_or rows i d).room ≡ width → (j : ℕ) (e : Node) → start ≤ j → j < end → take width (get_or (all_nodes rows) j e).key ≡ (get_or rows i d).room
  rooms_at wide j e h k =
      let row = get_or rows i d in
      ap (λ (a : Node). take width a.key) (sym (segment-at start end j (all_nodes rows) e h k last_at) ∙ ap (λ ns. get_or ns (j - start) e) is_at)
      ∙ all_at (λ (a : Node). take width a.key ≡ row.room) (row_whole row) (j - start) e (lift-rooms width row.room (row_nodes row.lowest row.stride row.cells) wide) (omega (arith, to, h, k))

  pub spans : start < end → length (get_or rows i d).room ≡ width → IsSpan rows width i start end
  spans order wide = record {
    order = order;
    last = last_at;
    is = λ e. is_at ∙ ap row_whole (sym (same_row e));
    run = λ j e h k. rooms_at wide j e h k ∙ sym (rooms_at wide start e (omega arith) order);
    room = λ r e. rooms_at wide start e (omega arith) order ∙ ap (λ (b : Row). b.room) (sym (same_row r));
  }

  -- the first key is that of the first full cell
  pub first-key : (m : ℕ) → start < end → row_nodes (get_or rows i d).lowest (get_or rows i d).stride (get_or rows i d).cells ≡ row_nodes (stepped (get_or rows i d).lowest (get_or rows i d).stride m) (get_or rows i d).stride (drop m (get_or rows i d).cells) → (m < length (get_or rows i d).cells → 0 < get_or (get_or rows i d).cells m 0) → m ≤ length (get_or rows i d).cells → (e : Node) (r : Row) → (get_or (all_nodes rows) start e).key ≡ (get_or rows i r).room ++ stepped (get_or rows i d).lowest (get_or rows i d).stride m ∷ []
  first-key m order same full within e r =
      let row = get_or rows i d in
      let z = stepped row.lowest row.stride m in
      let there : get_or (all_nodes rows) start e ≡ get_or (row_whole row) 0 e = sym (segment-at start end start (all_nodes rows) e (omega arith) order last_at) ∙ (let none : start - start ≡ 0 = omega arith in ap (λ j. get_or (segment start end (all_nodes rows)) j e) none) ∙ ap (λ ns. get_or ns 0 e) is_at in
      ap (λ (a : Node). a.key) (there ∙ ap (λ ns. get_or (lift row.room ns) 0 e) same) ∙ front row.room z row.stride (drop m row.cells) (begins row.cells m full (order_of same)) e ∙ ap (λ (b : Row). b.room ++ z ∷ []) (sym (same_row r))
    where
      order_of : row_nodes (get_or rows i d).lowest (get_or rows i d).stride (get_or rows i d).cells ≡ row_nodes (stepped (get_or rows i d).lowest (get_or rows i d).stride m) (get_or rows i d).stride (drop m (get_or rows i d).cells) → m < length (get_or rows i d).cells
      order_of same =
          let row = get_or rows i d in
          let some : 0 < length (row_nodes row.lowest row.stride row.cells) = omega (arith, to, order, lift-length row.room (row_nodes row.lowest row.stride row.cells)) in
          by row.cells m within (stepped row.lowest row.stride m) (omega (arith, some, ap length same))
        where
          by : (cells : List ℕ) (m : ℕ) → m ≤ length cells → (z : ℤ) → 0 < length (row_nodes z (get_or rows i d).stride (drop m cells)) → m < length cells
          by [] zero h z some = absurd (omega (arith, some))
          by [] (suc m) h z some = absurd (omega (arith, h))
          by (c ∷ cells) zero h z some = omega arith
          by (c ∷ cells) (suc m) h z some = let low : m < length cells = by cells m (omega (arith, h)) z some in omega (arith, low)

      begins : (cells : List ℕ) (m : ℕ) → (m < length cells → 0 < get_or cells m 0) → m < length cells → (c : ℕ) × (rest : List ℕ) × (drop m cells ≡ suc c ∷ rest)
      begins [] m full low = absurd (omega (arith, low))
      begins (zero ∷ cells) zero full low = let no : 0 < 0 = full low in absurd (omega (arith, no))
      begins (suc c ∷ cells) zero full low = (c, cells, refl)
      begins (c ∷ cells) (suc m) full low = begins cells m (λ h. full (omega (arith, h))) (omega (arith, low))

      front : (room : List ℤ) (z s : ℤ) (cells : List ℕ) → (c : ℕ) × (rest : List ℕ) × (cells ≡ suc c ∷ rest) → (e : Node) → (get_or (lift room (row_nodes z s cells)) 0 e).key ≡ room ++ z ∷ []
      front room z s cells b e = rw (b.2, positive b.0) refl

-- an arc from a row, by its room and the key of its first node
module _ (n : Network) (g width : ℕ) (rows : List Row) (i start end : ℕ) (span : IsSpan rows width i start end) (room : List ℤ) (here : (d : Row) → room ≡ (get_or rows i d).room) (wide : length room ≡ width) (choice : List ℕ) where
  pub row-arc : (k : List ℤ) → ((d : Node) → k ≡ (get_or (all_nodes rows) start d).key) → IsReached n g k → Contains (n.choices g k) choice → IsArc n width g room choice
  row-arc k key reached allowed =
      let d = node [] 0 in
      let whole : room ++ drop width k ≡ k = whole-key width room (drop width k) k (here no_row ∙ sym (span.room no_row d) ∙ ap (take width) (sym (key d))) refl in
      record {
        partial = drop width k;
        wide = wide;
        reached = subst (IsReached n g) (sym whole) reached;
        allowed = subst (λ j. Contains (n.choices g j) choice) (sym whole) allowed;
      }

  pub row-shift : (step_width : ℕ) (step_of : ℕ → List ℤ → List ℕ → List ℤ) → IsShifting n width step_width step_of → g < n.count → i < length rows → (weight target : ℕ) (step : ℤ) → step ≡ get_or (step_of g room choice) 0 (pos 0) → IsShift n g width rows (record { start = start; end = end; choice = choice; weight = weight; target = target }) (record { row = i; step = step })
  row-shift step_width step_of shifting before low weight target step is = record {
    low = low;
    is = span.is;
    moves = λ d p r a.
        let raised : get_or (step_of g (get_or rows i d).room choice) 0 (pos 0) ≡ step = ap (λ x. get_or (step_of g x choice) 0 (pos 0)) (sym (here d)) ∙ sym is in
        shifting.moves g (get_or rows i d).room p choice (ap length (sym (here d)) ∙ wide) r before a ∙ ap (λ x. (p +ℤ x) ∷ []) raised;
  }

-- one arc more
pub shifts-push : (n : Network) (g width : ℕ) (rows : List Row) (arcs : List Arc) (shifts : List Shift) (w : Arc) (s : Shift) → AreShifts n g width rows arcs shifts → IsShift n g width rows w s → AreShifts n g width rows (arcs ++ w ∷ []) (shifts ++ s ∷ [])
shifts-push n g width rows arcs shifts w s a h = record {
  each = omega (arith, a.each, length_push shifts s, length_push arcs w);
  all = λ i d e low. elim (last_or_before i (length arcs) (omega (arith, low, length_push arcs w))) [
    | inl same ↦ rw (get_or_push arcs w d i (sym same), get_or_push shifts s e i (a.each ∙ sym same)) h
    | inr less ↦ rw (get_or_append_left arcs (w ∷ []) d i less, get_or_append_left shifts (s ∷ []) e i (omega (arith, less, a.each))) (a.all i d e less)
  ];
}
