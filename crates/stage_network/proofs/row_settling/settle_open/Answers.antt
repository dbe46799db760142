use Rattle.std.proofs.Common.{◌≡◌, ◌≢◌, ◌<◌, ◌≤◌, ◌+◌, ◌-◌, ◌*◌, ◌++◌, ◌∷◌, [], ℕ, List, length, map, get_or, take, drop, cond, ap, sym, ◌∙◌, arith, refl, rules, FitsSigned, to_z, of_z}
use Rattle.std.specs.Prelude.{ℤ, pos}
use Rattle.std.proofs.lemmas.Int.{to_z-of_z}
use Rattle.std.proofs.lemmas.List.{take_all, take-map, drop-map, length-map, length-append, length-drop, length-take-le}
use Rattle.std.proofs.lemmas.Slice.{take-put_mid_below, between-put_mid, drop-put_mid}
use borrow.Rule.Slice.PartMut.{put_mid}
use mir.Syntax.{w128}
use Rattle.node_pool.specs.Nodes.{weighted}
use Rattle.count_arrays.specs.Rows.{row_nodes, stepped}
use Rattle.networks.specs.Asked.{asked}
use Rattle.networks.specs.Network.{Network, IsReached}
use Rattle.stage_network.specs.NodeSteps.{AllReached}
use Rattle.networks.specs.EachTail.{sum_for, some_undecided}
use Rattle.stage_network.specs.ArcSteps.{lift}
use Rattle.stage_network.proofs.Asked.{asked-roomed, asked-total}
use Rattle.stage_network.proofs.Rests.{settled}
use Rattle.stage_network.proofs.Roomwise.{front-room, lift-rooms, lift-weighted, lift-length}
use Rattle.stage_network.proofs.Shifted.{row-weight}
use Rattle.stage_network.proofs.Stretches.{Uniform, cell-reached, cell-rest, part-reached, part-sum, steady-row, same-rest, nodes-more, inside-more, opened-more}
use Rattle.stage_network.proofs.Sweeps.{closed-weighted}
use Rattle.stage_network.proofs.row_settling.settle_open.Given.{Over}
use Rattle.stage_network.proofs.row_settling.settle_open.Goals as goal
use Rattle.stage_network.proofs.row_settling.settle_open.Goals.{After-as_slice-2}

-- a part that was put back keeps the length
length-put : {X : Type 0} (a k : ℕ) (xs ys : List X) → a ≤ length xs → a + k ≤ length xs → length ys ≡ k → length (put_mid a k xs ys) ≡ length xs
length-put a k xs ys h j e = omega (arith, length-append (take a xs) (ys ++ drop k (drop a xs)), length-append ys (drop k (drop a xs)), length-take-le a xs h, length-drop k (drop a xs), length-drop a xs, e, j)

-- cells before which none is full
no_nodes : (lowest stride : ℤ) (xs : List ℕ) (i : ℕ) → i ≡ length xs → row_nodes lowest stride (take (i - 0) (drop 0 xs)) ≡ [] → row_nodes lowest stride xs ≡ []
no_nodes lowest stride xs i last none = ap (row_nodes lowest stride) (sym (take_all (i - 0) xs (omega (arith, last)))) ∙ none

-- the number of a cell, as it is passed on
stored : (lowest stride z : ℤ) (i : ℕ) → FitsSigned w128 lowest → FitsSigned w128 z → z ≡ stepped (to_z w128 (of_z w128 lowest)) stride i → to_z w128 (of_z w128 z) ≡ stepped lowest stride i
stored lowest stride z i low fits is = to_z-of_z w128 z fits ∙ is ∙ ap (λ l. stepped l stride i) (to_z-of_z w128 lowest low)

-- the key of the first full cell
first_reached : {X : Type 0} (n : Network) (s : ℕ) (r k : List ℤ) (lowest stride : ℤ) (num : X → ℕ) (cells : List X) (first : ℕ) → k ≡ stepped lowest stride first ∷ [] → AllReached n s (lift r (row_nodes lowest stride (map num cells))) → first ≢ length cells → first ≤ length cells → (first < length cells → 0 < get_or (map num cells) first 0) → IsReached n s (r ++ k)
first_reached n s r k lowest stride num cells first is reached some within full =
    let low : first < length cells = omega (arith, some, within) in
    rw is (cell-reached n s r lowest stride (map num cells) first reached (omega (arith, low, length-map cells num)) (full low))

-- that of a full cell from which on nothing has changed
next_reached : {X : Type 0} (n : Network) (s : ℕ) (r k : List ℤ) (lowest stride : ℤ) (num : X → ℕ) (cells now : List X) (i : ℕ) → k ≡ stepped lowest stride i ∷ [] → AllReached n s (lift r (row_nodes lowest stride (map num cells))) → i < length now → length now ≡ length cells → (i < length now → 0 < get_or (map num now) i 0) → drop i (map num now) ≡ drop i (map num cells) → IsReached n s (r ++ k)
next_reached n s r k lowest stride num cells now i is reached low long full rest =
    let some : 0 < get_or (map num now) i 0 = full low in
    rw is (cell-reached n s r lowest stride (map num cells) i reached (omega (arith, low, long, length-map cells num)) (omega (arith, some, cell-rest (map num cells) (map num now) i rest)))

pub returns-then-first-cells : goal.returns-then-first-cells
returns-then-first-cells g c =
    let none = no_nodes c.args.lowest (pos c.args.stride) (map g.C.Count.number c.args.cells.now) c.next_full-first.result (c.if-first-cells.true ∙ sym (length-map c.args.cells.now g.C.Count.number)) (c.next_full-first.ensures.empty c.args.lowest (pos c.args.stride)) in
    record { long = refl; settled = record { nodes = rw none refl; sum = λ t. rw none (omega arith); opened = λ t. rw none (omega arith) } }

pub outlook-requires-clause-place : goal.outlook-requires-clause-place
outlook-requires-clause-place g c = record {
  partial = stepped c.args.lowest (pos c.args.stride) c.next_full-first.result ∷ [];
  wide = c.requires.full.wide;
  reached = first_reached (asked c.args.tails (g.S.Stages.network c.args.stages.now)) c.args.stage c.args.room.now _ c.args.lowest (pos c.args.stride) g.C.Count.number c.args.cells.now c.next_full-first.result refl c.requires.full.reached c.if-first-cells.false c.next_full-first.ensures.within c.next_full-first.ensures.full;
}

pub verdicts_of-verdicts-requires-clause-reached : goal.verdicts_of-verdicts-requires-clause-reached
verdicts_of-verdicts-requires-clause-reached g c =
    let i = c.loop-i.invariant in
    let is = c.as_slice.ensures ∙ ap (λ z. z ∷ []) (stored c.args.lowest (pos c.args.stride) c.in_ok-partial.partial c.loop-i.i c.ranges.lowest (search rules) c.in_ok-partial.ensures) in
    next_reached (asked c.args.tails (g.S.Stages.network c.args.stages.now)) c.args.stage c.args.room.now _ c.args.lowest (pos c.args.stride) g.C.Count.number c.args.cells.now c.loop-i.cells c.loop-i.i is c.requires.full.reached c.loop-i-test.true i.long i.full i.rest

pub same_for_all-same-requires-clause-reached : goal.same_for_all-same-requires-clause-reached
same_for_all-same-requires-clause-reached g c =
    let i = c.loop-i.invariant in
    let is = ap (λ z. z ∷ []) (stored c.args.lowest (pos c.args.stride) c.in_ok-partial.partial c.loop-i.i c.ranges.lowest (search rules) c.in_ok-partial.ensures) in
    next_reached (asked c.args.tails (g.S.Stages.network c.args.stages.now)) c.args.stage c.args.room.now _ c.args.lowest (pos c.args.stride) g.C.Count.number c.args.cells.now c.loop-i.cells c.loop-i.i is c.requires.full.reached c.loop-i-test.true i.long i.full i.rest

pub settle_stretch-requires-clause-fits : goal.settle_stretch-requires-clause-fits
settle_stretch-requires-clause-fits g c = λ lo st.
    let r = c.args.room.now in
    let num = g.C.Count.number in
    let xs = map num c.args.cells.now in
    let S = pos c.args.stride in
    let i = c.loop-i.i in
    let j = c.stretch_end-end.result in
    let seg : map num (take (j - i) (drop i c.loop-i.cells)) ≡ take (j - i) (drop i xs) = sym (take-map num (j - i) (drop i c.loop-i.cells)) ∙ ap (take (j - i)) (sym (drop-map num i c.loop-i.cells) ∙ c.loop-i.invariant.rest) in
    omega (arith, ap (λ ws. weighted (λ k. 1) (row_nodes lo st ws)) seg, row-weight lo st (take (j - i) (drop i xs)), part-sum xs i (j - i), row-weight c.args.lowest S xs, lift-weighted (λ k. 1) r (row_nodes c.args.lowest S xs), c.requires.full.fits)

pub loop-i-preserved : goal.loop-i-preserved
loop-i-preserved g c =
    let n = asked c.args.tails (g.S.Stages.network c.args.stages.now) in
    let s = c.args.stage in
    let r = c.args.room.now in
    let num = g.C.Count.number in
    let xs = map num c.args.cells.now in
    let S = pos c.args.stride in
    let l = to_z-of_z w128 c.args.lowest c.ranges.lowest in
    let i = c.loop-i.i in
    let ys = map num c.loop-i.cells in
    let low : i < length xs = omega (arith, c.loop-i-test.true, c.loop-i.invariant.long, length-map c.args.cells.now num) in
    let p_is : to_z w128 (of_z w128 c.in_ok-partial.partial) ≡ stepped c.args.lowest S i = stored c.args.lowest S c.in_ok-partial.partial i c.ranges.lowest (search rules) c.in_ok-partial.ensures in
    let as_is : c.as_slice.result.now ≡ stepped c.args.lowest S i ∷ [] = c.as_slice.ensures ∙ ap (λ z. z ∷ []) p_is in
    let j = c.stretch_end-end.result in
    let seg : map num (take (j - i) (drop i c.loop-i.cells)) ≡ take (j - i) (drop i xs) = sym (take-map num (j - i) (drop i c.loop-i.cells)) ∙ ap (take (j - i)) (sym (drop-map num i c.loop-i.cells) ∙ c.loop-i.invariant.rest) in
    let m = c.next_full-i.result in
    let v = c.verdicts_of-verdicts.result in
    let new = c.settle_stretch.new.cells in
    let cells = put_mid i (j - i) c.loop-i.cells new in
    let zs = map num cells in
    let lows : i ≤ length c.loop-i.cells = omega (arith, c.loop-i-test.true) in
    let after : i < j = c.stretch_end-end.ensures.after in
    let upto : j ≤ length c.loop-i.cells = c.stretch_end-end.ensures.within in
    let size : length new ≡ j - i = c.in_ok-inside.ensures.long ∙ length-take-le (j - i) (drop i c.loop-i.cells) (omega (arith, length-drop i c.loop-i.cells, upto, after)) in
    let front : take i zs ≡ take i ys = take-map num i cells ∙ ap (map num) (take-put_mid_below i (j - i) c.loop-i.cells new i (omega arith) lows) ∙ sym (take-map num i c.loop-i.cells) in
    let back : drop j zs ≡ drop j ys = drop-map num j cells ∙ ap (map num) (drop-put_mid i (j - i) c.loop-i.cells new j (omega (arith, after)) lows size) ∙ sym (drop-map num j c.loop-i.cells) in
    let mid_is : take (j - i) (drop i zs) ≡ map num new = ap (take (j - i)) (drop-map num i cells) ∙ take-map num (j - i) (drop i cells) ∙ ap (map num) (between-put_mid i (j - i) c.loop-i.cells new j lows size) in
    let seg_old : take (j - i) (drop i ys) ≡ map num (take (j - i) (drop i c.loop-i.cells)) = ap (take (j - i)) (drop-map num i c.loop-i.cells) ∙ take-map num (j - i) (drop i c.loop-i.cells) in
    let mid : (lo st : ℤ) → row_nodes lo st (take (j - i) (drop i zs)) ≡ cond (some_undecided v) (row_nodes lo st (take (j - i) (drop i ys))) [] = λ lo st. ap (row_nodes lo st) mid_is ∙ c.in_ok-inside.ensures.nodes lo st ∙ ap (λ ws. cond (some_undecided v) (row_nodes lo st ws) []) (sym seg_old) in
    let long : length cells ≡ length c.args.cells.now = length-put i (j - i) c.loop-i.cells new lows (omega (arith, after, upto)) size ∙ c.loop-i.invariant.long in
    let P = stepped c.args.lowest S i in
    let part = take (j - i) (drop i xs) in
    let size_part : length part ≡ j - i = length-take-le (j - i) (drop i xs) (omega (arith, length-drop i xs, upto, after, c.loop-i.invariant.long, length-map c.args.cells.now num)) in
    let uniform : Uniform n s v (lift r (row_nodes P S part)) = steady-row n s r v P c.same_for_all-same.result c.args.stride (rw p_is at c.same_for_all-same.ensures) (λ t. c.verdicts_of-verdicts.ensures t ∙ ap (λ k. n.verdict t s (r ++ k)) as_is) part (rw size_part c.stretch_end-end.ensures.near) (part-reached n s r c.args.lowest S xs i (j - i) c.requires.full.reached (omega (arith, low))) in
    let within : m ≤ length xs = omega (arith, c.next_full-i.ensures.within, long, length-map c.args.cells.now num) in
    let long_zs : length zs ≡ length xs = length-map cells num ∙ long ∙ sym (length-map c.args.cells.now num) in
    record {
      long = long;
      within = omega (arith, c.next_full-i.ensures.within, long);
      full = c.next_full-i.ensures.full;
      rest = same-rest n s r v c.args.lowest S xs ys zs i j m (omega (arith, after)) c.next_full-i.ensures.after within long_zs c.loop-i.invariant.rest front back mid c.next_full-i.ensures.empty uniform;
      nodes = rw l (nodes-more n s r v c.args.lowest S xs ys zs i j m (omega (arith, after)) c.next_full-i.ensures.after within long_zs c.loop-i.invariant.rest front back mid c.next_full-i.ensures.empty uniform (rw l at c.loop-i.invariant.nodes));
      inside = λ t. rw l (inside-more n s r v c.args.lowest S xs ys zs i j m (omega (arith, after)) c.next_full-i.ensures.after within long_zs c.loop-i.invariant.rest front back mid c.next_full-i.ensures.empty uniform t (sum_for c.loop-i.inside t).sum (sum_for c.in_ok-inside.inside t).sum (weighted (λ k. 1) (row_nodes P S (map num (take (j - i) (drop i c.loop-i.cells))))) (rw l at (c.loop-i.invariant.inside t)) (ap (λ ws. weighted (λ k. 1) (row_nodes P S ws)) seg ∙ sym (lift-weighted (λ k. 1) r (row_nodes P S part))) (c.in_ok-inside.ensures.sum P S t));
      opened = λ t. rw l (opened-more n s r v c.args.lowest S xs ys zs i j m (omega (arith, after)) c.next_full-i.ensures.after within long_zs c.loop-i.invariant.rest front back mid c.next_full-i.ensures.empty uniform t (sum_for c.loop-i.inside t).opened (sum_for c.in_ok-inside.inside t).opened (length (row_nodes P S (map num (take (j - i) (drop i c.loop-i.cells))))) (rw l at (c.loop-i.invariant.opened t)) (ap (λ ws. length (row_nodes P S ws)) seg ∙ sym (lift-length r (row_nodes P S part))) (c.in_ok-inside.ensures.opened P S t));
    }

-- the first key, as its number is passed on
there : (g : Over) (c : After-as_slice-2 g) → IsReached (asked c.args.tails (g.S.Stages.network c.args.stages.now)) c.args.stage (c.args.room.now ++ c.as_slice-2.result.now)
there g c = first_reached (asked c.args.tails (g.S.Stages.network c.args.stages.now)) c.args.stage c.args.room.now _ c.args.lowest (pos c.args.stride) g.C.Count.number c.args.cells.now c.next_full-first.result
    (c.as_slice-2.ensures ∙ ap (λ z. z ∷ []) (stored c.args.lowest (pos c.args.stride) c.in_ok-some.some c.next_full-first.result c.ranges.lowest (search rules) c.in_ok-some.ensures)) c.requires.full.reached c.if-first-cells.false c.next_full-first.ensures.within c.next_full-first.ensures.full

pub rest_of-rest-requires-clause-reached : goal.rest_of-rest-requires-clause-reached
rest_of-rest-requires-clause-reached g c = there g (goal.at.rest_of-rest-requires-clause-reached g c).After-as_slice-2

pub returns : goal.returns
returns g c =
    let m = g.S.Stages.network c.args.stages.now in
    let n = asked c.args.tails m in
    let s = c.args.stage in
    let r = c.args.room.now in
    let row = row_nodes c.args.lowest (pos c.args.stride) (map g.C.Count.number c.args.cells.now) in
    let full = c.requires.full in
    let width = g.S.Roomed.room_width c.args.stages.now in
    let key = r ++ c.as_slice-2.result.now in
    let i = c.loop-i.invariant in
    let l = to_z-of_z w128 c.args.lowest c.ranges.lowest in
    let all = take_all c.loop-i.i (map g.C.Count.number c.args.cells.now) (omega (arith, c.loop-i-test.false, i.long, length-map c.args.cells.now g.C.Count.number)) in
    record {
      long = i.long;
      settled = record {
        nodes = rw (l, all, take_all c.loop-i.i (map g.C.Count.number c.loop-i.cells) (omega (arith, c.loop-i-test.false, length-map c.loop-i.cells g.C.Count.number))) at i.nodes;
        sum = λ t.
            let inside = (sum_for c.loop-i.inside t).sum in
            c.in_ok-all.ensures.sum t ∙ ap (λ m. (sum_for c.args.sums t).sum + m) (c.rest_of-rest.ensures t ∙ ap (λ m. inside * m) (sym (asked-total c.args.tails m s key))
            ∙ sym (settled n width (asked-roomed c.args.tails m width c.room_width-width.ensures.roomed) t s full.within r inside key (lift r row) full.reached (lift-rooms width r row full.wide) (rw (l, all) at (i.inside t)) (λ some. there g (goal.at.returns g c).After-as_slice-2) (front-room width r c.as_slice-2.result.now full.wide))
            ∙ closed-weighted m c.args.tails t s (lift r row));
        opened = λ t. c.in_ok-all.ensures.opened t ∙ ap (λ m. (sum_for c.args.sums t).opened + m) (rw (l, all) at (i.opened t));
      };
    }
