-- The pieces of a network that runs are those of the network that is written down, where its keys stand for that one's: the same is closed, and each part is given the keys that stand for its written ones.
use Rattle.std.proofs.Common.{◌≡◌, ℕ, zero, suc, ◌+◌, ◌-◌, ◌%◌, ◌<◌, ◌≤◌, List, Bool, true, false, cond, inl, inr, refl, sym, ◌∙◌, ap, subst, arith, nat_eq}
use Rattle.std.specs.Prelude.{ℤ, min}
use Rattle.std.specs.List.{filter, Contains}
use Rattle.std.specs.Ordering.{is_lt}
use Rattle.weights.specs.declared.tails.Tail.{Tail}
use Rattle.weights.proofs.Members.{Contains-filter}
use Rattle.node_pool.specs.Nodes.{key_cmp}
use Rattle.networks.specs.declared.stages.Verdict.{Verdict}
use Rattle.networks.specs.declared.stages.Verdict.TheVariants.{Inside, Outside, Undecided}
use Rattle.networks.specs.Completions.{extreme_weight, is_inside, over_arcs}
use Rattle.networks.specs.Laws.{IsLawful}
use Rattle.networks.specs.Network.{Network, IsReached}
use Rattle.networks.specs.Opened.{is_open, is_undecided, reached_openly}
use Rattle.networks.specs.Written.{RunsFor, StandsFor}
use Rattle.networks.proofs.Images.{filtered_from, images_counted, of_images, openly_reached, to_images}
use Rattle.networks.proofs.Lumping.{lumped-extreme}
use Rattle.networks.proofs.Writing.{as-images, one_to_one}
use Rattle.piece_texts.specs.declared.piece.PieceSum.{PieceSum}
use Rattle.piece_texts.specs.PieceTexts.{SumFits}
use Rattle.pieces.specs.Cuts.{PiecesAddUp, belongs, closed_sum, cut_stage, keys_open_at, open_sum, piece_sum, place_of}
use Rattle.pieces.proofs.ByPaths.{inside-here, inside-later, inside_part, none-inside, open-openly, passing_extreme}
use Rattle.pieces.proofs.Conserving.{openly}
use Rattle.pieces.proofs.CutSums.{piece-fits, pieces-add-up}
use Rattle.pieces.proofs.Owned.{over-same}

sums : ℕ → ℕ → PieceSum
sums a b = record { closed = a; sum = b }

same_piece : (a b c d : ℕ) → a ≡ c → b ≡ d → sums a b ≡ sums c d
same_piece a b c d e f = rw (e, f) refl

inside-is : (v : Verdict) → is_inside v ≡ true → v ≡ Inside
inside-is Inside e = refl
inside-is Outside e = absurd cc
inside-is Undecided e = absurd cc

by_bool : (P : Type 0) (b : Bool) → (b ≡ true → P) → (b ≡ false → P) → P
by_bool P true there other = there refl
by_bool P false there other = other refl

module _ (n q : Network) (t : Tail) (w : StandsFor n q t) where
  -- over the arcs of a key and of its written one
  arcs-same : (h f : List ℤ → ℕ) (g : ℕ) (k : List ℤ) → IsReached n g k → g < n.count → ((j : List ℤ) → IsReached n (g + 1) j → h (w.written j) ≡ f j) → over_arcs q h g (w.written k) ≡ over_arcs n f g k
  arcs-same h f g k r before same =
      sym (w.lumped.arcs f h g k (w.written k) before (r, refl) (λ j i a. sym (same j a.0) ∙ ap h (sym a.1)))

  open-same : (g : ℕ) (k : List ℤ) → IsReached n g k → is_open q t g (w.written k) ≡ is_open n t g k
  open-same g k r = ap is_undecided (w.verdict g k r)

  -- what is extreme from a key on
  extreme-at : (g : ℕ) (k : List ℤ) → g ≤ n.count → IsReached n g k → extreme_weight q t g (w.written k) ≡ extreme_weight n t g k
  extreme-at g k h r =
      sym (lumped-extreme w.lumped t (λ i j a.
      sym (w.verdict n.count i a.0)
      ∙ ap (q.verdict t n.count) (sym a.1)
      ∙ ap (λ m. q.verdict t m j) w.lumped.count) g k (w.written k) h (r, refl))

  -- what stays open
  openly-same : (m g e : ℕ) (h f : List ℤ → ℕ) (k : List ℤ) → g + m ≡ e → e ≤ n.count → IsReached n g k → ((j : List ℤ) → IsReached n e j → h (w.written j) ≡ f j) → openly q t m g h (w.written k) ≡ openly n t m g f k
  openly-same zero g e h f k is l r same =
      let here : e ≡ g = omega (arith, is) in
      ap (λ b. cond b (h (w.written k)) 0) (open-same g k r)
      ∙ ap (λ x. cond (is_open n t g k) x 0) (same k (subst (λ i. IsReached n i k) (sym here) r))
  openly-same (suc m) g e h f k is l r same =
      let before : g < n.count = omega (arith, is, l) in
      ap (λ b. cond b (over_arcs q (openly q t m (g + 1) h) g (w.written k)) 0) (open-same g k r)
      ∙ ap (λ x. cond (is_open n t g k) x 0) (arcs-same (openly q t m (g + 1) h) (openly n t m (g + 1) f) g k r before (λ j s. openly-same m (g + 1) e h f j (omega (arith, is)) l s same))

  -- what meets an inside key
  from-inside : (m e g : ℕ) (k : List ℤ) → g + e ≡ n.count → IsReached n g k → is_inside (n.verdict t g k) ≡ true → inside_part q t m e g (w.written k) ≡ inside_part n t m e g k
  from-inside m e g k is r v =
      let here : n.verdict t g k ≡ Inside = inside-is (n.verdict t g k) v in
      inside-here q t m e g (w.written k) (is ∙ w.lumped.count) (w.verdict g k r ∙ here)
      ∙ extreme-at g k (omega (arith, is)) r
      ∙ sym (inside-here n t m e g k is here)

  inside-same : (m e g : ℕ) (k : List ℤ) → m ≤ e → g + e ≡ n.count → IsReached n g k → inside_part q t m e g (w.written k) ≡ inside_part n t m e g k
  inside-same zero e g k le is r = by_bool _ (is_inside (n.verdict t g k)) (from-inside zero e g k is r) (λ v.
      none-inside q t e g (w.written k) (ap is_inside (w.verdict g k r) ∙ v)
      ∙ sym (none-inside n t e g k v))
  inside-same (suc m) zero g k le is r = absurd (omega (arith, le))
  inside-same (suc m) (suc e) g k le is r =
      let before : g < n.count = omega (arith, is) in
      let later : (j : List ℤ) → IsReached n (g + 1) j → inside_part q t m e (g + 1) (w.written j) ≡ inside_part n t m e (g + 1) j = λ j s. inside-same m e (g + 1) j (omega (arith, le)) (omega (arith, is)) s in
      by_bool _ (is_inside (n.verdict t g k)) (from-inside (suc m) (suc e) g k is r) (λ v.
      inside-later q t m e g (w.written k) (ap is_inside (w.verdict g k r) ∙ v)
      ∙ arcs-same (inside_part q t m e (g + 1)) (inside_part n t m e (g + 1)) g k r before later
      ∙ sym (inside-later n t m e g k v))

  closed-same : (m : ℕ) → m ≤ n.count → closed_sum q t m ≡ closed_sum n t m
  unfolding closed_sum
  closed-same m h =
      ap (λ e. inside_part q t m (e - 0) 0 q.first) (sym w.lumped.count)
      ∙ ap (inside_part q t m (n.count - 0) 0) w.lumped.first.1
      ∙ inside-same m (n.count - 0) 0 n.first (omega (arith, h)) (omega arith) refl

  -- ---- whose keys they are

  -- the open keys of a stage
  keys-reached : (g : ℕ) (k : List ℤ) → g ≤ n.count → Contains (keys_open_at n t g) k → IsReached n g k
  keys-reached g k h c = openly_reached q n t (as-images n q t w) g k h (filtered_from (is_open n t g) k (reached_openly n t g) c).0

  keys-there : (g : ℕ) (k : List ℤ) → g ≤ n.count → Contains (keys_open_at n t g) k → Contains (keys_open_at q t g) (w.written k)
  keys-there g k h c =
      let held = filtered_from (is_open n t g) k (reached_openly n t g) c in
      Contains-filter (is_open q t g) (w.written k) (reached_openly q t g) (to_images q n t (as-images n q t w) g h k held.0) (open-same g k (keys-reached g k h c) ∙ held.1)

  keys-back : (g : ℕ) (j : List ℤ) → g ≤ n.count → Contains (keys_open_at q t g) j → (k : List ℤ) × Contains (keys_open_at n t g) k × (j ≡ w.written k)
  keys-back g j h c =
      let held = filtered_from (is_open q t g) j (reached_openly q t g) c in
      let from = of_images q n t (as-images n q t w) g h j held.0 in
      let reached : IsReached n g from.0 = openly_reached q n t (as-images n q t w) g from.0 h from.1 in
      let open_here : is_open n t g from.0 ≡ true = sym (open-same g from.0 reached) ∙ ap (is_open q t g) (sym from.2) ∙ held.1 in
      (from.0, Contains-filter (is_open n t g) from.0 (reached_openly n t g) from.1 open_here, from.2)

  -- as many of them come before a key as of the written ones before its own
  place-same : (g : ℕ) (k : List ℤ) → g ≤ n.count → IsReached n g k → place_of q t g (w.written k) ≡ place_of n t g k
  place-same g k h r =
      let fore : List ℤ → Bool = λ j. is_lt (key_cmp j k) in
      let fore-written : List ℤ → Bool = λ j. is_lt (key_cmp j (w.written k)) in
      images_counted w.written (filter fore-written (keys_open_at q t g)) (filter fore (keys_open_at n t g))
      (λ i j a b e. one_to_one n q t w g i j
      (keys-reached g i h (filtered_from fore i (keys_open_at n t g) a).0)
      (keys-reached g j h (filtered_from fore j (keys_open_at n t g) b).0) e)
      (λ j c.
      let held = filtered_from fore j (keys_open_at n t g) c in
      Contains-filter fore-written (w.written j) (keys_open_at q t g) (keys-there g j h held.0) (ap is_lt (w.order g j k (keys-reached g j h held.0) r) ∙ held.1))
      (λ i c.
      let held = filtered_from fore-written i (keys_open_at q t g) c in
      let from = keys-back g i h held.0 in
      let less : fore from.0 ≡ true = sym (ap is_lt (w.order g from.0 k (keys-reached g from.0 h from.1) r)) ∙ ap fore-written (sym from.2) ∙ held.1 in
      (from.0, Contains-filter fore from.0 (keys_open_at n t g) from.1 less, from.2))

  belongs-same : (g parts part : ℕ) (k : List ℤ) → g ≤ n.count → IsReached n g k → belongs q t g parts part (w.written k) ≡ belongs n t g parts part k
  belongs-same g parts part k h r = ap (λ place. nat_eq (place % parts) part) (place-same g k h r)

  part-same : (g parts part : ℕ) → g ≤ n.count → open_sum q t g (belongs q t g parts part) ≡ open_sum n t g (belongs n t g parts part)
  part-same g parts part h =
      let of_written : List ℤ → ℕ = passing_extreme q t (belongs q t g parts part) g in
      let of_running : List ℤ → ℕ = passing_extreme n t (belongs n t g parts part) g in
      open-openly q t (belongs q t g parts part) g (omega (arith, h, w.lumped.count))
      ∙ ap (openly q t g 0 of_written) w.lumped.first.1
      ∙ openly-same g 0 g of_written of_running n.first (omega arith) h refl (λ j r.
      ap (λ b. cond b (extreme_weight q t g (w.written j)) 0) (belongs-same g parts part j h r)
      ∙ ap (λ x. cond (belongs n t g parts part j) x 0) (extreme-at g j h r))
      ∙ sym (open-openly n t (belongs n t g parts part) g h)

  least : (at count : ℕ) → min at count ≤ count
  least at count = omega arith

  pieces-same : (at parts part : ℕ) → piece_sum q t at parts part ≡ piece_sum n t at parts part
  unfolding sums
  pieces-same at parts part =
      let g : ℕ = cut_stage n at in
      let h : g ≤ n.count = least at n.count in
      let here : cut_stage q at ≡ g = ap (min at) (sym w.lumped.count) in
      ap (λ i. sums (closed_sum q t i) (open_sum q t i (belongs q t i parts part))) here
      ∙ same_piece (closed_sum q t g) (open_sum q t g (belongs q t g parts part)) (closed_sum n t g) (open_sum n t g (belongs n t g parts part)) (closed-same g h) (part-same g parts part h)

-- so what runs for a network has its pieces, which add up, and as much that is extreme
module _ (n q : Network) (t : Tail) (runs : RunsFor n q t) where
  pub piece-written : (at parts part : ℕ) → piece_sum n t at parts part ≡ piece_sum q t at parts part
  piece-written at parts part = elim runs [
    | inl same ↦ ap (λ i. piece_sum i t at parts part) same
    | inr w ↦ sym (pieces-same n q t w at parts part)
  ]

  pub extreme-written : extreme_weight n t 0 n.first ≡ extreme_weight q t 0 q.first
  extreme-written = elim runs [
    | inl same ↦ ap (λ (i : Network). extreme_weight i t 0 i.first) same
    | inr w ↦ sym (ap (extreme_weight q t 0) w.lumped.first.1 ∙ extreme-at n q t w 0 n.first (omega arith) refl)
  ]

  closed-written : (at : ℕ) → closed_sum n t (cut_stage n at) ≡ closed_sum q t (cut_stage q at)
  closed-written at = ap (λ (p : PieceSum). p.closed) (piece-written at 0 0)

  pub adds-up-written : IsLawful n → (at parts : ℕ) → 1 ≤ parts → PiecesAddUp q t at parts
  adds-up-written l at parts some =
      let all = over-same (λ part. (piece_sum n t at parts part).sum) (λ part. (piece_sum q t at parts part).sum) parts (λ part. ap (λ (p : PieceSum). p.sum) (piece-written at parts part)) in
      omega (arith, all, closed-written at, extreme-written, pieces-add-up n l t at parts some)

  pub fits-written : IsLawful n → (at parts part : ℕ) → SumFits (piece_sum q t at parts part)
  fits-written l at parts part = subst SumFits (piece-written at parts part) (piece-fits n l t at parts part)
