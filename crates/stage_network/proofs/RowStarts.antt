-- Keys of one room as the nodes of a row, and what is settled row after row.
use Rattle.std.proofs.Common.{◌≡◌, ℕ, zero, suc, ◌+◌, ◌-◌, ◌*◌, ◌<◌, ◌≤◌, List, [], ◌∷◌, ◌++◌, length, take, drop, replicate, get_or, refl, sym, ◌∙◌, ap, subst, arith, append-nil, append_assoc, length-append}
use Rattle.std.specs.Prelude.{ℤ}
use Rattle.std.specs.List.{AllByRecursion}
use Rattle.std.proofs.lemmas.List.{length-replicate, take_more, take-append-drop}
use Rattle.std.proofs.lemmas.List.Elements.{filter-append}
use Rattle.std.proofs.lemmas.List.Sums.{sum_by-append}
use Rattle.weights.specs.declared.tails.Tail.{Tail}
use Rattle.node_pool.specs.Nodes.{Node, node, weighted}
use Rattle.count_arrays.specs.Rows.{row_nodes, stepped}
use Rattle.count_arrays.proofs.RowNodes.{row-none, row-parts}
use Rattle.count_arrays.proofs.RowSums.{positive}
use Rattle.networks.specs.declared.tail_sums.Kept.{Kept}
use Rattle.networks.specs.Network.{Network, IsReached}
use Rattle.stage_network.specs.ArcSteps.{lift}
use Rattle.stage_network.specs.NodeSteps.{AllReached}
use Rattle.stage_network.specs.SweepSteps.{stays, staying, counted}
use Rattle.stage_network.proofs.OpenKeys.{map-append}
use Rattle.stage_network.proofs.Sweeps.{counted-append}

-- a cell behind others, with empty ones before it
one_cell : (z s : ℤ) (w : ℕ) → 1 ≤ w → row_nodes z s (w ∷ []) ≡ node (z ∷ []) w ∷ []
one_cell z s zero h = absurd (omega (arith, h))
one_cell z s (suc w) h = rw (positive w) refl

pub cells-pushed : (lowest stride : ℤ) (cells : List ℕ) (place w : ℕ) → length cells ≤ place → 1 ≤ w → row_nodes lowest stride ((cells ++ replicate (place - length cells) 0) ++ w ∷ []) ≡ row_nodes lowest stride cells ++ node (stepped lowest stride place ∷ []) w ∷ []
cells-pushed lowest stride cells place w h some =
    let empty : List ℕ = replicate (place - length cells) 0 in
    let long : length (cells ++ empty) ≡ place = omega (arith, length-append cells empty, length-replicate {A = ℕ} (place - length cells) 0, h) in
    row-parts lowest stride (cells ++ empty) (w ∷ [])
    ∙ ap (λ m. row_nodes lowest stride (cells ++ empty) ++ row_nodes (stepped lowest stride m) stride (w ∷ [])) long
    ∙ ap (λ ns. ns ++ row_nodes (stepped lowest stride place) stride (w ∷ [])) (row-parts lowest stride cells empty ∙ ap (λ ns. row_nodes lowest stride cells ++ ns) (row-none (stepped lowest stride (length cells)) stride (place - length cells)) ∙ append-nil (row_nodes lowest stride cells))
    ∙ ap (λ ns. row_nodes lowest stride cells ++ ns) (one_cell (stepped lowest stride place) stride w some)

-- one key more
pub key-more : (nodes before partials more : List Node) (i w : ℕ) (room : List ℤ) (z : ℤ) (d : Node) → i < length nodes → get_or nodes i d ≡ node (room ++ z ∷ []) w → take i nodes ≡ before ++ lift room partials → more ≡ partials ++ node (z ∷ []) w ∷ [] → take (i + 1) nodes ≡ before ++ lift room more
key-more nodes before partials more i w room z d low at was is =
    take_more nodes i d low
    ∙ ap (λ ns. ns ++ get_or nodes i d ∷ []) was
    ∙ ap (λ a. (before ++ lift room partials) ++ a ∷ []) at
    ∙ append_assoc before (lift room partials) (node (room ++ z ∷ []) w ∷ [])
    ∙ ap (λ ns. before ++ ns) (sym (ap (lift room) is ∙ map-append (λ (a : Node). node (room ++ a.key) a.weight) partials (node (z ∷ []) w ∷ [])))

-- what holds of all holds of those in front, and of those behind
all-front : {X : Type 0} (P : X → Type 0) (xs ys : List X) → AllByRecursion P (xs ++ ys) → AllByRecursion P xs
all-front P [] ys a = tt
all-front P (x ∷ xs) ys a = (a.0, all-front P xs ys a.1)

all-behind : {X : Type 0} (P : X → Type 0) (xs ys : List X) → AllByRecursion P (xs ++ ys) → AllByRecursion P ys
all-behind P [] ys a = a
all-behind P (x ∷ xs) ys a = all-behind P xs ys a.1

-- a row of keys is settled behind those before it
module _ (n : Network) (keep : Kept) (g : ℕ) (all work : List Node) (start end : ℕ) (is : take end all ≡ take start all ++ work) where
  parted : (take start all ++ work) ++ drop end all ≡ all
  parted = ap (λ ns. ns ++ drop end all) (sym is) ∙ take-append-drop end all

  pub row-reached : AllReached n g all → AllReached n g work
  row-reached r =
      let P : Node → Type 0 = λ a. IsReached n g a.key in
      all-behind P (take start all) work (all-front P (take start all ++ work) (drop end all) (subst (AllByRecursion P) (sym parted) r))

  pub row-weighted : (f : List ℤ → ℕ) → weighted f (take end all) ≡ weighted f (take start all) + weighted f work
  row-weighted f = ap (weighted f) is ∙ sum_by-append (λ (a : Node). a.weight * f a.key) (take start all) work

  pub row-within : (f : List ℤ → ℕ) → weighted f work ≤ weighted f all
  row-within f =
      omega (arith, row-weighted f, sum_by-append (λ (a : Node). a.weight * f a.key) (take end all) (drop end all), ap (weighted f) (take-append-drop end all))

  pub row-stays : (old rest new : List Node) → old ≡ staying n keep g (take start all) → rest ≡ staying n keep g work → new ≡ old ++ rest → new ≡ staying n keep g (take end all)
  row-stays old rest new was more e =
      e ∙ ap (λ ns. ns ++ rest) was ∙ ap (λ ns. staying n keep g (take start all) ++ ns) more
      ∙ sym (ap (staying n keep g) is ∙ filter-append (λ (a : Node). stays n keep g a.key) (take start all) work)

  pub row-counted : (t : Tail) → counted n keep t g (take end all) ≡ counted n keep t g (take start all) + counted n keep t g work
  row-counted t = ap (counted n keep t g) is ∙ counted-append n keep t g (take start all) work
