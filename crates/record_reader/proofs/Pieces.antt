-- Facts of a list that is cut into pieces.
use Rattle.std.proofs.Common.{◌≡◌, ◌∙◌, ◌≤◌, ◌<◌, ◌+◌, ◌-◌, ℕ, zero, suc, List, [], ◌∷◌, ◌++◌, length, take, drop, get_or, refl, sym, ap, arith}
use Rattle.std.proofs.lemmas.List.{drop-append-le, get_or-drop, get_or-take, length-append, length-drop, length-take-le, take-append-le}
use Rattle.std.proofs.Math.Seq.{drop-append_seam, take-length}
use Rattle.record_reader.specs.Pieces.{Cuts, pieces}

length-pieces : {X : Type 0} (start : ℕ) (ends : List ℕ) (items : List X) → length (pieces start ends items) ≡ length ends
unfolding pieces
length-pieces start [] items = refl
length-pieces start (end ∷ ends) items = ap suc (length-pieces end ends items)

get_or-pieces : {X : Type 0} (start : ℕ) (ends : List ℕ) (items : List X) (i : ℕ) → i < length ends
    → get_or (pieces start ends items) i [] ≡ take (get_or ends i 0 - get_or (start ∷ ends) i 0) (drop (get_or (start ∷ ends) i 0) items)
unfolding pieces
get_or-pieces start [] items i there = absurd (omega arith)
get_or-pieces start (end ∷ ends) items zero there = refl
get_or-pieces start (end ∷ ends) items (suc i) there = get_or-pieces end ends items i (omega arith)

start-within : (start : ℕ) (ends : List ℕ) (size : ℕ) → Cuts start ends size → start ≤ size
unfolding Cuts
start-within start [] size cuts = omega arith
start-within start (end ∷ ends) size cuts =
    let more = start-within end ends size cuts.1 in
    omega arith

starts-before : (start : ℕ) (ends : List ℕ) (size i : ℕ) → Cuts start ends size → i < length ends → get_or (start ∷ ends) i 0 ≤ get_or ends i 0
unfolding Cuts
starts-before start [] size i cuts there = absurd (omega arith)
starts-before start (end ∷ ends) size zero cuts there = cuts.0
starts-before start (end ∷ ends) size (suc i) cuts there = starts-before end ends size i cuts.1 (omega arith)

ends-within : (start : ℕ) (ends : List ℕ) (size i : ℕ) → Cuts start ends size → i < length ends → get_or ends i 0 ≤ size
unfolding Cuts
ends-within start [] size i cuts there = absurd (omega arith)
ends-within start (end ∷ ends) size zero cuts there = start-within end ends size cuts.1
ends-within start (end ∷ ends) size (suc i) cuts there = ends-within end ends size i cuts.1 (omega arith)

-- all pieces of a list, and their ends
pub record AreAll {X : Type 0} (ends : List ℕ) (items : List X) (all : List (List X)) : Type 0 where
  pub view : pieces 0 ends items ≡ all
  pub cuts : Cuts 0 ends (length items)

pub are-all : {X : Type 0} {ends : List ℕ} {items : List X} {all : List (List X)} → pieces 0 ends items ≡ all → Cuts 0 ends (length items)
    → AreAll ends items all
are-all view cuts = record { view = view; cuts = cuts }

-- there are as many pieces as ends
pub count-is : {X : Type 0} {ends : List ℕ} {items : List X} {all : List (List X)} → AreAll ends items all → length ends ≡ length all
count-is {X} {ends} {items} {all} are = sym (length-pieces 0 ends items) ∙ ap length are.view

-- a piece starts before it ends
pub start-le-end : {X : Type 0} {ends : List ℕ} {items : List X} {all : List (List X)} (i : ℕ) → AreAll ends items all → i < length all
    → get_or (0 ∷ ends) i 0 ≤ get_or ends i 0
start-le-end {X} {ends} {items} {all} i are there = starts-before 0 ends (length items) i are.cuts (omega (arith, count-is are))

-- a piece ends within the list
pub end-le-size : {X : Type 0} {ends : List ℕ} {items : List X} {all : List (List X)} (i : ℕ) → AreAll ends items all → i < length all
    → get_or ends i 0 ≤ length items
end-le-size {X} {ends} {items} {all} i are there = ends-within 0 ends (length items) i are.cuts (omega (arith, count-is are))

-- a piece goes from its start to its end
pub piece-is : {X : Type 0} {ends : List ℕ} {items : List X} {all : List (List X)} (i : ℕ) → AreAll ends items all → i < length all
    → get_or all i [] ≡ take (get_or ends i 0 - get_or (0 ∷ ends) i 0) (drop (get_or (0 ∷ ends) i 0) items)
piece-is {X} {ends} {items} {all} i are there =
    ap (λ (xs : List (List X)). get_or xs i []) (sym are.view) ∙ get_or-pieces 0 ends items i (omega (arith, count-is are))

-- the length of a piece
pub width-is : {X : Type 0} {ends : List ℕ} {items : List X} {all : List (List X)} (i : ℕ) → AreAll ends items all → i < length all
    → length (get_or all i []) ≡ get_or ends i 0 - get_or (0 ∷ ends) i 0
width-is {X} {ends} {items} {all} i are there =
    let start = get_or (0 ∷ ends) i 0 in
    let end = get_or ends i 0 in
    let rest : end - start ≤ length (drop start items) = omega (arith, length-drop start items, start-le-end i are there, end-le-size i are there) in
    ap length (piece-is i are there) ∙ length-take-le (end - start) (drop start items) rest

-- the place in the list of an item of a piece
pub place-lt-end : {X : Type 0} {ends : List ℕ} {items : List X} {all : List (List X)} (i j : ℕ) → AreAll ends items all → i < length all
    → j < length (get_or all i []) → get_or (0 ∷ ends) i 0 + j < get_or ends i 0
place-lt-end i j are there inside = omega (arith, width-is i are there, start-le-end i are there)

-- the item at a place of a piece
pub item-is : {X : Type 0} {ends : List ℕ} {items : List X} {all : List (List X)} (i j : ℕ) (d : X) → AreAll ends items all → i < length all
    → j < length (get_or all i []) → get_or (get_or all i []) j d ≡ get_or items (get_or (0 ∷ ends) i 0 + j) d
item-is {X} {ends} {items} {all} i j d are there inside =
    let start = get_or (0 ∷ ends) i 0 in
    let end = get_or ends i 0 in
    let short : j < end - start = omega (arith, width-is i are there) in
    ap (λ (xs : List X). get_or xs j d) (piece-is i are there) ∙ get_or-take (end - start) (drop start items) j d short ∙ get_or-drop start items j d

cuts-push : (start : ℕ) (ends : List ℕ) (size end : ℕ) → Cuts start ends size → size ≤ end → Cuts start (ends ++ end ∷ []) end
unfolding Cuts
cuts-push start [] size end cuts le = (omega arith, refl)
cuts-push start (e ∷ ends) size end cuts le = (cuts.0, cuts-push e ends size end cuts.1 le)

pieces-push : {X : Type 0} (start : ℕ) (ends : List ℕ) (items more : List X) → Cuts start ends (length items)
    → pieces start (ends ++ (length items + length more) ∷ []) (items ++ more) ≡ pieces start ends items ++ more ∷ []
unfolding Cuts pieces
pieces-push start [] items more cuts =
    let size : (length items + length more) - length items ≡ length more = omega arith in
    rw (cuts, drop-append_seam items more, size, take-length more) refl
pieces-push start (end ∷ ends) items more cuts =
    let high = start-within end ends (length items) cuts.1 in
    let low : start ≤ length items = omega arith in
    let rest : end - start ≤ length (drop start items) = omega (arith, length-drop start items) in
    let piece : take (end - start) (drop start (items ++ more)) ≡ take (end - start) (drop start items) =
    ap (take (end - start)) (drop-append-le start items more low) ∙ take-append-le (end - start) (drop start items) more rest in
    rw (piece, pieces-push end ends items more cuts.1) refl

-- no piece of an empty list
pub none : {X : Type 0} → AreAll {X = X} [] [] []
unfolding Cuts pieces
none = record { view = refl; cuts = refl }

-- one piece more, at the end
pub one_more : {X : Type 0} {ends : List ℕ} {items : List X} {all : List (List X)} (more : List X) → AreAll ends items all
    → AreAll (ends ++ length (items ++ more) ∷ []) (items ++ more) (all ++ more ∷ [])
one_more {X} {ends} {items} {all} more are =
    let size = length-append items more in
    let le : length items ≤ length items + length more = omega arith in
    rw size record {
      view = pieces-push 0 ends items more are.cuts ∙ ap (λ (xs : List (List X)). xs ++ more ∷ []) are.view;
      cuts = rw size (cuts-push 0 ends (length items) (length items + length more) are.cuts le);
    }

-- the same of the lists that a push leaves
pub pushed : {X : Type 0} {ends ends' : List ℕ} {items items' : List X} {all : List (List X)} (more : List X) → AreAll ends items all
    → items' ≡ items ++ more → ends' ≡ ends ++ length items' ∷ [] → AreAll ends' items' (all ++ more ∷ [])
pushed more are items-is ends-is = rw (ends-is, items-is) (one_more more are)
