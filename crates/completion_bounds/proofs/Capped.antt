-- Products that stop at a cap.
use Rattle.std.proofs.Common.{◌≡◌, ℕ, zero, suc, ◌+◌, ◌-◌, ◌*◌, ◌/◌, ◌%◌, ◌<◌, ◌≤◌, min, drop, get_or, add-one, drop-cons, drop_of_length-le, List, [], ◌∷◌, length, Bool, true, false, refl, ◌∙◌, ap, sym, subst, arith}
use Rattle.std.specs.Prelude.{nat_le, replicate}
use Rattle.std.proofs.Math.Nat.{mul-le-mul_left}
use Rattle.std.proofs.Math.ListN.{get_or-append}
use Rattle.std.proofs.lemmas.List.{get_or-append_right, get_or-replicate, length-replicate}
use Rattle.weights.specs.Labellings.{number_of_labellings}
use Rattle.weights.specs.Numbers.{binomial}
use Rattle.weights.proofs.Binomials.{binomial-positive}
use Rattle.weights.proofs.FirstLabel.{number_of_labellings-positive}
use Rattle.completion_bounds.specs.Fillings.{filled_in_turn, evenly_divided, product_by}
use Rattle.completion_bounds.proofs.Factorials.{total, labellings-first, no_labellings, total-filled_in_turn, total-even, length-even}
use Rattle.weights.proofs.Products.{product-some}

-- a capped product times what is left, capped again
pub cap-later : (a b c : ℕ) → 1 ≤ b → min (min a c * b) c ≡ min (a * b) c
cap-later a b c h = by (nat_le c a) refl
  where
    above : (c a : ℕ) → nat_le c a ≡ true → c ≤ a
    above c a e = grind (arith, e)

    below : (c a : ℕ) → nat_le c a ≡ false → a < c
    below c a e = grind (arith, e)

    by : (t : Bool) → nat_le c a ≡ t → min (min a c * b) c ≡ min (a * b) c
    by true e =
        let l = above c a e in
        let m : min a c ≡ c = omega (arith, l) in
        let one : c * 1 ≤ c * b = mul-le-mul_left c h in
        let two : a * 1 ≤ a * b = mul-le-mul_left a h in
        rw m (omega (arith, one, two, l))
    by false e =
        let l = below c a e in
        let m : min a c ≡ a = omega (arith, l) in
        rw m refl

grouped : (a b c : ℕ) → (a * b) * c ≡ a * (b * c)
grouped a b c = grind arith

-- the cells that are still to come, of the units that are left
pub record IsTaken (all cap weight left : ℕ) (cells : List ℕ) : Type 0 where
  pub value : min (weight * number_of_labellings cells) cap ≡ min all cap
  pub units : left ≡ total cells
  pub some : 1 ≤ weight
  pub most : weight ≤ cap

pub taken-first : (product cap units : ℕ) (cells : List ℕ) → 1 ≤ product → product ≤ cap → units ≡ total cells → IsTaken (product * number_of_labellings cells) cap product units cells
taken-first product cap units cells some most e = record { value = refl; units = e; some = some; most = most }

pub taken-next : (all cap w left x : ℕ) (cells : List ℕ) → IsTaken all cap w left (x ∷ cells) → IsTaken all cap (min (w * binomial left x) cap) (left - x) cells
taken-next all cap w left x cells t =
    let ways : 1 ≤ binomial left x = binomial-positive left x (omega (arith, t.units)) in
    let first : number_of_labellings (x ∷ cells) ≡ binomial left x * number_of_labellings cells = labellings-first x cells ∙ ap (λ n. binomial n x * number_of_labellings cells) (sym t.units) in
    record {
      value = cap-later (w * binomial left x) (number_of_labellings cells) cap (number_of_labellings-positive cells)
          ∙ ap (λ n. min n cap) (grouped w (binomial left x) (number_of_labellings cells) ∙ ap (λ n. w * n) (sym first))
          ∙ t.value;
      units = omega (arith, t.units);
      some = omega (arith, product-some w (binomial left x) t.some ways, t.some, t.most);
      most = omega arith;
    }

pub taken-last : (all cap w left : ℕ) (cells : List ℕ) → cells ≡ [] → IsTaken all cap w left cells → w ≡ min all cap
taken-last all cap w left cells e t = whole w cap t.most ∙ ap (λ n. min (w * n) cap) (sym (ap number_of_labellings e ∙ no_labellings)) ∙ t.value
  where
    whole : (w c : ℕ) → w ≤ c → w ≡ min (w * 1) c
    whole w c h = omega (arith, h)

-- at place i of the cells
pub taken-at : (all cap w left : ℕ) (cells : List ℕ) (i : ℕ) → i < length cells → IsTaken all cap w left (drop i cells) → IsTaken all cap (min (w * binomial left (get_or cells i 0)) cap) (left - get_or cells i 0) (drop (i + 1) cells) × (get_or cells i 0 ≤ left)
taken-at all cap w left cells i within t =
    let parts : drop i cells ≡ get_or cells i 0 ∷ drop (i + 1) cells = rw add-one (drop-cons cells i 0 within) in
    let here : IsTaken all cap w left (get_or cells i 0 ∷ drop (i + 1) cells) = subst (IsTaken all cap w left) parts t in
    (taken-next all cap w left (get_or cells i 0) (drop (i + 1) cells) here, omega (arith, here.units))

-- rows that are filled in turn
pub turn-first : (product cap units : ℕ) (rows : List ℕ) → 1 ≤ product → product ≤ cap → units ≤ total rows → IsTaken (product * number_of_labellings (filled_in_turn units rows)) cap product units (filled_in_turn units rows)
turn-first product cap units rows some most room = taken-first product cap units (filled_in_turn units rows) some most (omega (arith, room, total-filled_in_turn units rows))

pub turn-next : (all cap w left : ℕ) (rows : List ℕ) (i : ℕ) → i < length rows → IsTaken all cap w left (filled_in_turn left (drop i rows)) → IsTaken all cap (min (w * binomial left (min (get_or rows i 0) left)) cap) (left - min (get_or rows i 0) left) (filled_in_turn (left - min (get_or rows i 0) left) (drop (i + 1) rows))
turn-next all cap w left rows i within t =
    let parts : drop i rows ≡ get_or rows i 0 ∷ drop (i + 1) rows = rw add-one (drop-cons rows i 0 within) in
    taken-next all cap w left (min (get_or rows i 0) left) (filled_in_turn (left - min (get_or rows i 0) left) (drop (i + 1) rows)) (subst (λ rest. IsTaken all cap w left (filled_in_turn left rest)) parts t)

pub turn-last : (all cap w left : ℕ) (rows : List ℕ) (i : ℕ) → length rows ≤ i → IsTaken all cap w left (filled_in_turn left (drop i rows)) → w ≡ min all cap
turn-last all cap w left rows i h t = taken-last all cap w left (filled_in_turn left (drop i rows)) (ap (filled_in_turn left) (drop_of_length-le rows h)) t

-- an even division
pub even-first : (product cap units rows : ℕ) → 1 ≤ rows → 1 ≤ product → product ≤ cap → IsTaken (product * number_of_labellings (evenly_divided units rows)) cap product units (evenly_divided units rows)
even-first product cap units rows h some most = taken-first product cap units (evenly_divided units rows) some most (sym (total-even units rows (omega (arith, h))))

pub even-greater : (units rows i : ℕ) → i < units % rows → get_or (evenly_divided units rows) i 0 ≡ units / rows + 1
even-greater units rows i h =
    let long = length-replicate (units % rows) (units / rows + 1) in
    get_or-append (replicate (units % rows) (units / rows + 1)) (replicate (rows - units % rows) (units / rows)) 0 i (omega (arith, h, long))
    ∙ get_or-replicate (units % rows) i (units / rows + 1) 0 h

pub even-fewer : (units rows i : ℕ) → units % rows ≤ i → i < rows → get_or (evenly_divided units rows) i 0 ≡ units / rows
even-fewer units rows i h within =
    get_or-append_right (replicate (units % rows) (units / rows + 1)) (replicate (rows - units % rows) (units / rows)) (units % rows) i 0 (length-replicate (units % rows) (units / rows + 1)) h
    ∙ get_or-replicate (rows - units % rows) (i - units % rows) (units / rows) 0 (omega (arith, h, within))

pub even-next : (all cap w left units rows i : ℕ) → i < rows → IsTaken all cap w left (drop i (evenly_divided units rows)) → IsTaken all cap (min (w * binomial left (get_or (evenly_divided units rows) i 0)) cap) (left - get_or (evenly_divided units rows) i 0) (drop (i + 1) (evenly_divided units rows)) × (get_or (evenly_divided units rows) i 0 ≤ left)
even-next all cap w left units rows i within t = taken-at all cap w left (evenly_divided units rows) i (omega (arith, within, length-even units rows (omega (arith, within)))) t

pub even-last : (all cap w left units rows i : ℕ) → 1 ≤ rows → rows ≤ i → IsTaken all cap w left (drop i (evenly_divided units rows)) → w ≡ min all cap
even-last all cap w left units rows i some h t = taken-last all cap w left (drop i (evenly_divided units rows)) (drop_of_length-le (evenly_divided units rows) (omega (arith, h, length-even units rows (omega (arith, some))))) t

-- the weights of the columns multiplied so far
pub record IsMultiplied (weight : ℕ → ℕ) (columns : List ℕ) (cap j product : ℕ) : Type 0 where
  pub value : min (product * product_by weight (drop j columns)) cap ≡ min (product_by weight columns) cap
  pub some : 1 ≤ product
  pub most : product ≤ cap

module _ (weight : ℕ → ℕ) (each : (c : ℕ) → 1 ≤ weight c) (columns : List ℕ) (cap : ℕ) where
  product-positive : (cs : List ℕ) → 1 ≤ product_by weight cs
  product-positive [] = omega arith
  product-positive (c ∷ cs) = product-some (weight c) (product_by weight cs) (each c) (product-positive cs)

  pub multiplied-first : 1 ≤ cap → IsMultiplied weight columns cap 0 1
  multiplied-first h = record { value = ap (λ n. min n cap) (whole (product_by weight columns)); some = omega arith; most = h }
    where
      whole : (n : ℕ) → 1 * n ≡ n
      whole n = omega arith

  pub multiplied-next : (j product : ℕ) → j < length columns → IsMultiplied weight columns cap j product → IsMultiplied weight columns cap (j + 1) (min (product * weight (get_or columns j 0)) cap)
  multiplied-next j product within f =
      let c = get_or columns j 0 in
      let rest = drop (j + 1) columns in
      let parts : drop j columns ≡ c ∷ rest = rw add-one (drop-cons columns j 0 within) in
      record {
        value = cap-later (product * weight c) (product_by weight rest) cap (product-positive rest)
            ∙ ap (λ n. min n cap) (grouped product (weight c) (product_by weight rest) ∙ sym (ap (λ cs. product * product_by weight cs) parts))
            ∙ f.value;
        some = omega (arith, product-some product (weight c) f.some (each c), f.some, f.most);
        most = omega arith;
      }

  pub multiplied-last : (j product : ℕ) → length columns ≤ j → IsMultiplied weight columns cap j product → product ≡ min (product_by weight columns) cap
  multiplied-last j product h f = whole product cap f.most ∙ ap (λ cs. min (product * product_by weight cs) cap) (sym (drop_of_length-le columns h)) ∙ f.value
    where
      whole : (w c : ℕ) → w ≤ c → w ≡ min (w * 1) c
      whole w c h = omega (arith, h)

pub column-within : (cs : List ℕ) (j : ℕ) → j < length cs → get_or cs j 0 ≤ total cs
column-within [] j h = absurd (omega (arith, h))
column-within (c ∷ cs) zero h = omega arith
column-within (c ∷ cs) (suc j) h = omega (arith, column-within cs j (omega (arith, h)))
