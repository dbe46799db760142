-- Lines by ascending value: what adding to them does, and that their sums determine them.
use Rattle.std.proofs.Common.{◌≡◌, ◌≢◌, ℕ, zero, suc, ◌+◌, ◌<◌, ◌≤◌, List, [], ◌∷◌, ◌++◌, length, set, take, drop, Bool, true, false, cond, ◌⊎◌, inl, inr, refl, sym, ◌∙◌, ap, subst, arith, nat_eq, eq-eqb}
use Rattle.std.specs.Prelude.{ℤ, ◌<ℤ◌, ◌≤ℤ◌, int_lt, int_le, slice_index_or, if◌then◌else◌}
use Rattle.std.specs.List.{AllByRecursion}
use Rattle.std.specs.Ordering.{int_eq}
use Rattle.std.proofs.lemmas.Int.{ints, by_lt_z}
use Rattle.std.proofs.lemmas.Bool.Decides.{Decides-int_eq, Decides-eqb}
use Rattle.std.proofs.lemmas.List.Sums.{sum_by-cons}
use Rattle.weights.specs.declared.lines.Line.{Line}
use Rattle.networks.specs.Lines.{IsAboveLast, place_of, add_line, with_weight, line_sum, IsAscending}

-- comparing

pub equal : (x y : ℤ) → int_eq x y ≡ true → x ≡ y
equal x y e = (Decides-int_eq x y).0 e

pub same-eq : (x : ℤ) → int_eq x x ≡ true
same-eq x = (Decides-int_eq x x).1 refl

pub unequal : (x y : ℤ) → (x ≡ y → ⊥) → int_eq x y ≡ false
unequal x y ne = by (int_eq x y) refl
  where
    by : (b : Bool) → int_eq x y ≡ b → int_eq x y ≡ false
    by true e = absurd (ne (equal x y e))
    by false e = e

pub less-known : (x y : ℤ) → int_lt x y ≡ true → x <ℤ y
less-known x y e = grind (arith, ints)

pub not_less-known : (x y : ℤ) → int_lt x y ≡ false → y ≤ℤ x
not_less-known x y e = grind (arith, ints)

pub compared : (x y : ℤ) → (x <ℤ y) ⊎ ((x ≡ y) ⊎ (y <ℤ x))
compared x y = by_lt_z x y (λ l. inl l) (λ l. by_lt_z y x (λ m. inr (inr m)) (λ m. inr (inl (omega (arith, ints, l, m)))))

-- where a value stands

pub place-≤ : (v : ℤ) (lines : List Line) → place_of v lines ≤ length lines
place-≤ v [] = omega arith
place-≤ v (l ∷ ls) = by (int_lt l.value v) (place-≤ v ls)
  where
    by : (b : Bool) → place_of v ls ≤ length ls → (if b then suc (place_of v ls) else 0) ≤ length (l ∷ ls)
    by true rest = omega (arith, rest)
    by false rest = omega arith

pub add-same : (v : ℤ) (w : ℕ) (lines : List Line) (d : Line) → place_of v lines < length lines → (slice_index_or lines (place_of v lines) d).value ≡ v
    → set lines (place_of v lines) (record { value = (slice_index_or lines (place_of v lines) d).value; weight = (slice_index_or lines (place_of v lines) d).weight + w }) ≡ add_line v w lines
add-same v w [] d h e = absurd (omega arith)
add-same v w (l ∷ ls) d h e = by (int_lt l.value v) h e (add-same v w ls d)
  where
    by : (b : Bool) → (if b then suc (place_of v ls) else 0) < length (l ∷ ls) → (slice_index_or (l ∷ ls) (if b then suc (place_of v ls) else 0) d).value ≡ v
        → (place_of v ls < length ls → (slice_index_or ls (place_of v ls) d).value ≡ v → set ls (place_of v ls) (record { value = (slice_index_or ls (place_of v ls) d).value; weight = (slice_index_or ls (place_of v ls) d).weight + w }) ≡ add_line v w ls)
        → set (l ∷ ls) (if b then suc (place_of v ls) else 0) (record { value = (slice_index_or (l ∷ ls) (if b then suc (place_of v ls) else 0) d).value; weight = (slice_index_or (l ∷ ls) (if b then suc (place_of v ls) else 0) d).weight + w })
        ≡ (if b then l ∷ add_line v w ls else (if int_eq l.value v then record { value = v; weight = l.weight + w } ∷ ls else record { value = v; weight = w } ∷ l ∷ ls))
    by true h e rest = ap (λ ms. l ∷ ms) (rest (omega arith) e)
    by false h e rest = rw (e, same-eq v) refl

pub add-other : (v : ℤ) (w : ℕ) (lines : List Line) (d : Line) → (place_of v lines < length lines → (slice_index_or lines (place_of v lines) d).value ≡ v → ⊥)
    → take (place_of v lines) lines ++ record { value = v; weight = w } ∷ drop (place_of v lines) lines ≡ add_line v w lines
add-other v w [] d ne = refl
add-other v w (l ∷ ls) d ne = by (int_lt l.value v) ne (add-other v w ls d)
  where
    by : (b : Bool) → ((if b then suc (place_of v ls) else 0) < length (l ∷ ls) → (slice_index_or (l ∷ ls) (if b then suc (place_of v ls) else 0) d).value ≡ v → ⊥)
        → ((place_of v ls < length ls → (slice_index_or ls (place_of v ls) d).value ≡ v → ⊥) → take (place_of v ls) ls ++ record { value = v; weight = w } ∷ drop (place_of v ls) ls ≡ add_line v w ls)
        → take (if b then suc (place_of v ls) else 0) (l ∷ ls) ++ record { value = v; weight = w } ∷ drop (if b then suc (place_of v ls) else 0) (l ∷ ls)
        ≡ (if b then l ∷ add_line v w ls else (if int_eq l.value v then record { value = v; weight = l.weight + w } ∷ ls else record { value = v; weight = w } ∷ l ∷ ls))
    by true ne rest = ap (λ ms. l ∷ ms) (rest (λ h e. ne (omega arith) e))
    by false ne rest = rw (unequal l.value v (λ e. ne (omega arith) e)) refl

-- adding a weight adds it to each sum that the value is in

pub line_sum-cons : (p : ℤ → Bool) (l : Line) (ls : List Line) → line_sum p (l ∷ ls) ≡ cond (p l.value) l.weight 0 + line_sum p ls
line_sum-cons p l ls = sum_by-cons (λ (m : Line). cond (p m.value) m.weight 0) l ls

pub cond-plus : (b : Bool) (x y : ℕ) → cond b (x + y) 0 ≡ cond b x 0 + cond b y 0
cond-plus true x y = refl
cond-plus false x y = refl

pub add-sum : (p : ℤ → Bool) (v : ℤ) (w : ℕ) (lines : List Line) → line_sum p (add_line v w lines) ≡ line_sum p lines + cond (p v) w 0
add-sum p v w [] = omega (arith, line_sum-cons p (record { value = v; weight = w }) [])
add-sum p v w (l ∷ ls) = by (int_lt l.value v) (int_eq l.value v) refl (add-sum p v w ls)
  where
    by : (b c : Bool) → int_eq l.value v ≡ c → line_sum p (add_line v w ls) ≡ line_sum p ls + cond (p v) w 0 → line_sum p (if b then l ∷ add_line v w ls else (if c then record { value = v; weight = l.weight + w } ∷ ls else record { value = v; weight = w } ∷ l ∷ ls)) ≡ line_sum p (l ∷ ls) + cond (p v) w 0
    by true c e rest = omega (arith, line_sum-cons p l (add_line v w ls), line_sum-cons p l ls, rest)
    by false true e rest = omega (arith, line_sum-cons p (record { value = v; weight = l.weight + w }) ls, line_sum-cons p l ls, ap (λ u. cond (p u) l.weight 0) (equal l.value v e), cond-plus (p v) l.weight w)
    by false false e rest = omega (arith, line_sum-cons p (record { value = v; weight = w }) (l ∷ ls))

pub add-positive : (v : ℤ) (w : ℕ) (lines : List Line) → 1 ≤ w → AllByRecursion (λ l. 1 ≤ l.weight) lines → AllByRecursion (λ l. 1 ≤ l.weight) (add_line v w lines)
add-positive v w [] h a = (h, tt)
add-positive v w (l ∷ ls) h a = by (int_lt l.value v) (int_eq l.value v) (add-positive v w ls h a.1)
  where
    by : (b c : Bool) → AllByRecursion (λ l. 1 ≤ l.weight) (add_line v w ls) → AllByRecursion (λ l. 1 ≤ l.weight) (if b then l ∷ add_line v w ls else (if c then record { value = v; weight = l.weight + w } ∷ ls else record { value = v; weight = w } ∷ l ∷ ls))
    by true c rest = (a.0, rest)
    by false true rest = (omega (arith, a.0), a.1)
    by false false rest = (h, a)

add-above : (x v : ℤ) (w : ℕ) (lines : List Line) → x <ℤ v → AllByRecursion (λ m. x <ℤ m.value) lines → AllByRecursion (λ m. x <ℤ m.value) (add_line v w lines)
add-above x v w [] h a = (h, tt)
add-above x v w (l ∷ ls) h a = by (int_lt l.value v) (int_eq l.value v) (add-above x v w ls h a.1)
  where
    by : (b c : Bool) → AllByRecursion (λ m. x <ℤ m.value) (add_line v w ls) → AllByRecursion (λ m. x <ℤ m.value) (if b then l ∷ add_line v w ls else (if c then record { value = v; weight = l.weight + w } ∷ ls else record { value = v; weight = w } ∷ l ∷ ls))
    by true c rest = (a.0, rest)
    by false true rest = (h, a.1)
    by false false rest = (h, a)

above-more : (x y : ℤ) (lines : List Line) → x <ℤ y → AllByRecursion (λ m. y <ℤ m.value) lines → AllByRecursion (λ m. x <ℤ m.value) lines
above-more x y [] h a = tt
above-more x y (l ∷ ls) h a = (omega (arith, ints, h, a.0), above-more x y ls h a.1)

pub add-ascending : (v : ℤ) (w : ℕ) (lines : List Line) → IsAscending lines → IsAscending (add_line v w lines)
add-ascending v w [] a = (tt, tt)
add-ascending v w (l ∷ ls) a = by (int_lt l.value v) (int_eq l.value v) refl refl (add-ascending v w ls a.1)
  where
    strictly : v ≤ℤ l.value → (l.value ≡ v → ⊥) → v <ℤ l.value
    strictly le ne = elim (compared v l.value) [
      | inl h ↦ h
      | inr other ↦ elim other [ inl h ↦ absurd (ne (sym h)) | inr h ↦ absurd (omega (arith, ints, le, h)) ]
    ]

    by : (b c : Bool) → int_lt l.value v ≡ b → int_eq l.value v ≡ c → IsAscending (add_line v w ls) → IsAscending (if b then l ∷ add_line v w ls else (if c then record { value = v; weight = l.weight + w } ∷ ls else record { value = v; weight = w } ∷ l ∷ ls))
    by true c lt e rest = (add-above l.value v w ls (less-known l.value v lt) a.0, rest)
    by false true lt e rest = (subst (λ u. AllByRecursion (λ m. u <ℤ m.value) ls) (equal l.value v e) a.0, a.1)
    by false false lt e rest =
        let less : v <ℤ l.value = strictly (not_less-known l.value v lt) (λ same. (let yes : int_eq l.value v ≡ true = (Decides-int_eq l.value v).1 same in cc)) in
        ((less, above-more v l.value ls less a.0), a)

-- the same, where a weight of 0 adds nothing

cond-zero : (b : Bool) (x : ℕ) → x ≡ 0 → cond b x 0 ≡ 0
cond-zero true x e = e
cond-zero false x e = refl

pub with-sum : (p : ℤ → Bool) (v : ℤ) (w : ℕ) (lines : List Line) → line_sum p (with_weight v w lines) ≡ line_sum p lines + cond (p v) w 0
with-sum p v w lines = by (nat_eq w 0) refl
  where
    by : (b : Bool) → nat_eq w 0 ≡ b → line_sum p (if b then lines else add_line v w lines) ≡ line_sum p lines + cond (p v) w 0
    by true e = omega (arith, cond-zero (p v) w ((Decides-eqb w 0).0 e))
    by false e = add-sum p v w lines

pub with-ascending : (v : ℤ) (w : ℕ) (lines : List Line) → IsAscending lines → IsAscending (with_weight v w lines)
with-ascending v w lines a = by (nat_eq w 0)
  where
    by : (b : Bool) → IsAscending (if b then lines else add_line v w lines)
    by true = a
    by false = add-ascending v w lines a

pub with-positive : (v : ℤ) (w : ℕ) (lines : List Line) → AllByRecursion (λ l. 1 ≤ l.weight) lines → AllByRecursion (λ l. 1 ≤ l.weight) (with_weight v w lines)
with-positive v w lines a = by (nat_eq w 0) refl
  where
    by : (b : Bool) → nat_eq w 0 ≡ b → AllByRecursion (λ l. 1 ≤ l.weight) (if b then lines else add_line v w lines)
    by true e = a
    by false e = add-positive v w lines (let ne : w ≢ 0 = λ z. (let yes : nat_eq w 0 ≡ true = eq-eqb w 0 z in cc) in omega (arith, ne)) a

-- at a place that was found

get_or-any : {X : Type 0} (xs : List X) (i : ℕ) (d e : X) → i < length xs → slice_index_or xs i d ≡ slice_index_or xs i e
get_or-any [] i d e h = absurd (omega arith)
get_or-any (x ∷ xs) zero d e h = refl
get_or-any (x ∷ xs) (suc i) d e h = get_or-any xs i d e (omega arith)

more : Line → ℕ → Line
more l w = record { value = l.value; weight = l.weight + w }

changed : (l m : Line) (w : ℕ) → l ≡ m → more l w ≡ more m w
changed l m w e = ap (λ x. more x w) e

pub add-same-at : (v : ℤ) (w : ℕ) (lines : List Line) (place : ℕ) (d m : Line) → place ≡ place_of v lines → place < length lines → d ≡ slice_index_or lines place d → m ≡ slice_index_or lines place m → int_eq d.value v ≡ true
    → set lines place (record { value = m.value; weight = m.weight + w }) ≡ add_line v w lines
unfolding more
add-same-at v w lines place d m at below found changes same =
    ap (set lines place) (changed m (slice_index_or lines place m) w changes)
    ∙ add-same-place v w lines place m at below (ap (λ (x : Line). x.value) (get_or-any lines place m d below ∙ sym found) ∙ equal d.value v same)
  where
    add-same-place : (v : ℤ) (w : ℕ) (lines : List Line) (place : ℕ) (m : Line) → place ≡ place_of v lines → place < length lines → (slice_index_or lines place m).value ≡ v → set lines place (record { value = (slice_index_or lines place m).value; weight = (slice_index_or lines place m).weight + w }) ≡ add_line v w lines
    add-same-place v w lines place m at below value = rw at (add-same v w lines m (rw at at below) (rw at at value))

pub add-other-at : (v : ℤ) (w : ℕ) (lines : List Line) (place : ℕ) (d : Line) → place ≡ place_of v lines → d ≡ slice_index_or lines place d → int_eq d.value v ≡ false
    → take place lines ++ record { value = v; weight = w } ∷ drop place lines ≡ add_line v w lines
add-other-at v w lines place d at found differs =
    rw at (add-other v w lines d (λ below value.
    let yes : int_eq d.value v ≡ true = (Decides-int_eq d.value v).1 (ap (λ (x : Line). x.value) (rw at at found) ∙ value) in
    cc))

pub add-past-at : (v : ℤ) (w : ℕ) (lines : List Line) (place : ℕ) → place ≡ place_of v lines → length lines ≤ place
    → take place lines ++ record { value = v; weight = w } ∷ drop place lines ≡ add_line v w lines
add-past-at v w lines place at past = rw at (add-other v w lines (record { value = v; weight = w }) (λ below value. absurd (omega (arith, below, past, at))))

-- two lists of lines with the same sums are the same

at_most : ℤ → ℤ → Bool
at_most x v = int_le v x

none_at_most : (x : ℤ) (lines : List Line) → AllByRecursion (λ m. x <ℤ m.value) lines → line_sum (at_most x) lines ≡ 0
unfolding at_most
none_at_most x [] a = refl
none_at_most x (l ∷ ls) a =
    let not : int_le l.value x ≡ false = grind (arith, ints, a.0) in
    omega (arith, line_sum-cons (at_most x) l ls, ap (λ b. cond b l.weight 0) not, none_at_most x ls a.1)

first_at_most : (l : Line) (ls : List Line) → AllByRecursion (λ m. l.value <ℤ m.value) ls → line_sum (at_most l.value) (l ∷ ls) ≡ l.weight
unfolding at_most
first_at_most l ls a =
    let yes : int_le l.value l.value ≡ true = grind (arith, ints) in
    omega (arith, line_sum-cons (at_most l.value) l ls, ap (λ b. cond b l.weight 0) yes, none_at_most l.value ls a)

line-is : (l m : Line) → l.value ≡ m.value → l.weight ≡ m.weight → l ≡ m
line-is l m e f = step e f
  where
    step : {v : ℤ} {w : ℕ} → l.value ≡ v → l.weight ≡ w → l ≡ record { value = v; weight = w }
    step e f = rw (← e, ← f) refl

pub lines-same : (a b : List Line) → IsAscending a → IsAscending b → AllByRecursion (λ l. 1 ≤ l.weight) a → AllByRecursion (λ l. 1 ≤ l.weight) b → ((p : ℤ → Bool) → line_sum p a ≡ line_sum p b) → a ≡ b
lines-same [] [] s t p q e = refl
lines-same [] (m ∷ b) s t p q e = absurd (omega (arith, e (at_most m.value), first_at_most m b t.0, q.0))
lines-same (l ∷ a) [] s t p q e = absurd (omega (arith, e (at_most l.value), first_at_most l a s.0, p.0))
lines-same (l ∷ a) (m ∷ b) s t p q e = by (compared l.value m.value) (lines-same a b s.1 t.1 p.1 q.1)
  where
    by : (l.value <ℤ m.value) ⊎ ((l.value ≡ m.value) ⊎ (m.value <ℤ l.value)) → (((p : ℤ → Bool) → line_sum p a ≡ line_sum p b) → a ≡ b) → l ∷ a ≡ m ∷ b
    by (inl h) rest = absurd (omega (arith, e (at_most l.value), first_at_most l a s.0, none_at_most l.value (m ∷ b) (h, above-more l.value m.value b h t.0), p.0))
    by (inr (inr h)) rest = absurd (omega (arith, e (at_most m.value), first_at_most m b t.0, none_at_most m.value (l ∷ a) (h, above-more m.value l.value a h s.0), q.0))
    by (inr (inl h)) rest =
        let same : l ≡ m = line-is l m h (omega (arith, e (at_most l.value), first_at_most l a s.0, subst (λ x. line_sum (at_most x) (m ∷ b) ≡ m.weight) (sym h) (first_at_most m b t.0))) in
        let later : (p : ℤ → Bool) → line_sum p a ≡ line_sum p b = λ p. (let first : cond (p l.value) l.weight 0 ≡ cond (p m.value) m.weight 0 = ap (λ (x : Line). cond (p x.value) x.weight 0) same in omega (arith, e p, line_sum-cons p l a, line_sum-cons p m b, first)) in
        rw (same, rest later) refl

-- a line above the last
first-below : (v : ℤ) (k : Line) (ls : List Line) → IsAscending (k ∷ ls) → IsAboveLast v (k ∷ ls) → k.value <ℤ v
first-below v k [] a above = above
first-below v k (j ∷ ls) a above = omega (arith, ints, a.0.0, first-below v j ls a.1 above)

above-push : (x : ℤ) (l : Line) (lines : List Line) → AllByRecursion (λ m. x <ℤ m.value) lines → x <ℤ l.value → AllByRecursion (λ m. x <ℤ m.value) (lines ++ l ∷ [])
above-push x l [] a h = (h, tt)
above-push x l (m ∷ ms) a h = (a.0, above-push x l ms a.1 h)

pub ascending-push : (lines : List Line) (l : Line) → IsAscending lines → IsAboveLast l.value lines → IsAscending (lines ++ l ∷ [])
ascending-push [] l a above = (tt, tt)
ascending-push (m ∷ []) l a above = ((above, tt), (tt, tt))
ascending-push (m ∷ k ∷ ls) l a above = (above-push m.value l (k ∷ ls) a.0 (omega (arith, ints, a.0.0, first-below l.value k ls a.1 above)), ascending-push (k ∷ ls) l a.1 above)
