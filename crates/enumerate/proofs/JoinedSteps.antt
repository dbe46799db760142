-- Steps of the walk through labellings that are put together.
use Rattle.std.proofs.Common.{◌≡◌, ◌≢◌, ℕ, ◌-◌, ◌≤◌, List, [], ◌∷◌, ◌++◌, append_assoc, append-nil, length, take, drop, map, reverse, get_or, Bool, true, false, inl, inr, refl, sym, ◌∙◌, ap, subst, arith}
use Rattle.std.specs.Prelude.{Contains, min}
use Rattle.std.specs.List.{AllByRecursion, concat, sum}
use Rattle.std.proofs.Math.Seq.{take-length}
use Rattle.std.proofs.lemmas.List.{length-reverse, reverse-append, reverse-reverse, take-append-drop}
use Rattle.weights.specs.Labellings.{labellings}
use Rattle.weights.proofs.Counted.{labelling_from_SameCounts}
use Rattle.weights.proofs.Filters.{all_append, all_weaker}
use Rattle.weights.proofs.Members.{Contains-cons, Contains-labellings, IsLabelling, labelling_from}
use Rattle.enumerate.specs.Joined.{joined_labellings}
use Rattle.enumerate.specs.Monotone.{NeverRises}
use Rattle.enumerate.specs.Walk.{BeginsWith, StepsThrough, members_after}
use Rattle.enumerate.proofs.Extremes.{NeverFalls, all_reverse}
use Rattle.enumerate.proofs.FirstLabelling.{ascending, ascending_begins, never_falls-ascending}
use Rattle.enumerate.proofs.JoinedMembers.{each-long, joined-front, parts-of}
use Rattle.enumerate.proofs.Order.{cases_same, members_after-here, members_after-later}
use Rattle.enumerate.proofs.Products.{BeginsWith-joined, joined, members_after-joined, next_part, next_rest, no_next}
use Rattle.enumerate.proofs.Steps.{count_of-reverse, labellings_end}
use Rattle.enumerate.proofs.Walking.{Contains-first}

-- ---- the last labelling, turned round, is the first

-- a list has one last member
one-last : (x y : List ℕ) (members : List (List ℕ)) → Contains members x → Contains members y → members_after x members ≡ [] → members_after y members ≡ [] → x ≡ y
one-last x y [] c d e f = absurd (omega (arith, c.1))
one-last x y (z ∷ members) c d e f = elim (cases_same x z) [
  | inl s ↦
      (let over : members ≡ [] = sym (members_after-here x members) ∙ ap (λ w. members_after x (w ∷ members)) s ∙ e in
      elim (Contains-cons z y members d) [
        | inl t ↦ s ∙ t
        | inr later ↦ absurd (omega (arith, (subst (λ ms. Contains ms y) over later).1))
      ])
  | inr ne ↦
      (let later : Contains members x = elim (Contains-cons z x members c) [ inl s ↦ absurd (ne (sym s)) | inr m ↦ m ] in
      elim (cases_same y z) [
        | inl t ↦
            (let over : members ≡ [] = sym (members_after-here y members) ∙ ap (λ w. members_after y (w ∷ members)) t ∙ f in
            absurd (omega (arith, (subst (λ ms. Contains ms x) over later).1)))
        | inr nd ↦
            (let rest : Contains members y = elim (Contains-cons z y members d) [ inl t ↦ absurd (nd (sym t)) | inr m ↦ m ] in
            one-last x y members later rest (sym (members_after-later x z members ne) ∙ e) (sym (members_after-later y z members nd) ∙ f))
      ])
]

never_rises-append : (xs ys : List ℕ) → NeverRises xs → NeverRises ys → AllByRecursion (λ x. AllByRecursion (λ y. y ≤ x) ys) xs → NeverRises (xs ++ ys)
never_rises-append [] ys n m a = m
never_rises-append (x ∷ xs) ys n m a = (all_append (λ y. y ≤ x) xs ys n.0 a.0, never_rises-append xs ys n.1 m a.1)

never_rises-reverse : (xs : List ℕ) → NeverFalls xs → NeverRises (reverse xs)
never_rises-reverse [] n = tt
never_rises-reverse (x ∷ xs) n =
    rw (reverse-append (x ∷ []) xs)
    (never_rises-append (reverse xs) (x ∷ []) (never_rises-reverse xs n.1) (tt, tt)
    (all_reverse (λ y. AllByRecursion (λ z. z ≤ y) (x ∷ [])) xs (all_weaker (λ y. x ≤ y) (λ y. AllByRecursion (λ z. z ≤ y) (x ∷ [])) (λ y h. (h, tt)) xs n.0)))

pub last-turned : (counts x : List ℕ) → Contains (labellings counts) x → members_after x (labellings counts) ≡ [] → BeginsWith (labellings counts) (reverse x)
last-turned counts x c e =
    let first : List ℕ = ascending 0 counts in
    let last : List ℕ = reverse first in
    let begins : BeginsWith (labellings counts) first = ascending_begins counts in
    let is : IsLabelling counts last = labelling_from_SameCounts counts first last (sym (length-reverse first)) (λ i. sym (count_of-reverse i first)) (labelling_from counts first (Contains-first first (labellings counts) begins)) in
    let m : Contains (labellings counts) last = Contains-labellings counts last is in
    let same : x ≡ last = one-last x last (labellings counts) c m e (labellings_end counts last m (never_rises-reverse first (never_falls-ascending 0 counts))) in
    subst (BeginsWith (labellings counts)) (sym (ap reverse same ∙ reverse-reverse first)) begins

-- ---- a last member ends in last members

no-front : (xs ys : List (List ℕ)) → xs ++ ys ≡ [] → (xs ≡ []) × (ys ≡ [])
no-front [] ys e = (refl, e)
no-front (x ∷ xs) ys e = absurd (cc e)

none-mapped : (f : List ℕ → List ℕ) (xs : List (List ℕ)) → map f xs ≡ [] → xs ≡ []
none-mapped f [] e = refl
none-mapped f (x ∷ xs) e = absurd (cc e)

none-joined : (parts rests : List (List ℕ)) → rests ≢ [] → joined parts rests ≡ [] → parts ≡ []
none-joined [] rests some e = refl
none-joined (part ∷ parts) rests some e = absurd (some (none-mapped (λ rest. part ++ rest) rests (no-front (map (λ rest. part ++ rest) rests) (joined parts rests) e).0))

module _ (counts : List ℕ) (parts : List (List ℕ)) (part old : List ℕ) (c : Contains (labellings counts) part) (d : Contains (joined_labellings parts) old) where
  -- of the first part and of the others
  pub both-last : members_after (part ++ old) (joined_labellings (counts ∷ parts)) ≡ [] → (members_after part (labellings counts) ≡ []) × (members_after old (joined_labellings parts) ≡ [])
  both-last e =
      let rests : List (List ℕ) = joined_labellings parts in
      let apart = no-front _ _ (sym (members_after-joined (sum counts) part old (labellings counts) rests (each-long counts) c d) ∙ ap (members_after (part ++ old)) (sym (joined-front counts parts)) ∙ e) in
      (none-joined (members_after part (labellings counts)) rests (λ none. omega (arith, (subst (λ ms. Contains ms old) none d).1)) apart.1, none-mapped (λ rest. part ++ rest) (members_after old rests) apart.0)

  -- ---- steps

  pub rest-moves : (new : List ℕ) → StepsThrough (joined_labellings parts) old true new → StepsThrough (joined_labellings (counts ∷ parts)) (part ++ old) true (part ++ new)
  rest-moves new s = record {
    onward = subst (λ members. members_after (part ++ old) members ≡ (part ++ new) ∷ members_after (part ++ new) members) (sym (joined-front counts parts)) (next_rest (sum counts) part old new (labellings counts) (joined_labellings parts) (each-long counts) c d s.onward);
    stays = tt;
  }

  pub part-moves : (same next anew : List ℕ) → StepsThrough (joined_labellings parts) old false same → StepsThrough (labellings counts) part true next → BeginsWith (joined_labellings parts) anew → StepsThrough (joined_labellings (counts ∷ parts)) (part ++ old) true (next ++ anew)
  part-moves same next anew s t b = record {
    onward = subst (λ members. members_after (part ++ old) members ≡ (next ++ anew) ∷ members_after (next ++ anew) members) (sym (joined-front counts parts)) (next_part (sum counts) part next old anew (labellings counts) (joined_labellings parts) (each-long counts) c d s.onward t.onward b);
    stays = tt;
  }

  pub none-moves : (same kept : List ℕ) → StepsThrough (joined_labellings parts) old false same → StepsThrough (labellings counts) part false kept → StepsThrough (joined_labellings (counts ∷ parts)) (part ++ old) false (kept ++ same)
  none-moves same kept s t = record {
    onward = subst (λ members. members_after (part ++ old) members ≡ []) (sym (joined-front counts parts)) (no_next (sum counts) part old (labellings counts) (joined_labellings parts) (each-long counts) c d s.onward t.onward);
    stays = ap (λ xs. xs ++ same) t.stays ∙ ap (λ xs. part ++ xs) s.stays;
  }

-- ---- the same from what the walk has: the lengths, and labels that are cut after the first part

tail-is : (xs : List ℕ) → take (length xs - 1) (drop 1 xs) ≡ drop 1 xs
tail-is [] = refl
tail-is (x ∷ xs) = let e : length (x ∷ xs) - 1 ≡ length xs = omega arith in ap (λ n. take n xs) e ∙ take-length xs

-- of labels that are a member, cut after the first part
record IsCut (counts : List ℕ) (parts : List (List ℕ)) (later labels front rest : List ℕ) : Type 0 where
  whole : front ++ rest ≡ labels
  front_in : Contains (labellings counts) front
  rest_in : Contains (joined_labellings parts) rest
  lengths : map sum parts ≡ later

module _ (lengths labels : List ℕ) (end : ℕ) (front rest : List ℕ) (some : 1 ≤ length lengths) (e : end ≡ min (length labels) (get_or lengths 0 0)) (f : front ≡ take end labels) (r : rest ≡ drop end labels) where
  abbrev later : List ℕ
  later = take (length lengths - 1) (drop 1 lengths)

  cut-at : (counts : List ℕ) (parts : List (List ℕ)) → map sum (counts ∷ parts) ≡ lengths → Contains (joined_labellings (counts ∷ parts)) labels → IsCut counts parts later labels front rest
  cut-at counts parts h m =
      let p = parts-of counts parts labels m in
      let long : end ≡ sum counts = e ∙ (let one : get_or lengths 0 0 ≡ sum counts = ap (λ ns. get_or ns 0 0) (sym h) in omega (arith, one, p.long)) in
      let front_is : front ≡ take (sum counts) labels = f ∙ ap (λ n. take n labels) long in
      let rest_is : rest ≡ drop (sum counts) labels = r ∙ ap (λ n. drop n labels) long in
      record {
        whole = ap (λ xs. xs ++ rest) front_is ∙ ap (λ xs. take (sum counts) labels ++ xs) rest_is ∙ take-append-drop (sum counts) labels;
        front_in = subst (Contains (labellings counts)) (sym front_is) p.front;
        rest_in = subst (Contains (joined_labellings parts)) (sym rest_is) p.rest;
        lengths = sym (tail-is lengths ∙ ap (drop 1) (sym h));
      }

  no-parts : map sum [] ≡ lengths → ⊥
  no-parts h = omega (arith, some, ap length h)

  -- what the call for the later parts tells
  abbrev Moves : List ℕ → List ℕ → Bool → List ℕ → Type 0
  Moves lengths old moved new = (parts : List (List ℕ)) → map sum parts ≡ lengths → Contains (joined_labellings parts) old → StepsThrough (joined_labellings parts) old moved new

  pub step-rest : (moved : Bool) (new : List ℕ) → moved ≡ true → Moves later rest moved new → Moves lengths labels true (front ++ new)
  step-rest moved new t s [] h m = absurd (no-parts h)
  step-rest moved new t s (counts ∷ parts) h m =
      let c = cut-at counts parts h m in
      subst (λ old. StepsThrough (joined_labellings (counts ∷ parts)) old true (front ++ new)) c.whole
      (rest-moves counts parts front rest c.front_in c.rest_in new (subst (λ v. StepsThrough (joined_labellings parts) rest v new) t (s parts c.lengths c.rest_in)))

  -- and that for the first part
  abbrev MovesOne : Bool → List ℕ → Type 0
  MovesOne moved new = (counts : List ℕ) → Contains (labellings counts) front → StepsThrough (labellings counts) front moved new

  pub step-none : (moved turned : Bool) (same kept : List ℕ) → moved ≡ false → turned ≡ false → Moves later rest moved same → MovesOne turned kept → Moves lengths labels false (kept ++ same)
  step-none moved turned same kept t u s o [] h m = absurd (no-parts h)
  step-none moved turned same kept t u s o (counts ∷ parts) h m =
      let c = cut-at counts parts h m in
      subst (λ old. StepsThrough (joined_labellings (counts ∷ parts)) old false (kept ++ same)) c.whole
      (none-moves counts parts front rest c.front_in c.rest_in same kept (subst (λ v. StepsThrough (joined_labellings parts) rest v same) t (s parts c.lengths c.rest_in)) (subst (λ v. StepsThrough (labellings counts) front v kept) u (o counts c.front_in)))

  -- what is told of beginning anew
  abbrev Begins : List ℕ → List ℕ → List ℕ → Type 0
  Begins lengths old anew = (parts : List (List ℕ)) → map sum parts ≡ lengths → Contains (joined_labellings parts) old → members_after old (joined_labellings parts) ≡ [] → BeginsWith (joined_labellings parts) anew

  pub step-part : (moved turned : Bool) (same next anew : List ℕ) → moved ≡ false → turned ≡ true → Moves later rest moved same → MovesOne turned next → Begins later same anew → Moves lengths labels true (next ++ anew)
  step-part moved turned same next anew t u s o b [] h m = absurd (no-parts h)
  step-part moved turned same next anew t u s o b (counts ∷ parts) h m =
      let c = cut-at counts parts h m in
      let stayed : StepsThrough (joined_labellings parts) rest false same = subst (λ v. StepsThrough (joined_labellings parts) rest v same) t (s parts c.lengths c.rest_in) in
      let first : BeginsWith (joined_labellings parts) anew = b parts c.lengths (subst (Contains (joined_labellings parts)) (sym stayed.stays) c.rest_in) (subst (λ x. members_after x (joined_labellings parts) ≡ []) (sym stayed.stays) stayed.onward) in
      subst (λ old. StepsThrough (joined_labellings (counts ∷ parts)) old true (next ++ anew)) c.whole
      (part-moves counts parts front rest c.front_in c.rest_in same next anew stayed (subst (λ v. StepsThrough (labellings counts) front v next) u (o counts c.front_in)) first)

  pub anew : (turned begun : List ℕ) → turned ≡ reverse front → Begins later rest begun → Begins lengths labels (turned ++ begun)
  anew turned begun t b [] h m l = absurd (no-parts h)
  anew turned begun t b (counts ∷ parts) h m l =
      let c = cut-at counts parts h m in
      let ends = both-last counts parts front rest c.front_in c.rest_in (ap (λ x. members_after x (joined_labellings (counts ∷ parts))) c.whole ∙ l) in
      subst (λ xs. BeginsWith (joined_labellings (counts ∷ parts)) (xs ++ begun)) (sym t)
      (subst (λ members. BeginsWith members (reverse front ++ begun)) (sym (joined-front counts parts))
      (BeginsWith-joined (sum counts) (reverse front) begun (labellings counts) (joined_labellings parts) (each-long counts) (last-turned counts front c.front_in ends.0) (b parts c.lengths c.rest_in ends.1)))

-- ---- the first member grows at its end

pub one-first : (members : List (List ℕ)) (x y : List ℕ) → BeginsWith members x → BeginsWith members y → x ≡ y
one-first [] x y b d = absurd (cc b)
one-first (z ∷ members) x y b d = cc

abbrev pub first_member : List (List ℕ) → List ℕ
first_member parts = concat (map (ascending 0) parts)

pub first-begins : (parts : List (List ℕ)) → BeginsWith (joined_labellings parts) (first_member parts)
first-begins [] = refl
first-begins (counts ∷ parts) =
    subst (λ members. BeginsWith members (first_member (counts ∷ parts))) (sym (joined-front counts parts))
    (BeginsWith-joined (sum counts) (ascending 0 counts) (first_member parts) (labellings counts) (joined_labellings parts) (each-long counts) (ascending_begins counts) (first-begins parts))

first-more : (parts : List (List ℕ)) (counts : List ℕ) → first_member (parts ++ counts ∷ []) ≡ first_member parts ++ ascending 0 counts
first-more [] counts = append-nil (ascending 0 counts)
first-more (one ∷ parts) counts = ap (λ xs. ascending 0 one ++ xs) (first-more parts counts) ∙ sym (append_assoc (ascending 0 one) (first_member parts) (ascending 0 counts))

pub begins-more : (parts : List (List ℕ)) (labels counts first : List ℕ) → BeginsWith (joined_labellings parts) labels → BeginsWith (labellings counts) first → BeginsWith (joined_labellings (parts ++ counts ∷ [])) (labels ++ first)
begins-more parts labels counts first b f =
    let front : labels ≡ first_member parts = one-first (joined_labellings parts) labels (first_member parts) b (first-begins parts) in
    let back : first ≡ ascending 0 counts = one-first (labellings counts) first (ascending 0 counts) f (ascending_begins counts) in
    subst (BeginsWith (joined_labellings (parts ++ counts ∷ []))) (sym (ap (λ xs. xs ++ first) front ∙ ap (λ xs. first_member parts ++ xs) back ∙ sym (first-more parts counts))) (first-begins (parts ++ counts ∷ []))
