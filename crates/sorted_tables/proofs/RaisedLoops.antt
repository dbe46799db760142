-- Steps of the loops that move on to the next choice that stands for others.
use Rattle.std.proofs.Common.{◌≡◌, ℕ, zero, suc, ◌+◌, ◌-◌, ◌*◌, ◌<◌, ◌≤◌, List, [], ◌∷◌, ◌++◌, length, filter, get_or, take, drop, set, min, max, Some, None, Bool, true, false, cond, refl, sym, ◌∙◌, ap, subst, arith, add-one, drop-cons, append_assoc, take-suc-set, nat_eq, nat_lt, lt-ltb, le-ltb, ◌⊎◌, inl, inr}
use Rattle.std.specs.List.{sum}
use Rattle.std.proofs.Math.Seq.{drop-length}
use Rattle.std.proofs.lemmas.Bool.{and_right, cases_lt, le-leb, lt-leb}
use Rattle.std.proofs.lemmas.List.{length-drop, length-set}
use borrow.Rule.Slice.PartMut.{put_mid}
use Rattle.std.proofs.lemmas.List.Sums.{sum_by-cons, sum_by-drop_more}
use Rattle.weights.proofs.ChoiceLists.{IsChoice}
use Rattle.weights.proofs.Filters.{all_weaker, filter-same_where}
use Rattle.label_network.specs.ChoiceOrder.{later_choices}
use Rattle.sorted_tables.specs.GatheredChoices.{is_gathered}
use Rattle.sorted_tables.specs.SortedSteps.{fits_behind, raised, run, run_from, stands_again}
use Rattle.label_network.proofs.ChoiceMoves.{fits-drop, put_back, put_end}
use Rattle.sorted_tables.proofs.GatheredChoices.{later-each}
use Rattle.sorted_tables.proofs.GatheredForms.{Rise, less-not, risen-gathered}
use Rattle.sorted_tables.proofs.GatheredLoops.{run-at, run-long}
use Rattle.sorted_tables.proofs.RisingChoices.{AnyIs, IsLeast, after-choice, kept-after, kept_from, least-is, none-behind, raised_after, raised_or}

-- ---- the rows after the one that takes one more

pub record IsRaising (q a c : ℕ) (rows counts : List ℕ) (i later size least left : ℕ) : Type 0 where
  pub long : length counts ≡ length rows
  pub rest : later ≡ sum (drop i rows)
  pub few : least ≤ size
  pub enough : least * run size (drop i rows) ≤ left
  pub most : left ≤ sum (drop i rows)
  pub same : take i counts ++ raised size least left (drop i rows) ≡ raised q a c rows

pub raise-step : {q a c : ℕ} {rows counts : List ℕ} {i later size least left floor gap b : ℕ} → IsRaising q a c rows counts i later size least left → i < length rows → floor ≡ cond (nat_eq (get_or rows i 0) size) least 0 → gap ≡ left - (later - get_or rows i 0) → b ≡ max floor gap
    → (b ≤ left) × IsRaising q a c rows (set counts i b) (i + 1) (later - get_or rows i 0) (get_or rows i 0) b (left - b)
raise-step {rows = rows} {counts = counts} {i = i} {later = later} {size = size} {least = least} {left = left} {b = b} k before floor_is gap_is b_is =
    let row : ℕ = get_or rows i 0 in
    let split : drop i rows ≡ row ∷ drop (i + 1) rows = rw add-one (drop-cons rows i 0 before) in
    let more : later ≡ row + sum (drop (i + 1) rows) = k.rest ∙ sum_by-drop_more (λ v. v) rows i 0 before in
    let e : b ≡ max (cond (nat_eq row size) least 0) (left - sum (drop (i + 1) rows)) = omega (arith, floor_is, gap_is, b_is, more) in
    let here : IsLeast size least left row (drop (i + 1) rows) b = rw e (least-is size least left row (drop (i + 1) rows) k.few (subst (λ rs. least * run size rs ≤ left) split k.enough) (subst (λ rs. left ≤ sum rs) split k.most)) in
    let few = here.few in
    let front : take (i + 1) (set counts i b) ≡ take i counts ++ b ∷ [] = rw add-one (take-suc-set counts i b (omega (arith, before, k.long))) in
    let first : raised size least left (drop i rows) ≡ b ∷ raised row b (left - b) (drop (i + 1) rows) = rw (split, e) refl in (
      omega (arith, few),
      record {
        long = length-set counts i b ∙ k.long;
        rest = omega (arith, more);
        few = omega (arith, few);
        enough = here.enough;
        most = here.most;
        same = rw (front, append_assoc) (rw (← first) k.same);
      },
    )

-- ---- which row that is

pub prefix-raised : (i : ℕ) (r x y : List ℕ) → i ≤ length x → length x ≡ length r → raised_after (sum (drop i x)) (drop i r) (drop i x) ≡ Some y → raised_after (sum x) r x ≡ Some (take i x ++ y)
prefix-raised zero r x y h l e = e
prefix-raised (suc i) r [] y h l e = absurd (omega arith)
prefix-raised (suc i) [] (a ∷ x) y h l e = absurd (omega arith)
prefix-raised (suc i) (r ∷ rs) (a ∷ x) y h l e =
    let all : sum (a ∷ x) - a ≡ sum x = omega (arith, sum_by-cons (λ v. v) a x) in
    ap (λ c. raised_or (raised_after c rs x) a (sum (a ∷ x)) r rs) all
    ∙ ap (λ o. raised_or o a (sum (a ∷ x)) r rs) (prefix-raised i rs x y (omega arith) (omega arith) e)

-- one place further to the front
pub place-raised : (i : ℕ) (r x : List ℕ) → i < length x → length x ≡ length r → raised_after (sum (drop (i + 1) x)) (drop (i + 1) r) (drop (i + 1) x) ≡ None → raised_after (sum (drop i x)) (drop i r) (drop i x) ≡ raised_or None (get_or x i 0) (sum (drop i x)) (get_or r i 0) (drop (i + 1) r)
place-raised i r x h l e =
    let xs : drop i x ≡ get_or x i 0 ∷ drop (i + 1) x = rw add-one (drop-cons x i 0 h) in
    let rs : drop i r ≡ get_or r i 0 ∷ drop (i + 1) r = rw add-one (drop-cons r i 0 (omega arith)) in
    let all : sum (drop i x) - get_or x i 0 ≡ sum (drop (i + 1) x) = omega (arith, sum_by-drop_more (λ v. v) x i 0 h) in
    ap (λ ys. raised_after (sum (drop i x)) (drop i r) ys) xs
    ∙ ap (λ ys. raised_after (sum (drop i x)) ys (get_or x i 0 ∷ drop (i + 1) x)) rs
    ∙ ap (λ c. raised_or (raised_after c (drop (i + 1) r) (drop (i + 1) x)) (get_or x i 0) (sum (drop i x)) (get_or r i 0) (drop (i + 1) r)) all
    ∙ ap (λ o. raised_or o (get_or x i 0) (sum (drop i x)) (get_or r i 0) (drop (i + 1) r)) e

-- the test of the code
spread : (a k : ℕ) → (a + 1) * (k + 1) ≡ (a + 1) * k + (a + 1)
spread a k = grind arith

pub here-raised : (a c q : ℕ) (rs : List ℕ) → a < q → (a + 1) * (run q rs + 1) ≤ c → raised_or None a c q rs ≡ Some ((a + 1) ∷ raised q (a + 1) (c - (a + 1)) rs)
here-raised a c q rs h m =
    rw (lt-ltb a (min c q) (omega (arith, h, m, spread a (run q rs))), le-leb ((a + 1) * run q rs) (c - (a + 1)) (omega (arith, m, spread a (run q rs)))) refl

pub not-raised : (a c q : ℕ) (rs : List ℕ) → (q ≤ a) ⊎ (c < (a + 1) * (run q rs + 1)) → raised_or None a c q rs ≡ None
not-raised a c q rs (inl h) = rw (le-ltb a (min c q) (omega (arith, h))) refl
not-raised a c q rs (inr h) = elim (cases_lt a c) [
  | inl l ↦ rw (lt-leb ((a + 1) * run q rs) (c - (a + 1)) (omega (arith, h, spread a (run q rs), l)), and_right (nat_lt a (min c q)) false refl) refl
  | inr l ↦ rw (le-ltb a (min c q) (omega (arith, l))) refl
]

-- what is known where rows are searched from the last one on
pub record IsSearched (c : ℕ) (r before counts : List ℕ) (i later equal : ℕ) : Type 0 where
  pub choice : IsChoice c r before
  pub short : length r ≤ 8
  pub rises : Rise r before
  pub kept : counts ≡ before
  pub within : i ≤ length counts
  pub rest : later ≡ sum (drop i counts)
  pub equal_is : equal ≡ run_from (drop i r)
  pub equal_few : equal ≤ 8
  pub none : raised_after later (drop i r) (drop i counts) ≡ None

-- those that stand for others, after one

behind-none : (c : ℕ) (r x : List ℕ) → IsChoice c r x → filter (fits_behind 0 0 r) (later_choices c r x) ≡ filter (is_gathered r) (later_choices c r x)
behind-none c r x o = filter-same_where (λ y. length y ≡ length r) (fits_behind 0 0 r) (is_gathered r) (λ y l. none-behind r y l) (later_choices c r x) (all_weaker (IsChoice c r) (λ y. length y ≡ length r) (λ y p. p.long) (later_choices c r x) (later-each c r x o))

rise-behind-none : (r x : List ℕ) → Rise r x → Rise (0 ∷ r) (0 ∷ x)
rise-behind-none [] x h = tt
rise-behind-none (q ∷ rs) [] h = tt
rise-behind-none (q ∷ rs) (a ∷ x) h = (less-not q 0 a 0 (omega arith), h)

gathered-after : (c : ℕ) (r x : List ℕ) → IsChoice c r x → Rise r x → filter (is_gathered r) (later_choices c r x) ≡ kept_from 0 0 c r (raised_after c r x)
gathered-after c r x o h = sym (behind-none c r x o) ∙ kept-after 0 0 c r x o (rise-behind-none r x h)

pub changed-gathered : (c : ℕ) (r x y : List ℕ) → IsChoice c r x → Rise r x → raised_after (sum x) r x ≡ Some y → filter (is_gathered r) (later_choices c r x) ≡ y ∷ filter (is_gathered r) (later_choices c r y)
changed-gathered c r x y o h e =
    let found : raised_after c r x ≡ Some y = ap (λ n. raised_after n r x) (sym o.whole) ∙ e in
    let choice : IsChoice c r y = subst (AnyIs (IsChoice c r)) found (after-choice c r x o) in
    gathered-after c r x o h ∙ ap (kept_from 0 0 c r) found ∙ ap (λ ys. y ∷ ys) (behind-none c r y choice)

-- ---- a row further to the front

pub searched-first : {c : ℕ} {r x : List ℕ} → IsChoice c r x → is_gathered r x ≡ true → length r ≤ 8 → IsSearched c r x x (length x) 0 0
searched-first {r = r} {x = x} o g short =
    let rows : drop (length x) r ≡ [] = ap (λ n. drop n r) o.long ∙ drop-length r in
    let counts : drop (length x) x ≡ [] = drop-length x in
    record {
      choice = o;
      short = short;
      rises = risen-gathered r x o.long g;
      kept = refl;
      within = omega arith;
      rest = rw counts refl;
      equal_is = rw rows refl;
      equal_few = omega arith;
      none = rw rows refl;
    }

-- no row takes one more
pub last-gathered : {c : ℕ} {r before x : List ℕ} {i later equal : ℕ} → IsSearched c r before x i later equal → i ≡ 0 → filter (is_gathered r) (later_choices c r before) ≡ []
last-gathered {c = c} {r = r} {before = before} {later = later} k start =
    let rest : later ≡ sum before = rw (start, k.kept) at k.rest in
    let none : raised_after later r before ≡ None = rw (start, k.kept) at k.none in
    gathered-after c r before k.choice k.rises ∙ ap (kept_from 0 0 c r) (ap (λ n. raised_after n r before) (sym (rest ∙ k.choice.whole)) ∙ none)

module _ {c : ℕ} {r before x : List ℕ} {i later equal : ℕ} (k : IsSearched c r before x i later equal) (some : 0 < i) where
  choice : IsChoice c r x
  choice = subst (IsChoice c r) (sym k.kept) k.choice

  back : (i - 1) + 1 ≡ i
  back = omega (arith, some)

  inside : i - 1 < length x
  inside = omega (arith, some, k.within)

  split_rows : drop (i - 1) r ≡ get_or r (i - 1) 0 ∷ drop (i - 1 + 1) r
  split_rows = rw add-one (drop-cons r (i - 1) 0 (omega (arith, inside, choice.long)))

  rest-here : later ≡ sum (drop (i - 1 + 1) x)
  rest-here = k.rest ∙ ap (λ n. sum (drop n x)) (sym back)

  pub sum-here : later + get_or x (i - 1) 0 ≡ sum (drop (i - 1) x)
  sum-here = omega (arith, rest-here, sum_by-drop_more (λ v. v) x (i - 1) 0 inside)

  pub most-here : later + get_or x (i - 1) 0 - (get_or x (i - 1) 0 + 1) ≤ sum (drop (i - 1 + 1) r)
  most-here = omega (arith, rest-here, fits-drop (i - 1 + 1) r x choice.fitting)

  none-here : raised_after (sum (drop (i - 1 + 1) x)) (drop (i - 1 + 1) r) (drop (i - 1 + 1) x) ≡ None
  none-here = ap (λ n. raised_after n (drop (i - 1 + 1) r) (drop (i - 1 + 1) x)) (sym rest-here) ∙ ap (λ n. raised_after later (drop n r) (drop n x)) back ∙ k.none

  place : raised_after (sum (drop (i - 1) x)) (drop (i - 1) r) (drop (i - 1) x) ≡ raised_or None (get_or x (i - 1) 0) (later + get_or x (i - 1) 0) (get_or r (i - 1) 0) (drop (i - 1 + 1) r)
  place = place-raised (i - 1) r x inside choice.long none-here ∙ ap (λ n. raised_or None (get_or x (i - 1) 0) n (get_or r (i - 1) 0) (drop (i - 1 + 1) r)) (sym sum-here)

  module _ {again : Bool} {more : ℕ} (again_is : again ≡ stands_again r (i - 1)) (more_is : more ≡ cond again (equal + 1) 1) where
    more-run : more ≡ run (get_or r (i - 1) 0) (drop (i - 1 + 1) r) + 1
    more-run =
        more_is
        ∙ ap (λ t. cond t (equal + 1) 1) again_is
        ∙ ap (λ n. cond (stands_again r (i - 1)) (n + 1) 1) (k.equal_is ∙ ap (λ n. run_from (drop n r)) (sym back))
        ∙ sym (run-at r (i - 1) (omega (arith, inside, choice.long)))
        ∙ ap run_from split_rows

    module _ (few : (get_or x (i - 1) 0 + 1) * more ≤ later + get_or x (i - 1) 0) where
      few-run : (get_or x (i - 1) 0 + 1) * (run (get_or r (i - 1) 0) (drop (i - 1 + 1) r) + 1) ≤ later + get_or x (i - 1) 0
      few-run = subst (λ n. (get_or x (i - 1) 0 + 1) * n ≤ later + get_or x (i - 1) 0) more-run few

      pub one-here : get_or x (i - 1) 0 + 1 ≤ later + get_or x (i - 1) 0
      one-here = omega (arith, few-run, spread (get_or x (i - 1) 0) (run (get_or r (i - 1) 0) (drop (i - 1 + 1) r)))

      pub enough-here : (get_or x (i - 1) 0 + 1) * run (get_or r (i - 1) 0) (drop (i - 1 + 1) r) ≤ later + get_or x (i - 1) 0 - (get_or x (i - 1) 0 + 1)
      enough-here = omega (arith, few-run, spread (get_or x (i - 1) 0) (run (get_or r (i - 1) 0) (drop (i - 1 + 1) r)))

      pub found : get_or x (i - 1) 0 < get_or r (i - 1) 0 → (new : List ℕ)
          → new ≡ raised (get_or r (i - 1) 0) (get_or x (i - 1) 0 + 1) (later + get_or x (i - 1) 0 - (get_or x (i - 1) 0 + 1)) (drop (i - 1 + 1) r)
          → (y : List ℕ) → y ≡ put_mid (i - 1 + 1) (length (set x (i - 1) (get_or x (i - 1) 0 + 1)) - (i - 1 + 1)) (set x (i - 1) (get_or x (i - 1) 0 + 1)) new
          → filter (is_gathered r) (later_choices c r before) ≡ y ∷ filter (is_gathered r) (later_choices c r y)
      found less new new_is y y_is =
          let whole : y ≡ take (i - 1) x ++ (get_or x (i - 1) 0 + 1) ∷ new =
          y_is
          ∙ put_end (i - 1 + 1) (set x (i - 1) (get_or x (i - 1) 0 + 1)) new (omega (arith, inside, length-set x (i - 1) (get_or x (i - 1) 0 + 1)))
          ∙ put_back x new (i - 1) (get_or x (i - 1) 0 + 1) inside in
          let next : raised_after (sum (drop (i - 1) x)) (drop (i - 1) r) (drop (i - 1) x) ≡ Some ((get_or x (i - 1) 0 + 1) ∷ new) =
          place
          ∙ here-raised (get_or x (i - 1) 0) (later + get_or x (i - 1) 0) (get_or r (i - 1) 0) (drop (i - 1 + 1) r) less few-run
          ∙ ap (λ zs. Some ((get_or x (i - 1) 0 + 1) ∷ zs)) (sym new_is) in
          let all : raised_after (sum before) r before ≡ Some y =
          ap (λ z. raised_after (sum z) r z) (sym k.kept)
          ∙ prefix-raised (i - 1) r x ((get_or x (i - 1) 0 + 1) ∷ new) (omega (arith, inside)) choice.long next
          ∙ ap Some (sym whole) in
          changed-gathered c r before y k.choice k.rises all

    pub passed : (get_or r (i - 1) 0 ≤ get_or x (i - 1) 0) ⊎ (later + get_or x (i - 1) 0 < (get_or x (i - 1) 0 + 1) * more) → IsSearched c r before x (i - 1) (later + get_or x (i - 1) 0) more
    passed t =
        let full : (get_or r (i - 1) 0 ≤ get_or x (i - 1) 0) ⊎ (later + get_or x (i - 1) 0 < (get_or x (i - 1) 0 + 1) * (run (get_or r (i - 1) 0) (drop (i - 1 + 1) r) + 1)) = subst (λ n. (get_or r (i - 1) 0 ≤ get_or x (i - 1) 0) ⊎ (later + get_or x (i - 1) 0 < (get_or x (i - 1) 0 + 1) * n)) more-run t in
        let equal_is : more ≡ run_from (drop (i - 1) r) = more-run ∙ ap run_from (sym split_rows) in
        record {
          choice = k.choice;
          short = k.short;
          rises = k.rises;
          kept = k.kept;
          within = omega (arith, inside);
          rest = sum-here;
          equal_is = equal_is;
          equal_few = omega (arith, equal_is, run-long (drop (i - 1) r), length-drop {A = ℕ}, k.short);
          none = ap (λ n. raised_after n (drop (i - 1) r) (drop (i - 1) x)) sum-here ∙ place ∙ not-raised (get_or x (i - 1) 0) (later + get_or x (i - 1) 0) (get_or r (i - 1) 0) (drop (i - 1 + 1) r) full;
        }
