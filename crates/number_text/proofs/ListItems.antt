-- Items of lists, and the lists that they make.
use Rattle.std.proofs.Common.{All, zero, suc, ◌+◌, [], ◌∷◌, ◌++◌, length, take, get_or, Option, option_map, option_and_then, nat_le, add-one, ◌≡◌, ℕ, ◌<◌, ◌≤◌, Bool, true, false, List, min, ℤ, ◌<ℤ◌, ◌≤ℤ◌, Some, None, FitsSigned, w64, refl, ap, ◌∙◌, sym, arith, inl, inr, IsTrue}
use Rattle.std.proofs.lemmas.Bool.{cases_lt, cond-false, cond-true, le-leb, lt-leb}
use Rattle.std.proofs.lemmas.Int.{ints}
use Rattle.std.proofs.lemmas.List.Elements.{All-cons}
use Rattle.std.specs.List.{slice_split}
use Rattle.std.specs.Str.Parse.{starts_with_minus, without_leading_sign}
use Rattle.number_text.specs.declared.digits.TheConstants.{CAP}
use Rattle.number_text.specs.ListTexts.{IsWithin, fitting, is_comma, item_of, items_of, list_of, within}
use Rattle.number_text.specs.Numerals.{decimal_value, integer_of, is_numeral, signed}
use Rattle.number_text.specs.Trimmed.{trimmed}

-- what lies outside the bounds is no answer
pub within_below : (low high item : ℤ) → item <ℤ low → within low high item ≡ None
within_below low high item outside = grind (arith, ints)

pub within_above : (low high item : ℤ) → high <ℤ item → within low high item ≡ None
within_above low high item outside = grind (arith, ints)

-- what lies between them is
pub within_both : (low high item : ℤ) → low ≤ℤ item → item ≤ℤ high → within low high item ≡ Some item
within_both low high item from_low to_high = grind (arith, ints)

-- what passes the cap is outside, with either sign
within_past_cap : (low high : ℤ) (negative : Bool) (n : ℕ) → FitsSigned w64 low → FitsSigned w64 high → CAP ≤ n → within low high (signed negative n) ≡ None
within_past_cap low high true n low_fits high_fits past = within_below low high (signed true n) (omega (arith, ints))
within_past_cap low high false n low_fits high_fits past = within_above low high (signed false n) (omega (arith, ints))

-- the cap changes no answer
pub within_capped : (low high : ℤ) (negative : Bool) (n : ℕ) → FitsSigned w64 low → FitsSigned w64 high → within low high (signed negative (min n CAP)) ≡ within low high (signed negative n)
within_capped low high negative n low_fits high_fits =
    elim (cases_lt n CAP) [
      | inl below ↦ ap (λ m. within low high (signed negative m)) (omega arith)
      | inr past ↦ within_past_cap low high negative (min n CAP) low_fits high_fits (omega arith) ∙ sym (within_past_cap low high negative n low_fits high_fits past)
    ]

-- the answer for a text that is trimmed, and whose sign is taken off
pub item_of_capped : (low high value : ℤ) (text body digits : List ℕ) (negative : Bool) → FitsSigned w64 low → FitsSigned w64 high →
    body ≡ trimmed text → negative ≡ starts_with_minus body → digits ≡ without_leading_sign body → IsTrue (is_numeral digits) →
    value ≡ signed negative (min (decimal_value digits) CAP) → item_of low high text ≡ within low high value
item_of_capped low high value text body digits negative low_fits high_fits body_is negative_is digits_are numeric value_is =
    let numeral : IsTrue (is_numeral (without_leading_sign (trimmed text))) = rw (digits_are, body_is) at numeric in
    let same = within_capped low high (starts_with_minus (trimmed text)) (decimal_value (without_leading_sign (trimmed text))) low_fits high_fits in
    rw (value_is, negative_is, digits_are, body_is) (rw numeral (sym same))

-- an item put before the others, where both are there
abbrev with_first : Option ℤ → Option (List ℤ) → Option (List ℤ)
with_first first others = option_and_then (λ item. option_map (λ items. item ∷ items) others) first

-- what stands behind such a list
record IsWithFirst (first : Option ℤ) (others : Option (List ℤ)) (items : List ℤ) : Type 0 where
  item : ℤ
  rest : List ℤ
  first_is : first ≡ Some item
  others_are : others ≡ Some rest
  items_are : items ≡ item ∷ rest

parts_of : (first : Option ℤ) (others : Option (List ℤ)) (items : List ℤ) → with_first first others ≡ Some items → IsWithFirst first others items
parts_of None others items found = absurd cc
parts_of (Some item) None items found = absurd cc
parts_of (Some item) (Some rest) items found = record { item = item; rest = rest; first_is = refl; others_are = refl; items_are = cc }

-- both are there
with_first_is : (first : Option ℤ) (others : Option (List ℤ)) (item : ℤ) (rest : List ℤ) → first ≡ Some item → others ≡ Some rest → with_first first others ≡ Some (item ∷ rest)
with_first_is first others item rest first_is others_are = rw (first_is, others_are)

-- one text more
pub items_of_more : (low high item : ℤ) (texts : List (List ℕ)) (n : ℕ) (text : List ℕ) (items : List ℤ) → n < length texts → text ≡ get_or texts n text →
    items_of low high (take n texts) ≡ Some items → item_of low high text ≡ Some item → items_of low high (take (n + 1) texts) ≡ Some (items ++ item ∷ [])
items_of_more low high item [] n text items inside text_is before has_item = absurd (omega arith)
items_of_more low high item (x ∷ texts) zero text items inside text_is before has_item =
    let found : item_of low high x ≡ Some item = rw text_is at has_item in
    let empty : items ≡ [] = cc in
    rw (found, empty)
items_of_more low high item (x ∷ texts) (suc n) text items inside text_is before has_item =
    let parts = parts_of (item_of low high x) (items_of low high (take n texts)) items before in
    let more = rw add-one at (items_of_more low high item texts n text parts.rest (omega arith) text_is parts.others_are has_item) in
    rw add-one (with_first_is _ _ parts.item _ parts.first_is more ∙ ap (λ ys. Some (ys ++ item ∷ [])) (sym parts.items_are))

-- a text without an item
pub items_of_none : (low high : ℤ) (texts : List (List ℕ)) (n : ℕ) (text : List ℕ) → n < length texts → text ≡ get_or texts n text →
    item_of low high text ≡ None → items_of low high texts ≡ None
items_of_none low high [] n text inside text_is no_item = absurd (omega arith)
items_of_none low high (x ∷ texts) zero text inside text_is no_item =
    let missing : item_of low high x ≡ None = rw text_is at no_item in
    rw missing
items_of_none low high (x ∷ texts) (suc n) text inside text_is no_item =
    none_behind (item_of low high x) (items_of low high texts) (items_of_none low high texts n text (omega arith) text_is no_item)
  where
    none_behind : (first : Option ℤ) (others : Option (List ℤ)) → others ≡ None → with_first first others ≡ None
    none_behind None others no_others = refl
    none_behind (Some item) others no_others = rw no_others

-- each text has one item
pub length-items_of : (low high : ℤ) (texts : List (List ℕ)) (items : List ℤ) → items_of low high texts ≡ Some items → length items ≡ length texts
length-items_of low high [] items found =
    let empty : items ≡ [] = cc in
    rw empty
length-items_of low high (x ∷ texts) items found =
    let parts = parts_of (item_of low high x) (items_of low high texts) items found in
    rw parts.items_are (ap suc (length-items_of low high texts parts.rest parts.others_are))

-- an item that is given lies between the bounds
item_of-within : (low high item : ℤ) (text : List ℕ) → item_of low high text ≡ Some item → IsWithin low high item
item_of-within low high item text found = by_number (integer_of (trimmed text)) found
  where
    by_number : (number : Option ℤ) → option_and_then (within low high) number ≡ Some item → IsWithin low high item
    by_number None found = absurd cc
    by_number (Some n) found = (grind (arith, ints), grind (arith, ints))

-- and so does each item of a list
pub items_of-within : (low high : ℤ) (texts : List (List ℕ)) (items : List ℤ) → items_of low high texts ≡ Some items → All (IsWithin low high) items
items_of-within low high [] items found =
    let empty : items ≡ [] = cc in
    rw empty (λ k d l. absurd (omega arith))
items_of-within low high (x ∷ texts) items found =
    let parts = parts_of (item_of low high x) (items_of low high texts) items found in
    let first = item_of-within low high parts.item x parts.first_is in
    let others = items_of-within low high texts parts.rest parts.others_are in
    rw parts.items_are (All-cons (IsWithin low high) parts.item parts.rest first others)

-- a part without an item makes the text no list
pub list_of_none : (low high : ℤ) (room : ℕ) (text part : List ℕ) (n : ℕ) → n < length (slice_split is_comma text) → part ≡ get_or (slice_split is_comma text) n part →
    item_of low high part ≡ None → list_of low high room text ≡ None
unfolding list_of
list_of_none low high room text part n inside text_is no_item = rw (items_of_none low high (slice_split is_comma text) n part inside text_is no_item)

-- more parts than there is room make no answer
pub list_of_over : (low high : ℤ) (room : ℕ) (text : List ℕ) → room < length (slice_split is_comma text) → list_of low high room text ≡ None
unfolding list_of
list_of_over low high room text over = by_items (items_of low high (slice_split is_comma text)) (length-items_of low high (slice_split is_comma text))
  where
    by_items : (items : Option (List ℤ)) → ((found : List ℤ) → items ≡ Some found → length found ≡ length (slice_split is_comma text)) → option_and_then (fitting room) items ≡ None
    by_items None long = refl
    by_items (Some found) long =
        let same = long found refl in
        cond-false (nat_le (length found) room) (Some found) None (lt-leb (length found) room (omega arith))

-- all items in their room are the answer
pub list_of_all : (low high : ℤ) (room : ℕ) (text : List ℕ) (items : List ℤ) → length items ≤ room → items_of low high (slice_split is_comma text) ≡ Some items → list_of low high room text ≡ Some items
unfolding list_of
list_of_all low high room text items fits found = rw found (cond-true _ _ _ (le-leb _ _ fits))
