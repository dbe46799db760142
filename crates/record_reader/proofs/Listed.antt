-- Records that were read one after the other, up to the end of a text, are all the records of the text.
use Rattle.std.proofs.Common.{◌≡◌, ◌⊎◌, ◌≤◌, ◌<◌, ◌+◌, ℕ, zero, suc, List, [], ◌∷◌, ◌++◌, length, Some, None, Bool, true, false, refl, sym, ap, inl, inr, arith}
use Rattle.csv.specs.Machine.{Read, ends_at_end, field_after, fields_after, is_end, next_record, step}
use Rattle.csv.specs.Reading.{Reached, records, records_from}
use Rattle.csv.specs.declared.parser.Config.{Config}
use Rattle.csv.specs.declared.parser.State.{State}
use Rattle.csv.specs.declared.parser.State.TheVariants as state

-- a read of a record leaves less than it had, or the end of the text
abbrev Shrinks : List ℕ → Read → Type 0
Shrinks text read = (length read.2 < length text) ⊎ ((read.1 ≡ state.StartRecord) × (read.2 ≡ []))

shrinks : (config : Config) (from : State) (fields : List (List ℕ)) (field text : List ℕ) (read : Read) → next_record config from fields field text ≡ Some read
    → Shrinks text read
unfolding next_record
shrinks config from fields field [] read is-next = by (ends_at_end from) refl
  where
    by : (test : Bool) → ends_at_end from ≡ test → Shrinks [] read
    by true ends =
        let same : (fields ++ (field ∷ []), state.StartRecord, []) ≡ read = let found = rw ends at is-next in cc in
        inr (ap (λ (r : Read). r.1) (sym same), ap (λ (r : Read). r.2) (sym same))
    by false goes-on =
        let none : None ≡ Some read = rw goes-on at is-next in
        cc
shrinks config from fields field (byte ∷ rest) read is-next =
    by (is_end (step config from byte).1) refl (shrinks config (step config from byte).0 (fields_after (step config from byte).1 fields field) (field_after (step config from byte).1 byte field) rest read)
  where
    by : (test : Bool) → is_end (step config from byte).1 ≡ test
        → (next_record config (step config from byte).0 (fields_after (step config from byte).1 fields field) (field_after (step config from byte).1 byte field) rest ≡ Some read → Shrinks rest read)
        → Shrinks (byte ∷ rest) read
    by true ends later =
        let same : (fields_after (step config from byte).1 fields field, (step config from byte).0, rest) ≡ read = let found = rw ends at is-next in cc in
        let left : read.2 ≡ rest = ap (λ (r : Read). r.2) (sym same) in
        inl (rw left (omega arith))
    by false goes-on later = elim (later (rw goes-on at is-next)) [ inl less ↦ inl (omega arith) | inr end ↦ inr end ]

none-at-end : (config : Config) (rows : List (List (List ℕ))) (to : State) (left : List ℕ) → Reached config state.StartRecord [] rows to left → length rows ≡ 0
unfolding Reached next_record
none-at-end config [] to left reached = refl
none-at-end config (row ∷ rows) to left reached =
    let none : None ≡ Some reached.0 = reached.1 in
    cc

-- no more records than bytes, and one that the end of the text ends
count-le : (config : Config) (from : State) (text : List ℕ) (rows : List (List (List ℕ))) (to : State) (left : List ℕ) → Reached config from text rows to left
    → length rows ≤ length text + 1
unfolding Reached
count-le config from text [] to left reached = omega arith
count-le config from text (row ∷ rows) to left reached =
    elim (shrinks config from [] [] text reached.0 reached.1) [
      | inl less ↦
          let later = count-le config reached.0.1 reached.0.2 rows to left reached.3 in
          omega arith
      | inr end ↦
          let none = none-at-end config rows to left (rw (end.0, end.1) at reached.3) in
          omega arith
    ]

listed : (config : Config) (n : ℕ) (from : State) (text : List ℕ) (rows : List (List (List ℕ))) (to : State) (left : List ℕ) → Reached config from text rows to left
    → next_record config to [] [] left ≡ None → length rows ≤ n → records_from config n from text ≡ rows
unfolding Reached records_from
listed config zero from text [] to left reached ended few = refl
listed config zero from text (row ∷ rows) to left reached ended few = absurd (omega arith)
listed config (suc n) from text [] to left reached ended few = rw (reached.0, reached.1, ended) refl
listed config (suc n) from text (row ∷ rows) to left reached ended few =
    rw (reached.1, reached.2, listed config n reached.0.1 reached.0.2 rows to left reached.3 ended (omega arith)) refl

pub all_listed : (config : Config) (text : List ℕ) (rows : List (List (List ℕ))) (to : State) (left : List ℕ) → Reached config state.StartRecord text rows to left
    → next_record config to [] [] left ≡ None → rows ≡ records config text
all_listed config text rows to left reached ended =
    sym (listed config (length text + 1) state.StartRecord text rows to left reached ended (count-le config state.StartRecord text rows to left reached))
