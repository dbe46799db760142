use Rattle.std.proofs.Common.{◌≡◌, ◌+◌, ◌++◌, ◌∷◌, [], ℕ, zero, suc, List, Some, None, take, refl, ap, rules, add-one, append_assoc}
use Rattle.csv.specs.Records.{field_at, fields_of}
use Rattle.record_reader.proofs.fields.Fields.extend.Goals as goal

taken-more : (fields : List (List ℕ)) (i : ℕ) (field : List ℕ) → Some field ≡ field_at fields i → take (suc i) fields ≡ take i fields ++ field ∷ []
unfolding field_at
taken-more [] i field found = cc
taken-more (f ∷ fields) zero field found = let same : field ≡ f = cc in rw same refl
taken-more (f ∷ fields) (suc i) field found = ap (λ (xs : List (List ℕ)). f ∷ xs) (taken-more fields i field found)

-- one field more behind those that were there before
extended : (before fields : List (List ℕ)) (i : ℕ) (field : List ℕ) → Some field ≡ field_at fields i
    → (before ++ take i fields) ++ field ∷ [] ≡ before ++ take (i + 1) fields
extended before fields i field found = rw (add-one, taken-more fields i field found) (append_assoc before (take i fields) (field ∷ []))

taken-all : (fields : List (List ℕ)) (i : ℕ) → None ≡ field_at fields i → take i fields ≡ fields
unfolding field_at
taken-all [] zero ended = refl
taken-all [] (suc i) ended = refl
taken-all (f ∷ fields) zero ended = cc
taken-all (f ∷ fields) (suc i) ended = ap (λ (xs : List (List ℕ)). f ∷ xs) (taken-all fields i ended)

pub loop-field-init : goal.loop-field-init
loop-field-init c =
    let start = c.into_iter-field-iterator.ensures.into_iter_gives in
    (start.0, rw start.1 (search rules))

pub loop-field-preserved : goal.loop-field-preserved
loop-field-preserved c =
    let kept = c.loop-field.invariant in
    let steps = c.in-Some.ensures.steps in
    let found = rw kept.0 at steps.1 in (
      rw steps.0 kept.0,
      rw (c.in_ok-push.ensures.ok, kept.1, steps.2) (extended c.args.self.now (fields_of c.args.row.now) c.loop-field.field-iterator.at c.in-Some.field.now found),
    )

pub returns : goal.returns
returns c =
    let kept = c.loop-field.invariant in
    let ended = rw kept.0 at c.in-None.ensures.steps.1 in
    rw (kept.1, taken-all (fields_of c.args.row.now) c.loop-field.field-iterator.at ended) refl
