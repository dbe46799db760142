-- What the numerator of the table transposed says of that of the table.
use Rattle.std.proofs.Math.Nat.{mul_comm}
use Rattle.std.proofs.Common.{◌≡◌, ℕ, ◌*◌, ◌%◌, ◌<◌, ◌≤◌, Bool, true, false, refl, sym, ◌∙◌, ap, arith, nat_eq}
use Rattle.std.proofs.lemmas.Bool.{eqb-true}
use Rattle.std.specs.Prelude.{if◌then◌else◌}
use Rattle.weights.specs.declared.tails.Tail.{Tail}
use Rattle.weights.specs.declared.tails.Tail.TheVariants.{Less, Greater, Two}
use Rattle.weights.specs.Frames.{first_tail}
use Rattle.weights.specs.Conditional.{is_extreme, numerator, total, unit_weight}
use Rattle.weights.specs.Labellings.{labellings}
use Rattle.weights.proofs.Sized.{first_and}
use Rattle.weights.proofs.Sums.{sum_by-filter-≤}
use Rattle.table_reader.specs.TableLayout.{TableData}
use Rattle.transposed_tables.proofs.Reduced.{no-rest}
use Rattle.transposed_tables.proofs.Weighed.{cancel}
use Rattle.table_sums.specs.Tables.{is_two_by_two, row_sums}
use Rattle.fisher_test.specs.FisherExact.{fisher_test, has_fisher_tail}
use Rattle.fisher_test.specs.Transposed.{AreTransposed}
use Rattle.fisher_test.proofs.FisherTests.{total-some}
use Rattle.fisher_test.proofs.TransposedTests.{numerators-transposed}

numerator-within : (t : TableData) → numerator (fisher_test t) Two ≤ total (fisher_test t)
numerator-within t = sum_by-filter-≤ unit_weight (is_extreme (fisher_test t) Two) (labellings (row_sums t))

-- a part of a total that gives the numerator
pub record IsPartOf (t : TableData) (all sum of : ℕ) : Type 0 where
  pub some : 0 < of
  pub within : sum ≤ of
  pub whole : (all * sum) % of ≡ 0
  pub law : (found : ℕ) → found * of ≡ sum * all → found ≡ numerator (fisher_test t) Two

pub is-part : {t u : TableData} {all sum of : ℕ} → AreTransposed t u → all ≡ total (fisher_test t) → sum ≡ numerator (fisher_test u) Two → of ≡ total (fisher_test u) → IsPartOf t all sum of
is-part {t = t} {u = u} {all = all} {sum = sum} {of = of} transposed a s o =
    let some : 0 < of = omega (arith, o, total-some u) in
    let here : numerator (fisher_test t) Two * of ≡ sum * all =
    ap (λ n. numerator (fisher_test t) Two * n) o ∙ numerators-transposed t u transposed ∙ sym (ap (λ n. n * all) s ∙ ap (λ n. numerator (fisher_test u) Two * n) a) in
    record {
      some = some;
      within = omega (arith, s, o, numerator-within u);
      whole = no-rest (numerator (fisher_test t) Two) of (all * sum) some (here ∙ mul_comm sum all);
      law = λ n e. cancel n (numerator (fisher_test t) Two) of some (e ∙ sym here);
    }

-- a table that is not of 2 by 2 has the tail on both sides alone
pub both-sides : (tail : Tail) (two_by_two : Bool) → two_by_two ≡ false → has_fisher_tail two_by_two tail ≡ true → tail ≡ Two
both-sides Less two_by_two shape has = absurd (cc (sym shape ∙ has))
both-sides Greater two_by_two shape has = absurd (cc (sym shape ∙ has))
both-sides Two two_by_two shape has = refl

-- nor is one of more rows than columns
pub not-square : (t : TableData) → t.columns < t.rows → is_two_by_two t ≡ false
not-square t more = by (is_two_by_two t) refl
  where
    by : (b : Bool) → is_two_by_two t ≡ b → is_two_by_two t ≡ false
    by true e = let both = first_and (nat_eq t.rows 2) (nat_eq t.columns 2) e in absurd (omega (arith, more, eqb-true t.rows 2 both.0, eqb-true t.columns 2 both.1))
    by false e = e

-- the first tail of a table of 2 by 2 is one of one side, and else that on both
pub first-is : (t : TableData) (b : Bool) → b ≡ is_two_by_two t → first_tail (fisher_test t) ≡ (if b then Less else Two)
first-is t b e = rw e (by (is_two_by_two t))
  where
    by : (b : Bool) → (if has_fisher_tail b Less then Less else (if has_fisher_tail b Greater then Greater else Two)) ≡ (if b then Less else Two)
    by true = refl
    by false = refl
