-- A network of columns and that of their single subjects: a key of the one is a key of the other, at the stage of as many subjects, and its completions weigh as much.
use Rattle.std.proofs.Common.{◌≡◌, ℕ, zero, suc, ◌+◌, ◌<◌, ◌≤◌, List, [], ◌∷◌, ◌++◌, take, drop, length, replicate, true, refl, sym, ◌∙◌, ap, subst, arith, suc-add, zero-add}
use Rattle.std.specs.Prelude.{ℤ, pos, ◌+ℤ◌, ◌*ℤ◌, slice_index, slice_index_or}
use Rattle.std.specs.List.{sum, sum_by, Contains}
use Rattle.std.proofs.Math.IntN.{+ℤ_idr, *ℤ_comm, zero-*ℤ}
use Rattle.std.proofs.lemmas.Int.{ints}
use Rattle.std.proofs.lemmas.List.Sums.{sum_by-cons, sum_by-take-drop}
use Rattle.weights.specs.declared.tails.Tail.{Tail}
use Rattle.weights.specs.Grouped.{choices, fits, minus}
use Rattle.weights.specs.Labellings.{labellings}
use Rattle.weights.specs.Rules.{passes}
use Rattle.weights.proofs.ChoiceLists.{IsChoice}
use Rattle.weights.proofs.Chosen.{one_if}
use Rattle.weights.proofs.Sized.{length-minus}
use Rattle.completion_bounds.proofs.Products.{distribute}
use Rattle.networks.specs.declared.verdicts.Judge.{Judge}
use Rattle.networks.specs.Completions.{extreme_weight, total_weight}
use Rattle.networks.specs.GoesOn.{GoesOn}
use Rattle.networks.specs.Judged.{judge_of, rule_in}
use Rattle.networks.specs.Network.{Network, IsReached}
use Rattle.later_scores.specs.LaterSums.{later_scores, subjects}
use Rattle.later_scores.proofs.Later.{later-length, later-next, length-subjects}
use Rattle.label_network.specs.LabelNetwork.{label_network}
use Rattle.label_network.specs.Linear.{column_sum, linear_statistic, row_sum, score_of}
use Rattle.label_network.proofs.LinearValues.{drop-head}
use Rattle.label_network.proofs.Narrowing.{AreLeft, chosen, left-first, left-next}
use Rattle.label_network.proofs.Rows.{fits-long}
use Rattle.table_sums.specs.Tables.{column_sums, row_sums}
use Rattle.table_sums.proofs.MarginSums.{even}
use Rattle.linear_by_linear.specs.LinearByLinear.{ScoredTable, linear_test}
use Rattle.linear_by_linear.specs.LinearNetworks.{product_meaning, subject_meaning}
use Rattle.linear_by_linear.specs.LinearSteps.{AreFitting}
use Rattle.linear_by_linear.proofs.LinearTests.{as-long, as-wide}
use Rattle.linear_by_linear.proofs.PeeledUnits.{minus-both, minus-none, others-fit, others-sum, others_of, row-both, row-none, unit-among, unit_of}
use Rattle.linear_by_linear.proofs.ProductKeys.{arrives, choices-key, extreme-key, key_of, net, next-key, total-key}
use Rattle.linear_by_linear.proofs.SingleSubjects.{length-singles, single-subjects}

-- the columns' subjects from a column on are the last ones of all
later-subjects : (g : ℕ) (scores : List ℤ) (columns : List ℕ) → length scores ≡ length columns → drop (sum (take g columns)) (subjects scores columns) ≡ later_scores scores columns g
later-subjects zero scores columns e = refl
later-subjects (suc g) [] [] e = none (sum (take (suc g) []))
  where
    none : (n : ℕ) → drop {A = ℤ} n [] ≡ []
    none zero = refl
    none (suc n) = refl
later-subjects (suc g) [] (c ∷ cs) e = absurd (omega (arith, e))
later-subjects (suc g) (s ∷ ss) [] e = absurd (omega (arith, e))
later-subjects (suc g) (s ∷ ss) (c ∷ cs) e =
    ap (λ n. drop n (replicate c s ++ subjects ss cs)) (sum_by-cons (λ v. v) c (take g cs))
    ∙ past c (sum (take g cs)) (subjects ss cs)
    ∙ later-subjects g ss cs (omega (arith, e))
  where
    past : (d n : ℕ) (rest : List ℤ) → drop (d + n) (replicate d s ++ rest) ≡ drop n rest
    past zero n rest = ap (λ m. drop m rest) (zero-add n)
    past (suc d) n rest = rw (suc-add d n) (past d n rest)

later-singles : (h : ℕ) (units : List ℤ) → later_scores units (replicate (length units) 1) h ≡ drop h units
later-singles zero units = single-subjects units
later-singles (suc h) [] = refl
later-singles (suc h) (v ∷ units) = later-singles h units

single-column : (h n : ℕ) → h < n → slice_index (replicate n 1) h ≡ 1
single-column h zero e = absurd (omega (arith, e))
single-column zero (suc n) e = refl
single-column (suc h) (suc n) e = single-column h n (omega (arith, e))

one-more : (g : ℕ) → g + 1 ≡ suc g
one-more g = omega arith

-- ---- where single subjects lead

module _ (us : List ℤ) (rows : List ℕ) (units : List ℤ) (judge : Judge) where
  abbrev singles : List ℕ
  singles = replicate (length units) 1

  abbrev by_one : Network
  by_one = net us rows units singles judge

  moved : (h i : ℕ) (r x : List ℕ) (p z : ℤ) → h ≡ i → r ≡ x → p ≡ z → IsReached by_one h (key_of r p) → IsReached by_one i (key_of x z)
  moved h i r x p z e f g a = subst (λ y. IsReached by_one i (key_of x y)) g (subst (λ y. IsReached by_one i (key_of y p)) f (subst (λ j. IsReached by_one j (key_of r p)) e a))

  joined : (p s a b z : ℤ) → a +ℤ b ≡ z → (p +ℤ (s *ℤ a)) +ℤ (s *ℤ b) ≡ p +ℤ (s *ℤ z)
  joined p s a b z e = rw (← e) (omega (arith, ints, distribute s a b))

  -- the subjects of a column with score s, of whom x says how many are in each row
  walks : (c h : ℕ) (r x : List ℕ) (p s : ℤ) (rest : List ℤ) → length r ≡ length rows → fits x r ≡ true → sum x ≡ c → h + c ≤ length units → drop h units ≡ replicate c s ++ rest → IsReached by_one h (key_of r p) → IsReached by_one (h + c) (key_of (minus r x) (p +ℤ (s *ℤ row_sum us x)))
  walks zero h r x p s rest wide f e within d a =
      let same : p +ℤ (s *ℤ pos 0) ≡ p = rw (*ℤ_comm s (pos 0), zero-*ℤ s) (+ℤ_idr p) in
      moved h (h + 0) r (minus r x) p (p +ℤ (s *ℤ row_sum us x)) (omega arith) (sym (minus-none r x e)) (sym (ap (λ z. p +ℤ (s *ℤ z)) (row-none us x e) ∙ same)) a
  walks (suc c) h r x p s rest wide f e within d a =
      let before : h < length units = omega (arith, within) in
      let here = drop-head h units s (replicate c s ++ rest) d in
      let y : List ℕ = unit_of x in
      let one : IsReached by_one (suc h) (key_of (minus r y) (p +ℤ column_sum us units h y)) =
      arrives us rows units singles judge r p wide h y (omega (arith, before, length-singles (length units)))
      (subst (λ n. Contains (choices n r) y) (sym (single-column h (length units) before)) (unit-among c r x f e)) a in
      let on : IsReached by_one (h + 1) (key_of (minus r y) (p +ℤ (s *ℤ row_sum us y))) = moved (suc h) (h + 1) (minus r y) (minus r y) (p +ℤ column_sum us units h y) (p +ℤ (s *ℤ row_sum us y)) (omega arith) refl (ap (λ z. p +ℤ (z *ℤ row_sum us y)) here.0) one in
      let all = walks c (h + 1) (minus r y) (others_of x) (p +ℤ (s *ℤ row_sum us y)) s rest (length-minus r y ∙ wide) (others-fit x r f) (others-sum c x e) (omega (arith, within)) here.1 on in
      moved (h + 1 + c) (h + suc c) (minus (minus r y) (others_of x)) (minus r x) ((p +ℤ (s *ℤ row_sum us y)) +ℤ (s *ℤ row_sum us (others_of x))) (p +ℤ (s *ℤ row_sum us x)) (omega arith) (minus-both r x) (joined p s (row_sum us y) (row_sum us (others_of x)) (row_sum us x) (row-both us x)) all

-- ---- the two networks

module _ (us : List ℤ) (rows : List ℕ) (scores : List ℤ) (columns : List ℕ) (judge : Judge) (level : sum columns ≡ sum rows) (wide : length us ≡ length rows) (long : length scores ≡ length columns) where
  abbrev n : Network
  n = net us rows scores columns judge

  abbrev units : List ℤ
  units = subjects scores columns

  abbrev ones : List ℕ
  ones = replicate (length units) 1

  abbrev q : Network
  q = net us rows units ones judge

  -- how many subjects the columns before a stage have
  abbrev pub stage_of : ℕ → ℕ
  stage_of g = sum (take g columns)

  record IsKey (g : ℕ) (k : List ℤ) : Type 0 where
    r : List ℕ
    p : ℤ
    key : k ≡ key_of r p
    left : AreLeft columns rows g r
    stage : g ≤ length columns
    there : IsReached q (stage_of g) k

  stage-within : (g : ℕ) → stage_of g ≤ length units
  stage-within g = omega (arith, sum_by-take-drop (λ v. v) columns g, length-subjects scores columns long)

  stage-next : (g : ℕ) → g < length columns → stage_of g + slice_index columns g ≡ stage_of (suc g)
  stage-next g before = omega (arith, taken columns g before)
    where
      taken : (cs : List ℕ) (i : ℕ) → i < length cs → sum (take (suc i) cs) ≡ sum (take i cs) + slice_index cs i
      taken [] i h = absurd (omega (arith, h))
      taken (c ∷ cs) zero h = sum_by-cons (λ v. v) c [] ∙ omega arith
      taken (c ∷ cs) (suc i) h = sum_by-cons (λ v. v) c (take (suc i) cs) ∙ omega (arith, taken cs i (omega (arith, h)), sum_by-cons (λ v. v) c (take i cs))

  is_key : (g : ℕ) (k : List ℤ) → IsReached n g k → IsKey g k
  is_key zero k e = record {
    r = rows;
    p = pos 0;
    key = e;
    left = left-first columns rows level;
    stage = omega arith;
    there = e;
  }
  is_key (suc g) k (j, x, a, before, o, e) =
      let past : IsKey g j = is_key g j a in
      let c : ℕ = slice_index columns g in
      let size : length past.r ≡ length rows = fits-long past.r rows past.left.within in
      let among : Contains (choices c past.r) x = subst (λ cs. Contains cs x) (ap (n.choices g) past.key ∙ choices-key us rows scores columns judge past.r past.p size g before) o in
      let choice : IsChoice c past.r x = chosen c past.r x among in
      let to : k ≡ key_of (minus past.r x) (past.p +ℤ column_sum us scores g x) = e ∙ ap (λ i. n.next g i x) past.key ∙ next-key us rows scores columns judge past.r past.p size g x in
      let block : drop (stage_of g) units ≡ replicate c (slice_index_or scores g (pos 0)) ++ later_scores scores columns (g + 1) = later-subjects g scores columns long ∙ later-next scores columns g before long in
      let most : stage_of g + c ≤ length units = omega (arith, stage-next g before, stage-within (suc g)) in
      record {
        r = minus past.r x;
        p = past.p +ℤ column_sum us scores g x;
        key = to;
        left = subst (λ i. AreLeft columns rows i (minus past.r x)) (one-more g) (left-next columns rows level g past.r x before past.left choice);
        stage = omega (arith, before);
        there = subst (IsReached q (stage_of (suc g))) (sym to) (subst (λ h. IsReached q h (key_of (minus past.r x) (past.p +ℤ column_sum us scores g x))) (stage-next g before)
            (walks us rows units judge c (stage_of g) past.r x past.p (score_of scores g) (later_scores scores columns (g + 1)) size choice.fitting choice.whole most block (subst (IsReached q (stage_of g)) past.key past.there)));
      }

  -- the same subjects are to come
  to-come : (g : ℕ) → later_scores units ones (stage_of g) ≡ later_scores scores columns g
  to-come g = later-singles (stage_of g) units ∙ later-subjects g scores columns long

  ones-long : length units ≡ length ones
  ones-long = sym (length-singles (length units))

  stage-in : (g : ℕ) → stage_of g ≤ length ones
  stage-in g = omega (arith, stage-within g, ones-long)

  module _ (g : ℕ) (k : List ℤ) (i : IsKey g k) where
    size : length i.r ≡ length rows
    size = fits-long i.r rows i.left.within

    whole : sum (drop (stage_of g) ones) ≡ sum i.r
    whole = sym (later-length units ones (stage_of g) ones-long) ∙ ap length (to-come g) ∙ later-length scores columns g long ∙ i.left.whole

    same-total : total_weight q (stage_of g) k ≡ total_weight n g k
    same-total =
        ap (total_weight q (stage_of g)) i.key
        ∙ total-key us rows units ones judge ones-long (stage_of g) i.r i.p (stage-in g) size wide whole
        ∙ sym (ap (total_weight n g) i.key ∙ total-key us rows scores columns judge long g i.r i.p i.stage size wide i.left.whole)

    same-extreme : (t : Tail) → extreme_weight q t (stage_of g) k ≡ extreme_weight n t g k
    same-extreme t =
        ap (extreme_weight q t (stage_of g)) i.key
        ∙ extreme-key us rows units ones judge ones-long (stage_of g) i.r i.p (stage-in g) size wide whole t
        ∙ ap (λ vs. sum_by (λ xs. one_if (passes (rule_in judge t) (i.p +ℤ linear_statistic us vs xs))) (labellings i.r)) (to-come g)
        ∙ sym (ap (extreme_weight n t g) i.key ∙ extreme-key us rows scores columns judge long g i.r i.p i.stage size wide i.left.whole t)

  -- so single subjects go on for the columns
  pub singles-go_on : (g : ℕ) → GoesOn n q g (stage_of g) (λ k. k)
  singles-go_on g = record {
    within = stage-in g;
    reached = λ k a. (is_key g k a).there;
    total = λ k a. same-total g k (is_key g k a);
    extreme = λ t k a. same-extreme g k (is_key g k a) t;
  }

-- of a table
pub columns-go_on : (t : ScoredTable) → AreFitting t → (g : ℕ) → GoesOn (label_network (product_meaning t)) (label_network (subject_meaning t)) g (sum (take g (column_sums t.table))) (λ k. k)
columns-go_on t f = singles-go_on t.row_scores (row_sums t.table) t.column_scores (column_sums t.table) (judge_of (linear_test t)) (even t.table) (as-wide t f) (as-long t f)
