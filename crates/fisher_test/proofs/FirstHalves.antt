-- Networks that are swept up to a stage: what was closed on the way there, and what the nodes there come to by the values of
-- their completions.
use Rattle.std.proofs.Common.{◌≡◌, ℕ, suc, ◌+◌, ◌-◌, ◌*◌, ◌<◌, ◌≤◌, List, [], ◌∷◌, length, take, drop, get_or, map, Bool, true, false, cond, sym, ◌∙◌, ap, arith}
use Rattle.std.specs.Prelude.{ℤ}
use Rattle.std.specs.List.{sum_by}
use Rattle.std.proofs.Math.Nat.{mul_assoc}
use Rattle.std.proofs.Math.Seq.{take-add}
use Rattle.std.proofs.lemmas.List.{get_or-drop, length-drop}
use Rattle.std.proofs.lemmas.List.Sums.{sum_by-append, sum_by-cons, sum_by_more, sum_by-take-le}
use Rattle.weights.specs.declared.lines.Line.{Line}
use Rattle.weights.specs.declared.tails.Tail.{Tail}
use Rattle.weights.specs.declared.tails.Tail.TheVariants.{Less}
use Rattle.weights.specs.declared.tails.Tails.{Tails}
use Rattle.weights.specs.declared.TheConstants.{MAX}
use Rattle.weights.specs.Rules.{passes}
use Rattle.weights.proofs.Sums.{sum_by-same_where, sum_by-le-sum_by}
use Rattle.node_pool.specs.Nodes.{Node, node, weighted}
use Rattle.networks.specs.declared.tail_sums.Kept.TheVariants.{Open}
use Rattle.networks.specs.declared.tail_sums.TailSums.{TailSums}
use Rattle.networks.specs.declared.verdicts.Judge.{Judge}
use Rattle.networks.specs.Network.{Network, IsReached}
use Rattle.networks.specs.Completions.{completions, path_weight, path_end, paths, total_weight, extreme_weight, ends_inside, is_inside}
use Rattle.networks.specs.Judged.{HasIntervals, rule_in, verdict_of}
use Rattle.networks.specs.Asked.{asked, asks}
use Rattle.networks.specs.Laws.{IsLawful}
use Rattle.networks.specs.EachTail.{sum_for}
use Rattle.networks.proofs.Judging.{EndsBetween, values_between, verdict-point}
use Rattle.networks.proofs.Steps.{sum_by-same, sum_by-map, sum_by-scaled, sum_by-flat_map}
use Rattle.stage_network.specs.ArcSteps.{segment}
use Rattle.stage_network.specs.SweepSteps.{HasSwept, IsCourse, IsWithin, first_course}
use Rattle.stage_network.proofs.Asked.{asked-extreme, asked-extreme_at}
use Rattle.stage_network.proofs.Conserved.{sum_by-filter}
use Rattle.stage_network.proofs.Courses.{swept-kept, swept-light}
use Rattle.fisher_test.specs.LastSteps.{once, valued}

-- what the paths of m stages come to, for any function of their values
abbrev pub values : Network → (ℤ → ℕ) → ℕ → ℕ → List ℤ → ℕ
values n f m g k = sum_by (λ cs. path_weight n g k cs * f (n.value (path_end n g k cs))) (paths n m g k)

values-choice : (n : Network) (f : ℤ → ℕ) (m g : ℕ) (k : List ℤ) (c : List ℕ) → sum_by (λ cs. path_weight n g k cs * f (n.value (path_end n g k cs))) (map (λ cs. c ∷ cs) (paths n m (g + 1) (n.next g k c))) ≡ n.weight g k c * values n f m (g + 1) (n.next g k c)
values-choice n f m g k c =
    let next : List ℤ = n.next g k c in
    let part : List (List ℕ) → ℕ = λ cs. path_weight n (g + 1) next cs * f (n.value (path_end n (g + 1) next cs)) in
    sum_by-map (λ cs. path_weight n g k cs * f (n.value (path_end n g k cs))) (λ cs. c ∷ cs) (paths n m (g + 1) next)
    ∙ sum_by-same _ (λ cs. n.weight g k c * part cs) (λ cs. mul_assoc (n.weight g k c) (path_weight n (g + 1) next cs) (f (n.value (path_end n (g + 1) next cs)))) (paths n m (g + 1) next)
    ∙ sum_by-scaled (n.weight g k c) part (paths n m (g + 1) next)

pub values-step : (n : Network) (f : ℤ → ℕ) (m g : ℕ) (k : List ℤ) → values n f (suc m) g k ≡ sum_by (λ c. n.weight g k c * values n f m (g + 1) (n.next g k c)) (n.choices g k)
values-step n f m g k =
    sum_by-flat_map (λ cs. path_weight n g k cs * f (n.value (path_end n g k cs))) (λ c. map (λ cs. c ∷ cs) (paths n m (g + 1) (n.next g k c))) (n.choices g k)
    ∙ sum_by-same _ _ (values-choice n f m g k) (n.choices g k)

module _ (n : Network) (lawful : IsLawful n) (limit : ℕ) (tails : Tails) (starts : IsCourse n limit (first_course n (Open tails))) (m g : ℕ) (h : 0 + m ≤ n.count) (e : g ≡ 0 + m) (sums : TailSums) (nodes : List Node) (swept : HasSwept n (first_course n (Open tails)) m sums nodes) where
  -- The numerator is what was closed and the sum over the nodes at a stage.
  pub first-extreme : (t : Tail) → asks tails t ≡ true → (sum_for sums t).sum + weighted (extreme_weight n t g) nodes ≡ extreme_weight n t 0 n.first
  first-extreme t a =
      let own : weighted (extreme_weight n t g) nodes ≡ weighted (extreme_weight (asked tails n) t (0 + m)) nodes =
      ap (λ i. weighted (extreme_weight n t i) nodes) e
      ∙ sym (sum_by-same _ _ (λ (b : Node). ap (λ w. b.weight * w) (asked-extreme_at tails n t a (0 + m) b.key)) nodes) in
      omega (arith, own, swept-kept n lawful limit tails starts m h sums nodes swept t, asked-extreme tails n t a)

  -- all of which is no more than the completions of the first key weigh
  pub first-light : IsWithin limit (weighted (total_weight n g) nodes) × ((t : Tail) → (sum_for sums t).sum + weighted (total_weight n g) nodes ≤ MAX)
  first-light =
      let light : (t : Tail) → (sum_for sums t).sum + weighted (total_weight n g) nodes ≤ weighted (total_weight n 0) (node n.first 1 ∷ []) = λ t.
      omega (arith, ap (λ i. weighted (total_weight n i) nodes) e, swept-light n lawful limit (first_course n (Open tails)) starts m sums nodes h swept t) in
      (record { limit = omega (arith, light Less, starts.light.limit); fits = omega (arith, light Less, starts.light.fits) }, λ t. omega (arith, light t, starts.light.fits))

when : (b : Bool) (w : ℕ) → cond b w 0 ≡ w * cond b 1 0
when true w = omega arith
when false w = omega arith

module _ (n : Network) (judge : Judge) (h : HasIntervals n judge) (t : Tail) where
  -- a last key is extreme where its value passes
  end-passes : (e : List ℤ) → IsReached n n.count e → is_inside (n.verdict t n.count e) ≡ passes (rule_in judge t) (n.value e)
  end-passes e r =
      ap is_inside (
      h.verdicts t n.count e r
      ∙ ap (λ z. verdict_of (rule_in judge t) z (h.high n.count e)) (h.low_ends e r)
      ∙ ap (λ z. verdict_of (rule_in judge t) (n.value e) z) (h.high_ends e r)
      )
      ∙ verdict-point (rule_in judge t) (n.value e)

  -- so the extreme completions of a key are those whose values pass
  pub extreme-values : (g : ℕ) (k : List ℤ) → IsReached n g k → g ≤ n.count → extreme_weight n t g k ≡ values n (once (passes (rule_in judge t))) (n.count - g) g k
  unfolding extreme_weight
  extreme-values g k r within =
      let p : ℤ → Bool = passes (rule_in judge t) in
      sum_by-filter (path_weight n g k) (ends_inside n t g k) (completions n g k)
      ∙ sum_by-same_where (λ cs. EndsBetween n judge h (h.low g k) (h.high g k) (path_end n g k cs)) _ (λ cs. path_weight n g k cs * once p (n.value (path_end n g k cs)))
      (λ cs ends. ap (λ b. cond b (path_weight n g k cs) 0) (end-passes (path_end n g k cs) ends.reached) ∙ when (p (n.value (path_end n g k cs))) (path_weight n g k cs))
      (completions n g k) (values_between n judge h g k r within)

-- ---- some of the nodes, and some of the lines

times-le : (w a b : ℕ) → a ≤ b → w * a ≤ w * b
times-le w a b h = grind arith

-- a node more
pub segment-more : (f : List ℤ → ℕ) (s i : ℕ) (nodes : List Node) (d : Node) → s ≤ i → i < length nodes → weighted f (segment s (i + 1) nodes) ≡ weighted f (segment s i nodes) + (get_or nodes i d).weight * f (get_or nodes i d).key
segment-more f s i nodes d h k =
    let on : (i + 1) - s ≡ (i - s) + 1 = omega (arith, h) in
    let to : s + (i - s) ≡ i = omega (arith, h) in
    let low : i - s < length (drop s nodes) = omega (arith, length-drop s nodes, h, k) in
    let term = λ (b : Node). b.weight * f b.key in
    rw on (sum_by_more term (drop s nodes) (i - s) d low ∙ ap (λ b. weighted f (segment s i nodes) + term b) (get_or-drop s nodes (i - s) d ∙ ap (λ j. get_or nodes j d) to))

-- a room more
pub run-more : (f : List ℤ → ℕ) (s e : ℕ) (nodes : List Node) → s ≤ e → weighted f (take e nodes) ≡ weighted f (take s nodes) + weighted f (segment s e nodes)
run-more f s e nodes h =
    let on : s + (e - s) ≡ e = omega (arith, h) in
    ap (λ j. weighted f (take j nodes)) (sym on)
    ∙ ap (weighted f) (take-add s (e - s) nodes)
    ∙ sum_by-append (λ (b : Node). b.weight * f b.key) (take s nodes) (segment s e nodes)

pub weighted-le : (f h : List ℤ → ℕ) → ((k : List ℤ) → f k ≤ h k) → (nodes : List Node) → weighted f nodes ≤ weighted h nodes
weighted-le f h le nodes = sum_by-le-sum_by (λ (a : Node). a.weight * f a.key) (λ (a : Node). a.weight * h a.key) (λ a. times-le a.weight (f a.key) (h a.key) (le a.key)) nodes

-- some nodes of a stage weigh no more than all
pub take-le : (f : List ℤ → ℕ) (e : ℕ) (nodes : List Node) → weighted f (take e nodes) ≤ weighted f nodes
take-le f e nodes = sum_by-take-le (λ (a : Node). a.weight * f a.key) nodes e

pub segment-le : (f : List ℤ → ℕ) (s e : ℕ) (nodes : List Node) → s ≤ e → weighted f (segment s e nodes) ≤ weighted f nodes
segment-le f s e nodes h = omega (arith, run-more f s e nodes h, take-le f e nodes)

valued-cons : (f : ℤ → ℕ) (l : Line) (ls : List Line) → valued f (l ∷ ls) ≡ l.weight * f l.value + valued f ls
valued-cons f l ls = sum_by-cons (λ (m : Line). m.weight * f m.value) l ls

pub valued-le : (f h : ℤ → ℕ) → ((v : ℤ) → f v ≤ h v) → (lines : List Line) → valued f lines ≤ valued h lines
valued-le f h le [] = omega arith
valued-le f h le (l ∷ ls) = omega (arith, valued-cons f l ls, valued-cons h l ls, times-le l.weight (f l.value) (h l.value) (le l.value), valued-le f h le ls)
