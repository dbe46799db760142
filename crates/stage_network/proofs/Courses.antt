-- A sweep along its course, stage by stage: what comes there, what stays and what is closed.
use Rattle.std.proofs.Common.{◌≡◌, ℕ, zero, suc, ◌+◌, ◌*◌, ◌<◌, ◌≤◌, List, [], ◌∷◌, Bool, true, false, refl, sym, ◌∙◌, ap, subst, arith, take, length}
use Rattle.std.specs.Prelude.{ℤ, map}
use Rattle.std.specs.List.{filter, sum_by, flat_map, IsDistinct}
use Rattle.std.specs.Set.{distinct_count}
use Rattle.std.proofs.lemmas.List.{take_all}
use Rattle.weights.specs.declared.tails.Tail.{Tail}
use Rattle.weights.specs.declared.tails.Tail.TheVariants.{Less}
use Rattle.weights.specs.declared.tails.Tails.{Tails}
use Rattle.weights.specs.declared.TheConstants.{MAX}
use Rattle.weights.proofs.Filters.{all_filter}
use Rattle.node_pool.specs.Nodes.{Node, node, key_eq, keys, weighted}
use Rattle.networks.specs.declared.tail_sums.TailSums.{TailSums}
use Rattle.networks.specs.declared.tail_sums.Kept.{Kept}
use Rattle.networks.specs.declared.tail_sums.Kept.TheVariants.{Open, All}
use Rattle.stage_network.specs.declared.sweep.Sweep.{Sweep}
use Rattle.networks.specs.Asked.{asked, asks}
use Rattle.networks.specs.Network.{Network, IsReached}
use Rattle.networks.specs.Completions.{total_weight, extreme_weight}
use Rattle.networks.specs.Laws.{IsLawful}
use Rattle.networks.specs.Opened.{is_open, is_open_for_some, reached_by_some, opened_by_some}
use Rattle.stage_network.specs.NodeSteps.{all_successors, AllReached, AllHeavy, AreNodes}
use Rattle.networks.specs.EachTail.{sum_for}
use Rattle.stage_network.specs.SweepSteps.{stays, staying, closed_at, counted, counted_keys, Course, first_course, arriving, on_the_way, HasSwept, IsCourse, IsSweeping, IsSwept, AreHere}
use Rattle.stage_network.proofs.Asked.{asked-extreme_at, asked-lawful}
use Rattle.networks.proofs.Steps.{sum_by-same, filter_none, total_weight-step, extreme_weight-step}
use Rattle.stage_network.proofs.Bounds.{weights-le-weighted}
use Rattle.stage_network.proofs.NodeSums.{open-for}
use Rattle.stage_network.proofs.OpenKeys.{counted-once, keys-opened_to}
use Rattle.stage_network.proofs.Conserved.{all_weaker, not_undecided, split-extreme, sum_by-filter}
use Rattle.stage_network.proofs.Carried.{carried, successors-heavy, shut}
use Rattle.stage_network.proofs.ToCome.{to_come, to_come-last, to_come-first, to_come-step, all-reached}
use Rattle.stage_network.proofs.Sweeps.{weighted-filter, told-filtered, kept-holds, parted, closed-weighted, staying-none, stay-members, all-total, one}

next-stage : (g m : ℕ) → (g + m) + 1 ≡ g + suc m
next-stage g m = omega arith

-- what nodes lead to is told as they are
led : (n : Network) (g : ℕ) (xs ys : List Node) → ((f : List ℤ → ℕ) → weighted f xs ≡ weighted f ys) → (f : List ℤ → ℕ) → weighted f (all_successors n g xs) ≡ weighted f (all_successors n g ys)
led n g xs ys told f =
    let here : List ℤ → ℕ = λ k. sum_by (λ c. n.weight g k c * f (n.next g k c)) (n.choices g k) in
    carried n g here f (λ k. refl) xs ∙ told here ∙ sym (carried n g here f (λ k. refl) ys)

-- the nodes that stay, each once, are counted as all keys that came are
counted-is : (n : Network) (keep : Kept) (t : Tail) (g : ℕ) (kept all : List Node) → AllHeavy kept → AllHeavy all → IsDistinct key_eq (keys kept) → ((f : List ℤ → ℕ) → weighted f kept ≡ weighted f (staying n keep g all)) → counted n keep t g kept ≡ counted_keys n keep t g all
counted-is n All t g kept all heavy solid distinct told = refl
counted-is n (Open tails) t g kept all heavy solid distinct told =
    counted-once (is_open_for_some (asked tails n) g) (is_open (asked tails n) t g) kept (keys all) distinct (open-for (asked tails n) t g) (stay-members n tails g kept all heavy solid told)

-- the start
pub swept-first : (n : Network) (course : Course) (sums : TailSums) (kept : List Node) → kept ≡ staying n course.keep course.stage course.nodes → AllHeavy course.nodes → AllHeavy kept → IsDistinct key_eq (keys kept) → ((t : Tail) → (sum_for sums t).sum ≡ weighted (closed_at n course.keep t course.stage) course.nodes) → ((t : Tail) → (sum_for sums t).opened ≡ counted n course.keep t course.stage kept) → HasSwept n course 0 sums kept
swept-first n course sums kept is solid heavy distinct sum opened =
    let e : course.stage ≡ course.stage + 0 = omega arith in
    let told : (f : List ℤ → ℕ) → weighted f kept ≡ weighted f (staying n course.keep course.stage course.nodes) = λ f. ap (weighted f) is in
    record {
      told = λ f. told f ∙ ap (λ g. weighted f (staying n course.keep g course.nodes)) e;
      sum = sum;
      opened = λ t. opened t ∙ counted-is n course.keep t course.stage kept course.nodes heavy solid distinct told;
      distinct = distinct;
      heavy = heavy;
    }

module _ (n : Network) (lawful : IsLawful n) (limit : ℕ) (course : Course) (starts : IsCourse n limit course) where
  -- the keys that come to a stage are reached, with weights of at least 1
  pub arriving-reached : (m : ℕ) → course.stage + m ≤ n.count → AllReached n (course.stage + m) (arriving n course m)
  arriving-reached zero h =
      let e : course.stage ≡ course.stage + 0 = omega arith in
      subst (λ g. AllReached n g course.nodes) e starts.reached
  arriving-reached (suc m) h =
      let g = course.stage + m in
      let before : g < n.count = omega (arith, h, next-stage course.stage m) in
      let here : AllReached n g (arriving n course m) = arriving-reached m (omega (arith, before)) in
      subst (λ j. AllReached n j (arriving n course (suc m))) (next-stage course.stage m)
      (all-reached n g before (staying n course.keep g (arriving n course m)) (all_filter (λ (a : Node). IsReached n g a.key) (λ a. stays n course.keep g a.key) (arriving n course m) here))

  pub arriving-heavy : (m : ℕ) → course.stage + m ≤ n.count → AllHeavy (arriving n course m)
  arriving-heavy zero h = starts.heavy
  arriving-heavy (suc m) h =
      let g = course.stage + m in
      let before : g < n.count = omega (arith, h, next-stage course.stage m) in
      let some : (a : Node) → Bool = λ a. stays n course.keep g a.key in
      successors-heavy n lawful g (staying n course.keep g (arriving n course m))
      (all_filter (λ (a : Node). IsReached n g a.key) some (arriving n course m) (arriving-reached m (omega (arith, before))))
      (all_filter (λ (a : Node). 1 ≤ a.weight) some (arriving n course m) (arriving-heavy m (omega (arith, before))))

  -- a number that nodes hand on to those they lead to is that of the starts: what was closed, and
  -- what is left
  conserved : (v : ℕ → List ℤ → ℕ) (closed : ℕ → List Node → ℕ) → ((g : ℕ) (k : List ℤ) → g < n.count → v g k ≡ sum_by (λ c. n.weight g k c * v (g + 1) (n.next g k c)) (n.choices g k)) → ((g : ℕ) (all : List Node) → g ≤ n.count → AllReached n g all → closed g all + weighted (v g) (staying n course.keep g all) ≡ weighted (v g) all) → (m : ℕ) → course.stage + m ≤ n.count → on_the_way closed n course m + weighted (v (course.stage + m)) (staying n course.keep (course.stage + m) (arriving n course m)) ≡ weighted (v course.stage) course.nodes
  conserved v closed step split zero h =
      let e : course.stage + 0 ≡ course.stage = omega arith in
      ap (λ g. closed course.stage course.nodes + weighted (v g) (staying n course.keep g course.nodes)) e ∙ split course.stage course.nodes starts.within starts.reached
  conserved v closed step split (suc m) h =
      let g = course.stage + m in
      let before : g < n.count = omega (arith, h, next-stage course.stage m) in
      let all = arriving n course (suc m) in
      let here = split (course.stage + suc m) all h (arriving-reached (suc m) h) in
      let on : weighted (v (course.stage + suc m)) all ≡ weighted (v (g + 1)) all = ap (λ j. weighted (v j) all) (sym (next-stage course.stage m)) in
      omega (arith, here, on, carried n g (v g) (v (g + 1)) (λ k. step g k before) (staying n course.keep g (arriving n course m)), conserved v closed step split m (omega (arith, before)))

  bounded : (t : Tail) (m : ℕ) → course.stage + m ≤ n.count → on_the_way (λ g all. weighted (closed_at n course.keep t g) all) n course m + weighted (total_weight n (course.stage + m)) (staying n course.keep (course.stage + m) (arriving n course m)) ≤ weighted (total_weight n course.stage) course.nodes
  bounded t zero h =
      let e : course.stage + 0 ≡ course.stage = omega arith in
      rw e (omega (arith, split-le course.stage course.nodes))
    where
      split-le : (g : ℕ) (all : List Node) → weighted (closed_at n course.keep t g) all + weighted (total_weight n g) (staying n course.keep g all) ≤ weighted (total_weight n g) all
      split-le g all = omega (arith, weighted-filter (total_weight n g) (stays n course.keep g) all, parted n course.keep t g all)
  bounded t (suc m) h =
      let g = course.stage + m in
      let before : g < n.count = omega (arith, h, next-stage course.stage m) in
      let all = arriving n course (suc m) in
      let j = course.stage + suc m in
      omega (
        arith,
        weighted-filter (total_weight n j) (stays n course.keep j) all,
        parted n course.keep t j all,
        ap (λ j. weighted (total_weight n j) all) (sym (next-stage course.stage m)),
        carried n g (total_weight n g) (total_weight n (g + 1)) (λ k. total_weight-step n g k before) (staying n course.keep g (arriving n course m)),
        bounded t m (omega (arith, before)),
      )

  -- where a sweep stands
  module _ (m : ℕ) (sums : TailSums) (nodes : List Node) (h : course.stage + m ≤ n.count) (swept : HasSwept n course m sums nodes) where
    pub swept-reached : AllReached n (course.stage + m) nodes
    swept-reached = kept-holds (IsReached n (course.stage + m)) (stays n course.keep (course.stage + m)) nodes (arriving n course m) swept.heavy (arriving-heavy m h) (arriving-reached m h) swept.told

    pub swept-light : (t : Tail) → (sum_for sums t).sum + weighted (total_weight n (course.stage + m)) nodes ≤ weighted (total_weight n course.stage) course.nodes
    swept-light t = omega (arith, swept.sum t, swept.told (total_weight n (course.stage + m)), bounded t m h)

  -- one stage on
  module _ (m g : ℕ) (keep : Kept) (at : g ≡ course.stage + m) (before : g < n.count) (keeps : keep ≡ course.keep) (sums : TailSums) (nodes all : List Node) (swept : HasSwept n course m sums nodes) (told : (f : List ℤ → ℕ) → weighted f all ≡ weighted f (all_successors n g (take (length nodes) nodes))) where
    on : g + 1 ≡ course.stage + suc m
    on = omega (arith, at)

    within : course.stage + suc m ≤ n.count
    within = omega (arith, at, before)

    led-to : (f : List ℤ → ℕ) → weighted f all ≡ weighted f (all_successors n g nodes)
    led-to f = told f ∙ ap (λ ns. weighted f (all_successors n g ns)) (take_all (length nodes) nodes (omega arith))

    came : (f : List ℤ → ℕ) → weighted f all ≡ weighted f (arriving n course (suc m))
    came f =
        let here = course.stage + m in
        led-to f ∙ ap (λ j. weighted f (all_successors n j nodes)) at
        ∙ led n here nodes (staying n course.keep here (arriving n course m)) swept.told f

    pub next-light : (t : Tail) → (sum_for sums t).sum + weighted (total_weight n (g + 1)) all ≤ weighted (total_weight n course.stage) course.nodes
    next-light t = omega (arith, all-total n g before nodes all led-to, ap (λ j. weighted (total_weight n j) nodes) at, swept-light m sums nodes (omega (arith, at, before)) swept t)

    pub swept-next : (more : TailSums) (kept : List Node) → ((f : List ℤ → ℕ) → weighted f kept ≡ weighted f (staying n keep (g + 1) all)) → ((t : Tail) → (sum_for more t).sum ≡ (sum_for sums t).sum + weighted (closed_at n keep t (g + 1)) all) → ((t : Tail) → (sum_for more t).opened ≡ (sum_for sums t).opened + counted n keep t (g + 1) kept) → IsDistinct key_eq (keys kept) → AllHeavy kept → HasSwept n course (suc m) more kept
    swept-next more kept stay sum opened distinct heavy =
        let next = course.stage + suc m in
        let left : (f : List ℤ → ℕ) → weighted f kept ≡ weighted f (staying n course.keep next (arriving n course (suc m))) = λ f.
        stay f ∙ ap (λ k. weighted f (staying n k (g + 1) all)) keeps ∙ ap (λ j. weighted f (staying n course.keep j all)) on
        ∙ told-filtered (stays n course.keep next) all (arriving n course (suc m)) came f in
        let closed : (t : Tail) → weighted (closed_at n keep t (g + 1)) all ≡ weighted (closed_at n course.keep t next) (arriving n course (suc m)) = λ t.
        ap (λ k. weighted (closed_at n k t (g + 1)) all) keeps ∙ ap (λ j. weighted (closed_at n course.keep t j) all) on ∙ came (closed_at n course.keep t next) in
        let count : (t : Tail) → counted n keep t (g + 1) kept ≡ counted n course.keep t next kept = λ t.
        ap (λ k. counted n k t (g + 1) kept) keeps ∙ ap (λ j. counted n course.keep t j kept) on in
        record {
          told = left;
          sum = λ t. omega (arith, sum t, swept.sum t, closed t);
          opened = λ t. omega (arith, opened t, swept.opened t, count t, counted-is n course.keep t next kept (arriving n course (suc m)) heavy (arriving-heavy (suc m) within) distinct left);
          distinct = distinct;
          heavy = heavy;
        }

-- where a sweep stands, by the number of its stage
module _ (n : Network) (lawful : IsLawful n) (limit : ℕ) (course : Course) (starts : IsCourse n limit course) (m g : ℕ) (at : g ≡ course.stage + m) (within : g ≤ n.count) (sums : TailSums) (nodes : List Node) (swept : HasSwept n course m sums nodes) where
  pub standing-reached : AllReached n g nodes
  standing-reached = subst (λ j. AllReached n j nodes) (sym at) (swept-reached n lawful limit course starts m sums nodes (omega (arith, at, within)) swept)

  pub standing-nodes : g < n.count → AreNodes n g nodes
  standing-nodes before = record { lawful = lawful; before = before; reached = standing-reached; heavy = swept.heavy }

  pub standing-light : weighted (λ k. 1) nodes ≤ MAX
  standing-light = omega (
    arith,
    weights-le-weighted n lawful g within nodes standing-reached,
    ap (λ j. weighted (total_weight n j) nodes) at,
    swept-light n lawful limit course starts m sums nodes (omega (arith, at, within)) swept Less,
    starts.light.fits,
  )

-- a sweep stands at nodes of its stage
module _ {C : Type 0} (n : Network) (width step_width limit : ℕ) (course : Course) (sweep : Sweep C) (s : IsSweeping n width step_width limit course sweep) where
  pub sweeping-nodes : AllReached n sweep.stage sweep.nodes.nodes
  sweeping-nodes = standing-reached n s.lawful limit course s.starts s.gone sweep.stage s.stands s.within sweep.sums sweep.nodes.nodes s.swept

  pub sweeping-here : sweep.stage < n.count → AreHere n width sweep.stage sweep.nodes
  sweeping-here before = record {
    nodes = standing-nodes n s.lawful limit course s.starts s.gone sweep.stage s.stands s.within sweep.sums sweep.nodes.nodes s.swept before;
    roomed = s.stores.roomed;
    shape = s.stores.nodes;
  }

  pub sweeping-light : weighted (λ k. 1) sweep.nodes.nodes ≤ MAX
  sweeping-light = standing-light n s.lawful limit course s.starts s.gone sweep.stage s.stands s.within sweep.sums sweep.nodes.nodes s.swept

-- at the last stage nothing is open
none-stays : (n : Network) → IsLawful n → (tails : Tails) (all : List Node) → AllReached n n.count all → staying n (Open tails) n.count all ≡ []
none-stays n l tails all r =
    let some : List ℤ → Bool = is_open_for_some (asked tails n) n.count in
    filter_none (λ (a : Node). some a.key) all
    (all_weaker (λ (a : Node). IsReached n n.count a.key) (λ (a : Node). some a.key ≡ false) (λ a reached. shut (asked tails n) (asked-lawful tails n l) a.key reached) all r)

none-counted : (n : Network) → IsLawful n → (t : Tail) (all : List Node) → AllReached n n.count all → filter (is_open n t n.count) (keys all) ≡ []
none-counted n l t [] r = refl
none-counted n l t (a ∷ all) r = rw (not_undecided (n.verdict t n.count a.key) (l.decided t a.key r.0)) (none-counted n l t all r.1)

-- from the first key
pub keys-first : (n : Network) (tails : Tails) (m : ℕ) → keys (arriving n (first_course n (Open tails)) m) ≡ reached_by_some (asked tails n) m
keys-first n tails zero = refl
keys-first n tails (suc m) =
    let e : 0 + m ≡ m = omega arith in
    let some : ℕ → List ℤ → Bool = is_open_for_some (asked tails n) in
    rw e (keys-opened_to n some m (arriving n (first_course n (Open tails)) m))
    ∙ ap (λ ks. flat_map (λ k. map (n.next m k) (n.choices m k)) (filter (some m) ks)) (keys-first n tails m)

opened-first : (n : Network) (tails : Tails) (t : Tail) (m : ℕ) → on_the_way (counted_keys n (Open tails) t) n (first_course n (Open tails)) m ≡ opened_by_some (asked tails n) t (suc m)
opened-first n tails t zero = omega arith
opened-first n tails t (suc m) =
    let e : 0 + suc m ≡ suc m = omega arith in
    let free : List ℤ → Bool = is_open (asked tails n) t (suc m) in
    let all = arriving n (first_course n (Open tails)) (suc m) in
    let here : counted_keys n (Open tails) t (0 + suc m) all ≡ distinct_count key_eq (filter free (reached_by_some (asked tails n) (suc m))) =
    ap (λ g. counted_keys n (Open tails) t g all) e ∙ ap (λ ks. distinct_count key_eq (filter free ks)) (keys-first n tails (suc m)) in
    omega (arith, here, opened-first n tails t m)

open-split : (n : Network) → IsLawful n → (tails : Tails) (t : Tail) (g : ℕ) (all : List Node) → g ≤ n.count → AllReached n g all → weighted (closed_at n (Open tails) t g) all + weighted (extreme_weight (asked tails n) t g) (staying n (Open tails) g all) ≡ weighted (extreme_weight (asked tails n) t g) all
open-split n l tails t g all h r =
    let v : List ℤ → ℕ = extreme_weight (asked tails n) t g in
    omega (arith, sym (closed-weighted n tails t g all), sum_by-filter (λ (a : Node). a.weight * v a.key) (λ a. is_open_for_some (asked tails n) g a.key) all, split-extreme (asked tails n) (asked-lawful tails n l) t g h all r)

no-sum : (n : Network) (course : Course) (m : ℕ) → on_the_way (λ g all. 0) n course m ≡ 0
no-sum n course zero = refl
no-sum n course (suc m) = omega (arith, no-sum n course m)

-- at the last stage what was closed is all that is extreme
module _ (n : Network) (l : IsLawful n) (limit : ℕ) (tails : Tails) (stage : ℕ) (from : List Node) (starts : IsCourse n limit (record { keep = Open tails; stage = stage; nodes = from })) (m : ℕ) (last : stage + m ≡ n.count) where
  abbrev pub starting : Course
  starting = record { keep = Open tails; stage = stage; nodes = from }

  to-last : stage + m ≤ n.count
  to-last = omega (arith, last)

  last-reached : AllReached n n.count (arriving n starting m)
  last-reached = subst (λ g. AllReached n g (arriving n starting m)) last (arriving-reached n l limit starting starts m to-last)

  none-left : staying n (Open tails) (stage + m) (arriving n starting m) ≡ []
  none-left = ap (λ g. staying n (Open tails) g (arriving n starting m)) last ∙ none-stays n l tails (arriving n starting m) last-reached

  pub swept-sum : (sums : TailSums) (nodes : List Node) → HasSwept n starting m sums nodes → (t : Tail) → (sum_for sums t).sum ≡ weighted (extreme_weight (asked tails n) t stage) from
  swept-sum sums nodes swept t =
      let v : ℕ → List ℤ → ℕ = extreme_weight (asked tails n) t in
      let kept = conserved n l limit starting starts v (λ g all. weighted (closed_at n (Open tails) t g) all) (λ g k before. extreme_weight-step (asked tails n) t g k before) (λ g all. open-split n l tails t g all) m to-last in
      omega (arith, swept.sum t, kept, ap (weighted (v (stage + m))) none-left)

  -- of the one tail that is asked
  pub only-sum : (tail : Tail) → asks tails tail ≡ true → (sums : TailSums) (nodes : List Node) → HasSwept n starting m sums nodes → (sum_for sums tail).sum ≡ weighted (extreme_weight n tail stage) from
  only-sum tail asked sums nodes swept =
      swept-sum sums nodes swept tail
      ∙ sum_by-same _ _ (λ (a : Node). ap (λ m. a.weight * m) (asked-extreme_at tails n tail asked stage a.key)) from

-- what was closed on the way from the first key, and what is left, is all that is extreme
pub swept-kept : (n : Network) → IsLawful n → (limit : ℕ) (tails : Tails) → IsCourse n limit (first_course n (Open tails)) → (m : ℕ) → 0 + m ≤ n.count → (sums : TailSums) (nodes : List Node) → HasSwept n (first_course n (Open tails)) m sums nodes → (t : Tail) → (sum_for sums t).sum + weighted (extreme_weight (asked tails n) t (0 + m)) nodes ≡ extreme_weight (asked tails n) t 0 n.first
swept-kept n l limit tails starts m h sums nodes swept t =
    let v : ℕ → List ℤ → ℕ = extreme_weight (asked tails n) t in
    let kept = conserved n l limit (first_course n (Open tails)) starts v (λ g all. weighted (closed_at n (Open tails) t g) all) (λ g k before. extreme_weight-step (asked tails n) t g k before) (λ g all. open-split n l tails t g all) m h in
    omega (arith, swept.sum t, swept.told (v (0 + m)), kept, one (v 0) n.first)

pub swept-last : (n : Network) → IsLawful n → (limit : ℕ) (keep : Kept) → IsCourse n limit (first_course n keep) → (sums : TailSums) (nodes : List Node) → HasSwept n (first_course n keep) n.count sums nodes → IsSwept n keep sums nodes
swept-last n l limit (Open tails) starts sums nodes swept =
    let course : Course = first_course n (Open tails) in
    let e : 0 + n.count ≡ n.count = omega arith in
    let all = arriving n course n.count in
    let reached : AllReached n n.count all = subst (λ g. AllReached n g all) e (arriving-reached n l limit course starts n.count (omega arith)) in
    λ t. (
      swept-sum n l limit tails 0 (node n.first 1 ∷ []) starts n.count e sums nodes swept t ∙ one (extreme_weight (asked tails n) t 0) n.first,
      (let free : List ℤ → Bool = is_open (asked tails n) t n.count in
          let zero' : distinct_count key_eq (filter free (reached_by_some (asked tails n) n.count)) ≡ 0 = ap (λ ks. distinct_count key_eq (filter free ks)) (sym (keys-first n tails n.count)) ∙ ap (distinct_count key_eq) (none-counted (asked tails n) (asked-lawful tails n l) t all reached) in
          omega (arith, swept.opened t, opened-first n tails t n.count, zero')),
    )
swept-last n l limit All starts sums nodes swept = λ p.
    let course : Course = first_course n All in
    let e : 0 + n.count ≡ n.count = omega arith in
    let within : 0 + n.count ≤ n.count = omega arith in
    let v : ℕ → List ℤ → ℕ = to_come n p in
    let kept = conserved n l limit course starts v (λ g all. 0) (λ g k before. to_come-step n p g before k) (λ g all h r. omega (arith, ap (weighted (v g)) (staying-none n g all))) n.count within in
    omega (arith, sym (to_come-last n p nodes) ∙ ap (λ g. weighted (v g) nodes) (sym e), swept.told (v (0 + n.count)), kept, no-sum n course n.count, one (v 0) n.first, to_come-first n p)
