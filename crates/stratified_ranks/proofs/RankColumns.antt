-- The columns of strata: they owe each other what columns do, their ranks are the midranks within each stratum, and their sizes those of the groups.
use Rattle.std.proofs.Common.{◌≡◌, ℕ, zero, suc, ◌+◌, ◌-◌, ◌*◌, ◌<◌, ◌≤◌, List, [], ◌∷◌, ◌++◌, append_assoc, map, length, nat_eq, cond, refl, sym, ◌∙◌, ap, subst, arith, ne_eqb, true, false}
use Rattle.std.specs.Prelude.{ℤ, pos, replicate, slice_index}
use Rattle.std.specs.List.{AllByRecursion, concat, sum, sum_by}
use Rattle.std.proofs.lemmas.List.{length-map}
use Rattle.std.proofs.lemmas.List.Sums.{sum_by-cons}
use Rattle.midranks.specs.MidrankSteps.{ranks_after}
use Rattle.midranks.specs.Midranks.{doubled_midrank, doubled_midranks, midranks_among}
use Rattle.midranks.specs.Ties.{tie_groups, values_in}
use Rattle.midranks.specs.declared.ties.Tie.{Tie}
use Rattle.midranks.proofs.Places.{ranks-are, values_in-groups}
use Rattle.midranks.proofs.TieLemmas.{groups-counts}
use Rattle.sample_reader.specs.PooledSample.{values_of}
use Rattle.sample_reader.specs.declared.subjects.Subject.{Subject}
use Rattle.later_scores.specs.LaterSums.{subjects}
use Rattle.pooled_columns.proofs.PooledValues.{Rises}
use Rattle.pooled_columns.proofs.TieColumns.{grouped}
use Rattle.stratified_ranks.specs.RankRooms.{column_ranks, columns_after, rank_columns, left, second_of}
use Rattle.stratified_ranks.specs.RankSteps.{AreColumns, first_rank}
use Rattle.stratified_ranks.specs.StratifiedRanks.{ranks_in, second_size, two_sizes}
use Rattle.stratified_ranks.specs.declared.rank_columns.Column.{Column}
use Rattle.stratified_ranks.proofs.RankLabellings.{later_sizes}
use Rattle.stratified_ranks.proofs.RankSums.{column_total}
use Rattle.stratified_ranks.proofs.TwoParts.{halves}

-- what is known of the subjects of a stratum: they ascend, there is one, and each is of one of two groups
pub record IsStratum (s : List Subject) : Type 0 where
  pub rises : Rises (values_of s)
  pub some : 1 ≤ length s
  pub few : length s ≤ 10000
  pub level : slice_index (two_sizes s) 0 + second_size s ≡ length s

-- ---- ties as columns

size-some : (t : Tie) (ties : List Tie) → values_in (t ∷ ties) ≡ t.count + values_in ties
size-some t ties = sum_by-cons (λ t. t.count) t ties

left-after : (second before : ℕ) (t : Tie) (ties : List Tie) (rest : List Column) → left (columns_after second before (t ∷ ties) ++ rest) ≡ values_in (t ∷ ties)
left-after second before t ties rest = sym (size-some t ties)

sound-after : (second before : ℕ) (ties : List Tie) (rest : List Column) → values_in ties ≤ 10000 → AllByRecursion (λ t. 0 < t.count) ties → AreColumns rest → second_of rest ≤ left rest → AreColumns (columns_after second before ties ++ rest)
sound-after second before [] rest few some s h = s
sound-after second before (t ∷ ties) rest few some s h = (
  record {
    small = omega (arith, few, size-some t ties);
    on = on ties (before + t.count);
    rises = rises ties;
    ahead = last ties (before + t.count) some.1;
  },
  sound-after second (before + t.count) ties rest (omega (arith, few, size-some t ties)) some.1 s h,
)
  where
    on : (ties : List Tie) (before : ℕ) → 0 < values_in ties → left (columns_after second before ties ++ rest) ≡ values_in ties
    on [] before later = absurd (omega (arith, later))
    on (u ∷ ties) before later = left-after second before u ties rest

    rises : (ties : List Tie) → 0 < values_in ties → 2 * before + t.count + 1 ≤ first_rank (columns_after second (before + t.count) ties ++ rest)
    rises [] later = absurd (omega (arith, later))
    rises (u ∷ ties) later = omega arith

    last : (ties : List Tie) (before : ℕ) → AllByRecursion (λ t. 0 < t.count) ties → values_in ties ≡ 0 → second_of (columns_after second before ties ++ rest) ≤ left (columns_after second before ties ++ rest)
    last [] before some none = h
    last (u ∷ ties) before some none = absurd (omega (arith, some.0, none, size-some u ties))

sizes-after : (second before : ℕ) (t : Tie) (ties : List Tie) (rest : List Column) → AllByRecursion (λ t. 0 < t.count) ties → later_sizes (columns_after second before (t ∷ ties) ++ rest) ≡ halves (left rest) (second_of rest) ∷ later_sizes rest
sizes-after second before t [] rest some = refl
sizes-after second before t (u ∷ ties) rest some =
    let more : nat_eq (values_in (u ∷ ties)) 0 ≡ cond false true false = ne_eqb (values_in (u ∷ ties)) 0 (λ e. omega (arith, e, some.0, size-some u ties)) in
    rw more (sizes-after second (before + t.count) u ties rest some.1)

-- ---- ranks

copied : (n v : ℕ) (ys : List ℕ) → map pos (replicate n v ++ ys) ≡ replicate n (pos v) ++ map pos ys
copied zero v ys = refl
copied (suc n) v ys = ap (λ zs. pos v ∷ zs) (copied n v ys)

ranks-after : (second before : ℕ) (ties : List Tie) (rest : List Column) → map pos (column_ranks (columns_after second before ties ++ rest)) ≡ subjects (map pos (ranks_after before ties)) (map (λ t. t.count) ties) ++ map pos (column_ranks rest)
ranks-after second before [] rest = refl
ranks-after second before (t ∷ ties) rest =
    copied t.count (2 * before + t.count + 1) (column_ranks (columns_after second (before + t.count) ties ++ rest))
    ∙ ap (λ zs. replicate t.count (pos (2 * before + t.count + 1)) ++ zs) (ranks-after second (before + t.count) ties rest)
    ∙ sym (append_assoc (replicate t.count (pos (2 * before + t.count + 1))) (subjects (map pos (ranks_after (before + t.count) ties)) (map (λ t. t.count) ties)) (map pos (column_ranks rest)))

twice : {X Y Z : Type 0} (f : X → Y) (g : Y → Z) (xs : List X) → map g (map f xs) ≡ map (λ x. g (f x)) xs
twice f g [] = refl
twice f g (x ∷ xs) = ap (λ zs. g (f x) ∷ zs) (twice f g xs)

stratum-ranks : (values : List ℤ) → Rises values → subjects (map pos (ranks_after 0 (tie_groups values))) (map (λ t. t.count) (tie_groups values)) ≡ map pos (doubled_midranks values)
unfolding midranks_among
stratum-ranks values up =
    let ties : List Tie = tie_groups values in
    ap (λ rs. subjects (map pos rs) (map (λ t. t.count) ties)) (ranks-are values)
    ∙ ap (λ rs. subjects rs (map (λ t. t.count) ties)) (twice (λ (t : Tie). doubled_midrank values t.value) pos ties)
    ∙ grouped (λ v. pos (doubled_midrank values v)) values up
    ∙ sym (twice (doubled_midrank values) pos values)

-- the sum of a stratum's ranks
square-more : (b n v s : ℕ) → n * (2 * b + n + 1) + b * (b + 1) ≡ (b + n) * (b + n + 1)
square-more b n v s = grind arith

sum-after : (second before : ℕ) (ties : List Tie) (rest : List Column) → sum (column_ranks (columns_after second before ties ++ rest)) + before * (before + 1) ≡ (before + values_in ties) * (before + values_in ties + 1) + sum (column_ranks rest)
sum-after second before [] rest = let e : before + values_in [] ≡ before = omega arith in rw e (omega arith)
sum-after second before (t ∷ ties) rest =
    let c : Column = record { size = t.count; later = values_in ties; rank = 2 * before + t.count + 1; second = second } in
    let to : before + t.count + values_in ties ≡ before + values_in (t ∷ ties) = omega (arith, size-some t ties) in
    let again = rw to at (sum-after second (before + t.count) ties rest) in
    omega (arith, column_total c (columns_after second (before + t.count) ties ++ rest), again, square-more before t.count 0 0)

-- ---- strata

pub values-long : (s : List Subject) → values_in (tie_groups (values_of s)) ≡ length s
values-long s = values_in-groups (values_of s) ∙ length-map s (λ (x : Subject). x.value)

-- a stratum has a tie group
pub record HasTie (s : List Subject) : Type 0 where
  pub first : Tie
  pub ties : List Tie
  pub are : tie_groups (values_of s) ≡ first ∷ ties
  pub some : AllByRecursion (λ t. 0 < t.count) ties

some-tie : (s : List Subject) → 1 ≤ length s → HasTie s
some-tie s h = by (tie_groups (values_of s)) refl
  where
    by : (ties : List Tie) → tie_groups (values_of s) ≡ ties → HasTie s
    by [] e = absurd (omega (arith, h, values-long s, ap values_in e))
    by (t ∷ ties) e = record { first = t; ties = ties; are = e; some = (subst (AllByRecursion (λ t. 0 < t.count)) e (groups-counts (values_of s))).1 }

pub first-left : (s : List Subject) (strata : List (List Subject)) → 1 ≤ length s → left (rank_columns (s ∷ strata)) ≡ length s
first-left s strata h =
    let some : HasTie s = some-tie s h in
    ap (λ ties. left (columns_after (second_size s) 0 ties ++ rank_columns strata)) some.are
    ∙ left-after (second_size s) 0 some.first some.ties (rank_columns strata)
    ∙ ap values_in (sym some.are) ∙ values-long s

first-second : (s : List Subject) (strata : List (List Subject)) → 1 ≤ length s → second_of (rank_columns (s ∷ strata)) ≡ second_size s
first-second s strata h = ap (λ ties. second_of (columns_after (second_size s) 0 ties ++ rank_columns strata)) (some-tie s h).are

pub second-within : (strata : List (List Subject)) → AllByRecursion IsStratum strata → second_of (rank_columns strata) ≤ left (rank_columns strata)
second-within [] all = omega arith
second-within (s ∷ strata) all = omega (arith, first-left s strata all.0.some, first-second s strata all.0.some, all.0.level)

pub columns-sound : (strata : List (List Subject)) → AllByRecursion IsStratum strata → AreColumns (rank_columns strata)
columns-sound [] all = tt
columns-sound (s ∷ strata) all = sound-after (second_size s) 0 (tie_groups (values_of s)) (rank_columns strata) (omega (arith, values-long s, all.0.few)) (groups-counts (values_of s)) (columns-sound strata all.1) (second-within strata all.1)

pub columns-ranks : (strata : List (List Subject)) → AllByRecursion IsStratum strata → map pos (column_ranks (rank_columns strata)) ≡ map pos (concat (map ranks_in strata))
columns-ranks [] all = refl
columns-ranks (s ∷ strata) all =
    ranks-after (second_size s) 0 (tie_groups (values_of s)) (rank_columns strata)
    ∙ ap (λ zs. zs ++ map pos (column_ranks (rank_columns strata))) (stratum-ranks (values_of s) all.0.rises)
    ∙ ap (λ zs. map pos (ranks_in s) ++ zs) (columns-ranks strata all.1)
    ∙ sym (appended (ranks_in s) (concat (map ranks_in strata)))
  where
    appended : (xs ys : List ℕ) → map pos (xs ++ ys) ≡ map pos xs ++ map pos ys
    appended [] ys = refl
    appended (x ∷ xs) ys = ap (λ zs. pos x ∷ zs) (appended xs ys)

pub columns-sizes : (strata : List (List Subject)) → AllByRecursion IsStratum strata → halves (left (rank_columns strata)) (second_of (rank_columns strata)) ∷ later_sizes (rank_columns strata) ≡ map two_sizes strata ++ (0 ∷ 0 ∷ []) ∷ []
columns-sizes [] all = refl
columns-sizes (s ∷ strata) all =
    let some : HasTie s = some-tie s all.0.some in
    let own : halves (left (rank_columns (s ∷ strata))) (second_size s) ≡ two_sizes s = own-sizes (two_sizes s) refl in
    let later : later_sizes (rank_columns (s ∷ strata)) ≡ halves (left (rank_columns strata)) (second_of (rank_columns strata)) ∷ later_sizes (rank_columns strata) =
    ap (λ ties. later_sizes (columns_after (second_size s) 0 ties ++ rank_columns strata)) some.are ∙ sizes-after (second_size s) 0 some.first some.ties (rank_columns strata) some.some in
    ap (λ x. x ∷ later_sizes (rank_columns (s ∷ strata))) (ap (halves (left (rank_columns (s ∷ strata)))) (first-second s strata all.0.some) ∙ own) ∙ ap (λ xs. two_sizes s ∷ xs) (later ∙ columns-sizes strata all.1)
  where
    own-sizes : (sizes : List ℕ) → sizes ≡ two_sizes s → halves (left (rank_columns (s ∷ strata))) (second_size s) ≡ two_sizes s
    own-sizes sizes e =
        let first : left (rank_columns (s ∷ strata)) - second_size s ≡ slice_index (two_sizes s) 0 = omega (arith, first-left s strata all.0.some, all.0.level) in
        ap (λ n. n ∷ second_size s ∷ []) first

pub ranks-total : (strata : List (List Subject)) → sum (column_ranks (rank_columns strata)) ≡ sum_by (λ s. length s * (length s + 1)) strata
ranks-total [] = refl
ranks-total (s ∷ strata) =
    let all = sum-after (second_size s) 0 (tie_groups (values_of s)) (rank_columns strata) in
    let long : 0 + values_in (tie_groups (values_of s)) ≡ length s = omega (arith, values-long s) in
    let told = rw long at all in
    omega (arith, told, ranks-total strata, sum_by-cons (λ (s : List Subject). length s * (length s + 1)) s strata)
