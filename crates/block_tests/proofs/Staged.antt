-- What the networks of both kinds need of their stages, the blocks.
use Rattle.std.proofs.Common.{◌≡◌, ◌≢◌, ℕ, zero, suc, ◌+◌, ◌*◌, ◌<◌, ◌≤◌, List, [], ◌∷◌, ◌++◌, length, drop, take, get_or, map, refl, sym, ◌∙◌, ap, subst, arith, suc-add, add-one}
use Rattle.std.specs.List.{All, sum_by}
use Rattle.std.proofs.lemmas.List.{take_more}
use Rattle.std.proofs.lemmas.List.Sums.{sum_by-append, sum_by-cons}
use Rattle.weights.specs.Labellings.{labellings, number_of_labellings}
use Rattle.weights.specs.declared.TheConstants.{MAX}
use Rattle.weights.proofs.FirstLabel.{number_of_labellings-positive}
use Rattle.weights.proofs.Members.{IsLabelling}
use Rattle.weights.proofs.Filters.{all_weaker}
use Rattle.networks.specs.Addends.{Addends, over_earlier, stage_total, totals}
use Rattle.networks.proofs.Flat.{AllParts}
use Rattle.networks.proofs.Parts.{product_weight}
use Rattle.enumerate.proofs.JoinedMembers.{each-labelling}
use Rattle.block_tests.specs.BlockNetworks.{block_at}
use Rattle.block_tests.specs.BlockSteps.{IsWhole, ways_of}

-- the block at the head of those that are left
pub at-head : {X : Type 0} (bs : List X) (g : ℕ) (b : X) (rest : List X) (d : X) → drop g bs ≡ b ∷ rest → (get_or bs g d ≡ b) × (drop (g + 1) bs ≡ rest) × (g < length bs)
at-head [] zero b rest d e = absurd (cc e)
at-head [] (suc g) b rest d e = absurd (cc e)
at-head (x ∷ bs) zero b rest d e = (cc, cc, omega arith)
at-head (x ∷ bs) (suc g) b rest d e = (let r = at-head bs g b rest d e in (r.0, rw (suc-add g 1) r.1, omega (arith, r.2)))

-- what holds of each block's counts
pub whole-at : (k : ℕ) (blocks : List (List ℕ)) (g : ℕ) → All (IsWhole k) blocks → g < length blocks → IsWhole k (block_at blocks g)
whole-at k blocks g all h = all g [] h

pub some-arrangement : (counts : List ℕ) → labellings counts ≢ []
some-arrangement counts e = (let one : 1 ≤ number_of_labellings counts = number_of_labellings-positive counts in let none : number_of_labellings counts ≡ 0 = ap length e in absurd (omega arith))

-- ---- sums over the stages

pub over-blocks : (F : List ℕ → ℕ) (blocks : List (List ℕ)) (n : ℕ) → n ≤ length blocks → over_earlier (λ g. F (block_at blocks g)) n ≡ sum_by F (take n blocks)
over-blocks F blocks zero h = refl
over-blocks F blocks (suc n) h =
    let before : n < length blocks = omega arith in
    let more : take (suc n) blocks ≡ take n blocks ++ block_at blocks n ∷ [] = ap (λ i. take i blocks) (sym (add-one n)) ∙ take_more blocks n [] before in
    ap (λ s. s + F (block_at blocks n)) (over-blocks F blocks n (omega arith))
    ∙ sym (ap (sum_by F) more ∙ sum_by-append F (take n blocks) (block_at blocks n ∷ []) ∙ (let one : sum_by F (block_at blocks n ∷ []) ≡ F (block_at blocks n) = omega (arith, sum_by-cons F (block_at blocks n) []) in ap (λ s. sum_by F (take n blocks) + s) one))

pub over-within : (f : ℕ → ℕ) (n m : ℕ) → ((g : ℕ) → g < n → f g ≤ m) → over_earlier f n ≤ n * m
over-within f zero m each = omega arith
over-within f (suc n) m each = omega (arith, each n (omega arith), over-within f n m (λ g h. each g (omega arith)))

-- the stages' totals are the blocks' numbers of arrangements
pub totals-are : (a : Addends) (blocks : List (List ℕ)) → ((g : ℕ) → g < length blocks → stage_total a g ≡ number_of_labellings (block_at blocks g)) → (rest : List (List ℕ)) (g : ℕ) → drop g blocks ≡ rest → totals a (length rest) g ≡ ways_of rest
totals-are a blocks each [] g e = refl
totals-are a blocks each (b ∷ rest) g e =
    let here = at-head blocks g b rest [] e in
    let total : stage_total a g ≡ number_of_labellings b = each g here.2 ∙ ap number_of_labellings here.0 in
    ap (λ n. n * totals a (length rest) (g + 1)) total ∙ ap (λ n. number_of_labellings b * n) (totals-are a blocks each rest (g + 1) here.1)

pub total-fits : (a : Addends) (blocks : List (List ℕ)) → ((g : ℕ) → g < length blocks → stage_total a g ≡ number_of_labellings (block_at blocks g)) → ways_of blocks ≤ MAX → totals a (length blocks) 0 ≤ MAX
total-fits a blocks each fits = (let e : totals a (length blocks) 0 ≡ ways_of blocks = totals-are a blocks each blocks 0 refl in omega (arith, e, fits))

-- ---- the parts of a rearrangement

pub record IsArranged (n k g : ℕ) (x : List ℕ) : Type 0 where
  pub early : g < n
  pub long : length x ≡ k

pub parts-arranged : (k : ℕ) (blocks : List (List ℕ)) → All (IsWhole k) blocks → (rest : List (List ℕ)) (g : ℕ) → drop g blocks ≡ rest → AllParts (IsArranged (length blocks) k) g (map labellings rest)
parts-arranged k blocks all [] g e = tt
parts-arranged k blocks all (b ∷ rest) g e =
    let here = at-head blocks g b rest [] e in
    let whole : IsWhole k b = subst (IsWhole k) here.0 (whole-at k blocks g all here.2) in (
      all_weaker (IsLabelling b) (IsArranged (length blocks) k g) (λ x l. record { early = here.2; long = l.over.long ∙ whole.treatments }) (labellings b) (each-labelling b),
      parts-arranged k blocks all rest (g + 1) here.1,
    )

pub each-weighs : {X : Type 0} (g : ℕ) (xs : List X) → 1 ≡ product_weight (λ i x. 1) g xs
each-weighs g [] = refl
each-weighs g (x ∷ xs) = omega (arith, each-weighs (g + 1) xs)
