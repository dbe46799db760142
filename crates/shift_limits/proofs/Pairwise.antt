-- The differences between two lists, one earlier value after another.
use Rattle.std.proofs.Common.{◌≡◌, ℕ, ◌+◌, ◌*◌, ◌<◌, ℤ, ◌-ℤ◌, nat_abs, List, [], ◌∷◌, ◌++◌, length, get_or, take, map, refl, ap, ◌∙◌, arith, append-nil}
use Rattle.std.specs.List.{AllByRecursion, flat_map}
use Rattle.std.proofs.lemmas.Int.{ints}
use Rattle.std.proofs.lemmas.List.{length-append, length-map, take_more}
use Rattle.std.proofs.lemmas.List.Concat.{flat_map-append}
use Rattle.weights.proofs.Filters.{all_append}
use Rattle.shift_limits.specs.Differences.{differences_between}

pub between-none : (later : List ℤ) → differences_between [] later ≡ []
unfolding differences_between
between-none later = refl

pub between-more : (earlier later : List ℤ) (i : ℕ) (d : ℤ) → i < length earlier → differences_between (take (i + 1) earlier) later ≡ differences_between (take i earlier) later ++ map (λ y. y -ℤ get_or earlier i d) later
unfolding differences_between
between-more earlier later i d here =
    ap (flat_map (λ x. map (λ y. y -ℤ x) later)) (take_more earlier i d here)
    ∙ flat_map-append (λ x. map (λ y. y -ℤ x) later) (take i earlier) (get_or earlier i d ∷ [])
    ∙ ap (λ (ds : List ℤ). flat_map (λ x. map (λ y. y -ℤ x) later) (take i earlier) ++ ds) (append-nil (map (λ y. y -ℤ get_or earlier i d) later))

pub between-length : (earlier later : List ℤ) → length (differences_between earlier later) ≡ length earlier * length later
unfolding differences_between
between-length [] later = omega arith
between-length (x ∷ earlier) later =
    omega (arith, length-append (map (λ y. y -ℤ x) later) (differences_between earlier later), length-map later (λ y. y -ℤ x), between-length earlier later)

-- ---- the range of differences

apart : (x y : ℤ) (b : ℕ) → nat_abs x < b → nat_abs y < b → nat_abs (y -ℤ x) < 2 * b
apart x y b h k = grind (arith, ints)

apart-all : (x : ℤ) (b : ℕ) (later : List ℤ) → nat_abs x < b → AllByRecursion (λ y. nat_abs y < b) later → AllByRecursion (λ d. nat_abs d < 2 * b) (map (λ y. y -ℤ x) later)
apart-all x b [] h all = tt
apart-all x b (y ∷ later) h all = (apart x y b h all.0, apart-all x b later h all.1)

pub between-range : (b : ℕ) (earlier later : List ℤ) → AllByRecursion (λ y. nat_abs y < b) earlier → AllByRecursion (λ y. nat_abs y < b) later → AllByRecursion (λ d. nat_abs d < 2 * b) (differences_between earlier later)
unfolding differences_between
between-range b [] later all every = tt
between-range b (x ∷ earlier) later all every = all_append (λ d. nat_abs d < 2 * b) (map (λ y. y -ℤ x) later) (differences_between earlier later) (apart-all x b later all.0 every) (between-range b earlier later all.1 every)
