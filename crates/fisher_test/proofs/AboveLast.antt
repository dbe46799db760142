-- Lines one after another, each above the last.
use Rattle.std.proofs.Common.{◌≡◌, ℕ, zero, suc, ◌<◌, List, [], ◌∷◌, length, map, take, get_or, ◌∙◌, ap, subst, arith}
use Rattle.std.proofs.lemmas.List.{get_or-map, length-map, take-map}
use Rattle.weights.specs.declared.lines.Line.{Line}
use Rattle.networks.specs.Lines.{IsAboveLast, IsAscending}
use Rattle.fisher_test.specs.Transposed.{scaled_line}

pub above-last : (lines : List Line) (i : ℕ) (d : Line) → IsAscending lines → i < length lines → IsAboveLast (get_or lines i d).value (take i lines)
above-last [] i d a h = absurd (omega (arith, h))
above-last (l ∷ lines) zero d a h = tt
above-last (l ∷ []) (suc i) d a h = absurd (omega (arith, h))
above-last (l ∷ m ∷ lines) (suc zero) d a h = a.0.0
above-last (l ∷ m ∷ lines) (suc (suc i)) d a h = above-last (m ∷ lines) (suc i) d a.1 (omega (arith, h))

above-scaled : (all of : ℕ) (given : List Line) (i : ℕ) (d : Line) → IsAscending (map (scaled_line all of) given) → i < length given → IsAboveLast (scaled_line all of (get_or given i d)).value (map (scaled_line all of) (take i given))
above-scaled all of given i d a h =
    rw (get_or-map (scaled_line all of) given i d (scaled_line all of d) h, take-map (scaled_line all of) i given)
    at (above-last (map (scaled_line all of) given) i (scaled_line all of d) a (omega (arith, h, length-map given (scaled_line all of))))

pub above-push : (all of : ℕ) (given lines : List Line) (i : ℕ) (d item : Line) (spread : List Line) → lines ≡ given → item ≡ scaled_line all of (get_or lines i d) → spread ≡ map (scaled_line all of) (take i given)
    → IsAscending (map (scaled_line all of) given) → i < length lines → IsAboveLast item.value spread
above-push all of given lines i d item spread same e f a h =
    let there : i < length given = subst (λ xs. i < length xs) same h in
    let told : item ≡ scaled_line all of (get_or given i d) = e ∙ ap (λ xs. scaled_line all of (get_or xs i d)) same in
    rw (told, f) (above-scaled all of given i d a there)
