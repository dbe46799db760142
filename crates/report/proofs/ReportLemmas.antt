-- The lines of groups, one after another.
use Rattle.std.proofs.Common.{◌≡◌, ◌<◌, ◌≤◌, ◌+◌, ℕ, List, [], ◌++◌, take, get_or, length, min, sym, ◌∙◌, ap, arith}
use Rattle.std.proofs.lemmas.List.{flat_map_more, take_all, take_more}
use Rattle.std.proofs.lemmas.Slice.Zip.{get_or-zip, length-zip}
use Rattle.std.specs.List.{flat_map, zip}
use Rattle.report.specs.Report.{group_line, group_lines}

-- the lines of the first groups
abbrev pub first_lines : ℕ → List ℕ → List (List ℕ) → List ℕ
first_lines i sizes labels = flat_map (λ group. group_line group.0 group.1) (take i (zip sizes labels))

pub first_lines-more : (text sizes : List ℕ) (labels : List (List ℕ)) (i : ℕ) → i < length sizes → i < length labels
    → text ++ first_lines (i + 1) sizes labels ≡ (text ++ first_lines i sizes labels) ++ group_line (get_or sizes i 0) (get_or labels i [])
first_lines-more text sizes labels i here there =
    let line : ℕ × List ℕ → List ℕ = λ group. group_line group.0 group.1 in
    let groups = zip sizes labels in
    let inside : i < length groups = omega (arith, length-zip sizes labels) in
    ap (λ (items : List (ℕ × List ℕ)). text ++ flat_map line items) (take_more groups i (0, []) inside)
    ∙ sym (flat_map_more line text (take i groups) (get_or groups i (0, [])))
    ∙ ap (λ group. (text ++ flat_map line (take i groups)) ++ line group) (get_or-zip sizes labels i (0, []) here there)

pub first_lines-all : (text sizes : List ℕ) (labels : List (List ℕ)) (i : ℕ) → min (length sizes) (length labels) ≤ i → text ++ first_lines i sizes labels ≡ text ++ group_lines sizes labels
unfolding group_lines
first_lines-all text sizes labels i all =
    let outside : length (zip sizes labels) ≤ i = omega (arith, length-zip sizes labels) in
    ap (λ (items : List (ℕ × List ℕ)). text ++ flat_map (λ group. group_line group.0 group.1) items) (take_all i (zip sizes labels) outside)
