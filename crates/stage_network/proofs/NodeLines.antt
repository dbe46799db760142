-- The nodes of the last stage, and the lines that are made of them.
use Rattle.std.proofs.Common.{◌≡◌, ℕ, ◌+◌, ◌*◌, ◌<◌, ◌≤◌, List, [], ◌∷◌, ◌++◌, length, get_or, take, Bool, true, false, cond, ◌∙◌, ap, arith}
use Rattle.std.specs.Prelude.{ℤ, IsPermutation}
use Rattle.std.specs.List.{AllByRecursion}
use Rattle.std.proofs.lemmas.List.Sums.{sum_by-cons, sum_by-append, sum_by_more}
use Rattle.std.proofs.lemmas.List.Sorted.{sum_by-IsPermutation}
use Rattle.weights.specs.declared.lines.Line.{Line}
use Rattle.node_pool.specs.Nodes.{Node, node, weighted}
use Rattle.networks.specs.Network.{Network}
use Rattle.networks.specs.Lines.{IsAscending, IsSpreadOf, every, line_sum, with_weight}
use Rattle.networks.proofs.LineSums.{line_sum-cons, with-sum, with-ascending, with-positive}

-- the weight of the nodes whose values pass
abbrev pub value_sums : Network → (ℤ → Bool) → List Node → ℕ
value_sums n p nodes = weighted (λ k. cond (p (n.value k)) 1 0) nodes

one-or-none : (b : Bool) (x : ℕ) → x * cond b 1 0 ≡ cond b x 0
one-or-none true x = omega arith
one-or-none false x = omega arith

-- a node more, and its line
pub line-more : (n : Network) (p : ℤ → Bool) (lines : List Line) (nodes : List Node) (i : ℕ) (k : List ℤ) (w : ℕ) → i < length nodes → node k w ≡ get_or nodes i (node k w) → line_sum p lines ≡ value_sums n p (take i nodes) → line_sum p (lines ++ record { value = n.value k; weight = w } ∷ []) ≡ value_sums n p (take (i + 1) nodes)
line-more n p lines nodes i k w low is was =
    let term = λ (b : Node). b.weight * cond (p (n.value b.key)) 1 0 in
    let line : Line = record { value = n.value k; weight = w } in
    omega (
      arith,
      sum_by-append (λ (l : Line). cond (p l.value) l.weight 0) lines (line ∷ []),
      sum_by-cons (λ (l : Line). cond (p l.value) l.weight 0) line [],
      sum_by_more term nodes i (node k w) low,
      ap term is,
      one-or-none (p (n.value k)) w,
      was,
    )

-- the lines that are left weigh what all lines do
pub record LinesLeave (all lines left : List Line) : Type 0 where
  pub ascending : IsAscending lines
  pub positive : AllByRecursion (λ l. 1 ≤ l.weight) lines
  pub told : (p : ℤ → Bool) → line_sum p lines + line_sum p left ≡ line_sum p all

pub all-left : (all : List Line) → LinesLeave all [] all
all-left all = record { ascending = tt; positive = tt; told = λ p. omega arith }

pub line-room : (all lines : List Line) (l : Line) (left : List Line) → LinesLeave all lines (l ∷ left) → line_sum every lines + l.weight ≤ line_sum every all
line-room all lines l left at = omega (arith, at.told every, line_sum-cons every l left)

pub line-added : (all lines : List Line) (l : Line) (left : List Line) → LinesLeave all lines (l ∷ left) → LinesLeave all (with_weight l.value l.weight lines) left
line-added all lines l left at = record {
  ascending = with-ascending l.value l.weight lines at.ascending;
  positive = with-positive l.value l.weight lines at.positive;
  told = λ p. omega (arith, at.told p, line_sum-cons p l left, with-sum p l.value l.weight lines);
}

-- sorted lines weigh what they did before
pub sorted-sum : (p : ℤ → Bool) (lines sorted : List Line) → IsPermutation lines sorted → line_sum p sorted ≡ line_sum p lines
sorted-sum p lines sorted moved = sum_by-IsPermutation (λ (l : Line). cond (p l.value) l.weight 0) lines sorted moved

pub lines-done : (old all lines left : List Line) → IsPermutation old all → left ≡ [] → LinesLeave all lines left → IsSpreadOf (λ p. line_sum p old) lines
lines-done old all lines left moved none leaves =
    let last : LinesLeave all lines [] = (rw none at leaves) in
    record { ascending = last.ascending; positive = last.positive; told = λ p. omega (arith, last.told p, sorted-sum p old all moved) }

-- the same sums by other lines
pub spread-same : (sums others : (ℤ → Bool) → ℕ) (lines : List Line) → ((p : ℤ → Bool) → sums p ≡ others p) → IsSpreadOf sums lines → IsSpreadOf others lines
spread-same sums others lines same is = record { ascending = is.ascending; positive = is.positive; told = λ p. is.told p ∙ same p }
