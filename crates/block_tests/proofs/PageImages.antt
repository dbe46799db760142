-- What runs for Page's test stands for what is written: the keys are the same, and the lines of a block are its arrangements, those that add as much taken together.
use Rattle.std.proofs.Common.{◌≡◌, ◌<◌, ◌*◌, ℕ, List, [], ◌∷◌, inl, inr, refl, sym, ◌∙◌, ap, subst, arith}
use Rattle.std.specs.Prelude.{ℤ, pos}
use Rattle.std.specs.List.{Contains, sum_by}
use Rattle.weights.specs.Labellings.{labellings}
use Rattle.weights.specs.declared.lines.Line.{Line}
use Rattle.weights.specs.declared.tails.Tail.{Tail}
use Rattle.weights.proofs.Sums.{sum_by-same}
use Rattle.networks.specs.Addends.{additive_network}
use Rattle.networks.specs.Completions.{over_arcs}
use Rattle.networks.specs.Judged.{judge_of}
use Rattle.networks.specs.Network.{Network, IsReached}
use Rattle.networks.specs.PartialSums.{plus}
use Rattle.networks.specs.Written.{RunsFor, StandsFor}
use Rattle.networks.specs.declared.verdicts.Judge.{Judge}
use Rattle.networks.proofs.Bridge.{choices-before}
use Rattle.networks.proofs.Lumping.{lumped-by}
use Rattle.block_tests.specs.BlockNetworks.{addends_of, block_at, line_addends, line_of, network_by, page_addends, page_lines, running_addends}
use Rattle.block_tests.specs.BlockTests.{BlockTests, block_counts, block_test, page_sum}
use Rattle.block_tests.specs.declared.kinds.BlockKind.{BlockKind}
use Rattle.block_tests.specs.declared.kinds.BlockKind.TheVariants.{Friedman, Page, Cochran}
use Rattle.block_tests.proofs.PageLaws.{line-weight, over-page, over-places}

module _ (k : ℕ) (blocks : List (List ℕ)) (judge : Judge) (t : Tail) where
  abbrev n : Network
  n = additive_network (line_addends blocks judge)

  abbrev q : Network
  q = additive_network (page_addends k blocks judge)

  -- each arrangement weighs 1, and each line as much as the arrangements that add it
  same-arcs : (f : List ℤ → ℕ) (g : ℕ) (key : List ℤ) → IsReached n g key → g < n.count → over_arcs q f g key ≡ over_arcs n f g key
  same-arcs f g key r before =
      let counts : List ℕ = block_at blocks g in
      let to : ℤ → ℕ = λ v. f (plus key (v ∷ [])) in
      ap (sum_by (λ c. 1 * to (pos (page_sum 1 c)))) (choices-before (page_addends k blocks judge) g key before)
      ∙ sum_by-same (λ c. 1 * to (pos (page_sum 1 c))) (λ c. to (pos (page_sum 1 c))) (λ c. (let one : 1 * to (pos (page_sum 1 c)) ≡ to (pos (page_sum 1 c)) = omega arith in one)) (labellings counts)
      ∙ sym (over-page counts to)
      ∙ sym (over-places (λ (l : Line). l.weight * to l.value) (page_lines counts))
      ∙ sym (ap (sum_by (λ c. (line_of counts c).weight * to (line_of counts c).value)) (choices-before (line_addends blocks judge) g key before))

  page-writes : StandsFor n q t
  page-writes = record {
    written = λ key. key;
    lumped = lumped-by (λ key. key) n q refl refl same-arcs;
    order = λ g i j a b. refl;
    verdict = λ g key r. refl;
    weighty = λ g key c r before m. line-weight (block_at blocks g) c (subst (λ cs. Contains cs c) (choices-before (line_addends blocks judge) g key before) m);
    weighty_written = λ g key c r before m. omega arith;
  }

alike : (kind : BlockKind) (bound k : ℕ) (blocks : List (List ℕ)) (judge : Judge) (tail : Tail)
    → RunsFor (additive_network (running_addends kind bound k blocks judge)) (additive_network (addends_of kind bound k blocks judge)) tail
alike Friedman bound k blocks judge tail = inl refl
alike Page bound k blocks judge tail = inr (page-writes k blocks judge tail)
alike Cochran bound k blocks judge tail = inl refl

-- the keys of the network that runs stand for those of the one that is written
pub runs-for : (tests : BlockTests) (tail : Tail) → RunsFor (network_by running_addends tests) (network_by addends_of tests) tail
runs-for tests tail = alike tests.kind (block_test tests).bound tests.blocks.treatments (block_counts tests) (judge_of (block_test tests)) tail
