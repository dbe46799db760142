-- The rooms of the next stage, settled one after another.
use Rattle.std.proofs.Common.{◌≡◌, ◌<◌, ◌+◌, ◌++◌, ℕ, List, [], Bool, length, ap, ◌∙◌, arith, refl, nat_lt}
use Rattle.std.specs.Prelude.{ℤ}
use Rattle.std.specs.List.{IsDistinct}
use Rattle.weights.specs.declared.tails.Tail.{Tail}
use Rattle.node_pool.specs.Nodes.{Node, node, key_eq, keys, weighted}
use Rattle.node_pool.proofs.Puts.{none_distinct}
use Rattle.networks.specs.declared.tail_sums.TailSums.{TailSums}
use Rattle.networks.specs.declared.tail_sums.Kept.{Kept}
use Rattle.networks.specs.Network.{Network}
use Rattle.stage_network.specs.NodeSteps.{AllHeavy, AreNodes}
use Rattle.stage_network.specs.ArcSteps.{Arc, AllFine, spread_out, bucket, firsts}
use Rattle.networks.specs.EachTail.{sum_for}
use Rattle.stage_network.specs.SweepSteps.{stays, closed_at, counted, staying}
use Rattle.stage_network.proofs.Gathered.{firsts-none, firsts-more, firsts-all, spread-heavy, spread-before, filled-here, kept-apart, kept-heavy, clash}
use Rattle.stage_network.proofs.Sweeps.{told-more, kept-holds, counted-more, counted-nothing}

-- the rooms before one are settled
pub record IsGathering (n : Network) (keep : Kept) (g : ℕ) (nodes : List Node) (arcs : List Arc) (room : ℕ) (sums all : TailSums) (kept : List Node) : Type 0 where
  pub sum : (t : Tail) → (sum_for all t).sum ≡ (sum_for sums t).sum + weighted (closed_at n keep t (g + 1)) (spread_out n g nodes (firsts room arcs))
  pub opened : (t : Tail) → (sum_for all t).opened ≡ (sum_for sums t).opened + counted n keep t (g + 1) kept
  pub told : (f : List ℤ → ℕ) → weighted f kept ≡ weighted f (staying n keep (g + 1) (spread_out n g nodes (firsts room arcs)))
  pub distinct : IsDistinct key_eq (keys kept)
  pub heavy : AllHeavy kept

module _ (n : Network) (keep : Kept) (g : ℕ) (nodes : List Node) (arcs : List Arc) (sums : TailSums) where
  pub gathering-first : (kept : List Node) → kept ≡ [] → IsGathering n keep g nodes arcs 0 sums sums kept
  gathering-first kept empty =
      let none : spread_out n g nodes (firsts 0 arcs) ≡ [] = ap (spread_out n g nodes) (firsts-none arcs) in
      record {
        sum = λ t. rw none (omega arith);
        opened = λ t. rw empty (counted-nothing n keep t (g + 1) (sum_for sums t).opened);
        told = λ f. rw (empty, none) refl;
        distinct = rw empty none_distinct;
        heavy = rw empty tt;
      }

  module _ (width : ℕ) (rooms : List Node) (are : AreNodes n g nodes) (fine : AllFine n g width nodes rooms arcs) where
    -- one room more
    pub gathering-next : (room : ℕ) → room < length rooms → IsDistinct key_eq (keys rooms) → (was more : TailSums) (kept now work : List Node) → IsGathering n keep g nodes arcs room sums was kept → AllHeavy work → IsDistinct key_eq (keys work) → ((f : List ℤ → ℕ) → weighted f work ≡ weighted f (spread_out n g nodes (bucket room arcs))) → now ≡ kept ++ staying n keep (g + 1) work → ((t : Tail) → (sum_for more t).sum ≡ (sum_for was t).sum + weighted (closed_at n keep t (g + 1)) work) → ((t : Tail) → (sum_for more t).opened ≡ (sum_for was t).opened + counted n keep t (g + 1) work) → IsGathering n keep g nodes arcs (room + 1) sums more now
    gathering-next room low apart was more kept now work i heavy distinct told is sum opened =
        let e = node [] 0 in
        let before = spread_out n g nodes (firsts room arcs) in
        let here = spread_out n g nodes (bucket room arcs) in
        let after = spread_out n g nodes (firsts (room + 1) arcs) in
        let grown : (f : List ℤ → ℕ) → weighted f after ≡ weighted f before + weighted f here = λ f. firsts-more n g nodes f room arcs in
        let p : List ℤ → Bool = stays n keep (g + 1) in
        record {
          sum = λ t. omega (arith, sum t, i.sum t, told (closed_at n keep t (g + 1)), grown (closed_at n keep t (g + 1)));
          opened = λ t. omega (arith, opened t, i.opened t, ap (counted n keep t (g + 1)) is, counted-more n keep t (g + 1) kept work);
          told = λ f. ap (weighted f) is ∙ told-more p kept work before here after i.told told grown f;
          distinct = rw is (kept-apart p kept work _ _ (clash width rooms room e apart low) i.distinct distinct
              (kept-holds _ p kept before i.heavy (spread-heavy n g width nodes rooms are (λ a. nat_lt a.target room) arcs fine) (spread-before n g width nodes rooms are e room arcs fine) i.told)
              (filled-here n g width nodes rooms are room arcs fine work heavy told e));
          heavy = rw is (kept-heavy p kept work i.heavy heavy);
        }

    -- behind the last one
    pub all-gathered : (room : ℕ) → room ≡ length rooms → spread_out n g nodes (firsts room arcs) ≡ spread_out n g nodes arcs
    all-gathered room last = ap (λ m. spread_out n g nodes (firsts m arcs)) last ∙ ap (spread_out n g nodes) (firsts-all n g width nodes rooms arcs fine)
