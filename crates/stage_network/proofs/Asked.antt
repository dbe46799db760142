-- A network that is asked for some tails alone has the same keys, completions and rooms, by definition; of each of these tails it has the same verdicts.
use Rattle.std.proofs.Common.{◌≡◌, ◌≢◌, ℕ, ◌≤◌, List, [], ◌∷◌, Bool, true, false, cond, refl, ap}
use Rattle.std.specs.Prelude.{ℤ}
use Rattle.std.specs.List.{AllByRecursion}
use Rattle.weights.specs.declared.tails.Tail.{Tail}
use Rattle.weights.specs.declared.tails.Tails.{Tails}
use Rattle.node_pool.specs.Nodes.{Node, NodeRow, weighted}
use Rattle.networks.specs.declared.stages.Verdict.{Verdict}
use Rattle.networks.specs.declared.stages.Verdict.TheVariants.{Inside, Outside, Undecided}
use Rattle.networks.specs.declared.tail_sums.TailSums.{TailSums}
use Rattle.networks.specs.Asked.{asked, asks, with_verdicts}
use Rattle.networks.specs.Completions.{completions, path_end, is_inside, total_weight, extreme_weight}
use Rattle.networks.specs.Laws.{IsLawful, IsSound}
use Rattle.networks.specs.Network.{Network, IsReached}
use Rattle.networks.specs.Opened.{opened_below}
use Rattle.networks.specs.Rooms.{AreRoommates, IsRoomed}
use Rattle.stage_network.specs.StageSteps.{Housed}
use Rattle.stage_network.specs.ArcSteps.{lift}
use Rattle.stage_network.specs.SweepSteps.{IsRoomful}

pub asked-total : (tails : Tails) (n : Network) (g : ℕ) (k : List ℤ) → total_weight (asked tails n) g k ≡ total_weight n g k
unfolding total_weight
asked-total tails n g k = refl

asked-weighted : (tails : Tails) (n : Network) (g : ℕ) (nodes : List Node) → weighted (total_weight (asked tails n) g) nodes ≡ weighted (total_weight n g) nodes
unfolding total_weight
asked-weighted tails n g nodes = refl

all_of : {X : Type 0} (P : X → Type 0) → ((x : X) → P x) → (xs : List X) → AllByRecursion P xs
all_of P p [] = tt
all_of P p (x ∷ xs) = (p x, all_of P p xs)

module _ (tails : Tails) (n : Network) where
  sound_by : (here : Verdict) (extreme : Bool) → (Outside ≡ here → false ≡ extreme) → IsSound n here extreme → (t : Tail) (g : ℕ) (k : List ℤ) → IsReached n g k → g ≤ n.count → (b : Bool) → cond b (n.verdict t g k) Outside ≡ here → AllByRecursion (λ cs. is_inside (cond b (n.verdict t n.count (path_end n g k cs)) Outside) ≡ extreme) (completions n g k)
  sound_by here extreme outside s t g k r h true is = s t g k r h is
  sound_by here extreme outside s t g k r h false is = all_of (λ cs. false ≡ extreme) (λ cs. outside is) (completions n g k)

  decided_by : IsLawful n → (t : Tail) (k : List ℤ) → IsReached n n.count k → (b : Bool) → cond b (n.verdict t n.count k) Outside ≢ Undecided
  decided_by l t k r true e = l.decided t k r e
  decided_by l t k r false e = cc

  pub asked-lawful : IsLawful n → IsLawful (asked tails n)
  asked-lawful l = record {
    width_least = l.width_least;
    width_most = l.width_most;
    long = l.long;
    some_choice = l.some_choice;
    weighty = l.weighty;
    different = l.different;
    ends = l.ends;
    fits = rw (asked-total tails n 0 n.first) l.fits;
    inside = λ t g k r h. sound_by Inside true (λ (none : Outside ≡ Inside). cc) l.inside t g k r h (asks tails t);
    outside = λ t g k r h. sound_by Outside false (λ none. refl) l.outside t g k r h (asks tails t);
    decided = λ t k r. decided_by l t k r (asks tails t);
  }

  mates : (width g : ℕ) (j k : List ℤ) → AreRoommates (asked tails n) width g j k → AreRoommates n width g j k
  mates width g j k m = record { first = m.first; second = m.second; same = m.same }

  pub asked-roomed : (width : ℕ) → IsRoomed n width → IsRoomed (asked tails n) width
  asked-roomed width r = record {
    within = r.within;
    choices = λ g j k m. r.choices g j k (mates width g j k m);
    weight = λ g j k c m. r.weight g j k c (mates width g j k m);
    next = λ g j k c m. r.next g j k c (mates width g j k m);
  }

  -- a room of it
  pub asked-roomful : (width g : ℕ) (sums : TailSums) (room : List ℤ) (partials : NodeRow) (kept : Housed) → IsRoomful n width g sums room partials kept → IsRoomful (asked tails n) width g sums room partials kept
  asked-roomful width g sums room partials kept r = record {
    lawful = asked-lawful r.lawful;
    within = r.within;
    reached = r.reached;
    fits = λ t. rw (asked-weighted tails n g (lift room partials.nodes)) (r.fits t);
    few = r.few;
    room_is = r.room_is;
    long = r.long;
    here = r.here;
    wide = r.wide;
  }

  -- of a tail that is asked, and of any other
  pub asked-own : (t : Tail) → asks tails t ≡ true → (asked tails n).verdict t ≡ n.verdict t
  asked-own t a = ap {B = ℕ → List ℤ → Verdict} (λ b g k. cond b (n.verdict t g k) Outside) a

  pub asked-else : (t : Tail) → asks tails t ≡ false → (g : ℕ) (k : List ℤ) → (asked tails n).verdict t g k ≡ Outside
  asked-else t a g k = ap (λ b. cond b (n.verdict t g k) Outside) a

  pub asked-extreme_at : (t : Tail) → asks tails t ≡ true → (g : ℕ) (k : List ℤ) → extreme_weight (asked tails n) t g k ≡ extreme_weight n t g k
  unfolding extreme_weight
  asked-extreme_at t a g k = ap (λ (u : ℕ → List ℤ → Verdict). extreme_weight (with_verdicts n (λ s. u)) t g k) (asked-own t a)

  pub asked-extreme : (t : Tail) → asks tails t ≡ true → extreme_weight (asked tails n) t 0 n.first ≡ extreme_weight n t 0 n.first
  asked-extreme t a = asked-extreme_at t a 0 n.first

  pub asked-below : (t : Tail) → asks tails t ≡ true → (g : ℕ) → opened_below (asked tails n) t g ≡ opened_below n t g
  asked-below t a g = ap (λ (u : ℕ → List ℤ → Verdict). opened_below (with_verdicts n (λ s. u)) t g) (asked-own t a)
