-- The arcs of the nodes of one room, choice by choice.
use Rattle.std.proofs.Common.{◌≡◌, ◌+◌, ◌<◌, ◌≤◌, ℕ, List, [], ◌∷◌, ◌++◌, Bool, true, false, length, get_or, take, cond, refl, ap, sym, subst, ◌∙◌, arith, nat_eq}
use Rattle.std.specs.Prelude.{ℤ}
use Rattle.std.specs.List.{Contains, AllByRecursion, sum_by}
use Rattle.std.proofs.lemmas.List.Elements.{All-contains_itself, recursion_from_All}
use Rattle.std.proofs.lemmas.List.Sums.{sum_by-cons}
use Rattle.node_pool.specs.Nodes.{Node, node, weighted}
use Rattle.node_pool.specs.Pool.{Pool}
use Rattle.stage_network.specs.declared.stage_arcs.StageArcs.{StageArcs}
use Rattle.networks.specs.Network.{Network, IsReached, pending}
use Rattle.networks.specs.Rooms.{IsRoomed}
use Rattle.stage_network.specs.NodeSteps.{AreNodes, all_successors}
use Rattle.stage_network.specs.ArcSteps.{Arc, ArcList, AreArcs, IsRun, segment, chosen, arc_nodes, spread_out}
use Rattle.stage_network.specs.SweepSteps.{AreListed, HasBuffers}
use Rattle.stage_network.specs.Listed.{HasArc}
use Rattle.stage_network.proofs.Stepping.{reached_at}
use Rattle.stage_network.proofs.Roomwise.{fine-push, fine-kept, fine_arc, placed-more, spread-push, by_choices, all_segment, list-more}

-- what a run of nodes leads to by these choices, as f weighs it
abbrev pub reach : Network → ℕ → List Node → ℕ → ℕ → (List ℤ → ℕ) → List (List ℕ) → ℕ
reach n s nodes start end f cs = sum_by (λ c. weighted f (chosen n s c (segment start end nodes))) cs

-- the arcs so far, and those of the choices to come, are those of all choices
pub record IsListing (n : Network) (s width : ℕ) (nodes : List Node) (start end : ℕ) (more : Bool) (all : StageArcs) : Type 0 where
  pub key : (d : Node) → all.key.items ≡ (get_or nodes start d).key
  pub told : (f : List ℤ → ℕ) → weighted f (spread_out n s nodes all.arcs.arcs) + reach n s nodes start end f (pending n s all.key.items more all.choice.items) ≡ weighted f (all_successors n s (take start nodes)) + reach n s nodes start end f (n.choices s all.key.items)
  pub allowed : AllByRecursion (Contains (n.choices s all.key.items)) (pending n s all.key.items more all.choice.items)
  pub arcs : AreArcs n s width nodes all.rooms.nodes all.arcs
  pub fitted : HasBuffers n width all
  pub light : weighted (λ k. 1) all.rooms.nodes ≡ 0

module _ (n : Network) (s width : ℕ) (nodes : List Node) (start end : ℕ) (are : AreNodes n s nodes) (roomed : IsRoomed n width) (some : start < end) (within : end ≤ length nodes) (run : IsRun width nodes start end) where
  pub listing-reached : (k : List ℤ) → ((d : Node) → k ≡ (get_or nodes start d).key) → IsReached n s k
  listing-reached k key = let d : Node = node [] 0 in subst (IsReached n s) (sym (key d)) (reached_at n s nodes start d are.reached (omega (arith, some, within)))

  -- the first choice is written, behind what was listed
  pub listing-first : (more : Bool) (old all : StageArcs) → ((d : Node) → all.key.items ≡ (get_or nodes start d).key) → n.choices s all.key.items ≡ pending n s all.key.items more all.choice.items → AreListed n width s nodes start old → all.arcs ≡ old.arcs → all.rooms ≡ old.rooms → HasBuffers n width all → IsListing n s width nodes start end more all
  listing-first more old all key is listed arcs rooms fitted = record {
    key = key;
    told = λ f. ap (λ (a : ArcList). weighted f (spread_out n s nodes a.arcs) + reach n s nodes start end f (pending n s all.key.items more all.choice.items)) arcs
        ∙ ap (λ m. m + reach n s nodes start end f (pending n s all.key.items more all.choice.items)) (listed.told f) ∙ ap (λ cs. weighted f (all_successors n s (take start nodes)) + reach n s nodes start end f cs) (sym is);
    allowed = subst (AllByRecursion (Contains (n.choices s all.key.items))) is (recursion_from_All _ _ (All-contains_itself (n.choices s all.key.items)));
    arcs = subst (λ a. AreArcs n s width nodes all.rooms.nodes a) (sym arcs) (subst (λ (r : Pool). AreArcs n s width nodes r.nodes old.arcs) (sym rooms) listed.arcs);
    fitted = fitted;
    light = subst (λ (r : Pool). weighted (λ k. 1) r.nodes ≡ 0) (sym rooms) listed.light;
  }

  -- an arc was added, and the next choice is written
  pub listing-next : (more : Bool) (old mid all : StageArcs) (target : ℕ) → IsListing n s width nodes start end true old → HasArc n width s start end target old mid → all.key.items ≡ mid.key.items → all.arcs ≡ mid.arcs → all.rooms ≡ mid.rooms → HasBuffers n width all → n.later s old.key.items old.choice.items ≡ pending n s old.key.items more all.choice.items → IsListing n s width nodes start end more all
  listing-next more old mid all target listing added key arcs_same rooms_same fitted later =
      let k = old.key.items in
      let choice = old.choice.items in
      let arc : Arc = record { start = start; end = end; choice = choice; weight = n.weight s k choice; target = target } in
      let same : all.key.items ≡ k = key ∙ added.key in
      let arcs_is : all.arcs.arcs ≡ old.arcs.arcs ++ arc ∷ [] = ap (λ (a : ArcList). a.arcs) arcs_same ∙ added.arcs in
      let fine = fine_arc n s width nodes mid.rooms.nodes start end target (n.weight s k choice) choice k (n.next s k choice) roomed are.reached some within run added.placed.within (listing-reached k listing.key) listing.key listing.allowed.0 refl refl added.placed.stands in
      let kept = fine-kept n s width nodes old.rooms.nodes mid.rooms.nodes added.placed.kept (placed-more _ _ _ _ added.placed) old.arcs.arcs listing.arcs.fine in
      record {
        key = λ d. same ∙ listing.key d;
        told = λ f.
            let term = λ (c : List ℕ). weighted f (chosen n s c (segment start end nodes)) in
            let pushed : weighted f (spread_out n s nodes all.arcs.arcs) ≡ weighted f (spread_out n s nodes old.arcs.arcs) + weighted f (arc_nodes n s nodes arc) = ap (λ ws. weighted f (spread_out n s nodes ws)) arcs_is ∙ spread-push n s nodes f old.arcs.arcs arc in
            rw same (omega (arith, pushed, listing.told f, ap (sum_by term) later, sum_by-cons term choice (n.later s k choice)));
        allowed = rw same (subst (AllByRecursion (Contains (n.choices s k))) later listing.allowed.1);
        arcs = record {
          wide = ap (λ (a : ArcList). a.width) arcs_same ∙ added.width_is ∙ listing.arcs.wide;
          count = ap (λ (a : ArcList). a.rooms) arcs_same ∙ added.rooms ∙ ap (λ m. cond (nat_eq target m) (m + 1) m) listing.arcs.count ∙ sym added.placed.count ∙ ap (λ (r : Pool). length r.nodes) (sym rooms_same);
          fine = rw (arcs_is, rooms_same) (fine-push n s width nodes mid.rooms.nodes old.arcs.arcs arc kept fine);
        };
        fitted = fitted;
        light = ap (λ (r : Pool). weighted (λ k. 1) r.nodes) rooms_same ∙ added.light;
      }

  -- no choice is left
  pub listing-done : (all : StageArcs) → IsListing n s width nodes start end false all → AreListed n width s nodes end all
  listing-done all listing = record {
    fitted = listing.fitted;
    light = listing.light;
    arcs = listing.arcs;
    told = λ f.
        let k = all.key.items in
        let same = all_segment (λ b. n.choices s b.key ≡ n.choices s k) start end nodes (λ i e h j. roomed.choices s (get_or nodes i e).key k (record {
          first = reached_at n s nodes i e are.reached (omega (arith, j, within));
          second = listing-reached k listing.key;
          same = run i e h j ∙ sym (ap (take width) (listing.key e));
        })) in
        omega (arith, listing.told f, by_choices n s f (n.choices s k) (segment start end nodes) same, list-more n s f nodes start end (omega (arith, some)));
  }

-- buffers as long as others
pub buffers-same : (n : Network) (width : ℕ) (old new : StageArcs) → HasBuffers n width old → new.arcs.width ≡ old.arcs.width → new.rooms.width ≡ old.rooms.width → length new.key.items ≡ length old.key.items → length new.choice.items ≡ length old.choice.items → length new.target_room.items ≡ length old.target_room.items → HasBuffers n width new
buffers-same n width old new b a r k c t = record { arcs = a ∙ b.arcs; rooms = r ∙ b.rooms; key = k ∙ b.key; choice = c ∙ b.choice; target_room = t ∙ b.target_room }

-- nothing is listed yet
pub listing-none : (n : Network) (s width : ℕ) (nodes : List Node) (all : StageArcs) → HasBuffers n width all → all.rooms.nodes ≡ [] → all.arcs.arcs ≡ [] → all.arcs.rooms ≡ 0 → AreListed n width s nodes 0 all
listing-none n s width nodes all fitted rooms arcs count = record {
  fitted = fitted;
  light = rw rooms refl;
  arcs = record { wide = fitted.arcs; count = rw rooms count; fine = rw arcs tt };
  told = λ f. rw arcs refl;
}
