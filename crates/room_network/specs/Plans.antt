-- What is rearranged, stage by stage: what is left, a room; the choices there; where each leads.
use Rattle.std.specs.Prelude.{◌≡◌, ◌≢◌, ℕ, ◌*◌, ◌<◌, ◌≤◌, ℤ, pos, AllPairs, List, [], length, nat_lt, if◌then◌else◌}
use Rattle.std.specs.List.{Contains, sum_by}
use Rattle.weights.specs.declared.TheConstants.{MAX}
use Rattle.networks.specs.declared.stages.Verdict.TheVariants.{Outside}
use Rattle.networks.specs.Network.{Network, IsReached}
use Rattle.networks.specs.Completions.{completions, path_weight, total_weight}

-- The rooms and where their choices lead.
pub record Floor : Type 0 where
  -- how many stages there are, how many numbers a room has, and a choice
  pub count : ℕ
  pub width : ℕ
  pub choice_width : ℕ
  -- the room of stage 0
  pub first : List ℤ
  -- at a stage and room: the choices in the order of the visit, and those after a choice
  pub choices : ℕ → List ℤ → List (List ℕ)
  pub later : ℕ → List ℤ → List ℕ → List (List ℕ)
  -- the room that a choice leads to
  pub next : ℕ → List ℤ → List ℕ → List ℤ

-- of a stage, a room and a choice
abbrev pub Weights : Type 0
Weights = ℕ → List ℤ → List ℕ → ℕ

-- Rooms whose choices weigh.
pub record Plan : Type 0 where
  pub floor : Floor
  pub weight : Weights

-- the network of the rooms alone, of which nothing is measured
abbrev pub alone : Plan → Network
alone p = record {
  count = p.floor.count;
  width = p.floor.width;
  choice_width = p.floor.choice_width;
  first = p.floor.first;
  choices = λ g room. if nat_lt g p.floor.count then p.floor.choices g room else [];
  later = p.floor.later;
  weight = p.weight;
  next = p.floor.next;
  verdict = λ t g room. Outside;
  value = λ room. pos 0;
}

-- the ways from the first room through all stages, one choice for each
abbrev pub ways : Plan → List (List (List ℕ))
ways p = completions (alone p) 0 p.floor.first

abbrev pub way_weight : Plan → List (List ℕ) → ℕ
way_weight p w = path_weight (alone p) 0 p.floor.first w

pub record IsPlan (p : Plan) : Type 0 where
  -- every room has as many numbers
  pub first_long : length p.floor.first ≡ p.floor.width
  pub next_long : (g : ℕ) (room : List ℤ) (c : List ℕ)
      → length room ≡ p.floor.width → length (p.floor.next g room c) ≡ p.floor.width
  -- a reached room before the last stage has a choice, all its choices are different, and each
  -- weighs at least 1
  pub some_choice : (g : ℕ) (room : List ℤ)
      → IsReached (alone p) g room → g < p.floor.count → p.floor.choices g room ≢ []
  pub different : (g : ℕ) (room : List ℤ)
      → IsReached (alone p) g room → g < p.floor.count → AllPairs ◌≢◌ (p.floor.choices g room)
  pub weighty : (g : ℕ) (room : List ℤ) (c : List ℕ) → IsReached (alone p) g room
      → g < p.floor.count → Contains (p.floor.choices g room) c → 1 ≤ p.weight g room c
  -- all ways weigh at most MAX
  pub fits : total_weight (alone p) 0 p.floor.first ≤ MAX

-- The one law: the weighted ways are the members of a reference list with their weights, each cut
-- into its choices. For every function of a way, its sum over the ways is that over the members.
pub record Gives (p : Plan) (reference : List (List ℕ)) (weight : List ℕ → ℕ)
    (cut : List ℕ → List (List ℕ)) : Type 0 where
  pub law : (f : List (List ℕ) → ℕ) → sum_by (λ w. way_weight p w * f w) (ways p)
      ≡ sum_by (λ xs. weight xs * f (cut xs)) reference
