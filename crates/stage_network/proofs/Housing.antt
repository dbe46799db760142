-- Nodes with their rooms in front of their partials.
use Rattle.std.proofs.Common.{◌≡◌, ℕ, zero, suc, ◌+◌, ◌-◌, ◌*◌, ◌<◌, ◌≤◌, List, [], ◌∷◌, ◌++◌, length, take, drop, get_or, refl, sym, ◌∙◌, ap, arith}
use Rattle.std.specs.Prelude.{ℤ}
use Rattle.std.specs.List.{AllByRecursion}
use Rattle.std.proofs.lemmas.List.{length-append, length-drop, length-take-le, drop-append-le, drop_all}
use Rattle.node_pool.specs.Nodes.{Node, NodeRow, node}
use Rattle.node_pool.specs.TableSteps.{key_at}
use Rattle.node_pool.proofs.NodeLists.{key_at-more, key_at-new}
use Rattle.stage_network.specs.StageSteps.{AreHoused, whole_nodes}
use Rattle.stage_network.proofs.ArcLists.{choice-fits}
use Rattle.stage_network.proofs.Roomwise.{all_at, front-room}

pub room-fits : (width n i : ℕ) (rooms : List ℤ) → length rooms ≡ n * width → i < n → i * width + width ≤ length rooms
room-fits width n i rooms long low = rw long (choice-fits width n i low)

pub room-long : (width n i : ℕ) (rooms : List ℤ) → length rooms ≡ n * width → i < n → length (key_at width rooms i) ≡ width
room-long width n i rooms long low = length-take-le width (drop (i * width) rooms) (omega (arith, length-drop (i * width) rooms, room-fits width n i rooms long low))

pub whole-length : (width : ℕ) (rooms : List ℤ) (homes : List ℕ) (partials : List Node) → length homes ≡ length partials → length (whole_nodes width rooms homes partials) ≡ length homes
whole-length width rooms [] partials e = refl
whole-length width rooms (h ∷ homes) [] e = absurd (omega (arith, e))
whole-length width rooms (h ∷ homes) (a ∷ partials) e = ap suc (whole-length width rooms homes partials (omega (arith, e)))

whole-at : (width : ℕ) (rooms : List ℤ) (homes : List ℕ) (partials : List Node) (i : ℕ) (d e : Node) → length homes ≡ length partials → i < length homes → get_or (whole_nodes width rooms homes partials) i d ≡ node (key_at width rooms (get_or homes i 0) ++ (get_or partials i e).key) (get_or partials i e).weight
whole-at width rooms [] partials i d e same low = absurd (omega (arith, low))
whole-at width rooms (h ∷ homes) [] i d e same low = absurd (omega (arith, same))
whole-at width rooms (h ∷ homes) (a ∷ partials) zero d e same low = refl
whole-at width rooms (h ∷ homes) (a ∷ partials) (suc i) d e same low = whole-at width rooms homes partials i d e (omega (arith, same)) (omega (arith, low))

whole-push : (width : ℕ) (rooms : List ℤ) (homes : List ℕ) (partials : List Node) (h : ℕ) (a : Node) → length homes ≡ length partials → whole_nodes width rooms (homes ++ h ∷ []) (partials ++ a ∷ []) ≡ whole_nodes width rooms homes partials ++ node (key_at width rooms h ++ a.key) a.weight ∷ []
whole-push width rooms [] [] h a same = refl
whole-push width rooms [] (b ∷ partials) h a same = absurd (omega (arith, same))
whole-push width rooms (g ∷ homes) [] h a same = absurd (omega (arith, same))
whole-push width rooms (g ∷ homes) (b ∷ partials) h a same = ap (λ ns. node (key_at width rooms g ++ b.key) b.weight ∷ ns) (whole-push width rooms homes partials h a (omega (arith, same)))

whole-open : (width n : ℕ) (rooms room : List ℤ) (homes : List ℕ) (partials : List Node) → length rooms ≡ n * width → AllByRecursion (λ h. h < n) homes → whole_nodes width (rooms ++ room) homes partials ≡ whole_nodes width rooms homes partials
whole-open width n rooms room [] partials long a = refl
whole-open width n rooms room (h ∷ homes) [] long a = refl
whole-open width n rooms room (h ∷ homes) (b ∷ partials) long a =
    rw (key_at-more width h n rooms room a.0 long) (ap (λ ns. node (key_at width rooms h ++ b.key) b.weight ∷ ns) (whole-open width n rooms room homes partials long a.1))

named-more : (n : ℕ) (homes : List ℕ) → AllByRecursion (λ h. h < n) homes → AllByRecursion (λ h. h < n + 1) homes
named-more n [] a = tt
named-more n (h ∷ homes) a = (omega (arith, a.0), named-more n homes a.1)

named-push : (n : ℕ) (homes : List ℕ) (h : ℕ) → AllByRecursion (λ h. h < n) homes → h < n → AllByRecursion (λ h. h < n) (homes ++ h ∷ [])
named-push n [] h a low = (low, tt)
named-push n (g ∷ homes) h a low = (a.0, named-push n homes h a.1 low)

behind-of : (r p : List ℤ) (width : ℕ) → length r ≡ width → drop width (r ++ p) ≡ p
behind-of r p width e = drop-append-le width r p (omega (arith, e)) ∙ ap (λ x. x ++ p) (drop_all width r (omega (arith, e)))

module _ (width : ℕ) (rooms : List ℤ) (count : ℕ) (homes : List ℕ) (partials : NodeRow) (housed : AreHoused width rooms count homes partials) where
  pub count-whole : length (whole_nodes width rooms homes partials.nodes) ≡ length homes
  count-whole = whole-length width rooms homes partials.nodes housed.each

  pub home-low : (i : ℕ) → i < length homes → get_or homes i 0 < count
  home-low i low = all_at (λ h. h < count) homes i 0 housed.named low

  pub home-fits : (i : ℕ) → i < length homes → get_or homes i 0 * width + width ≤ length rooms
  home-fits i low = room-fits width count (get_or homes i 0) rooms housed.long (home-low i low)

  pub home-long : (i : ℕ) → i < length homes → length (key_at width rooms (get_or homes i 0)) ≡ width
  home-long i low = room-long width count (get_or homes i 0) rooms housed.long (home-low i low)

  pub whole-room : (i : ℕ) (d : Node) → i < length homes → take width (get_or (whole_nodes width rooms homes partials.nodes) i d).key ≡ key_at width rooms (get_or homes i 0)
  whole-room i d low =
      ap (λ (a : Node). take width a.key) (whole-at width rooms homes partials.nodes i d d housed.each low)
      ∙ front-room width (key_at width rooms (get_or homes i 0)) (get_or partials.nodes i d).key (home-long i low)

  pub whole-partial : (i : ℕ) (d : Node) → i < length homes → drop width (get_or (whole_nodes width rooms homes partials.nodes) i d).key ≡ (get_or partials.nodes i d).key
  whole-partial i d low =
      ap (λ (a : Node). drop width a.key) (whole-at width rooms homes partials.nodes i d d housed.each low)
      ∙ behind-of (key_at width rooms (get_or homes i 0)) (get_or partials.nodes i d).key width (home-long i low)

  pub whole-weight : (i : ℕ) (d : Node) → i < length homes → (get_or (whole_nodes width rooms homes partials.nodes) i d).weight ≡ (get_or partials.nodes i d).weight
  whole-weight i d low = ap (λ (a : Node). a.weight) (whole-at width rooms homes partials.nodes i d d housed.each low)

  pub opened-whole : (room : List ℤ) → whole_nodes width (rooms ++ room) homes partials.nodes ≡ whole_nodes width rooms homes partials.nodes
  opened-whole room = whole-open width count rooms room homes partials.nodes housed.long housed.named

  pub opened-housed : (room : List ℤ) → length room ≡ width → AreHoused width (rooms ++ room) (count + 1) homes partials
  opened-housed room wide = record {
    long = rw (length-append rooms room) (omega (arith, housed.long, wide));
    each = housed.each;
    named = named-more count homes housed.named;
  }

  pub opened-room : (room : List ℤ) → length room ≡ width → key_at width (rooms ++ room) ((count + 1) - 1) ≡ room
  opened-room room wide =
      let on : (count + 1) - 1 ≡ count = omega arith in
      ap (key_at width (rooms ++ room)) on ∙ key_at-new width count rooms room housed.long wide

  pub pushed-whole : (h : ℕ) (a : Node) → whole_nodes width rooms (homes ++ h ∷ []) (partials.nodes ++ a ∷ []) ≡ whole_nodes width rooms homes partials.nodes ++ node (key_at width rooms h ++ a.key) a.weight ∷ []
  pushed-whole h a = whole-push width rooms homes partials.nodes h a housed.each

  pub pushed-housed : (h : ℕ) (a : Node) (more : NodeRow) → more.nodes ≡ partials.nodes ++ a ∷ [] → h < count → AreHoused width rooms count (homes ++ h ∷ []) more
  pushed-housed h a more is low = record {
    long = housed.long;
    each = length-append homes (h ∷ []) ∙ ap (λ m. m + 1) housed.each ∙ sym (ap length is ∙ length-append partials.nodes (a ∷ []));
    named = named-push count homes h housed.named low;
  }
