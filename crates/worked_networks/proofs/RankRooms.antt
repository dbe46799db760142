-- The sizes that are left make a room.
use Rattle.std.proofs.Common.{◌≡◌, ℕ, ◌+◌, ◌*◌, ◌≤◌, List, [], ◌∷◌, length, take, drop, ◌++◌, Bool, true, false, cond, eqb, refl, ◌∙◌, sym, ap, arith}
use Rattle.std.specs.Prelude.{ℤ, pos, ◌+ℤ◌, ◌-ℤ◌, slice_index}
use Rattle.std.proofs.lemmas.Int.{ints}
use Rattle.networks.specs.Rooms.{IsRoomed}
use Rattle.worked_networks.specs.SampleRanks.{at, rank_network, rank_step}
use Rattle.worked_networks.proofs.RankLaws.{Ranked, ranked}

-- the next room, of a room
room_next : List ℤ → Bool → List ℤ
room_next k b = cond b ((at k 0 -ℤ pos 1) ∷ at k 1 ∷ []) (at k 0 ∷ (at k 1 -ℤ pos 1) ∷ [])

next_room : (m n : ℕ) (t : ℤ) (g : ℕ) (a b s : ℤ) (c : List ℕ) → take 2 ((rank_network m n t).next g (a ∷ b ∷ s ∷ []) c) ≡ room_next (a ∷ b ∷ []) (eqb (slice_index c 0) 0)
unfolding room_next
next_room m n t g a b s c = elim (eqb (slice_index c 0) 0) as (λ x. take 2 (cond x ((a -ℤ pos 1) ∷ b ∷ s ∷ []) (a ∷ (b -ℤ pos 1) ∷ (s +ℤ pos (2 * (g + 1))) ∷ [])) ≡ cond x ((a -ℤ pos 1) ∷ b ∷ []) (a ∷ (b -ℤ pos 1) ∷ [])) [ true ↦ refl | false ↦ refl ]

pub rank_roomed : (m n : ℕ) (t : ℤ) → IsRoomed (rank_network m n t) 2
rank_roomed m n t = record {
  within = omega arith;
  choices = λ g j k mates. (
      let h : Ranked m n t g j = ranked m n t g j mates.first in
      let i : Ranked m n t g k = ranked m n t g k mates.second in
      let rooms : pos h.0 ∷ pos h.1 ∷ [] ≡ pos i.0 ∷ pos i.1 ∷ [] = sym (ap (take 2) h.3) ∙ mates.same ∙ ap (take 2) i.3 in
      ap ((rank_network m n t).choices g) h.3 ∙ ap ((rank_network m n t).choices g) rooms ∙ sym (ap ((rank_network m n t).choices g) i.3));
  weight = λ g j k c mates a. refl;
  next = λ g j k c mates a. (
      let h : Ranked m n t g j = ranked m n t g j mates.first in
      let i : Ranked m n t g k = ranked m n t g k mates.second in
      let rooms : pos h.0 ∷ pos h.1 ∷ [] ≡ pos i.0 ∷ pos i.1 ∷ [] = sym (ap (take 2) h.3) ∙ mates.same ∙ ap (take 2) i.3 in
      ap (λ l. take 2 ((rank_network m n t).next g l c)) h.3 ∙ next_room m n t g (pos h.0) (pos h.1) (pos h.2) c ∙ ap (λ l. room_next l (eqb (slice_index c 0) 0)) rooms
      ∙ sym (ap (λ l. take 2 ((rank_network m n t).next g l c)) i.3 ∙ next_room m n t g (pos i.0) (pos i.1) (pos i.2) c));
}

-- the partial of a key, and how it grows
pub partial-at : (room partial : List ℤ) → length room ≡ 2 → at (room ++ partial) 2 ≡ at partial 0
partial-at [] partial e = absurd (omega (arith, e))
partial-at (a ∷ []) partial e = absurd (omega (arith, e))
partial-at (a ∷ b ∷ []) partial e = refl
partial-at (a ∷ b ∷ c ∷ room) partial e = absurd (omega (arith, e))

pub step-next : (m n : ℕ) (t : ℤ) (g : ℕ) (k : List ℤ) (c : List ℕ) → drop 2 ((rank_network m n t).next g k c) ≡ (at k 2 +ℤ at (rank_step g c) 0) ∷ []
step-next m n t g k c = elim (eqb (slice_index c 0) 0) as (λ x. drop 2 (cond x ((at k 0 -ℤ pos 1) ∷ at k 1 ∷ at k 2 ∷ []) (at k 0 ∷ (at k 1 -ℤ pos 1) ∷ (at k 2 +ℤ pos (2 * (g + 1))) ∷ [])) ≡ (at k 2 +ℤ at (cond x (pos 0 ∷ []) (pos (2 * (g + 1)) ∷ [])) 0) ∷ []) [
  | true ↦ ap (λ z. z ∷ []) (let e : at k 2 ≡ at k 2 +ℤ pos 0 = omega (arith, ints) in e)
  | false ↦ refl
]

pub step-small : (g : ℕ) (c : List ℕ) → g ≤ 126 → (s : ℕ) × (at (rank_step g c) 0 ≡ pos s) × (s ≤ 254)
step-small g c h = elim (eqb (slice_index c 0) 0) as (λ x. (s : ℕ) × (at (cond x (pos 0 ∷ []) (pos (2 * (g + 1)) ∷ [])) 0 ≡ pos s) × (s ≤ 254)) [
  | true ↦ (0, refl, omega arith)
  | false ↦ (2 * (g + 1), refl, omega (arith, h))
]
