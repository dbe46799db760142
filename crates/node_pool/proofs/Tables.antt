-- A table, one key at a time.
use Rattle.std.proofs.Common.{◌≡◌, ◌≢◌, ℕ, ◌+◌, ◌-◌, ◌<◌, ◌≤◌, List, length, get_or, set, arith, sym, ◌∙◌, ap, inl, inr, ◌⊎◌}
use Rattle.std.specs.Prelude.{ℤ}
use Rattle.std.proofs.lemmas.Bool.{cases_eq}
use Rattle.std.proofs.lemmas.List.{length-set, get_or-set_same, get_or-set_other}
use Rattle.node_pool.specs.HashSteps.{home_of}
use Rattle.node_pool.specs.TableSteps.{IsTable, IsWalk, key_at, spot, AllEmpty}
use Rattle.node_pool.proofs.Spots.{count-filled, count-empty}

-- a full slot stays full, and what it holds stays
kept : (buckets : List ℕ) (slot n s : ℕ) → get_or buckets slot 0 ≡ 0 → 0 < get_or buckets s 0 → get_or (set buckets slot (n + 1)) s 0 ≡ get_or buckets s 0
kept buckets slot n s free full =
    let ne : s ≢ slot = λ e. omega (arith, free, full, ap (λ t. get_or buckets t 0) e) in
    get_or-set_other buckets slot s (n + 1) 0 ne

walk-kept : (buckets : List ℕ) (home at slot n : ℕ) → get_or buckets slot 0 ≡ 0 → IsWalk buckets home at → IsWalk (set buckets slot (n + 1)) home at
walk-kept buckets home at slot n free w =
    let same : length (set buckets slot (n + 1)) ≡ length buckets = length-set buckets slot (n + 1) in
    record {
      far = w.far;
      near = rw same w.near;
      ends = rw same w.ends;
      full = λ e low. rw same (rw (kept buckets slot n (spot (length buckets) home e) free (w.full e low)) (w.full e low));
    }

module _ (width n : ℕ) (keys keys' : List ℤ) (slots slots' buckets : List ℕ) (slot : ℕ) (table : IsTable width n keys slots buckets)
    (within : slot < length buckets) (free : get_or buckets slot 0 ≡ 0)
    (walk : IsWalk buckets (home_of (length buckets) (key_at width keys' n)) slot)
    (same_keys : (i : ℕ) → i < n → key_at width keys' i ≡ key_at width keys i)
    (same_slots : (i : ℕ) → i < n → get_or slots' i 0 ≡ get_or slots i 0)
    (new_slot : get_or slots' n 0 ≡ slot) where
  same-length : length (set buckets slot (n + 1)) ≡ length buckets
  same-length = length-set buckets slot (n + 1)

  at_slot : get_or (set buckets slot (n + 1)) slot 0 ≡ n + 1
  at_slot = get_or-set_same buckets slot (n + 1) 0 within

  last_or_before : (i : ℕ) → i < n + 1 → (i ≡ n) ⊎ (i < n)
  last_or_before i h = grind arith

  entry' : (s : ℕ) → s < length (set buckets slot (n + 1)) → get_or (set buckets slot (n + 1)) s 0 ≤ n + 1
  entry' s h = elim (cases_eq s slot) [
    | inl e ↦ rw e (omega (arith, at_slot))
    | inr ne ↦ rw (get_or-set_other buckets slot s (n + 1) 0 ne) (omega (arith, table.entry s (omega (arith, h, same-length))))
  ]

  back' : (s : ℕ) → s < length (set buckets slot (n + 1)) → 0 < get_or (set buckets slot (n + 1)) s 0 → get_or slots' (get_or (set buckets slot (n + 1)) s 0 - 1) 0 ≡ s
  back' s h full = elim (cases_eq s slot) [
    | inl e ↦
        let last : get_or (set buckets slot (n + 1)) s 0 - 1 ≡ n = rw e (rw at_slot (omega arith)) in
        rw last (new_slot ∙ sym e)
    | inr ne ↦
        let old : get_or (set buckets slot (n + 1)) s 0 ≡ get_or buckets s 0 = get_or-set_other buckets slot s (n + 1) 0 ne in
        let was : 0 < get_or buckets s 0 = omega (arith, full, old) in
        let low : s < length buckets = omega (arith, h, same-length) in
        rw old (same_slots (get_or buckets s 0 - 1) (omega (arith, table.entry s low, was)) ∙ table.back s low was)
  ]

  held' : (i : ℕ) → i < n + 1 → get_or (set buckets slot (n + 1)) (get_or slots' i 0) 0 ≡ i + 1
  held' i h = elim (last_or_before i h) [
    | inl e ↦ rw e (rw new_slot at_slot)
    | inr low ↦ rw (same_slots i low) (kept buckets slot n (get_or slots i 0) free (omega (arith, table.held i low)) ∙ table.held i low)
  ]

  within' : (i : ℕ) → i < n + 1 → get_or slots' i 0 < length (set buckets slot (n + 1))
  within' i h = elim (last_or_before i h) [
    | inl e ↦ rw e (rw new_slot (omega (arith, within, same-length)))
    | inr low ↦ rw (same_slots i low) (omega (arith, table.within i low, same-length))
  ]

  walk' : (i : ℕ) → i < n + 1 → IsWalk (set buckets slot (n + 1)) (home_of (length (set buckets slot (n + 1))) (key_at width keys' i)) (get_or slots' i 0)
  walk' i h = rw same-length (elim (last_or_before i h) [
    | inl e ↦ rw e (rw new_slot (walk-kept buckets _ slot slot n free walk))
    | inr low ↦ rw (same_slots i low) (rw (same_keys i low) (walk-kept buckets _ _ slot n free (table.walk i low)))
  ])

  pub table-more : IsTable width (n + 1) keys' slots' (set buckets slot (n + 1))
  table-more = record {
    entry = entry';
    back = back';
    held = held';
    within = within';
    walk = walk';
    counted = omega (arith, count-filled buckets slot n within free, table.counted);
  }

pub table-none : (width : ℕ) (keys : List ℤ) (slots buckets : List ℕ) → AllEmpty buckets → IsTable width 0 keys slots buckets
table-none width keys slots buckets empty = record {
  entry = λ s h. omega (arith, empty s);
  back = λ s h full. absurd (omega (arith, empty s, full));
  held = λ i h. absurd (omega arith);
  within = λ i h. absurd (omega arith);
  walk = λ i h. absurd (omega (arith, h));
  counted = omega (arith, count-empty buckets empty);
}
