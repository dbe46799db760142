use Rattle.std.proofs.Common.{◌≡◌, ◌+◌, ◌<◌, ◌≤◌, ℕ, List, length, take, get_or, min, Result, Ok, Err, inl, inr, ap, sym, subst, ◌∙◌, arith}
use Rattle.std.specs.Prelude.{ℤ, OnOk}
use Rattle.std.proofs.lemmas.Bool.{cases_lt}
use Rattle.std.proofs.lemmas.List.{length-take-le, with_items_is}
use Rattle.score_convolution.specs.DrawRows.{AreRows, IsRowOf}
use Rattle.score_convolution.specs.declared.rows.DrawRow.{DrawRow}
use Rattle.score_convolution.proofs.draws.add_subject.Goals as goal

both-ok : {T E P Q R : Type 0} (r : Result T E) → (P → Q → R) → OnOk r P → OnOk r Q → OnOk r R
both-ok (Ok x) f p q = f p q
both-ok (Err e) f p q = tt

module _ {K : Type 0} (cells_of : K → List ℕ) (limit most : ℕ) (scores : List ℤ) (i last : ℕ) (old mid : List (DrawRow K)) (h : i < length scores) (is : last ≡ min most i) where
  abbrev RowOf : ℕ → ℕ → DrawRow K → Type 0
  RowOf k n row = IsRowOf cells_of limit (take k scores) n row

  before-is : AreRows cells_of limit most (take i scores) old → ((n : ℕ) (d : DrawRow K) → n ≤ min most i → get_or mid n d ≡ get_or old n d)
      → (n : ℕ) (d : DrawRow K) → n ≤ last → IsRowOf cells_of limit (take i scores) n (get_or mid n d)
  before-is are before n d l =
      let long : length (take i scores) ≡ i = length-take-le i scores (omega (arith, h)) in
      rw (before n d (omega (arith, l, is))) (are.each n d (omega (arith, are.long, ap (min most) long, l, is)))

  -- the rows that are added, and the one behind them
  after-are : (new : List (DrawRow K)) → length new ≡ length mid → length mid ≡ min most (i + 1) + 1
      → ((n : ℕ) (d : DrawRow K) → min most i < n → n < length mid → RowOf (i + 1) n (get_or mid n d))
      → ((n : ℕ) (d : DrawRow K) → n ≤ last → IsRowOf cells_of limit (take (i + 1) scores) n (get_or new n d))
      → ((n : ℕ) (d : DrawRow K) → last < n → get_or new n d ≡ get_or mid n d)
      → AreRows cells_of limit most (take (i + 1) scores) new
  after-are new long all next after behind = record {
    long = omega (arith, long, all, ap (min most) (length-take-le (i + 1) scores (omega (arith, h))));
    each = λ n d l. elim (cases_lt last n) [
      | inl b ↦ rw (behind n d b) (next n d (omega (arith, b, is)) (omega (arith, l, long)))
      | inr b ↦ after n d b
    ];
  }

pub add_down-requires-clause-before : goal.add_down-requires-clause-before
add_down-requires-clause-before g c =
    let mid : List (DrawRow g.row.K.Denot) = c.with_next.new.rows.items in
    rw c.as_mut_slice.ensures.value
    (before-is g.K.Tally.cells g.K.Tally.LIMIT c.args.most c.args.scores.now c.args.i c.in_ok-last.last c.args.rows.now.items mid c.requires.i c.in_ok-last.ensures.last c.requires.rows c.in_ok-last.ensures.before)

pub returns-clause-rows : goal.returns-clause-rows
returns-clause-rows g c =
    let cells_of = g.K.Tally.cells in
    let limit = g.K.Tally.LIMIT in
    let old : List (DrawRow g.row.K.Denot) = c.args.rows.now.items in
    let mid : List (DrawRow g.row.K.Denot) = c.with_next.new.rows.items in
    let new : List (DrawRow g.row.K.Denot) = c.add_down.new.rows in
    let value = c.as_mut_slice.ensures.value in
    let long : length new ≡ length mid = c.add_down.ensures.long ∙ ap length value in
    let written = with_items_is c.with_next.new.rows new (long ∙ sym c.with_next.new.rows.ok.0) in
    both-ok c.add_down.result (λ after behind. subst (AreRows cells_of limit c.args.most (take (c.args.i + 1) c.args.scores.now)) (sym written)
    (after-are cells_of limit c.args.most c.args.scores.now c.args.i c.in_ok-last.last old mid c.requires.i c.in_ok-last.ensures.last new long c.in_ok-last.ensures.long c.in_ok-last.ensures.next
    after
    (rw value at behind))) c.add_down.ensures.after c.add_down.ensures.behind
