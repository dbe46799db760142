use Rattle.std.proofs.Common.{ℕ, ◌≤◌, List, drop, drop_of_length-le, sym, length, ◌≡◌, refl, ◌+◌, ◌-◌, ◌<◌, get_or, ◌∙◌, ap, subst, arith, inl, inr, get_or-set_same}
use Rattle.std.specs.List.{sum}
use Rattle.std.proofs.lemmas.List.Sums.{sum_by-drop_more}
use Rattle.label_network.specs.Meanings.{sizes_in}
use Rattle.label_network.proofs.ChoiceMoves.{drop-whole, take_rest}
use Rattle.label_network.proofs.Narrowing.{chosen}
use Rattle.label_network.proofs.Rows.{length-abs}
use Rattle.sorted_tables.specs.SortedSteps.{stands_again}
use Rattle.sorted_tables.proofs.RaisedLoops.{enough-here, found, last-gathered, most-here, one-here, passed, searched-first, sum-here}
use Rattle.sorted_tables.proofs.gathering.next_gathered.Goals.{else-counts-i-via-then-counts-i+else-needed-later, else-counts-i-via-else-counts-i}
use Rattle.sorted_tables.proofs.gathering.next_gathered.Goals as goal

pub loop-i-init : goal.loop-i-init
loop-i-init c =
    let o = chosen c.args.total (sizes_in c.args.sizes.now) c.args.counts.now c.requires.allowed in
    let none = drop_of_length-le (sizes_in c.args.sizes.now) {i = length c.args.counts.now} (omega (arith, o.long)) in
    record {
      searched = searched-first o c.requires.gathered (omega (arith, length-abs c.args.sizes.now, c.requires.few));
      behind = ap sum (sym none);
    }

pub overflow_add-later : goal.overflow_add-later
overflow_add-later c = omega (arith, sum-here c.loop-i.invariant.searched c.loop-i-test.true, drop-whole (c.loop-i.i - 1) c.loop-i.counts, ap sum c.loop-i.invariant.searched.kept, c.loop-i.invariant.searched.choice.whole)

pub raise_counts-requires-clause-whole : goal.raise_counts-requires-clause-whole
raise_counts-requires-clause-whole c =
    rw (take_rest (c.loop-i.i - 1 + 1) c.read_sizes.new.sizes, c.read_sizes.ensures) (c.loop-i.invariant.behind ∙ ap (λ n. sum (drop n (sizes_in c.args.sizes.now))) (omega (arith, c.loop-i-test.true)))

pub overflow_sub-rest : goal.overflow_sub-rest
overflow_sub-rest c = rw (get_or-set_same c.loop-i.counts (c.loop-i.i - 1) (get_or c.loop-i.counts (c.loop-i.i - 1) 0 + 1) 0 (omega (arith, c.loop-i.invariant.searched.within, c.loop-i-test.true))) (one-here c.loop-i.invariant.searched c.loop-i-test.true (c.goes_on.ensures ∙ ap (λ rs. stands_again rs (c.loop-i.i - 1)) c.read_sizes.ensures) c.count_on-equal.ensures c.if-needed-later.true)

pub raise_counts-requires-clause-enough : goal.raise_counts-requires-clause-enough
raise_counts-requires-clause-enough c =
    rw (take_rest (c.loop-i.i - 1 + 1) c.read_sizes.new.sizes, c.read_sizes.ensures, get_or-set_same c.loop-i.counts (c.loop-i.i - 1) (get_or c.loop-i.counts (c.loop-i.i - 1) 0 + 1) 0 (omega (arith, c.loop-i.invariant.searched.within, c.loop-i-test.true)))
    (enough-here c.loop-i.invariant.searched c.loop-i-test.true (c.goes_on.ensures ∙ ap (λ rs. stands_again rs (c.loop-i.i - 1)) c.read_sizes.ensures) c.count_on-equal.ensures c.if-needed-later.true)

pub raise_counts-requires-clause-fits : goal.raise_counts-requires-clause-fits
raise_counts-requires-clause-fits c =
    rw (take_rest (c.loop-i.i - 1 + 1) c.read_sizes.new.sizes, c.read_sizes.ensures, get_or-set_same c.loop-i.counts (c.loop-i.i - 1) (get_or c.loop-i.counts (c.loop-i.i - 1) 0 + 1) 0 (omega (arith, c.loop-i.invariant.searched.within, c.loop-i-test.true)))
    (most-here c.loop-i.invariant.searched c.loop-i-test.true)

pub returns-then-needed-later : goal.returns-then-needed-later
returns-then-needed-later c =
    found c.loop-i.invariant.searched c.loop-i-test.true (c.goes_on.ensures ∙ ap (λ rs. stands_again rs (c.loop-i.i - 1)) c.read_sizes.ensures) c.count_on-equal.ensures c.if-needed-later.true
    (subst (λ rs. get_or c.loop-i.counts (c.loop-i.i - 1) 0 < get_or rs (c.loop-i.i - 1) 0) c.read_sizes.ensures c.if-counts-i.true) c.raise_counts.new.counts
    (rw (take_rest (c.loop-i.i - 1 + 1) c.read_sizes.new.sizes, c.read_sizes.ensures, get_or-set_same c.loop-i.counts (c.loop-i.i - 1) (get_or c.loop-i.counts (c.loop-i.i - 1) 0 + 1) 0 (omega (arith, c.loop-i.invariant.searched.within, c.loop-i-test.true))) at c.raise_counts.ensures) _ refl

-- the rows from one further to the front on
one-more : (r : List ℕ) (i behind size : ℕ) → 0 < i → i ≤ length r → behind ≡ sum (drop i r) → size ≡ get_or r (i - 1) 0 → behind + size ≡ sum (drop (i - 1) r)
one-more r i behind size some within e f =
    let back : i - 1 + 1 ≡ i = omega (arith, some) in
    omega (arith, e, f, rw back at (sum_by-drop_more (λ v. v) r (i - 1) 0 (omega (arith, some, within))))

pub overflow_add-behind : goal.overflow_add-behind
overflow_add-behind c =
    omega (
      arith,
      one-more (sizes_in c.args.sizes.now) c.loop-i.i c.loop-i.behind (get_or c.read_sizes.new.sizes (c.loop-i.i - 1) 0) c.loop-i-test.true (omega (arith, c.loop-i.invariant.searched.within, c.loop-i.invariant.searched.choice.long, ap length c.loop-i.invariant.searched.kept)) c.loop-i.invariant.behind (ap (λ rs. get_or rs (c.loop-i.i - 1) 0) c.read_sizes.ensures),
      drop-whole (c.loop-i.i - 1) (sizes_in c.args.sizes.now),
      c.requires.small,
    )

pub loop-i-preserved : goal.loop-i-preserved
loop-i-preserved c =
    let size : get_or c.read_sizes.new.sizes (c.loop-i.i - 1) 0 ≡ get_or (sizes_in c.args.sizes.now) (c.loop-i.i - 1) 0 = ap (λ rs. get_or rs (c.loop-i.i - 1) 0) c.read_sizes.ensures in
    record {
      searched = passed c.loop-i.invariant.searched c.loop-i-test.true (c.goes_on.ensures ∙ ap (λ rs. stands_again rs (c.loop-i.i - 1)) c.read_sizes.ensures) c.count_on-equal.ensures (elim c.else-counts-i.branch [
        | else-counts-i-via-then-counts-i+else-needed-later w ↦ inr (omega (arith, w.if-needed-later.false))
        | else-counts-i-via-else-counts-i w ↦ inl (omega (arith, w.if-counts-i.false, size))
      ]);
      behind = one-more (sizes_in c.args.sizes.now) c.loop-i.i c.loop-i.behind (get_or c.read_sizes.new.sizes (c.loop-i.i - 1) 0) c.loop-i-test.true (omega (arith, c.loop-i.invariant.searched.within, c.loop-i.invariant.searched.choice.long, ap length c.loop-i.invariant.searched.kept)) c.loop-i.invariant.behind size;
    }

pub returns : goal.returns
returns c = last-gathered c.loop-i.invariant.searched (omega arith)
