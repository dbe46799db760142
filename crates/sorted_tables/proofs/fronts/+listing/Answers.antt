use Rattle.std.proofs.Common.{rules, ◌≡◌, ℕ, ◌/◌, ◌<◌, List, ◌∷◌, ◌++◌, ap, arith, drop, drop-cons, get_or, length, min, subst, sym, ◌∙◌}
use Rattle.label_network.proofs.ChoiceMoves.{take_rest}
use Rattle.sorted_tables.specs.FrontSteps.{IsFront, front_lines}
use Rattle.sorted_tables.specs.SortedSteps.{run_from}
use Rattle.sorted_tables.proofs.FrontLines.{listed-all, listed-between, listed-first, listed-more, most_of, next-count, front-on}
use Rattle.sorted_tables.proofs.fronts.+listing.Goals as goal

-- rows are the first one and those behind it
split : (rows : List ℕ) → 1 < length rows → rows ≡ get_or rows 0 0 ∷ drop 1 rows
split rows h = drop-cons rows 0 0 (omega (arith, h))

in-two : {width orders : ℕ} {rows : List ℕ} {front : _} → IsFront width orders rows front → 1 < length rows → IsFront width orders (get_or rows 0 0 ∷ drop 1 rows) front
in-two {width = width} {orders = orders} {rows = rows} {front = front} is h = subst (λ s. IsFront width orders s front) (split rows h) is

most-is : (rows : List ℕ) (column run most : ℕ) → 1 < length rows → run ≡ run_from rows → most ≡ min (get_or rows 0 0) (column / run) → most ≡ most_of column (get_or rows 0 0) (drop 1 rows)
most-is rows column run most h e f = f ∙ ap (λ n. min (get_or rows 0 0) (column / n)) (e ∙ ap run_from (split rows h))

pub list_next-loop-count-init : goal.list_next-loop-count-init
list_next-loop-count-init t c =
    listed-first (in-two c.requires.front c.requires.more) c.min-most.result c.least_of-count.result c.args.lines.now.items (most-is c.args.rows.now c.args.front.column c.run_of.result c.min-most.result c.requires.more c.run_of.ensures.run c.min-most.ensures) c.least_of-count.ensures

pub list_next-with_row-next-requires : goal.list_next-with_row-next-requires
list_next-with_row-next-requires t c =
    let most = most-is c.args.rows.now c.args.front.column c.run_of.result c.min-most.result c.requires.more c.run_of.ensures.run c.min-most.ensures in
    next-count c.args.binomials.now.width c.args.orders (get_or c.args.rows.now 0 0) c.loop-count.count (drop 1 c.args.rows.now) c.args.front (in-two c.requires.front c.requires.more) (listed-between (in-two c.requires.front c.requires.more) c.loop-count.invariant most)

pub list_next-list_behind-requires : goal.list_next-list_behind-requires
list_next-list_behind-requires t c =
    let most = most-is c.args.rows.now c.args.front.column c.run_of.result c.min-most.result c.requires.more c.run_of.ensures.run c.min-most.ensures in
    (search rules, rw (take_rest 1 c.args.rows.now, c.with_row-next.ensures) (front-on c.args.binomials.now.width c.args.orders (get_or c.args.rows.now 0 0) c.loop-count.count (drop 1 c.args.rows.now) c.args.front (in-two c.requires.front c.requires.more) (listed-between (in-two c.requires.front c.requires.more) c.loop-count.invariant most)))

pub list_next-returns-then-count-most : goal.list_next-returns-then-count-most
list_next-returns-then-count-most t c =
    let most = most-is c.args.rows.now c.args.front.column c.run_of.result c.min-most.result c.requires.more c.run_of.ensures.run c.min-most.ensures in
    rw (take_rest 1 c.args.rows.now, c.with_row-next.ensures) at c.in_ok-list_behind.ensures
    ∙ listed-all (in-two c.requires.front c.requires.more) c.loop-count.invariant most (omega (arith, c.if-count-most.true))
    ∙ ap (λ s. c.args.lines.now.items ++ front_lines c.args.orders c.args.front s) (sym (split c.args.rows.now c.requires.more))

pub list_next-loop-count-preserved : goal.list_next-loop-count-preserved
list_next-loop-count-preserved t c =
    let most = most-is c.args.rows.now c.args.front.column c.run_of.result c.min-most.result c.requires.more c.run_of.ensures.run c.min-most.ensures in
    listed-more (in-two c.requires.front c.requires.more) c.loop-count.invariant most (omega (arith, c.if-count-most.false)) c.list_behind.new.lines.items (rw (take_rest 1 c.args.rows.now, c.with_row-next.ensures) at c.in_ok-list_behind.ensures)
