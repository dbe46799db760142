use Rattle.std.proofs.Common.{◌+◌, ◌-◌, ◌*◌, drop, length}
use Rattle.sorted_tables.proofs.FrontLines.{IsListed}
use Rattle.sorted_tables.proofs.fronts.+listing.Given as goal

abbrev pub decreases-list_behind : goal.decreases-list_behind
decreases-list_behind l = 2 * length l.rows.now + 1

abbrev pub decreases-list_next : goal.decreases-list_next
decreases-list_next l = 2 * length l.rows.now

-- the choices with fewer for the next row are listed
abbrev pub invariant-list_next-loop-count : goal.invariant-list_next-loop-count
invariant-list_next-loop-count l = IsListed l.orders l.front l.size (drop 1 l.rows) l.most l.count l.fn.lines.items l.lines.items

abbrev pub decreases-list_next-loop-count : goal.decreases-list_next-loop-count
decreases-list_next-loop-count l = l.most - l.count
