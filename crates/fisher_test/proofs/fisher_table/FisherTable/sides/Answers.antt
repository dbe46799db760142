use Rattle.std.proofs.Common.{◌≡◌, true, ◌∙◌, subst, sym, rules}
use Rattle.weights.specs.declared.tails.Tail.TheVariants.{Less, Greater, Two}
use Rattle.networks.specs.Follows.{Follows}
use Rattle.networks.specs.Judged.{judge_of}
use Rattle.networks.proofs.Following.{extreme-is}
use Rattle.table_reader.specs.TableLayout.{TableData}
use Rattle.table_sums.specs.Tables.{is_two_by_two}
use Rattle.fisher_test.specs.FisherExact.{fisher_test}
use Rattle.fisher_test.proofs.fisher_table.FisherTable.sides.Goals as goal

pub tail_sums_by_rooms-requires : goal.tail_sums_by_rooms-requires
tail_sums_by_rooms-requires c =
    let table : TableData = c.args.self.now in
    let square : is_two_by_two table ≡ true = search rules in
    let follows = subst (Follows (fisher_test table) Less) (sym c.in_ok-cells.ensures) (c.facts.ensures.follows Less square) in
    record { judge = judge_of (fisher_test table); intervals = follows.intervals }

pub returns : goal.returns
returns c Less a =
    let table : TableData = c.args.self.now in
    c.in_ok-sums.ensures.sum Less a ∙ extreme-is (fisher_test table) Less _ (subst (Follows (fisher_test table) Less) (sym c.in_ok-cells.ensures) (c.facts.ensures.follows Less (c.requires.has Less a)))
returns c Greater a =
    let table : TableData = c.args.self.now in
    c.in_ok-sums.ensures.sum Greater a ∙ extreme-is (fisher_test table) Greater _ (subst (Follows (fisher_test table) Greater) (sym c.in_ok-cells.ensures) (c.facts.ensures.follows Greater (c.requires.has Greater a)))
returns c Two a = search (a, c.requires.one_sided)
