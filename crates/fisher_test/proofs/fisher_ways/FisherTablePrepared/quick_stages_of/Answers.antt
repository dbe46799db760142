use Rattle.std.proofs.Common.{◌≡◌, ◌∙◌, false, rules, subst, sym}
use Rattle.std.proofs.lemmas.Result.{IfOk-weaker}
use Rattle.networks.specs.Follows.{Follows}
use Rattle.room_network.specs.Meanings.{Meaning}
use Rattle.room_network.specs.RoomNetworks.{room_network}
use Rattle.sorted_tables.specs.SortedRooms.{sorted_weight}
use Rattle.table_sums.specs.Tables.{is_two_by_two}
use Rattle.fisher_test.specs.FisherExact.{fisher_test}
use Rattle.fisher_test.proofs.SortedTests.{along-sorted}
use Rattle.fisher_test.proofs.fisher_ways.FisherTablePrepared.quick_stages_of.Goals as goal

pub returns-then-made : goal.returns-then-made
returns-then-made c =
    IfOk-weaker c.stages_of.result _ _ (λ s e t has same. subst (Follows (fisher_test c.args.self.now) t) (same ∙ sym e) (c.stages_of.ensures.follows t has)) c.stages_of.ensures.built

pub returns : goal.returns
returns c t has same =
    let large : is_two_by_two c.args.self.now ≡ false = search rules in
    subst (λ (m : Meaning). Follows (fisher_test c.args.self.now) t (room_network m sorted_weight)) (sym c.in_ok-sorted.ensures) (along-sorted c.args.self.now c.made.ensures.fitting large c.args.tail t has same)
