use Rattle.std.proofs.Common.{◌≡◌, rules}
use Rattle.std.specs.Ordering.{is_lt}
use Rattle.std.proofs.lemmas.Cmp.{lists_total, int_cmp_total, on_total, then_total}
use Rattle.std.proofs.lemmas.List.Sorted.{ranks_by, answers_always}
use Rattle.stage_network.specs.declared.ordering.Entry.{Entry}
use Rattle.stage_network.specs.Ordering.{entry_cmp}
use Rattle.stage_network.proofs.ordering.sort_entries.Goals as goal

pub returns-clause-sorted : goal.returns-clause-sorted
returns-clause-sorted c =
    c.sort_unstable_by.ensures.sorted (λ (a : Entry) (b : Entry). is_lt (entry_cmp a b)) (ranks_by {R = entry_cmp} (then_total (on_total (λ (a : Entry). a.room.now) (lists_total int_cmp_total)) (on_total (λ (a : Entry). a.partial.now) (lists_total int_cmp_total))) (λ (a : Entry). a))
    (answers_always _ (λ a r. is_lt r ≡ is_lt (entry_cmp a.0.now a.1.0.now)) _ (λ f a r f' called. search rules))
