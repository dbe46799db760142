use Rattle.std.proofs.Common.{◌==◌, ◌∷◌, ◌++◌, [], rules, tests, ap, sym, zero-add, ◌∙◌}
use Rattle.std.specs.List.{count_by}
use Rattle.std.proofs.lemmas.Iterator.{YieldsList-from_slice}
use Rattle.std.proofs.lemmas.Iterator.Consumers.{YieldsList-from_filter, count_from_yields_List}
use Rattle.std.proofs.lemmas.List.FromFn.{map-range_with_len_more}
use Rattle.std.proofs.lemmas.List.Sums.{length-filter}
use Rattle.sample_reader.proofs.samples.sizes_of.Goals as goal

pub loop-group-preserved : goal.loop-group-preserved
loop-group-preserved c =
    let group = c.loop-group.group-counter in
    let members = c.args.members.now in
    let size = count_from_yields_List _ c.count-size.result c.count-size.ensures.ran (YieldsList-from_filter _ (λ member. member == group) (YieldsList-from_slice members cc) c.filter.ensures.closure (λ x b q k. search (rules, tests))) in
    c.in_ok-push.ensures.ok ∙ ap (λ n. c.loop-group.sizes ++ n ∷ []) (size ∙ length-filter (λ member. member == group) members)
    ∙ ap (λ sizes. sizes ++ count_by (λ member. member == group) members ∷ []) c.loop-group.invariant
    ∙ sym (map-range_with_len_more (λ i. count_by (λ member. member == i) members) 0 group group (zero-add group))
