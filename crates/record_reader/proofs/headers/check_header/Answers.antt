use Rattle.std.proofs.Common.{ℕ, nat_lt, sym, ap, ◌∙◌, rules, tests}
use Rattle.std.specs.List.{list_any}
use Rattle.std.proofs.lemmas.Iterator.{YieldsList-from_slice}
use Rattle.std.proofs.lemmas.Iterator.Search.{any_from_yields_List}
use Rattle.record_reader.proofs.LayoutLemmas.{AreFields-range, picked-listed}
use Rattle.record_reader.proofs.headers.check_header.Goals as goal

pub returns-else-width-shape-2-clause-within : goal.returns-else-width-shape-2-clause-within
returns-else-width-shape-2-clause-within c = rw c.in-Natural.is (AreFields-range c.args.width)

pub returns-else-any-clause-fields : goal.returns-else-any-clause-fields
returns-else-any-clause-fields c =
    let above = λ (field : ℕ). nat_lt c.args.width field in
    let found = any_from_yields_List above _ _ c.any.result c.any.ensures.ran (YieldsList-from_slice c.as_slice.result.now cc) (λ x b q k. search (rules, tests)) in
    let none = ap (list_any above) (sym c.as_slice.ensures) ∙ sym found ∙ c.if-any.false in
    rw c.in-Listed.is (picked-listed c.args.shape c.in-Listed.fields c.args.width none)
