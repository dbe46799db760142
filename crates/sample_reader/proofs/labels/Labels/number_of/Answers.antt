use Rattle.std.proofs.Common.{◌≡◌, length, arith, bytes_eq, sym, ap, ◌∙◌, rules, tests}
use Rattle.std.specs.List.{position}
use Rattle.std.specs.Option.{unwrap_or}
use Rattle.std.proofs.lemmas.Iterator.{YieldsList-from_slice}
use Rattle.std.proofs.lemmas.Iterator.Search.{position_from_yields_List}
use Rattle.sample_reader.specs.Groups.{number_among}
use Rattle.sample_reader.proofs.Appearances.{unwrap_or-position}
use Rattle.sample_reader.proofs.SubjectLemmas.{position_or_len-map}
use Rattle.sample_reader.proofs.labels.Labels.number_of.Goals as goal

pub returns : goal.returns
returns c =
    let kept = c.self.inside.labels.items in
    let found = position_from_yields_List (λ known. bytes_eq known.items c.args.label.now) _ _ c.position.result c.position.ensures.ran (YieldsList-from_slice kept cc) (λ x b q k. search (rules, tests)) in
    let length_is : c.len.result ≡ length kept = omega (arith, c.self.inside.labels.ok.0) in
    c.unwrap_or.ensures ∙ ap (λ o. unwrap_or o c.len.result) found ∙ ap (unwrap_or (position (λ known. bytes_eq known.items c.args.label.now) kept)) length_is ∙ unwrap_or-position _ kept
    ∙ sym (position_or_len-map (λ label. label.items) (λ known. bytes_eq known c.args.label.now) kept) ∙ ap (λ labels. number_among bytes_eq labels c.args.label.now) c.self.view_is
