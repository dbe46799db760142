use Rattle.std.proofs.Common.{◌≡◌, ◌++◌, List, ℕ, OnOk, codes, append_assoc, subst}
use Rattle.std.specs.Fmt.{decimal}
use Rattle.report.specs.Report.{line, size_lines}
use Rattle.report.proofs.heading_lines.push_sizes.Goals as goal

pub returns-in_ok-push_number-in-Blocks : goal.returns-in_ok-push_number-in-Blocks
unfolding size_lines
returns-in_ok-push_number-in-Blocks c =
    let last : List ℕ = codes " treatments " ++ decimal c.in-Blocks.treatments in
    let whole : c.push_number-in-Blocks.new.text ++ line last ≡ c.args.text.now ++ size_lines c.args.sizes.now = rw (c.in_ok-push_number-in-Blocks.ensures, c.in-Blocks.is) (simp append_assoc) in
    subst (λ (told : List ℕ). OnOk c.end_line-in-Blocks.result (c.end_line-in-Blocks.new.text ≡ told)) whole c.end_line-in-Blocks.ensures
