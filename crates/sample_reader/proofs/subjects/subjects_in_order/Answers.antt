use Rattle.std.proofs.Common.{rules, FitsSigned, ◌≡◌, ◌<◌, ◌∙◌, ◌++◌, ◌∷◌, [], List, get_or, length, true, pos, sym, ap, arith}
use Rattle.std.specs.Int.{w128}
use Rattle.std.specs.Result.{is_ok}
use Rattle.std.proofs.lemmas.Int.{to_z-of_z}
use Rattle.sample_reader.specs.PooledSample.{paired_subjects}
use Rattle.sample_reader.specs.declared.subjects.Subject.{Subject}
use Rattle.sample_reader.proofs.PooledLemmas.{paired_subjects-more}
use Rattle.sample_reader.proofs.subjects.subjects_in_order.Goals as goal

pub loop-i-init : goal.loop-i-init
unfolding paired_subjects
loop-i-init c = c.new-subjects.ensures.items

pub loop-i-preserved : goal.loop-i-preserved
loop-i-preserved c =
    let here = c.loop-i-test.true in
    let there : c.loop-i.i < length c.args.labels.now = omega (arith, c.requires) in
    let good : is_ok c.push.result ≡ true = search rules in
    let fits : FitsSigned w128 (get_or c.args.values.now c.loop-i.i (pos 0)) = search rules in
    let items = rw (good, to_z-of_z w128 (get_or c.args.values.now c.loop-i.i (pos 0)) fits) at c.push.ensures.items in
    items ∙ ap (λ (subjects : List Subject). subjects ++ record { value = get_or c.args.values.now c.loop-i.i (pos 0); label = get_or c.args.labels.now c.loop-i.i 0 } ∷ []) c.loop-i.invariant
    ∙ sym (paired_subjects-more c.args.values.now c.args.labels.now c.loop-i.i here there)
