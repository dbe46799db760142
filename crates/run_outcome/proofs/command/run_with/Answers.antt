use Rattle.std.proofs.Common.{◌≡◌, ◌∙◌, Ok, subst, sym}
use Rattle.std.specs.Prelude.{IfSome}
use Rattle.run_outcome.specs.Outcome.{outcome_of_command}
use Rattle.run_outcome.specs.Texts.{text_of}
use Rattle.run_outcome.specs.declared.status.Status.TheVariants as status
use Rattle.run_outcome.proofs.Merging.{merging-done, merging-refused, merging-write_fault}
use Rattle.run_outcome.proofs.PartAnswered.{written-text}
use Rattle.run_outcome.proofs.Promised.{never-done, promised-done, promised-refused, promised-write_fault}
use Rattle.run_outcome.proofs.Words.{words-status}
use Rattle.run_outcome.proofs.command.run_with.Goals as goal

pub returns-in-Ok-write_all-clause-promises : goal.returns-in-Ok-write_all-clause-promises
returns-in-Ok-write_all-clause-promises g c =
    let whole = rw c.as_slice.ensures at c.in-Ok-write_all.ensures.ok in
    promised-done _ (text_of c.in-Ok.text) _ _ _ _ _ c.in-Ok.ensures.comes whole

pub returns-in-Ok-clause-promises : goal.returns-in-Ok-clause-promises
returns-in-Ok-clause-promises g c =
    let prefix = rw c.as_slice.ensures at c.in-Err-write_all.ensures.err in
    rw c.refuse.ensures.status (promised-write_fault _ (text_of c.in-Ok.text) _ _ _ _ _ c.in-Ok.ensures.comes c.in-Err-write_all.ensures.fault prefix c.refuse.ensures.line)

pub returns-clause-promises : goal.returns-clause-promises
returns-clause-promises g c =
    rw c.refuse-in-Err.ensures.status (promised-refused c.in-Err.refusal _ _ _ _ _ _ c.in-Err.ensures.comes c.refuse-in-Err.ensures.line)

pub returns-clause-words : goal.returns-clause-words
returns-clause-words g c = λ fault is. rw c.refuse-in-Err.ensures.status (words-status c.in-Err.refusal fault (c.in-Err.ensures.words fault is))

pub returns-in-Ok-write_all-clause-merged : goal.returns-in-Ok-write_all-clause-merged
returns-in-Ok-write_all-clause-merged g c = λ file is.
    let whole = rw c.as_slice.ensures at c.in-Ok-write_all.ensures.ok in
    merging-done g.C.Catalogue.questions _ (text_of c.in-Ok.text) _ _ _ _ _ (c.in-Ok.ensures.merged file is) whole

pub returns-in-Ok-clause-merged : goal.returns-in-Ok-clause-merged
returns-in-Ok-clause-merged g c = λ file is.
    let prefix = rw c.as_slice.ensures at c.in-Err-write_all.ensures.err in
    rw c.refuse.ensures.status (merging-write_fault g.C.Catalogue.questions _ (text_of c.in-Ok.text) _ _ _ _ _ (c.in-Ok.ensures.merged file is) c.in-Err-write_all.ensures.fault prefix c.refuse.ensures.line)

pub returns-clause-merged : goal.returns-clause-merged
returns-clause-merged g c = λ file is.
    rw c.refuse-in-Err.ensures.status (merging-refused g.C.Catalogue.questions c.in-Err.refusal _ _ _ _ _ _ (c.in-Err.ensures.merged file is) c.refuse-in-Err.ensures.line)

pub returns-in-Ok-write_all-clause-written : goal.returns-in-Ok-write_all-clause-written
returns-in-Ok-write_all-clause-written g c = λ settings is done.
    let whole = rw c.as_slice.ensures at c.in-Ok-write_all.ensures.ok in
    let comes = subst (λ meaning. IfSome (outcome_of_command g.C.Catalogue.questions meaning (g.S.Source.held c.args.source.now)) (λ outcome. outcome ≡ Ok (text_of c.in-Ok.text))) is c.in-Ok.ensures.comes in
    written-text g.C.Catalogue.questions settings _ (text_of c.in-Ok.text) _ comes (c.in-Ok.ensures.answerable settings is) whole

pub returns-in-Ok-clause-written : goal.returns-in-Ok-clause-written
returns-in-Ok-clause-written g c = λ settings is done. let none : status.WriteFault ≡ status.Done = sym c.refuse.ensures.status ∙ done in absurd cc

pub returns-clause-written : goal.returns-clause-written
returns-clause-written g c = λ settings is done. absurd (never-done c.in-Err.refusal (sym c.refuse-in-Err.ensures.status ∙ done))
