use Rattle.std.proofs.Common.{◌++◌, [], ◌∷◌, subst, sym}
use Rattle.std.proofs.lemmas.Result.{on_ok_weaker}
use Rattle.weights.specs.Labellings.{labellings}
use Rattle.enumerate.specs.Joined.{joined_labellings}
use Rattle.enumerate.specs.Walk.{BeginsWith}
use Rattle.enumerate.proofs.JoinedSteps.{begins-more}
use Rattle.enumerate.proofs.joined.append_first.Goals as goal

pub returns : goal.returns
returns c =
    on_ok_weaker c.append.result (λ e parts b. subst (BeginsWith (joined_labellings (parts ++ c.args.counts.now ∷ []))) (sym e) (begins-more parts c.args.labels.now c.args.counts.now c.as_slice-2.result.now b (subst (BeginsWith (labellings c.args.counts.now)) (sym c.as_slice-2.ensures) c.in_ok-first_labelling.ensures))) c.append.ensures.ok
