use Rattle.std.proofs.Common.{◌^◌, ◌∙◌, refl, ap}
use Rattle.scores.specs.RawScores.{decimals}
use Rattle.shift_limits.proofs.Sampled.{differences-range, differences-some, sample-range}
use Rattle.shift_limits.proofs.differences.differences_of.Goals as goal

pub ascending_between-requires-clause-earlier : goal.ascending_between-requires-clause-earlier
ascending_between-requires-clause-earlier c =
    rw (c.as_slice-3.ensures, c.in_ok-first.ensures, c.as_slice.ensures, c.in_ok-whole.ensures.list, c.as_slice-values.ensures, c.as_slice-members.ensures) (sample-range c.args.groups.now 0)

pub ascending_between-requires-clause-later : goal.ascending_between-requires-clause-later
ascending_between-requires-clause-later c =
    rw (c.as_slice-4.ensures, c.in_ok-second.ensures, c.as_slice-2.ensures, c.in_ok-whole.ensures.list, c.as_slice-values.ensures, c.as_slice-members.ensures) (sample-range c.args.groups.now 1)

pub returns : goal.returns
returns c =
    let groups = c.args.groups.now in
    record {
      places = c.in_ok-whole.ensures.power ∙ ap (λ vs. 10 ^ decimals vs) c.as_slice-values.ensures;
      list = c.in_ok-list.ensures ∙ rw (c.as_slice-3.ensures, c.as_slice-4.ensures, c.in_ok-first.ensures, c.in_ok-second.ensures, c.as_slice.ensures, c.as_slice-2.ensures, c.in_ok-whole.ensures.list, c.as_slice-values.ensures, c.as_slice-members.ensures) refl;
      some = differences-some groups c.requires;
      in_range = differences-range groups;
    }
