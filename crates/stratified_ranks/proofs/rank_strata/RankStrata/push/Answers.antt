use Rattle.std.proofs.Common.{◌≡◌, ◌∙◌, ap}
use Rattle.midranks.specs.Ties.{tie_groups}
use Rattle.sample_reader.specs.PooledSample.{values_of}
use Rattle.stratified_ranks.proofs.RankColumns.{values-long}
use Rattle.stratified_ranks.proofs.OneMoreStratum.{lists-more}
use Rattle.stratified_ranks.proofs.rank_strata.RankStrata.push.Goals as goal

pub push_columns-requires-clause-all : goal.push_columns-requires-clause-all
push_columns-requires-clause-all c = rw (c.as_slice-3.ensures ∙ c.in_ok-ties.ensures.groups ∙ ap tie_groups (c.as_slice.ensures ∙ c.in_ok-values.ensures), c.part_of-part.ensures) (values-long c.args.subjects.now)

pub returns : goal.returns
returns c strata a =
    let ties : c.as_slice-3.result.now ≡ tie_groups (values_of c.args.subjects.now) = c.as_slice-3.ensures ∙ c.in_ok-ties.ensures.groups ∙ ap tie_groups (c.as_slice.ensures ∙ c.in_ok-values.ensures) in
    lists-more strata c.args.subjects.now c.args.self.now _ a
    (rw c.part_of-part.ensures at c.in_ok-push.ensures.ok)
    (rw (ties, c.part_of-part.ensures) at c.in_ok-push_columns.ensures)
    (rw (c.as_slice-4.ensures, c.in_ok-ranks.ensures.ranks, c.as_slice-2.ensures, c.in_ok-values.ensures) at c.in_ok-push_naturals.ensures)
    (rw (c.as_slice-5.ensures, c.in_ok-labels.ensures) at c.in_ok-append.ensures.ok)
