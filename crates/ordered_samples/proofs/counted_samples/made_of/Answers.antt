use Rattle.std.proofs.Common.{◌≡◌, ◌∙◌, length, ap, subst, ◌≤◌}
use Rattle.weights.specs.declared.TheConstants.{MAX}
use Rattle.weights.specs.Labellings.{number_of_labellings}
use Rattle.sample_reader.specs.Data.{data_of}
use Rattle.sample_reader.specs.Groups.{group_sizes}
use Rattle.sample_reader.specs.PooledSample.{values_of}
use Rattle.pooled_columns.specs.PooledColumns.{column_sizes}
use Rattle.pooled_columns.proofs.GroupFacts.{few_rows, few_subjects, observed-labelling, sizes-whole, some_rows}
use Rattle.ordered_samples.specs.Umbrella.{used_pairs}
use Rattle.ordered_samples.proofs.counted_samples.made_of.Goals as goal

pub returns : goal.returns
returns c =
    let sizes : c.as_slice.result.now ≡ group_sizes (data_of c.args.groups.now) = c.as_slice.ensures ∙ c.in_ok-sizes.ensures ∙ c.args.groups.now.counted in
    record {
      sizes = c.in_ok-sizes.ensures ∙ c.args.groups.now.counted;
      pairs = c.in_ok-pairs.ensures ∙ ap (λ ns. used_pairs c.args.peak (length ns)) sizes;
      columns = c.in_ok-columns.ensures ∙ ap column_sizes (c.as_slice-2.ensures ∙ c.in_ok-values.ensures ∙ ap values_of c.requires.subjects);
      observed = observed-labelling c.args.groups.now;
      some = some_rows c.args.groups.now;
      few_rows = few_rows c.args.groups.now;
      whole = sizes-whole c.args.groups.now;
      few = few_subjects c.args.groups.now;
      total_fits = subst (λ ns. number_of_labellings ns ≤ MAX) c.args.groups.now.counted c.requires.fits;
    }
