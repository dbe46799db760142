use Rattle.std.proofs.Common.{◌≡◌, length, Ok, ap, arith}
use Rattle.sample_reader.specs.GroupLayout.{grouped, groups_in}
use Rattle.weights.specs.Results.{with_value}
use Rattle.sample_reader.proofs.WholeGroups.{groups_in-few, read_in-whole}
use Rattle.sample_reader.proofs.group_rows.groups.Goals as goal

pub into_groups-requires : goal.into_groups-requires
into_groups-requires c = read_in-whole c.args.most c.args.missing c.args.picks.now c.args.rows.now c.in_ok-subjects.subjects c.requires.picks c.requires.eight c.in_ok-subjects.ensures

pub returns-clause-most : goal.returns-clause-most
returns-clause-most c =
    let said : groups_in c.args.most c.args.missing c.args.picks.now c.args.rows.now ≡ Ok (grouped c.in_ok-subjects.subjects) = ap (with_value grouped) c.in_ok-subjects.ensures in
    let few = groups_in-few c.args.most c.args.missing c.args.picks.now c.args.rows.now (grouped c.in_ok-subjects.subjects) c.requires.picks said in
    let many = ap (λ groups. length groups.labels) c.in_ok-into_groups.ensures in
    omega (arith, few, many)
