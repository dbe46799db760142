use Rattle.std.proofs.Common.{◌≡◌, ◌*◌, arith}
use Rattle.scores.specs.Scores.{common_size}
use Rattle.scores.proofs.scores.of_kind.Goals as goal

pub returns-in-Ansari : goal.returns-in-Ansari
returns-in-Ansari c =
    let scale : common_size c.args.values.now * 1 ≡ common_size c.args.values.now = omega arith in
    rw c.in-Ansari.is (rw scale at c.by_places.ensures)

pub returns-in-Mood : goal.returns-in-Mood
returns-in-Mood c =
    let scale : common_size c.args.values.now * 4 ≡ 4 * common_size c.args.values.now = omega arith in
    rw c.in-Mood.is (rw scale at c.by_places-in-Mood.ensures)

pub returns-in-Median : goal.returns-in-Median
returns-in-Median c =
    let scale : common_size c.args.values.now * 1 ≡ common_size c.args.values.now = omega arith in
    rw c.in-Median.is (rw scale at c.by_places-in-Median.ensures)
