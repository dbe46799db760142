use Rattle.std.proofs.Common.{◌≡◌, ◌∙◌, ◌+◌, ap, ap₂, sym, arith}
use Rattle.std.proofs.lemmas.Int.{ints}
use Rattle.networks.specs.Completions.{total_weight}
use Rattle.weights.specs.Numbers.{binomial}
use Rattle.worked_networks.specs.SampleRanks.{rank_network}
use Rattle.worked_networks.proofs.RankLaws.{rank_total, ranked_key, ways, ways-binomial}
use Rattle.worked_networks.proofs.ranks.RanksStages.rest.Goals as goal

pub overflow_cast-key : goal.overflow_cast-key
overflow_cast-key c =
    let r = c.args.self.now in
    let here = ranked_key r.first r.second r.observed r.few c.args._stage c.args.key.now c.requires in
    rw here.first_is (omega (arith, ints, here.left, r.few), omega (arith, ints, here.left, r.few))

pub overflow_cast-key-2 : goal.overflow_cast-key-2
overflow_cast-key-2 c =
    let r = c.args.self.now in
    let here = ranked_key r.first r.second r.observed r.few c.args._stage c.args.key.now c.requires in
    rw here.second_is (omega (arith, ints, here.left, r.few), omega (arith, ints, here.left, r.few))

pub ways-requires : goal.ways-requires
ways-requires c =
    let r = c.args.self.now in
    let here = ranked_key r.first r.second r.observed r.few c.args._stage c.args.key.now c.requires in
    rw (here.first_is, here.second_is) (omega (arith, ints, here.left, r.few))

pub returns : goal.returns
returns c =
    let r = c.args.self.now in
    let here = ranked_key r.first r.second r.observed r.few c.args._stage c.args.key.now c.requires in
    let end : ways here.first here.second ≡ total_weight (rank_network r.first r.second r.observed) c.args._stage c.args.key.now =
    sym (rank_total r.first r.second r.observed c.args._stage here.first here.second here.sum here.left) ∙ ap (total_weight (rank_network r.first r.second r.observed) c.args._stage) (sym here.is) in
    (rw (here.first_is, here.second_is) at c.ways.ensures)
    ∙ ap₂ (λ a b. binomial (a + b) b) (omega (arith, ints, here.left, r.few)) (omega (arith, ints, here.left, r.few))
    ∙ sym (ways-binomial here.first here.second) ∙ end
