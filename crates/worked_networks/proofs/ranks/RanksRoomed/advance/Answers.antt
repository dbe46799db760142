use Rattle.std.proofs.Common.{◌≡◌, ◌∙◌, ◌≤◌, ◌+◌, ◌++◌, ℕ, List, [], ◌∷◌, length, ap, sym, arith}
use Rattle.std.specs.Prelude.{ℤ, pos, ◌+ℤ◌}
use Rattle.std.proofs.lemmas.Int.{ints}
use Rattle.std.proofs.lemmas.List.{length-append}
use Rattle.networks.specs.Network.{IsReached}
use Rattle.worked_networks.specs.SampleRanks.{at, rank_network, rank_step}
use Rattle.worked_networks.proofs.RankLaws.{RankedKey, ranked_key}
use Rattle.weights.proofs.Items.{one_item}
use Rattle.worked_networks.proofs.RankRooms.{partial-at, step-next, step-small}
use Rattle.worked_networks.proofs.ranks.RanksRoomed.advance.Goals as goal

-- what is added to the sum so far
record Adding (m n : ℕ) (t : ℤ) (g : ℕ) (room partial step : List ℤ) (choice : List ℕ) : Type 0 where
  key : RankedKey m n t g (room ++ partial)
  sum : at partial 0 ≡ pos key.sum
  added : ℕ
  step_is : at step 0 ≡ pos added
  rank_is : at (rank_step g choice) 0 ≡ pos added
  few : added ≤ 254

adding : (m n : ℕ) (t : ℤ) → m + n ≤ 126 → (g : ℕ) (room partial step : List ℤ) (choice : List ℕ) → length room ≡ 2 → IsReached (rank_network m n t) g (room ++ partial) → step ≡ rank_step g choice → Adding m n t g room partial step choice
adding m n t few g room partial step choice two reached e =
    let key : RankedKey m n t g (room ++ partial) = ranked_key m n t few g (room ++ partial) reached in
    let more = step-small g choice (omega (arith, key.left, few)) in
    record {
      key = key;
      sum = sym (partial-at room partial two) ∙ key.sum_is;
      added = more.0;
      step_is = ap (λ k. at k 0) e ∙ more.1;
      rank_is = more.1;
      few = more.2;
    }

pub bounds-partial-0 : goal.bounds-partial-0
bounds-partial-0 c =
    let r = c.args.self.now in
    let here = adding r.first r.second r.observed r.few c.args._stage c.args._room.now c.args.partial.now c.args.step.now c.args._choice.now c.requires.room c.requires.reached c.requires.step in
    omega (arith, ap length here.key.is, length-append c.args._room.now c.args.partial.now, c.requires.room)

pub overflow_add-next : goal.overflow_add-next
overflow_add-next c =
    let r = c.args.self.now in
    let here = adding r.first r.second r.observed r.few c.args._stage c.args._room.now c.args.partial.now c.args.step.now c.args._choice.now c.requires.room c.requires.reached c.requires.step in
    omega (arith, ints, here.sum, here.key.small, here.step_is, here.few)

pub returns : goal.returns
returns c =
    let r = c.args.self.now in
    let here = adding r.first r.second r.observed r.few c.args._stage c.args._room.now c.args.partial.now c.args.step.now c.args._choice.now c.requires.room c.requires.reached c.requires.step in
    let k : List ℤ = c.args._room.now ++ c.args.partial.now in
    let grown : at c.args.partial.now 0 +ℤ at c.args.step.now 0 ≡ at k 2 +ℤ at (rank_step c.args._stage c.args._choice.now) 0 = omega (arith, ints, here.sum, here.key.sum_is, here.step_is, here.rank_is) in
    one_item c.args.next.now _ (omega (arith, c.requires.next))
    ∙ ap (λ (z : ℤ). z ∷ []) (omega (arith, ints, here.sum, here.key.small, here.step_is, here.few))
    ∙ ap (λ (z : ℤ). z ∷ []) grown
    ∙ sym (step-next r.first r.second r.observed c.args._stage k c.args._choice.now)
