use Rattle.std.proofs.Common.{◌≡◌, ◌∷◌, ◌∙◌, Bool, true, false, refl, sym, ap, subst, ℕ, List}
use Rattle.std.specs.Prelude.{Contains}
use Rattle.weights.specs.Labellings.{labellings}
use Rattle.enumerate.specs.Walk.{StepsThrough, left_to_visit, members_after}
use Rattle.networks.specs.Addends.{Addends, choices_left}
use Rattle.block_tests.specs.BlockNetworks.{block_at, square_addends}
use Rattle.block_tests.proofs.Steps.{choice-small}
use Rattle.block_tests.proofs.squares.SquareBlocksAdditive.next_choice.Goals as goal

-- a step of the walk, as the network has it
left : (a : Addends) (g : ℕ) (members : List (List ℕ)) → ((x : List ℕ) → a.later g x ≡ members_after x members) → (moved : Bool) (x : List ℕ) → left_to_visit members moved x ≡ choices_left a g moved x
left a g members e true x = ap (λ xs. x ∷ xs) (sym (e x))
left a g members e false x = refl

pub read_cells-requires-clause-small : goal.read_cells-requires-clause-small
read_cells-requires-clause-small c = choice-small c.args.self.now.treatments c.args.self.now.blocks.items c.args.self.now.sound.whole c.args._stage c.requires.before c.args.choice.now c.requires.allowed

pub returns : goal.returns
returns c =
    let counts : List ℕ = block_at c.args.self.now.blocks.items c.args._stage in
    let members : List (List ℕ) = labellings counts in
    let a : Addends = square_addends c.args.self.now.squares c.args.self.now.treatments c.args.self.now.blocks.items c.args.self.now.judge in
    let step : StepsThrough members c.read_cells.new.cells c.next_labelling-moved.result c.next_labelling-moved.new.labels = c.next_labelling-moved.ensures counts (subst (λ x. Contains members x) (sym c.read_cells.ensures) c.requires.allowed) in
    ap (λ x. members_after x members) (sym c.read_cells.ensures)
    ∙ step.onward
    ∙ ap (left_to_visit members c.next_labelling-moved.result) (sym c.write_cells.ensures)
    ∙ left a c.args._stage members (λ x. refl) c.next_labelling-moved.result c.write_cells.new.choice
