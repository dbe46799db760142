-- What a network over the rooms of labels ends at: the values of single labellings, each once.
use Rattle.std.proofs.Common.{◌≡◌, ℕ, List, Bool, length, ◌∙◌}
use Rattle.std.specs.Prelude.{ℤ}
use Rattle.std.specs.List.{sum}
use Rattle.weights.specs.declared.tails.Tail.{Tail}
use Rattle.weights.specs.Grouped.{columns_of}
use Rattle.weights.specs.Labellings.{labellings}
use Rattle.weights.specs.Rules.{passes}
use Rattle.weights.proofs.Sums.{sum_by-one}
use Rattle.networks.specs.Completions.{extreme_weight, value_weights}
use Rattle.networks.specs.Judged.{rule_in}
use Rattle.networks.specs.Network.{Network}
use Rattle.room_network.specs.Meanings.{Meaning}
use Rattle.room_network.specs.RoomNetworks.{EndsAtMembers, member_weights, room_network}
use Rattle.label_network.specs.LabelNetwork.{labellings_passing}
use Rattle.label_network.specs.LabelRooms.{label_plan, label_weight}
use Rattle.label_network.proofs.LabelPlans.{labels_give}

module _ (m : Meaning) (columns rows : List ℕ) (level : sum columns ≡ sum rows) (e : EndsAtMembers (label_plan columns rows) m) where
  abbrev network : Network
  network = room_network m label_weight

  counted : (p : ℤ → Bool) → member_weights m (labellings rows) (λ xs. 1) (columns_of (length rows) columns) p ≡ labellings_passing m columns rows p
  counted p = sum_by-one _

  pub ends-labelled : (p : ℤ → Bool) → value_weights network p ≡ labellings_passing m columns rows p
  ends-labelled p = e.values (labellings rows) (λ xs. 1) (columns_of (length rows) columns) (labels_give columns rows level) p ∙ counted p

  pub extreme-labelled : (t : Tail) → extreme_weight network t 0 network.first ≡ labellings_passing m columns rows (passes (rule_in m.judge t))
  extreme-labelled t = e.tails (labellings rows) (λ xs. 1) (columns_of (length rows) columns) (labels_give columns rows level) t ∙ counted (passes (rule_in m.judge t))
