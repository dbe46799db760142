-- A question about the data of a file, and why there may be none.
use Rattle.std.specs.Prelude.{ℕ, Option}
use Rattle.weights.specs.Conditional.{ConditionalTest}
use Rattle.weights.specs.declared.tails.Tail.{Tail}
use Rattle.weights.specs.declared.wide.PrepareFault.{PrepareFault}
use Rattle.weights.specs.declared.wide.PrepareFault.TheVariants as prepare
use Rattle.networks.specs.Network.{Network}
use Rattle.report.specs.declared.headings.Extra.{Extra}
use Rattle.report.specs.declared.headings.Sizes.{Sizes}
use Rattle.report.specs.declared.refusals.Refusal.{Refusal}
use Rattle.report.specs.declared.refusals.Refusal.TheVariants as refusal

-- A test of data, the network of each tail as it is written and as it runs, and what a report says
-- of the data: their sizes, and how many rows were left out, where they may be.
pub record Question : Type 0 where
  pub test : ConditionalTest
  pub network : Tail → Network
  pub running : Tail → Network
  pub sizes : Sizes
  pub dropped : Option ℕ
  pub extra : Extra

-- the question that a prepared problem answers
abbrev pub question_about : {V : Type 0} → (V → ConditionalTest) → (V → Tail → Network)
    → (V → Tail → Network) → V → Sizes → Option ℕ → Extra → Question
question_about test_of network_of running_of value sizes dropped extra = record {
  test = test_of value;
  network = network_of value;
  running = running_of value;
  sizes = sizes;
  dropped = dropped;
  extra = extra;
}

-- the refusal of a problem that is not prepared
abbrev pub prepare_refusal : PrepareFault → Refusal
prepare_refusal (prepare.TooWide what) = refusal.TooWide what
prepare_refusal prepare.NoMemory = refusal.NoMemory
