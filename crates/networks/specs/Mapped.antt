-- Networks whose keys are written in another way.
use Rattle.std.specs.Prelude.{ℕ, ℤ, List}
use Rattle.networks.specs.Network.{Network}

-- the network with its keys written so, as keys of this width, and read so
abbrev pub mapped : ℕ → (List ℤ → List ℤ) → (List ℤ → List ℤ) → Network → Network
mapped width write read n = record {
  count = n.count;
  width = width;
  choice_width = n.choice_width;
  first = write n.first;
  choices = λ g key. n.choices g (read key);
  later = λ g key c. n.later g (read key) c;
  weight = λ g key c. n.weight g (read key) c;
  next = λ g key c. write (n.next g (read key) c);
  verdict = λ t g key. n.verdict t g (read key);
  value = λ key. n.value (read key);
}
