-- Lists put together, one place after another.
use Rattle.std.proofs.Common.{◌≡◌, ℕ, suc, ◌+◌, ◌-◌, ◌<◌, List, ◌++◌, sym, ◌∙◌, ap, arith}
use Rattle.std.specs.List.{flat_map, range_with_len}
use Rattle.std.proofs.lemmas.List.{append_assoc}

-- one place more
pub gathered : {Y : Type 0} (f : ℕ → List Y) (n i : ℕ) (xs new all : List Y) → i < n → xs ++ flat_map f (range_with_len i (n - i)) ≡ all → new ≡ xs ++ f i → new ++ flat_map f (range_with_len (i + 1) (n - (i + 1))) ≡ all
gathered f n i xs new all h e g =
    let more : n - i ≡ suc (n - (i + 1)) = omega (arith, h) in
    rw g (append_assoc xs (f i) (flat_map f (range_with_len (i + 1) (n - (i + 1))))) ∙ ap (λ l. xs ++ l) (sym (ap (λ m. flat_map f (range_with_len i m)) more)) ∙ e
