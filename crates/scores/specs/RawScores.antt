-- Values as scores. A value is in units of 10^-18.
use Rattle.std.specs.Prelude.{ℕ, ℤ, pos, ◌*◌, ◌%◌, ◌^◌, ◌*ℤ◌, nat_abs, int_div, nat_eq, Bool, List, find, unwrap_or}
use Rattle.std.specs.List.{list_all, range_with_len}

-- a value times 10^d is whole
unfoldable pub is_whole : ℕ → ℤ → Bool
is_whole d v = nat_eq ((nat_abs v * 10 ^ d) % 10 ^ 18) 0

-- the least d from 0 to 18 for which every value times 10^d is whole
unfoldable pub decimals : List ℤ → ℕ
decimals values = unwrap_or (find (λ d. list_all (is_whole d) values) (range_with_len 0 19)) 18

-- a value times 10^d
unfoldable pub raw_score : ℕ → ℤ → ℤ
raw_score d v = int_div (v *ℤ pos (10 ^ d)) (pos (10 ^ 18))
