use Rattle.std.proofs.Common.{◌≡◌, ℕ, get_or, replicate, arith, rules, suc, zero, refl}
use Rattle.node_pool.proofs.Pools.{pool-none}
use Rattle.node_pool.proofs.pool.NodePool.new.Goals as goal

zeros : (n s : ℕ) → get_or (replicate n zero) s zero ≡ zero
zeros zero s = refl
zeros (suc n) zero = refl
zeros (suc n) (suc s) = zeros n s

pub invariant_of-result : goal.invariant_of-result
invariant_of-result g c =
    let all : c.in_ok-buckets.buckets.items ≡ replicate 16 0 = search rules in
    rw (c.new.ensures.items, c.new-2.ensures.items, all)
    (record {
      stored = record { long = omega arith; light = tt; fit = omega arith };
      pool = pool-none c.args.width (replicate 16 0) 0 _ c.requires (zeros 16) (omega arith) (omega arith) (omega arith) (omega arith);
    })
