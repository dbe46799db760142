use Rattle.std.proofs.Common.{◌≡◌, ℕ, ◌-◌, ◌^◌, ◌≤◌, arith, drop, length}
use Rattle.std.proofs.lemmas.List.{length-drop}
use Rattle.std.proofs.Math.Nat.{mul-le-mul, pow-le-pow_right}
use Rattle.label_network.proofs.ChoiceMoves.{take_rest}
use Rattle.sorted_tables.proofs.fronts.+orders_of.Goals as goal

pub overflow_mul-result : goal.overflow_mul-result
overflow_mul-result t c =
    let n : ℕ = length c.args.rows.now - 1 in
    let long : length (drop 1 c.args.rows.now) ≡ n = length-drop 1 c.args.rows.now in
    let few : c.orders_of.result ≤ 8 ^ n = rw (take_rest 1 c.args.rows.now, long) at c.orders_of.ensures.few in
    let power : 8 ^ n ≤ 8 ^ 8 = pow-le-pow_right (omega arith) {i = n} {j = 8} (omega (arith, c.requires.few)) in
    let most : c.orders_of.result ≤ 8 ^ 8 = omega (arith, few, power) in
    omega (arith, mul-le-mul c.run_of.ensures.few most)
