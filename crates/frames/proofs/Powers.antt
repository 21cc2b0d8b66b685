-- Room for one digit more.
use Rattle.std.proofs.Common.{ℕ, ◌^◌, ◌<◌, ◌≤◌, arith}
use native.Mathlib.Nat.{pow-le-pow_right}

-- seven digits leave room for one more
pub power_room : (i : ℕ) → i < 8 → 16 ^ i ≤ 2 ^ 28
power_room i h = pow-le-pow_right {n = 16} (omega arith) {i = i} {j = 7} (omega arith)
