-- Powers of 2, as CWI and BWI give them. Assumes nothing.
use Prim.Native.Nat.{ℕ, ◌^◌, ◌≤◌}
use native.Mathlib.Omega.{arith}
use lib.Pow.{pow_mono}

pub power_between : (k m : ℕ) → k ≤ m → (1 ≤ 2 ^ k) × (2 ^ k ≤ 2 ^ m)
power_between k m h = (pow_mono {i = 0} (omega arith), pow_mono h)
