-- A number of fewer than nine digits has room for one more.
use Rattle.std.proofs.Common.{ℕ, ◌^◌, ◌<◌, ◌≤◌, arith}
use native.Mathlib.Nat.{pow-le-pow_right}

pub tens_small : (v k : ℕ) → v < 10 ^ k → k < 9 → v < 10 ^ 8
tens_small v k h l =
    let z : 0 < 10 = omega arith in
    let q : k ≤ 8 = omega arith in
    let p : 10 ^ k ≤ 10 ^ 8 = pow-le-pow_right z q in
    omega arith
