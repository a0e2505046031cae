-- The least common multiple: both divide it, and it divides whatever both divide.
use Prim.Native.Nat.{ℕ, ◌*◌, ◌/◌, ◌<◌, ◌≤◌, ◌∣◌}
use mathlib.Core.Path.{◌≡◌, ap}
use native.Mathlib.Omega.{arith}
use native.Mathlib.Nat.{mul_comm, mul-pos, div-mul_cancel, zero-div, zero-mul, le_of_dvd}
use native.Mathlib.Nat.{dvd-mul_left, dvd-mul_right, mul-dvd-mul_left, mul-dvd-mul_right, dvd_of_mul-dvd-mul_right}
use native.Mathlib.Nat.{pos_of_dvd_of_pos}
use Rattle.multiples.specs.Gcd.{gcd, lcm}
use Rattle.multiples.proofs.Euclid.{is-gcd, gcd-pos}

module _ (a b : ℕ) where
  product : lcm a b * gcd a b ≡ a * b
  product = omega (arith, ap (λ (x : ℕ). x * b) (div-mul_cancel (gcd a b) (is-gcd a b).first))

  pub lcm-first : a ∣ lcm a b
  lcm-first =
      rw (div-mul_cancel (gcd a b) (is-gcd a b).first) at
      (mul-dvd-mul_left (gcd a b) (a / gcd a b) (is-gcd a b).second)

  pub lcm-second : b ∣ lcm a b
  lcm-second = dvd-mul_left b (a / gcd a b)

  pub lcm-pos : 0 < a → 0 < b → 0 < lcm a b
  lcm-pos some other = pos_of_dvd_of_pos (rw product at (dvd-mul_right (lcm a b) (gcd a b))) (mul-pos some other)

  pub lcm-least : (m : ℕ) → 0 < a → a ∣ m → b ∣ m → lcm a b ∣ m
  lcm-least m some x y =
      let both : a * b ∣ m * gcd a b =
      (is-gcd a b).greatest m (a * b) (rw (mul_comm m a) (mul-dvd-mul_left b a y)) (mul-dvd-mul_right a x b) in
      dvd_of_mul-dvd-mul_right (lcm a b) (gcd-pos a b some) (rw product both)

  -- so none above 0 is less
  pub lcm-le : (m : ℕ) → 0 < a → 0 < m → a ∣ m → b ∣ m → lcm a b ≤ m
  lcm-le m some above x y = le_of_dvd above (lcm-least m some x y)

-- of 0 it is 0
pub lcm-none : (b : ℕ) → lcm 0 b ≡ 0
lcm-none b = rw (zero-div, zero-mul)
