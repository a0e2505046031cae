-- What Euclid finds is the greatest common divisor, and so there is one such number: his equations follow.
use Prim.Native.Nat.{ℕ, zero, suc, ◌+◌, ◌*◌, ◌/◌, ◌%◌, ◌<◌, ◌≤◌, ◌∣◌}
use mathlib.Core.Path.{◌≡◌}
use native.Mathlib.Omega.{arith}
use native.Mathlib.Nat.{mod-lt, mul_assoc, mul-add, one-mul, div-add-mod, dvd_refl, dvd-zero, dvd_antisymm}
use native.Mathlib.Nat.{dvd-mod_iff, dvd-add_iff_right, dvd-mul_right_of_dvd, pos_of_dvd_of_pos}
use Rattle.multiples.specs.Gcd.{gcd_in, gcd}

-- It divides both; and what divides c times each divides c times it, so with c = 1 none that divides both is greater.
pub record IsGcd (g a b : ℕ) : Type 0 where
  pub first : g ∣ a
  pub second : g ∣ b
  pub greatest : (c d : ℕ) → d ∣ c * a → d ∣ c * b → d ∣ c * g

of_zero : (a : ℕ) → IsGcd a a 0
of_zero a = record { first = dvd_refl a; second = dvd-zero a; greatest = λ c d x y. x }

times_remainder : (c d a b : ℕ) → d ∣ c * a → d ∣ c * b → d ∣ c * (a % b)
times_remainder c d a b x y =
    let split : c * b * (a / b) + c * (a % b) ≡ c * a = rw (mul_assoc, ← mul-add, div-add-mod) in
    (dvd-add_iff_right d (dvd-mul_right_of_dvd d y (a / b))).1 (rw split x)

of_remainder : {g : ℕ} (a b : ℕ) → IsGcd g b (a % b) → IsGcd g a b
of_remainder {g} a b i =
    record {
      first = (dvd-mod_iff g i.first).0 i.second;
      second = i.first;
      greatest = λ c d x y. i.greatest c d y (times_remainder c d a b x y);
    }

in_turns : (k a b : ℕ) → b ≤ k → IsGcd (gcd_in k a b) a b
unfolding gcd_in
in_turns zero a b h = let none : b ≡ 0 = omega arith in rw none (of_zero a)
in_turns (suc k) a zero h = of_zero a
in_turns (suc k) a (suc b) h =
    let less : a % suc b < suc b = mod-lt a (omega arith) in
    of_remainder a (suc b) (in_turns k (suc b) (a % suc b) (omega arith))

pub is-gcd : (a b : ℕ) → IsGcd (gcd a b) a b
unfolding gcd
is-gcd a b = in_turns b a b (omega arith)

-- the greatest by divisibility, and so one alone
divides : {g : ℕ} (a b d : ℕ) → IsGcd g a b → d ∣ a → d ∣ b → d ∣ g
divides a b d i x y = rw one-mul at (i.greatest 1 d (rw one-mul x) (rw one-mul y))

same : {g h : ℕ} (a b : ℕ) → IsGcd g a b → IsGcd h a b → g ≡ h
same {g} {h} a b i j = dvd_antisymm (divides a b g j i.first i.second) (divides a b h i j.first j.second)

pub gcd-zero : (a : ℕ) → gcd a 0 ≡ a
gcd-zero a = same a 0 (is-gcd a 0) (of_zero a)

pub gcd_remainder : (a b : ℕ) → gcd b (a % b) ≡ gcd a b
gcd_remainder a b = same a b (of_remainder a b (is-gcd b (a % b))) (is-gcd a b)

pub gcd-pos : (a b : ℕ) → 0 < a → 0 < gcd a b
gcd-pos a b some = pos_of_dvd_of_pos (is-gcd a b).first some
