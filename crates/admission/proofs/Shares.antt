-- Laws of a share, from what the code finds of the table and of two numbers.
use Prim.Native.Nat.{ℕ, suc, ◌-◌, ◌≤◌}
use mathlib.Core.Path.{◌≡◌, refl, sym, ap, ◌∙◌}
use mathlib.Core.Bool.{true, false}
use native.Mathlib.Omega.{arith}
use borrow.Author.Tests.{eq-eqb, ne_eqb, leb-true}
use Rattle.maths.proofs.Determined.{determined}
use Rattle.maths.proofs.Tests.{both}
use Rattle.table.specs.declared.Table.{Table}
use Rattle.table.specs.declared.Refusal.{Refusal}
use Rattle.table.specs.Refused.{refusal}
use Rattle.admission.specs.declared.Share.{Share}
use Rattle.admission.specs.Test.{load}
use Rattle.admission.specs.Shares.{is_task, no_share, share_in, share_answer, SharesAddUp}

pub shares_add_up : SharesAddUp
unfolding load
shares_add_up t k = (refl, refl)

pub share-determined : (t : Table) (k i : ℕ) (r s : Share) → r ≡ share_answer t k i → s ≡ share_answer t k i → r ≡ s
share-determined t k i = determined (share_answer t k i)

pub task_in : (t : Table) (k : ℕ) → is_task t k ≡ true → (1 ≤ k) × (k ≤ t.n)
task_in t k e =
    let h = both _ _ e in
    (leb-true 1 k h.0, leb-true k t.n h.1)

-- the answer by what is found of the table and of the two numbers
module _ (t : Table) (k i : ℕ) {r : Refusal} (e : r ≡ refusal t) where
  pub share-refused : (r.number ≡ 0 → ⊥) → no_share ≡ share_answer t k i
  unfolding share_answer
  share-refused h = rw (sym e, ne_eqb r.number 0 h)

  module _ (none : r.number ≡ 0) where
    pub share-no-task : is_task t k ≡ false → no_share ≡ share_answer t k i
    unfolding share_answer
    share-no-task h = rw (sym e, eq-eqb r.number 0 none, h)

    module _ (h : is_task t k ≡ true) where
      pub share-no-other : is_task t i ≡ false → no_share ≡ share_answer t k i
      unfolding share_answer
      share-no-other g = rw (sym e, eq-eqb r.number 0 none, h, g)

      pub share-found : is_task t i ≡ true → share_in t k i ≡ share_answer t k i
      unfolding share_answer
      share-found g = rw (sym e, eq-eqb r.number 0 none, h, g)

-- all of it 0
pub no-share-is : {s : Share} → (s.interference ≡ 0) × (s.weight ≡ 0 × s.share ≡ 0) → s ≡ no_share
no-share-is {s} (e, (f, g)) =
    let share : ℕ → ℕ → ℕ → Share = λ x y z. record { interference = x; weight = y; share = z } in
    let is : share s.interference s.weight s.share ≡ no_share = rw (e, f, g) in
    is

-- a task's number is its row's and one more
pub share_back : (t : Table) (k i : ℕ) → 1 ≤ k → 1 ≤ i → share_in t (suc (k - 1)) (suc (i - 1)) ≡ share_in t k i
share_back t k i h g =
    let e : suc (k - 1) ≡ k = omega arith in
    let f : suc (i - 1) ≡ i = omega arith in
    ap (λ (a : ℕ). share_in t a (suc (i - 1))) e ∙ ap (λ (b : ℕ). share_in t k b) f
