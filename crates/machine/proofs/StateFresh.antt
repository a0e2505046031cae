-- A fresh machine and set-up: what they hold, what they depend on, and that a fresh machine is good.
use Prim.Native.Nat.{ℕ, suc, ◌<◌, ◌≤◌}
use mathlib.Core.Path.{◌≡◌, refl, sym, ◌∙◌, ap}
use mathlib.Core.Bool.{true, cond}
use native.Mathlib.Omega.{arith}
use native.Mathlib.Nat.{le_refl}
use borrow.Author.Tests.{eq-eqb, ne_eqb}
use lib.Bits.{and_zero_l}
use lib.ListN.{length, take, length-take}
use lib.Seq.{ext_get_or, get_or-take}
use Rattle.maths.proofs.Arrays.{up_to, up_in, up-past, up_same}
use Rattle.maths.proofs.Sums.{sum-ext, sum_const}
use Rattle.maths.proofs.Tasks.{length-tabulate}
use Rattle.table.specs.declared.Refusal.{Refusal}
use Rattle.table.specs.declared.Table.{Table}
use Rattle.table.specs.Good.{Good}
use Rattle.table.specs.Limits.{most_tasks}
use Rattle.table.specs.Tasks.{P, τ, T, no_task}
use Rattle.table.specs.Refused.{refusal, table_rules}
use Rattle.table.proofs.Good.{good_of}
use Rattle.machine.specs.declared.Machine.{Machine}
use Rattle.machine.specs.Jobs.{no_job, job, runs, running}
use Rattle.machine.specs.Fresh.{trimmed, fresh_job, fresh, set_up}
use Rattle.machine.specs.Conditions.{good_state}
use Rattle.machine.proofs.StateParts.{is-idle, GoodJob, GoodState}
use Rattle.machine.proofs.StateTest.{state-test}

-- set-up: the old machine counts only where the table is refused, and then it is all that is left
pub set-up-fresh : (old : Machine) (t : Table) → (refusal t).number ≡ 0
    → set_up old t ≡ record { refused = refusal t; machine = fresh t }
unfolding set_up
set-up-fresh old t e = rw (eq-eqb (refusal t).number 0 e)

pub set_up_forgets_lem : (old other : Machine) (t : Table) → (refusal t).number ≡ 0 → set_up old t ≡ set_up other t
set_up_forgets_lem old other t e = set-up-fresh old t e ∙ sym (set-up-fresh other t e)

pub set-up-refused : (old : Machine) (t : Table) → ((refusal t).number ≡ 0 → ⊥)
    → set_up old t ≡ record { refused = refusal t; machine = old }
unfolding set_up
set-up-refused old t h = rw (ne_eqb (refusal t).number 0 h)

module _ (t : Table) where
  pub fresh-n : (fresh t).table.n ≡ t.n
  unfolding fresh
  fresh-n = refl

  pub fresh-rows-length : length (fresh t).table.rows ≡ most_tasks
  unfolding fresh
  fresh-rows-length = length-tabulate _ most_tasks

  module _ (i : ℕ) (few : i < most_tasks) where
    pub fresh-task : i < t.n → τ (fresh t).table (suc i) ≡ τ t (suc i)
    unfolding fresh
    fresh-task l = up_in most_tasks (τ t) (λ k. no_task) t.n i no_task l few

    pub fresh-job : i < t.n → job (fresh t) (suc i) ≡ fresh_job t (suc i)
    unfolding fresh
    fresh-job l = up_in most_tasks (fresh_job t) (λ k. no_job) t.n i no_job l few

    pub fresh-no-task : t.n ≤ i → τ (fresh t).table (suc i) ≡ no_task
    unfolding fresh
    fresh-no-task l = up-past most_tasks (τ t) (λ k. no_task) t.n i no_task l few

    pub fresh-no-job : t.n ≤ i → job (fresh t) (suc i) ≡ no_job
    unfolding fresh
    fresh-no-job l = up-past most_tasks (fresh_job t) (λ k. no_job) t.n i no_job l few

-- a fresh machine depends on platform, n and rows 1 to n alone
pub fresh-same : (t u : Table) → t.platform ≡ u.platform → t.n ≡ u.n
    → ((i : ℕ) → i < t.n → i < most_tasks → τ t (suc i) ≡ τ u (suc i)) → fresh t ≡ fresh u
unfolding fresh
fresh-same t u p n h =
    let rows = up_same most_tasks (τ t) (τ u) (λ k. no_task) t.n h ∙ ap (up_to most_tasks (τ u) (λ k. no_task)) n in
    let jobs = up_same most_tasks (fresh_job t) (fresh_job u) (λ k. no_job) t.n (λ i l m. rw (h i l m))
    ∙ ap (up_to most_tasks (fresh_job u) (λ k. no_job)) n in
    λ x. record { table = record { platform = p x; n = n x; rows = rows x }; jobs = jobs x }

-- the table of a fresh machine is refused as the table given
trimmed-take : (t : Table) → length t.rows ≡ most_tasks → t.n ≤ most_tasks
    → take t.n (trimmed t).rows ≡ take t.n t.rows
trimmed-take t len few =
    let long : length (trimmed t).rows ≡ most_tasks = length-tabulate _ most_tasks in
    let short : length (take t.n (trimmed t).rows) ≡ t.n = simp length-take (omega arith) in
    ext_get_or no_task _ _ (simp length-take (omega arith))
    (λ i l.
    let m : i < t.n = omega arith in
    get_or-take t.n (trimmed t).rows i no_task m
    ∙ (up_in most_tasks (τ t) (λ k. no_task) t.n i no_task m (omega arith)
    ∙ sym (get_or-take t.n t.rows i no_task m)))

pub fresh-refusal : (t : Table) → length t.rows ≡ most_tasks → t.n ≤ most_tasks → refusal (fresh t).table ≡ refusal t
unfolding fresh refusal table_rules
fresh-refusal t len few = rw (trimmed-take t len few)

-- nothing runs
fresh-running : (t : Table) → t.n ≤ most_tasks → running (fresh t) ≡ 0
unfolding running
fresh-running t few =
    sum-ext (λ i. cond (runs (fresh t) (suc i)) 1 0) (λ i. 0) (fresh t).table.n
    (λ i l. rw (fresh-job t i (omega (arith, fresh-n t)) (omega (arith, fresh-n t))))
    ∙ (sum_const 0 (fresh t).table.n ∙ omega arith)

fresh-job-good : {t : Table} → Good t → (i : ℕ) → i < t.n → GoodJob (P t) (τ t (suc i)) (fresh_job t (suc i))
fresh-job-good {t} g i l =
    record {
      age = le_refl (T (τ t (suc i)));
      stage = is-idle refl (record { rests = record { none = refl; unrun = refl }; old = (g.row i l).period });
    }

pub fresh-state : (t : Table) → (refusal t).number ≡ 0 → length t.rows ≡ most_tasks → GoodState (fresh t)
unfolding fresh
fresh-state t e len =
    let g = good_of t len e in
    let unrefused : (refusal (fresh t).table).number ≡ 0 =
    ap (λ (r : Refusal). r.number) (fresh-refusal t len g.sizes.few) ∙ e in
    record {
      unrefused = unrefused;
      table = good_of (fresh t).table (fresh-rows-length t) unrefused;
      no_tasks = λ i l m. fresh-no-task t i m l;
      no_jobs = λ i l m. fresh-no-job t i m l;
      each = λ i l. let m : i < most_tasks = omega (arith, g.sizes.few) in
          rw (fresh-task t i m l, fresh-job t i m l) (fresh-job-good g i l);
      apart = λ i j l m. rw (fresh-job t i (omega (arith, g.sizes.few)) (omega arith))
          (and_zero_l (job (fresh t) (suc j)).held);
      cores = omega (arith, fresh-running t g.sizes.few);
    }

pub fresh-good : (t : Table) → (refusal t).number ≡ 0 → length t.rows ≡ most_tasks → good_state (fresh t) ≡ true
fresh-good t e len = state-test (fresh t) (fresh-state t e len)
