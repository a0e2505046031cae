-- Points 2 and 3, of one state: where every life is on time, no tick reports a late task, and none is refused under 13.
use Prim.Native.Nat.{ℕ, suc, ◌+◌, ◌<◌, ◌≤◌}
use mathlib.Core.Path.{◌≡◌, refl, sym, ◌∙◌, ap}
use mathlib.Core.Bool.{Bool, true, false, not, ◌&&◌, and-false}
use mathlib.Core.Logic.{◌≢◌}
use native.Mathlib.Omega.{arith}
use borrow.Author.Tests.{ne_eqb}
use lib.Dec.{eqb}
use Rattle.maths.specs.Tasks.{Each}
use Rattle.table.specs.declared.Table.{Table}
use Rattle.table.specs.Limits.{most_tasks}
use Rattle.table.specs.Tasks.{τ, D, T}
use Rattle.sets.specs.TaskSets.{has_task}
use Rattle.sets.proofs.Wheres.{where_empty}
use Rattle.admission.specs.Test.{row, rows}
use Rattle.machine.specs.declared.Job.{Job}
use Rattle.machine.specs.declared.Machine.{Machine}
use Rattle.machine.specs.Jobs.{job, top, idles}
use Rattle.machine.specs.Steps.{finish, passed, late_set}
use Rattle.machine.specs.Tick.{tick_refusal}
use Rattle.machine.proofs.Jobs.{passed-job, finished-job, finished-table}
use Rattle.machine.proofs.StateParts.{Staged}
use Rattle.lives.specs.Life as L
use Rattle.lives.specs.Report.{Row}
use Rattle.lives.specs.Life.{Life, Sound, WithinC, OnTime}
use Rattle.lives.proofs.OnTime as on_time_lem
use Rattle.conduct.specs.Lives.{life}
use Rattle.machine.proofs.Accepted.{never_13}
use Rattle.conduct.proofs.Lives.{one-true, shows, life-older, finished-staged, life-finished}
use Rattle.promise.proofs.Bits.{unfinished}

-- the life of a job is on time, by what the table says of its task
pub record Timely (task : Row) (j : Job) : Type 0 where
  pub sound : Sound task
  pub within : WithinC task (life j)
  pub on_time : OnTime task (life j)
  pub staged : Staged j.stage

module _ (m : Machine) (few : m.table.n ≤ most_tasks)
    (timely : Each m.table.n (λ k. Timely (rows m.table k) (job m k))) where
  module _ (k : ℕ) (p : 1 ≤ k) (q : k ≤ m.table.n) (F : ℕ) where
    abbrev t : Table
    t = m.table

    abbrev x : Life
    x = life (job m k)

    -- the life after step 2
    is : life (job (finish F (passed m)) k) ≡ L.finish (has_task F k) (L.rise (top (τ t k)) x)
    is = ap life (finished-job m k p q (omega arith) F) ∙ life-finished (τ t k) (has_task F k) (job m k)

    staged : Staged (job (finish F (passed m)) k).stage
    staged = rw (finished-job m k p q (omega arith) F)
        (finished-staged (τ t k) (has_task F k) (job m k) (timely k p q).staged)

    young : idles (finish F (passed m)) k ≡ false → (job (finish F (passed m)) k).age < D (τ t k)
    young e =
        let there : L.idles (L.finish (has_task F k) (L.rise (top (τ t k)) x)) ≡ 0 =
        sym (ap L.idles is) ∙ ((shows (job (finish F (passed m)) k)).idles staged ∙ rw e) in
        let b = unfinished (row (τ t k)) (top (τ t k)) x (has_task F k) there in
        let g = timely k p q in
        omega (
          arith,
          (shows (job (finish F (passed m)) k)).age,
          ap L.age is,
          b.1,
          on_time_lem.not_late_lem (row (τ t k)) (top (τ t k)) g.sound x g.within g.on_time b.0,
        )

    not-late-task : (d : ℕ) → d ≡ D (τ t k)
        → not (idles (finish F (passed m)) k) && eqb ((job m k).age + 1) d
        && eqb (job (finish F (passed m)) k).age d ≡ false
    not-late-task d e = by (idles (finish F (passed m)) k) refl
      where
        by : (b : Bool) → idles (finish F (passed m)) k ≡ b
            → not b && eqb ((job m k).age + 1) d && eqb (job (finish F (passed m)) k).age d ≡ false
        by true i = refl
        by false i = rw (ne_eqb (job (finish F (passed m)) k).age d (omega (arith, young i)))
            (and-false (eqb ((job m k).age + 1) d))

    -- a task of age T or more after step 1 has no unfinished job
    idle-at-T : T (τ t k) ≤ (job (passed m) k).age → idles (finish F (passed m)) k ≡ true
    idle-at-T l =
        let older : life (job (passed m) k) ≡ L.rise (top (τ t k)) x =
        ap life (passed-job m k p q (omega arith)) ∙ life-older (τ t k) (job m k) in
        let old : T (τ t k) ≤ L.age (L.rise (top (τ t k)) x) =
        omega (arith, (shows (job (passed m) k)).age, ap L.age older) in
        let g = timely k p q in
        let i = on_time_lem.never_13 (row (τ t k)) (top (τ t k)) g.sound x (has_task F k) g.within g.on_time old in
        one-true (idles (finish F (passed m)) k)
        (sym ((shows (job (finish F (passed m)) k)).idles staged) ∙ (ap L.idles is ∙ i))

  pub no-late : (F : ℕ) → late_set m (finish F (passed m)) ≡ 0
  no-late F = where_empty _ _ (λ i l. not-late-task (suc i) (omega arith) (in_n i l) F _ (same-D i))
    where
      same : (finish F (passed m)).table ≡ m.table
      same = finished-table m 0 F

      in_n : (i : ℕ) → i < (finish F (passed m)).table.n → suc i ≤ m.table.n
      in_n i l = rw same at l

      same-D : (i : ℕ) → D (τ (finish F (passed m)).table (suc i)) ≡ D (τ m.table (suc i))
      same-D i = ap (λ (u : Table). D (τ u (suc i))) same

  pub no_13 : (R F : ℕ) → (tick_refusal m R F).number ≢ 13
  no_13 R F = never_13 m R F (λ b k p h r. idle-at-T k p (b.in_table k p h r) F (b.due k p h r))
