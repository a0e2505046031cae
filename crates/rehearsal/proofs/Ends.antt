-- Where a rehearsal ends: after tick L, or at the first tick at which somebody is late, with the lowest of them; and
-- the starts of which ticks it counts.
use Prim.Native.Nat.{ℕ, zero, suc, ◌+◌, ◌-◌, ◌≤◌}
use mathlib.Core.Path.{◌≡◌, sym, ◌∙◌, ap}
use mathlib.Core.Logic.{◌≢◌}
use native.Mathlib.Decide.{ℕ_discrete, dec_lt}
use native.Mathlib.Omega.{arith}
use borrow.Author.Tests.{ne_eqb}
use Rattle.maths.specs.Tasks.{lowest}
use Rattle.maths.proofs.Tasks.{each, lowest-none}
use Rattle.table.specs.declared.Table.{Table}
use Rattle.sets.specs.TaskSets.{has_task}
use Rattle.sets.proofs.Wheres.{tasks-none}
use Rattle.machine.specs.declared.Machine.{Machine}
use Rattle.machine.specs.Steps.{passed, finish}
use Rattle.machine.proofs.Jobs.{finished-table}
use Rattle.rehearsal.specs.Multiple.{multiple}
use Rattle.rehearsal.specs.Rehearsal.{full, late_now, rehearsal}
use Rattle.rehearsal.specs.Bench.{bench_at, started_before, CalmBefore, EndsRightly}
use Rattle.rehearsal.proofs.From.{from-none, from-late}
use Rattle.rehearsal.proofs.ByTick.{bench-n, goes-on-from}

-- nobody is late where no task is named, and where somebody is, one is
pub late-none : (m : Machine) (n : ℕ) → m.table.n ≡ n → lowest n (has_task (late_now m)) ≡ 0 → late_now m ≡ 0
late-none m n same e =
    let all : n ≡ (finish (full m) (passed m)).table.n =
    sym (ap (λ (u : Table). u.n) (finished-table m 0 (full m)) ∙ same) in
    tasks-none _ _ (each _ _ (λ i l. lowest-none (has_task (late_now m)) n e i (omega (arith, all))))

late-named : (m : Machine) (n : ℕ) → m.table.n ≡ n → late_now m ≢ 0 → lowest n (has_task (late_now m)) ≢ 0
late-named m n same late e = late (late-none m n same e)

module _ (t : Table) where
  abbrev L : ℕ
  L = multiple t

  -- tick i is the first at which somebody is late
  record LateFirst (i : ℕ) : Type 0 where
    pub within : i ≤ L
    pub calm : CalmBefore t i
    pub late : late_now (bench_at t i) ≢ 0

  data Ending : Type 0 where
    calm : CalmBefore t (suc L) → Ending
    late : (i : ℕ) → LateFirst i → Ending

  one_more : (i : ℕ) → CalmBefore t i → late_now (bench_at t i) ≡ 0 → CalmBefore t (suc i)
  one_more i c e j l =
      elim (dec_lt j i) [
        | yes h ↦ c j h
        | no h ↦ let z : j ≡ i = omega arith in rw z e
      ]

  from_tick : (left i : ℕ) → i + left ≡ suc L → CalmBefore t i → Ending
  from_tick zero i e c = let z : i ≡ suc L = omega arith in calm (rw z at c)
  from_tick (suc left) i e c =
      elim (ℕ_discrete (late_now (bench_at t i)) 0) [
        | yes h ↦ from_tick left (suc i) (omega arith) (one_more i c h)
        | no h ↦ late i (record { within = omega arith; calm = c; late = h })
      ]

  ending : Ending
  ending = from_tick (suc L) 0 (omega arith) (λ j l. absurd (omega arith))

  pub calm-outcome : CalmBefore t (suc L)
      → rehearsal t ≡ record { tick = 0; task = 0; started = started_before t (suc L) }
  calm-outcome c = goes-on-from t (suc L) 0 (omega arith) c ∙ from-none L (suc L) (bench_at t (suc L)) _

  late-outcome : (i : ℕ) → LateFirst i
      → rehearsal t
      ≡ record { tick = i; task = lowest t.n (has_task (late_now (bench_at t i))); started = started_before t i }
  late-outcome i f =
      goes-on-from t i (suc (L - i)) (omega (arith, f.within)) f.calm
      ∙ (from-late L i (bench_at t i) (started_before t i) (L - i) (ne_eqb _ 0 f.late) ∙ rw (bench-n t i))

  late-task : (i : ℕ) → LateFirst i → (rehearsal t).task ≢ 0
  late-task i f = rw (late-outcome i f) (late-named (bench_at t i) t.n (bench-n t i) f.late)

  pub ends_rightly : EndsRightly t
  ends_rightly = by ending
    where
      by : Ending → EndsRightly t
      by (calm c) =
          let o = calm-outcome c in
          record {
            none = λ e. record { calm = c; tick = rw o; started = rw o };
            some = λ h. absurd (h (rw o));
          }
      by (late i f) =
          let o = late-outcome i f in
          record {
            none = λ e. absurd (late-task i f e);
            some = λ h. record { within = rw o f.within; calm = rw o f.calm; task = rw o; started = rw o };
          }
