-- Demand 3: an admitted table keeps its promise, whatever the machine is told.
use Prim.Native.Nat.{ℕ, suc, ◌<◌, ◌≤◌}
use mathlib.Core.Path.{◌≡◌, sym, ◌∙◌, ap, subst}
use mathlib.Core.Bool.{true}
use mathlib.Core.List.{List}
use mathlib.Core.Logic.{◌≢◌}
use native.Mathlib.Decide.{dec_lt}
use native.Mathlib.Omega.{arith}
use Rattle.maths.specs.Tasks.{Each}
use Rattle.maths.proofs.Tasks.{each}
use Rattle.table.specs.declared.Table.{Table}
use Rattle.table.specs.Limits.{most_tasks}
use Rattle.sets.specs.Sets.{has}
use Rattle.sets.proofs.Bits.{has-true}
use Rattle.sets.proofs.Same.{disjoint-bit}
use Rattle.admission.specs.Test.{rows}
use Rattle.machine.specs.declared.Answer.{Answer}
use Rattle.machine.specs.declared.Machine.{Machine}
use Rattle.machine.specs.Jobs.{job, held}
use Rattle.machine.proofs.StateParts.{Staged, GoodState, when_good}
use Rattle.lives.specs.Report.{Row}
use Rattle.conduct.proofs.Laws.{tick-refusal, tick-late}
use Rattle.promise.specs.Sequences.{Report, told, Sequence, sequence, count, tick_at, state}
use Rattle.promise.specs.Promise.{Kept, Demand3}
use Rattle.promise.proofs.Safe as safety
use Rattle.promise.proofs.Safe.{Safe, same_row}
use Rattle.promise.proofs.Test.{safe}
use Rattle.promise.proofs.States.{follows, sound}
use Rattle.promise.proofs.Course.{on_time_lem}
use Rattle.promise.proofs.Waits.{waits-short, starts-short}
use Rattle.promise.proofs.Ends.{ends-short}
use Rattle.promise.proofs.Times.{Timely, no-late, no_13}

-- in a good state a partition has one holder
one_holder : {m : Machine} → GoodState m → (p : ℕ) → Each m.table.n (λ k. Each m.table.n (λ l.
    has (held m k) p ≡ true → has (held m l) p ≡ true → k ≡ l))
one_holder {m} g p = each m.table.n _ (λ i u. each m.table.n _ (λ j v. both i j u v))
  where
    apart : (i j : ℕ) → i < j → j < m.table.n → has (held m (suc i)) p ≡ true → has (held m (suc j)) p ≡ true → ⊥
    apart i j l v a b =
        omega (
          arith,
          has-true _ p a,
          has-true _ p b,
          disjoint-bit (held m (suc i)) (held m (suc j)) p (g.apart i j l v),
        )

    both : (i j : ℕ) → i < m.table.n → j < m.table.n → has (held m (suc i)) p ≡ true
        → has (held m (suc j)) p ≡ true → suc i ≡ suc j
    both i j u v a b =
        elim (dec_lt i j) [
          | yes l ↦ absurd (apart i j l v a b)
          | no l ↦
              elim (dec_lt j i) [
                | yes h ↦ absurd (apart j i h u b a)
                | no h ↦ omega arith
              ]
        ]

module _ (t : Table) (a : Safe t) (xs : List Report) where
  abbrev s : Sequence
  s = sequence t xs

  staged : (i : ℕ) → i ≤ count s → Each t.n (λ k. Staged (job (state s i) k).stage)
  staged i l = each t.n _ (λ j h. when_good ((sound t a xs i l).good.each j (rw (sound t a xs i l).same h)))

  timely : (i : ℕ) → i ≤ count s
      → Each (state s i).table.n (λ k. Timely (rows (state s i).table k) (job (state s i) k))
  timely i l =
      subst (λ (u : Table). Each u.n (λ k. Timely (rows u k) (job (state s i) k))) (sym (sound t a xs i l).same)
      (λ k p q. subst (λ (r : Row). Timely r (job (state s i) k)) (sym (same_row t a k p q))
      (record {
        sound = safety.sound t a k p q;
        within = (on_time_lem t a xs i l k p q).0;
        on_time = (on_time_lem t a xs i l k p q).1;
        staged = staged i l k p q;
      }))

  few : (i : ℕ) → i ≤ count s → (state s i).table.n ≤ most_tasks
  few i l = (sound t a xs i l).good.table.sizes.few

  never-late : (i : ℕ) → i < count s → (tick_at s i).answer.late ≡ 0
  never-late i l =
      let f = follows t a xs i l in
      let st = tick_at s i in
      ap (λ (r : Answer). r.late) f.answer
      ∙ (tick-late (state s i) st.report.released st.report.finished f.taken
      ∙ no-late (state s i) (few i (omega arith)) (timely i (omega arith)) st.report.finished)

  never_13 : (i : ℕ) → i ≤ count s → (x : Report) → (told (state s i) x).answer.refused.number ≢ 13
  never_13 i l x =
      rw (tick-refusal (state s i) x.released x.finished)
      (no_13 (state s i) (few i l) (timely i l) x.released x.finished)

  one_holder_each : (i : ℕ) → i ≤ count s → (p : ℕ) → Each t.n (λ k. Each t.n (λ l.
      has (held (state s i) k) p ≡ true → has (held (state s i) l) p ≡ true → k ≡ l))
  one_holder_each i l p =
      subst (λ (u : Table). Each u.n
      (λ k. Each u.n (λ h. has (held (state s i) k) p ≡ true → has (held (state s i) h) p ≡ true → k ≡ h)))
      (sound t a xs i l).same
      (one_holder (sound t a xs i l).good p)

  pub kept : Kept t s
  kept =
      record {
        waits = λ k p q i j h l r. waits-short t a xs k p q i r j h l;
        starts_soon = λ k p q i j h l r. starts-short t a xs k p q i r j h l;
        not_late = never-late;
        not13 = never_13;
        alone = one_holder_each;
        ends = ends-short t a xs;
      }

pub demand_3 : Demand3
demand_3 t a xs = kept t (safe t a) xs
