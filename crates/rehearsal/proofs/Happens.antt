-- What tick i of a rehearsal does to each task, read from its times: it is released, its job finishes or is late, and
-- all of that at tick i or later.
use Prim.Native.Nat.{ℕ, ◌%◌, ◌≤◌, ◌<◌}
use mathlib.Core.Path.{◌≡◌, sym, ◌∙◌, ap}
use mathlib.Core.Bool.{Bool, not, ◌&&◌}
use mathlib.Core.List.{List}
use lib.Dec.{ltb, eqb}
use Rattle.table.specs.Tasks.{τ, T}
use Rattle.admission.specs.Test.{row}
use Rattle.sets.specs.TaskSets.{has_task}
use Rattle.machine.specs.declared.Machine.{Machine}
use Rattle.machine.specs.Jobs.{job}
use Rattle.lives.specs.Report.{Row}
use Rattle.lives.specs.Life.{Life}
use Rattle.conduct.specs.Lives.{life}
use Rattle.rehearsal.specs.Multiple.{Common}
use Rattle.rehearsal.specs.Rehearsal.{released_at, full, late_now}
use Rattle.rehearsal.proofs.Benched.{Benched}
use Rattle.rehearsal.proofs.Members.{in_released, sound-row}
use Rattle.rehearsal.proofs.Times.{never, Times, times_of, NothingBefore}
use Rattle.rehearsal.proofs.TimesLaws.{is_over, due-from, ends-from, late-from, due-within}
use Rattle.rehearsal.proofs.TimesLaws.{due-read, over-read, late-read}
use Rattle.rehearsal.proofs.Readings.{within-c, full-has, late-has}

-- the times of task k before tick i
abbrev pub times : ℕ → Machine → ℕ → Times
times i m k = times_of i (row (τ m.table k)) (life (job m k))

module _ {i : ℕ} {m : Machine} {s : List ℕ} (b : Benched i m s) (k : ℕ) (l : 1 ≤ k) (h : k ≤ m.table.n) where
  abbrev rowk : Row
  rowk = row (τ m.table k)

  abbrev x : Life
  x = life (job m k)

  pub due-test : eqb (i % T (τ m.table k)) 0 ≡ eqb (times i m k).due i
  due-test = sym (due-read (sound-row m b.good k l h) (b.each k l h))

  pub releases : (L : ℕ) → has_task (released_at L m.table i) k ≡ (ltb i L && eqb (times i m k).due i)
  releases L =
      in_released L i m.table k l h
      ∙ ap (λ (now : Bool). ltb i L && now) due-test

  pub due-by : (L : ℕ) → Common m.table L → i ≤ L → (times i m k).due ≤ L
  due-by L common within = due-within (sound-row m b.good k l h) (b.each k l h) L (common k l h) within

  module _ (soon : i < never) where
    over-now : eqb (times i m k).ends i ≡ is_over rowk x
    over-now = over-read i rowk soon x (within-c b.good k l h)

    pub finishes : has_task (full m) k ≡ eqb (times i m k).ends i
    finishes = full-has b.good k l h ∙ sym over-now

    pub is-late : has_task (late_now m) k ≡ (not (eqb (times i m k).ends i) && eqb (times i m k).late i)
    is-late = rw (over-now, late-read i rowk soon x (b.each k l h)) (late-has b.good k l h)

    pub none-past : NothingBefore i (times i m k)
    none-past =
        record {
          due = due-from i rowk x;
          late = late-from i rowk soon x (b.each k l h);
          ends = ends-from i rowk soon x (within-c b.good k l h);
        }
