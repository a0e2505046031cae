-- Demand 3: what is promised of a table that is admitted, whatever the machine is told. Tasks are numbered 1 to n,
-- ticks and states as in Sequences.antt.
-- How to read it: `A → B` is "if A then B" and `(i : ℕ) → A` "for every number i, A"; `A × B` is "A and B" and
-- `(i : ℕ) × A` "there is a number i with A"; `Each n (λ k. A)` is "for each task k from 1 to n, A"; `x ≡ y` and
-- `x ≢ y` are "x is y" and "x is not y". A record is all of its fields.
use Rattle.std.specs.Prelude.{◌≡◌, true, false, List, ◌≢◌, ℕ, ◌+◌, ◌-◌, ◌≤◌, ◌<◌, length}
use Rattle.maths.specs.Tasks.{Each}
use Rattle.table.specs.declared.Table.{Table}
use Rattle.table.specs.Limits.{most_tasks}
use Rattle.table.specs.Tasks.{τ, D, C}
use Rattle.admission.specs.Answers.{quick_answer}
use Rattle.sets.specs.Sets.{has}
use Rattle.machine.specs.Jobs.{held}
use Rattle.promise.specs.Sequences.{Report, told, Sequence, sequence, count, tick_at, state, releases, finishes}
use Rattle.promise.specs.Sequences.{starts}

-- w ticks are fewer than the slack D - C of task k
abbrev pub InSlack : Table → ℕ → ℕ → Type 0
InSlack t k w = w < D (τ t k) - C (τ t k)

-- w ticks after its release the deadline of a job of task k is still to come
abbrev pub InDeadline : Table → ℕ → ℕ → Type 0
InDeadline t k w = w < D (τ t k)

-- tick j finishes the job of task k that tick i released
pub record Finished (s : Sequence) (k i j : ℕ) : Type 0 where
  pub later : i < j
  pub released : releases s i k ≡ true
  pub between : (e : ℕ) → i < e → e < j → finishes s e k ≡ false

pub record Kept (t : Table) (s : Sequence) : Type 0 where
  -- 1. A job of task k that tick i releases and none of the ticks i to j starts has waited j - i + 1 ticks, fewer than
  -- D - C.
  pub waits : Each t.n (λ k. (i j : ℕ) → i ≤ j → j < count s
      → releases s i k ≡ true → ((e : ℕ) → i ≤ e → e ≤ j → starts s e k ≡ false) → InSlack t k (j - i + 1))
  -- So one that starts, starts after fewer ticks than that.
  pub starts_soon : Each t.n (λ k. (i j : ℕ) → i ≤ j → j < count s
      → releases s i k ≡ true → ((e : ℕ) → i ≤ e → e < j → starts s e k ≡ false)
      → starts s j k ≡ true → InSlack t k (j - i))
  -- 2. No task is late in any tick.
  pub not_late : (i : ℕ) → i < count s → (tick_at s i).answer.late ≡ 0
  -- 3. No report whatever, tried on any state, is refused under 13.
  pub not13 : (i : ℕ) → i ≤ count s → (x : Report) → (told (state s i) x).answer.refused.number ≢ 13
  -- 4. In no state does a partition p have two holders k and l,
  pub alone : (i : ℕ) → i ≤ count s → (p : ℕ) → Each t.n (λ k. Each t.n (λ l.
      has (held (state s i) k) p ≡ true → has (held (state s i) l) p ≡ true → k ≡ l))
  -- and every job that is finished was released before, less than D ticks ago.
  pub ends : Each t.n
      (λ k. (j : ℕ) → j < count s → finishes s j k ≡ true → (i : ℕ) × (Finished s k i j) × InDeadline t k (j - i))

-- The table is admitted by the quick answer. An array of the board's has its 32 entries; a list in a definition need
-- not, so that it is said here.
pub record Admitted (t : Table) : Type 0 where
  pub whole : length t.rows ≡ most_tasks
  pub verdict : (quick_answer t).admitted ≡ true

abbrev pub Demand3 : Type 0
Demand3 = (t : Table) → Admitted t → (reports : List Report) → Kept t (sequence t reports)
