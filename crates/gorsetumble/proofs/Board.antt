-- The board's own path: the verdict means what it should, and after a 0 the machine that the same texts set up keeps
-- the promise.
use Prim.Native.Nat.{ℕ, zero, suc, ◌+◌, ◌≤◌}
use mathlib.Core.Path.{◌≡◌, refl, sym, ap, ◌∙◌}
use mathlib.Core.Bool.{true, cond}
use mathlib.Core.List.{List, map}
use native.Mathlib.Omega.{arith}
use borrow.Author.Tests.{eq-eqb, ne_eqb, le-leb, lt-leb}
use lib.Dec.{eqb}
use lib.ListN.{length}
use Rattle.maths.proofs.Padded.{length-padded}
use Rattle.forms.specs.Forms.{Form, platform_form, tasks_form, GoodText}
use Rattle.forms.specs.Reads.{Answer, found, refused, NoText, Reads}
use Rattle.forms.specs.Reader.{read}
use Rattle.forms.proofs.Theorem.{reads, unique, only}
use Rattle.table.specs.declared.Table.{Table}
use Rattle.table.specs.Limits.{most_tasks}
use Rattle.table.specs.Tasks.{no_task}
use Rattle.table.specs.Refused.{refusal}
use Rattle.table.proofs.Refusals.{refusal_carries}
use Rattle.readers.specs.Inputs.{task_of}
use Rattle.admission.specs.declared.QuickAnswer.{QuickAnswer}
use Rattle.admission.specs.Test as test
use Rattle.admission.proofs.Laws.{admitted-is}
use Rattle.admission.proofs.Answers.{quick_unrefused, first-le}
use Rattle.machine.specs.declared.Machine.{Machine}
use Rattle.machine.specs.Fresh.{set_up}
use Rattle.texts.specs.Given.{given, told}
use Rattle.texts.specs.Verdict.{number_of, quick_number, verdict}
use Rattle.texts.proofs.Answers.{number_is}
use Rattle.promise.specs.Promise.{Admitted}
use Rattle.promise.proofs.Calls.{are_steps}
use Rattle.gorsetumble.specs.Board as board
use Rattle.gorsetumble.specs.Board.{GoodTexts, table_in, Means, boards_number, BoardsVerdict, BoardsSetUp}
use Rattle.gorsetumble.specs.Board.{BoardsPromise, BoardsPromiseOfCalls}
use Rattle.gorsetumble.specs.FromTexts.{of_table, set_up_texts}
use Rattle.gorsetumble.proofs.Demands.{promised}

-- the number of a table
module _ (t : Table) where
  number-refused : ((refusal t).number ≡ 0 → ⊥) → quick_number t ≡ (refusal t).number
  number-refused h = sym (number_is t) ∙ rw (ne_eqb (refusal t).number 0 h)

  module _ (none : (refusal t).number ≡ 0) where
    number-first : quick_number t ≡ cond (eqb (test.first_failing t) 0) 0 (100 + test.first_failing t)
    number-first = rw (quick_unrefused t none, eq-eqb (refusal t).number 0 none)

    number-admitted : test.admitted t ≡ true → quick_number t ≡ 0
    number-admitted a = number-first ∙ rw (sym (admitted-is t) ∙ a)

    number-failing : (k : ℕ) → 1 ≤ k → test.first_failing t ≡ k → quick_number t ≡ 100 + k
    number-failing k l e = number-first ∙ rw (e, ne_eqb k 0 (λ z. omega (arith, z)))

module _ (F : Form) (bytes : List ℕ) where
  good-read : (g : GoodText F bytes) → read F bytes ≡ found g.0
  good-read g = only F bytes (read F bytes) (found g.0) (reads F bytes) (g.1, g.2)

  bad-read : (offset : ℕ) → NoText F bytes offset → read F bytes ≡ refused offset
  bad-read offset h = only F bytes (read F bytes) (refused offset) (reads F bytes) h

  one-rows : (g h : GoodText F bytes) → g.0 ≡ h.0
  one-rows g h = unique F g.0 h.0 g.1 h.1 (g.2 ∙ sym h.2)

module _ (platform tasks : List ℕ) where
  verdict_of : (g : GoodTexts platform tasks) → verdict platform tasks ≡ quick_number (table_in g)
  unfolding verdict
  verdict_of g = rw (good-read platform_form platform g.0, good-read tasks_form tasks g.1)

  whole : (g : GoodTexts platform tasks) → length (table_in g).rows ≡ most_tasks
  whole g = length-padded no_task most_tasks (map task_of g.1.0)

  means-table : (g : GoodTexts platform tasks) → Means platform tasks (quick_number (table_in g))
  means-table g = by (refusal t).number refl
    where
      t : Table
      t = table_in g

      first : (refusal t).number ≡ 0 → (k : ℕ) → test.first_failing t ≡ k → Means platform tasks (quick_number t)
      first none zero e =
          let a : test.admitted t ≡ true = admitted-is t ∙ rw e in
          rw (number-admitted t none a) (board.admitted g none a)
      first none (suc k) e =
          let most : test.first_failing t ≤ most_tasks = rw (quick_unrefused t none) at (first-le t (whole g)) in
          rw (number-failing t none (suc k) (omega arith) e)
          (board.failing g (suc k) (omega arith) (omega (arith, most, e)) none e)

      by : (k : ℕ) → (refusal t).number ≡ k → Means platform tasks (quick_number t)
      by zero e = first e (test.first_failing t) refl
      by (suc k) e =
          rw (number-refused t (λ z. omega (arith, z, e)) ∙ e)
          (board.refused g (suc k) (omega arith) (omega (arith, (refusal_carries t (whole g)).number, e)) e)

  means_of : (x y : Answer (List (List ℕ))) → Reads platform_form platform x → Reads tasks_form tasks y
      → Means platform tasks (told number_of quick_number (given x y))
  means_of (refused k) y h i = board.no_text (λ g. h.bad g.0)
  means_of (found rows) (refused k) h i = board.no_text (λ g. i.bad g.1)
  means_of (found rows) (found others) h i = means-table ((rows, h.0, h.1), (others, i.0, i.1))

  means : Means platform tasks (verdict platform tasks)
  unfolding verdict
  means =
      means_of (read platform_form platform) (read tasks_form tasks) (reads platform_form platform)
      (reads tasks_form tasks)

  exactly : (v : ℕ) → Means platform tasks v → verdict platform tasks ≡ v
  unfolding verdict
  exactly v (board.admitted g none a) = verdict_of g ∙ number-admitted (table_in g) none a
  exactly v (board.refused g k l m e) = verdict_of g ∙ number-refused (table_in g) (λ z. omega (arith, z, e)) ∙ e
  exactly v (board.failing g k l m none e) = verdict_of g ∙ number-failing (table_in g) none k l e
  exactly v (board.no_text h) =
      none (read platform_form platform) (read tasks_form tasks) (reads platform_form platform) (reads tasks_form tasks)
    where
      none : (x y : Answer (List (List ℕ))) → Reads platform_form platform x → Reads tasks_form tasks y
          → told number_of quick_number (given x y) ≡ 15
      none (refused k) y i j = refl
      none (found rows) (refused k) i j = refl
      none (found rows) (found others) i j = absurd (h ((rows, i.0, i.1), (others, j.0, j.1)))

  listed : (v : ℕ) → Means platform tasks v → boards_number v ≡ true
  listed v (board.admitted g none a) = refl
  listed v (board.refused g k l m e) = rw (le-leb k 8 m)
  listed v (board.no_text h) = refl
  listed v (board.failing g k l m none e) =
      rw (
        lt-leb (100 + k) 8 (omega arith),
        ne_eqb (100 + k) 15 (λ z. omega (arith, z)),
        le-leb 101 (100 + k) (omega arith),
        le-leb (100 + k) (100 + most_tasks) (omega arith),
      )

  one_table_lem : (g h : GoodTexts platform tasks) → table_in g ≡ table_in h
  one_table_lem g h = rw (one-rows platform_form platform g.0 h.0, one-rows tasks_form tasks g.1 h.1)

  pub boards_verdict : BoardsVerdict platform tasks
  boards_verdict = record { one_table = one_table_lem; listed = listed _ means; means = means; exactly = exactly }

  -- a 0 is an admitted table
  zero-means : (v : ℕ) → Means platform tasks v → v ≡ 0 → (g : GoodTexts platform tasks) × Admitted (table_in g)
  zero-means v (board.admitted g none a) z = (
    g,
    record { whole = whole g; verdict = ap (λ (q : QuickAnswer). q.admitted) (quick_unrefused (table_in g) none) ∙ a },
  )
  zero-means v (board.refused g k l m e) z = absurd (omega arith)
  zero-means v (board.no_text h) z = absurd (omega arith)
  zero-means v (board.failing g k l m none e) z = absurd (omega arith)

  set_up_of : (old : Machine) (g : GoodTexts platform tasks)
      → set_up_texts old platform tasks ≡ of_table (set_up old (table_in g))
  unfolding set_up_texts
  set_up_of old g = rw (good-read platform_form platform g.0, good-read tasks_form tasks g.1)

  pub boards_set_up : (old : Machine) → BoardsSetUp platform tasks old
  unfolding set_up_texts
  boards_set_up old =
      record {
        platform_bad = λ offset h. rw (bad-read platform_form platform offset h);
        tasks_bad = λ g offset h. rw (good-read platform_form platform g, bad-read tasks_form tasks offset h);
        both_good = set_up_of old;
      }

pub boards_promise : BoardsPromise
boards_promise platform tasks z old reports =
    let (g, a) = zero-means platform tasks _ (means platform tasks) z in
    let (fits, kept) = promised old (table_in g) a reports in
    (g, rw (set_up_of platform tasks old g) fits, rw (set_up_of platform tasks old g) kept)

pub boards_promise_of_calls : BoardsPromiseOfCalls
boards_promise_of_calls platform tasks old reports c z =
    let (g, fits, kept) = boards_promise platform tasks (sym c.verdict_contract ∙ z) old reports in
    (g, rw c.set_up_contract fits, rw (are_steps c.tick_contract, c.set_up_contract) kept)
