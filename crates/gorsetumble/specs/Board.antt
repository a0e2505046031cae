-- The board's own path (document 01: "The board's start-up code is C and asks for the quick verdict with the bytes of
-- two texts"): what each number that it gets says of the texts, and what holds after a 0 if the machine is set up from
-- the same texts.
use Rattle.std.specs.Prelude.{ℕ, ◌+◌, ◌≤◌, ◌≡◌, Bool, true, ◌&&◌, ◌||◌, List, leb, eqb}
use Rattle.forms.specs.Forms.{platform_form, tasks_form, GoodText}
use Rattle.forms.specs.Reads.{NoText}
use Rattle.table.specs.declared.Table.{Table}
use Rattle.table.specs.Limits.{most_tasks}
use Rattle.table.specs.Refused.{refusal}
use Rattle.readers.specs.Inputs.{table_from}
use Rattle.admission.specs.Test as test
use Rattle.machine.specs.declared.Machine.{Machine}
use Rattle.machine.specs.Tick.{Ticked}
use Rattle.machine.specs.Fresh.{set_up}
use Rattle.texts.specs.Verdict.{verdict}
use Rattle.promise.specs.Sequences.{Report}
use Rattle.promise.specs.Promise.{Kept}
use Rattle.promise.specs.Calls.{Ticks, returned}
use Rattle.gorsetumble.specs.Demands.{since}
use Rattle.gorsetumble.specs.FromTexts.{TextsSetUp, in_platform, in_tasks, bad_in, of_table, set_up_texts}

-- Both texts are good: each is the one good text of some rows.
abbrev pub GoodTexts : List ℕ → List ℕ → Type 0
GoodTexts platform tasks = GoodText platform_form platform × GoodText tasks_form tasks

-- the table that two good texts say
abbrev pub table_in : {platform tasks : List ℕ} → GoodTexts platform tasks → Table
table_in g = table_from g.0.0 g.1.0

-- What a number means. One that stands here in no line means nothing.
pub data Means (platform tasks : List ℕ) : ℕ → Type 0 where
  -- 0: both texts are good, their table earns none of refusals 1 to 8, and every task passes.
  admitted : (g : GoodTexts platform tasks) → (refusal (table_in g)).number ≡ 0 → test.admitted (table_in g) ≡ true
      → Means platform tasks 0
  -- 1 to 8: both texts are good, and their table earns this refusal.
  refused : (g : GoodTexts platform tasks) (k : ℕ) → 1 ≤ k → k ≤ 8 → (refusal (table_in g)).number ≡ k
      → Means platform tasks k
  -- 15: the texts are not both good.
  no_text : (GoodTexts platform tasks → ⊥) → Means platform tasks 15
  -- 100 + k: both texts are good, their table earns none of refusals 1 to 8, and task k is the first that does not
  -- pass.
  failing : (g : GoodTexts platform tasks) (k : ℕ) → 1 ≤ k → k ≤ most_tasks → (refusal (table_in g)).number ≡ 0
      → test.first_failing (table_in g) ≡ k → Means platform tasks (100 + k)

-- 0, 1 to 8, 15, 101 to 132
abbrev pub boards_number : ℕ → Bool
boards_number v = leb v 8 || (eqb v 15 || (leb 101 v && leb v (100 + most_tasks)))

-- The number that comes back is v exactly if v's meaning holds; so 0 comes back exactly if both texts are good and
-- their table is admitted.
pub record BoardsVerdict (platform tasks : List ℕ) : Type 0 where
  -- two good texts say one table
  pub one_table : (g h : GoodTexts platform tasks) → table_in g ≡ table_in h
  pub listed : boards_number (verdict platform tasks) ≡ true
  pub means : Means platform tasks (verdict platform tasks)
  pub exactly : (v : ℕ) → Means platform tasks v → verdict platform tasks ≡ v

-- What set-up from the texts does, in each case that there is: 15 with its offset and which text it is in, the platform
-- being tried first, and the machine stays; or else what set-up does with the table that the texts say.
pub record BoardsSetUp (platform tasks : List ℕ) (old : Machine) : Type 0 where
  pub platform_bad : (offset : ℕ) → NoText platform_form platform offset
      → set_up_texts old platform tasks ≡ record { refused = bad_in in_platform offset; machine = old }
  pub tasks_bad : GoodText platform_form platform → (offset : ℕ) → NoText tasks_form tasks offset
      → set_up_texts old platform tasks ≡ record { refused = bad_in in_tasks offset; machine = old }
  pub both_good : (g : GoodTexts platform tasks) → set_up_texts old platform tasks ≡ of_table (set_up old (table_in g))

-- After a 0, set-up from the same texts is not refused, whatever the machine was, and from there on the machine keeps
-- the promise, demand 3, of the table that the texts say, whatever it is told.
abbrev pub BoardsPromise : Type 0
BoardsPromise = (platform tasks : List ℕ) → verdict platform tasks ≡ 0 → (old : Machine) (reports : List Report)
    → (g : GoodTexts platform tasks) × ((set_up_texts old platform tasks).refused.refused.number ≡ 0)
    × Kept (table_in g) (since (set_up_texts old platform tasks).machine reports)

-- What the board's calls give it: a number, a refusal with the machine that then stands behind the reference, and for
-- each report an answer with the machine that then stands there. By their contracts these are the verdict, set-up from
-- the texts and the ticks of the definitions.
pub record BoardsCalls (platform tasks : List ℕ) (old : Machine) (reports : List Report) : Type 0 where
  pub number : ℕ
  pub begun : TextsSetUp
  pub ticked : List Ticked
  pub verdict_contract : number ≡ verdict platform tasks
  pub set_up_contract : begun ≡ set_up_texts old platform tasks
  pub tick_contract : Ticks begun.machine reports ticked

-- The promise, of these very values.
abbrev pub BoardsPromiseOfCalls : Type 0
BoardsPromiseOfCalls = (platform tasks : List ℕ) (old : Machine) (reports : List Report)
    (c : BoardsCalls platform tasks old reports) → c.number ≡ 0
    → (g : GoodTexts platform tasks) × (c.begun.refused.refused.number ≡ 0)
    × Kept (table_in g) (record { first = c.begun.machine; ticks = returned reports c.ticked })
