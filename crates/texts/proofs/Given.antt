-- From what the readers answer back to the texts.
use Prim.Native.Nat.{ℕ, ◌≤◌}
use mathlib.Core.Path.{◌≡◌, refl}
use mathlib.Core.Bool.{Bool, true, false, cond}
use mathlib.Core.List.{List, map}
use native.Mathlib.Omega.{arith}
use borrow.Author.Tests.{leb-true}
use lib.Dec.{leb}
use lib.ListN.{length}
use Rattle.std.specs.Prelude.{Option, None, Some, Result, Ok, Err}
use Rattle.maths.proofs.Padded.{length-padded}
use Rattle.forms.specs.Forms.{Form}
use Rattle.forms.specs.Reads.{Answer, found, refused}
use Rattle.forms.specs.Reader.{read}
use Rattle.table.specs.declared.Refusal.{Refusal}
use Rattle.table.specs.declared.Platform.{Platform}
use Rattle.table.specs.declared.Table.{Table}
use Rattle.table.specs.Limits.{most_tasks}
use Rattle.table.specs.Tasks.{no_task}
use Rattle.readers.specs.Inputs.{task_of, bad_text, platform_read, table_read}
use Rattle.texts.specs.Given.{given, longest, taken}
use Rattle.texts.specs.Code.Fitting.{fitting}

-- what a program takes of a text, by whether it takes it
module _ (F : Form) where
  pub taken_not : (text : Option (List ℕ)) (r : Refusal) → Err r ≡ fitting text → {A : Type 0}
      (reads : Answer (List (List ℕ)) → Result A Refusal) → reads (refused 0) ≡ Err (bad_text 0)
      → Err r ≡ reads (taken F text)
  unfolding taken
  taken_not None r e reads bad = grind arith
  taken_not (Some bytes) r e reads bad = by (leb (length bytes) longest) e
    where
      by : (b : Bool) → Err r ≡ cond b (Ok bytes) (Err (bad_text 0)) → Err r ≡ reads (cond b (read F bytes) (refused 0))
      by true f = grind arith
      by false f = grind arith

  pub taken-read : (text : Option (List ℕ)) (bytes : List ℕ) → Ok bytes ≡ fitting text → read F bytes ≡ taken F text
  unfolding taken
  taken-read None bytes e = grind arith
  taken-read (Some all) bytes e = by (leb (length all) longest) e
    where
      by : (b : Bool) → Ok bytes ≡ cond b (Ok all) (Err (bad_text 0)) → read F bytes ≡ cond b (read F all) (refused 0)
      by true f = grind arith
      by false f = grind arith

  -- a text that is taken and found good is there, is read, and is not too long
  pub taken-found : (text : Option (List ℕ)) (rows : List (List ℕ)) → taken F text ≡ found rows
      → (bytes : List ℕ) × (text ≡ Some bytes) × (read F bytes ≡ found rows) × (length bytes ≤ longest)
  unfolding taken
  taken-found None rows e = grind arith
  taken-found (Some bytes) rows e = by (leb (length bytes) longest) refl e
    where
      by : (b : Bool) → leb (length bytes) longest ≡ b → cond b (read F bytes) (refused 0) ≡ found rows
          → (all : List ℕ) × (Some bytes ≡ Some all) × (read F all ≡ found rows) × (length all ≤ longest)
      by true t f = (bytes, refl, f, leb-true (length bytes) longest t)
      by false t f = grind arith

-- a table that was read has room for 32 rows
pub rows_32 : (platform : Platform) (y : Answer (List (List ℕ))) (t : Table) → Ok t ≡ table_read platform y
    → length t.rows ≡ most_tasks
rows_32 platform (found rows) t e = let size = length-padded no_task most_tasks (map task_of rows) in grind arith
rows_32 platform (refused offset) t e = grind arith

pub taken-rows : (x y : Answer (List (List ℕ))) (t : Table) → Ok t ≡ given x y → length t.rows ≡ most_tasks
taken-rows (refused offset) y t e = grind arith
taken-rows (found platform) (refused offset) t e = grind arith
taken-rows (found platform) (found rows) t e =
    let size = length-padded no_task most_tasks (map task_of rows) in grind arith

-- the texts taken one after the other
pub first-bad : (x y : Answer (List (List ℕ))) (r : Refusal) → Err r ≡ platform_read x → Err r ≡ given x y
first-bad (refused offset) y r e = grind arith
first-bad (found platform) y r e = grind arith

pub first_good : (x y : Answer (List (List ℕ))) (p : Platform) → Ok p ≡ platform_read x → table_read p y ≡ given x y
first_good (refused offset) y p e = grind arith
first_good (found platform) (refused offset) p e = refl
first_good (found platform) (found rows) p e = grind arith
