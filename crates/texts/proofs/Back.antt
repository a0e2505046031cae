-- What is written of a table is a good text, and reading it gives the table back.
use Prim.Native.Nat.{ℕ, ◌<◌, ◌≤◌}
use mathlib.Core.Path.{◌≡◌, refl, sym, ap, ◌∙◌}
use mathlib.Core.Bool.{true, false}
use mathlib.Core.List.{List, [], ◌∷◌, map}
use native.Mathlib.Omega.{arith}
use native.Mathlib.Decide.{dec_lt}
use lib.ListN.{length, take, get_or, get_or-eq_default}
use lib.Seq.{ext_get_or, get_or-take, length-take-le, take_all}
use Rattle.std.specs.Prelude.{Ok}
use Rattle.maths.proofs.Padded.{length-padded, get_d_padded}
use Rattle.forms.specs.Forms.{none, also, Form, EachRow, columns, GoodRows, platform_form, tasks_form, ticks_form}
use Rattle.forms.specs.Reader.{read}
use Rattle.forms.proofs.Complete.{complete}
use Rattle.table.specs.declared.Platform.{Platform}
use Rattle.table.specs.declared.Task.{Task}
use Rattle.table.specs.declared.Table.{Table}
use Rattle.table.specs.Limits.{most_tasks}
use Rattle.table.specs.Tasks.{no_task, table_of}
use Rattle.readers.specs.Inputs.{task_of, platform_read, table_read}
use Rattle.writers.specs.Outputs.{platform_row, task_row, tick_rows, tasks_text}
use Rattle.texts.specs.Back.{NarrowPlatform, NarrowRows, table_written, NonePast, WritesBack}

platform-rows : (p : Platform) → NarrowPlatform p → GoodRows platform_form (platform_row p ∷ [])
platform-rows p w = record { each = also w none; alone = λ o. refl }

-- where any number of rows may stand
many_rows : (F : Form) → F.one ≡ false → (rows : List (List ℕ)) → EachRow (columns F) rows → GoodRows F rows
many_rows F many rows each = record { each = each; alone = λ o. absurd (no (sym many ∙ o)) }
  where
    no : false ≡ true → ⊥
    no e = let z : ◌≡◌ {A = ℕ} 0 1 = cc in omega arith

tasks-back : (xs : List Task) → map task_of (map task_row xs) ≡ xs
tasks-back [] = refl
tasks-back (x ∷ xs) = ap {B = List Task} (λ r. x ∷ r) (tasks-back xs)

table-back : (t : Table) → NarrowRows t
    → table_read t.platform (read tasks_form (tasks_text t)) ≡ Ok (table_written t)
table-back t w =
    ap (table_read t.platform) (complete tasks_form _ (many_rows tasks_form refl _ w))
    ∙ ap (λ (xs : List Task). Ok (table_of t.platform xs)) (tasks-back (take t.n t.rows))

module _ (t : Table) (len : length t.rows ≡ most_tasks) where
  module _ (few : t.n ≤ most_tasks) where
    size : length (take t.n t.rows) ≡ t.n
    size = length-take-le t.n t.rows (omega arith)

    held : (i : ℕ) → i < t.n → get_or (table_written t).rows i no_task ≡ get_or t.rows i no_task
    held i l = get_d_padded no_task most_tasks (take t.n t.rows) i (omega arith)
        ∙ get_or-take t.n t.rows i no_task l

    first_rows : take t.n (table_written t).rows ≡ take t.n t.rows
    first_rows =
        let all = length-padded no_task most_tasks (take t.n t.rows) in
        let both : length (take t.n (table_written t).rows) ≡ t.n =
        length-take-le t.n (table_written t).rows (omega arith) in
        ext_get_or no_task _ _ (both ∙ sym size)
        (λ i l. let h : i < t.n = omega arith in
        get_or-take t.n (table_written t).rows i no_task h ∙ held i h ∙ sym (get_or-take t.n t.rows i no_task h))

    rows_same : NonePast t → (table_written t).rows ≡ t.rows
    rows_same past = ext_get_or no_task _ _ (length-padded no_task most_tasks _ ∙ sym len) at
      where
        at : (i : ℕ) → i < length (table_written t).rows
            → get_or (table_written t).rows i no_task ≡ get_or t.rows i no_task
        at i l =
            let in32 : i < most_tasks = omega (arith, length-padded no_task most_tasks (take t.n t.rows)) in
            elim (dec_lt i t.n) [
              | yes h ↦ held i h
              | no h ↦ get_d_padded no_task most_tasks (take t.n t.rows) i in32
                  ∙ get_or-eq_default (take t.n t.rows) no_task {n = i} (omega (arith, size))
                  ∙ sym (past i (omega arith) in32)
            ]

    all_same : NonePast t → table_written t ≡ t
    all_same past = rw (size, rows_same past) refl

  all-rows : most_tasks < t.n → table_written t ≡ table_of t.platform t.rows
  all-rows l = rw (take_all t.n t.rows (omega arith))

pub writes-back : WritesBack
writes-back =
    record {
      platform_good = λ p w. (platform_row p ∷ [], platform-rows p w, refl);
      tasks_good = λ t w. (map task_row (take t.n t.rows), many_rows tasks_form refl _ w, refl);
      ticks_good = λ released finished w. (tick_rows released finished, many_rows ticks_form refl _ w, refl);
      platform_back = λ p w. ap platform_read (complete platform_form _ (platform-rows p w));
      tasks_back = table-back;
      ticks_back = λ released finished w. complete ticks_form _ (many_rows ticks_form refl _ w);
      kept = λ t len few. (size t len few, first_rows t len few);
      same = all_same;
      cut = all-rows;
    }
