-- A tasks text behind its header: row after row, every one counted and the first 32 kept.
use Prim.Native.Nat.{ℕ, ◌+◌, ◌<◌, ◌≤◌}
use mathlib.Core.Path.{◌≡◌, refl, sym, ap, ◌∙◌}
use mathlib.Core.List.{List, [], ◌∷◌, ◌++◌, map, map-append}
use native.Mathlib.Omega.{arith}
use lib.ListN.{length, set, replicate, length-map}
use Rattle.std.specs.Prelude.{Ok, Err}
use Rattle.maths.specs.Padded.{padded}
use Rattle.maths.proofs.Padded.{padded-none, padded-more, padded-full}
use Rattle.table.specs.declared.Platform.{Platform}
use Rattle.table.specs.declared.Task.{Task}
use Rattle.table.specs.Limits.{most_tasks}
use Rattle.table.specs.Tasks.{no_task}
use Rattle.forms.specs.Forms.{tasks_form, crlf}
use Rattle.forms.specs.Reads.{refused}
use Rattle.forms.specs.Reader.{read}
use Rattle.readers.specs.declared.Offset.{Offset}
use Rattle.readers.specs.declared.Piece.{Piece}
use Rattle.readers.specs.Inputs.{task_of, table_read}
use Rattle.readers.specs.Places.{word_at, row_at}
use Rattle.readers.proofs.Texts.{Line, line-start, line-end, line-bad, line_row, line-next}

module _ (kept : List Task) (rows : List (List ℕ)) (n : ℕ) where
  keep-more : (row : List ℕ) → n ≡ length rows → kept ≡ padded most_tasks no_task (map task_of rows)
      → n < most_tasks
      → set kept n (task_of row) ≡ padded most_tasks no_task (map task_of (rows ++ (row ∷ [])))
  keep-more row count keeps less =
      let size : length (map task_of rows) ≡ n = length-map rows task_of ∙ sym count in
      sym
      (ap (padded most_tasks no_task) (map-append task_of rows (row ∷ []))
      ∙ padded-more no_task most_tasks (map task_of rows) (task_of row) (omega arith)
      ∙ rw (size, keeps))

  keep-full : (row : List ℕ) → n ≡ length rows → kept ≡ padded most_tasks no_task (map task_of rows) → most_tasks ≤ n
      → kept ≡ padded most_tasks no_task (map task_of (rows ++ (row ∷ [])))
  keep-full row count keeps full =
      let size : length (map task_of rows) ≡ n = length-map rows task_of ∙ sym count in
      keeps
      ∙ sym
      (ap (padded most_tasks no_task) (map-append task_of rows (row ∷ []))
      ∙ padded-full no_task most_tasks (map task_of rows) (task_of row ∷ []) (omega arith))

-- at a line's beginning, with the tasks that are kept
pub record Here (text : List ℕ) (at : ℕ) (kept : List Task) (n : ℕ) : Type 0 where
  pub rows : List (List ℕ)
  pub line : Line tasks_form text rows at n
  pub keeps : kept ≡ padded most_tasks no_task (map task_of rows)

pub here-start : (text : List ℕ) (k : ℕ) → Ok k ≡ word_at text 0 (tasks_form.header ++ crlf)
    → Here text k (replicate most_tasks no_task) 0
here-start text k e =
    record { rows = []; line = line-start tasks_form refl text k e; keeps = sym (padded-none no_task most_tasks) }

module _ (text : List ℕ) (at : ℕ) (kept : List Task) (n : ℕ) (h : Here text at kept n) where
  pub here_end : (platform : Platform) → length text ≤ at
      → table_read platform (read tasks_form text) ≡ Ok (record { platform = platform; n = n; rows = kept })
  here_end platform l = ap (table_read platform) (line-end tasks_form refl text h.rows at n h.line l)
      ∙ rw (h.line.count, h.keeps, length-map h.rows task_of)

  module _ (less : at < length text) where
    pub here-bad : (offset : Offset) → Err offset ≡ row_at text at tasks_form → read tasks_form text ≡ refused offset.0
    here-bad offset e = line-bad tasks_form refl text h.rows at n h.line less offset e

    module _ (x : Piece (List ℕ)) (e : Ok x ≡ row_at text at tasks_form) where
      pub here-far : at < x.next
      here-far = (line_row tasks_form refl text h.rows at n h.line less x e).far

      next-line : Line tasks_form text (h.rows ++ (x.value ∷ [])) x.next (n + 1)
      next-line = line-next tasks_form refl text h.rows at n h.line less x e

      pub here-kept : n < most_tasks → Here text x.next (set kept n (task_of x.value)) (n + 1)
      here-kept room =
          record {
            rows = h.rows ++ (x.value ∷ []);
            line = next-line;
            keeps = keep-more kept h.rows n x.value h.line.count h.keeps room;
          }

      pub here-full : most_tasks ≤ n → Here text x.next kept (n + 1)
      here-full full =
          record {
            rows = h.rows ++ (x.value ∷ []);
            line = next-line;
            keeps = keep-full kept h.rows n x.value h.line.count h.keeps full;
          }
