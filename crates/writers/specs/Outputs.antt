-- The texts that are written: of a platform, of a table's rows, of ticks, of margins, and of a refusal. A table is
-- written as it is, good or not.
use Rattle.std.specs.Prelude.{ℕ, suc, List, [], ◌∷◌, ◌++◌, map, ℤ, take}
use Prim.Native.String.{String}
use Rattle.forms.specs.Bytes.{bytes}
use Rattle.forms.specs.Forms.{crlf, lines, text, platform_form, tasks_form, ticks_form}
use Rattle.table.specs.declared.Platform.{Platform}
use Rattle.table.specs.declared.Task.{Task}
use Rattle.table.specs.declared.Table.{Table}
use Rattle.table.specs.declared.Refusal.{Refusal}
use Rattle.table.specs.Tasks.{D, T, C, A}
use Rattle.writers.specs.Signed.{margin_of, margin_row}

abbrev pub platform_row : Platform → List ℕ
platform_row platform = platform.cores.0 ∷ platform.partitions.0 ∷ []

abbrev pub task_row : Task → List ℕ
task_row τ = D τ ∷ T τ ∷ C τ ∷ A τ ∷ []

abbrev pub platform_text : Platform → List ℕ
platform_text platform = text platform_form (platform_row platform ∷ [])

abbrev pub tasks_text : Table → List ℕ
tasks_text t = text tasks_form (map task_row (take t.n t.rows))

-- as many ticks as both lists have
unfoldable pub tick_rows : List ℕ → List ℕ → List (List ℕ)
tick_rows [] finished = []
tick_rows (r ∷ released) [] = []
tick_rows (r ∷ released) (f ∷ finished) = (r ∷ f ∷ []) ∷ tick_rows released finished

abbrev pub reports_text : List ℕ → List ℕ → List ℕ
reports_text released finished = text ticks_form (tick_rows released finished)

-- a listing is written and not read
unfoldable pub listing : String → List (List ℕ) → List ℕ
listing header rows = bytes header ++ (crlf ++ lines rows)

abbrev pub refused_row : Refusal → List ℕ
refused_row r = r.number ∷ r.row ∷ []

abbrev pub refused_text : Refusal → List ℕ
refused_text r = listing "refused,row" (refused_row r ∷ [])

-- of tasks k, k + 1, ..
unfoldable pub margin_lines : ℕ → List ℤ → List ℕ
margin_lines k [] = []
margin_lines k (z ∷ zs) = margin_row k (margin_of z) ++ margin_lines (suc k) zs

unfoldable pub margins_text : ℕ → List ℤ → List ℕ
margins_text n margins = bytes "task,margin,pass" ++ (crlf ++ margin_lines 1 (take n margins))
