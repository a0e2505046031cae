-- Laws of a run on its way through a good ticks text, for the loop over its ticks.
use Prim.Native.Nat.{ℕ, suc, ◌+◌, ◌<◌, ◌≤◌}
use mathlib.Core.Path.{◌≡◌, refl, sym, ap, ◌∙◌}
use mathlib.Core.Bool.{Bool, true, false, cond}
use mathlib.Core.List.{List, [], ◌∷◌, ◌++◌, append_assoc}
use native.Mathlib.Decide.{dec_lt}
use native.Mathlib.Numerals.{add-one}
use native.Mathlib.Omega.{arith}
use lib.Dec.{eqb}
use lib.ListN.{length}
use mir.Val.{bool_byte}
use Rattle.forms.specs.Bytes.{bytes}
use Rattle.forms.specs.Forms.{crlf, line, lines}
use Rattle.table.specs.declared.Refusal.{Refusal}
use Rattle.machine.specs.declared.Machine.{Machine}
use Rattle.machine.specs.declared.Report.{Report}
use Rattle.readers.specs.Inputs.{tick_at, first_tick}
use Rattle.readers.proofs.Ticks.{Rest, ticks-start, ticks-next, ticks-end}
use Rattle.writers.specs.Outputs.{listing}
use Rattle.runs.specs.declared.Run.{Run}
use Rattle.runs.specs.Ticks.{tick_with, run_row, counted, run_rows, run_text}
use Rattle.runs.specs.Code.Runs.{ticks_in, CountedTicks, run_on, line_on}

abbrev pub header : List ℕ
header = bytes "tick,refused,finished,late,started" ++ crlf

abbrev pub run_start : Machine → Run
run_start m = record { machine = m; taken = 0; at = first_tick }

-- the lines to come, of a run with these rows before it
abbrev pub to_come : Run → List (List ℕ) → List ℕ
to_come r rows = lines (run_rows r.taken r.machine rows)

pub run_split : (m : Machine) (rows : List (List ℕ)) → run_text m rows ≡ header ++ to_come (run_start m) rows
unfolding listing
run_split m rows = sym (append_assoc (bytes "tick,refused,finished,late,started") crlf (to_come (run_start m) rows))

pub counted-most : (before : ℕ) (r : Refusal) → counted before r ≤ suc before
counted-most before r = go (eqb r.number 0)
  where
    go : (b : Bool) → cond b (suc before) before ≤ suc before
    go true = omega arith
    go false = omega arith

-- as the code counts, which adds a test
pub counted-told : (before : ℕ) (r : Refusal) → before + bool_byte (eqb r.number 0) ≡ counted before r
counted-told before r = go (eqb r.number 0)
  where
    go : (b : Bool) → before + bool_byte b ≡ cond b (suc before) before
    go true = add-one before
    go false = omega arith

module _ (text : List ℕ) (count : ℕ) where
  -- after i ticks of so many
  pub record Going (i : ℕ) (r : Run) (rows : List (List ℕ)) : Type 0 where
    pub rest : Rest text r.at rows
    pub all : i + length rows ≡ count
    pub few : r.taken ≤ i

  pub going_start : (m : Machine) → CountedTicks text count → Going 0 (run_start m) (ticks_in text)
  going_start m k =
      let all = k.all in
      record { rest = ticks-start text (ticks_in text) k.good; all = omega arith; few = omega arith }

  module _ {i : ℕ} {r : Run} {rows : List (List ℕ)} (g : Going i r rows) where
    pub going_end : count ≤ i → to_come r rows ≡ []
    unfolding lines run_rows
    going_end h = rw (none rows (let all = g.all in omega arith))
      where
        none : (l : List (List ℕ)) → length l ≤ 0 → l ≡ []
        none [] e = refl
        none (x ∷ l) e = absurd (omega arith)

    inside : i < count → r.at < length text
    inside l = elim (dec_lt r.at (length text)) [
      | yes h ↦ h
      | no h ↦
          let all = g.all in
          let none : length rows ≡ 0 = ap length (ticks-end text r.at rows g.rest (omega arith)) in
          absurd (omega arith)
    ]

    -- past one tick
    pub record Gone (x : Run) (row : List ℕ) : Type 0 where
      pub more : List (List ℕ)
      pub going : Going (i + 1) x more
      pub comes : to_come r rows ≡ line row ++ to_come x more

    pub going_on : i < count → (x : Run) (row : List ℕ) → x ≡ run_on text r → row ≡ line_on text r → Gone x row
    unfolding lines run_rows run_on line_on
    going_on l x row e f =
        let n = ticks-next text r.at rows g.rest (inside l) in
        let all = g.all in
        let few = g.few in
        let size : length rows ≡ suc (length n.more) = ap length n.rows_are in
        let by : Report → List ℕ = λ k.
        line (run_row r.taken (tick_with r.machine k)) ++ lines (run_rows (counted r.taken
        (tick_with r.machine k).answer.refused) (tick_with r.machine k).machine n.more) in
        rw (e, f) (record {
          more = n.more;
          going = record {
            rest = n.rest;
            all = omega arith;
            few = omega (arith, counted-most r.taken (tick_with r.machine (tick_at text r.at).value).answer.refused);
          };
          comes = ap (to_come r) n.rows_are ∙ ap by (sym n.tick);
        })
