-- From what the texts give, tried one after the other, to what is written of them.
use Prim.Native.Nat.{ℕ}
use mathlib.Core.Path.{◌≡◌, refl, sym, ap, ◌∙◌}
use mathlib.Core.Bool.{Bool, true, false, cond}
use mathlib.Core.List.{List}
use lib.Dec.{eqb}
use lib.ListN.{length}
use denote.Bor.{Bor}
use Rattle.std.specs.Prelude.{Option, None, Some, Result, Ok, Err}
use Rattle.std.specs.Option.{option_copied, unwrap_or}
use Rattle.forms.specs.Forms.{ticks_form}
use Rattle.forms.specs.Reads.{Answer, found, refused}
use Rattle.table.specs.declared.Refusal.{Refusal}
use Rattle.table.specs.declared.Table.{Table}
use Rattle.table.specs.Refused.{refusal}
use Rattle.machine.specs.declared.Machine.{Machine}
use Rattle.machine.specs.Fresh.{fresh}
use Rattle.readers.specs.Inputs.{bad_text, ticks_read}
use Rattle.writers.specs.Outputs.{refused_text}
use Rattle.texts.specs.Given.{told, taken}
use Rattle.texts.proofs.Given.{taken-found}
use Rattle.runs.specs.Ticks.{run_text, ran}
use Rattle.runs.specs.Code.Runs.{rows_of, ticks_in, CountedTicks, judged}

abbrev JudgedRun : Type 0
JudgedRun = Result (Machine × ℕ) Refusal

pub ran-refused : (x : Result Table Refusal) (y : Answer (List (List ℕ))) (r : Refusal)
    → Err r ≡ judged x (ticks_read y) → told refused_text (ran y) x ≡ refused_text r
ran-refused (Err r) y s e = let f : r ≡ s = cc in ap refused_text f
ran-refused (Ok t) (refused offset) s e = let f : bad_text offset ≡ s = cc in ap refused_text f
ran-refused (Ok t) (found rows) s e = go (eqb (refusal t).number 0) e
  where
    go : (b : Bool) → ◌≡◌ {A = JudgedRun} (Err s) (cond b (Ok (fresh t, length rows)) (Err (refusal t)))
        → cond b (run_text (fresh t) rows) (refused_text (refusal t)) ≡ refused_text s
    go true f = absurd (cc)
    go false f = let g : refusal t ≡ s = cc in ap refused_text g

-- a run that is begun: its text is there and good, and it is listed
pub record Begun (x : Result Table Refusal) (ticks : Option (List ℕ)) (m : Machine) (count : ℕ) : Type 0 where
  pub text : List ℕ
  pub there : ticks ≡ Some text
  pub counted : CountedTicks text count
  pub listed : told refused_text (ran (taken ticks_form ticks)) x ≡ run_text m (ticks_in text)

pub begun : (x : Result Table Refusal) (ticks : Option (List ℕ)) (m : Machine) (count : ℕ)
    → ◌≡◌ {A = JudgedRun} (Ok (m, count)) (judged x (ticks_read (taken ticks_form ticks))) → Begun x ticks m count
begun x ticks m count e = by x (taken ticks_form ticks) refl e
  where
    by : (z : Result Table Refusal) (y : Answer (List (List ℕ))) → taken ticks_form ticks ≡ y
        → ◌≡◌ {A = JudgedRun} (Ok (m, count)) (judged z (ticks_read y)) → Begun z ticks m count
    by (Err r) y f e = absurd (cc)
    by (Ok t) (refused offset) f e = absurd (cc)
    by (Ok t) (found rows) f e =
        go (eqb (refusal t).number 0) refl e
      where
        go : (b : Bool) → eqb (refusal t).number 0 ≡ b
            → ◌≡◌ {A = JudgedRun} (Ok (m, count)) (cond b (Ok (fresh t, length rows)) (Err (refusal t)))
            → Begun (Ok t) ticks m count
        go true w h =
            let k = taken-found ticks_form ticks rows f in
            let all : rows ≡ ticks_in k.0 = sym (ap rows_of k.2) in
            let pair : ◌≡◌ {A = Machine × ℕ} (m, count) (fresh t, length rows) = cc in
            let machine : m ≡ fresh t = ap (λ (p : Machine × ℕ). p.0) pair in
            let size : count ≡ length rows = ap (λ (p : Machine × ℕ). p.1) pair in
            record {
              text = k.0;
              there = k.1;
              counted = record { good = k.2 ∙ ap found all; all = size ∙ ap length all };
              listed = rw (f, w, machine) (ap (run_text (fresh t)) all);
            }
        go false w h = absurd (cc)

-- the text that is there, however it is asked for
pub there-is : (ticks : Option (Bor (List ℕ))) (d : Bor (List ℕ)) (text : List ℕ) → option_copied ticks ≡ Some text
    → (unwrap_or ticks d).now ≡ text
there-is None d text e = absurd cc
there-is (Some x) d text e = cc
