-- a refusal, of the table or 17, with nothing else
use mathlib.Core.Path.{◌≡◌, refl, sym, ◌∙◌, ap}
use mathlib.Core.Bool.{Bool, true, false, cond, true≢false}
use lib.Dec.{eqb}
use Rattle.std.specs.Prelude.{Result, Ok, Err}
use Rattle.std.specs.Result.{is_ok, result_err}
use Rattle.std.proofs.lemmas.Option.{same_Some}
use Rattle.maths.specs.Tasks.{tabulate}
use Rattle.table.specs.declared.Refusal.{Refusal}
use Rattle.table.specs.declared.Table.{Table}
use Rattle.table.specs.Reasons.{answered}
use Rattle.rehearsal.specs.declared.Rehearsal.{Rehearsal}
use Rattle.rehearsal.specs.Rehearsal.{bench_refusal, rehearsed}
use Rattle.rehearsal.proofs.Answers.{refused_by}
use Rattle.rehearsing.proofs.rehearse.Goals as goal

module _ (t : Table) (r : Refusal) where
  was_refused : Err r ≡ answered (bench_refusal t) (rehearsed t) → refused_by r ≡ rehearsed t
  unfolding rehearsed
  was_refused e = by (eqb (bench_refusal t).number 0) refl e
    where
      by : (b : Bool) → eqb (bench_refusal t).number 0 ≡ b
          → ◌≡◌ {A = Result Rehearsal Refusal} (Err r) (cond b (Ok (rehearsed t)) (Err (bench_refusal t)))
          → refused_by r ≡ rehearsed t
      by true none e = absurd (true≢false (sym (ap is_ok e)))
      by false some e = ap refused_by (same_Some _ _ (ap result_err e)) ∙ sym (rw (rehearsed, some) refl)

pub returns-in-Err : goal.returns-in-Err
unfolding tabulate
returns-in-Err c = was_refused c.args.t.now c.in-Err.refused c.in-Err.ensures
