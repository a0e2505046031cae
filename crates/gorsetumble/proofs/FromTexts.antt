-- What two texts give, from what the readers answer; and that reading them and setting up from what was read is set-up
-- from texts.
use Prim.Native.Nat.{ℕ}
use mathlib.Core.Path.{◌≡◌, refl, sym, ap, ◌∙◌}
use mathlib.Core.Bool.{Bool, true, false, cond, true≢false}
use mathlib.Core.List.{List, map}
use lib.Dec.{eqb}
use Rattle.std.specs.Prelude.{Result, Ok, Err}
use Rattle.std.specs.Result.{MatchResult, IsErrAnd, is_ok, result_map_both}
use Rattle.std.proofs.lemmas.Result.{err_from_is_err_and}
use Rattle.forms.specs.Forms.{platform_form, tasks_form}
use Rattle.forms.specs.Reads.{Answer, found, refused}
use Rattle.forms.specs.Reader.{read}
use Rattle.table.specs.declared.Platform.{Platform as Board}
use Rattle.table.specs.declared.Refusal.{Refusal}
use Rattle.table.specs.declared.Table.{Table}
use Rattle.table.specs.Refused.{no_refusal, refusal}
use Rattle.table.specs.Tasks.{table_of}
use Rattle.readers.specs.Inputs.{task_of, platform_read, table_read, table_from}
use Rattle.machine.specs.declared.Machine.{Machine}
use Rattle.machine.specs.Fresh.{set_up}
use Rattle.machine.proofs.Outcomes.{refusal-none}
use Rattle.gorsetumble.specs.declared.texting.Failure.{Failure}
use Rattle.gorsetumble.specs.declared.texting.Failure.TheVariants.{Platform, Tasks, Judged}
use Rattle.gorsetumble.specs.declared.texting.TextRefusal.{TextRefusal}
use Rattle.gorsetumble.specs.FromTexts.{of_table, set_up_read, set_up_texts}
use Rattle.gorsetumble.specs.Code.TextsRead.{read_of, texts_read, renewed, told_of}

-- what `map_err` gives, where the closure gives g
pub mapped : {T E F : Type 0} (g : E → F) (r : Result T E) (out : Result T F)
    → MatchResult r (λ x. out ≡ Ok x) (λ e. IsErrAnd out (λ y. y ≡ g e)) → out ≡ result_map_both (λ x. x) g r
mapped g (Ok x) out h = h
mapped g (Err e) out h = let p = err_from_is_err_and out h in p.1 ∙ ap Err p.2

abbrev ok-in : {T E : Type 0} → T → Result T E → T
ok-in x (Ok y) = y
ok-in x (Err e) = x

abbrev err-in : {T E : Type 0} → E → Result T E → E
err-in e (Ok x) = e
err-in e (Err d) = d

not-ok : {T E : Type 0} (e : E) (x : T) → ◌≡◌ {A = Result T E} (Err e) (Ok x) → ⊥
not-ok e x p = true≢false (sym (ap is_ok p))

pub platform-bad : (x y : Answer (List (List ℕ))) (f : Failure)
    → Err f ≡ result_map_both (λ p. p) Platform (platform_read x) → Err f ≡ read_of x y
platform-bad (found rows) y f e = absurd (not-ok _ _ e)
platform-bad (refused offset) y f e = ap (λ (r : Result Board Failure). Err (err-in f r)) e

pub platform-good : (x y : Answer (List (List ℕ))) (p : Board)
    → Ok p ≡ result_map_both (λ q. q) Platform (platform_read x)
    → result_map_both (λ t. t) Tasks (table_read p y) ≡ read_of x y
platform-good (refused offset) y p e = absurd (not-ok _ _ (sym e))
platform-good (found rows) (refused offset) p e = refl
platform-good (found rows) (found tasks) p e =
    ap (λ (r : Result Board Failure). Ok (table_of (ok-in p r) (map task_of tasks))) e

-- what a machine is left at, and what C is told
abbrev pub left : Machine → Result Table Failure → Machine
left old (Err f) = old
left old (Ok t) = (set_up old t).machine

abbrev pub said : Result Unit Failure → TextRefusal
said (Ok done) = record { refused = no_refusal; text = 0 }
said (Err f) = told_of f

left-texts : (old : Machine) (x y : Answer (List (List ℕ))) → left old (read_of x y) ≡ (set_up_read old x y).machine
left-texts old (refused offset) y = refl
left-texts old (found rows) (refused offset) = refl
left-texts old (found rows) (found tasks) = refl

told-judged : (old : Machine) (t : Table) → said (renewed (Ok t)) ≡ (of_table (set_up old t)).refused
unfolding set_up
told-judged old t = by (eqb (refusal t).number 0) refl
  where
    by : (b : Bool) → eqb (refusal t).number 0 ≡ b
        → said (cond b (Ok (tt {0})) (Err (Judged (refusal t)))) ≡ record { refused = refusal t; text = 0 }
    by true e = ap (λ (r : Refusal). record { refused = r; text = 0 }) (sym (refusal-none t e))
    by false e = refl

told-texts : (old : Machine) (x y : Answer (List (List ℕ)))
    → said (renewed (read_of x y)) ≡ (set_up_read old x y).refused
told-texts old (refused offset) y = refl
told-texts old (found rows) (refused offset) = refl
told-texts old (found rows) (found tasks) = told-judged old (table_from rows tasks)

module _ (old : Machine) (platform tasks : List ℕ) where
  pub texts-left : left old (texts_read platform tasks) ≡ (set_up_texts old platform tasks).machine
  unfolding texts_read set_up_texts
  texts-left = left-texts old (read platform_form platform) (read tasks_form tasks)

  pub texts-told : said (renewed (texts_read platform tasks)) ≡ (set_up_texts old platform tasks).refused
  unfolding texts_read set_up_texts
  texts-told = told-texts old (read platform_form platform) (read tasks_form tasks)
