-- Two outcomes that a public function's statement allows are equal: its result, and what lies behind a reference that
-- it was lent. The statement of an exported function that passes on is its callee's, and so is its line.
use Prim.Native.Nat.{ℕ}
use mathlib.Core.Path.{◌≡◌}
use mathlib.Core.List.{List}
use lib.ListN.{take}
use Rattle.maths.proofs.Determined.{determined, determined-both}
use Rattle.table.specs.declared.Platform.{Platform}
use Rattle.table.specs.declared.Task.{Task}
use Rattle.table.specs.declared.Refusal.{Refusal}
use Rattle.table.specs.Tasks.{table_of}
use Rattle.admission.specs.declared.FullAnswer.{FullAnswer}
use Rattle.admission.specs.declared.QuickAnswer.{QuickAnswer}
use Rattle.admission.specs.Answers.{full_answer, quick_answer}
use Rattle.machine.specs.declared.Machine.{Machine}
use Rattle.machine.specs.Fresh.{SetUp, set_up}
use Rattle.rehearsal.specs.declared.Rehearsal.{Rehearsal}
use Rattle.rehearsal.specs.Rehearsal.{rehearsed}
use Rattle.gorsetumble.specs.declared.texting.TextRefusal.{TextRefusal}
use Rattle.gorsetumble.specs.FromTexts.{set_up_texts}

module _ (p : Platform) (rows : List Task) where
  pub full-determined : (r s : FullAnswer) → r ≡ full_answer (table_of p rows) → s ≡ full_answer (table_of p rows)
      → r ≡ s
  full-determined = determined (full_answer (table_of p rows))

  pub quick_determined : (r s : QuickAnswer) → r ≡ quick_answer (table_of p rows)
      → s ≡ quick_answer (table_of p rows) → r ≡ s
  quick_determined = determined (quick_answer (table_of p rows))

  pub rehearse_determined : (r s : Rehearsal) → r ≡ rehearsed (table_of p rows) → s ≡ rehearsed (table_of p rows) → r
      ≡ s
  rehearse_determined = determined (rehearsed (table_of p rows))

  pub set-up-determined : (m : Machine) (r s : Refusal) (a b : Machine)
      → (r ≡ (set_up m (table_of p rows)).refused) × (a ≡ (set_up m (table_of p rows)).machine)
      → (s ≡ (set_up m (table_of p rows)).refused) × (b ≡ (set_up m (table_of p rows)).machine) → (r ≡ s) × (a ≡ b)
  set-up-determined m = determined-both (set_up m (table_of p rows)).refused (set_up m (table_of p rows)).machine

  -- of the first n of the rows, and of what set-up comes to as one record
  pub set-up-from-determined : (m : Machine) (n : ℕ) (r s : SetUp) → r ≡ set_up m (table_of p (take n rows))
      → s ≡ set_up m (table_of p (take n rows)) → r ≡ s
  set-up-from-determined m n = determined (set_up m (table_of p (take n rows)))

pub set-up-texts-determined : (m : Machine) (platform tasks : List ℕ) (r s : TextRefusal) (a b : Machine)
    → (r ≡ (set_up_texts m platform tasks).refused) × (a ≡ (set_up_texts m platform tasks).machine)
    → (s ≡ (set_up_texts m platform tasks).refused) × (b ≡ (set_up_texts m platform tasks).machine) → (r ≡ s) × (a ≡ b)
set-up-texts-determined m platform tasks =
    determined-both (set_up_texts m platform tasks).refused (set_up_texts m platform tasks).machine
