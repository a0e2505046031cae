-- What the contracts of the board's three calls say is what `BoardsCalls` (specs/Board.antt) asks of the values that
-- they give.
use Prim.Native.Nat.{ℕ}
use mathlib.Core.Path.{◌≡◌, refl}
use mathlib.Core.List.{List}
use seplogic.Ra.Ura.{Ura}
use base.Logic.{SProp}
use prog.Memory.{Memory}
use prog.Routine.{Routine}
use types.Logic.{Logic}
use contract.Lifetimes.{Lfts}
use contract.Monad.{Fun, fact}
use denote.Ref.{Bor}
use denote.MutBor.{MutBor}
use Rattle.machine.specs.declared.Answer.{Answer}
use Rattle.machine.specs.declared.Machine.{Machine}
use Rattle.machine.specs.Tick.{Ticked, tick}
use Rattle.texts.specs.Verdict.{verdict}
use Rattle.gorsetumble.specs.declared.texting.TextRefusal.{TextRefusal}
use Rattle.gorsetumble.specs.FromTexts.{TextsSetUp, set_up_texts}
use Rattle.gorsetumble.specs.contracts.gorsetumble_tick as tick-fn
use Rattle.gorsetumble.specs.contracts.texting.gorsetumble_set_up_texts as set-up-fn
use Rattle.gorsetumble.specs.contracts.texting.gorsetumble_quick_verdict as verdict-fn

-- a lent text
abbrev Text : Type 0
Text = Bor (List ℕ)

module _ {M : Type 1} {𝓤 : Ura M} (𝓛 : Logic 𝓤) (mem : Memory → SProp 𝓤) (run : Routine → Fun 𝓤) where
  pub verdict-says : (κs : Lfts 2) (p z p' z' : Text) (r : ℕ)
      → (verdict-fn.clauses 𝓛 mem run κs (p, (z, tt))).ensures tt r (p', (z', tt))
      ≡ fact 𝓤 (r ≡ verdict p.now z.now)
  verdict-says κs p z p' z' r = refl

  pub set-up-says : (κs : Lfts 3) (m left : MutBor Machine) (p z p' z' : Text) (r : TextRefusal)
      → (set-up-fn.clauses 𝓛 mem run κs (m, (p, (z, tt)))).ensures tt r (left, (p', (z', tt)))
      ≡ fact 𝓤
      ((r ≡ (set_up_texts m.now p.now z.now).refused) × (left.now ≡ (set_up_texts m.now p.now z.now).machine))
  set-up-says κs m left p z p' z' r = refl

  pub tick-says : (κs : Lfts 1) (m left : MutBor Machine) (x y x' y' : ℕ) (r : Answer)
      → (tick-fn.clauses 𝓛 mem run κs (m, (x, (y, tt)))).ensures tt r (left, (x', (y', tt)))
      ≡ fact 𝓤 ((r ≡ (tick m.now x y).answer) × (left.now ≡ (tick m.now x y).machine))
  tick-says κs m left x y x' y' r = refl

pub set_up_contract_lem : (m : Machine) (platform tasks : List ℕ) (r : TextRefusal) (left : Machine)
    → (r ≡ (set_up_texts m platform tasks).refused) × (left ≡ (set_up_texts m platform tasks).machine)
    → ◌≡◌ {A = TextsSetUp} (record { refused = r; machine = left }) (set_up_texts m platform tasks)
set_up_contract_lem m platform tasks r left h = rw (h.0, h.1)

pub tick_contract_lem : (m : Machine) (x y : ℕ) (r : Answer) (left : Machine)
    → (r ≡ (tick m x y).answer) × (left ≡ (tick m x y).machine)
    → ◌≡◌ {A = Ticked} (record { machine = left; answer = r }) (tick m x y)
tick_contract_lem m x y r left h = rw (h.0, h.1)
