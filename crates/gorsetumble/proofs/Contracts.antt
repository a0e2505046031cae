-- What a caller learns by the contracts of the three functions is what `Calls` (promise/specs/Calls.antt) asks of the
-- values that they give: an answer, and of set-up and of a tick what was returned with the machine that then stands
-- behind the reference. Set-up returns no refusal as Ok.
use Prim.Native.Nat.{ℕ}
use mathlib.Core.Path.{◌≡◌}
use contract.Lifetimes.{Lfts}
use denote.Ref.{Bor}
use denote.MutBor.{MutBor}
use Rattle.std.specs.Prelude.{Result}
use Rattle.std.specs.Option.{unwrap_or}
use Rattle.std.specs.Result.{result_err}
use Rattle.table.specs.declared.Refusal.{Refusal}
use Rattle.table.specs.declared.Table.{Table}
use Rattle.table.specs.Refused.{no_refusal}
use Rattle.admission.specs.declared.QuickAnswer.{QuickAnswer}
use Rattle.admission.specs.Answers.{quick_answer}
use Rattle.admission.proofs.quick_answer.Reads as quick
use Rattle.machine.specs.declared.Answer.{Answer}
use Rattle.machine.specs.declared.Machine.{Machine}
use Rattle.machine.specs.Fresh.{SetUp, set_up}
use Rattle.machine.specs.Tick.{Ticked, tick}
use Rattle.machine.proofs.Outcomes.{refusal_in}
use Rattle.machine.proofs.Machine.set_up.Reads as set-up
use Rattle.ticking.proofs.tick.Reads as tick-fn

pub quick_contract_lem : (κs : Lfts 1) (t now : Bor Table) (q : QuickAnswer)
    → quick.Learnt κs (t, tt) q (now, tt) → q ≡ quick_answer t.now
quick_contract_lem κs t now q h = h

pub set_up_contract_lem : (κs : Lfts 2) (old left : MutBor Machine) (t now : Bor Table) (r : Result Unit Refusal)
    → set-up.Learnt κs (old, (t, tt)) r (left, (now, tt))
    → ◌≡◌ {A = SetUp} (record { refused = unwrap_or (result_err r) no_refusal; machine = left.now })
    (set_up old.now t.now)
unfolding set_up
set_up_contract_lem κs old left t now r h = rw (h.0, h.1, refusal_in t.now)

pub tick_contract_lem : (κs : Lfts 1) (m left : MutBor Machine) (R F R' F' : ℕ) (r : Answer)
    → tick-fn.Learnt κs (m, (R, (F, tt))) r (left, (R', (F', tt)))
    → ◌≡◌ {A = Ticked} (record { machine = left.now; answer = r }) (tick m.now R F)
tick_contract_lem κs m left R F R' F' r h = rw (h.0, h.1)
