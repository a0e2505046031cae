-- The corollary of demand 3 about the values that the functions return.
use mathlib.Core.Path.{◌≡◌, refl, sym, ◌∙◌, ap}
use mathlib.Core.List.{List}
use Rattle.admission.specs.declared.QuickAnswer.{QuickAnswer}
use Rattle.machine.specs.declared.Machine.{Machine}
use Rattle.machine.specs.Tick.{Ticked}
use Rattle.machine.specs.Fresh.{SetUp, fresh}
use Rattle.machine.proofs.StateFresh.{set-up-fresh}
use Rattle.promise.specs.Sequences.{Report, steps}
use Rattle.promise.specs.Promise.{Admitted}
use Rattle.promise.specs.Calls.{Ticks, none, call, returned, Demand3OfCalls}
use Rattle.promise.proofs.Test.{not-refused}
use Rattle.promise.proofs.Demand3.{demand_3}

-- what ticks return is the sequence
pub are_steps : {m : Machine} {xs : List Report} {rs : List Ticked} → Ticks m xs rs → returned xs rs ≡ steps m xs
unfolding steps
are_steps none = refl
are_steps (call e c) = rw (are_steps c, e)

pub demand_3_of_calls : Demand3OfCalls
demand_3_of_calls t whole old xs c yes-admitted =
    let a : Admitted t =
    record { whole = whole; verdict = sym (ap (λ (q : QuickAnswer). q.admitted) c.quick_contract) ∙ yes-admitted } in
    let first : c.begun.machine ≡ fresh t =
    ap (λ (u : SetUp). u.machine) (c.set_up_contract ∙ set-up-fresh old t (not-refused t a)) in
    rw (are_steps c.tick_contract, first) (demand_3 t a xs)
