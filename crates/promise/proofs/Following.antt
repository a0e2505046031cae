-- What a sequence is made of: each of its ticks is accepted in the state before it, answers what the machine answers
-- there, and leaves the state after it.
use Prim.Native.Nat.{ℕ, zero, suc, ◌<◌}
use mathlib.Core.Path.{◌≡◌, refl, sym, ◌∙◌, ap, subst}
use mathlib.Core.Bool.{Bool, true, false}
use mathlib.Core.List.{List, [], ◌∷◌}
use native.Mathlib.Nat.{not-suc-le-zero, le_of_suc-le-suc}
use lib.Dec.{eqb}
use lib.ListN.{length}
use Rattle.table.specs.declared.Refusal.{Refusal}
use Rattle.machine.specs.declared.Machine.{Machine}
use Rattle.machine.specs.Tick.{accepted}
use Rattle.conduct.proofs.Laws.{tick-refusal, tick-refused}
use Rattle.promise.specs.Sequences.{Report, told, accepts, Step, step, counted, steps, nth, state}

-- an answer accepts exactly where no refusal is given
accepts-is : (m : Machine) (x : Report) → accepts (told m x).answer ≡ accepted m x.released x.finished
accepts-is m x = ap (λ (r : Refusal). eqb r.number 0) (tick-refusal m x.released x.finished)

-- a tick from state m
pub record Follows (m : Machine) (st : Step) : Type 0 where
  pub taken : accepted m st.report.released st.report.finished ≡ true
  pub answer : st.answer ≡ (told m st.report).answer
  pub after : st.after ≡ (told m st.report).machine

-- each tick of the list follows the state before it
abbrev pub Following : Machine → List Step → Type 0
Following m xs = (i : ℕ) → i < length xs → Follows (state (record { first = m; ticks = xs }) i) (nth m xs i)

-- one tick before the others
one_more : (m : Machine) (st : Step) (xs : List Step) → Follows m st → Following st.after xs → Following m (st ∷ xs)
one_more m st xs f rest zero l = f
one_more m st xs f rest (suc zero) l = rest zero (le_of_suc-le-suc l)
one_more m st xs f rest (suc (suc i)) l = rest (suc i) (le_of_suc-le-suc l)

pub following : (m : Machine) (xs : List Report) → Following m (steps m xs)
unfolding steps
following m [] = λ i l. absurd (not-suc-le-zero l)
following m (x ∷ xs) = by (accepts (told m x).answer) refl (following (told m x).machine xs)
  where
    by : (b : Bool) → accepts (told m x).answer ≡ b → Following (told m x).machine (steps (told m x).machine xs)
        → Following m (counted b (step x (told m x)) (steps (told m x).machine xs))
    by true e rest =
        one_more m (step x (told m x)) (steps (told m x).machine xs)
        (record { taken = sym (accepts-is m x) ∙ e; answer = refl; after = refl }) rest
    by false e rest =
        let same : (told m x).machine ≡ m = tick-refused m x.released x.finished (sym (accepts-is m x) ∙ e) in
        subst (λ (z : Machine). Following z (steps (told m x).machine xs)) same rest
