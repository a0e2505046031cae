-- what is chosen is part of what is idle, so that a difference takes it away
use Prim.Native.Nat.{ℕ, ◌-◌, ◌≤◌}
use mathlib.Core.Path.{◌≡◌, sym, ap, subst}
use lib.Bits.{bit_and, and_le_l}
use Rattle.sets.specs.Sets.{without}
use Rattle.sets.specs.Choice.{choice}
use Rattle.sets.proofs.Same.{and-within}
use Rattle.sets.proofs.Choices.{choice-within}
use Rattle.ticking.proofs.Walk.go.Goals as goal

chosen : (idle a : ℕ) → bit_and idle (choice idle a) ≡ choice idle a
chosen idle a = and-within (choice idle a) idle (choice-within idle a)

chosen-le : (idle a : ℕ) → choice idle a ≤ idle
chosen-le idle a = subst (λ (x : ℕ). x ≤ idle) (chosen idle a) (and_le_l idle (choice idle a))

left : (idle a : ℕ) → idle - choice idle a ≡ without idle (choice idle a)
left idle a = ap (λ (x : ℕ). idle - x) (sym (chosen idle a))

pub overflow_sub-result-2 : goal.overflow_sub-result-2
overflow_sub-result-2 c = rw c.choose-held.ensures (chosen-le _ _)

pub returns : goal.returns
returns c =
    rw (
      c.choose-held.ensures,
      c.task_bit.ensures,
      left c.args.self.idle c.args.turn.task.a.0,
    )
