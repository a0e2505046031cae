use mathlib.Core.Path.{refl, sym, ◌∙◌}
use Rattle.admission.proofs.Shares.{task_in, share-refused, share-no-task, share-no-other}
use Rattle.admission.proofs.Shares.{share-found, share_back, no-share-is}
use Rattle.admission.proofs.share_of.Goals.{in_default-via-in-Ok+then-is_task+else-is_task-2}
use Rattle.admission.proofs.share_of.Goals.{in_default-via-in-Ok+else-is_task, in_default-via-in_default}
use Rattle.admission.proofs.share_of.Goals as goal

pub returns-in-Ok : goal.returns-in-Ok
returns-in-Ok c =
    let t = c.args.t.now in
    let k = sym c.if-is_task.ensures in
    let i = sym c.if-is_task-2.ensures in
    c.share_at.ensures
    ∙ rw c.in-Ok.ensures.0 (share_back t c.args.k c.args.i (task_in t c.args.k k).0 (task_in t c.args.i i).0
    ∙ share-found t c.args.k c.args.i (sym c.in-Ok.ensures.1) refl k i)

pub returns-in_default : goal.returns-in_default
returns-in_default c =
    let t = c.args.t.now in
    no-share-is c.default.ensures ∙ elim c.in_default.branch [
      | in_default-via-in-Ok+then-is_task+else-is_task-2 w ↦ share-no-other t c.args.k c.args.i
          (sym w.in-Ok.ensures.1) refl (sym w.if-is_task.ensures) (sym w.if-is_task-2.ensures)
      | in_default-via-in-Ok+else-is_task w ↦ share-no-task t c.args.k c.args.i (sym w.in-Ok.ensures.1) refl
          (sym w.if-is_task.ensures)
      | in_default-via-in_default w ↦ share-refused t c.args.k c.args.i (sym w.in_default.ensures.is)
          w.in_default.ensures.some
    ]
