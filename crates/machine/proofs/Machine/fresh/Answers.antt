use Rattle.machine.specs.Fresh.{fresh}
use Rattle.machine.proofs.Copies.{kept_from}
use Rattle.machine.proofs.Machine.fresh.Goals as goal

pub returns : goal.returns
unfolding fresh
returns c =
    let t = c.args.t.now in
    rw (c.of.ensures, c.tasks.ensures.are, c.fresh_jobs.ensures, kept_from t.n t.rows)
