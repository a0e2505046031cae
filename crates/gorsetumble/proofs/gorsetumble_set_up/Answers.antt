use Rattle.table.specs.Tasks.{table_of}
use Rattle.machine.specs.Fresh.{set_up}
use Rattle.machine.proofs.Outcomes.{refusal_in}
use Rattle.gorsetumble.proofs.gorsetumble_set_up.Goals as goal

pub returns : goal.returns
unfolding set_up
returns c =
    let t = table_of c.args.platform c.args.rows.now in (
      rw (c.unwrap_or.ensures, c.err.ensures.value, c.set_up.ensures.answer, c.of.ensures) (refusal_in t),
      rw (c.set_up.ensures.machine, c.of.ensures),
    )
