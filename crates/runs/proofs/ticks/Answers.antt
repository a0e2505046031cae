use Rattle.std.specs.Option.{option_copied}
use Rattle.runs.specs.Ticks.{ticks_text}
use Rattle.runs.proofs.Answers.{ran-refused, begun, there-is}
use Rattle.runs.proofs.ticks.Goals as goal

pub invariant_of-listing : goal.invariant_of-listing
invariant_of-listing c =
    let b = begun _ (option_copied c.args.ticks) _ _ c.in-Ok.ensures in
    rw (c.unwrap_or-text.ensures, there-is c.args.ticks _ b.text b.there) (record { counted = b.counted })

pub returns-in-Ok : goal.returns-in-Ok
unfolding ticks_text
returns-in-Ok c =
    let b = begun _ (option_copied c.args.ticks) _ _ c.in-Ok.ensures in
    rw b.listed (rw (c.unwrap_or-text.ensures, there-is c.args.ticks _ b.text b.there) at c.write_bounded.ensures)

pub returns-in-Err : goal.returns-in-Err
unfolding ticks_text
returns-in-Err c = rw (ran-refused _ _ _ c.in-Err.ensures) c.write_refused.ensures
