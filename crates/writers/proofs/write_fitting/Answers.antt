use Rattle.std.proofs.Common.{ap, ◌∙◌, rules, arith}
use Rattle.writers.proofs.Walks.{took_fitting}
use Rattle.writers.proofs.Places.{wrote_put}
use Rattle.writers.proofs.write_fitting.Goals as goal

pub returns : goal.returns
returns g c =
    let fits = c.requires in
    let put = took_fitting c.put.ensures (omega arith) in
    let at = ap (λ s. s.at) put in
    wrote_put _ _ _ _ fits (c.whole.ensures ∙ ap (λ n. record { refused = _; length = n }) at)
    (search (rules, ap (λ s. s.buf.now) put, ap (λ s. s.buf.ghost_name) put))
