-- What the two passes of the code come to is the tick, accepted or refused.
use Prim.Native.Nat.{ℕ, suc, ◌+◌, ◌<◌}
use mathlib.Core.Path.{◌≡◌, refl, sym, ◌∙◌, ap}
use mathlib.Core.Bool.{Bool, true, false, cond}
use native.Mathlib.Numerals.{add-one}
use native.Mathlib.Omega.{arith}
use borrow.Author.Tests.{eqb-true}
use lib.ListN.{length, set}
use Rattle.std.specs.Prelude.{Result, Ok, Err}
use Rattle.maths.proofs.Arrays.{up_none, up_more, up-past, tabulate-entry}
use Rattle.table.specs.declared.Refusal.{Refusal}
use Rattle.table.specs.Limits.{most_tasks}
use Rattle.table.specs.Tasks.{τ}
use Rattle.machine.specs.declared.Job.{Job}
use Rattle.machine.specs.declared.Machine.{Machine}
use Rattle.ticking.specs.declared.Busy.{Busy}
use Rattle.ticking.specs.declared.Look.{Look}
use Rattle.ticking.specs.declared.Turn.{Turn}
use Rattle.ticking.specs.declared.Walk.{Walk}
use Rattle.machine.specs.Jobs.{no_job, job, running, busy}
use Rattle.machine.specs.Tick.{tick_refusal, readied, accepted, accepted_tick, refused_tick, tick}
use Rattle.machine.proofs.Outcomes.{no-refusal}
use Rattle.ticking.specs.Code.Passes.{InPeriod, refuses, busy_in, judged, turn_of, walk_with}
use Rattle.ticking.proofs.TickTurns.{good-period}
use Rattle.ticking.proofs.TickLook.{Looked}
use Rattle.ticking.proofs.TickJudge.{Accepts, accepts, unrefused}
use Rattle.ticking.proofs.TickReady.{ready-is, ready-running, ready-busy}
use Rattle.ticking.proofs.TickSteps.{turns, machine_to}
use Rattle.ticking.proofs.TickWalk.{walk_more}

module _ (m : Machine) (released finished : ℕ) where
  pub judged-accepts : (b : Busy) → judged m released finished ≡ Ok b → accepted m released finished ≡ true
  unfolding judged
  judged-accepts b e = no-refusal (tick_refusal m released finished) _ b (sym e)

  pub judged-moves : length m.table.rows ≡ most_tasks → (b : Busy) → judged m released finished ≡ Ok b
      → Accepts m released finished
  judged-moves rows b e = accepts m released finished rows (judged-accepts b e)

  pub judged-refuses : (r : Refusal) → judged m released finished ≡ Err r
      → tick m released finished ≡ refused_tick m r
  unfolding judged tick
  judged-refuses r = by (accepted m released finished)
    where
      by : (b : Bool)
          → ◌≡◌ {A = Result Busy Refusal}
          (cond b (Ok (busy_in (readied m released finished))) (Err (tick_refusal m released finished))) (Err r)
          → cond b (accepted_tick m released finished) (refused_tick m (tick_refusal m released finished))
          ≡ refused_tick m r
      by true e = cc
      by false e = ap (refused_tick m) cc

  pub judged-busy : (b : Busy) → judged m released finished ≡ Ok b → b ≡ busy_in (readied m released finished)
  unfolding judged
  judged-busy b = by (accepted m released finished)
    where
      by : (a : Bool)
          → ◌≡◌ {A = Result Busy Refusal}
          (cond a (Ok (busy_in (readied m released finished))) (Err (tick_refusal m released finished))) (Ok b)
          → b ≡ busy_in (readied m released finished)
      by true e = cc
      by false e = cc

  pub tick-accepted : accepted m released finished ≡ true → tick m released finished ≡ accepted_tick m released finished
  unfolding tick
  tick-accepted e = rw e

  pub unrefused-is : accepted m released finished ≡ true → tick_refusal m released finished ≡ refuses 0 0
  unrefused-is e = unrefused m released finished (eqb-true _ 0 e)

  module _ (rows : length m.table.rows ≡ most_tasks) (yes : accepted m released finished ≡ true) where
    -- what the first pass hands on of an accepted tick
    module _ (l : Look) (k : Looked m released finished m.table.n l) where
      stays-are : l.stays ≡ busy_in (readied m released finished)
      stays-are =
          let a = accepts m released finished rows yes in
          let cores : l.stays.cores.0 ≡ running (readied m released finished) =
          k.running ∙ ready-running m released finished a ∙ ap running (sym (ready-is m released finished)) in
          let held : l.stays.held ≡ busy (readied m released finished) =
          k.holds ∙ ready-busy m released finished a ∙ ap busy (sym (ready-is m released finished)) in
          λ i. record { cores = record { 0 = cores i }; held = held i }

      pub judged-stays : judged m released finished ≡ Ok l.stays
      unfolding judged
      judged-stays = rw (yes, stays-are) refl

  -- the second pass: its start, and a turn more
  pub machine-none : length m.jobs ≡ most_tasks → m ≡ machine_to m released finished 0
  machine-none len =
      let same = sym (tabulate-entry m.jobs most_tasks no_job len)
      ∙ up_none most_tasks (λ k. (turns m released finished k).job) (job m) in
      λ i. record { table = m.table; jobs = same i }

  module _ (i : ℕ) (l : i < most_tasks) where
    here : job (machine_to m released finished i) (suc i) ≡ job m (suc i)
    here = up-past most_tasks (λ k. (turns m released finished k).job) (job m) i i no_job (omega arith) l

    pub turn-is : turn_of (machine_to m released finished i) i ≡ turn_of m i
    turn-is = ap (λ (j : Job). record { k = suc i; task = τ m.table (suc i); job = j }) here

    pub machine-more : (w : Walk) → w ≡ turns m released finished (i + 1)
        → record { table = m.table; jobs = set (machine_to m released finished i).jobs i w.job }
        ≡ machine_to m released finished (i + 1)
    machine-more w e =
        let more = up_more most_tasks (λ k. (turns m released finished k).job) (job m) i l in
        let same : set (machine_to m released finished i).jobs i w.job
        ≡ (machine_to m released finished (i + 1)).jobs = rw (e, add-one i) (rw (add-one i) at more) in
        λ k. record { table = m.table; jobs = same k }

    -- a job that is to move is a good state's, and its turn is the pass's
    pub turn-period : i < m.table.n → Accepts m released finished → InPeriod (τ m.table (suc i)) (job m (suc i))
    turn-period h a = good-period a.good i h

    pub turns-more : (t : Turn) → t ≡ turn_of (machine_to m released finished i) i → (w : Walk)
        → w ≡ turns m released finished i → (next : Walk)
        → next ≡ walk_with t.k t.task t.job released finished w → next ≡ turns m released finished (i + 1)
    turns-more t e w u next n =
        let here : t ≡ turn_of m i = e ∙ turn-is in
        n ∙ rw (here, u) (walk_more m released finished _ i)
