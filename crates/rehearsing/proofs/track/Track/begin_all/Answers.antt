use Prim.Native.Nat.{suc, min}
use mathlib.Core.Path.{◌≡◌, ◌∙◌, ap}
use mathlib.Core.Bool.{false, cond}
use native.Mathlib.Omega.{arith}
use borrow.Author.Rules.{rules}
use Rattle.table.specs.Tasks.{τ}
use Rattle.rehearsing.specs.Code.Tracks.{track_begun, goes_on}
use Rattle.rehearsing.proofs.SecondPass.{starting_none, starting_more, starting-small, starting-count}
use Rattle.rehearsing.proofs.NextEvent.{next-later, next_event}
use Rattle.rehearsing.proofs.track.Track.begin_all.Goals as goal
use Rattle.rehearsing.proofs.track.Track.begin_all.Goals.{then-goes, else-goes}

pub loop-k-init : goal.loop-k-init
loop-k-init c = starting_none c.requires.settled (omega arith) c.requires.not_last

pub begin-goes-requires-clause-row : goal.begin-goes-requires-clause-row
begin-goes-requires-clause-row c = starting-small c.loop-k.invariant (search rules)

pub begin-goes-requires-clause-started : goal.begin-goes-requires-clause-started
begin-goes-requires-clause-started c = starting-count c.loop-k.invariant (search rules)

-- what becomes of task k + 1, be it its turn or not
track-is : (c : goal.After-min-next) → c.if-goes.self
    ≡ cond c.loop-k.goes (track_begun c.loop-k.k c.args.i (τ c.args.t.now (suc c.loop-k.k)) c.loop-k.self) c.loop-k.self
track-is c =
    elim c.if-goes.branch [
      | then-goes w ↦ w.self-is ∙ (w.begin-goes.ensures.track ∙ rw w.if-goes.true)
      | else-goes w ↦ w.self-is ∙ rw w.if-goes.false
    ]

goes-is : (c : goal.After-min-next) → c.if-goes.goes
    ≡ cond c.loop-k.goes (goes_on c.loop-k.k (τ c.args.t.now (suc c.loop-k.k)) c.loop-k.self) false
goes-is c =
    elim c.if-goes.branch [
      | then-goes w ↦ w.goes-is ∙ (w.begin-goes.ensures.goes ∙ rw w.if-goes.true)
      | else-goes w ↦ w.goes-is ∙ rw w.if-goes.false
    ]

pub loop-k-preserved : goal.loop-k-preserved
loop-k-preserved c =
    let found = c.min-next.ensures ∙ ap (min c.loop-k.next) c.next.ensures in
    starting_more c.loop-k.invariant (search rules) _ _ _ (track-is c) (goes-is c) found

pub returns-clause-comes : goal.returns-clause-comes
returns-clause-comes c = next-later c.loop-k.invariant (search rules)

pub returns-clause-track : goal.returns-clause-track
returns-clause-track c = next_event c.loop-k.invariant (search rules)
