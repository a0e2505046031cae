use Rattle.maths.specs.Tasks.{tabulate, entry}
use Rattle.maths.proofs.Arrays.{up_none, up_more}
use Rattle.table.specs.Limits.{most_tasks}
use Rattle.rehearsing.specs.Code.Lanes.{no_lane}
use borrow.Author.Rules.{rules}
use Rattle.rehearsing.proofs.track.Track.starts.Goals as goal

pub loop-k-init : goal.loop-k-init
unfolding tabulate
loop-k-init c = up_none most_tasks (λ j. (entry c.args.self.now.lanes j no_lane).started) (λ j. 0)

pub loop-k-preserved : goal.loop-k-preserved
loop-k-preserved c =
    let lanes = c.args.self.now.lanes in
    rw c.loop-k.invariant
    (up_more most_tasks (λ j. (entry lanes j no_lane).started) (λ j. 0) c.loop-k.k (search rules))
