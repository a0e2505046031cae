use mathlib.Core.Path.{◌≡◌}
use Rattle.maths.specs.Tasks.{entry}
use Rattle.maths.proofs.Arrays.{up_to}
use Rattle.table.specs.Limits.{most_tasks}
use Rattle.rehearsing.specs.Code.Lanes.{no_lane}
use Rattle.rehearsing.proofs.track.Track.starts.Given as goal

abbrev pub invariant-loop-k : goal.invariant-loop-k
invariant-loop-k l = l.started ≡ up_to most_tasks (λ j. (entry l.self.lanes j no_lane).started) (λ j. 0) l.k
