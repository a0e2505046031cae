-- The job of one task before step 5 of a tick. No statement rests on these definitions: they are steps 1, 2 and 4 of
-- `Steps` task by task.
use Rattle.std.specs.Prelude.{Bool, cond}
use Rattle.table.specs.declared.Task.{Task}
use Rattle.machine.specs.declared.Job.{Job}
use Rattle.machine.specs.Steps.{older, ended, awaiting}

-- the job of a task after steps 1 and 2, and after step 4, from its job before and whether it finished and was released
abbrev pub finished_job : Task → Bool → Job → Job
finished_job τ finished j = cond finished (ended (older τ j)) (older τ j)

abbrev pub readied_job : Task → Bool → Bool → Job → Job
readied_job τ released finished j = cond released (awaiting (finished_job τ finished j)) (finished_job τ finished j)
