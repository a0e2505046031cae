-- What the theory of lives sees of a machine: of a job its life.
use Rattle.std.specs.Prelude.{ℕ, cond}
use Rattle.machine.specs.declared.Stage.{Stage}
use Rattle.machine.specs.Jobs.{is_waiting, is_running}
use Rattle.machine.specs.declared.Job.{Job}
use Rattle.lives.specs.Life.{Life, idle, waiting, running}

abbrev pub life_in : Stage → ℕ → ℕ → Life
life_in s age ran = cond (is_running s) (running age ran) (cond (is_waiting s) (waiting age) (idle age))

abbrev pub life : Job → Life
life j = life_in j.stage j.age j.ran
