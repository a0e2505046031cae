-- The sizes of document 01. The source states each as an associated constant of the type that it bounds.
use Rattle.std.specs.Prelude.{ℕ}

-- tasks n, `Table::MOST`
abbrev pub most_tasks : ℕ
most_tasks = 32

-- cores M, `Cores::MOST`
abbrev pub most_cores : ℕ
most_cores = 16

-- partitions P, `Partitions::MOST`
abbrev pub most_partitions : ℕ
most_partitions = 64

-- period T, `Task::LONGEST`
abbrev pub longest_period : ℕ
longest_period = 65535
