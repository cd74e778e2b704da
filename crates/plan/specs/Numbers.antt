-- The limits of numbers. Assumes nothing.
use Rattle.std.specs.Prelude.{ℕ}

-- the largest skip, fetch, hint or look-ahead, 2 ^ 40 - 1
abbrev pub max_number : ℕ
max_number = 1099511627775

abbrev pub max_nodes : ℕ
max_nodes = 4096

abbrev pub max_partitions : ℕ
max_partitions = 4096

abbrev pub max_children : ℕ
max_children = 63

abbrev pub max_parameter : ℕ
max_parameter = 32767
