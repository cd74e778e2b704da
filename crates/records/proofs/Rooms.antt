-- What bytes unpack to, whichever room the table has beyond what they need.
use Rattle.std.proofs.Common.{◌≡◌, ℕ, ◌*◌, ◌/◌, ◌<◌, ◌≤◌, List, [], ◌∷◌, map, length, Ok, arith}
use Rattle.std.specs.List.{AllByRecursion}
use Rattle.std.proofs.lemmas.Bool.Decides.{nat_tests}
use Rattle.plan.specs.declared.cells.Cell.{Cell}
use Rattle.records.specs.Record.{record_size, values_in, cell_of}
use Rattle.records.specs.Plans.{unpacking}
use Rattle.records.proofs.Chunks.{length_cells}

-- a table that has room for all records has all the room that matters
pub enough : (bytes : List ℕ) (room more : ℕ) → length bytes / record_size ≤ room → length bytes / record_size ≤ more → unpacking bytes room ≡ unpacking bytes more
enough bytes room more h k = grind (arith, nat_tests)

-- a kind that was read is a number of 8 bits
kinds_read : (rs : List (List ℕ)) → AllByRecursion (λ c. c.kind < 256) (map cell_of (map values_in rs))
kinds_read [] = tt
kinds_read (r ∷ rs) = (omega arith, kinds_read rs)

-- what was read: as many cells as there are records, of kinds of 8 bits
pub record Read (bytes : List ℕ) (cells : List Cell) : Type 0 where
  pub whole : length bytes ≡ record_size * length cells
  pub kinds : AllByRecursion (λ c. c.kind < 256) cells

pub read_cells : (bytes : List ℕ) (room : ℕ) (cells : List Cell) → unpacking bytes room ≡ Ok cells → Read bytes cells
read_cells bytes room cells h = record { whole = grind (arith, nat_tests, length_cells); kinds = grind (arith, nat_tests, kinds_read) }
