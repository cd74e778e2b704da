-- Each rule keeps the rows of every accepted plan, under every meaning of its operators that shows what a set must show, and keeps it
-- accepted. Assumes nothing.
use Rattle.std.specs.Prelude.{◌≡◌, List, length, Ok}
use Rattle.plan.specs.declared.cells.Cell.{Cell}
use Rattle.operators.specs.Answers.{Answers}
use Rattle.operators.specs.Rows.{Meaning, rows}
use Rattle.operators.specs.Rules.{Rules}
use Rattle.checks.specs.Windows.{windows_answer}
use Rattle.checks.specs.Accepts.{root_partitions, Accepted}
use Rattle.rows.specs.Grow.{grown_plan, grow_sums}
use Rattle.rows.specs.Hint.{hinted_plan, hint_sums}

-- an accepted plan has one root, so its rows are the root's partitions and nothing else
abbrev pub OneRoot : Type 0
OneRoot = (a : Answers) (m : Meaning) (cells : List Cell) → Accepted a cells → length (rows m cells) ≡ 1

-- grow keeps the rows of a plan whose windows it does not refuse
abbrev pub GrowKeepsRows : Type 0
GrowKeepsRows = (a : Answers) (m : Meaning) → Rules a m → (cells : List Cell) → Accepted a cells → windows_answer a cells ≡ Ok tt → rows m (grown_plan a cells) ≡ rows m cells

-- hint keeps the rows
abbrev pub HintKeepsRows : Type 0
HintKeepsRows = (a : Answers) (m : Meaning) → Rules a m → (cells : List Cell) → Accepted a cells → rows m (hinted_plan a cells) ≡ rows m cells

-- the plan after a rule is accepted, and its root has as many partitions as before
pub record StillAccepted (a : Answers) (cells after : List Cell) : Type 0 where
  pub accepted : Accepted a after
  pub partitions : root_partitions a after ≡ root_partitions a cells

-- where no sum is too large, grow keeps a plan accepted, with as many cells
abbrev pub GrowKeepsAccepted : Type 0
GrowKeepsAccepted = (a : Answers) (cells : List Cell) → Accepted a cells → grow_sums a cells ≡ Ok tt → StillAccepted a cells (grown_plan a cells) × (length (grown_plan a cells) ≡ length cells)

-- where no sum is too large, hint keeps a plan accepted, with as many cells
abbrev pub HintKeepsAccepted : Type 0
HintKeepsAccepted = (a : Answers) (cells : List Cell) → Accepted a cells → hint_sums cells ≡ Ok tt → StillAccepted a cells (hinted_plan a cells) × (length (hinted_plan a cells) ≡ length cells)
