-- What sink keeps. Assumes nothing.
use Rattle.std.specs.Prelude.{◌≡◌, ℕ, ◌*◌, ◌≤◌, true, false, List, [], ◌∷◌, ◌++◌, length, is_some, Ok, nat_le}
use Rattle.std.specs.Option.{option_to_list}
use Rattle.plan.specs.declared.cells.Cell.{Cell}
use Rattle.plan.specs.Kinds.{first_operator}
use Rattle.operators.specs.declared.answers.LimitsPass.TheVariants.{RowForRow}
use Rattle.operators.specs.Answers.{Answers}
use Rattle.operators.specs.Rows.{Meaning, rows}
use Rattle.operators.specs.Rules.{Passing, Rules}
use Rattle.checks.specs.Cells.{taken_cell}
use Rattle.checks.specs.Accepts.{Accepted}
use Rattle.rows.specs.Sums.{too_large}
use Rattle.rows.specs.Laws.{StillAccepted}
use Rattle.sinks.specs.declared.requirements.GlobalRequirements.{GlobalRequirements}
use Rattle.sinks.specs.Sink.{visited, settled, sunk, sunk_plan, visit_sum, sink_sums}

-- sink keeps the rows
abbrev pub SinkKeepsRows : Type 0
SinkKeepsRows = (a : Answers) (m : Meaning) → Rules a m → (cells : List Cell) → Accepted a cells → rows m (sunk_plan a cells) ≡ rows m cells

-- what the rules say of the answers alone, of each kind from 16 on that passes limits
abbrev pub AnswerRules : Answers → Type 0
AnswerRules a = (k p : ℕ) → nat_le first_operator k ≡ true → a.limits_pass k p ≡ RowForRow → Passing a k p

-- where no sum is too large, sink keeps a plan accepted
abbrev pub SinkKeepsAccepted : Type 0
SinkKeepsAccepted = (a : Answers) → AnswerRules a → (cells : List Cell) → Accepted a cells → sink_sums a cells ≡ Ok tt → StillAccepted a cells (sunk_plan a cells)

-- no more than two cells stand in the place of one, so that twice as many have room for them
abbrev pub SinkAtMostDoubles : Type 0
SinkAtMostDoubles = (a : Answers) (rs : List GlobalRequirements) (cells : List Cell) → length (sunk a rs cells) ≤ 2 * length cells

-- the second visit of a node under its new limit changes nothing
abbrev pub SecondVisitChangesNothing : Type 0
SecondVisitChangesNothing = (a : Answers) (r : GlobalRequirements) (c : Cell) (partitions : ℕ) →
    let v = visited a r c partitions in
    settled a r c partitions ≡ (option_to_list v.above ++ v.node ∷ [], v.next)

-- and forms no sum that is too large where the first visit formed none, if a fetch stands only on what takes one
abbrev pub SecondVisitSumsNoMore : Type 0
SecondVisitSumsNoMore = (a : Answers) (r : GlobalRequirements) (c : Cell) (partitions : ℕ) → taken_cell a c ≡ true →
    let v = visited a r c partitions in
    is_some v.above ≡ true → too_large (visit_sum r c) ≡ false → too_large (visit_sum v.next v.node) ≡ false
