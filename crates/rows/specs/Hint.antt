-- Hint: below each unmarked limit with a fetch, consecutive aggregates get its skip plus fetch as hint, while they are plain distinct and
-- share the group number. Assumes nothing.
use Rattle.std.specs.Prelude.{ℕ, ◌+◌, Bool, true, cond, not, ◌&&◌, List, [], ◌∷◌, Some, None, Ok, Option, Result, ◌==◌}
use Rattle.plan.specs.declared.cells.Cell.{Cell}
use Rattle.plan.specs.declared.refusals.Fault.{Fault}
use Rattle.plan.specs.declared.refusals.Refusal.TheVariants.{Sum}
use Rattle.plan.specs.Kinds.{aggregate, is_limit}
use Rattle.plan.specs.Refusals.{refused_at}
use Rattle.operators.specs.Answers.{Answers}
use Rattle.rows.specs.declared.hinting.Handed.{Handed}
use Rattle.rows.specs.Sums.{too_large}

-- the group number is that of the aggregate above, if one stands there
abbrev pub shares_group : Option ℕ → ℕ → Bool
shares_group None group = true
shares_group (Some above) group = above == group

-- an aggregate that is plain distinct and shares the group number
abbrev pub takes_hint : Answers → Option ℕ → Cell → Bool
takes_hint a above c = c.kind == aggregate && a.plain_distinct c.parameter && shares_group above (a.group c.parameter)

-- the cell with another hint
abbrev pub with_hint : Cell → Option ℕ → Cell
with_hint c hint = record c { hint = hint }

-- the node itself: it takes the hint that is handed down, if one is
abbrev pub hinted_cell : Answers → Option Handed → Cell → Cell
hinted_cell a None c = c
hinted_cell a (Some h) c = cond (takes_hint a h.group c) (with_hint c (Some h.hint)) c

-- skip plus fetch at an unmarked limit with this fetch, and elsewhere no sum
abbrev pub hint_sum_by : Cell → Option ℕ → Option ℕ
hint_sum_by c None = None
hint_sum_by c (Some fetch) = cond (is_limit c.kind && not c.mark) (Some (c.skip + fetch)) None

-- the sum that is formed at a node, if one is
abbrev pub hint_sum : Cell → Option ℕ
hint_sum c = hint_sum_by c c.fetch

-- an aggregate that took the hint hands it on with its own group number, and every other node hands nothing on
abbrev pub handed_on : Answers → Option Handed → Cell → Option Handed
handed_on a None c = None
handed_on a (Some h) c = cond (takes_hint a h.group c) (Some (record { hint = h.hint; group = Some (a.group c.parameter) })) None

-- the sum where one is formed, else what is handed on
abbrev pub hint_next_by : Option ℕ → Option Handed → Option Handed
hint_next_by None on = on
hint_next_by (Some sum) on = Some (record { hint = sum; group = None })

-- what is handed down behind a node
abbrev pub hint_next : Answers → Option Handed → Cell → Option Handed
hint_next a h c = hint_next_by (hint_sum c) (handed_on a h c)

-- the cells, if this is handed down to the first
unfoldable pub hinted : Answers → Option Handed → List Cell → List Cell
hinted a h [] = []
hinted a h (c ∷ cs) = hinted_cell a h c ∷ hinted a (hint_next a h c) cs

-- what hint makes of a plan
abbrev pub hinted_plan : Answers → List Cell → List Cell
hinted_plan a cells = hinted a None cells

-- from a place on, the first node at which a sum that is too large is formed is refused, at its place
unfoldable pub hint_sums_from : ℕ → List Cell → Result (Unit {0}) Fault
hint_sums_from at [] = Ok tt
hint_sums_from at (c ∷ cs) = cond (too_large (hint_sum c)) (refused_at Sum at) (hint_sums_from (at + 1) cs)

-- the first such node of a plan
abbrev pub hint_sums : List Cell → Result (Unit {0}) Fault
hint_sums cells = hint_sums_from 0 cells
