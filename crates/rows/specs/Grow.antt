-- Grow: a sort or merge below windows gets the limit above them, grown by as many rows as the windows look ahead. The cells are read in
-- prefix order, with a limit, a look-ahead and a phase. Assumes nothing.
use Rattle.std.specs.Prelude.{ℕ, ◌+◌, min, max, Bool, true, false, cond, ◌&&◌, ◌||◌, List, [], ◌∷◌, Some, None, Ok, Option, Result, ◌==◌, nat_le}
use Rattle.plan.specs.declared.cells.Cell.{Cell}
use Rattle.plan.specs.declared.refusals.Fault.{Fault}
use Rattle.plan.specs.declared.refusals.Refusal.TheVariants.{Sum}
use Rattle.plan.specs.Kinds.{sort_preserving_merge, sort, bounded_window_agg, is_limit}
use Rattle.plan.specs.Refusals.{refused_at}
use Rattle.operators.specs.declared.answers.CardinalityEffect.{CardinalityEffect}
use Rattle.operators.specs.declared.answers.CardinalityEffect.TheVariants.{Unknown, LowerEqual, Equal, GreaterEqual}
use Rattle.operators.specs.declared.windows.Reach.{Reach}
use Rattle.operators.specs.Answers.{Answers}
use Rattle.operators.specs.Questions.{passes_limits, effect_of}
use Rattle.operators.specs.Windows.{reach_of}
use Rattle.rows.specs.declared.growing.Phase.{Phase}
use Rattle.rows.specs.declared.growing.Phase.TheVariants.{FindOrGrow, Apply, Ended}
use Rattle.rows.specs.declared.growing.TraverseState.{TraverseState}
use Rattle.rows.specs.declared.growing.Turn.{Turn}
use Rattle.rows.specs.declared.growing.Turn.TheVariants.{Keep, Reset, Find, Grow}
use Rattle.rows.specs.declared.growing.Turn.TheVariants.{Apply as ApplyHere}
use Rattle.rows.specs.Sums.{too_large}

-- before the first cell: finding, with no limit and no look-ahead
abbrev pub grow_first : TraverseState
grow_first = record { phase = FindOrGrow; limit = None; lookahead = 0 }

-- no window is passed yet
abbrev pub finding : Phase → Bool
finding FindOrGrow = true
finding Apply = false
finding Ended = false

-- a window is passed
abbrev pub applying : Phase → Bool
applying FindOrGrow = false
applying Apply = true
applying Ended = false

-- a sort or merge got the limit
abbrev pub ended : Phase → Bool
ended FindOrGrow = false
ended Apply = false
ended Ended = true

-- finding, at a limit or a merge
abbrev pub finds : Phase → ℕ → Bool
finds phase kind = finding phase && (is_limit kind || kind == sort_preserving_merge)

-- applying, at a sort or a merge
abbrev pub applies : Phase → ℕ → Bool
applies phase kind = applying phase && (kind == sort || kind == sort_preserving_merge)

-- it gives at least as many rows as it reads
abbrev pub no_fewer : CardinalityEffect → Bool
no_fewer Unknown = false
no_fewer LowerEqual = false
no_fewer Equal = true
no_fewer GreaterEqual = true

-- limits pass, and as many rows come out as go in, or more
abbrev pub lets_through : Answers → ℕ → ℕ → Bool
lets_through a kind parameter = passes_limits a kind parameter && no_fewer (effect_of a kind parameter)

-- what the walk does at a node: the first clause that matches counts
abbrev pub turn_by : (over forks finds window applies through : Bool) → Turn
turn_by true forks finds window applies through = Keep
turn_by false true finds window applies through = Reset
turn_by false false true window applies through = Find
turn_by false false false true applies through = Grow
turn_by false false false false true through = ApplyHere
turn_by false false false false false true = Keep
turn_by false false false false false false = Reset

-- by whether the walk has ended, the node has two or more children, it is a limit or merge while finding, a window, a sort or merge while applying,
-- and whether it lets limits through
abbrev pub turn : Answers → TraverseState → Cell → Turn
turn a s c =
    turn_by (ended s.phase) (nat_le 2 c.children) (finds s.phase c.kind) (c.kind == bounded_window_agg) (applies s.phase c.kind) (lets_through a c.kind c.parameter)

-- another limit, or none, and no look-ahead
abbrev pub reset_limit : TraverseState → Option ℕ → TraverseState
reset_limit s limit = record s { limit = limit; lookahead = 0 }

-- skip plus fetch, or absent
abbrev pub limit_found : ℕ → Option ℕ → Option ℕ
limit_found skip None = None
limit_found skip (Some fetch) = Some (skip + fetch)

-- the larger of the look-ahead and the largest following number, plus the largest relative number
abbrev pub grown_lookahead : TraverseState → Reach → ℕ
grown_lookahead s reach = max s.lookahead reach.following + reach.relative

-- below a window: applying from now on, without a reach with no limit
abbrev pub past_window : TraverseState → Option Reach → TraverseState
past_window s None = record { phase = Apply; limit = None; lookahead = 0 }
past_window s (Some reach) = record s { phase = Apply; lookahead = grown_lookahead s reach }

-- below a sort or merge: with no limit reset, else the walk has ended
abbrev pub past_apply : TraverseState → Option ℕ → TraverseState
past_apply s None = reset_limit s None
past_apply s (Some limit) = record { phase = Ended; limit = None; lookahead = 0 }

-- the state behind a node, by what the walk does there
abbrev pub grow_next_by : Turn → Answers → TraverseState → Cell → TraverseState
grow_next_by Keep a s c = s
grow_next_by Reset a s c = reset_limit s None
grow_next_by Find a s c = reset_limit s (limit_found c.skip c.fetch)
grow_next_by Grow a s c = past_window s (reach_of (a.window c.parameter))
grow_next_by ApplyHere a s c = past_apply s s.limit

-- the state behind a node
abbrev pub grow_next : Answers → TraverseState → Cell → TraverseState
grow_next a s c = grow_next_by (turn a s c) a s c

-- a fetch of n, or the own one if that is smaller
abbrev pub smaller_fetch : Option ℕ → ℕ → ℕ
smaller_fetch None n = n
smaller_fetch (Some own) n = min own n

-- the cell with another fetch
abbrev pub with_fetch : Cell → Option ℕ → Cell
with_fetch c fetch = record c { fetch = fetch }

-- a sort or merge: its fetch becomes limit plus look-ahead, or stays if smaller
abbrev pub applied : TraverseState → Option ℕ → Cell → Cell
applied s None c = c
applied s (Some limit) c = with_fetch c (Some (smaller_fetch c.fetch (limit + s.lookahead)))

-- the node itself, by what the walk does there: only where a limit is applied does it change
abbrev pub grown_cell_by : Turn → TraverseState → Cell → Cell
grown_cell_by Keep s c = c
grown_cell_by Reset s c = c
grown_cell_by Find s c = c
grown_cell_by Grow s c = c
grown_cell_by ApplyHere s c = applied s s.limit c

-- the node itself
abbrev pub grown_cell : Answers → TraverseState → Cell → Cell
grown_cell a s c = grown_cell_by (turn a s c) s c

-- the cells, from a state on
unfoldable pub grown : Answers → TraverseState → List Cell → List Cell
grown a s [] = []
grown a s (c ∷ cs) = grown_cell a s c ∷ grown a (grow_next a s c) cs

-- what grow makes of a plan
abbrev pub grown_plan : Answers → List Cell → List Cell
grown_plan a cells = grown a grow_first cells

-- at a window with a reach, the new look-ahead: with no limit too
abbrev pub window_sum : TraverseState → Option Reach → Option ℕ
window_sum s None = None
window_sum s (Some reach) = Some (grown_lookahead s reach)

-- at a sort or merge, with a limit, the limit plus the look-ahead: also where the own fetch is smaller
abbrev pub apply_sum : TraverseState → Option ℕ → Option ℕ
apply_sum s None = None
apply_sum s (Some limit) = Some (limit + s.lookahead)

-- the sum that is formed at a node, if one is, by what the walk does there
abbrev pub grow_sum_by : Turn → Answers → TraverseState → Cell → Option ℕ
grow_sum_by Keep a s c = None
grow_sum_by Reset a s c = None
grow_sum_by Find a s c = limit_found c.skip c.fetch
grow_sum_by Grow a s c = window_sum s (reach_of (a.window c.parameter))
grow_sum_by ApplyHere a s c = apply_sum s s.limit

-- the sum that is formed at a node, if one is
abbrev pub grow_sum : Answers → TraverseState → Cell → Option ℕ
grow_sum a s c = grow_sum_by (turn a s c) a s c

-- from a state and a place on, the first node at which a sum that is too large is formed is refused, at its place
unfoldable pub grow_sums_from : Answers → TraverseState → ℕ → List Cell → Result (Unit {0}) Fault
grow_sums_from a s at [] = Ok tt
grow_sums_from a s at (c ∷ cs) = cond (too_large (grow_sum a s c)) (refused_at Sum at) (grow_sums_from a (grow_next a s c) (at + 1) cs)

-- the first such node of a plan
abbrev pub grow_sums : Answers → List Cell → Result (Unit {0}) Fault
grow_sums a cells = grow_sums_from a grow_first 0 cells
