-- How far a window's expressions look ahead. Assumes nothing.
use Rattle.std.specs.Prelude.{ℕ, ◌≤◌, max, Bool, true, false, cond, ◌&&◌, List, [], ◌∷◌, length, Some, None as Absent, Option}
use Rattle.plan.specs.Numbers.{max_number}
use Rattle.operators.specs.declared.answers.LimitEffect.{LimitEffect}
use Rattle.operators.specs.declared.answers.LimitEffect.TheVariants.{None, Unknown, Relative, Absolute}
use Rattle.operators.specs.declared.answers.FrameUnits.{FrameUnits}
use Rattle.operators.specs.declared.answers.FrameUnits.TheVariants.{Rows}
use Rattle.operators.specs.declared.answers.FrameUnits.TheVariants.{Other as OtherUnits}
use Rattle.operators.specs.declared.answers.FrameBound.{FrameBound}
use Rattle.operators.specs.declared.answers.FrameBound.TheVariants.{Preceding, CurrentRow, Following, Other}
use Rattle.operators.specs.declared.answers.WindowExpr.{WindowExpr}
use Rattle.operators.specs.declared.windows.Reach.{Reach}

-- how many rows behind the current one a frame's end lies
abbrev pub following_in : FrameBound → ℕ
following_in Preceding = 0
following_in CurrentRow = 0
following_in (Following n) = n
following_in Other = 0

-- how many rows an effect looks ahead
abbrev pub relative_in : LimitEffect → ℕ
relative_in None = 0
relative_in Unknown = 0
relative_in (Relative n) = n
relative_in (Absolute n) = 0

-- a frame is counted in rows
abbrev pub in_rows : FrameUnits → Bool
in_rows Rows = true
in_rows OtherUnits = false

-- a frame ends at a known number of rows
abbrev pub end_known : FrameBound → Bool
end_known Preceding = true
end_known CurrentRow = true
end_known (Following n) = true
end_known Other = false

-- an effect is none or relative
abbrev pub effect_known : LimitEffect → Bool
effect_known None = true
effect_known Unknown = false
effect_known (Relative n) = true
effect_known (Absolute n) = false

-- the expression counts in rows, with effect none or relative and an end that is known
abbrev pub reaches : WindowExpr → Bool
reaches e = in_rows e.units && effect_known e.effect && end_known e.end_bound

-- every expression has a reach
abbrev pub all_reach : List WindowExpr → Bool
all_reach [] = true
all_reach (e ∷ es) = reaches e && all_reach es

-- the largest following and the largest relative number
abbrev pub following_of : List WindowExpr → ℕ
following_of [] = 0
following_of (e ∷ es) = max (following_in e.end_bound) (following_of es)

-- the farthest that any effect looks ahead
abbrev pub relative_of : List WindowExpr → ℕ
relative_of [] = 0
relative_of (e ∷ es) = max (relative_in e.effect) (relative_of es)

-- both, if each expression reaches so far and no farther
abbrev pub reach_of : List WindowExpr → Option Reach
reach_of es = cond (all_reach es) (Some (record { following = following_of es; relative = relative_of es })) Absent

-- the number in an effect or an end bound, if it has one, is not too large
abbrev pub number_in : LimitEffect → ℕ
number_in None = 0
number_in Unknown = 0
number_in (Relative n) = n
number_in (Absolute n) = n

-- no number of an expression is too large
abbrev pub Small : List WindowExpr → Type 0
Small [] = Unit {0}
Small (e ∷ es) = (number_in e.effect ≤ max_number) × (following_in e.end_bound ≤ max_number) × Small es

-- a window has 1 to 16 expressions, with numbers below 2 ^ 40
pub record WindowSized (es : List WindowExpr) : Type 0 where
  pub some : 1 ≤ length es
  pub few : length es ≤ 16
  pub small : Small es
