-- What the numbers in rows stand for. Assumes nothing.
use Rattle.std.specs.Prelude.{ℕ, min, max, cond, List, map, take, ◌==◌}
use Rattle.plan.specs.Numbers.{max_number}
use Rattle.operators.specs.declared.answers.CardinalityEffect.{CardinalityEffect}
use Rattle.operators.specs.declared.answers.CardinalityEffect.TheVariants.{LowerEqual, Equal, GreaterEqual}
use Rattle.operators.specs.declared.answers.CardinalityEffect.TheVariants.{Unknown as UnknownEffect}
use Rattle.operators.specs.declared.answers.KnownEmpty.{KnownEmpty}
use Rattle.operators.specs.declared.answers.KnownEmpty.TheVariants.{Never, Always, IfAllChildren}
use Rattle.operators.specs.declared.answers.LimitEffect.{LimitEffect}
use Rattle.operators.specs.declared.answers.LimitEffect.TheVariants.{None, Unknown, Relative, Absolute}
use Rattle.operators.specs.declared.answers.FrameUnits.{FrameUnits}
use Rattle.operators.specs.declared.answers.FrameUnits.TheVariants.{Rows}
use Rattle.operators.specs.declared.answers.FrameUnits.TheVariants.{Other as OtherUnits}
use Rattle.operators.specs.declared.answers.FrameBound.{FrameBound}
use Rattle.operators.specs.declared.answers.FrameBound.TheVariants.{Preceding, CurrentRow, Following, Other}
use Rattle.operators.specs.declared.answers.WindowExpr.{WindowExpr}
use Rattle.operators.specs.declared.declarations.Shape.{Shape}
use Rattle.operators.specs.declared.declarations.Shape.TheVariants.{Source, RowForRow, EachPartition, Gathering}
use Rattle.operators.specs.declared.declarations.Declaration.{Declaration}
use Rattle.limits.specs.declared.rules.Rule.{Rule}
use Rattle.limits.specs.declared.rules.Rule.TheVariants.{Sink, Grow, Hint}
use Rattle.driver.specs.declared.row_types.ExprRow.{ExprRow}
use Rattle.driver.specs.declared.row_types.DeclarationRow.{DeclarationRow}

-- 0 is sink, 1 grow, else hint
abbrev pub rule_of : ℕ → Rule
rule_of n = cond (n == 0) Sink (cond (n == 1) Grow Hint)

-- 1 is lower or equal, 2 equal, 3 greater or equal, else unknown
abbrev pub effect_of : ℕ → CardinalityEffect
effect_of n = cond (n == 1) LowerEqual (cond (n == 2) Equal (cond (n == 3) GreaterEqual UnknownEffect))

-- 1 is always, 2 if all children are, else never
abbrev pub known_empty_of : ℕ → KnownEmpty
known_empty_of n = cond (n == 1) Always (cond (n == 2) IfAllChildren Never)

-- 0 is none, 2 relative, 3 absolute, else unknown
abbrev pub limit_effect_of : ℕ → ℕ → LimitEffect
limit_effect_of e n = cond (e == 0) None (cond (e == 2) (Relative n) (cond (e == 3) (Absolute n) Unknown))

-- 0 is rows, else another unit
abbrev pub units_of : ℕ → FrameUnits
units_of n = cond (n == 0) Rows OtherUnits

-- 0 is preceding, 1 the current row, 2 following, else another end
abbrev pub bound_of : ℕ → ℕ → FrameBound
bound_of e n = cond (e == 0) Preceding (cond (e == 1) CurrentRow (cond (e == 2) (Following n) Other))

-- an expression, its numbers cut down to the largest
abbrev pub expr_of : ExprRow → WindowExpr
expr_of r = record { effect = limit_effect_of r.effect (min r.effect_number max_number); units = units_of r.units; end_bound = bound_of r.end (min r.end_number max_number) }

-- so many expressions are read
abbrev pub max_exprs : ℕ
max_exprs = 256

-- the expressions of a table
abbrev pub exprs_of : List ExprRow → List WindowExpr
exprs_of rows = map expr_of (take max_exprs rows)

-- how many expressions a window has: 1 to 16
abbrev pub width_of : ℕ → ℕ
width_of n = max 1 (min n 16)

-- 0 is a source, 1 row for row, 2 each partition, else gathering; a source and a gathering have so many partitions
abbrev pub shape_of : ℕ → ℕ → Shape
shape_of n ps = cond (n == 0) (Source ps) (cond (n == 1) RowForRow (cond (n == 2) EachPartition (Gathering ps)))

-- a declaration
abbrev pub declaration_of : DeclarationRow → Declaration
declaration_of r = record { kind = r.kind; shape = shape_of r.shape r.number; fetch = r.fetch; mark = r.mark; effect = effect_of r.effect }

-- so many are read, one more than a set takes, so that a longer list is refused as it would be
abbrev pub max_rows : ℕ
max_rows = 241

-- the declarations of a list
abbrev pub declarations_of : List DeclarationRow → List Declaration
declarations_of rows = map declaration_of (take max_rows rows)
