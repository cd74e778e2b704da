-- The check on windows that grow makes. Assumes nothing.
use Rattle.std.specs.Prelude.{ℕ, ◌+◌, ◌-◌, Bool, true, false, cond, ◌&&◌, ◌||◌, List, [], ◌∷◌, Ok, Result, ◌==◌, nat_lt}
use Rattle.std.specs.List.{list_any}
use Rattle.plan.specs.declared.cells.Cell.{Cell}
use Rattle.plan.specs.declared.refusals.Fault.{Fault}
use Rattle.plan.specs.declared.refusals.Refusal.TheVariants.{Windows}
use Rattle.plan.specs.Kinds.{bounded_window_agg}
use Rattle.plan.specs.Refusals.{refused_at}
use Rattle.operators.specs.declared.answers.LimitEffect.{LimitEffect}
use Rattle.operators.specs.declared.answers.LimitEffect.TheVariants.{None, Unknown, Relative, Absolute}
use Rattle.operators.specs.declared.answers.WindowExpr.{WindowExpr}
use Rattle.operators.specs.Answers.{Answers}
use Rattle.operators.specs.Windows.{all_reach, following_of, relative_of}

-- an effect counts from the start of the rows
abbrev pub is_absolute : LimitEffect → Bool
is_absolute None = false
is_absolute Unknown = false
is_absolute (Relative n) = false
is_absolute (Absolute n) = true

-- the window has a reach, and it is above 0
abbrev pub looks_ahead : List WindowExpr → Bool
looks_ahead es = all_reach es && nat_lt 0 (following_of es + relative_of es)

-- a window has an absolute expression, or looks ahead where one above it does, which so many subtrees still to come stand below
abbrev pub window_refused : Answers → ℕ → Cell → Bool
window_refused a below c = c.kind == bounded_window_agg && (list_any (λ e. is_absolute e.effect) (a.window c.parameter) || nat_lt 0 below && looks_ahead (a.window c.parameter))

-- how many subtrees still to come stand below a window that looks ahead, behind this cell
abbrev pub below_after : Answers → ℕ → Cell → ℕ
below_after a below c = cond (nat_lt 0 below) (below - 1 + c.children) (cond (c.kind == bounded_window_agg && looks_ahead (a.window c.parameter)) c.children 0)

-- the first window that is refused, at its place
abbrev pub windows_from : Answers → ℕ → ℕ → List Cell → Result (Unit {0}) Fault
windows_from a below at [] = Ok tt
windows_from a below at (c ∷ cs) = cond (window_refused a below c) (refused_at Windows at) (windows_from a (below_after a below c) (at + 1) cs)

-- the check on windows over the whole plan
abbrev pub windows_answer : Answers → List Cell → Result (Unit {0}) Fault
windows_answer a cells = windows_from a 0 0 cells
