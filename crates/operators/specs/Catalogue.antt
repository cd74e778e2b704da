-- The catalogue set's answers. Assumes nothing.
use Rattle.std.specs.Prelude.{ℕ, ◌/◌, ◌%◌, Bool, true, false, cond, ◌&&◌, ◌||◌, List, [], ◌∷◌, ◌==◌, nat_le, nat_lt, slice_index_or}
use Rattle.plan.specs.Kinds.{bounded_window_agg, first_operator}
use Rattle.operators.specs.declared.answers.LimitsPass.TheVariants.{No, RowForRow}
use Rattle.operators.specs.declared.answers.CardinalityEffect.TheVariants.{LowerEqual, Equal}
use Rattle.operators.specs.declared.answers.CardinalityEffect.TheVariants.{Unknown as UnknownEffect}
use Rattle.operators.specs.declared.answers.PartitionCount.TheVariants.{Sum, Fixed}
use Rattle.operators.specs.declared.answers.KnownEmpty.TheVariants.{Never, IfAllChildren}
use Rattle.operators.specs.declared.answers.LimitEffect.{LimitEffect}
use Rattle.operators.specs.declared.answers.LimitEffect.TheVariants.{None, Unknown, Relative, Absolute}
use Rattle.operators.specs.declared.answers.FrameUnits.{FrameUnits}
use Rattle.operators.specs.declared.answers.FrameUnits.TheVariants.{Rows}
use Rattle.operators.specs.declared.answers.FrameUnits.TheVariants.{Other as OtherUnits}
use Rattle.operators.specs.declared.answers.FrameBound.{FrameBound}
use Rattle.operators.specs.declared.answers.FrameBound.TheVariants.{Preceding, CurrentRow, Following, Other}
use Rattle.operators.specs.declared.answers.WindowExpr.{WindowExpr}
use Rattle.operators.specs.Answers.{Answers}

abbrev pub scan : ℕ
scan = 16

abbrev pub filter : ℕ
filter = 17

abbrev pub union : ℕ
union = 18

abbrev pub repartition : ℕ
repartition = 20

-- an expression with this effect, unit and end
abbrev pub expr : LimitEffect → FrameUnits → FrameBound → WindowExpr
expr f u b = record { effect = f; units = u; end_bound = b }

-- what nothing is known of
abbrev pub unknown_window : List WindowExpr
unknown_window = expr Unknown OtherUnits Other ∷ []

-- the windows by their parameters, 0 to 5
abbrev pub windows : List (List WindowExpr)
windows =
    (expr None Rows CurrentRow ∷ [])
    ∷ (expr None Rows (Following 3) ∷ [])
    ∷ (expr (Relative 2) Rows (Following 1) ∷ [])
    ∷ (expr None OtherUnits CurrentRow ∷ [])
    ∷ (expr (Absolute 3) Rows CurrentRow ∷ [])
    ∷ (expr None Rows (Following 3) ∷ expr (Relative 2) Rows Preceding ∷ [])
    ∷ []

-- a parameter that is a number of partitions
abbrev pub counts_partitions : ℕ → Bool
counts_partitions p = nat_le 1 p && nat_le p 64

-- which parameters and child counts fit, for each kind
abbrev pub catalogue_fits : ℕ → ℕ → ℕ → Bool
catalogue_fits k p n =
    cond (k == bounded_window_agg) (nat_lt p 6)
    (cond (nat_lt k first_operator) true
    (cond (k == scan) (n == 0 && counts_partitions p)
    (cond (k == filter) (n == 1)
    (cond (k == union) (nat_le 1 n && nat_le n 63) (cond (k == repartition) (n == 1 && counts_partitions p) false)))))

-- the answers of the catalogue set
abbrev pub catalogue : Answers
catalogue = record {
  fits = catalogue_fits;
  limits_pass = λ k p. cond (k == union) RowForRow No;
  fetch = λ k p. (k == scan) || (k == filter);
  mark = λ k p. (k == scan);
  effect = λ k p. cond (k == filter) LowerEqual (cond (k == union || k == repartition) Equal UnknownEffect);
  partitions = λ k p. cond (k == scan || k == repartition) (Fixed p) Sum;
  known_empty = λ k p. cond (k == filter || k == union || k == repartition) IfAllChildren Never;
  window = λ p. slice_index_or windows p unknown_window;
  group = λ p. p / 2;
  plain_distinct = λ p. (p % 2 == 0);
}

-- its sources are its scans
abbrev pub catalogue_source : ℕ → Bool
catalogue_source k = k == scan
