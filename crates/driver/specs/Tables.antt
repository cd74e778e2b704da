-- The answers of a set that a table gives, and those of a declared set. Assumes nothing.
use Rattle.std.specs.Prelude.{ℕ, ◌+◌, ◌*◌, Bool, true, false, cond, ◌&&◌, List, [], ◌∷◌, length, take, drop, is_ok, Some, None, Option, ◌==◌, nat_le, nat_lt, slice_index_or}
use Rattle.plan.specs.Kinds.{first_operator}
use Rattle.plan.specs.Numbers.{max_number}
use Rattle.operators.specs.declared.answers.LimitsPass.{LimitsPass}
use Rattle.operators.specs.declared.answers.LimitsPass.TheVariants.{No, RowForRow}
use Rattle.operators.specs.declared.answers.CardinalityEffect.TheVariants.{Unknown}
use Rattle.operators.specs.declared.answers.PartitionCount.{PartitionCount}
use Rattle.operators.specs.declared.answers.PartitionCount.TheVariants.{Sum, Fixed}
use Rattle.operators.specs.declared.answers.KnownEmpty.TheVariants.{Never}
use Rattle.operators.specs.declared.answers.WindowExpr.{WindowExpr}
use Rattle.operators.specs.declared.declarations.Declaration.{Declaration}
use Rattle.operators.specs.Answers.{Answers}
use Rattle.operators.specs.Catalogue.{unknown_window}
use Rattle.operators.specs.Declarations.{declared_answer}
use Rattle.operators.specs.Windows.{number_in, following_in}
use Rattle.driver.specs.declared.row_types.OperatorRow.{OperatorRow}
use Rattle.driver.specs.declared.row_types.GroupRow.{GroupRow}
use Rattle.driver.specs.Reading.{effect_of, known_empty_of}

-- no number of an expression is too large
abbrev pub all_small : List WindowExpr → Bool
all_small [] = true
all_small (e ∷ es) = nat_le (number_in e.effect) max_number && nat_le (following_in e.end_bound) max_number && all_small es

-- 1 to 16 expressions make a window, and no number of theirs is too large
abbrev pub sized : List WindowExpr → ℕ → Bool
sized exprs width = nat_le 1 width && nat_le width 16 && all_small exprs

-- the first row of a kind, if there is one
abbrev pub row_of : List OperatorRow → ℕ → Option OperatorRow
row_of [] k = None
row_of (r ∷ rs) k = cond (r.kind == k) (Some r) (row_of rs k)

-- what a row answers, or what is answered without one
abbrev pub told : {A : Type 0} → A → (OperatorRow → A) → Option OperatorRow → A
told otherwise answer None = otherwise
told otherwise answer (Some r) = answer r

-- so many children fit a row
abbrev pub fits_row : ℕ → OperatorRow → Bool
fits_row n r = nat_le r.least n && nat_le n r.most

-- whether limits pass a row
abbrev pub passes_row : OperatorRow → LimitsPass
passes_row r = cond r.passes RowForRow No

-- how many partitions a row has
abbrev pub partitions_row : OperatorRow → PartitionCount
partitions_row r = cond r.fixed (Fixed r.partitions) Sum

-- the window of a parameter: as many expressions as a window has, from its place on; past the end nothing is known
abbrev pub window_of : List WindowExpr → ℕ → ℕ → List WindowExpr
window_of exprs width p = cond (nat_lt (length exprs) (p * width + width)) unknown_window (take width (drop (p * width) exprs))

-- past the end: group 0, and not plain
abbrev pub no_group : GroupRow
no_group = record { group = 0; plain = false }

-- the answers of a table: below 16 any parameter fits
abbrev pub table_answers : List OperatorRow → List WindowExpr → ℕ → List GroupRow → Answers
table_answers rows exprs width groups = record {
  fits = λ k p n. cond (nat_lt k first_operator) true (told false (fits_row n) (row_of rows k));
  limits_pass = λ k p. told No passes_row (row_of rows k);
  fetch = λ k p. told false (λ r. r.fetch) (row_of rows k);
  mark = λ k p. told false (λ r. r.mark) (row_of rows k);
  effect = λ k p. told Unknown (λ r. effect_of r.effect) (row_of rows k);
  partitions = λ k p. told Sum partitions_row (row_of rows k);
  known_empty = λ k p. told Never (λ r. known_empty_of r.known_empty) (row_of rows k);
  window = window_of exprs width;
  group = λ p. (slice_index_or groups p no_group).group;
  plain_distinct = λ p. (slice_index_or groups p no_group).plain;
}

-- what a set holds that has read declarations: none, if it refused them
abbrev pub held : List Declaration → List Declaration
held ds = cond (is_ok (declared_answer ds)) ds []
