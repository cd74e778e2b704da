-- Declarations, which of them are refused, and what a set answers that holds them. Assumes nothing.
use Rattle.std.specs.Prelude.{ℕ, ◌+◌, Bool, true, false, cond, not, ◌&&◌, ◌||◌, List, [], ◌∷◌, ◌++◌, length, find, is_some, Ok, Option, Result, ◌==◌, nat_le, nat_lt}
use Rattle.std.specs.Option.{option_map_or}
use Rattle.plan.specs.declared.refusals.Fault.{Fault}
use Rattle.plan.specs.declared.refusals.Refusal.TheVariants.{Declaration as RefusedDeclaration}
use Rattle.plan.specs.Kinds.{bounded_window_agg, aggregate, first_operator}
use Rattle.plan.specs.Refusals.{refused_at}
use Rattle.operators.specs.declared.answers.LimitsPass.{LimitsPass}
use Rattle.operators.specs.declared.answers.LimitsPass.TheVariants.{No}
use Rattle.operators.specs.declared.answers.LimitsPass.TheVariants.{RowForRow as Passes}
use Rattle.operators.specs.declared.answers.CardinalityEffect.TheVariants.{Unknown}
use Rattle.operators.specs.declared.answers.PartitionCount.{PartitionCount}
use Rattle.operators.specs.declared.answers.PartitionCount.TheVariants.{Sum, Fixed}
use Rattle.operators.specs.declared.answers.KnownEmpty.TheVariants.{Never}
use Rattle.operators.specs.declared.declarations.Shape.{Shape}
use Rattle.operators.specs.declared.declarations.Shape.TheVariants.{Source, RowForRow, EachPartition, Gathering}
use Rattle.operators.specs.declared.declarations.Declaration.{Declaration}
use Rattle.operators.specs.Answers.{Answers}
use Rattle.operators.specs.Catalogue.{unknown_window}

-- one for each kind from 16 to 255
abbrev pub max_declarations : ℕ
max_declarations = 240

-- the declaration of a kind, if there is one
abbrev pub look_up : List Declaration → ℕ → Option Declaration
look_up ds k = find (λ d. d.kind == k) ds

-- a shape hands on each row of its children
abbrev pub is_row_for_row : Shape → Bool
is_row_for_row (Source n) = false
is_row_for_row RowForRow = true
is_row_for_row EachPartition = false
is_row_for_row (Gathering n) = false

-- a kind below 16, a kind declared earlier, or a row-for-row shape with a fetch
abbrev pub is_refused : List Declaration → Declaration → Bool
is_refused earlier d = nat_lt d.kind first_operator || is_some (look_up earlier d.kind) || is_row_for_row d.shape && d.fetch

-- the first declaration that is refused, with those before it and its number
abbrev pub declared_from : List Declaration → ℕ → List Declaration → Result (Unit {0}) Fault
declared_from earlier at [] = Ok tt
declared_from earlier at (d ∷ ds) = cond (is_refused earlier d) (refused_at RefusedDeclaration at) (declared_from (earlier ++ d ∷ []) (at + 1) ds)

-- an overlong list is refused before any declaration of it
abbrev pub declared_answer : List Declaration → Result (Unit {0}) Fault
declared_answer ds = cond (nat_lt max_declarations (length ds)) (refused_at RefusedDeclaration max_declarations) (declared_from [] 0 ds)

-- which child counts fit a shape
abbrev pub fits_shape : Shape → ℕ → Bool
fits_shape (Source m) n = n == 0
fits_shape RowForRow n = nat_le 1 n && nat_le n 63
fits_shape EachPartition n = n == 1
fits_shape (Gathering m) n = nat_le 1 n && nat_le n 63

-- whether limits pass a shape
abbrev pub passes_shape : Shape → LimitsPass
passes_shape (Source n) = No
passes_shape RowForRow = Passes
passes_shape EachPartition = No
passes_shape (Gathering n) = No

-- how many partitions a shape has
abbrev pub partitions_shape : Shape → PartitionCount
partitions_shape (Source n) = Fixed n
partitions_shape RowForRow = Sum
partitions_shape EachPartition = Sum
partitions_shape (Gathering n) = Fixed n

-- below 16 any parameter fits, but no window and no aggregate does
abbrev pub declared_answers : List Declaration → Answers
declared_answers ds = record {
  fits = λ k p n. cond (nat_lt k first_operator) (not (k == bounded_window_agg || k == aggregate)) (option_map_or (λ d. fits_shape d.shape n) (look_up ds k) false);
  limits_pass = λ k p. option_map_or (λ d. passes_shape d.shape) (look_up ds k) No;
  fetch = λ k p. option_map_or (λ d. d.fetch) (look_up ds k) false;
  mark = λ k p. option_map_or (λ d. d.mark) (look_up ds k) false;
  effect = λ k p. option_map_or (λ d. d.effect) (look_up ds k) Unknown;
  partitions = λ k p. option_map_or (λ d. partitions_shape d.shape) (look_up ds k) Sum;
  known_empty = λ k p. Never;
  window = λ p. unknown_window;
  group = λ p. 0;
  plain_distinct = λ p. false;
}

-- a shape has no children
abbrev pub is_source : Shape → Bool
is_source (Source n) = true
is_source RowForRow = false
is_source EachPartition = false
is_source (Gathering n) = false

-- its sources are the kinds that are declared so
abbrev pub declared_source : List Declaration → ℕ → Bool
declared_source ds k = option_map_or (λ d. is_source d.shape) (look_up ds k) false
