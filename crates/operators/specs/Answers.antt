-- What an operator set answers, as one record of functions. Assumes nothing.
use Rattle.std.specs.Prelude.{ℕ, Bool, List}
use Rattle.operators.specs.declared.answers.LimitsPass.{LimitsPass}
use Rattle.operators.specs.declared.answers.CardinalityEffect.{CardinalityEffect}
use Rattle.operators.specs.declared.answers.PartitionCount.{PartitionCount}
use Rattle.operators.specs.declared.answers.KnownEmpty.{KnownEmpty}
use Rattle.operators.specs.declared.answers.WindowExpr.{WindowExpr}

-- by kind and parameter; of `fits` by child count too, of a window and an aggregate by the parameter alone
pub record Answers : Type 0 where
  pub fits : ℕ → ℕ → ℕ → Bool
  pub limits_pass : ℕ → ℕ → LimitsPass
  pub fetch : ℕ → ℕ → Bool
  pub mark : ℕ → ℕ → Bool
  pub effect : ℕ → ℕ → CardinalityEffect
  pub partitions : ℕ → ℕ → PartitionCount
  pub known_empty : ℕ → ℕ → KnownEmpty
  pub window : ℕ → List WindowExpr
  pub group : ℕ → ℕ
  pub plain_distinct : ℕ → Bool
