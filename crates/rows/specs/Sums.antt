-- Sums that a rule forms at a node, and which are too large. Assumes nothing.
use Rattle.std.specs.Prelude.{ℕ, Bool, false, Some, None, Option, nat_lt}
use Rattle.plan.specs.Numbers.{max_number}

-- a sum is formed, and it is above the largest number
abbrev pub too_large : Option ℕ → Bool
too_large None = false
too_large (Some n) = nat_lt max_number n
