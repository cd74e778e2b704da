-- The widths of a packed record. Assumes nothing.
use Rattle.std.specs.Prelude.{◌≡◌, ◌≤◌, ◌⊎◌, IfSome, None}
use Rattle.plan.specs.declared.cells.Cell.{Cell}
use Rattle.plan.specs.Numbers.{max_number, max_children, max_parameter}

-- a cell's numbers fit a packed record, which has one place for a hint and a skip: a hint stands only beside a skip of 0
pub record Packs (c : Cell) : Type 0 where
  pub children : c.children ≤ max_children
  pub parameter : c.parameter ≤ max_parameter
  pub fetch : IfSome c.fetch (λ n. n ≤ max_number)
  pub hint : IfSome c.hint (λ n. n ≤ max_number)
  pub skip : c.skip ≤ max_number
  pub apart : (c.hint ≡ None) ⊎ (c.skip ≡ 0)
