use Rattle.std.proofs.Common.{◌≡◌, Bool, Option, drop}
use Rattle.std.specs.Option.{option_copied}
use Rattle.plan.specs.declared.cells.Cell.{Cell}
use Rattle.checks.specs.Cells.{Computes, singly_from, singly}
use Rattle.checks.proofs.single.check_cells.Given as goal

abbrev pub invariant-loop-place : goal.invariant-loop-place
invariant-loop-place g l =
    (test : Option Cell → Cell → Bool) → Computes g.F.Fn l.passes test → singly_from test l.refusal (option_copied l.before) l.place (drop l.place l.cells) ≡ singly test l.refusal l.cells
