use Rattle.std.proofs.Common.{◌≡◌, ◌+◌, ◌*◌, ◌≤◌, drop}
use Rattle.checks.specs.Tree.{tree_from, tree_of}
use Rattle.checks.proofs.shapes.check_tree.Given as goal

abbrev pub invariant-loop-place : goal.invariant-loop-place
invariant-loop-place l = (l.trees ≤ 1 + 255 * l.place) × (tree_from l.trees l.place (drop l.place l.cells) ≡ tree_of l.cells)
