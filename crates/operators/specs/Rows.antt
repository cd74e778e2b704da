-- The rows of a plan, from its cells in prefix order and what its operators mean. Assumes nothing.
use Rattle.std.specs.Prelude.{ℕ, Bool, true, false, List, [], ◌∷◌, ◌++◌, map, take, drop, ℤ, Some, None, Option, ◌==◌}
use Rattle.plan.specs.declared.cells.Cell.{Cell}
use Rattle.plan.specs.Kinds.{is_limit, coalesce_partitions}

-- a row is a list of numbers
abbrev pub Row : Type 0
Row = List ℤ

-- a node's partitions, each a list of rows
abbrev pub Partitions : Type 0
Partitions = List (List Row)

-- what a node makes, by its mark and hint, of its children's partitions
abbrev pub Making : Type 0
Making = Bool → Option ℕ → List Partitions → Partitions

-- what the operators make, by kind and parameter
abbrev pub Meaning : Type 0
Meaning = ℕ → ℕ → Making

-- the rows that a fetch keeps
abbrev pub cut : Option ℕ → List Row → List Row
cut None rows = rows
cut (Some n) rows = take n rows

-- lists put one after another
abbrev pub concat : {A : Type 0} → List (List A) → List A
concat [] = []
concat (x ∷ xs) = x ++ concat xs

-- before its own fetch a limit drops its skip in each partition, and kind 5 joins the partitions in order; the rest is the meaning's
unfoldable pub made_by : (limit coalesces : Bool) → Meaning → Cell → List Partitions → Partitions
made_by true coalesces m c below = map (drop c.skip) (concat below)
made_by false true m c below = concat (concat below) ∷ []
made_by false false m c below = m c.kind c.parameter c.mark c.hint below

-- the rows that a node makes of those below it
abbrev pub made : Meaning → Cell → List Partitions → Partitions
made m c below = made_by (is_limit c.kind) (c.kind == coalesce_partitions) m c below

-- a node's rows, from its children's: last its fetch, in each partition
abbrev pub node_rows : Meaning → Cell → List Partitions → Partitions
node_rows m c below = map (cut c.fetch) (made m c below)

-- the rows of the subtrees that stand one after another in the cells: a node takes its children's off and puts its own on
unfoldable pub rows : Meaning → List Cell → List Partitions
rows m [] = []
rows m (c ∷ cs) = let below = rows m cs in node_rows m c (take c.children below) ∷ drop c.children below
