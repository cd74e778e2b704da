-- What is known of each subtree without its rows. Assumes nothing.
use Rattle.std.specs.Prelude.{ℕ, zero, suc, ◌+◌, ◌*◌, ◌^◌, ◌≤◌, Bool, true, false, cond, not, ◌&&◌, ◌||◌, List, [], ◌∷◌, length, take, drop, Ok, Result, ◌==◌, nat_lt}
use Rattle.plan.specs.declared.cells.Cell.{Cell}
use Rattle.plan.specs.declared.refusals.Fault.{Fault}
use Rattle.plan.specs.declared.refusals.Refusal.TheVariants.{Partitions}
use Rattle.plan.specs.Kinds.{placeholder_row, global_limit, projection}
use Rattle.plan.specs.Numbers.{max_partitions}
use Rattle.plan.specs.Refusals.{refused_at}
use Rattle.operators.specs.Answers.{Answers}
use Rattle.operators.specs.Questions.{partitions_of, empty_of}
use Rattle.checks.specs.declared.facts.KnownRows.{KnownRows}
use Rattle.checks.specs.declared.facts.KnownRows.TheVariants.{Unknown, NoRow, OneRow}
use Rattle.checks.specs.declared.facts.Fact.{Fact}
use Rattle.checks.specs.declared.facts.Children.{Children}

-- the blank entry of the fact stack
abbrev pub blank_fact : Fact
blank_fact = record { size = 0; partitions = 0; rows = Unknown }

-- a subtree is known to have no row
abbrev pub is_empty : KnownRows → Bool
is_empty Unknown = false
is_empty NoRow = true
is_empty OneRow = false

-- the fact of the first subtree; the blank one if there is none
abbrev pub head_fact : List Fact → Fact
head_fact [] = blank_fact
head_fact (f ∷ fs) = f

-- what is known of a node's children together: their cells, their partitions, and whether none of them has a row
abbrev pub together : List Fact → Children
together [] = record { size = 0; partitions = 0; empty = true }
together (f ∷ fs) =
    let rest = together fs in
    record { size = f.size + rest.size; partitions = f.partitions + rest.partitions; empty = is_empty f.rows && rest.empty }

-- a placeholder has one row, a projection as many as its child, and what is known empty none
abbrev pub rows_known : Answers → Cell → Bool → KnownRows → KnownRows
rows_known a c all child = cond (c.kind == placeholder_row) OneRow (cond (c.kind == projection) child (cond (empty_of a c.kind c.parameter all) NoRow Unknown))

-- the fact of a node, from its children's and from what is known of the first of them
abbrev pub fact_with : Answers → Cell → List Fact → KnownRows → Fact
fact_with a c children first =
    let all = together children in
    record { size = 1 + all.size; partitions = partitions_of a c.kind c.parameter all.partitions; rows = rows_known a c all.empty first }

-- its children's are the first of those of the subtrees behind it
abbrev pub fact_of : Answers → Cell → List Fact → Fact
fact_of a c below = fact_with a c (take c.children below) (head_fact below).rows

-- the facts of the subtrees that stand one after another in the cells: a node takes its children's off and puts its own on
unfoldable pub facts : Answers → List Cell → List Fact
facts a [] = []
facts a (c ∷ cs) = let below = facts a cs in fact_of a c below ∷ drop c.children below

-- the fact of each cell's subtree, as the fact stack holds them
unfoldable pub every_fact : Answers → List Cell → List Fact
every_fact a [] = []
every_fact a (c ∷ cs) = head_fact (facts a (c ∷ cs)) ∷ every_fact a cs

-- a partition count is 0 or above 4,096, or kind 2 stands over a child of not exactly one
abbrev pub miscounted : Cell → ℕ → ℕ → Bool
miscounted c own child = own == 0 || nat_lt max_partitions own || c.kind == global_limit && not (child == 1)

-- the first cell whose partitions are miscounted is refused, at its place
unfoldable pub counted_from : Answers → ℕ → List Cell → Result (Unit {0}) Fault
counted_from a at [] = Ok tt
counted_from a at (c ∷ cs) =
    cond (miscounted c (head_fact (facts a (c ∷ cs))).partitions (head_fact (facts a cs)).partitions) (refused_at Partitions at) (counted_from a (at + 1) cs)

-- the facts of the next n subtrees, read off the facts of all cells: each next one stands behind the cells of the one before it
abbrev pub next_facts : ℕ → List Fact → List Fact
next_facts zero fs = []
next_facts (suc n) fs = head_fact fs ∷ next_facts n (drop (head_fact fs).size fs)

-- no subtree has more cells than there are, nor more partitions than so many for each cell: so no sum of them wraps
abbrev pub Bounded : List Fact → Type 0
Bounded [] = Unit {0}
Bounded (f ∷ fs) = (f.size ≤ 1 + length fs) × (f.partitions ≤ 2 ^ 32 * f.size) × Bounded fs
