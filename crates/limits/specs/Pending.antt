-- What the requirement stack holds: requirements, each with how many subtrees still share it. Assumes nothing.
use Rattle.std.specs.Prelude.{ℕ, ◌<◌, ◌≤◌, Bool, true, false, List, [], ◌∷◌, ◌++◌, replicate, IfSome, Some, None, Option}
use Rattle.plan.specs.declared.cells.Cell.{Cell}
use Rattle.plan.specs.Kinds.{is_limit}
use Rattle.plan.specs.Numbers.{max_number}
use Rattle.operators.specs.Answers.{Answers}
use Rattle.checks.specs.declared.facts.Fact.{Fact}
use Rattle.sinks.specs.declared.requirements.GlobalRequirements.{GlobalRequirements}
use Rattle.sinks.specs.declared.requirements.Visited.{Visited}
use Rattle.sinks.specs.Sink.{at_first, past_limit, visited}
use Rattle.limits.specs.declared.pending.Pending.{Pending}
use Rattle.limits.specs.declared.limit_pushdown.Stepped.{Stepped}

-- the blank entry: nothing is pending, and no subtree shares it
abbrev pub blank_pending : Pending
blank_pending = record { requirement = at_first; subtrees = 0 }

-- one requirement for each subtree still to come
abbrev pub spread : List Pending → List GlobalRequirements
spread [] = []
spread (p ∷ ps) = replicate p.subtrees p.requirement ++ spread ps

-- a fetch is not too large
abbrev pub fetch_in_range : Option ℕ → Type 0
fetch_in_range fetch = IfSome fetch (λ n. n ≤ max_number)

-- the numbers of a requirement are not too large
abbrev pub InRange : GlobalRequirements → Type 0
InRange r = (r.skip ≤ max_number) × fetch_in_range r.fetch

-- each entry is shared by a subtree at least, and in range
abbrev pub Live : List Pending → Type 0
Live [] = Unit {0}
Live (p ∷ ps) = (0 < p.subtrees) × InRange p.requirement × Live ps

-- what a visit leaves
abbrev pub node_stepped : Visited → Stepped
node_stepped v = record { above = v.above; node = Some v.node; next = v.next }

-- what stands in a cell's place, and what is pending below it: a limit is taken out, any other node is visited
abbrev pub stepped_by : (limit : Bool) → Answers → GlobalRequirements → Cell → ℕ → Fact → Stepped
stepped_by true a r c partitions child = record { above = None; node = None; next = past_limit r c child }
stepped_by false a r c partitions child = node_stepped (visited a r c partitions)

-- the same, where the cell says whether it is a limit
abbrev pub stepped : Answers → GlobalRequirements → Cell → ℕ → Fact → Stepped
stepped a r c partitions child = stepped_by (is_limit c.kind) a r c partitions child
