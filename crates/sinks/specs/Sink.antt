-- Sink: limits go down a plan as far as they can. Assumes nothing.
use Rattle.std.specs.Prelude.{ℕ, ◌+◌, ◌-◌, min, Bool, true, false, cond, not, ◌&&◌, ◌||◌, List, [], ◌∷◌, ◌++◌, replicate, Some, None, Ok, Option, Result, ◌==◌, nat_le, nat_lt}
use Rattle.std.specs.Option.{option_to_list}
use Rattle.plan.specs.declared.cells.Cell.{Cell}
use Rattle.plan.specs.declared.refusals.Fault.{Fault}
use Rattle.plan.specs.declared.refusals.Refusal.TheVariants.{Sum}
use Rattle.plan.specs.Cells.{node}
use Rattle.plan.specs.Kinds.{global_limit, local_limit, coalesce_partitions, sort_preserving_merge, is_limit}
use Rattle.plan.specs.Refusals.{refused_at}
use Rattle.operators.specs.Answers.{Answers}
use Rattle.operators.specs.Questions.{passes_limits, takes_fetch, takes_mark}
use Rattle.checks.specs.declared.facts.KnownRows.{KnownRows}
use Rattle.checks.specs.declared.facts.KnownRows.TheVariants.{Unknown, NoRow, OneRow}
use Rattle.checks.specs.declared.facts.Fact.{Fact}
use Rattle.checks.specs.Facts.{head_fact, fact_of, facts}
use Rattle.rows.specs.Grow.{with_fetch}
use Rattle.rows.specs.Sums.{too_large}
use Rattle.sinks.specs.declared.requirements.GlobalRequirements.{GlobalRequirements}
use Rattle.sinks.specs.declared.requirements.Visited.{Visited}

-- at the root nothing is pending
abbrev pub at_first : GlobalRequirements
at_first = record { skip = 0; fetch = None; satisfied = false; preserve_order = false }

-- the smaller of the outer fetch and of the inner fetch less the outer skip, never below 0; an absent fetch drops out
abbrev pub combined_fetch : (skip : ℕ) → (outer inner : Option ℕ) → Option ℕ
combined_fetch skip None None = None
combined_fetch skip None (Some g) = Some (g - skip)
combined_fetch skip (Some f) None = Some f
combined_fetch skip (Some f) (Some g) = Some (min f (g - skip))

-- an outer limit over an inner one, as one limit: the sum of the skips, and the fetch that is left
abbrev pub combined : ℕ → Option ℕ → ℕ → Option ℕ → ℕ × Option ℕ
combined skip fetch inner_skip inner_fetch = (skip + inner_skip, combined_fetch skip fetch inner_fetch)

-- a subtree is known to have at most n rows
abbrev pub known_few : KnownRows → ℕ → Bool
known_few Unknown n = false
known_few NoRow n = true
known_few OneRow n = nat_le 1 n

-- a fetch is pending, and the subtree is known to have no more rows
abbrev pub known_within : KnownRows → Option ℕ → Bool
known_within known None = false
known_within known (Some n) = known_few known n

-- a limit is taken out: what is pending over its child, of which this is known
abbrev pub past_limit : GlobalRequirements → Cell → Fact → GlobalRequirements
past_limit r c child =
    let both = combined r.skip r.fetch c.skip c.fetch in
    record { skip = both.0; fetch = both.1; satisfied = both.0 == 0 && child.partitions == 1 && known_within child.rows both.1; preserve_order = c.mark }

-- a node's own fetch satisfies where nothing is skipped, and is combined as an inner limit that skips nothing
abbrev pub past_fetch : GlobalRequirements → Option ℕ → GlobalRequirements
past_fetch r None = r
past_fetch r (Some f) =
    let both = combined r.skip r.fetch 0 (Some f) in
    record r { skip = both.0; fetch = both.1; satisfied = r.satisfied || (r.skip == 0) }

-- a new limit of kind 2, which has no mark
abbrev pub new_global : ℕ → Option ℕ → Cell
new_global skip fetch = record (node global_limit 1 0) { fetch = fetch; skip = skip }

-- a new limit of kind 3, which has no mark
abbrev pub new_local : ℕ → Cell
new_local fetch = record (node local_limit 1 0) { fetch = Some fetch }

-- a limit goes above only if it has to
abbrev pub only_if : Bool → Cell → Option Cell
only_if true limit = Some limit
only_if false limit = None

-- a node with another mark
abbrev pub with_mark : Cell → Bool → Cell
with_mark c mark = record c { mark = mark }

-- what is pending goes on down, but once it is satisfied nothing is skipped any more
abbrev pub onward : GlobalRequirements → GlobalRequirements
onward r = record r { skip = cond r.satisfied 0 r.skip }

-- all is satisfied, and below only so many rows are wanted
abbrev pub satisfied_to : GlobalRequirements → Option ℕ → GlobalRequirements
satisfied_to r fetch = record r { skip = 0; fetch = fetch; satisfied = true }

-- the node stays
abbrev pub stayed : GlobalRequirements → Cell → Visited
stayed r c = record { above = None; node = c; next = onward r }

-- a skip that is not satisfied goes above, alone
abbrev pub skipped_by : (unsatisfied : Bool) → GlobalRequirements → Cell → Visited
skipped_by true r c = record { above = Some (new_global r.skip None); node = c; next = satisfied_to r None }
skipped_by false r c = stayed r c

-- with no fetch pending
abbrev pub skipped : GlobalRequirements → Cell → Visited
skipped r c = skipped_by (nat_lt 0 r.skip && not r.satisfied) r c

-- kinds 5 and 6 get the total of fetch and skip as fetch, under kind 2 if something is skipped, and the total is wanted below
abbrev pub gathered : GlobalRequirements → Cell → ℕ → Visited
gathered r c fetch =
    let total = fetch + r.skip in
    record { above = only_if (nat_lt 0 r.skip) (new_global r.skip (Some fetch)); node = with_fetch c (Some total); next = satisfied_to r (Some total) }

-- another node that takes a fetch gets the total, and the pending order as mark if it takes one, under kind 2 if a skip is not satisfied
abbrev pub fetched : Answers → GlobalRequirements → Cell → ℕ → Visited
fetched a r c fetch =
    let total = fetch + r.skip in
    let mark = cond (takes_mark a c.kind c.parameter) r.preserve_order c.mark in
    record { above = only_if (nat_lt 0 r.skip && not r.satisfied) (new_global r.skip (Some fetch)); node = with_fetch (with_mark c mark) (Some total); next = satisfied_to r None }

-- the limit over a node that takes none: kind 2, or kind 3 with the total
abbrev pub limit_over : (global : Bool) → GlobalRequirements → ℕ → Cell
limit_over true r fetch = new_global r.skip (Some fetch)
limit_over false r fetch = new_local (fetch + r.skip)

-- a node that takes none gets a limit above if it is not satisfied: kind 2 if something is skipped or there is one partition, else kind 3
abbrev pub limited : GlobalRequirements → Cell → ℕ → ℕ → Visited
limited r c partitions fetch =
    record { above = only_if (not r.satisfied) (limit_over (nat_lt 0 r.skip || partitions == 1) r fetch); node = c; next = satisfied_to r None }

-- with a fetch pending: by whether the node combines partitions, limits pass it, and it takes a fetch
abbrev pub fetching_by : (combines passes fetches : Bool) → Answers → GlobalRequirements → Cell → ℕ → ℕ → Visited
fetching_by true passes fetches a r c partitions fetch = gathered r c fetch
fetching_by false true fetches a r c partitions fetch = stayed r c
fetching_by false false true a r c partitions fetch = fetched a r c fetch
fetching_by false false false a r c partitions fetch = limited r c partitions fetch

-- kinds 5 and 6
abbrev pub combines_partitions : ℕ → Bool
combines_partitions k = k == coalesce_partitions || k == sort_preserving_merge

-- a visit, by the fetch that is pending behind the node's own
abbrev pub visited_by : Answers → GlobalRequirements → Cell → ℕ → Option ℕ → Visited
visited_by a r c partitions None = skipped r c
visited_by a r c partitions (Some fetch) =
    fetching_by (combines_partitions c.kind) (passes_limits a c.kind c.parameter) (takes_fetch a c.kind c.parameter) a r c partitions fetch

-- a visit of a node that is no limit and has so many partitions
abbrev pub visited : Answers → GlobalRequirements → Cell → ℕ → Visited
visited a r c partitions = let own = past_fetch r c.fetch in visited_by a own c partitions own.fetch

-- a node under a new limit is visited again, with what the first visit handed on
abbrev pub again_by : Answers → ℕ → Visited → Option Cell → List Cell × GlobalRequirements
again_by a partitions first None = (first.node ∷ [], first.next)
again_by a partitions first (Some limit) =
    let second = visited a first.next first.node partitions in
    (limit ∷ option_to_list second.above ++ second.node ∷ [], second.next)

-- the cells in a node's place, and what is pending below
abbrev pub settled : Answers → GlobalRequirements → Cell → ℕ → List Cell × GlobalRequirements
settled a r c partitions = let first = visited a r c partitions in again_by a partitions first first.above

-- a limit, which has one child, is taken out, and any other node is visited
abbrev pub step_by : (limit : Bool) → Answers → GlobalRequirements → Cell → List Fact → List Cell × GlobalRequirements
step_by true a r c below = ([], past_limit r c (head_fact below))
step_by false a r c below = settled a r c (fact_of a c below).partitions

-- the cells in a cell's place, and what is pending below; behind it stand subtrees with these facts
abbrev pub step : Answers → GlobalRequirements → Cell → List Fact → List Cell × GlobalRequirements
step a r c below = step_by (is_limit c.kind) a r c below

-- what sink leaves of the cells, with one requirement for each subtree still to come: each child gets a copy
unfoldable pub sunk : Answers → List GlobalRequirements → List Cell → List Cell
sunk a rs [] = []
sunk a [] (c ∷ cs) = []
sunk a (r ∷ rs) (c ∷ cs) =
    let done = step a r c (facts a cs) in
    done.0 ++ sunk a (replicate c.children done.1 ++ rs) cs

-- what sink makes of a plan
abbrev pub sunk_plan : Answers → List Cell → List Cell
sunk_plan a cells = sunk a (at_first ∷ []) cells

-- the total of fetch and skip, while a fetch is pending
abbrev pub total_of : GlobalRequirements → Option ℕ → Option ℕ
total_of r None = None
total_of r (Some fetch) = Some (fetch + r.skip)

-- the sum that a visit forms, if it forms one
abbrev pub visit_sum : GlobalRequirements → Cell → Option ℕ
visit_sum r c = let own = past_fetch r c.fetch in total_of own own.fetch

-- of the skips at a limit, else what the visit forms: a second visit forms no larger sum than the first, so it is left out
abbrev pub sink_sum_by : (limit : Bool) → GlobalRequirements → Cell → Option ℕ
sink_sum_by true r c = Some (combined r.skip r.fetch c.skip c.fetch).0
sink_sum_by false r c = visit_sum r c

-- the sum that is formed at a cell, if one is
abbrev pub sink_sum : GlobalRequirements → Cell → Option ℕ
sink_sum r c = sink_sum_by (is_limit c.kind) r c

-- from requirements and a place on, the first cell at which a sum that is too large is formed is refused, at its place
unfoldable pub sink_sums_from : Answers → List GlobalRequirements → ℕ → List Cell → Result (Unit {0}) Fault
sink_sums_from a rs at [] = Ok tt
sink_sums_from a [] at (c ∷ cs) = Ok tt
sink_sums_from a (r ∷ rs) at (c ∷ cs) =
    cond (too_large (sink_sum r c)) (refused_at Sum at) (sink_sums_from a (replicate c.children (step a r c (facts a cs)).1 ++ rs) (at + 1) cs)

-- the first such cell of a plan
abbrev pub sink_sums : Answers → List Cell → Result (Unit {0}) Fault
sink_sums a cells = sink_sums_from a (at_first ∷ []) 0 cells
