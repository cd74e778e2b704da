-- One turn of sink's walk. Assumes nothing.
use Rattle.std.proofs.Common.{◌≡◌, ℕ, zero, suc, ◌+◌, ◌-◌, ◌<◌, ◌≤◌, Bool, true, false, cond, not, ◌&&◌, ltb, leb, List, [], ◌∷◌, ◌++◌, length, get_or, drop, replicate, Some, None, Option, refl, ap, subst, arith, ltb-false}
use Rattle.std.specs.Option.{option_to_list}
use Rattle.std.specs.List.{AllByRecursion}
use Rattle.std.proofs.lemmas.List.{length-append, length-replicate, length-drop}
use Rattle.std.proofs.lemmas.Bool.{and_parts, leb-true}
use Rattle.plan.specs.declared.cells.Cell.{Cell}
use Rattle.plan.specs.declared.refusals.Refusal.TheVariants.{Sum}
use Rattle.plan.specs.Cells.{blank}
use Rattle.plan.specs.Kinds.{is_limit}
use Rattle.plan.specs.Numbers.{max_number}
use Rattle.plan.specs.Refusals.{refused_at}
use Rattle.plan.specs.Stacks.{content, room}
use Rattle.plan.specs.declared.stacks.Stack.{Stack}
use Rattle.operators.specs.Answers.{Answers}
use Rattle.operators.specs.Questions.{passes_limits, takes_fetch}
use Rattle.checks.specs.declared.facts.Fact.{Fact}
use Rattle.checks.specs.Cells.{small, small_cell, placed_cell, taken_cell, fields_cell}
use Rattle.checks.specs.Facts.{head_fact, fact_of, facts}
use Rattle.checks.proofs.Walks.{cells_more}
use Rattle.rows.specs.Sums.{too_large}
use Rattle.rows.proofs.Passed.{Trees}
use Rattle.sinks.specs.declared.requirements.GlobalRequirements.{GlobalRequirements}
use Rattle.sinks.specs.Sink.{combined_fetch, past_fetch, onward, skipped_by, fetching_by, combines_partitions, visited_by, step_by, step, sunk, total_of, sink_sum_by, sink_sum, sink_sums_from}
use Rattle.sinks.proofs.Visiting.{visited_again}
use Rattle.limits.specs.declared.limit_pushdown.Stepped.{Stepped}
use Rattle.limits.specs.declared.pending.Pending.{Pending}
use Rattle.limits.specs.Pending.{spread, fetch_in_range, InRange, Live, stepped_by, stepped}

-- the cells that stand in a cell's place
abbrev pub cells_of : Stepped → List Cell
cells_of s = option_to_list s.above ++ option_to_list s.node

-- a node's own facts on the stack are those that the steps ask
module _ (a : Answers) where
  step_is_by : (b : Bool) (r : GlobalRequirements) (c : Cell) (fs : List Fact) → let s = stepped_by b a r c (fact_of a c fs).partitions (head_fact fs) in step_by b a r c fs ≡ (cells_of s, s.next)
  step_is_by true r c fs = refl
  step_is_by false r c fs = visited_again a (fact_of a c fs).partitions r c

  pub step_is : (r : GlobalRequirements) (c : Cell) (fs : List Fact) → let s = stepped a r c (fact_of a c fs).partitions (head_fact fs) in step a r c fs ≡ (cells_of s, s.next)
  step_is r c fs = step_is_by (is_limit c.kind) r c fs

  pub sunk_more : (r : GlobalRequirements) (rs : List GlobalRequirements) (c : Cell) (cs : List Cell) → let s = stepped a r c (fact_of a c (facts a cs)).partitions (head_fact (facts a cs)) in
      sunk a (r ∷ rs) (c ∷ cs) ≡ cells_of s ++ sunk a (replicate c.children s.next ++ rs) cs
  unfolding sunk
  sunk_more r rs c cs = ap (λ (d : List Cell × GlobalRequirements). d.0 ++ sunk a (replicate c.children d.1 ++ rs) cs) (step_is r c (facts a cs))

  pub sums_more : (r : GlobalRequirements) (rs : List GlobalRequirements) (at : ℕ) (c : Cell) (cs : List Cell) → let s = stepped a r c (fact_of a c (facts a cs)).partitions (head_fact (facts a cs)) in
      sink_sums_from a (r ∷ rs) at (c ∷ cs) ≡ cond (too_large (sink_sum r c)) (refused_at Sum at) (sink_sums_from a (replicate c.children s.next ++ rs) (at + 1) cs)
  unfolding sink_sums_from
  sums_more r rs at c cs = ap (λ (d : List Cell × GlobalRequirements). cond (too_large (sink_sum r c)) (refused_at Sum at) (sink_sums_from a (replicate c.children d.1 ++ rs) (at + 1) cs)) (step_is r c (facts a cs))

-- numbers stay in range as long as no sum is too large
range_combined : (s : ℕ) (f g : Option ℕ) → fetch_in_range f → fetch_in_range g → fetch_in_range (combined_fetch s f g)
range_combined s None None p q = tt
range_combined s None (Some g) p q = omega arith
range_combined s (Some f) None p q = p
range_combined s (Some f) (Some g) p q = omega arith

range_own : (r : GlobalRequirements) (o : Option ℕ) → InRange r → fetch_in_range o → InRange (past_fetch r o)
range_own r None h q = h
range_own r (Some f) h q = (let z = h.0 in omega arith, range_combined r.skip r.fetch (Some f) h.1 q)

range_onward_by : (b : Bool) (skip : ℕ) → skip ≤ max_number → cond b 0 skip ≤ max_number
range_onward_by true skip h = omega arith
range_onward_by false skip h = h

range_onward : (r : GlobalRequirements) → InRange r → InRange (onward r)
range_onward r h = (range_onward_by r.satisfied r.skip h.0, h.1)

range_skipped : (b : Bool) (r : GlobalRequirements) (c : Cell) → InRange r → InRange (skipped_by b r c).next
range_skipped true r c h = (omega arith, tt)
range_skipped false r c h = range_onward r h

range_fetching : (combines passes fetches : Bool) (a : Answers) (r : GlobalRequirements) (c : Cell) (partitions fetch : ℕ) → InRange r → fetch + r.skip ≤ max_number → InRange (fetching_by combines passes fetches a r c partitions fetch).next
range_fetching true passes fetches a r c partitions fetch h t = (omega arith, t)
range_fetching false true fetches a r c partitions fetch h t = range_onward r h
range_fetching false false true a r c partitions fetch h t = (omega arith, tt)
range_fetching false false false a r c partitions fetch h t = (omega arith, tt)

range_visited : (a : Answers) (r : GlobalRequirements) (c : Cell) (partitions : ℕ) (o : Option ℕ) → InRange r → too_large (total_of r o) ≡ false → InRange (visited_by a r c partitions o).next
range_visited a r c partitions None h t = range_skipped (ltb 0 r.skip && not r.satisfied) r c h
range_visited a r c partitions (Some n) h t =
    range_fetching (combines_partitions c.kind) (passes_limits a c.kind c.parameter) (takes_fetch a c.kind c.parameter) a r c partitions n h (ltb-false max_number (n + r.skip) t)

range_stepped_by : (b : Bool) (a : Answers) (r : GlobalRequirements) (c : Cell) (partitions : ℕ) (child : Fact) → InRange r → fetch_in_range c.fetch → too_large (sink_sum_by b r c) ≡ false → InRange (stepped_by b a r c partitions child).next
range_stepped_by true a r c partitions child h q t = (ltb-false max_number (r.skip + c.skip) t, range_combined r.skip r.fetch c.fetch h.1 q)
range_stepped_by false a r c partitions child h q t = let own = past_fetch r c.fetch in range_visited a own c partitions own.fetch (range_own r c.fetch h q) t

pub range_stepped : (a : Answers) (r : GlobalRequirements) (c : Cell) (partitions : ℕ) (child : Fact) → InRange r → fetch_in_range c.fetch → too_large (sink_sum r c) ≡ false → InRange (stepped a r c partitions child).next
range_stepped a r c partitions child h q t = range_stepped_by (is_limit c.kind) a r c partitions child h q t

small_fetch : (o : Option ℕ) → small o ≡ true → fetch_in_range o
small_fetch None e = tt
small_fetch (Some n) e = leb-true n max_number e

-- the fields of each cell are in range
pub fields_at : (a : Answers) (cells : List Cell) (i : ℕ) → AllByRecursion (λ c. fields_cell a c ≡ true) cells → i < length cells → ((get_or cells i blank).skip ≤ max_number) × fetch_in_range (get_or cells i blank).fetch
fields_at a [] i h l = absurd (omega arith)
fields_at a (c ∷ cs) zero h l =
    let fields = (and_parts (small_cell c && placed_cell c) (taken_cell a c) h.0).0 in
    let numbers = (and_parts (small_cell c) (placed_cell c) fields).0 in
    let parts = (and_parts (leb c.skip max_number && small c.fetch) (small c.hint) numbers).0 in
    let both = and_parts (leb c.skip max_number) (small c.fetch) parts in
    (leb-true c.skip max_number both.0, small_fetch c.fetch both.1)
fields_at a (c ∷ cs) (suc i) h l = let z : suc i < suc (length cs) = l in fields_at a cs i h.1 (omega arith)

-- of so many trees at least as many cells are left
pub trees_within : (cs : List Cell) (n : ℕ) → Trees n cs → n ≤ length cs
trees_within [] n t = let z = t in omega arith
trees_within (c ∷ cs) n t = let low = t.0 in let rest = trees_within cs (n - 1 + c.children) t.1 in omega arith

-- no entry stands for less than one subtree
pub spread_within : (ps : List Pending) → Live ps → length ps ≤ length (spread ps)
spread_within [] h = omega arith
spread_within (p ∷ ps) h =
    let here = h.0 in
    let rest = spread_within ps h.2 in
    let l = length-append (replicate p.subtrees p.requirement) (spread ps) in
    let m = length-replicate p.subtrees p.requirement in
    omega arith

pub spread_some : (ps : List Pending) → 0 < length (spread ps) → 0 < length ps
spread_some [] h = absurd (omega arith)
spread_some (p ∷ ps) h = omega arith

-- what a stack holds and has room for is as much as its memory has
pub room_left : (s : Stack Pending) → room s + length (content s) ≡ length s.items.now
room_left s = let l = length-drop s.top s.items.now in omega arith

pub trees_next : (cells : List Cell) (i n : ℕ) → i < length cells → Trees n (drop i cells) → (0 < n) × Trees (n - 1 + (get_or cells i blank).children) (drop (i + 1) cells)
trees_next cells i n h t = subst (Trees n) (cells_more cells i h) t
