-- Every cell that sink leaves fits, and its fields stand where they may. Assumes nothing.
use Rattle.std.proofs.Common.{◌≡◌, ℕ, ◌<◌, ◌≤◌, Bool, true, false, List, [], ◌∷◌, ◌++◌, replicate, Option, sym, refl, subst, arith}
use Rattle.std.specs.Option.{option_to_list}
use Rattle.std.specs.List.{AllByRecursion}
use Rattle.std.proofs.ByRecursion.{All-append}
use Rattle.std.proofs.lemmas.Bool.Decides.{nat_tests}
use Rattle.plan.specs.declared.cells.Cell.{Cell}
use Rattle.plan.specs.Kinds.{is_limit}
use Rattle.operators.specs.Answers.{Answers}
use Rattle.operators.specs.Questions.{takes_fetch}
use Rattle.checks.specs.Cells.{fit_cell, placed_cell, taken_cell}
use Rattle.checks.specs.Facts.{head_fact, fact_of, facts}
use Rattle.rows.proofs.Passed.{Fit}
use Rattle.sinks.specs.declared.requirements.GlobalRequirements.{GlobalRequirements}
use Rattle.sinks.specs.Sink.{new_global, new_local, past_limit, visited, sunk}
use Rattle.sinks.proofs.Visiting.{renewed, mark_taken, visited_above, visited_node, sunk_limit, sunk_node}

-- what holds of the new limits, and of each node that stands in a node's place, holds of all new cells
module _ (a : Answers) (T U : Cell → Type 0) (global : (s : ℕ) (f : Option ℕ) → T (new_global s f)) (local : (n : ℕ) → T (new_local n)) (same : (c : Cell) → U c → T c)
    (other : (c : Cell) → U c → (n : ℕ) (b : Bool) → takes_fetch a c.kind c.parameter ≡ true → (mark_taken a c c.mark → mark_taken a c b) → T (renewed c n b)) where
  node_each : (r : GlobalRequirements) (rs : List GlobalRequirements) (c : Cell) (cs : List Cell) → U c → ((qs : List GlobalRequirements) → AllByRecursion T (sunk a qs cs)) → AllByRecursion T (sunk a (r ∷ rs) (c ∷ cs))
  node_each r rs c cs u ih = go (is_limit c.kind) refl
    where
      go : (b : Bool) → is_limit c.kind ≡ b → AllByRecursion T (sunk a (r ∷ rs) (c ∷ cs))
      go true e = subst (AllByRecursion T) (sym (sunk_limit a r rs c cs e)) (ih (replicate c.children (past_limit r c (head_fact (facts a cs))) ++ rs))
      go false e =
          let P = (fact_of a c (facts a cs)).partitions in
          let v = visited a r c P in
          let rest = sunk a (replicate c.children v.next ++ rs) cs in
          subst (AllByRecursion T) (sym (sunk_node a r rs c cs e))
          (All-append T (option_to_list v.above) (v.node ∷ rest) (visited_above T global local a r c P) (visited_node a c T (same c u) (other c u) r P, ih (replicate c.children v.next ++ rs)))

  sunk_each : (cs : List Cell) (rs : List GlobalRequirements) → AllByRecursion U cs → AllByRecursion T (sunk a rs cs)
  unfolding sunk
  sunk_each [] rs h = tt
  sunk_each (c ∷ cs) [] h = tt
  sunk_each (c ∷ cs) (r ∷ rs) h = node_each r rs c cs h.0 (λ qs. sunk_each cs qs h.1)

module _ (a : Answers) where
  pub sunk_fit : (cs : List Cell) (rs : List GlobalRequirements) → Fit a cs → Fit a (sunk a rs cs)
  sunk_fit = sunk_each a (λ c. fit_cell a c ≡ true) (λ c. fit_cell a c ≡ true) (λ s f. refl) (λ n. refl) (λ c u. u) (λ c u n b k e. u)

  -- new limits have small kinds too
  pub sunk_kinds : (most : ℕ) → 4 ≤ most → (cs : List Cell) (rs : List GlobalRequirements) → AllByRecursion (λ c. c.kind < most) cs → AllByRecursion (λ c. c.kind < most) (sunk a rs cs)
  sunk_kinds most m = sunk_each a (λ c. c.kind < most) (λ c. c.kind < most) (λ s f. omega arith) (λ n. omega arith) (λ c u. u) (λ c u n b k e. u)

  -- a skip, a fetch, a hint and a mark stand where they may
  abbrev pub Stands : Cell → Type 0
  Stands c = (placed_cell c ≡ true) × (taken_cell a c ≡ true)

  global_stands : (s : ℕ) (f : Option ℕ) → Stands (new_global s f)
  global_stands s f = (grind (arith, nat_tests), grind (arith, nat_tests))

  other_stands : (c : Cell) → Stands c → (n : ℕ) (b : Bool) → takes_fetch a c.kind c.parameter ≡ true → (mark_taken a c c.mark → mark_taken a c b) → Stands (renewed c n b)
  other_stands c u n b k e =
      let placed = u.0 in
      let taken = u.1 in
      let marked : mark_taken a c b = e (grind (arith, nat_tests)) in
      (grind (arith, nat_tests), grind (arith, nat_tests))

  pub sunk_stands : (cs : List Cell) (rs : List GlobalRequirements) → AllByRecursion Stands cs → AllByRecursion Stands (sunk a rs cs)
  sunk_stands = sunk_each a Stands Stands global_stands (λ n. (refl, refl)) (λ c u. u) other_stands
