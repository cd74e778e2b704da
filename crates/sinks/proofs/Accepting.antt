-- Sink keeps an accepted plan accepted, if no sum is too large. Assumes nothing.
use Rattle.std.proofs.Common.{◌≡◌, true, List, [], ◌∷◌, Ok, arith}
use Rattle.std.specs.List.{AllByRecursion}
use Rattle.std.proofs.lemmas.Bool.Decides.{nat_tests}
use Rattle.plan.specs.declared.cells.Cell.{Cell}
use Rattle.operators.specs.Answers.{Answers}
use Rattle.checks.specs.Cells.{small_cell, placed_cell, fields_cell}
use Rattle.checks.specs.Accepts.{Accepted}
use Rattle.rows.specs.Laws.{StillAccepted}
use Rattle.rows.proofs.Passed.{Fields, Passed, passed, accepted}
use Rattle.sinks.specs.Sink.{at_first, sunk_plan, sink_sums}
use Rattle.sinks.specs.Laws.{AnswerRules}
use Rattle.sinks.proofs.Sinking.{sunk_trees}
use Rattle.sinks.proofs.Settling.{Stands, sunk_fit, sunk_stands}
use Rattle.sinks.proofs.Counting.{sunk_counts}
use Rattle.sinks.proofs.Bearing.{sunk_hints}
use Rattle.sinks.proofs.Small.{sunk_small}

all_weaker : (T U : Cell → Type 0) → ((c : Cell) → T c → U c) → (cs : List Cell) → AllByRecursion T cs → AllByRecursion U cs
all_weaker T U e [] h = tt
all_weaker T U e (c ∷ cs) h = (e c h.0, all_weaker T U e cs h.1)

module _ (a : Answers) where
  small_part : (c : Cell) → fields_cell a c ≡ true → small_cell c ≡ true
  small_part c h = grind (arith, nat_tests)

  stands_part : (c : Cell) → fields_cell a c ≡ true → Stands a c
  stands_part c h = (grind (arith, nat_tests), grind (arith, nat_tests))

  fields_from : (cs : List Cell) → AllByRecursion (λ c. small_cell c ≡ true) cs → AllByRecursion (Stands a) cs → Fields a cs
  fields_from [] s t = tt
  fields_from (c ∷ cs) s t =
      let small = s.0 in
      let placed = t.0.0 in
      let taken = t.0.1 in
      (grind (arith, nat_tests), fields_from cs s.1 t.1)

  -- the numbers stay small, and each where it may stand, under every set
  pub sunk_fields : (cs : List Cell) → Fields a cs → sink_sums a cs ≡ Ok tt → Fields a (sunk_plan a cs)
  sunk_fields cs fields sums =
      fields_from (sunk_plan a cs) (sunk_small a cs (all_weaker (λ c. fields_cell a c ≡ true) (λ c. small_cell c ≡ true) small_part cs fields) sums)
      (sunk_stands a cs (at_first ∷ []) (all_weaker (λ c. fields_cell a c ≡ true) (Stands a) stands_part cs fields))

  pub sunk_accepted : AnswerRules a → (cs : List Cell) → Accepted a cs → sink_sums a cs ≡ Ok tt → StillAccepted a cs (sunk_plan a cs)
  sunk_accepted shown cs h sums =
      let first = at_first ∷ [] in
      let p = passed a cs h in
      let stands = all_weaker (λ c. fields_cell a c ≡ true) (Stands a) stands_part cs p.fields in
      let counts = sunk_counts a shown cs p.tree p.fit (all_weaker (Stands a) (λ c. placed_cell c ≡ true) (λ c t. t.0) cs stands) p.counts in
      let passes : Passed a (sunk_plan a cs) = record {
        tree = sunk_trees a cs first p.tree p.fit;
        fit = sunk_fit a cs first p.fit;
        fields = sunk_fields cs p.fields sums;
        counts = counts.0;
        hints = sunk_hints a cs p.fit p.fields p.hints;
      } in
      record { accepted = accepted a (sunk_plan a cs) passes; partitions = counts.1 }
