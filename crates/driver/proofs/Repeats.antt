-- The plan that calls are repeated on. Assumes nothing.
use Rattle.std.proofs.Common.{◌≡◌, ℕ, ◌+◌, ◌-◌, ◌*◌, ◌≤◌, Bool, cond, List, ◌++◌, length, take, replicate, Ok, Result, sym, ap, ◌∙◌, arith, le-ltb}
use Rattle.std.proofs.Math.Seq.{take-append-add}
use Rattle.std.proofs.lemmas.List.{take-replicate}
use Rattle.plan.specs.declared.cells.Cell.{Cell}
use Rattle.plan.specs.declared.refusals.Fault.{Fault}
use Rattle.plan.specs.declared.refusals.Refusal.TheVariants.{Count}
use Rattle.plan.specs.Cells.{blank}
use Rattle.plan.specs.Numbers.{max_nodes}
use Rattle.plan.specs.Refusals.{refused_at, then}
use Rattle.plan.specs.Tables.{counted, laid}
use Rattle.records.specs.Plans.{unpacking}
use Rattle.limits.specs.declared.rules.Rule.{Rule}
use Rattle.limits.specs.Calls.{lent_of}
use Rattle.packed_calls.proofs.Conversion.{granted_back}
use Rattle.driver.specs.Repeating.{repeated, table_of, repeated_on}

-- the front of a table that a plan was unpacked into: the plan, and as many blank cells
pub repeated_plan : (times : ℕ) (rule : Rule) (bytes : List ℕ) (before saved : List Cell) (count : ℕ) → length before ≡ 2 * max_nodes → Ok count ≡ counted (unpacking bytes (length before))
    → saved ≡ laid blank (unpacking bytes (length before)) before → count ≤ max_nodes → repeated times rule (take (2 * count) saved) count (lent_of (2 * count) count count) ≡ then (unpacking bytes (2 * max_nodes)) (repeated_on times rule)
repeated_plan times rule bytes before saved count long u s few =
    let grant = granted_back (unpacking bytes (length before)) count u in
    let cells = grant.0 in
    let n : count ≡ length cells = grant.2 in
    let room = length before - length cells in
    let laid_out : saved ≡ cells ++ replicate room blank = s ∙ ap (λ (x : Result (List Cell) Fault). laid blank x before) grant.1 in
    let twice : 2 * count ≡ length cells + length cells = omega arith in
    let whole : take (2 * count) saved ≡ table_of cells = (λ i. take (twice i) (laid_out i)) ∙ take-append-add cells (replicate room blank) (length cells) ∙ ap (λ (t : List Cell). cells ++ t) (take-replicate (length cells) room blank (omega arith)) in
    let there : unpacking bytes (2 * max_nodes) ≡ Ok cells = ap (unpacking bytes) (sym long) ∙ grant.1 in
    (λ i. repeated times rule (whole i) (n i) (lent_of (2 * n i) (n i) (n i)))
    ∙ sym (ap (λ (b : Bool). cond b (refused_at Count 0) (repeated times rule (table_of cells) (length cells) (lent_of (2 * length cells) (length cells) (length cells)))) (le-ltb max_nodes (length cells) (omega arith)))
    ∙ sym (ap (λ (x : Result (List Cell) Fault). then x (repeated_on times rule)) there)
