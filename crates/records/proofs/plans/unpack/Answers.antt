use Rattle.std.proofs.Common.{◌≡◌, ℕ, ◌-◌, ◌/◌, ◌%◌, ◌<◌, List, ◌++◌, map, length, take, drop, replicate, Ok, Result, sym, ap, ◌∙◌, arith, le-ltb, eq-eqb, eqb-true}
use Rattle.std.specs.List.{AllByRecursion}
use Rattle.std.proofs.ByRecursion.{All-from_get_or}
use Rattle.std.proofs.lemmas.List.{take_at, drop-replicate}
use Rattle.plan.specs.declared.cells.Cell.{Cell}
use Rattle.plan.specs.declared.refusals.Fault.{Fault}
use Rattle.plan.specs.declared.refusals.Refusal.TheVariants.{Packed}
use Rattle.plan.specs.Cells.{blank}
use Rattle.records.specs.Record.{record_size, cell_of, sound}
use Rattle.records.specs.Plans.{plan_values, all_pass, packing, unpacking}
use Rattle.plan.specs.Tables.{counted, laid}
use Rattle.records.proofs.Passes.{pass_through}
use Rattle.records.proofs.Chunks.{length_cells}
use Rattle.records.proofs.Undone.{plan_back}
use Rattle.records.proofs.plans.unpack.Goals as goal

pub returns : goal.returns
returns c =
    let bs = c.args.bytes.now in
    let old = c.args.table.now in
    let n = length bs / record_size in
    let cells = map cell_of (plan_values bs) in
    let rest = replicate (length old - length cells) blank in
    let size : length cells ≡ length c.as_chunks.result.0.now = length_cells bs ∙ sym c.as_chunks.ensures.front_len in
    let none : length c.as_chunks.result.1.now ≡ 0 = eqb-true _ 0 (sym c.is_empty.ensures ∙ c.if-not-is_empty.false) in
    let whole : length bs % record_size ≡ 0 = omega arith in
    let sound_all : all_pass Packed sound 0 (plan_values bs) ≡ Ok tt = grind (arith, pass_through) in
    let granted : unpacking bs (length old) ≡ Ok cells = rw (eq-eqb (length bs % record_size) 0 whole, sound_all, le-ltb (length old) n (omega arith)) in
    let blanks : c.fill.new.self ≡ replicate (length old) blank = c.fill.ensures.after (λ y e. e) in
    let behind : drop (length c.as_chunks.result.0.now) c.fill.new.self ≡ rest = rw (blanks, size) (drop-replicate _ (length old) blank) in
    let table : c.read_plan.new.table ≡ cells ++ rest = cc (c.read_plan.ensures, behind, c.as_chunks.ensures.front) in
    let front : take (length c.as_chunks.result.0.now) c.read_plan.new.table ≡ cells = rw table (take_at cells rest _ size) in
    let small : AllByRecursion (λ b. b < 256) bs = All-from_get_or (λ b. b < 256) bs 0 (λ k h. omega (arith, c.type_inv.bytes k)) in
    record {
      answer = sym (ap counted granted ∙ ap (λ (k : ℕ). Ok k) size);
      cells = table ∙ sym (ap (λ (r : Result (List Cell) Fault). laid blank r old) granted);
      undone = ap (λ (t : List Cell). packing t (length bs)) front ∙ plan_back bs whole small sound_all;
    }
