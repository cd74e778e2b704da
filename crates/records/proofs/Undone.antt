-- Packing and unpacking undo each other: for a cell and its record, then for a plan and its bytes.
use Rattle.std.proofs.Common.{◌≡◌, ℕ, zero, suc, ◌*◌, ◌/◌, ◌%◌, ◌<◌, Bool, true, List, [], ◌∷◌, ◌++◌, map, length, take, drop, Ok, refl, sym, ap, ◌∙◌, arith, le-ltb, eq-eqb}
use mathlib.Core.List.{map-map}
use Rattle.std.specs.List.{AllByRecursion}
use Rattle.std.proofs.ByRecursion.{All-take, All-drop}
use Rattle.std.proofs.lemmas.Bool.Decides.{nat_tests}
use Rattle.std.proofs.lemmas.List.{length-take, length-drop, take-append-drop, nil_from_length}
use Rattle.plan.specs.declared.cells.Cell.{Cell}
use Rattle.plan.specs.declared.refusals.Refusal.{Refusal}
use Rattle.plan.specs.declared.refusals.Refusal.TheVariants.{Packed, Fit, Fields}
use Rattle.records.specs.Fields.{joined, cut}
use Rattle.records.specs.Record.{record_size, layout, octets, values_of, cell_of, sound, packed, values_in}
use Rattle.records.specs.Plans.{packed_plan, records, plan_values, fits, in_range, all_pass, packing, unpacking}
use Rattle.records.proofs.Widths.{Below, through}
use Rattle.records.proofs.Passes.{passed, pass_map}
use Rattle.records.proofs.Chunks.{length_packed, length_cells}

-- a cell through its record

cell_forth : (c : Cell) → in_range c ≡ true → cell_of (values_of c) ≡ c
cell_forth c h = grind (arith, nat_tests)

sound_forth : (c : Cell) → sound (values_of c) ≡ true
sound_forth c = grind (arith, nat_tests)

values_forth : (c : Cell) → c.kind < 256 → fits c ≡ true → in_range c ≡ true → values_in (packed c) ≡ values_of c
values_forth c k f h = through layout (octets record_size) (values_of c) refl (grind (arith, nat_tests))

-- a record through its cell

values_back : (n : ℕ) → sound (cut layout n) ≡ true → values_of (cell_of (cut layout n)) ≡ cut layout n
values_back n h = grind (arith, nat_tests)

fits_back : (n : ℕ) → fits (cell_of (cut layout n)) ≡ true
fits_back n = grind (arith, nat_tests)

range_back : (n : ℕ) → in_range (cell_of (cut layout n)) ≡ true
range_back n = grind (arith, nat_tests)

below_octets : (size : ℕ) (bs : List ℕ) → length bs ≡ size → AllByRecursion (λ b. b < 256) bs → Below (octets size) bs
below_octets zero [] e h = tt
below_octets zero (b ∷ bs) e h = absurd (omega arith)
below_octets (suc k) [] e h = absurd (omega arith)
below_octets (suc k) (b ∷ bs) e h = (h.0, below_octets k bs (omega arith) h.1)

record_back : (r : List ℕ) → length r ≡ record_size → AllByRecursion (λ b. b < 256) r → sound (values_in r) ≡ true → packed (cell_of (values_in r)) ≡ r
record_back r e small s =
    ap (λ (vs : List ℕ). cut (octets record_size) (joined layout vs)) (values_back (joined (octets record_size) r) s)
    ∙ through (octets record_size) layout r refl (below_octets record_size r e small)

-- a plan through its bytes

plan_values_forth : (cs : List Cell) → AllByRecursion (λ c. c.kind < 256) cs → AllByRecursion (λ c. fits c ≡ true) cs → AllByRecursion (λ c. in_range c ≡ true) cs
    → map values_in (records (length cs) (packed_plan cs)) ≡ map values_of cs
plan_values_forth [] k f h = refl
plan_values_forth (c ∷ cs) k f h = rw (values_forth c k.0 f.0 h.0, plan_values_forth cs k.1 f.1 h.1)

cells_forth : (cs : List Cell) → AllByRecursion (λ c. in_range c ≡ true) cs → map cell_of (map values_of cs) ≡ cs
cells_forth [] h = refl
cells_forth (c ∷ cs) h = rw (cell_forth c h.0, cells_forth cs h.1)

pub plan_forth : (cs : List Cell) → AllByRecursion (λ c. c.kind < 256) cs → all_pass Fit fits 0 cs ≡ Ok tt → all_pass Fields in_range 0 cs ≡ Ok tt → unpacking (packed_plan cs) (length cs) ≡ Ok cs
plan_forth cs k f h =
    let n = length (packed_plan cs) in
    let l = length_packed cs in
    let count : n / record_size ≡ length cs = omega arith in
    let ranged = passed Fields in_range 0 cs h in
    let values : plan_values (packed_plan cs) ≡ map values_of cs = rw count (plan_values_forth cs k (passed Fit fits 0 cs f) ranged) in
    rw (eq-eqb (n % record_size) 0 (omega arith), values, pass_map Packed sound values_of sound_forth 0 cs, le-ltb (length cs) (n / record_size) (omega arith), cells_forth cs ranged)

-- bytes through their plan

bytes_back : (n : ℕ) (bs : List ℕ) → length bs ≡ record_size * n → AllByRecursion (λ b. b < 256) bs → AllByRecursion (λ vs. sound vs ≡ true) (map values_in (records n bs))
    → packed_plan (map cell_of (map values_in (records n bs))) ≡ bs
bytes_back zero bs e small s = sym (nil_from_length bs (omega arith))
bytes_back (suc n) bs e small s =
    let front = take record_size bs in
    let rest = drop record_size bs in
    let here = record_back front (omega (arith, length-take record_size bs)) (All-take (λ b. b < 256) record_size bs small) s.0 in
    let more = bytes_back n rest (omega (arith, length-drop record_size bs)) (All-drop (λ b. b < 256) record_size bs small) s.1 in
    ap (λ (t : List ℕ). t ++ packed_plan (map cell_of (map values_in (records n rest)))) here ∙ ap (λ (t : List ℕ). front ++ t) more ∙ take-append-drop record_size bs

-- what was read fits, whatever it was
pass_cells : (r : Refusal) (test : Cell → Bool) → ((n : ℕ) → test (cell_of (cut layout n)) ≡ true) → (rs : List (List ℕ)) → all_pass r test 0 (map cell_of (map values_in rs)) ≡ Ok tt
pass_cells r test h rs =
    ap (all_pass r test 0) (map-map cell_of values_in rs) ∙ pass_map r test (λ (b : List ℕ). cell_of (values_in b)) (λ (b : List ℕ). h (joined (octets record_size) b)) 0 rs

pub plan_back : (bs : List ℕ) → length bs % record_size ≡ 0 → AllByRecursion (λ b. b < 256) bs → all_pass Packed sound 0 (plan_values bs) ≡ Ok tt → packing (map cell_of (plan_values bs)) (length bs) ≡ Ok bs
plan_back bs e small s =
    let n = length bs / record_size in
    let l = length_cells bs in
    rw (
      le-ltb (length bs) (record_size * length (map cell_of (plan_values bs))) (omega arith),
      pass_cells Fit fits fits_back (records n bs),
      pass_cells Fields in_range range_back (records n bs),
      bytes_back n bs (omega arith) small (passed Packed sound 0 (plan_values bs) s),
    )
