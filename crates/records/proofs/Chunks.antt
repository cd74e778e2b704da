-- The records of a packed plan, one by one.
use Rattle.std.proofs.Common.{◌≡◌, ℕ, zero, suc, ◌+◌, ◌-◌, ◌*◌, ◌/◌, ◌<◌, ◌≤◌, List, [], ◌∷◌, ◌++◌, map, length, get_or, take, drop, sym, refl, ap, ◌∙◌, arith}
use borrow.Rule.Slice.PartMut.{put_mid}
use Rattle.std.proofs.lemmas.Slice.{take-put_mid, drop-put_mid}
use Rattle.std.proofs.lemmas.List.{length-map, length-append, append-nil, drop-drop, take_more, append_assoc}
use Rattle.plan.specs.declared.cells.Cell.{Cell}
use Rattle.plan.specs.Cells.{blank}
use Rattle.records.specs.Record.{record_size, packed, values_in, cell_of}
use Rattle.records.specs.Plans.{packed_plan, records, plan_values}

pub length_records : (n : ℕ) (bs : List ℕ) → length (records n bs) ≡ n
length_records zero bs = refl
length_records (suc n) bs = ap suc (length_records n (drop record_size bs))

pub length_values : (bs : List ℕ) → length (plan_values bs) ≡ length bs / record_size
length_values bs = length-map (records (length bs / record_size) bs) values_in ∙ length_records (length bs / record_size) bs

-- as many cells are read as there are records
pub length_cells : (bs : List ℕ) → length (map cell_of (plan_values bs)) ≡ length bs / record_size
length_cells bs = length-map (plan_values bs) cell_of ∙ length_values bs

pub length_packed : (cs : List Cell) → length (packed_plan cs) ≡ record_size * length cs
length_packed [] = refl
length_packed (c ∷ cs) = omega (arith, length-append (packed c) (packed_plan cs), length_packed cs)

packed_append : (xs ys : List Cell) → packed_plan (xs ++ ys) ≡ packed_plan xs ++ packed_plan ys
packed_append [] ys = refl
packed_append (x ∷ xs) ys = ap (λ (t : List ℕ). packed x ++ t) (packed_append xs ys) ∙ sym (append_assoc (packed x) (packed_plan xs) (packed_plan ys))

packed_more : (cs : List Cell) (i : ℕ) → i < length cs → packed_plan (take (i + 1) cs) ≡ packed_plan (take i cs) ++ packed (get_or cs i blank)
packed_more cs i h =
    ap packed_plan (take_more cs i blank h) ∙ packed_append (take i cs) (get_or cs i blank ∷ [])
    ∙ ap (λ (t : List ℕ). packed_plan (take i cs) ++ t) (append-nil (packed (get_or cs i blank)))

-- one more record written behind those before it
pub write_more : (cs : List Cell) (old out r : List ℕ) (i : ℕ) → i < length cs → record_size * i + record_size ≤ length out → r ≡ packed (get_or cs i blank)
    → take (record_size * i) out ≡ packed_plan (take i cs) → drop (record_size * i) out ≡ drop (record_size * i) old
    → let now = put_mid (record_size * i) (record_size * i + record_size - record_size * i) out r in
    (take (record_size * (i + 1)) now ≡ packed_plan (take (i + 1) cs)) × (drop (record_size * (i + 1)) now ≡ drop (record_size * (i + 1)) old)
write_more cs old out r i h k is front rest =
    let at = record_size * i in
    let end : at + record_size ≡ record_size * (i + 1) = omega arith in
    let size : length r ≡ record_size = ap length is in
    let past : (xs : List ℕ) → drop (record_size * (i + 1)) xs ≡ drop record_size (drop at xs) = λ xs. ap (λ (n : ℕ). drop n xs) (sym end) ∙ sym (drop-drop record_size at xs) in (
      take-put_mid at (at + record_size - at) out r (record_size * (i + 1)) (omega arith) (omega arith) ∙ rw (front, is) (sym (packed_more cs i h)),
      drop-put_mid at (at + record_size - at) out r (record_size * (i + 1)) (omega arith) (omega arith) (omega arith) ∙ past out ∙ ap (drop record_size) rest ∙ sym (past old),
    )
