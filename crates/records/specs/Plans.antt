-- Packed plans: the records of a plan's cells one after another, and what is refused. Assumes nothing.
use Rattle.std.specs.Prelude.{ℕ, ◌+◌, ◌*◌, ◌/◌, ◌%◌, Bool, cond, not, ◌&&◌, ◌||◌, List, [], ◌∷◌, ◌++◌, map, length, is_some, Ok, Result, ◌==◌, nat_le, nat_lt}
use Rattle.std.specs.Option.{unwrap_or}
use Rattle.std.specs.Simd.{first_chunks}
use Rattle.plan.specs.declared.cells.Cell.{Cell}
use Rattle.plan.specs.declared.refusals.Fault.{Fault}
use Rattle.plan.specs.declared.refusals.Refusal.{Refusal}
use Rattle.plan.specs.declared.refusals.Refusal.TheVariants.{Packed, Room, Fit, Fields}
use Rattle.plan.specs.Numbers.{max_number, max_children, max_parameter}
use Rattle.plan.specs.Refusals.{refused_at, then}
use Rattle.records.specs.Record.{record_size, packed, values_in, cell_of, sound}

-- the bytes of a plan
abbrev pub packed_plan : List Cell → List ℕ
packed_plan [] = []
packed_plan (c ∷ cs) = packed c ++ packed_plan cs

-- the first so many records of a packed plan
abbrev pub records : ℕ → List ℕ → List (List ℕ)
records n bytes = first_chunks record_size n bytes

-- the values of the fields of each record of a packed plan
abbrev pub plan_values : List ℕ → List (List ℕ)
plan_values bytes = map values_in (records (length bytes / record_size) bytes)

-- child count and parameter fit their fields
abbrev pub fits : Cell → Bool
fits c = nat_le c.children max_children && nat_le c.parameter max_parameter

-- the numbers fit their fields, and a hint stands beside no skip
abbrev pub in_range : Cell → Bool
in_range c =
    nat_le (unwrap_or c.fetch 0) max_number && nat_le (unwrap_or c.hint 0) max_number && nat_le c.skip max_number
    && (not (is_some c.hint) || c.skip == 0)

-- refused at the first that fails the test, counted from a place
abbrev pub all_pass : {A : Type 0} → Refusal → (A → Bool) → ℕ → List A → Result (Unit {0}) Fault
all_pass refusal test place [] = Ok tt
all_pass refusal test place (x ∷ xs) = cond (test x) (all_pass refusal test (place + 1) xs) (refused_at refusal place)

-- a plan packed into so many bytes
abbrev pub packing : List Cell → ℕ → Result (List ℕ) Fault
packing cells room =
    cond (nat_lt room (record_size * length cells)) (refused_at Room 0)
    (then (all_pass Fit fits 0 cells) (λ _. then (all_pass Fields in_range 0 cells) (λ _. Ok (packed_plan cells))))

-- packed bytes unpacked into a table of so many cells
abbrev pub unpacking : List ℕ → ℕ → Result (List Cell) Fault
unpacking bytes room =
    cond (not (length bytes % record_size == 0)) (refused_at Packed 0)
    (then (all_pass Packed sound 0 (plan_values bytes)) (λ _. cond (nat_lt room (length bytes / record_size)) (refused_at Room 0) (Ok (map cell_of (plan_values bytes)))))
