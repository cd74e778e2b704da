-- Refusals by number, and faults. Assumes nothing.
use Rattle.std.specs.Prelude.{ℕ, List, ◌++◌, Ok, Err, Result, codes, decimal}
use Rattle.plan.specs.declared.refusals.Refusal.{Refusal}
use Rattle.plan.specs.declared.refusals.Refusal.TheVariants.{Packed, Count, Room, Tree, Fit, Fields, Partitions, Hints, Windows, Sum, Declaration}
use Rattle.plan.specs.declared.refusals.Fault.{Fault}

-- the number of each refusal
abbrev pub number_of : Refusal → ℕ
number_of Packed = 1
number_of Count = 2
number_of Room = 3
number_of Tree = 4
number_of Fit = 5
number_of Fields = 6
number_of Partitions = 7
number_of Hints = 8
number_of Windows = 9
number_of Sum = 10
number_of Declaration = 11

-- what each refusal means, in short
abbrev pub refusal_text : Refusal → List ℕ
refusal_text Packed = codes "these bytes are no records"
refusal_text Count = codes "a plan has 1 to 4096 nodes"
refusal_text Room = codes "there is too little room"
refusal_text Tree = codes "the cells are not one tree"
refusal_text Fit = codes "kind, parameter and child count do not fit"
refusal_text Fields = codes "a number is too large, or stands where it has no place"
refusal_text Partitions = codes "a partition count is out of range"
refusal_text Hints = codes "the node above does not bear the hint out"
refusal_text Windows = codes "these windows cannot be added up"
refusal_text Sum = codes "a sum is too large"
refusal_text Declaration = codes "this declaration cannot be held"

-- a fault as programs print it
abbrev pub fault_text : Fault → List ℕ
fault_text e = codes "refused with " ++ (decimal (number_of e.refusal) ++ (codes " at " ++ decimal e.place))

-- a refusal at a place
abbrev pub fault_at : Refusal → ℕ → Fault
fault_at r p = record { refusal = r; place = p }

-- what is answered where something is refused
abbrev pub refused_at : {A : Type 0} → Refusal → ℕ → Result A Fault
refused_at r p = Err (fault_at r p)

-- what `?` does: go on with what came, or hand a fault up unchanged
abbrev pub then : {A B : Type 0} → Result A Fault → (A → Result B Fault) → Result B Fault
then (Ok a) f = f a
then (Err e) f = Err e
