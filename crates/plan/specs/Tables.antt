-- What a lent table holds after a call. Assumes nothing.
use Rattle.std.specs.Prelude.{ℕ, ◌-◌, List, ◌++◌, length, replicate, Ok, Err, Result}
use Rattle.plan.specs.declared.refusals.Fault.{Fault}
use Rattle.plan.specs.Refusals.{then}

-- how many were granted
abbrev pub counted : {A : Type 0} → Result (List A) Fault → Result ℕ Fault
counted r = then r (λ xs. Ok (length xs))

-- what a table holds after: what was granted with blanks behind it, or what it held before
abbrev pub laid : {A : Type 0} → A → Result (List A) Fault → List A → List A
laid blank (Ok xs) table = xs ++ replicate (length table - length xs) blank
laid blank (Err e) table = table
