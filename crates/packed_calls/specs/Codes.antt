-- An answer as one number, for callers that take no other. Assumes nothing.
use Rattle.std.specs.Prelude.{ℕ, ◌+◌, ◌*◌, ◌<◌, ◌≤◌, ℤ, pos, neg_ℤ, Ok, Err, Result}
use Rattle.plan.specs.declared.refusals.Fault.{Fault}
use Rattle.plan.specs.Refusals.{number_of}

-- a refusal's number counts so much, so that a place below that stands beside it
abbrev pub places : ℕ
places = 8192

-- the node count; or the refusal's number times 8,192 and its place, below 0
abbrev pub code_of : Result ℕ Fault → ℤ
code_of (Ok n) = pos n
code_of (Err e) = neg_ℤ (pos (number_of e.refusal * places + e.place))

-- an answer that has a code of its own: a count or a place below 8,192, or twice the most nodes
abbrev pub HasCode : Result ℕ Fault → Type 0
HasCode (Ok n) = n ≤ places
HasCode (Err e) = e.place < places
