-- Checks of single cells, each with the cell before it. Assumes nothing.
use Rattle.std.specs.Prelude.{◌≡◌, ℕ, ◌+◌, Bool, true, false, cond, not, ◌&&◌, ◌||◌, List, [], ◌∷◌, is_some, Some, None, Ok, Option, Result, ◌==◌, nat_le}
use Rattle.std.specs.Option.{option_copied}
use Rattle.std.specs.Fn.{Shared}
use denote.Ref.{Bor}
use Rattle.plan.specs.declared.cells.Cell.{Cell}
use Rattle.plan.specs.declared.refusals.Fault.{Fault}
use Rattle.plan.specs.declared.refusals.Refusal.{Refusal}
use Rattle.plan.specs.Kinds.{global_limit, local_limit, aggregate, is_limit}
use Rattle.plan.specs.Numbers.{max_number}
use Rattle.plan.specs.Refusals.{refused_at}
use Rattle.operators.specs.Answers.{Answers}
use Rattle.operators.specs.Questions.{fits_of, takes_fetch, takes_mark}

-- kind, parameter and child count fit
abbrev pub fit_cell : Answers → Cell → Bool
fit_cell a c = fits_of a c.kind c.parameter c.children

-- a number that may be missing is not too large
abbrev pub small : Option ℕ → Bool
small None = true
small (Some n) = nat_le n max_number

-- no number is too large
abbrev pub small_cell : Cell → Bool
small_cell c = nat_le c.skip max_number && small c.fetch && small c.hint

-- a skip above 0 stands on kind 2, kind 3 has a fetch, and a hint stands on kind 9
abbrev pub placed_cell : Cell → Bool
placed_cell c = (c.skip == 0 || c.kind == global_limit) && (not (c.kind == local_limit) || is_some c.fetch) && (not (is_some c.hint) || c.kind == aggregate)

-- a fetch and a mark stand where they are taken
abbrev pub taken_cell : Answers → Cell → Bool
taken_cell a c = (not (is_some c.fetch) || takes_fetch a c.kind c.parameter) && (not c.mark || takes_mark a c.kind c.parameter)

-- a cell passes the check on fields
abbrev pub fields_cell : Answers → Cell → Bool
fields_cell a c = small_cell c && placed_cell c && taken_cell a c

-- a limit's need: as many rows as it reads
abbrev pub need_of : ℕ → ℕ → ℕ
need_of skip fetch = cond (fetch == 0) 0 (skip + fetch)

-- a limit with a fetch, and a need at most the hint
abbrev pub limit_bears : Cell → Option ℕ → ℕ → Bool
limit_bears u None h = false
limit_bears u (Some f) h = is_limit u.kind && nat_le (need_of u.skip f) h

-- a hinted aggregate of the same group number, with a hint at most this one
abbrev pub aggregate_bears : Answers → Cell → Option ℕ → ℕ → ℕ → Bool
aggregate_bears a u None p h = false
aggregate_bears a u (Some g) p h = a.group u.parameter == a.group p && nat_le g h

-- the cell before an aggregate is its parent where that is a limit or an aggregate, since these have one child
abbrev pub borne_out : Answers → Option Cell → ℕ → ℕ → Bool
borne_out a None p h = false
borne_out a (Some u) p h = limit_bears u u.fetch h || aggregate_bears a u u.hint p h

-- a cell passes the check on hints, below the cell before it
abbrev pub hint_cell : Answers → Option Cell → Cell → Option ℕ → Bool
hint_cell a before c None = true
hint_cell a before c (Some h) = a.plain_distinct c.parameter && borne_out a before c.parameter h

-- a closure computes this test of a cell, with the cell before it
abbrev pub Computes : {F : Type 0} → Shared F (Option (Bor Cell) × (Bor Cell × Unit {0})) Bool → F → (Option Cell → Cell → Bool) → Type 0
Computes g f test = (before : Option (Bor Cell)) (cell : Bor Cell) (r : Bool) → g.post f (before, (cell, tt)) r → r ≡ test (option_copied before) cell.now

-- the first cell that does not pass a test, with the cell before it, is refused, at its place
abbrev pub singly_from : (Option Cell → Cell → Bool) → Refusal → Option Cell → ℕ → List Cell → Result (Unit {0}) Fault
singly_from test r before at [] = Ok tt
singly_from test r before at (c ∷ cs) = cond (test before c) (singly_from test r (Some c) (at + 1) cs) (refused_at r at)

-- one such check over the whole plan
abbrev pub singly : (Option Cell → Cell → Bool) → Refusal → List Cell → Result (Unit {0}) Fault
singly test r cells = singly_from test r None 0 cells
