-- A refusal's place is at most the number of cells. Assumes nothing.
use Rattle.std.proofs.Common.{ℕ, ◌+◌, ◌-◌, ◌≤◌, Bool, true, false, cond, List, [], ◌∷◌, length, Some, None, Ok, Err, Option, Result, arith}
use Rattle.plan.specs.declared.cells.Cell.{Cell}
use Rattle.plan.specs.declared.refusals.Fault.{Fault}
use Rattle.plan.specs.declared.refusals.Refusal.{Refusal}
use Rattle.plan.specs.declared.refusals.Refusal.TheVariants.{Fit, Fields, Hints}
use Rattle.plan.specs.Refusals.{then}
use Rattle.operators.specs.Answers.{Answers}
use Rattle.checks.specs.Tree.{tree_from}
use Rattle.checks.specs.Cells.{fit_cell, fields_cell, hint_cell, singly_from}
use Rattle.checks.specs.Facts.{counted_from}
use Rattle.checks.specs.Windows.{below_after, windows_from, windows_answer}
use Rattle.checks.specs.Accepts.{plan_answer}

-- if it refuses, then at such a place at most
abbrev pub Within : {A : Type 0} → ℕ → Result A Fault → Type 0
Within n (Ok x) = Unit {0}
Within n (Err e) = e.place ≤ n

pub within_then : {A B : Type 0} (n : ℕ) (r : Result A Fault) (f : A → Result B Fault) → Within n r → ((x : A) → Within n (f x)) → Within n (then r f)
within_then n (Ok x) f w k = k x
within_then n (Err e) f w k = w

-- either way within
pub within_either : {A : Type 0} (n : ℕ) (b : Bool) (r s : Result A Fault) → Within n r → Within n s → Within n (cond b r s)
within_either n true r s v w = v
within_either n false r s v w = w

-- the walks over cells: refused at a cell, or what the rest of the cells answers

tree_within : (trees n at : ℕ) (cs : List Cell) → at + length cs ≤ n → Within n (tree_from trees at cs)
tree_within trees n at [] h = grind arith
tree_within trees n at (c ∷ cs) h = grind (arith, tree_within (trees - 1 + c.children) n (at + 1) cs)

singly_within : (test : Option Cell → Cell → Bool) (r : Refusal) (before : Option Cell) (n at : ℕ) (cs : List Cell) → at + length cs ≤ n → Within n (singly_from test r before at cs)
singly_within test r before n at [] h = tt
singly_within test r before n at (c ∷ cs) h = grind (arith, singly_within test r (Some c) n (at + 1) cs)

module _ (a : Answers) where
  counted_within : (n at : ℕ) (cs : List Cell) → at + length cs ≤ n → Within n (counted_from a at cs)
  unfolding counted_from
  counted_within n at [] h = tt
  counted_within n at (c ∷ cs) h = grind (arith, counted_within n (at + 1) cs)

  windows_within : (below n at : ℕ) (cs : List Cell) → at + length cs ≤ n → Within n (windows_from a below at cs)
  windows_within below n at [] h = tt
  windows_within below n at (c ∷ cs) h = grind (arith, windows_within (below_after a below c) n (at + 1) cs)

  pub windows_answer_within : (cs : List Cell) → Within (length cs) (windows_answer a cs)
  windows_answer_within cs = windows_within 0 (length cs) 0 cs (omega arith)

  pub plan_within : (cs : List Cell) → Within (length cs) (plan_answer a cs)
  plan_within cs =
      let n = length cs in
      grind (arith, tree_within 1 n 0 cs, counted_within n 0 cs, singly_within (λ _. fit_cell a) Fit None n 0 cs, singly_within (λ _. fields_cell a) Fields None n 0 cs, singly_within (λ before c. hint_cell a before c c.hint) Hints None n 0 cs)
