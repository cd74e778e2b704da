-- What each check says of the cells, whatever the places: an accepted plan passes, and a plan that passes is accepted. Assumes nothing.
use Rattle.std.proofs.Common.{◌≡◌, ℕ, ◌+◌, ◌-◌, ◌<◌, Bool, true, false, cond, eqb, List, [], ◌∷◌, is_ok, Some, None, Ok, Err, Option, Result, refl, ap, ◌∙◌, arith, eq-eqb, ne_eqb, eqb-true}
use borrow.Author.Tests.{eqb-false}
use Rattle.std.proofs.lemmas.Bool.{false≢true}
use Rattle.std.specs.List.{AllByRecursion}
use Rattle.plan.specs.declared.cells.Cell.{Cell}
use Rattle.plan.specs.declared.refusals.Fault.{Fault}
use Rattle.plan.specs.declared.refusals.Refusal.{Refusal}
use Rattle.plan.specs.declared.refusals.Refusal.TheVariants.{Tree, Fit as Misfit, Fields as Misplaced, Partitions, Hints as Unborne, Windows}
use Rattle.plan.specs.Refusals.{refused_at, then}
use Rattle.operators.specs.Answers.{Answers}
use Rattle.checks.specs.Tree.{tree_from, tree_of}
use Rattle.checks.specs.Cells.{fit_cell, fields_cell, hint_cell, singly_from, singly}
use Rattle.checks.specs.Facts.{head_fact, facts, miscounted, counted_from}
use Rattle.checks.specs.Windows.{window_refused, below_after, windows_from}
use Rattle.checks.specs.Accepts.{root_partitions, Accepted}

abbrev Answer : Type 0
Answer = Result (Unit {0}) Fault

-- where a refusal stands in a test, the test failed
pub refused_not : {A : Type 0} (b : Bool) (r : Refusal) (at : ℕ) (rest : Result A Fault) (x : A) → cond b (refused_at r at) rest ≡ Ok x → (b ≡ false) × (rest ≡ Ok x)
refused_not true r at rest x e = absurd cc
refused_not false r at rest x e = (refl, e)

refused_else : (b : Bool) (r : Refusal) (at : ℕ) (rest : Answer) → cond b rest (refused_at r at) ≡ Ok tt → (b ≡ true) × (rest ≡ Ok tt)
refused_else true r at rest e = (refl, e)
refused_else false r at rest e = absurd cc

-- the cells are so many trees, one after another
abbrev pub Trees : ℕ → List Cell → Type 0
Trees n [] = n ≡ 0
Trees n (c ∷ cs) = (0 < n) × Trees (n - 1 + c.children) cs

-- each cell passes a test, with the cell before it
abbrev pub EachPasses : (Option Cell → Cell → Bool) → Option Cell → List Cell → Type 0
EachPasses test before [] = Unit {0}
EachPasses test before (c ∷ cs) = (test before c ≡ true) × EachPasses test (Some c) cs

-- each cell passes, whatever the cell before it
abbrev pub Fit : Answers → List Cell → Type 0
Fit a cs = AllByRecursion (λ c. fit_cell a c ≡ true) cs

abbrev pub Fields : Answers → List Cell → Type 0
Fields a cs = AllByRecursion (λ c. fields_cell a c ≡ true) cs

-- each hint is borne out by the cell before it
abbrev pub Hints : Answers → Option Cell → List Cell → Type 0
Hints a before cs = EachPasses (λ u c. hint_cell a u c c.hint) before cs

-- no cell's partitions are miscounted
abbrev pub Counted : Answers → List Cell → Type 0
Counted a [] = Unit {0}
Counted a (c ∷ cs) = (miscounted c (head_fact (facts a (c ∷ cs))).partitions (head_fact (facts a cs)).partitions ≡ false) × Counted a cs

-- no window is refused, if so many subtrees to come stand below one that looks ahead
abbrev pub WindowsPass : Answers → ℕ → List Cell → Type 0
WindowsPass a below [] = Unit {0}
WindowsPass a below (c ∷ cs) = (window_refused a below c ≡ false) × WindowsPass a (below_after a below c) cs

pub trees : (n at : ℕ) (cs : List Cell) → tree_from n at cs ≡ Ok tt → Trees n cs
trees n at [] e = eqb-true n 0 (refused_else (eqb n 0) Tree at (Ok tt) e).0
trees n at (c ∷ cs) e =
    let h = refused_not (eqb n 0) Tree at (tree_from (n - 1 + c.children) (at + 1) cs) tt e in
    let ne = eqb-false n 0 h.0 in
    (omega arith, trees (n - 1 + c.children) (at + 1) cs h.1)

pub from_trees : (n at : ℕ) (cs : List Cell) → Trees n cs → tree_from n at cs ≡ Ok tt
from_trees n at [] h = ap (λ b. cond b (Ok tt) (refused_at Tree at)) (eq-eqb n 0 h)
from_trees n at (c ∷ cs) h =
    let ne : eqb n 0 ≡ false = ne_eqb n 0 (λ e. let low = h.0 in omega arith) in
    ap (λ b. cond b (refused_at Tree at) (tree_from (n - 1 + c.children) (at + 1) cs)) ne ∙ from_trees (n - 1 + c.children) (at + 1) cs h.1

all_of : (test : Cell → Bool) (before : Option Cell) (cs : List Cell) → EachPasses (λ u. test) before cs → AllByRecursion (λ c. test c ≡ true) cs
all_of test before [] h = tt
all_of test before (c ∷ cs) h = (h.0, all_of test (Some c) cs h.1)

from_all : (test : Cell → Bool) (before : Option Cell) (cs : List Cell) → AllByRecursion (λ c. test c ≡ true) cs → EachPasses (λ u. test) before cs
from_all test before [] h = tt
from_all test before (c ∷ cs) h = (h.0, from_all test (Some c) cs h.1)

one_by_one : (test : Option Cell → Cell → Bool) (r : Refusal) (before : Option Cell) (at : ℕ) (cs : List Cell) → singly_from test r before at cs ≡ Ok tt → EachPasses test before cs
one_by_one test r before at [] e = tt
one_by_one test r before at (c ∷ cs) e =
    let h = refused_else (test before c) r at (singly_from test r (Some c) (at + 1) cs) e in
    (h.0, one_by_one test r (Some c) (at + 1) cs h.1)

from_each : (test : Option Cell → Cell → Bool) (r : Refusal) (before : Option Cell) (at : ℕ) (cs : List Cell) → EachPasses test before cs → singly_from test r before at cs ≡ Ok tt
from_each test r before at [] h = refl
from_each test r before at (c ∷ cs) h = ap (λ b. cond b (singly_from test r (Some c) (at + 1) cs) (refused_at r at)) h.0 ∙ from_each test r (Some c) (at + 1) cs h.1

module _ (a : Answers) where
  counted : (at : ℕ) (cs : List Cell) → counted_from a at cs ≡ Ok tt → Counted a cs
  unfolding counted_from
  counted at [] e = tt
  counted at (c ∷ cs) e =
      let h = refused_not (miscounted c (head_fact (facts a (c ∷ cs))).partitions (head_fact (facts a cs)).partitions) Partitions at (counted_from a (at + 1) cs) tt e in
      (h.0, counted (at + 1) cs h.1)

  from_counted : (at : ℕ) (cs : List Cell) → Counted a cs → counted_from a at cs ≡ Ok tt
  unfolding counted_from
  from_counted at [] h = refl
  from_counted at (c ∷ cs) h = ap (λ b. cond b (refused_at Partitions at) (counted_from a (at + 1) cs)) h.0 ∙ from_counted (at + 1) cs h.1

  pub windows_pass : (below at : ℕ) (cs : List Cell) → windows_from a below at cs ≡ Ok tt → WindowsPass a below cs
  windows_pass below at [] e = tt
  windows_pass below at (c ∷ cs) e =
      let h = refused_not (window_refused a below c) Windows at (windows_from a (below_after a below c) (at + 1) cs) tt e in
      (h.0, windows_pass (below_after a below c) (at + 1) cs h.1)

-- what an accepted plan passes
pub record Passed (a : Answers) (cs : List Cell) : Type 0 where
  pub tree : Trees 1 cs
  pub fit : Fit a cs
  pub fields : Fields a cs
  pub counts : Counted a cs
  pub hints : Hints a None cs

-- a chain of checks that grants: each one did
granted : (r : Answer) (f : Unit {0} → Result ℕ Fault) → is_ok (then r f) ≡ true → (r ≡ Ok tt) × (is_ok (f tt) ≡ true)
granted (Ok tt) f e = (refl, e)
granted (Err x) f e = absurd (false≢true e)

module _ (a : Answers) (cs : List Cell) where
  pub passed : Accepted a cs → Passed a cs
  passed h =
      let fit : Answer = singly (λ _. fit_cell a) Misfit cs in
      let fields : Answer = singly (λ _. fields_cell a) Misplaced cs in
      let counts : Answer = counted_from a 0 cs in
      let hints : Answer = singly (λ u c. hint_cell a u c c.hint) Unborne cs in
      let after_tree = granted (tree_of cs) (λ _. then fit (λ _. then fields (λ _. then counts (λ _. then hints (λ _. Ok (root_partitions a cs)))))) h in
      let after_fit = granted fit (λ _. then fields (λ _. then counts (λ _. then hints (λ _. Ok (root_partitions a cs))))) after_tree.1 in
      let after_fields = granted fields (λ _. then counts (λ _. then hints (λ _. Ok (root_partitions a cs)))) after_fit.1 in
      let after_counts = granted counts (λ _. then hints (λ _. Ok (root_partitions a cs))) after_fields.1 in
      let after_hints = granted hints (λ _. Ok (root_partitions a cs)) after_counts.1 in
      record {
        tree = trees 1 0 cs after_tree.0;
        fit = all_of (fit_cell a) None cs (one_by_one (λ _. fit_cell a) Misfit None 0 cs after_fit.0);
        fields = all_of (fields_cell a) None cs (one_by_one (λ _. fields_cell a) Misplaced None 0 cs after_fields.0);
        counts = counted a 0 cs after_counts.0;
        hints = one_by_one (λ u c. hint_cell a u c c.hint) Unborne None 0 cs after_hints.0;
      }

  pub accepted : Passed a cs → Accepted a cs
  accepted h =
      let tree = from_trees 1 0 cs h.tree in
      let fit = from_each (λ _. fit_cell a) Misfit None 0 cs (from_all (fit_cell a) None cs h.fit) in
      let fields = from_each (λ _. fields_cell a) Misplaced None 0 cs (from_all (fields_cell a) None cs h.fields) in
      let counts = from_counted a 0 cs h.counts in
      let hints = from_each (λ u c. hint_cell a u c c.hint) Unborne None 0 cs h.hints in
      ap is_ok (λ i. then (tree i) (λ _. then (fit i) (λ _. then (fields i) (λ _. then (counts i) (λ _. then (hints i) (λ _. Ok (root_partitions a cs)))))))
