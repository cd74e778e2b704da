-- What the tests on a cell tell, and how a node's rows are made. Assumes nothing.
use Rattle.std.proofs.Common.{◌≡◌, ℕ, zero, suc, ◌+◌, ◌-◌, ◌<◌, ◌≤◌, Bool, true, false, cond, not, ◌&&◌, ◌||◌, eqb, ltb, leb, List, [], ◌∷◌, map, length, drop, is_some, sym, refl, ap, ◌∙◌, subst, arith}
use Rattle.std.proofs.lemmas.List.{length-drop}
use Rattle.std.proofs.lemmas.Bool.{false≢true}
use Rattle.std.proofs.lemmas.Bool.Decides.{nat_tests}
use Rattle.plan.specs.declared.cells.Cell.{Cell}
use Rattle.plan.specs.Kinds.{is_limit, coalesce_partitions, first_operator}
use Rattle.operators.specs.declared.answers.LimitsPass.{LimitsPass}
use Rattle.operators.specs.declared.answers.LimitsPass.TheVariants.{No, RowForRow}
use Rattle.operators.specs.Answers.{Answers}
use Rattle.operators.specs.Questions.{fits_of, passes, passes_limits, takes_fetch}
use Rattle.operators.specs.Rows.{Partitions, Meaning, concat, made_by, made, rows}
use Rattle.operators.specs.Rules.{Rules, Passing}
use Rattle.checks.specs.Cells.{fields_cell}
use Rattle.rows.proofs.Passed.{Trees}

-- a fetch stands where it is taken
abbrev pub fetch_taken : Answers → Cell → Type 0
fetch_taken a c = (not (is_some c.fetch) || takes_fetch a c.kind c.parameter) ≡ true

pub fields_fetch : (a : Answers) (c : Cell) → fields_cell a c ≡ true → fetch_taken a c
fields_fetch a c h = grind (arith, nat_tests)

pub kind_one : (a : Answers) (k p n : ℕ) → fits_of a k p n ≡ true → 2 ≤ k → k < 16 → n ≡ 1
kind_one a k p n h l u = grind (arith, nat_tests)

pub limit_kind : (k : ℕ) → is_limit k ≡ true → (2 ≤ k) × (k < 16)
limit_kind k h = (grind (arith, nat_tests), grind (arith, nat_tests))

-- what passes limits is no limit
pub through_limit : (a : Answers) (k p : ℕ) → passes_limits a k p ≡ true → is_limit k ≡ false
through_limit a k p t = grind (arith, nat_tests)

row_passes : (l : LimitsPass) → passes l ≡ true → l ≡ RowForRow
row_passes No e = absurd (false≢true e)
row_passes RowForRow e = refl

-- a kind from 16 on that passes limits
pub passing_at : (a : Answers) (m : Meaning) → Rules a m → (k p : ℕ) → ltb k first_operator ≡ false → passes_limits a k p ≡ true → Passing a k p
passing_at a m rules k p high t =
    let pass : passes (a.limits_pass k p) ≡ true = subst (λ b. cond b (leb 4 k && leb k 6) (passes (a.limits_pass k p)) ≡ true) high t in
    rules.passing k p (grind (arith, nat_tests)) (row_passes (a.limits_pass k p) pass)

-- what passes limits has children
pub through_some : (a : Answers) (m : Meaning) → Rules a m → (k p n : ℕ) → fits_of a k p n ≡ true → passes_limits a k p ≡ true → 0 < n
through_some a m rules k p zero fit t = go (ltb k first_operator) refl
  where
    go : (b : Bool) → ltb k first_operator ≡ b → 0 < zero
    go true low = absurd (grind (arith, nat_tests))
    go false high = absurd (false≢true (sym (passing_at a m rules k p high t).has_children ∙ fit))
through_some a m rules k p (suc n) fit t = omega arith

module _ (m : Meaning) (c : Cell) where
  pub made_limit : (below : List Partitions) → is_limit c.kind ≡ true → made m c below ≡ map (drop c.skip) (concat below)
  unfolding made_by
  made_limit below e = ap (λ b. made_by b (eqb c.kind coalesce_partitions) m c below) e

  pub made_joined : (below : List Partitions) → is_limit c.kind ≡ false → eqb c.kind coalesce_partitions ≡ true → made m c below ≡ concat (concat below) ∷ []
  unfolding made_by
  made_joined below e f = ap (λ b. made_by b (eqb c.kind coalesce_partitions) m c below) e ∙ ap (λ b. made_by false b m c below) f

  pub made_meant : (below : List Partitions) → is_limit c.kind ≡ false → eqb c.kind coalesce_partitions ≡ false → made m c below ≡ m c.kind c.parameter c.mark c.hint below
  unfolding made_by
  made_meant below e f = ap (λ b. made_by b (eqb c.kind coalesce_partitions) m c below) e ∙ ap (λ b. made_by false b m c below) f

-- so many trees have so many roots
pub rows_count : (m : Meaning) (n : ℕ) (cs : List Cell) → Trees n cs → length (rows m cs) ≡ n
unfolding rows
rows_count m n [] h = sym h
rows_count m n (c ∷ cs) h =
    let e = rows_count m (n - 1 + c.children) cs h.1 in
    let low = h.0 in
    omega (arith, length-drop c.children (rows m cs))
