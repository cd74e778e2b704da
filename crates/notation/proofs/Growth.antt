-- A tree to which a cell is added. Assumes nothing.
use Rattle.std.proofs.Common.{◌≡◌, ℕ, zero, suc, ◌+◌, ◌-◌, ◌<◌, true, List, [], ◌∷◌, ◌++◌, length, get_or, arith}
use Rattle.std.proofs.lemmas.Bool.Decides.{nat_tests}
use Rattle.std.proofs.lemmas.Grind.{common_steps, elements}
use Rattle.std.proofs.lemmas.List.Elements.{All-get_or, All-push, All-set}
use Rattle.plan.specs.Cells.{blank}
use Rattle.plan.specs.Numbers.{max_nodes, max_children}
use Rattle.plan.specs.declared.cells.Cell.{Cell}
use Rattle.notation.specs.Widths.{Packs}
use Rattle.notation.specs.Trees.{tree_from, one_more, child_counted, ReadPlan}
use Rattle.notation.proofs.Bounds.{IsLeaf}

-- a leaf behind what was a tree takes one tree more that is due
leaf_behind : (due : ℕ) (cs : List Cell) (leaf : Cell) → leaf.children ≡ 0 → tree_from due cs ≡ true → tree_from (due + 1) (cs ++ (leaf ∷ [])) ≡ true
leaf_behind due [] leaf e t = grind (arith, nat_tests)
leaf_behind due (c ∷ cs) leaf e t = let rest = leaf_behind (due - 1 + c.children) cs leaf e in grind (arith, nat_tests)

-- a leaf behind the cells, and one child more for one of them
child_behind : (due : ℕ) (cs : List Cell) (place : ℕ) (leaf : Cell) → place < length cs → leaf.children ≡ 0 → tree_from due cs ≡ true → tree_from due (child_counted cs place ++ (leaf ∷ [])) ≡ true
child_behind due [] place leaf h e t = absurd (omega arith)
child_behind due (c ∷ cs) zero leaf h e t = let rest = leaf_behind (due - 1 + c.children) cs leaf e in grind (arith, nat_tests)
child_behind due (c ∷ cs) (suc place) leaf h e t = let rest = child_behind (due - 1 + c.children) cs place leaf (omega arith) e in grind (arith, nat_tests)

-- what was read of a text, and then one node more
pub child_read : (n place : ℕ) (cs : List Cell) (leaf : Cell) → ReadPlan n cs → place < length cs → (get_or cs place blank).children < max_children → length cs < max_nodes → length cs < n → IsLeaf leaf → ReadPlan n (child_counted cs place ++ (leaf ∷ []))
child_read n place cs leaf r within room few short l =
    let p = All-get_or Packs cs place blank within r.packs in
    let counted : Packs (one_more (get_or cs place blank)) = record { children = omega arith; parameter = p.parameter; fetch = p.fetch; hint = p.hint; skip = p.skip; apart = p.apart } in
    record {
      packs = All-push Packs (child_counted cs place) leaf (All-set Packs cs place (one_more (get_or cs place blank)) counted r.packs) l.packs;
      tree = child_behind 1 cs place leaf within l.children r.tree;
      some = grind (arith, common_steps);
      few = grind (arith, common_steps);
      short = grind (arith, common_steps);
    }

-- the root alone
pub root_read : (n : ℕ) (leaf : Cell) → IsLeaf leaf → 0 < n → ReadPlan n (leaf ∷ [])
root_read n leaf l h = record { packs = grind (arith, elements); tree = grind (arith, nat_tests); some = omega arith; few = omega arith; short = omega arith }
