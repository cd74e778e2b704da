-- Facts of subtrees put together one by one, and that no sum of them is large. Assumes nothing.
use Rattle.std.proofs.Common.{◌≡◌, ℕ, zero, suc, ◌+◌, ◌*◌, ◌^◌, ◌≤◌, Bool, ◌&&◌, List, [], ◌∷◌, length, drop, arith}
use Rattle.std.proofs.lemmas.Grind.{common_steps}
use Rattle.std.proofs.lemmas.List.{drop-drop}
use Rattle.checks.specs.declared.facts.Fact.{Fact}
use Rattle.checks.specs.declared.facts.Children.{Children}
use Rattle.checks.specs.Facts.{is_empty, head_fact, together, next_facts, Bounded}

-- one child more
abbrev pub with_child : Children → Fact → Children
with_child all f = record { size = all.size + f.size; partitions = all.partitions + f.partitions; empty = all.empty && is_empty f.rows }

-- the next child stands behind the cells of those before it
one_more : (n : ℕ) (fs : List Fact) → together (next_facts (suc n) fs) ≡ with_child (together (next_facts n fs)) (head_fact (drop (together (next_facts n fs)).size fs))
one_more zero fs = grind (arith, common_steps)
one_more (suc n) fs = grind (arith, common_steps, one_more n (drop (head_fact fs).size fs), drop-drop)

pub gather_more : (n : ℕ) (all : Children) (f : Fact) (e : Bool) (fs : List Fact) → all ≡ together (next_facts n fs) → f ≡ head_fact (drop all.size fs) → e ≡ is_empty f.rows
    → record { size = all.size + f.size; partitions = all.partitions + f.partitions; empty = all.empty && e } ≡ together (next_facts (n + 1) fs)
gather_more n all f e fs so_far is known = grind (arith, common_steps, one_more n fs)

-- a subtree ends within the cells, and has few partitions
pub bounded_next : (fs : List Fact) (k : ℕ) (f : Fact) → Bounded fs → k ≤ length fs → f ≡ head_fact (drop k fs) → (k + f.size ≤ length fs) × (f.partitions ≤ 2 ^ 32 * f.size)
bounded_next [] k f b h e = (grind (arith, common_steps), grind (arith, common_steps))
bounded_next (g ∷ fs) zero f b h e = (grind (arith, common_steps), grind (arith, common_steps))
bounded_next (g ∷ fs) (suc k) f b h e = let rest = bounded_next fs k f b.2 (let z : suc k ≤ suc (length fs) = h in omega arith) e in (grind (arith, common_steps), rest.1)
