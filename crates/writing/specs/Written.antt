-- The notation of cells. Assumes nothing.
use Rattle.std.specs.Prelude.{ℕ, Bool, true, cond, not, List, [], ◌∷◌, ◌++◌, length, replicate, codes, decimal, Option, ◌==◌, nat_lt}
use Rattle.plan.specs.Kinds.{global_limit, local_limit}
use Rattle.plan.specs.declared.cells.Cell.{Cell}
use Rattle.text.specs.Hex.{on}
use Rattle.text.specs.Letters.{letter_of}
use Rattle.writing.specs.Awaits.{after_tree, completes}

-- a fetch, or `-` for none
abbrev pub fetch_text : Option ℕ → List ℕ
fetch_text o = on o (codes "-") (λ n. decimal n)

-- a number between brackets, if there is one
abbrev pub enclosed_text : List ℕ → Option ℕ → List ℕ → List ℕ
enclosed_text before o after = on o [] (λ n. before ++ (decimal n ++ after))

-- the letter of the kind, and the parameter where it is not 0; both in digits where the kind has no letter
abbrev pub head_text : Cell → List ℕ
head_text c = on (letter_of c.kind) (decimal c.kind ++ (codes ":" ++ decimal c.parameter)) (λ l. l ∷ cond (c.parameter == 0) [] (decimal c.parameter))

-- (skip,fetch) behind G, (fetch) behind L, [fetch] behind others that have one
abbrev pub limits_text : Cell → List ℕ
limits_text c =
    cond (c.kind == global_limit) (codes "(" ++ (decimal c.skip ++ (codes "," ++ (fetch_text c.fetch ++ codes ")"))))
    (cond (c.kind == local_limit) (codes "(" ++ (fetch_text c.fetch ++ codes ")")) (enclosed_text (codes "[") c.fetch (codes "]")))

-- the skip of a cell that is no G, where it is not 0
abbrev pub plus_text : Cell → List ℕ
plus_text c = cond (c.kind == global_limit) [] (cond (c.skip == 0) [] (codes "+" ++ decimal c.skip))

-- the mark
abbrev pub mark_text : Cell → List ℕ
mark_text c = cond c.mark (codes "!") []

-- a node without its children
abbrev pub node_text : Cell → List ℕ
node_text c = head_text c ++ (limits_text c ++ (enclosed_text (codes "{") c.hint (codes "}") ++ (plus_text c ++ mark_text c)))

-- what stands behind a node with so many children: `(` before several and a blank before one; behind a complete tree a `)` for each
-- node that it completes, and a comma before a sibling
abbrev pub link_text : ℕ → List ℕ → List ℕ
link_text children awaited =
    cond (nat_lt 1 children) (codes "(") (cond (children == 1) (codes " ") (replicate (completes awaited) 41 ++ cond (length (after_tree awaited) == 0) [] (codes ", ")))

-- what is awaited behind it: one child is not written between parentheses, so it is not counted
abbrev pub linked : ℕ → List ℕ → List ℕ
linked children awaited = cond (nat_lt 1 children) (children ∷ awaited) (cond (children == 1) awaited (after_tree awaited))

-- whether a further node is due
abbrev pub still_due : ℕ → List ℕ → Bool
still_due children awaited = cond (children == 0) (not (length (after_tree awaited) == 0)) true

-- cells in the notation: ` | ` before a cell behind a complete tree, and `?` at the end where a node is due and there is none
abbrev pub written : Bool → List ℕ → List Cell → List ℕ
written due awaited [] = cond due (codes "?") []
written due awaited (c ∷ cs) =
    cond due [] (codes " | ") ++ (node_text c ++ (link_text c.children awaited ++ written (still_due c.children awaited) (linked c.children awaited) cs))
