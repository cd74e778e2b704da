-- What a stack in lent memory holds. Assumes nothing.
use Rattle.std.specs.Prelude.{ℕ, min, List, [], ◌∷◌, length, drop, Some, None, Option}
use Rattle.plan.specs.declared.stacks.Stack.{Stack}

-- the first entry, if there is one
abbrev pub first : {T : Type 0} → List T → Option T
first [] = None
first (x ∷ xs) = Some x

-- the entry so many below the top, if there is one
abbrev pub at_depth : {T : Type 0} → List T → ℕ → Option T
at_depth xs n = first (drop n xs)

module _ {T : Type 0} where
  -- the entries, top first
  abbrev pub content : Stack T → List T
  content s = drop s.top s.items.now

  -- how many entries more it can take
  abbrev pub room : Stack T → ℕ
  room s = min s.top (length s.items.now)
