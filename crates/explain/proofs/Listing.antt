-- A line's details one by one, against the line as a whole. Assumes nothing.
use Rattle.std.proofs.Common.{◌≡◌, ℕ, ◌==◌, false, List, [], ◌∷◌, ◌++◌, length, Some, None, Option, codes, sym, arith}
use Rattle.std.proofs.lemmas.Grind.{common_steps}
use Rattle.std.proofs.lemmas.List.{append-nil}
use Rattle.explain.specs.declared.lines.Detail.{Detail}
use Rattle.explain.specs.Details.{detail_text, details_text, said}
use Rattle.explain.specs.Lines.{listed, headed}

-- the texts of details, with commas between those that there are
abbrev pub listing : List (Option Detail) → List ℕ
listing [] = []
listing (d ∷ ds) = listed (said d) (listing ds)

-- no text that begins with a detail is empty
some_text : (d : Detail) (rest : List ℕ) → (length (detail_text d ++ rest) == 0) ≡ false
some_text d rest = grind (arith, common_steps)

-- a detail, and a comma before each that follows
listed_behind : (d : Detail) (ds : List (Option Detail)) → listed (detail_text d) (listing ds) ≡ detail_text d ++ details_text (codes ", ") ds
listed_behind d [] = grind (arith, common_steps, some_text d [])
listed_behind d (None ∷ ds) = listed_behind d ds
listed_behind d (Some e ∷ ds) = grind (arith, common_steps, some_text d [], some_text e, listed_behind e ds)

-- a name, and a colon before the first detail
pub headed_listing : (name : List ℕ) (ds : List (Option Detail)) → headed name (listing ds) ≡ name ++ details_text (codes ": ") ds
headed_listing name [] = sym (append-nil name)
headed_listing name (None ∷ ds) = headed_listing name ds
headed_listing name (Some d ∷ ds) = grind (arith, common_steps, some_text d, listed_behind d ds)
