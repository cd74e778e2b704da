-- What is said of an operator besides its name, detail by detail. Assumes nothing.
use Rattle.std.specs.Prelude.{ℕ, List, [], ◌∷◌, ◌++◌, Some, None, codes, decimal, Option}
use Rattle.explain.specs.declared.lines.Detail.{Detail}
use Rattle.explain.specs.declared.lines.Detail.TheVariants.{Window, Aggregate, Partitions, Parameter, Skip, NoFetch, Fetch, TopK, Hint, Ordered}

-- a detail as it is written
abbrev pub detail_text : Detail → List ℕ
detail_text (Window n) = codes "window=" ++ decimal n
detail_text (Aggregate n) = codes "aggregate=" ++ decimal n
detail_text (Partitions n) = codes "partitions=" ++ decimal n
detail_text (Parameter n) = codes "parameter=" ++ decimal n
detail_text (Skip n) = codes "skip=" ++ decimal n
detail_text NoFetch = codes "fetch=None"
detail_text (Fetch n) = codes "fetch=" ++ decimal n
detail_text (TopK n) = codes "TopK(fetch=" ++ (decimal n ++ codes ")")
detail_text (Hint n) = codes "lim=[" ++ (decimal n ++ codes "]")
detail_text Ordered = codes "ordered"

-- the same where there may be none
abbrev pub said : Option Detail → List ℕ
said None = []
said (Some d) = detail_text d

-- the details that there are: a gap before the first, a comma before each other
abbrev pub details_text : List ℕ → List (Option Detail) → List ℕ
details_text gap [] = []
details_text gap (None ∷ ds) = details_text gap ds
details_text gap (Some d ∷ ds) = gap ++ (detail_text d ++ details_text (codes ", ") ds)
