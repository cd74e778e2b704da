-- What problems print, and where they are. Assumes nothing.
use Rattle.std.specs.Prelude.{ℕ, ◌+◌, List, ◌++◌, codes, decimal}
use Rattle.text.specs.declared.problems.Problem.{Problem}
use Rattle.text.specs.declared.problems.Problem.TheVariants.{ExpectedNode, UnknownKind, ExpectedNumber, NumberTooLarge, ParameterTooLarge, KindTooLarge, ExpectedColon, ExpectedLimits, ExpectedComma, ExpectedClosing, HintBesideSkip, TooManyChildren, TooManyNodes, Unclosed, Trailing, ExpectedHexDigit, NoMemory}
use Rattle.text.specs.declared.problems.Slip.{Slip}

-- what each problem says
abbrev pub problem_text : Problem → List ℕ
problem_text ExpectedNode = codes "a node is expected here"
problem_text UnknownKind = codes "this letter names no kind"
problem_text ExpectedNumber = codes "a number is expected here"
problem_text NumberTooLarge = codes "this number is above 1099511627775"
problem_text ParameterTooLarge = codes "this parameter is above 32767"
problem_text KindTooLarge = codes "this kind is above 255"
problem_text ExpectedColon = codes "`:` and a parameter are expected behind a kind in digits"
problem_text ExpectedLimits = codes "`(skip,fetch)` is expected behind G, `(fetch)` behind L"
problem_text ExpectedComma = codes "`,` and a fetch are expected behind the skip"
problem_text ExpectedClosing = codes "the closing bracket is expected behind the number"
problem_text HintBesideSkip = codes "a hint and a skip above 0 cannot stand on one node"
problem_text TooManyChildren = codes "this child is one above the 63 that a node may have"
problem_text TooManyNodes = codes "this node is one above the 4096 that a plan may have"
problem_text Unclosed = codes "a `)` is missing at the end"
problem_text Trailing = codes "the plan has ended before this"
problem_text ExpectedHexDigit = codes "a hexadecimal digit is expected here"
problem_text NoMemory = codes "there is no memory left"

-- a problem at a place, counted from 0
abbrev pub slip_at : Problem → ℕ → Slip
slip_at p place = record { problem = p; column = place + 1 }

-- a slip as programs print it
abbrev pub slip_text : Slip → List ℕ
slip_text s = codes "column " ++ (decimal s.column ++ (codes ": " ++ problem_text s.problem))
