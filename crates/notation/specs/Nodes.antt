-- How a node is read from a text. Assumes nothing.
use Rattle.std.specs.Prelude.{ℕ, if◌then◌else◌, ◌&&◌, List, [], ◌∷◌, is_some, Some, None, Ok, Err, Option, nat_lt}
use Rattle.std.specs.Char.{is_ascii_digit, is_ascii_alphabetic}
use Rattle.plan.specs.Kinds.{kind_of}
use Rattle.plan.specs.Numbers.{max_number, max_parameter}
use Rattle.plan.specs.declared.cells.Cell.{Cell}
use Rattle.plan.specs.declared.kinds.Kind.{Kind}
use Rattle.plan.specs.declared.kinds.Kind.TheVariants.{GlobalLimit, LocalLimit}
use Rattle.text.specs.Hex.{on}
use Rattle.text.specs.Letters.{kind_of_letter}
use Rattle.text.specs.declared.problems.Problem.TheVariants.{NumberTooLarge, ParameterTooLarge, ExpectedClosing, ExpectedLimits, ExpectedComma, HintBesideSkip, KindTooLarge, ExpectedColon, ExpectedNode, UnknownKind}
use Rattle.notation.specs.declared.nodes.Limits.{Limits}
use Rattle.notation.specs.Cursors.{begins, digit_at, tail, Parsed, ◌>>=◌, number_parsed, due_at}

-- a skip, a fetch or a hint
abbrev pub amount_at : List ℕ → Parsed ℕ
amount_at xs = number_parsed max_number NumberTooLarge xs

-- a parameter
abbrev pub parameter_at : List ℕ → Parsed ℕ
parameter_at xs = number_parsed max_parameter ParameterTooLarge xs

-- a number and the bracket behind it
abbrev pub enclosed_at : ℕ → List ℕ → Parsed ℕ
enclosed_at after xs = do
  (n, ys) ← amount_at xs
  (_, zs) ← due_at after ExpectedClosing ys
  Ok (n, zs)

-- a number between brackets, if one opens here
abbrev pub bracketed_at : ℕ → ℕ → List ℕ → Parsed (Option ℕ)
bracketed_at before after xs =
    if begins before xs then (do (n, ys) ← enclosed_at after (tail xs); Ok (Some n, ys))
    else Ok (None, xs)

-- a fetch, or `-` for none, and the closing parenthesis
abbrev pub last_limit_at : List ℕ → Parsed (Option ℕ)
last_limit_at xs =
    if begins 45 xs then (do (_, ys) ← due_at 41 ExpectedClosing (tail xs); Ok (None, ys))
    else (do (n, ys) ← enclosed_at 41 xs; Ok (Some n, ys))

-- what stands behind a letter and its parameter: (skip,fetch) behind G, (fetch) behind L, else [fetch] or nothing
abbrev pub limits_at : Kind → List ℕ → Parsed Limits
limits_at GlobalLimit xs = do
  (_, ys) ← due_at 40 ExpectedLimits xs
  (s, zs) ← amount_at ys
  (_, vs) ← due_at 44 ExpectedComma zs
  (f, ws) ← last_limit_at vs
  Ok (record { skip = Some s; fetch = f }, ws)
limits_at LocalLimit xs = do
  (_, ys) ← due_at 40 ExpectedLimits xs
  (f, zs) ← last_limit_at ys
  Ok (record { skip = None; fetch = f }, zs)
limits_at _ xs = do
  (f, ys) ← bracketed_at 91 93 xs
  Ok (record { skip = None; fetch = f }, ys)

-- the skip of a node that is no G, 0 if none is written
abbrev pub own_skip_at : List ℕ → Parsed ℕ
own_skip_at xs = if begins 43 xs then amount_at (tail xs) else Ok (0, xs)

-- the skip of a node: the one that was read before, or else its own
abbrev pub skip_at : Option ℕ → List ℕ → Parsed ℕ
skip_at (Some s) xs = Ok (s, xs)
skip_at None xs = own_skip_at xs

-- hint, skip and mark, behind the rest of a node; a hint cannot stand beside a skip above 0
abbrev pub suffixes_at : ℕ → ℕ → Limits → List ℕ → Parsed Cell
suffixes_at k p l xs = do
  (h, ys) ← bracketed_at 123 125 xs
  (s, zs) ← skip_at l.skip ys
  if is_some h && nat_lt 0 s then Err HintBesideSkip
      else Ok (record { kind = k; children = 0; parameter = p; mark = begins 33 zs; fetch = l.fetch; hint = h; skip = s }, if begins 33 zs then tail zs else zs)

-- a node by its kind in digits
abbrev pub numbered_at : List ℕ → Parsed Cell
numbered_at xs = do
  (k, ys) ← number_parsed 255 KindTooLarge xs
  (_, zs) ← due_at 58 ExpectedColon ys
  (p, vs) ← parameter_at zs
  (f, ws) ← bracketed_at 91 93 vs
  suffixes_at k p (record { skip = None; fetch = f }) ws

-- the digits behind a letter, if there are any
abbrev pub own_parameter_at : List ℕ → Parsed ℕ
own_parameter_at xs = if is_some (digit_at xs) then parameter_at xs else Ok (0, xs)

-- what stands behind a node's letter
abbrev pub lettered_at : ℕ → List ℕ → Parsed Cell
lettered_at k xs = do
  (p, ys) ← own_parameter_at xs
  (l, zs) ← limits_at (kind_of k) ys
  suffixes_at k p l zs

-- a node without its children
abbrev pub node_at : List ℕ → Parsed Cell
node_at [] = Err ExpectedNode
node_at (x ∷ xs) =
    if is_ascii_digit x then numbered_at (x ∷ xs)
    else on (kind_of_letter x) (if is_ascii_alphabetic x then Err UnknownKind else Err ExpectedNode) (λ k. lettered_at k xs)
