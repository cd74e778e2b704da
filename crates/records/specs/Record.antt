-- The record of a cell: a number of 112 bits, read as eight fields or as 14 bytes. Assumes nothing.
use Rattle.std.specs.Prelude.{ℕ, Bool, true, false, cond, ◌||◌, List, [], ◌∷◌, map, replicate, is_some, Some, None, Option, ◌==◌, slice_index}
use Rattle.std.specs.Option.{unwrap_or}
use Rattle.plan.specs.declared.cells.Cell.{Cell}
use Rattle.plan.specs.Cells.{blank}
use Rattle.records.specs.Fields.{joined, cut}

-- how many bytes a record has
abbrev pub record_size : ℕ
record_size = 14

-- how many bits the parameter has
abbrev pub parameter_width : ℕ
parameter_width = 15

-- so many bytes are so many fields of 8 bits
abbrev pub octets : ℕ → List ℕ
octets size = replicate size 8

-- a flag as a field of one bit
abbrev pub bit : Bool → ℕ
bit true = 1
bit false = 0

-- the hint where there is one, else the skip
abbrev pub extra : Option ℕ → ℕ → ℕ
extra (Some hint) skip = hint
extra None skip = skip

-- the fields of a cell's record, each its width in bits and its value, the most significant first
abbrev pub fields_of : Cell → List (ℕ × ℕ)
fields_of c =
    (8, c.kind)
    ∷ (6, c.children)
    ∷ (parameter_width, c.parameter)
    ∷ (1, bit c.mark)
    ∷ (1, bit (is_some c.fetch))
    ∷ (1, bit (is_some c.hint))
    ∷ (40, unwrap_or c.fetch 0)
    ∷ (40, extra c.hint c.skip)
    ∷ []

-- the widths of the fields, which are those of any cell
abbrev pub layout : List ℕ
layout = map (λ field. field.0) (fields_of blank)

-- the values of a cell's fields
abbrev pub values_of : Cell → List ℕ
values_of c = map (λ field. field.1) (fields_of c)

-- a number that its bit says is there
abbrev pub present : ℕ → ℕ → Option ℕ
present b n = cond (b == 1) (Some n) None

-- the cell whose fields have these values, in the order above
abbrev pub cell_of : List ℕ → Cell
cell_of vs = record {
  kind = slice_index vs 0;
  children = slice_index vs 1;
  parameter = slice_index vs 2;
  mark = (slice_index vs 3 == 1);
  fetch = present (slice_index vs 4) (slice_index vs 6);
  hint = present (slice_index vs 5) (slice_index vs 7);
  skip = cond (slice_index vs 5 == 1) 0 (slice_index vs 7);
}

-- without the fetch bit the fetch is 0
abbrev pub sound : List ℕ → Bool
sound vs = slice_index vs 4 == 1 || slice_index vs 6 == 0

-- the bytes of a cell's record
abbrev pub packed : Cell → List ℕ
packed c = cut (octets record_size) (joined layout (values_of c))

-- the values of the fields of a record's bytes
abbrev pub values_in : List ℕ → List ℕ
values_in bytes = cut layout (joined (octets record_size) bytes)
