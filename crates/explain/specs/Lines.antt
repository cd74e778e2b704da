-- A cell as a line of text: the operator's name, and what is to be said of it. Assumes nothing.
use Rattle.std.specs.Prelude.{ℕ, Bool, cond, not, ◌&&◌, ◌||◌, List, [], ◌++◌, length, Some, None, codes, decimal, Option, ◌==◌}
use Rattle.plan.specs.Kinds.{empty, placeholder_row, global_limit, local_limit, projection, coalesce_partitions, sort_preserving_merge, sort, bounded_window_agg, aggregate, is_limit}
use Rattle.plan.specs.declared.cells.Cell.{Cell}

-- the names of the kinds that have one
abbrev pub name_of : ℕ → Option (List ℕ)
name_of k =
    cond (k == empty) (Some (codes "EmptyExec"))
    (cond (k == placeholder_row) (Some (codes "PlaceholderRowExec"))
    (cond (k == global_limit) (Some (codes "GlobalLimitExec"))
    (cond (k == local_limit) (Some (codes "LocalLimitExec"))
    (cond (k == projection) (Some (codes "ProjectionExec"))
    (cond (k == coalesce_partitions) (Some (codes "CoalescePartitionsExec"))
    (cond (k == sort_preserving_merge) (Some (codes "SortPreservingMergeExec"))
    (cond (k == sort) (Some (codes "SortExec"))
    (cond (k == bounded_window_agg) (Some (codes "BoundedWindowAggExec"))
    (cond (k == aggregate) (Some (codes "AggregateExec"))
    (cond (k == 16) (Some (codes "DataSourceExec"))
    (cond (k == 17) (Some (codes "FilterExec"))
    (cond (k == 18) (Some (codes "UnionExec")) (cond (k == 20) (Some (codes "RepartitionExec")) None)))))))))))))

-- a name for every kind
abbrev pub named : Option (List ℕ) → ℕ → List ℕ
named None k = codes "OperatorExec(kind=" ++ (decimal k ++ codes ")")
named (Some n) k = n

-- what a parameter is called
abbrev pub parameter_label : ℕ → List ℕ
parameter_label k = cond (k == bounded_window_agg) (codes "window=") (cond (k == aggregate) (codes "aggregate=") (cond (k == 16 || k == 20) (codes "partitions=") (codes "parameter=")))

-- whether a parameter has a meaning of its own, so that 0 is shown too
abbrev pub shows_parameter : ℕ → Bool
shows_parameter k = (k == bounded_window_agg || k == aggregate) || (k == 16 || k == 20)

-- the parameter, where it is not 0 or its operator always shows it
abbrev pub parameter_text : Cell → List ℕ
parameter_text c = cond (c.parameter == 0 && not (shows_parameter c.kind)) [] (parameter_label c.kind ++ decimal c.parameter)

-- on a global limit also where it is 0
abbrev pub skip_text : Cell → List ℕ
skip_text c = cond (c.skip == 0 && not (c.kind == global_limit)) [] (codes "skip=" ++ decimal c.skip)

-- on a limit also where there is none
abbrev pub fetch_text : Option ℕ → ℕ → List ℕ
fetch_text None k = cond (is_limit k) (codes "fetch=None") []
fetch_text (Some n) k = cond (k == sort) (codes "TopK(fetch=" ++ (decimal n ++ codes ")")) (codes "fetch=" ++ decimal n)

-- the hint of an aggregate
abbrev pub hint_text : Option ℕ → List ℕ
hint_text None = []
hint_text (Some n) = codes "lim=[" ++ (decimal n ++ codes "]")

-- the mark that order must be kept
abbrev pub mark_text : Bool → List ℕ
mark_text mark = cond mark (codes "ordered") []

-- two texts with a comma between, if neither is empty
abbrev pub listed : List ℕ → List ℕ → List ℕ
listed a b = cond (length a == 0) b (cond (length b == 0) a (a ++ (codes ", " ++ b)))

-- fetch, hint and mark
abbrev pub limit_details : Cell → List ℕ
limit_details c = listed (fetch_text c.fetch c.kind) (listed (hint_text c.hint) (mark_text c.mark))

-- what is to be said of a cell besides its name
abbrev pub details : Cell → List ℕ
details c = listed (parameter_text c) (listed (skip_text c) (limit_details c))

-- a name, and what is to be said, if anything is
abbrev pub headed : List ℕ → List ℕ → List ℕ
headed name said = cond (length said == 0) name (name ++ (codes ": " ++ said))

-- the line of a cell
abbrev pub line_of : Cell → List ℕ
line_of c = headed (named (name_of c.kind) c.kind) (details c)
