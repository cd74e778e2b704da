-- The kinds below 16 by number and by name. Assumes nothing.
use Rattle.std.specs.Prelude.{ℕ, Bool, cond, ◌||◌, ◌==◌, nat_lt}
use Rattle.plan.specs.declared.kinds.Kind.{Kind}
use Rattle.plan.specs.declared.kinds.Kind.TheVariants.{Empty, PlaceholderRow, GlobalLimit, LocalLimit, Projection, CoalescePartitions, SortPreservingMerge, Sort, BoundedWindowAgg, Aggregate, Reserved, Operator}

-- the numbers of the kinds; 10 to 15 are reserved
abbrev pub empty : ℕ
empty = 0

abbrev pub placeholder_row : ℕ
placeholder_row = 1

abbrev pub global_limit : ℕ
global_limit = 2

abbrev pub local_limit : ℕ
local_limit = 3

abbrev pub projection : ℕ
projection = 4

abbrev pub coalesce_partitions : ℕ
coalesce_partitions = 5

abbrev pub sort_preserving_merge : ℕ
sort_preserving_merge = 6

abbrev pub sort : ℕ
sort = 7

abbrev pub bounded_window_agg : ℕ
bounded_window_agg = 8

abbrev pub aggregate : ℕ
aggregate = 9

-- the first kind that an operator set speaks of
abbrev pub first_operator : ℕ
first_operator = 16

-- the kind that a number stands for
abbrev pub kind_of : ℕ → Kind
kind_of k =
    cond (k == empty) Empty
    (cond (k == placeholder_row) PlaceholderRow
    (cond (k == global_limit) GlobalLimit
    (cond (k == local_limit) LocalLimit
    (cond (k == projection) Projection
    (cond (k == coalesce_partitions) CoalescePartitions
    (cond (k == sort_preserving_merge) SortPreservingMerge
    (cond (k == sort) Sort
    (cond (k == bounded_window_agg) BoundedWindowAgg (cond (k == aggregate) Aggregate (cond (nat_lt k first_operator) (Reserved k) (Operator k)))))))))))

-- the number that stands for a kind
abbrev pub number_of_kind : Kind → ℕ
number_of_kind Empty = empty
number_of_kind PlaceholderRow = placeholder_row
number_of_kind GlobalLimit = global_limit
number_of_kind LocalLimit = local_limit
number_of_kind Projection = projection
number_of_kind CoalescePartitions = coalesce_partitions
number_of_kind SortPreservingMerge = sort_preserving_merge
number_of_kind Sort = sort
number_of_kind BoundedWindowAgg = bounded_window_agg
number_of_kind Aggregate = aggregate
number_of_kind (Reserved n) = n
number_of_kind (Operator n) = n

-- a kind is one of the two limits
abbrev pub is_limit : ℕ → Bool
is_limit k = k == global_limit || k == local_limit
