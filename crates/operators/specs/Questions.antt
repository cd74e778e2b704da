-- The answers for every kind: below 16 the same under every set, from 16 on the set's. Assumes nothing.
use Rattle.std.specs.Prelude.{ℕ, Bool, true, false, cond, ◌&&◌, ◌||◌, ◌==◌, nat_le, nat_lt}
use Rattle.plan.specs.Numbers.{max_children, max_parameter}
use Rattle.plan.specs.Kinds.{empty, placeholder_row, global_limit, projection, coalesce_partitions, sort_preserving_merge, sort, aggregate, first_operator, is_limit}
use Rattle.operators.specs.declared.answers.LimitsPass.{LimitsPass}
use Rattle.operators.specs.declared.answers.LimitsPass.TheVariants.{No, RowForRow}
use Rattle.operators.specs.declared.answers.CardinalityEffect.{CardinalityEffect}
use Rattle.operators.specs.declared.answers.CardinalityEffect.TheVariants.{Unknown, Equal}
use Rattle.operators.specs.declared.answers.PartitionCount.{PartitionCount}
use Rattle.operators.specs.declared.answers.PartitionCount.TheVariants.{Sum, Fixed}
use Rattle.operators.specs.declared.answers.KnownEmpty.{KnownEmpty}
use Rattle.operators.specs.declared.answers.KnownEmpty.TheVariants.{Never, Always, IfAllChildren}
use Rattle.operators.specs.Answers.{Answers}

-- kinds 0 to 3 and 5 have no parameter but 0
abbrev pub no_parameter : ℕ → Bool
no_parameter k = nat_le k 3 || k == coalesce_partitions

-- kinds 0 and 1 have no children, 2 to 9 one, 10 to 15 never fit
abbrev pub fits_kind : Answers → ℕ → ℕ → ℕ → Bool
fits_kind a k p n =
    cond (nat_lt k first_operator)
    (nat_le k aggregate && n == cond (nat_le k placeholder_row) 0 1 && cond (no_parameter k) (p == 0) (a.fits k p n))
    (a.fits k p n)

-- whether a parameter and a child count fit a kind
abbrev pub fits_of : Answers → ℕ → ℕ → ℕ → Bool
fits_of a k p n = nat_le n max_children && nat_le p max_parameter && fits_kind a k p n

-- an answer lets limits pass
abbrev pub passes : LimitsPass → Bool
passes No = false
passes RowForRow = true

-- kinds 4 to 6 pass limits
abbrev pub passes_limits : Answers → ℕ → ℕ → Bool
passes_limits a k p = cond (nat_lt k first_operator) (nat_le projection k && nat_le k sort_preserving_merge) (passes (a.limits_pass k p))

-- limits and kinds 5 to 7 take a fetch
abbrev pub takes_fetch : Answers → ℕ → ℕ → Bool
takes_fetch a k p = cond (nat_lt k first_operator) (is_limit k || nat_le coalesce_partitions k && nat_le k sort) (a.fetch k p)

-- below 16 limits alone take a mark
abbrev pub takes_mark : Answers → ℕ → ℕ → Bool
takes_mark a k p = cond (nat_lt k first_operator) (is_limit k) (a.mark k p)

-- kinds 4 to 6 give as many rows as they read
abbrev pub effect_of : Answers → ℕ → ℕ → CardinalityEffect
effect_of a k p = cond (nat_lt k first_operator) (cond (nat_le projection k && nat_le k sort_preserving_merge) Equal Unknown) (a.effect k p)

-- kinds 0, 1, 2, 5 and 6 have one partition
abbrev pub one_partition : ℕ → Bool
one_partition k = nat_le k global_limit || k == coalesce_partitions || k == sort_preserving_merge

-- a node's partitions, if its children have so many together
abbrev pub count_by : PartitionCount → ℕ → ℕ
count_by Sum total = total
count_by (Fixed n) total = n

-- a node's partitions, if its children have so many in all
abbrev pub partitions_of : Answers → ℕ → ℕ → ℕ → ℕ
partitions_of a k p total = cond (nat_lt k first_operator) (cond (one_partition k) 1 total) (count_by (a.partitions k p) total)

-- a node is known empty, given whether all its children are
abbrev pub empty_by : KnownEmpty → Bool → Bool
empty_by Never all = false
empty_by Always all = true
empty_by IfAllChildren all = all

-- whether a node is known to give no rows, if it is known or not that all its children give none
abbrev pub empty_of : Answers → ℕ → ℕ → Bool → Bool
empty_of a k p all =
    cond (nat_lt k first_operator)
    (cond (k == empty) true (cond (k == placeholder_row || k == aggregate) false all))
    (empty_by (a.known_empty k p) all)
