use Rattle.std.proofs.Common.{◌≡◌, ◌*◌, ◌<◌, take, drop}
use Rattle.std.specs.List.{AllByRecursion}
use Rattle.records.specs.Record.{record_size}
use Rattle.records.specs.Plans.{packed_plan}
use Rattle.records.proofs.plans.write_plan.Given as goal

abbrev pub invariant-loop-place : goal.invariant-loop-place
invariant-loop-place l = record {
  written : take (record_size * l.place) l.out ≡ packed_plan (take l.place l.cells);
  left : drop (record_size * l.place) l.out ≡ drop (record_size * l.place) l.initial.out;
  kinds : AllByRecursion (λ c. c.kind < 256) (take l.place l.cells);
}
