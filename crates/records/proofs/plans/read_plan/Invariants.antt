use Rattle.std.proofs.Common.{◌≡◌, map, take, drop}
use Rattle.records.specs.Record.{values_in, cell_of}
use Rattle.records.proofs.plans.read_plan.Given as goal

abbrev pub invariant-loop-place : goal.invariant-loop-place
invariant-loop-place l = record {
  read : take l.place l.table ≡ map cell_of (map values_in (take l.place l.records));
  left : drop l.place l.table ≡ drop l.place l.initial.table;
}
