use Rattle.std.proofs.Common.{◌≡◌, length, arith, rules}
use Rattle.packed_calls.specs.Converts.{output}
use Rattle.packed_calls.proofs.Keeping.{output_keeps, runs_keep_bytes}
use Rattle.packed_calls.proofs.Places.{coded}
use Rattle.packed_calls.proofs.converting.convert_most.Goals as goal

pub code-requires : goal.code-requires
code-requires g c = grind (arith, coded)

pub returns : goal.returns
returns g c =
    let a = g.O.OperatorSet.answers c.args.set.now in
    let room = length c.args.out.now in
    let bytes : c.convert_some.new.out ≡ output a g.row.MOST c.args.rule c.args.plan.now room = search rules in
    record {
      answered = search rules;
      written = bytes;
      pages = output_keeps a g.row.MOST c.args.rule c.args.plan.now room c.convert_some.new.out bytes;
      runs = runs_keep_bytes a g.row.MOST;
    }
