use Rattle.std.proofs.Common.{◌≡◌, true, List, length, take, sym, subst, arith, w32, to_z, of_z, rules}
use Rattle.std.proofs.lemmas.Slice.Zip.{AllZip-map}
use Rattle.operators.specs.declared.answers.WindowExpr.{WindowExpr}
use Rattle.packed_calls.specs.Laws.{PackedCalled}
use Rattle.driver.specs.Reading.{expr_of, exprs_of}
use Rattle.driver.specs.Tables.{sized, table_answers}
use Rattle.driver.proofs.Small.{read_sized}
use Rattle.driver.proofs.exports.driver_table.Goals as goal

pub invariant_of-set : goal.invariant_of-set
invariant_of-set c =
    let read : take c.read_rows-count.result c.read_rows-count.new.read ≡ exprs_of c.args.exprs.now = AllZip-map expr_of _ _ c.read_rows-count.ensures.rows in
    record { small = subst (λ (es : List WindowExpr). sized es c.clamp.result ≡ true) (sym read) (read_sized (take 256 c.args.exprs.now) c.clamp.result (omega arith) (omega arith)) }

pub returns : goal.returns
returns c =
    let read : take c.read_rows-count.result c.read_rows-count.new.read ≡ exprs_of c.args.exprs.now = AllZip-map expr_of _ _ c.read_rows-count.ensures.rows in
    let answer : c.convert_large.result ≡ to_z w32 (of_z w32 c.convert_large.result) = search rules in
    coe 0 1 (i. PackedCalled (table_answers c.args.operators.now (read i) (c.clamp.ensures i) c.args.groups.now) 4096 (c.rule_of.ensures i) c.args.plan.now (length c.args.out.now) c.convert_large.new.out (answer i)) c.convert_large.ensures
