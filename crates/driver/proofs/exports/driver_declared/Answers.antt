use Rattle.std.proofs.Common.{◌≡◌, length, take, w32, to_z, of_z, rules}
use Rattle.std.proofs.lemmas.Slice.Zip.{AllZip-map}
use Rattle.operators.specs.Declarations.{declared_answers}
use Rattle.packed_calls.specs.Laws.{PackedCalled}
use Rattle.driver.specs.Reading.{declaration_of, declarations_of}
use Rattle.driver.specs.Tables.{held}
use Rattle.driver.proofs.exports.driver_declared.Goals as goal

pub returns : goal.returns
returns c =
    let read : take c.read_rows-count.result c.read_rows-count.new.read ≡ declarations_of c.args.rows.now = AllZip-map declaration_of _ _ c.read_rows-count.ensures.rows in
    let holds : c.read.new.self.declarations.now ≡ held (declarations_of c.args.rows.now) = search rules in
    let answer : c.convert_large.result ≡ to_z w32 (of_z w32 c.convert_large.result) = search rules in
    coe 0 1 (i. PackedCalled (declared_answers (holds i)) 4096 (c.rule_of.ensures i) c.args.plan.now (length c.args.out.now) c.convert_large.new.out (answer i)) c.convert_large.ensures
