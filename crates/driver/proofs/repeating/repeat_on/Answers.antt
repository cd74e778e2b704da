use Rattle.std.proofs.Common.{◌∙◌, sym, replicate, arith, rules}
use Rattle.plan.specs.Cells.{blank}
use Rattle.driver.proofs.Repeats.{repeated_plan}
use Rattle.driver.proofs.repeating.repeat_on.Goals as goal

pub returns-in_err-count : goal.returns-in_err-count
returns-in_err-count c = search rules

pub returns : goal.returns
returns c =
    c.repeat_front.ensures
    ∙ repeated_plan c.args.times c.args.rule c.args.plan.now (replicate 8192 blank) c.unpack.new.table c.in_ok-count.count (search rules) (sym c.in_ok-count.was ∙ c.unpack.ensures.answer) c.unpack.ensures.cells (omega arith)
