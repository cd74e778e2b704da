use Rattle.rows.proofs.Passed.{passed}
use Rattle.rows.proofs.Base.{rows_count}
use Rattle.rows.proofs.laws.one_root.Goals as goal

pub returns : goal.returns
returns c = λ a m cells h. rows_count m 1 cells (passed a cells h).tree
