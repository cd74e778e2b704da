use Rattle.rows.proofs.Passed.{passed, windows_pass}
use Rattle.rows.proofs.GrowKeeps.{grow_keeps}
use Rattle.rows.proofs.laws.grow_keeps_rows.Goals as goal

pub returns : goal.returns
returns c = λ a m rules cells h windows. grow_keeps a m rules cells (passed a cells h).fit (windows_pass a 0 0 cells windows)
