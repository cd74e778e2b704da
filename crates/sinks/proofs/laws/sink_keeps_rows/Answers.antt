use Rattle.rows.proofs.Passed.{passed}
use Rattle.sinks.proofs.Sinking.{sunk_rows}
use Rattle.sinks.proofs.laws.sink_keeps_rows.Goals as goal

pub returns : goal.returns
returns c = λ a m rules cells accepted. let p = passed a cells accepted in sunk_rows a m rules cells p.tree p.fit p.fields
