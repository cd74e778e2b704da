use Rattle.rows.proofs.Passed.{passed}
use Rattle.rows.proofs.HintKeeps.{hint_keeps}
use Rattle.rows.proofs.laws.hint_keeps_rows.Goals as goal

pub returns : goal.returns
returns c = λ a m rules cells h.
    let old = passed a cells h in
    hint_keeps a m rules cells old.tree old.fit old.fields old.hints
