use Rattle.std.proofs.Common.{◌≡◌, ℕ, true, ltb, rules, refl}
use Rattle.plan.specs.Kinds.{first_operator}
use Rattle.operators.specs.Questions.{one_partition}
use Rattle.operators.proofs.questions.partitions.Goals as goal

pub returns-in-Empty-clause-value : goal.returns-in-Empty-clause-value
returns-in-Empty-clause-value g c =
    let k : ℕ = c.args.cell.now.kind in
    let low : ltb k first_operator ≡ true = search rules in
    let one : one_partition k ≡ true = search rules in
    rw low (rw one refl)
