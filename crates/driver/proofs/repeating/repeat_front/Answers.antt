use Rattle.std.proofs.Common.{◌≡◌, ℕ, ◌*◌, ◌≤◌, length, take, replicate, sym, ap, ◌∙◌, arith}
use Rattle.std.proofs.lemmas.List.{length-take-le, length-replicate, take-replicate}
use Rattle.plan.specs.Cells.{blank}
use Rattle.checks.specs.Facts.{blank_fact}
use Rattle.limits.specs.Calls.{lent_of}
use Rattle.limits.specs.Pending.{blank_pending}
use Rattle.driver.specs.Repeating.{repeated}
use Rattle.driver.proofs.repeating.repeat_front.Goals as goal

-- the front of blank memory is as long as asked
front : {A : Type 0} (size : ℕ) (x : A) (n : ℕ) → n ≤ size → length (take n (replicate size x)) ≡ n
front size x n h = ap length (take-replicate n size x h) ∙ length-replicate n x

pub repeat_call-requires : goal.repeat_call-requires
repeat_call-requires c = front 8192 blank (2 * c.args.count) (omega arith) ∙ sym (length-take-le (2 * c.args.count) c.args.saved.now c.requires.saved)

pub returns : goal.returns
returns c =
    let n = c.args.count in
    let work = front 8192 blank (2 * n) (omega arith) in
    let requirements = front 4096 blank_pending n (omega arith) in
    let facts = front 4096 blank_fact n (omega arith) in
    c.repeat_call.ensures ∙ (λ i. repeated c.args.times c.args.rule (take (2 * n) c.args.saved.now) n (lent_of (work i) (requirements i) (facts i)))
