use Rattle.std.proofs.Common.{◌≡◌, ◌+◌, ◌<◌, [], drop, is_ok, string_bytes, ap, arith, rules}
use Rattle.std.proofs.ResultArms.{chosen}
use Rattle.std.proofs.lemmas.List.{at_drop_more}
use Rattle.std.proofs.lemmas.Grind.{common_steps}
use Rattle.std.proofs.ByRecursion.{All-from_get_or}
use Rattle.text.specs.Hex.{hex_text}
use Rattle.text.proofs.Pairs.{hex_back, two_more}
use Rattle.text.proofs.hex.write_hex.Goals as goal

pub loop-byte-preserved : goal.loop-byte-preserved
loop-byte-preserved c =
    let step = at_drop_more hex_text c.args.bytes.now c.loop-byte.byte-index 0 c.loop-byte-test.true in
    let one = chosen _ _ _ _ c.push.ensures.bytes (ap is_ok c.in_ok-push.was) in
    let two = chosen _ _ _ _ c.push-in-loop-byte.ensures.bytes (ap is_ok c.in_ok-push-2.was) in
    let first = c.push.ensures.ascii c.digit_char.ensures.ascii in
    let second = c.push-in-loop-byte.ensures.ascii c.digit_char-in-loop-byte.ensures.ascii in
    let joined = two_more (string_bytes c.loop-byte.out) (hex_text (drop (c.loop-byte.byte-index + 1) c.args.bytes.now)) c.digit_char.result c.digit_char-in-loop-byte.result in
    cc

pub returns-clause-back : goal.returns-clause-back
returns-clause-back c =
    let bs = c.args.bytes.now in
    let written : string_bytes c.loop-byte.out ≡ hex_text bs = grind (arith, common_steps) in
    rw written (hex_back bs [] 0 (All-from_get_or (λ b. b < 256) bs 0 (λ i h. search rules)))
