-- Two digits more that are a byte.
use Rattle.std.proofs.Common.{◌≡◌, ◌∙◌, ◌++◌, ◌∷◌, ◌≤◌, [], Some, length, get_or, arith, rules}
use Rattle.std.proofs.lemmas.Grind.{common_steps}
use Rattle.script_definitions.specs.SaidReading.{byte_at}
use Rattle.script_definitions.proofs.PartsLaws.{byte_turn}
use Rattle.reply_text.proofs.parts.hex_bytes.Goals as goal

pub loop-rest-preserved : goal.loop-rest-preserved
loop-rest-preserved c =
    let digits = c.loop-rest.rest.now in
    let pushed : c.push.new.self ≡ c.loop-rest.bytes ++ c.in-Some.byte ∷ [] = c.in_ok-push.ensures.ok in
    let long : 2 ≤ length digits = omega arith in
    let at : byte_at (get_or digits 0 0) (get_or digits 1 0) ≡ Some c.in-Some.byte = first_of (cc, search rules, grind (arith, common_steps)) in
    rw pushed (byte_turn c.loop-rest.bytes digits c.in-Some.byte long at ∙ c.loop-rest.invariant)
