-- The bytes so far, before those of the digits that are left, are the bytes of all digits.
use Rattle.std.proofs.Common.{◌≡◌, ◌++◌, length}
use Rattle.std.specs.Option.{option_map}
use Rattle.script_definitions.specs.SaidReading.{hex_bytes}
use Rattle.reply_text.proofs.parts.hex_bytes.Given as goal

abbrev pub invariant-loop-rest : goal.invariant-loop-rest
invariant-loop-rest l = option_map (λ bs. l.bytes ++ bs) (hex_bytes l.rest) ≡ hex_bytes l.fn.digits

abbrev pub decreases-loop-rest : goal.decreases-loop-rest
decreases-loop-rest l = length l.rest
