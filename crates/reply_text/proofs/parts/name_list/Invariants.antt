-- The names so far, before those of the parts that are left, are the names of all parts.
use Rattle.std.proofs.Common.{◌≡◌, ◌++◌, length}
use Rattle.std.specs.Option.{option_copied, option_map}
use Rattle.frang_base.specs.PathText.{parts_left}
use Rattle.script_definitions.specs.SaidReading.{names_of}
use Rattle.reply_text.proofs.parts.name_list.Given as goal

abbrev pub invariant-loop-rest : goal.invariant-loop-rest
invariant-loop-rest l = option_map (λ ns. l.names ++ ns) (names_of (parts_left 32 (option_copied l.rest))) ≡ names_of (parts_left 32 (option_copied l.fn.rest))

abbrev pub decreases-loop-rest : goal.decreases-loop-rest
decreases-loop-rest l = length (parts_left 32 (option_copied l.rest))
