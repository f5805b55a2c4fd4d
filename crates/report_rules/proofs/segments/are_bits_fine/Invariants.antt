use Rattle.std.proofs.Common.{◌≡◌, ◌+◌, ◌*◌}
use Rattle.standing_laws.specs.Below.{all_below}
use Rattle.disk_reading.specs.Marks.{flag_at}
use Rattle.disk_reading.specs.Seen.{store_in}
use Rattle.report_definitions.specs.Rules.{is_bit_fine}
use Rattle.report_rules.specs.Seen.{stored}
use Rattle.report_rules.proofs.segments.are_bits_fine.Given as goal

abbrev pub invariant-loop-j : goal.invariant-loop-j
invariant-loop-j l = l.all ≡ all_below l.j (λ j. is_bit_fine (stored l.segments (store_in l.segments l.disk)) (flag_at l.reached) (64 * l.k + j))
