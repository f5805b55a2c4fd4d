-- At the end all have been tested.
use Rattle.std.proofs.Common.{◌≡◌, ◌+◌, ◌*◌, ◌∙◌, ap, rules}
use Rattle.standing_laws.specs.Below.{all_below}
use Rattle.disk_reading.specs.Marks.{flag_at}
use Rattle.disk_reading.specs.Seen.{store_in}
use Rattle.report_definitions.specs.Rules.{is_bit_fine}
use Rattle.report_rules.specs.Seen.{stored}
use Rattle.report_rules.proofs.segments.are_bits_fine.Goals as goal

pub returns : goal.returns
returns c =
    let e : c.loop-j.j ≡ 64 = search rules in
    c.loop-j.invariant ∙ ap (λ n. all_below n (λ j. is_bit_fine (stored c.args.segments (store_in c.args.segments c.args.disk.now)) (flag_at c.args.reached.now) (64 * c.args.k + j))) e
