-- At the end all have been tested.
use Rattle.std.proofs.Common.{◌≡◌, ◌+◌, ◌*◌, ◌∙◌, ap, rules}
use Rattle.standing_laws.specs.Below.{all_below}
use Rattle.disk_reading.specs.Marks.{flag_at}
use Rattle.disk_reading.specs.Seen.{store_in}
use Rattle.report_definitions.specs.Rules.{is_first_within, used}
use Rattle.report_rules.specs.Seen.{stored}
use Rattle.report_rules.proofs.inodes.are_small_fine.Goals as goal

pub returns : goal.returns
returns c =
    let e : c.loop-j.j ≡ 16 = search rules in
    c.loop-j.invariant ∙ ap (λ n. all_below n (λ j. is_first_within (1024 * c.args.segments) (used (stored c.args.segments (store_in c.args.segments c.args.disk.now)) (flag_at c.args.tables.now.reached)) (16 * c.args.i + j))) e
