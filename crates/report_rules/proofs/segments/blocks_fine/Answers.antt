-- At the end all have been tested.
use Rattle.std.proofs.Common.{◌≡◌, ◌+◌, ◌*◌, ◌∙◌, ap, rules}
use Rattle.standing_laws.specs.Below.{all_below}
use Rattle.disk_reading.specs.Marks.{flag_at}
use Rattle.report_definitions.specs.Rules.{is_block_fine}
use Rattle.report_rules.specs.Seen.{view_in}
use Rattle.report_rules.proofs.segments.blocks_fine.Goals as goal

pub returns : goal.returns
returns c =
    let e : c.loop-j.j ≡ 1024 = search rules in
    c.loop-j.invariant ∙ ap (λ n. all_below n (λ j. is_block_fine (view_in c.args.most c.args.segments c.args.disk.now) (flag_at c.args.tables.now.reached) (1024 * c.args.k + j))) e
