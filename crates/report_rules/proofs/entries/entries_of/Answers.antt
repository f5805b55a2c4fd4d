-- At the end all have been counted.
use Rattle.std.proofs.Common.{◌≡◌, is_some, ◌∙◌, ap, rules}
use Rattle.std.specs.Option.{option_map}
use Rattle.disk_definitions.specs.Store.{stored}
use Rattle.disk_reading.specs.Seen.{store_in}
use Rattle.report_definitions.specs.View.{entry_in}
use Rattle.report_definitions.specs.Sums.{count_below}
use Rattle.report_rules.specs.Entries.{entries_in}
use Rattle.report_rules.proofs.entries.entries_of.Goals as goal

pub returns : goal.returns
unfolding entries_in
returns c =
    let e : c.loop-q.q ≡ 896 = search rules in
    c.loop-q.invariant.counted ∙ ap (λ n. count_below n (λ q. is_some (entry_in (store_in c.args.segments c.args.disk.now) (option_map stored c.args.inode.now) q))) e
