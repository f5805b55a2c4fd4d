-- At the end all places have been tested.
use Rattle.std.proofs.Common.{◌≡◌, not, is_some, ◌∙◌, ap, rules}
use Rattle.standing_laws.specs.Below.{all_below}
use Rattle.disk_reading.specs.Seen.{store_in}
use Rattle.disk_reading.proofs.marks.has_no_entries.Goals as goal

pub returns : goal.returns
returns c =
    let e : c.loop-p.p ≡ 56 = search rules in
    c.loop-p.invariant ∙ ap (λ n. all_below n (λ p. not (is_some ((store_in c.args.segments c.args.disk.now).place c.args.block p)))) e
