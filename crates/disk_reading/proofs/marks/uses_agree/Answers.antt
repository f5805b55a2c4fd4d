-- At the end all places have been tested.
use Rattle.std.proofs.Common.{◌≡◌, ◌*◌, ◌/◌, ◌%◌, ◌∙◌, ap, rules}
use Rattle.standing_laws.specs.Below.{all_below}
use Rattle.standing_laws.specs.Soundness.{use_agrees}
use Rattle.disk_reading.specs.Seen.{store_in}
use Rattle.disk_reading.proofs.marks.uses_agree.Goals as goal

pub returns : goal.returns
returns c =
    let s = store_in c.args.segments c.args.disk.now in
    let e : c.loop-t.t ≡ 1024 * c.args.segments = search rules in
    c.loop-t.invariant ∙ ap (λ n. all_below n (λ t. use_agrees s (s.inode (t / 16)) (t % 16))) e
