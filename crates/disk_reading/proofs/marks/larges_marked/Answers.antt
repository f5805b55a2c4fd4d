-- At the end all inodes have been tested.
use Rattle.std.proofs.Common.{◌≡◌, ◌*◌, ◌∙◌, ap, rules}
use Rattle.standing_laws.specs.Below.{all_below}
use Rattle.standing_laws.specs.Soundness.{is_marked, large_at}
use Rattle.disk_reading.specs.Seen.{store_in}
use Rattle.disk_reading.proofs.marks.larges_marked.Goals as goal

pub returns : goal.returns
returns c =
    let s = store_in c.args.segments c.args.disk.now in
    let e : c.loop-i.i ≡ 64 * c.args.segments = search rules in
    c.loop-i.invariant ∙ ap (λ n. all_below n (λ i. is_marked s (large_at s i))) e
