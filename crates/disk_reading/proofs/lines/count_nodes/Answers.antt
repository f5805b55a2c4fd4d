-- At the end all have been counted.
use Rattle.std.proofs.Common.{◌≡◌, ◌*◌, ◌∙◌, length, ap, rules}
use Rattle.standing_laws.specs.ReadTree.{nodes_to}
use Rattle.disk_reading.specs.Seen.{store_in}
use Rattle.disk_reading.proofs.lines.count_nodes.Goals as goal

pub returns : goal.returns
returns c =
    let e : c.loop-i.i ≡ 64 * c.args.segments = search rules in
    c.loop-i.invariant.counted ∙ ap (λ n. length (nodes_to (store_in c.args.segments c.args.disk.now) n)) e
