-- By the inode in use.
use Rattle.std.proofs.Common.{◌≡◌, Some, sym, ◌∙◌, ap}
use Rattle.std.specs.Option.{option_map}
use Rattle.disk_definitions.specs.Store.{stored}
use Rattle.disk_reading.specs.Seen.{store_in}
use Rattle.disk_reading.proofs.Marked.{large_few}
use Rattle.disk_reading.proofs.nodes.add_inode.Goals as goal

pub read_node-requires-clause-large : goal.read_node-requires-clause-large
read_node-requires-clause-large c =
    let s = store_in c.args.segments c.args.disk.now in
    let e : s.inode c.args.i ≡ Some (stored c.in-Some.inode) = sym c.used_inode.ensures.is ∙ ap (option_map stored) c.in-Some.is in
    large_few c.args.segments (s.inode c.args.i) c.in-Some.inode e c.requires.few c.requires.large
