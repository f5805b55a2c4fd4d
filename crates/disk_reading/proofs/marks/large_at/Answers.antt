-- By the inode in use.
use Rattle.std.proofs.Common.{◌≡◌, Some, sym, ◌∙◌, ap, rules}
use Rattle.std.specs.Option.{option_map}
use Rattle.disk_definitions.specs.Store.{stored}
use Rattle.disk_reading.specs.Seen.{store_in}
use Rattle.disk_reading.proofs.Marked.{large_then, large_else}
use Rattle.disk_reading.proofs.marks.large_at.Goals as goal

pub returns-then-inode-gt0 : goal.returns-then-inode-gt0
returns-then-inode-gt0 c =
    let s = store_in c.args.segments c.args.disk.now in
    let e : s.inode c.args.i ≡ Some (stored c.in_ok-inode.inode) = sym c.used_inode.ensures.is ∙ ap (option_map stored) c.in_ok-inode.was in
    large_then (s.inode c.args.i) c.in_ok-inode.inode e (search rules)

pub returns-else-inode-gt0 : goal.returns-else-inode-gt0
returns-else-inode-gt0 c =
    let s = store_in c.args.segments c.args.disk.now in
    let e : s.inode c.args.i ≡ Some (stored c.in_ok-inode.inode) = sym c.used_inode.ensures.is ∙ ap (option_map stored) c.in_ok-inode.was in
    large_else (s.inode c.args.i) c.in_ok-inode.inode e (search rules)
