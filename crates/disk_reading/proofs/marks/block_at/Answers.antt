-- By the inode in use.
use Rattle.std.proofs.Common.{◌≡◌, ◌/◌, ◌%◌, Some, sym, ◌∙◌, ap, rules}
use Rattle.std.specs.Option.{option_map}
use Rattle.disk_definitions.specs.Store.{stored}
use Rattle.disk_reading.specs.Seen.{store_in}
use Rattle.disk_reading.proofs.Marked.{block_then, block_else}
use Rattle.disk_reading.proofs.marks.block_at.Goals as goal

pub returns-then-j-from : goal.returns-then-j-from
returns-then-j-from c =
    let s = store_in c.args.segments c.args.disk.now in
    let e : s.inode (c.args.t / 16) ≡ Some (stored c.in_ok-inode.inode) = sym c.used_inode.ensures.is ∙ ap (option_map stored) c.in_ok-inode.was in
    block_then (s.inode (c.args.t / 16)) c.in_ok-inode.inode (c.args.t % 16) e (search rules)

pub returns-else-j-from : goal.returns-else-j-from
returns-else-j-from c =
    let s = store_in c.args.segments c.args.disk.now in
    let e : s.inode (c.args.t / 16) ≡ Some (stored c.in_ok-inode.inode) = sym c.used_inode.ensures.is ∙ ap (option_map stored) c.in_ok-inode.was in
    block_else (s.inode (c.args.t / 16)) c.in_ok-inode.inode (c.args.t % 16) e (search rules)
