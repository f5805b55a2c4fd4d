-- By the inode in use.
use Rattle.std.proofs.Common.{◌≡◌, ◌/◌, ◌%◌, Some, sym, ◌∙◌, ap, rules}
use Rattle.std.specs.Option.{option_map}
use Rattle.disk_definitions.specs.Store.{stored}
use Rattle.standing_laws.specs.Soundness.{is_used_for}
use Rattle.disk_reading.specs.Seen.{store_in}
use Rattle.disk_reading.proofs.Marked.{use_then, use_else}
use Rattle.disk_reading.proofs.marks.use_agrees.Goals as goal

pub returns-then-j-from : goal.returns-then-j-from
returns-then-j-from c =
    let s = store_in c.args.segments c.args.disk.now in
    let e : s.inode (c.args.t / 16) ≡ Some (stored c.in-Some.inode) = sym c.used_inode.ensures.is ∙ ap (option_map stored) c.in-Some.is in
    c.is_used_for.ensures ∙ ap (is_used_for c.in-Some.inode.kind) c.use_of.ensures ∙ use_then s (s.inode (c.args.t / 16)) c.in-Some.inode (c.args.t % 16) e (search rules)

pub returns-else-j-from : goal.returns-else-j-from
returns-else-j-from c =
    let s = store_in c.args.segments c.args.disk.now in
    let e : s.inode (c.args.t / 16) ≡ Some (stored c.in-Some.inode) = sym c.used_inode.ensures.is ∙ ap (option_map stored) c.in-Some.is in
    use_else s (s.inode (c.args.t / 16)) c.in-Some.inode (c.args.t % 16) e (search rules)
