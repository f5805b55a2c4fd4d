-- By the bits of the segment, where it is held.
use Rattle.std.proofs.Common.{rules, ◌≡◌, Some, None, sym, ap, ◌∙◌}
use Rattle.std.specs.Option.{option_copied}
use Rattle.disk_definitions.specs.Held.{bitmap_of}
use Rattle.bitmap_alloc.proofs.Segments.{inodes_of, inodes_missing}
use Rattle.bitmap_alloc.proofs.pick.free_inode.Goals as goal

pub returns-in_err-bitmap-clause-least : goal.returns-in_err-bitmap-clause-least
returns-in_err-bitmap-clause-least c =
    let none : bitmap_of c.args.held.now c.args.k ≡ None = sym c.get.ensures ∙ ap option_copied c.in_err-bitmap.was in
    let result : c.from_residual.result ≡ None = search rules in
    result ∙ inodes_missing c.args.held.now c.args.k none

pub returns-clause-least : goal.returns-clause-least
returns-clause-least c =
    let there : bitmap_of c.args.held.now c.args.k ≡ Some c.in_ok-bitmap.bitmap.now = sym c.get.ensures ∙ ap option_copied c.in_ok-bitmap.was in
    c.free_inode_of.ensures.least ∙ inodes_of c.args.held.now c.args.k c.in_ok-bitmap.bitmap.now there
