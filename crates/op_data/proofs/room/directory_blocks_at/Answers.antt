-- By whether the segment is held.
use Rattle.std.proofs.Common.{◌≡◌, Some, None, sym, ap, ◌∙◌}
use Rattle.std.specs.Option.{option_copied}
use Rattle.disk_definitions.specs.Held.{bitmap_of}
use Rattle.op_data.proofs.Counting.{segment_missing, segment_there}
use Rattle.op_data.proofs.room.directory_blocks_at.Goals as goal

pub returns-in-Some-clause-is : goal.returns-in-Some-clause-is
returns-in-Some-clause-is c =
    let there : bitmap_of c.args.held.now c.args.k ≡ Some c.in-Some.bitmap.now = sym c.get.ensures ∙ ap option_copied c.in-Some.is in
    c.directory_blocks_in.ensures.is ∙ segment_there c.args.held.now c.args.k c.in-Some.bitmap.now there

pub returns-in-None-clause-is : goal.returns-in-None-clause-is
returns-in-None-clause-is c =
    let none : bitmap_of c.args.held.now c.args.k ≡ None = sym c.get.ensures ∙ ap option_copied c.in-None.is in
    segment_missing c.args.held.now c.args.k none
