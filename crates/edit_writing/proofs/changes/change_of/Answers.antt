-- By the block of the sector.
use Rattle.std.proofs.Common.{◌≡◌, ◌<◌, ◌-◌, ◌^◌, ◌&&◌, IfOk, nat_le, nat_lt, subst, sym}
use Rattle.std.proofs.lemmas.Bool.{ltb-true}
use Rattle.sector_bytes.specs.Bytes.{number_at}
use Rattle.disk_definitions.specs.Standing.{version_at}
use Rattle.plan_steps.specs.Edits.{edits_of}
use Rattle.edit_writing.specs.Sectors.{at_hand}
use Rattle.edit_writing.proofs.Changed.{same_change}
use Rattle.edit_writing.proofs.changes.change_of.Goals as goal

pub change_between-requires : goal.change_between-requires
change_between-requires c = subst (λ block. number_at 8 0 block < 2 ^ 64 - 1) (sym c.block_at_hand-old.ensures) (ltb-true (version_at (at_hand c.args.hand.now) c.args.sector.0) (2 ^ 64 - 1) c.requires.version)

pub returns : goal.returns
returns c =
    let same = same_change (at_hand c.args.hand.now) (edits_of c.args.edits.now) c.args.sector.0 c.block_at_hand-old.result c.edited-new.result (λ at. nat_le c.forced_in.result.start at && nat_lt at c.forced_in.result.end) c.forced_in.ensures c.block_at_hand-old.ensures c.edited-new.ensures in
    subst (λ x. IfOk c.change_between.result (λ change. change ≡ x)) same c.change_between.ensures
