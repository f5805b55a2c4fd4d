-- What the code's edits are in the definitions of changes.
use Rattle.std.specs.Prelude.{List, map, slice_index}
use Rattle.std.specs.Option.{option_map}
use Rattle.bitmap_block.specs.States.{state_number}
use Rattle.disk_definitions.specs.Store.{use_by, stored, entered}
use Rattle.disk_definitions.specs.Edits.{Edit, SetInode, SetBit, SetUse, SetPlace, SetLarge, SetBytes, SetLargeBytes}
use Rattle.plan_steps.specs.declared.edit.Edit.{Edit as CodeEdit}
use Rattle.plan_steps.specs.declared.edit.Edit.TheVariants as edit

abbrev pub edit_of : CodeEdit → Edit
edit_of (edit.Inode i x dated) = SetInode i (option_map stored x) dated
edit_of (edit.Bit i used) = SetBit i used
edit_of (edit.Use k state) = SetUse k (use_by (state_number state))
edit_of (edit.Place k p e) = SetPlace k p (option_map entered e)
edit_of (edit.Large g used) = SetLarge g used
edit_of (edit.Bytes k part bytes) = SetBytes k part (slice_index bytes)
edit_of (edit.LargeBytes g part bytes) = SetLargeBytes g part (slice_index bytes)

abbrev pub edits_of : List CodeEdit → List Edit
edits_of edits = map edit_of edits
