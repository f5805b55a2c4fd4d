-- Its number, its bytes and its cover.
use Rattle.std.proofs.Common.{◌∙◌, sym}
use Rattle.disk_definitions.proofs.Lists.{all_numbers}
use Rattle.planned_lines.proofs.Setting.{same_set}
use Rattle.planned_lines.proofs.bytes.large_set.Goals as goal

pub returns : goal.returns
returns c = same_set _ _ _ _ _ _ c.sector_of.ensures (c.copy_of.ensures.same ∙ sym (all_numbers c.args.bytes.now 512 c.copy_of.ensures.long)) c.large_cover.ensures
