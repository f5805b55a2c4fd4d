-- A block that isn't zeros is set.
use Rattle.std.proofs.lemmas.Result.{on_ok_weaker}
use Rattle.disk_saving.proofs.Reading.{set_is_kept}
use Rattle.disk_saving.proofs.save.keep.Goals as goal

pub returns-else-is_zero_block : goal.returns-else-is_zero_block
returns-else-is_zero_block c = on_ok_weaker c.set.result (set_is_kept c.args.disk.now c.set.new.self c.args.sector.0 c.args.block) c.set.ensures.ok
