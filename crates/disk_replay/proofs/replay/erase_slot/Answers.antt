-- The sector is set to zeros, or was never set.
use Rattle.std.proofs.Common.{◌≡◌, sym, ap, ◌∙◌}
use Rattle.std.specs.BTreeMap.{insert_entry}
use Rattle.std.specs.Ordering.{nat_cmp}
use Rattle.std.proofs.lemmas.Result.{on_ok_weaker}
use Rattle.frang_base.specs.Functions.{put}
use Rattle.sector_bytes.specs.Bytes.{zeros}
use Rattle.sector_bytes.specs.Sectors.{sectors_of}
use Rattle.disk_replay.specs.Laid.{slot_sector}
use Rattle.disk_replay.proofs.ErasedLogs.{set_is_put, unset_is_put}
use Rattle.disk_replay.proofs.replay.erase_slot.Goals as goal

pub returns-then-is_there : goal.returns-then-is_there
returns-then-is_there c =
    let es = c.args.disk.now in
    let k = c.sector_of-sector.result.0 in
    let at : k ≡ slot_sector c.args.n = c.sector_of-sector.ensures in
    on_ok_weaker c.set.result
    (λ e sector. ap (λ xs. sectors_of xs sector) (e ∙ ap (insert_entry nat_cmp es k) c.zero_block.ensures) ∙ set_is_put es k (zeros 512) sector ∙ ap (λ j. put (sectors_of es) j (zeros 512) sector) at)
    c.set.ensures.ok

pub returns-else-is_there : goal.returns-else-is_there
returns-else-is_there c =
    let es = c.args.disk.now in
    let k = c.sector_of-sector.result.0 in
    let at : k ≡ slot_sector c.args.n = c.sector_of-sector.ensures in
    λ sector. unset_is_put es k (sym c.is_there.ensures ∙ c.if-is_there.false) sector ∙ ap (λ j. put (sectors_of es) j (zeros 512) sector) at
