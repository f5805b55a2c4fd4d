-- The bytes are added at the end.
use Rattle.std.proofs.Common.{◌≡◌, ◌-◌, ◌*◌, length, min, ◌∙◌, ap, rules, arith}
use Rattle.sector_bytes.specs.Sectors.{sectors_of}
use Rattle.disk_definitions.specs.Store.{stored}
use Rattle.standing_laws.specs.ReadTree.{byte_at}
use Rattle.standing_laws.proofs.Pictured.{length_cells}
use Rattle.disk_reading.specs.Files.{data_sector}
use Rattle.disk_reading.specs.Seen.{store_in}
use Rattle.disk_reading.proofs.Cells.{sector_added}
use Rattle.disk_reading.proofs.files.add_sector.Goals as goal

pub overwrite-requires-clause-begins : goal.overwrite-requires-clause-begins
overwrite-requires-clause-begins c =
    let l : length c.args.cells.now ≡ c.args.part * 512 = ap length c.requires.before ∙ length_cells (byte_at (store_in c.args.segments c.args.disk.now) (stored c.args.inode.now)) (c.args.part * 512) in
    omega arith

pub returns : goal.returns
unfolding store_in
returns c =
    let o = c.in_ok-overwrite.ensures.ok in
    let b : c.get-block.result ≡ sectors_of c.args.disk.now (data_sector (stored c.args.inode.now) c.args.part) = c.get-block.ensures ∙ ap (sectors_of c.args.disk.now) c.data_sector.ensures in
    let l : length c.get-block.result ≡ 512 = search rules in
    let n : c.min-len.result ≡ min 512 (c.args.inode.now.size - c.args.part * 512) = search rules in
    o ∙ sector_added c.args.segments (sectors_of c.args.disk.now) (stored c.args.inode.now) c.args.part c.args.inode.now.size c.min-len.result c.args.cells.now c.get-block.result b l c.requires.within n c.requires.before
