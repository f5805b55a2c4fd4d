-- The block that is decoded is that of the inode's sector.
use Rattle.std.proofs.Common.{[], ◌∷◌, ap, sym, ◌∙◌}
use Rattle.std.specs.Option.{option_map}
use Rattle.disk_definitions.specs.Store.{stored}
use Rattle.disk_definitions.specs.Ask.{Got, ReadInode}
use Rattle.dir_lookup.specs.Looks.{looks_of}
use Rattle.dir_lookup.specs.Reading.{read_of}
use Rattle.dir_lookup.proofs.Looking.{adds_as, adds_none, inode_looked, inode_missing}
use Rattle.dir_lookup.proofs.Readings.{inode_reads}
use Rattle.dir_lookup.proofs.sectors.inode_at.Goals as goal

pub returns-clause-reads : goal.returns-clause-reads
returns-clause-reads c held =
    inode_reads c.args.sectors.now.entries c.args.i c.sector_of-sector.result.0 c.in_ok-block.block.now (option_map stored c.used_inode.result) held c.sector_of-sector.ensures
    (sym (ap (read_of (λ block. block.now)) c.in_ok-block.was) ∙ c.block_at.ensures) c.used_inode.ensures.is

pub returns-in_err-block-clause-looks : goal.returns-in_err-block-clause-looks
returns-in_err-block-clause-looks c held =
    adds_as _ _ [] (looks_of (ReadInode c.args.i Got) c.args.sectors.now.entries held)
    (inode_missing c.args.sectors.now.entries c.args.i c.sector_of-sector.result.0 c.in_err-block.field-0.0.0.0 held c.sector_of-sector.ensures (sym (ap (read_of (λ block. block.now)) c.in_err-block.was) ∙ c.block_at.ensures)) (adds_none _)

pub returns-clause-looks : goal.returns-clause-looks
returns-clause-looks c held =
    adds_as _ _ (c.sector_of-sector.result.0 ∷ []) (looks_of (ReadInode c.args.i Got) c.args.sectors.now.entries held)
    (inode_looked c.args.sectors.now.entries c.args.i c.sector_of-sector.result.0 c.in_ok-block.block.now held c.sector_of-sector.ensures (sym (ap (read_of (λ block. block.now)) c.in_ok-block.was) ∙ c.block_at.ensures)) c.add.ensures
