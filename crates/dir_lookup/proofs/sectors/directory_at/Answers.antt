-- The block that is decoded is that of the part's sector.
use Rattle.std.proofs.Common.{[], ◌∷◌, ap, sym, ◌∙◌}
use Rattle.dir_lookup.specs.Stored.{entries_at}
use Rattle.disk_definitions.specs.Ask.{Got, ReadDirectory}
use Rattle.dir_lookup.specs.Looks.{looks_of}
use Rattle.dir_lookup.specs.Reading.{read_of}
use Rattle.dir_lookup.proofs.Looking.{adds_as, adds_none, directory_looked, directory_missing}
use Rattle.dir_lookup.proofs.Readings.{directory_reads}
use Rattle.dir_lookup.proofs.sectors.directory_at.Goals as goal

pub returns-clause-reads : goal.returns-clause-reads
returns-clause-reads c held =
    directory_reads c.args.sectors.now.entries c.args.block c.args.part c.sector_of-sector.result.0 c.in_ok-bytes.bytes.now (entries_at c.entries_of.result) held c.sector_of-sector.ensures
    (sym (ap (read_of (λ block. block.now)) c.in_ok-bytes.was) ∙ c.block_at.ensures) c.entries_of.ensures.is

pub returns-in_err-bytes-clause-looks : goal.returns-in_err-bytes-clause-looks
returns-in_err-bytes-clause-looks c held =
    adds_as _ _ [] (looks_of (ReadDirectory c.args.block c.args.part Got) c.args.sectors.now.entries held)
    (directory_missing c.args.sectors.now.entries c.args.block c.args.part c.sector_of-sector.result.0 c.in_err-bytes.field-0.0.0.0 held c.sector_of-sector.ensures (sym (ap (read_of (λ block. block.now)) c.in_err-bytes.was) ∙ c.block_at.ensures)) (adds_none _)

pub returns-clause-looks : goal.returns-clause-looks
returns-clause-looks c held =
    adds_as _ _ (c.sector_of-sector.result.0 ∷ []) (looks_of (ReadDirectory c.args.block c.args.part Got) c.args.sectors.now.entries held)
    (directory_looked c.args.sectors.now.entries c.args.block c.args.part c.sector_of-sector.result.0 c.in_ok-bytes.bytes.now held c.sector_of-sector.ensures (sym (ap (read_of (λ block. block.now)) c.in_ok-bytes.was) ∙ c.block_at.ensures)) c.add.ensures
