-- A place whose kind isn't 0 has an entry.
use Rattle.std.proofs.Common.{◌≡◌, ◌*◌, ◌/◌, ◌%◌, ◌<◌, Some, length, true, false, rules, eq-eqb, ne_eqb, get_or, []}
use Rattle.std.specs.List.{slice_get}
use Rattle.std.proofs.lemmas.Option.{slice_get-get_or}
use Rattle.disk_definitions.specs.declared.region.Region.TheVariants as region
use Rattle.disk_definitions.specs.Regions.{sector_of}
use Rattle.disk_definitions.specs.Directories.{directory_in}
use Rattle.sector_bytes.specs.Sectors.{sectors_of}
use Rattle.disk_reading.specs.Seen.{store_in}
use Rattle.disk_reading.proofs.Decoded.{entry_is, proper_entry}
use Rattle.disk_reading.proofs.sectors.entry_at.Goals as goal

pub returns-then-entry-eq-KIND_FREE-clause-is : goal.returns-then-entry-eq-KIND_FREE-clause-is
unfolding store_in
returns-then-entry-eq-KIND_FREE-clause-is c =
    let x = c.in_ok-sector.sector in
    let e = get_or x.entries (c.args.place % 7) (record { inode = 0; len = 0; kind = 0; name = [] }) in
    let h : directory_in (sectors_of c.args.disk.now (sector_of (region.Small c.args.block (c.args.place / 7)))) ≡ Some x = search rules in
    let l : c.args.block < 1024 * c.args.segments = search rules in
    let w : c.args.place % 7 < length x.entries = search rules in
    let g : slice_get x.entries (c.args.place % 7) ≡ Some e = slice_get-get_or x.entries (c.args.place % 7) (record { inode = 0; len = 0; kind = 0; name = [] }) w in
    entry_is c.args.segments (sectors_of c.args.disk.now) c.args.block c.args.place x e l h g true (eq-eqb e.kind 0 c.if-entry-eq-KIND_FREE.true)

pub returns-else-entry-eq-KIND_FREE-clause-is : goal.returns-else-entry-eq-KIND_FREE-clause-is
unfolding store_in
returns-else-entry-eq-KIND_FREE-clause-is c =
    let x = c.in_ok-sector.sector in
    let e = get_or x.entries (c.args.place % 7) (record { inode = 0; len = 0; kind = 0; name = [] }) in
    let h : directory_in (sectors_of c.args.disk.now (sector_of (region.Small c.args.block (c.args.place / 7)))) ≡ Some x = search rules in
    let l : c.args.block < 1024 * c.args.segments = search rules in
    let w : c.args.place % 7 < length x.entries = search rules in
    let g : slice_get x.entries (c.args.place % 7) ≡ Some e = slice_get-get_or x.entries (c.args.place % 7) (record { inode = 0; len = 0; kind = 0; name = [] }) w in
    entry_is c.args.segments (sectors_of c.args.disk.now) c.args.block c.args.place x e l h g false (ne_eqb e.kind 0 c.if-entry-eq-KIND_FREE.false)

pub returns-else-entry-eq-KIND_FREE-clause-proper : goal.returns-else-entry-eq-KIND_FREE-clause-proper
returns-else-entry-eq-KIND_FREE-clause-proper c =
    let x = c.in_ok-sector.sector in
    let e = get_or x.entries (c.args.place % 7) (record { inode = 0; len = 0; kind = 0; name = [] }) in
    let h : directory_in (sectors_of c.args.disk.now (sector_of (region.Small c.args.block (c.args.place / 7)))) ≡ Some x = search rules in
    let w : c.args.place % 7 < length x.entries = search rules in
    let g : slice_get x.entries (c.args.place % 7) ≡ Some e = slice_get-get_or x.entries (c.args.place % 7) (record { inode = 0; len = 0; kind = 0; name = [] }) w in
    proper_entry (sectors_of c.args.disk.now (sector_of (region.Small c.args.block (c.args.place / 7)))) x (c.args.place % 7) e h g (ne_eqb e.kind 0 c.if-entry-eq-KIND_FREE.false)
