-- What is read is what the sectors that are left come to, and what was looked at is what comes before them.
use Rattle.std.proofs.Common.{◌≡◌, ◌-◌, ◌*◌, slice_index}
use Rattle.disk_definitions.specs.Held.{Segments}
use Rattle.disk_definitions.specs.Walks.{search, is_vacant}
use Rattle.dir_lookup.specs.Reading.{reading}
use Rattle.dir_lookup.proofs.SearchLooks.{HasSeen}
use Rattle.dir_lookup.proofs.search.first_vacant.Given as goal

abbrev pub invariant-loop-j : goal.invariant-loop-j
invariant-loop-j l = record {
  reads : (held : Segments) → reading (search (slice_index l.directory.small) (is_vacant) l.j (8 * l.directory.blocks - l.j)) l.sectors.entries held
      ≡ reading (search (slice_index l.directory.small) (is_vacant) 0 (8 * l.directory.blocks)) l.sectors.entries held;
  looks : (held : Segments) → HasSeen (slice_index l.directory.small) (is_vacant) l.sectors.entries held l.j (8 * l.directory.blocks) l.initial.looked l.looked;
}
