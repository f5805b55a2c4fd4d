-- The plan lists the names so far and those of the sectors that are left, and what was looked at is what comes before these.
use Rattle.std.proofs.Common.{◌≡◌, ◌-◌, ◌*◌, ℕ, List, slice_index}
use Rattle.disk_definitions.specs.Held.{Segments}
use Rattle.disk_definitions.specs.Store.{stored}
use Rattle.disk_definitions.specs.LookPlans.{read_entries, listing}
use Rattle.dir_lookup.specs.Reading.{reading}
use Rattle.plan_steps.specs.Looking.{LooksTo}
use Rattle.op_look.proofs.Listed.{listed}
use Rattle.op_look.proofs.names.names_in.Given as goal

abbrev pub invariant-loop-j : goal.invariant-loop-j
invariant-loop-j l = record {
  reads : (held : Segments) (touched : List ℕ) → reading (read_entries (slice_index l.directory.small) l.j (8 * l.directory.blocks - l.j) (listed touched l.sorted.entries)) l.sectors.entries held
      ≡ reading (listing touched (stored l.directory)) l.sectors.entries held;
  looks : (held : Segments) (touched : List ℕ) → LooksTo l.sectors.entries held l.initial.looked l.looked (listing touched (stored l.directory))
      (read_entries (slice_index l.directory.small) l.j (8 * l.directory.blocks - l.j) (listed touched l.sorted.entries));
}
