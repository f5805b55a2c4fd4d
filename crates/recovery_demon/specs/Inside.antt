-- A replay and a recovery as their parts say them.
use Rattle.std.specs.Prelude.{◌≡◌, ◌≤◌, ℕ, Bool, true, not, ◌&&◌, nat_lt, Option, Some, None, List, [], ◌∷◌, ◌++◌, map, if◌then◌else◌}
use Rattle.std.specs.Map.{keys_of}
use Rattle.frang_base.specs.declared.limits.TheConstants.{SEGMENTS_MAX}
use Rattle.sector_bytes.specs.Blocks.{Block}
use Rattle.sector_bytes.specs.SectorMaps.{Spacious}
use Rattle.disk_definitions.specs.Logs.{is_sealed, log_end, log_records}
use Rattle.core_definitions.specs.Logs.{SlotsRead}
use Rattle.recovery_demon.specs.declared.next.Next.{Next}
use Rattle.recovery_demon.specs.declared.next.Next.TheVariants as next
use Rattle.recovery_demon.specs.Recovering.{Recovering, look, write}
use Rattle.recovery_demon.specs.Replays.{IsKept, Kept, Replaying, is_over}
use Rattle.log_slots.specs.Reading.{are_all_read, read_slots}

-- ---- a recovery with a replay, if its log is read off

abbrev pub looked_in : Option Kept → List (ℕ × Option Block)
looked_in None = []
looked_in (Some kept) = kept.replay.looked

abbrev pub written_in : Option Kept → List ℕ
written_in None = []
written_in (Some kept) = kept.replay.written

abbrev pub flying_in : Option Kept → List (ℕ × Block)
flying_in None = []
flying_in (Some kept) = kept.replay.flying

abbrev pub is_fresh_in : SlotsRead → Option Kept → Bool
is_fresh_in slots None = not (are_all_read slots)
is_fresh_in slots (Some kept) = true

abbrev pub is_ready_in : Spacious Block → Option Kept → Bool
is_ready_in slots None = not (are_all_read slots.entries) && nat_lt 0 slots.spare
is_ready_in slots (Some kept) = kept.is_ready

abbrev pub recovering_of : ℕ → ℕ → Spacious Block → Option Kept → Recovering
recovering_of dead segments slots replay = record {
  segments = segments;
  recovery = record { dead = dead; slots = slots.entries; looked = looked_in replay; written = written_in replay };
  issued = flying_in replay;
  is_fresh = is_fresh_in slots.entries replay;
  is_ready = is_ready_in slots replay;
}

-- ---- what ties a replay to the slots that were read

pub record IsOpened (server count : ℕ) (slots : SlotsRead) (r : Replaying) : Type 0 where
  pub dead : r.dead ≡ server
  pub segments : r.segments ≡ count
  pub records : r.records ≡ log_records (read_slots slots)
  pub end : r.end ≡ log_end (read_slots slots)
  pub sealed : r.sealed ≡ is_sealed (read_slots slots)

pub record IsTied (server count : ℕ) (slots : SlotsRead) (r : Replaying) : Type 0 where
  pub opened : IsOpened server count slots r
  pub read : are_all_read slots ≡ true
  pub kept : IsKept r

abbrev pub AreTied : ℕ → ℕ → SlotsRead → Option Kept → Type 0
AreTied dead segments slots None = segments ≤ SEGMENTS_MAX
AreTied dead segments slots (Some kept) = IsTied dead segments slots kept.replay

-- nothing is done yet
pub record IsBegun (r : Replaying) : Type 0 where
  pub looked : r.looked ≡ []
  pub flying : r.flying ≡ []
  pub written : r.written ≡ []

-- ---- what a replay wants done

abbrev pub replay_end : Replaying → List Next
replay_end r = if is_over r.stage then next.Done (record { 0 = r.greatest }) ∷ [] else []

abbrev pub replay_wants : Replaying → List Next
replay_wants r = map look (keys_of r.looks) ++ map write (keys_of r.waiting) ++ replay_end r
