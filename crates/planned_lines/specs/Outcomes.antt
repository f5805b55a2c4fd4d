-- What a finished line in code is in the definition of the core.
use Rattle.std.specs.Prelude.{◌≡◌, ℕ, Option, List, [], map}
use Rattle.std.specs.List.{filter_map}
use Rattle.std.specs.Option.{option_and_then, option_map, unwrap_or}
use Rattle.frang_base.specs.declared.lock.LockId.{LockId}
use Rattle.frang_base.specs.declared.reply.Reply.{Reply}
use Rattle.disk_definitions.specs.Ask.{Sector, number_of}
use Rattle.disk_definitions.specs.CoversAtHand.{cover_among}
use Rattle.disk_definitions.specs.Edits.{Edit}
use Rattle.disk_definitions.specs.FoundLocks.{finish_locks, owns_at_hand}
use Rattle.disk_definitions.specs.Held.{Segments}
use Rattle.disk_definitions.specs.Moves.{moved_by}
use Rattle.disk_definitions.specs.Numbered.{sector_at}
use Rattle.disk_definitions.specs.Written.{Cached, changes_of, edited_block, freed_sectors, sectors_at_hand}
use Rattle.core_definitions.specs.Plans.{BytesSet, Outcome, Sight, place_of, record_of}
use Rattle.set_definitions.specs.Sets.{joined_all}
use Rattle.edit_moves.specs.declared.moves.Move.{Move}
use Rattle.edit_moves.specs.Moves.{cover_in}
use Rattle.lock_sets.specs.Seen.{numbers}
use Rattle.planned_lines.specs.declared.finished.BytesSet.{BytesSet as CodeBytes}
use Rattle.planned_lines.specs.declared.finished.Finished.{Finished}

-- a sector of file bytes that is set
abbrev pub bytes_as : CodeBytes → BytesSet
bytes_as set = record { sector = set.sector.0; block = set.block; cover = set.cover }

-- the lock under which a list of moves puts the sector with this number, on a disk of so many segments
abbrev pub moves_as : ℕ → List Move → ℕ → Option LockId
moves_as segments moves number = option_and_then (cover_in moves) (sector_at segments number)

abbrev pub outcome_as : ℕ → Finished → Outcome
outcome_as segments done = record {
  reply = done.reply;
  redo = done.redo;
  bytes = map bytes_as done.bytes.items;
  freed = numbers done.freed;
  moves = moves_as segments done.moves.items;
}

-- the file bytes that an edit sets come under the lock that the moves say, or stay under that of their node
abbrev pub set_in : Cached → Segments → List ℕ → List Move → Edit → Option BytesSet
set_in cached held nodes moves edit =
    option_map
    (λ place. record { sector = number_of place; block = edited_block [] 0 edit; cover = unwrap_or (cover_in moves place) (cover_among cached held nodes place) })
    (place_of edit)

-- a line over these sectors that is finished with this reply and these edits, part by part; its operation has this number
pub record IsFinished (sight : Sight) (number : ℕ) (nodes : List ℕ) (reply : Reply) (edits : List Edit) (done : Finished) : Type 0 where
  pub replied : done.reply ≡ reply
  pub recorded : done.redo ≡ record_of number (changes_of (sectors_at_hand sight.cached sight.held) edits)
  pub set : map bytes_as done.bytes.items ≡ filter_map (set_in sight.cached sight.held nodes done.moves.items) edits
  pub given_back : numbers done.freed ≡ freed_sectors edits
  pub moved : (sector : Sector) → cover_in done.moves.items sector ≡ moved_by edits sector
  pub locked : done.locks ≡ joined_all [] (finish_locks (owns_at_hand sight.cached) sight.held nodes reply edits)
