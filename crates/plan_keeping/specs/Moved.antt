-- Sectors that are listed with their new locks, beside the locks under which moves put them.
use Rattle.std.specs.Prelude.{◌≡◌, ℕ, zero, suc, ◌+◌, ◌&&◌, ◌||◌, nat_eq, if◌then◌else◌, Bool, false, Option, Some, List}
use Rattle.std.specs.Option.{option_and_then, option_map, unwrap_or}
use Rattle.frang_base.specs.declared.lock.LockId.{LockId}
use Rattle.frang_base.specs.declared.sector.Sector.{Sector}
use Rattle.cache_laws.specs.Steps.{cover_after}
use Rattle.disk_definitions.specs.Numbered.{sector_at}
use Rattle.edit_moves.specs.declared.moves.Move.{Move}
use Rattle.edit_moves.specs.declared.thing.Thing.{Thing}
use Rattle.edit_moves.specs.Moves.{is_same, lock_of, thing_of}
use Rattle.server_core.specs.Outcomes.{moves_of}

-- the thing of which the sector with this number is one, on a disk of so many segments
abbrev pub thing_at : ℕ → ℕ → Option Thing
thing_at segments number = option_and_then thing_of (sector_at segments number)

-- it is one of this thing's
abbrev pub is_at : ℕ → Thing → ℕ → Bool
is_at segments own number = unwrap_or (option_map (λ found. is_same found own) (thing_at segments number)) false

-- the sectors of a list come under the locks that a word says of each, and others stay
abbrev pub Covers : List (Sector × LockId) → (ℕ → Option LockId) → Type 0
Covers list says = (sector : ℕ) (cover : LockId) → cover_after (moves_of list) sector cover ≡ unwrap_or (says sector) cover

-- a word that says a lock of the sectors that pass, and what another says of the others
abbrev pub over : (ℕ → Bool) → LockId → (ℕ → Option LockId) → ℕ → Option LockId
over passes lock says sector = if passes sector then Some lock else says sector

-- so many sectors from a first one on have this number among them
abbrev pub is_listed : ℕ → ℕ → ℕ → Bool
is_listed first zero number = false
is_listed first (suc count) number = nat_eq (first + count) number || is_listed first count number

-- of a thing's sectors those among so many from a first one on
abbrev pub is_part : ℕ → Thing → ℕ → ℕ → ℕ → Bool
is_part segments own first count number = is_listed first count number && is_at segments own number

-- this sector, where it is one of the thing's
abbrev pub is_this : ℕ → Thing → ℕ → ℕ → Bool
is_this segments own sector number = nat_eq sector number && is_at segments own number

-- what moves say of the sectors of a disk
abbrev pub says : ℕ → List Move → ℕ → Option LockId
says segments moves number = lock_of moves (thing_at segments number)
