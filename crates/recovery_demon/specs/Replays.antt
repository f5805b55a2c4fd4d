-- A replay of a log that was read, and the seal behind it: what is kept of it, what its calls make of that, and what holds of it at each stage.
use Rattle.std.specs.Prelude.{◌≡◌, ◌≤◌, ◌<◌, ℕ, ◌+◌, Bool, true, false, not, ◌&&◌, is_some, Option, Some, None, List, [], ◌∷◌, filter, if◌then◌else◌}
use Rattle.std.specs.List.{All, filter_map}
use Rattle.std.specs.Option.{option_map}
use Rattle.frang_base.specs.Functions.{member}
use Rattle.frang_base.specs.declared.change.Redo.{Redo}
use Rattle.frang_base.specs.declared.limits.TheConstants.{LOGS, SEGMENTS_MAX}
use Rattle.sector_bytes.specs.Blocks.{Block}
use Rattle.sector_bytes.specs.SectorMaps.{Ascend, value_at, with_value, without}
use Rattle.disk_definitions.specs.Logs.{greatest_operation}
use Rattle.disk_definitions.specs.Regions.{region_of}
use Rattle.disk_definitions.specs.Replay.{is_replayed}
use Rattle.disk_replay.specs.Laid.{HoldsChanges}
use Rattle.core_definitions.specs.Logs.{is_none}
use Rattle.recovery_demon.specs.declared.stage.Stage.{Stage}
use Rattle.recovery_demon.specs.declared.stage.Stage.TheVariants.{Replay, LaterSeals, FirstSeal, Over}
use Rattle.recovery_demon.specs.Rules.{first_writes, later_writes, named, seal}

-- whose log, how many segments the disk has, what was read of the log, and how far the replay has come: the sectors to look at; those looked at, each with the block wanted
-- there if one is; the wanted writes not issued and those issued and not acknowledged; the writes of the later numbers of the seal and of its first one, until their time comes;
-- the sectors whose writes are acknowledged, the last first
pub record Replaying : Type 0 where
  pub dead : ℕ
  pub segments : ℕ
  pub records : List Redo
  pub greatest : ℕ
  pub end : ℕ
  pub sealed : Bool
  pub stage : Stage
  pub looks : List (ℕ × Unit {0})
  pub looked : List (ℕ × Option Block)
  pub waiting : List (ℕ × Block)
  pub flying : List (ℕ × Block)
  pub later : List (ℕ × Block)
  pub first : List (ℕ × Block)
  pub written : List ℕ

-- that, and whether there is room for the next change
pub record Kept : Type 0 where
  pub replay : Replaying
  pub is_ready : Bool

-- ---- what it wants

-- the writes that looks want, acknowledged or not
abbrev pub look_write : ℕ × Option Block → Option (ℕ × Block)
look_write look = option_map (λ block. (look.0, block)) look.1

abbrev pub looked_writes : List (ℕ × Option Block) → List (ℕ × Block)
looked_writes looked = filter_map look_write looked

-- those of the stage
abbrev pub stage_writes : Stage → Replaying → List (ℕ × Block)
stage_writes Replay r = looked_writes r.looked
stage_writes LaterSeals r = later_writes r.dead r.end
stage_writes FirstSeal r = first_writes r.dead r.end
stage_writes Over r = []

-- those that aren't acknowledged
abbrev pub left_of : List (ℕ × Block) → List ℕ → List (ℕ × Block)
left_of writes written = filter (λ write. not (member write.0 written)) writes

-- the block wanted at a sector, where the write isn't acknowledged
abbrev pub wanted_at : Replaying → ℕ → Option Block
wanted_at r sector = if member sector r.written then None else value_at (stage_writes r.stage r) sector

-- ---- how it goes on

-- nothing is to look at, and nothing wanted isn't acknowledged
abbrev pub is_idle : Replaying → Bool
is_idle r = is_none r.looks && is_none r.waiting && is_none r.flying

abbrev pub is_over : Stage → Bool
is_over Over = true
is_over Replay = false
is_over LaterSeals = false
is_over FirstSeal = false

-- the stage behind one
abbrev pub next_stage : Stage → Bool → Stage
next_stage Replay true = Over
next_stage Replay false = LaterSeals
next_stage LaterSeals sealed = FirstSeal
next_stage FirstSeal sealed = Over
next_stage Over sealed = Over

-- what waits there, and what is kept in its place: before a part of the seal, that part
abbrev pub next_waiting : Stage → Bool → List (ℕ × Block) → List (ℕ × Block) → List (ℕ × Block) → List (ℕ × Block)
next_waiting Replay true waiting later first = waiting
next_waiting Replay false waiting later first = later
next_waiting LaterSeals sealed waiting later first = first
next_waiting FirstSeal sealed waiting later first = waiting
next_waiting Over sealed waiting later first = waiting

abbrev pub next_later : Stage → Bool → List (ℕ × Block) → List (ℕ × Block) → List (ℕ × Block)
next_later Replay true waiting later = later
next_later Replay false waiting later = waiting
next_later LaterSeals sealed waiting later = later
next_later FirstSeal sealed waiting later = later
next_later Over sealed waiting later = later

abbrev pub next_first : Stage → List (ℕ × Block) → List (ℕ × Block) → List (ℕ × Block)
next_first Replay waiting first = first
next_first LaterSeals waiting first = waiting
next_first FirstSeal waiting first = first
next_first Over waiting first = first

abbrev pub gone_on : Replaying → Replaying
gone_on r = record r {
  stage = next_stage r.stage r.sealed;
  waiting = next_waiting r.stage r.sealed r.waiting r.later r.first;
  later = next_later r.stage r.sealed r.waiting r.later;
  first = next_first r.stage r.waiting r.first;
}

-- once it is idle, it goes on to the next stage
abbrev pub advanced : Replaying → Replaying
advanced r = if is_idle r then gone_on r else r

-- a look was made, and wants this
abbrev pub waiting_with : List (ℕ × Block) → ℕ → Option Block → List (ℕ × Block)
waiting_with waiting sector None = waiting
waiting_with waiting sector (Some block) = with_value waiting sector block

abbrev pub look_made : ℕ → Option Block → Replaying → Replaying
look_made sector wanted r = record r {
  looks = without r.looks sector;
  looked = with_value r.looked sector wanted;
  waiting = waiting_with r.waiting sector wanted;
}

-- a wanted write was issued; one that was issued is gone and is wanted again; one is acknowledged
abbrev pub write_issued : ℕ → Block → Replaying → Replaying
write_issued sector block r = record r { waiting = without r.waiting sector; flying = with_value r.flying sector block }

abbrev pub write_lost : ℕ → Block → Replaying → Replaying
write_lost sector block r = record r { flying = without r.flying sector; waiting = with_value r.waiting sector block }

abbrev pub write_acknowledged : ℕ → Replaying → Replaying
write_acknowledged sector r = record r { flying = without r.flying sector; written = sector ∷ r.written }

-- ---- what holds of it

pub record AreOrdered (r : Replaying) : Type 0 where
  pub looks : Ascend r.looks
  pub looked : Ascend r.looked
  pub waiting : Ascend r.waiting
  pub flying : Ascend r.flying
  pub later : Ascend r.later
  pub first : Ascend r.first

-- of the replay itself: what isn't looked at isn't acknowledged, and what is looked at may be changed by a replay; where the log isn't sealed, its seal is at hand
pub record AtReplay (r : Replaying) : Type 0 where
  pub unlooked : (sector : ℕ) → value_at r.looked sector ≡ None → member sector r.written ≡ false
  pub replayed : (sector : ℕ) → is_some (value_at r.looked sector) ≡ true → is_replayed (region_of r.segments sector) ≡ true
  pub later : r.sealed ≡ false → (sector : ℕ) → value_at r.later sector ≡ value_at (later_writes r.dead r.end) sector
  pub first : r.sealed ≡ false → r.first ≡ first_writes r.dead r.end

-- behind the replay: every look is made, and its writes are acknowledged
pub record IsReplayed (r : Replaying) : Type 0 where
  pub looks : r.looks ≡ []
  pub writes : left_of (looked_writes r.looked) r.written ≡ []

-- of the later numbers of the seal: the first one isn't acknowledged
pub record AtLater (r : Replaying) : Type 0 where
  pub replayed : IsReplayed r
  pub unsealed : r.sealed ≡ false
  pub apart : member (seal r.dead (r.end + 1)).0 r.written ≡ false
  pub first : r.first ≡ first_writes r.dead r.end

-- of the first one: the later ones are acknowledged
pub record AtFirst (r : Replaying) : Type 0 where
  pub replayed : IsReplayed r
  pub unsealed : r.sealed ≡ false
  pub later : left_of (later_writes r.dead r.end) r.written ≡ []

-- at the end: nothing is left, and where the log wasn't sealed, its seal is acknowledged
pub record AtEnd (r : Replaying) : Type 0 where
  pub replayed : IsReplayed r
  pub waiting : r.waiting ≡ []
  pub flying : r.flying ≡ []
  pub later : r.sealed ≡ false → left_of (later_writes r.dead r.end) r.written ≡ []
  pub first : r.sealed ≡ false → left_of (first_writes r.dead r.end) r.written ≡ []

abbrev pub AtStage : Stage → Replaying → Type 0
AtStage Replay r = AtReplay r
AtStage LaterSeals r = AtLater r
AtStage FirstSeal r = AtFirst r
AtStage Over r = AtEnd r

-- all but that it goes on once it is idle: what is to look at are the named sectors that weren't looked at, and what waits or is issued is what is wanted and isn't acknowledged
pub record IsNearly (r : Replaying) : Type 0 where
  pub ordered : AreOrdered r
  pub few : r.segments ≤ SEGMENTS_MAX
  pub server : r.dead < LOGS
  pub holds : All HoldsChanges r.records
  pub greatest : r.greatest ≡ greatest_operation r.records
  pub looks : (sector : ℕ) → is_some (value_at r.looks sector) ≡ (member sector (named r.segments r.records) && not (is_some (value_at r.looked sector)))
  pub waiting : (sector : ℕ) → value_at r.waiting sector ≡ (if is_some (value_at r.flying sector) then None else wanted_at r sector)
  pub flying : (sector : ℕ) (block : Block) → value_at r.flying sector ≡ Some block → wanted_at r sector ≡ Some block
  pub stage : AtStage r.stage r

pub record IsKept (r : Replaying) : Type 0 where
  pub nearly : IsNearly r
  pub idle : is_idle r ≡ is_over r.stage
