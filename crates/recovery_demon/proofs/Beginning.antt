-- A replay at its beginning: nothing is looked at, nothing waits.
use Rattle.std.proofs.Common.{◌≡◌, ◌≤◌, ◌<◌, ℕ, Bool, true, false, ◌&&◌, List, [], Option, is_some, refl, ◌∙◌}
use Rattle.std.proofs.lemmas.Bool.{false≢true}
use Rattle.std.specs.List.{All}
use Rattle.std.specs.List.Sorted.{IsStrictlySortedBy}
use Rattle.frang_base.specs.Functions.{member}
use Rattle.frang_base.specs.declared.change.Redo.{Redo}
use Rattle.sector_bytes.specs.Blocks.{Block}
use Rattle.sector_bytes.specs.SectorMaps.{Ascend, value_at}
use Rattle.disk_definitions.specs.Logs.{greatest_operation}
use Rattle.disk_replay.specs.Laid.{HoldsChanges}
use Rattle.recovery_demon.specs.declared.stage.Stage.TheVariants.{Replay}
use Rattle.recovery_demon.specs.Replays.{IsNearly, Replaying}
use Rattle.recovery_demon.specs.Rules.{first_writes, later_writes, named}

abbrev pub first_state : ℕ → ℕ → List Redo → ℕ → ℕ → Bool → List (ℕ × Unit {0}) → List (ℕ × Block) → List (ℕ × Block) → Replaying
first_state dead segments records greatest end sealed looks later first = record {
  dead = dead;
  segments = segments;
  records = records;
  greatest = greatest;
  end = end;
  sealed = sealed;
  stage = Replay;
  looks = looks;
  looked = [];
  waiting = [];
  flying = [];
  later = later;
  first = first;
  written = [];
}

-- what is read and made before it begins
pub record IsMade (dead segments : ℕ) (records : List Redo) (greatest end : ℕ) (sealed : Bool) (looks : List (ℕ × Unit {0})) (later first : List (ℕ × Block)) : Type 0 where
  pub few : segments ≤ 64
  pub server : dead < 256
  pub holds : All HoldsChanges records
  pub most : greatest ≡ greatest_operation records
  pub looks_ascend : Ascend looks
  pub later_ascend : Ascend later
  pub first_ascend : Ascend first
  pub named_ones : (sector : ℕ) → is_some (value_at looks sector) ≡ member sector (named segments records)
  pub later_ones : sealed ≡ false → (sector : ℕ) → value_at later sector ≡ value_at (later_writes dead end) sector
  pub first_one : sealed ≡ false → first ≡ first_writes dead end

nil_ascends : (V : Type 0) → Ascend {V = V} []
unfolding IsStrictlySortedBy
nil_ascends V = tt

and_true : (b : Bool) → b ≡ (b && true)
and_true true = refl
and_true false = refl

pub begun_nearly : (dead segments : ℕ) (records : List Redo) (greatest end : ℕ) (sealed : Bool) (looks : List (ℕ × Unit {0})) (later first : List (ℕ × Block)) →
    IsMade dead segments records greatest end sealed looks later first → IsNearly (first_state dead segments records greatest end sealed looks later first)
begun_nearly dead segments records greatest end sealed looks later first m = record {
  ordered = record { looks = m.looks_ascend; looked = nil_ascends (Option Block); waiting = nil_ascends Block; flying = nil_ascends Block; later = m.later_ascend; first = m.first_ascend };
  few = m.few;
  server = m.server;
  holds = m.holds;
  greatest = m.most;
  looks = λ sector. m.named_ones sector ∙ and_true (member sector (named segments records));
  waiting = λ sector. refl;
  flying = λ sector block e. cc e;
  stage = record { unlooked = λ sector e. refl; replayed = λ sector e. absurd (false≢true e); later = m.later_ones; first = m.first_one };
}
