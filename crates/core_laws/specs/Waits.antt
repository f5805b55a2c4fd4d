-- What the answer to a mount and the end of a recovery wait for, of each slot, sector and block.
use Rattle.std.specs.Prelude.{◌≡◌, ◌<◌, ◌+◌, ℕ, ◌||◌, IsTrue, Some, None}
use Rattle.std.specs.List.{Contains}
use Rattle.std.specs.Option.{IsSome}
use Rattle.frang_base.specs.declared.op.Op.TheVariants as op
use Rattle.frang_base.specs.declared.reply.Reply.TheVariants as reply
use Rattle.sector_bytes.specs.Blocks.{Block}
use Rattle.sector_bytes.specs.SectorMaps.{value_at}
use Rattle.core_definitions.specs.Settings.{LogRules}
use Rattle.core_definitions.specs.Logs.{SlotsRead, end_of, is_sealed_by, log_sector}
use Rattle.core_definitions.specs.Lines.{Under, operation_of}
use Rattle.core_definitions.specs.Recoveries.{Recovery, is_written, named_sectors, redos}
use Rattle.core_definitions.specs.Cores.{Core, due_at}
use Rattle.core_definitions.specs.Events.{Finish}
use Rattle.core_definitions.specs.Guards.{Can}

-- every slot of a log is read
abbrev pub IsWhole : LogRules → SlotsRead → Type 0
IsWhole logs slots = (slot : ℕ) → slot < logs.sectors → IsSome (value_at slots slot)

-- a mount whose answer is open gets `mounted` only where every slot of its log is read
abbrev pub MountsReadTheirLogs : Type 0
MountsReadTheirLogs =
    (c : Core) (a : ℕ) (under : Under) → (c.servers a).under ≡ Some under → under.fixed ≡ None → operation_of under.line.what ≡ Some op.Mount →
    due_at c a ≡ Some reply.Mounted → IsWhole c.setting.logs under.slots

-- a recovery has read its log, has looked at each sector that a record names and that may change, what each look wanted is written, and the log is sealed: it was, or the
-- number behind its end is written
pub record IsDone (c : Core) (recovery : Recovery) : Type 0 where
  pub read : IsWhole c.setting.logs recovery.slots
  pub looked : (sector : ℕ) → Contains (named_sectors c.setting.segments (redos c.setting.logs recovery)) sector → IsSome (value_at recovery.looked sector)
  pub written : (sector : ℕ) (block : Block) → Contains recovery.looked (sector, Some block) → IsTrue (is_written recovery sector)
  pub sealed :
      IsTrue
      (is_sealed_by c.setting.logs recovery.slots
      || is_written recovery (log_sector c.setting.logs recovery.dead (end_of c.setting.logs recovery.slots + 1)))

-- no recovery ends before
abbrev pub RecoveriesEndDone : Type 0
RecoveriesEndDone = (c : Core) (by : ℕ) (recovery : Recovery) → Can c (Finish by) → (c.servers by).recovery ≡ Some recovery → IsDone c recovery
