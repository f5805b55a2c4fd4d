-- A mount that is answered has read its log, and a recovery that ends has done its work.
use Rattle.std.proofs.Common.{ℕ, ◌≡◌, Bool, true, false, not, if◌then◌else◌, IsTrue, is_some, [], Option, Some, None, filter, refl, sym, ap, ◌∙◌, subst}
use Rattle.std.specs.List.{filter_map}
use Rattle.std.specs.Option.{IsSome, option_map}
use Rattle.std.proofs.lemmas.Bool.{not-false}
use Rattle.disk_definitions.proofs.Listed.{Among, among_filter_map}
use Rattle.frang_base.specs.declared.op.Op.{Op}
use Rattle.frang_base.specs.declared.op.Op.TheVariants as op
use Rattle.frang_base.specs.declared.reply.Reply.{Reply}
use Rattle.frang_base.specs.declared.reply.Reply.TheVariants as reply
use Rattle.sector_bytes.specs.Blocks.{Block}
use Rattle.sector_bytes.specs.SectorMaps.{value_at}
use Rattle.core_definitions.specs.Settings.{LogRules}
use Rattle.core_definitions.specs.Flights.{Flights}
use Rattle.core_definitions.specs.Logs.{is_none, is_read, is_slot_read}
use Rattle.core_definitions.specs.Lines.{Under}
use Rattle.core_definitions.specs.Recoveries.{Recovery, is_replay_done, is_seal_done, is_written, named_sectors, redos, replay_writes, to_look}
use Rattle.core_definitions.specs.Servers.{Server, answer_of, due_if, due_under, is_answering, is_off, mount_answer, own_answer_of}
use Rattle.core_definitions.specs.Cores.{Core}
use Rattle.core_definitions.specs.EndGuards.{is_recovery, is_through}
use Rattle.core_laws.proofs.Guarding.{Of2, Of3, of_2, of_3}
use Rattle.core_laws.proofs.Membership.{contains_in}
use Rattle.core_laws.specs.Waits.{IsDone, MountsReadTheirLogs, RecoveriesEndDone}
use Rattle.core_laws.proofs.Lists.{each_below, each_fails}
use Rattle.core_laws.proofs.Memory.{given_due}

-- ---- mounts

-- by a get that failed it would be another
read_by : (logs : LogRules) (under : Under) (failed : Bool) → (if failed then Some reply.Io else due_if (is_read logs under.slots) reply.Mounted) ≡ Some reply.Mounted →
    is_read logs under.slots ≡ true
read_by logs under true e = absurd (cc)
read_by logs under false e = given_due (is_read logs under.slots) reply.Mounted reply.Mounted e

mount_read : (logs : LogRules) (off : Bool) (under : Under) → (if off then mount_answer logs under else None) ≡ Some reply.Mounted → is_read logs under.slots ≡ true
mount_read logs true under e = read_by logs under under.get_failed e
mount_read logs false under e = absurd (cc)

-- of a line under way whose answer is open
open_read : (logs : LogRules) (flights : Flights) (a : ℕ) (server : Server) (under : Under) (answering : Bool) →
    (if answering then answer_of None (own_answer_of logs flights a server under (Some op.Mount)) else None) ≡ Some reply.Mounted → is_read logs under.slots ≡ true
open_read logs flights a server under true e = mount_read logs (is_off server.phase) under e
open_read logs flights a server under false e = absurd (cc)

abbrev due_of : Core → ℕ → Option Under → Bool → Option Reply
due_of c a under answering = if answering then due_under c.setting.logs c.flights a (c.servers a) under else None

abbrev answer_by : Core → ℕ → Under → Option Reply → Option Op → Option Reply
answer_by c a under fixed operation =
    if is_answering (c.servers a).phase then answer_of fixed (own_answer_of c.setting.logs c.flights a (c.servers a) under operation) else None

pub whole_log : MountsReadTheirLogs
whole_log c a under is_under is_open is_mount due slot lt = each_below (is_slot_read under.slots) c.setting.logs.sectors slot read lt
  where
    of_line : due_of c a (Some under) (is_answering (c.servers a).phase) ≡ Some reply.Mounted
    of_line = ap (λ u. due_of c a u (is_answering (c.servers a).phase)) (sym is_under) ∙ due

    of_mount : answer_by c a under None (Some op.Mount) ≡ Some reply.Mounted
    of_mount = ap (λ f. answer_by c a under f (Some op.Mount)) (sym is_open) ∙ ap (answer_by c a under under.fixed) (sym is_mount) ∙ of_line

    read : is_read c.setting.logs under.slots ≡ true
    read = open_read c.setting.logs c.flights a (c.servers a) under (is_answering (c.servers a).phase) of_mount

-- ---- recoveries

-- a block that a look wanted, with its sector
abbrev wanted : ℕ × Option Block → Option (ℕ × Block)
wanted look = option_map (λ b. (look.0, b)) look.1

module _ (c : Core) (recovery : Recovery) (through : IsTrue (is_through c recovery)) where
  both : Of2 (is_replay_done c.setting.logs c.setting.segments recovery) (is_seal_done c.setting.logs recovery)
  both = of_2 (is_replay_done c.setting.logs c.setting.segments recovery) (is_seal_done c.setting.logs recovery) through

  replayed : Of3 (is_read c.setting.logs recovery.slots) (is_none (to_look c.setting.logs c.setting.segments recovery)) (is_none (replay_writes recovery))
  replayed =
      of_3 (is_read c.setting.logs recovery.slots) (is_none (to_look c.setting.logs c.setting.segments recovery)) (is_none (replay_writes recovery)) both.p0

  -- no sector is left to look at
  none_left : is_none (filter (λ sector. not (is_some (value_at recovery.looked sector))) (named_sectors c.setting.segments (redos c.setting.logs recovery))) ≡ true
  none_left =
      subst
      (λ b. is_none (if b then filter (λ sector. not (is_some (value_at recovery.looked sector))) (named_sectors c.setting.segments (redos c.setting.logs recovery)) else []) ≡ true)
      replayed.p0 replayed.p1

  was_looked : (sector : ℕ) → Among sector (named_sectors c.setting.segments (redos c.setting.logs recovery)) → IsSome (value_at recovery.looked sector)
  was_looked sector i =
      not-false (is_some (value_at recovery.looked sector))
      (each_fails (λ s. not (is_some (value_at recovery.looked s))) (named_sectors c.setting.segments (redos c.setting.logs recovery)) sector none_left i)

  -- what a look wanted is among the writes, of which none is left
  was_written : (sector : ℕ) (block : Block) → Among (sector, Some block) recovery.looked → IsTrue (is_written recovery sector)
  was_written sector block i =
      not-false (is_written recovery sector)
      (each_fails (λ (write : ℕ × Block). not (is_written recovery write.0)) (filter_map wanted recovery.looked) (sector, block) replayed.p2
      (among_filter_map wanted recovery.looked (sector, Some block) (sector, block) i refl))

  pub is_done : IsDone c recovery
  is_done = record {
    read = λ slot lt. each_below (is_slot_read recovery.slots) c.setting.logs.sectors slot replayed.p0 lt;
    looked = λ sector h. was_looked sector (contains_in (named_sectors c.setting.segments (redos c.setting.logs recovery)) sector h);
    written = λ sector block h. was_written sector block (contains_in recovery.looked (sector, Some block) h);
    sealed = both.p1;
  }

pub done_at_end : RecoveriesEndDone
done_at_end c by recovery can is = is_done c recovery (subst (λ r. IsTrue (is_recovery (is_through c) r)) is can.can.ended)
