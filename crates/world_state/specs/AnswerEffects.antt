-- What the answer to a line does beside ending it.
use Rattle.std.specs.Prelude.{◌≡◌, ◌+◌, ◌&&◌, ℕ, true, false, if◌then◌else◌, Option, Some, None, IsSome, is_some}
use Rattle.std.specs.Option.{option_map}
use Rattle.frang_base.specs.Functions.{put}
use Rattle.frang_base.specs.declared.limits.TheConstants.{LEASE_TICKS}
use Rattle.frang_base.specs.declared.op.Op.{Op}
use Rattle.frang_base.specs.declared.op.Op.TheVariants as op
use Rattle.tree_definitions.specs.Touched.{is_ok, is_unmount}
use Rattle.lock_definitions.specs.Calls.{cleared}
use Rattle.lock_definitions.specs.Locks.{Locks}
use Rattle.ring_definitions.specs.Rings.{Ring}
use Rattle.core_definitions.specs.Cores.{Core}
use Rattle.core_definitions.specs.LineEffects.{number_under, off_after}
use Rattle.core_definitions.specs.Lines.{Under, operation_of}
use Rattle.core_definitions.specs.Servers.{Server, Still, Up, first_server, is_in_mount}
use Rattle.server_core.specs.Phases.{arming_of, reply_of}
use Rattle.server_core.specs.declared.answers.PlainAnswer.{PlainAnswer}
use Rattle.server_core.specs.declared.answers.PlainAnswer.TheVariants.{Mounted}
use Rattle.world_state.specs.declared.answering.Effect.{Effect}
use Rattle.world_state.specs.declared.answering.Effect.TheVariants.{Nothing, OwesNothing, Mounts, Unmounts, Arms, Stalls}

-- ---- which it is

-- of an answer that was fixed, and of one that was open
abbrev pub fixed_effect : Op → PlainAnswer → Effect
fixed_effect operation answer = if is_unmount operation && is_ok (reply_of answer) then OwesNothing else Nothing

abbrev pub open_effect : Op → PlainAnswer → Effect
open_effect op.Mount Mounted = Mounts
open_effect op.Unmount answer = Unmounts
open_effect (op.CrashAt k) answer = Arms (record { k = k; cuts = false })
open_effect (op.CutAt k) answer = Arms (record { k = k; cuts = true })
open_effect op.Stall answer = Stalls
open_effect operation answer = Nothing

-- of the line under way, where it is a server's
abbrev pub effect_of : Under → PlainAnswer → Option Effect
effect_of under answer = option_map (λ operation. if is_some under.fixed then fixed_effect operation answer else open_effect operation answer) (operation_of under.line.what)

abbrev pub effect_under : Option Under → PlainAnswer → Option Effect
effect_under None answer = None
effect_under (Some under) answer = effect_of under answer

-- ---- of a server

-- a mount that begins now over this ring
abbrev pub mounted_at : ℕ → Ring → Server
mounted_at now ring = record first_server { phase = Up; expiry = now + LEASE_TICKS; ring = ring }

abbrev pub server_after : Effect → ℕ → Ring → Server → Server
server_after Nothing now ring server = server
server_after OwesNothing now ring server = record server { owes = false }
server_after Mounts now ring server = mounted_at now ring
server_after Unmounts now ring server = off_after server
server_after (Arms arming) now ring server = record server { arming = Some (arming_of arming) }
server_after Stalls now ring server = record server { phase = Still }

-- what it leaves of the recovery that the server carries out
abbrev pub recovery_left : {X : Type 0} → Effect → Option X → Option X
recovery_left Nothing recovery = recovery
recovery_left OwesNothing recovery = recovery
recovery_left Mounts recovery = None
recovery_left Unmounts recovery = None
recovery_left (Arms arming) recovery = recovery
recovery_left Stalls recovery = recovery

-- who stalls is mounted, and a mount begins with a ring
abbrev pub MayHave : {R : Type 0} → Effect → Option R → Server → Type 0
MayHave Nothing ring server = Unit {0}
MayHave OwesNothing ring server = Unit {0}
MayHave Mounts ring server = IsSome ring
MayHave Unmounts ring server = Unit {0}
MayHave (Arms arming) ring server = Unit {0}
MayHave Stalls ring server = is_in_mount server.phase ≡ true

-- ---- of the core

-- an unmount gives the locks back
abbrev pub locks_after : Effect → Locks → ℕ → Locks
locks_after Nothing locks a = locks
locks_after OwesNothing locks a = locks
locks_after Mounts locks a = locks
locks_after Unmounts locks a = cleared locks a
locks_after (Arms arming) locks a = locks
locks_after Stalls locks a = locks

-- the line under way is answered, and a mount begins over this ring
abbrev pub answered_so : Core → ℕ → Ring → Effect → Core
answered_so c a ring effect = record c {
  servers = put c.servers a (record (server_after effect c.now ring (c.servers a)) { under = None });
  locks = locks_after effect c.locks a;
  answered = put c.answered (number_under (c.servers a).under) true;
}
