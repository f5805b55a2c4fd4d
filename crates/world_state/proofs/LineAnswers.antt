-- What the answer to a line makes of the core is what its effect makes of it.
use Rattle.std.proofs.Common.{◌≡◌, ℕ, Bool, true, false, not, ◌&&◌, ◌||◌, if◌then◌else◌, Option, Some, None, IsSome, IsSomeAnd, is_some, refl, sym, ap, ◌∙◌}
use Rattle.std.specs.Option.{option_map}
use Rattle.std.proofs.lemmas.Bool.{false≢true}
use Rattle.std.proofs.lemmas.Option.{same_Some}
use Rattle.frang_base.specs.Functions.{put}
use Rattle.frang_base.specs.declared.op.Op.{Op}
use Rattle.frang_base.specs.declared.op.Op.TheVariants as op
use Rattle.frang_base.specs.declared.reply.Reply.{Reply}
use Rattle.frang_base.specs.declared.reply.Reply.TheVariants as reply
use Rattle.tree_definitions.specs.Touched.{is_ok, is_unmount}
use Rattle.lock_definitions.specs.Calls.{cleared}
use Rattle.lock_definitions.specs.Locks.{Locks}
use Rattle.ring_definitions.specs.Rings.{Ring, ring_at}
use Rattle.core_definitions.specs.Cores.{Core, due_at}
use Rattle.core_definitions.specs.Flights.{Flights}
use Rattle.core_definitions.specs.LineEffects.{answered, answered_fixed, answered_open, answered_under, answered_with, number_under}
use Rattle.core_definitions.specs.Lines.{Under, operation_of}
use Rattle.core_definitions.specs.Logs.{end_of}
use Rattle.core_definitions.specs.Servers.{Server, answer_of, due_if, due_under, is_answering, is_doomed, is_in_mount, is_still, is_up, own_answer, own_answer_of}
use Rattle.core_definitions.specs.Settings.{disk_logs}
use Rattle.server_core.specs.Phases.{reply_of}
use Rattle.server_core.specs.States.{ring_in}
use Rattle.server_core.specs.declared.answers.PlainAnswer.{PlainAnswer}
use Rattle.server_core.specs.declared.answers.PlainAnswer.TheVariants as plain
use Rattle.lock_table.specs.Table.{Table}
use Rattle.script_places.specs.Placed.{Placed}
use Rattle.wal_ring.specs.SpaciousRings.{SpaciousRing}
use Rattle.world_definitions.specs.Worlds.{marks_of}
use Rattle.world_parties.specs.States.{Becomes, State as Parties, servers_at}
use Rattle.world_state.specs.AnswerEffects.{MayHave, answered_so, effect_under, fixed_effect, locks_after, open_effect, server_after}
use Rattle.world_state.specs.declared.answering.Effect.{Effect}
use Rattle.world_state.specs.declared.answering.Effect.TheVariants.{Nothing, OwesNothing, Mounts, Unmounts, Arms, Stalls}
use Rattle.world_state.specs.Rooms.{IsMountRing}
use Rattle.world_state.specs.States.{State, core_at}

-- ---- an answer that was open

abbrev is_mounting : Effect → Bool
is_mounting Nothing = false
is_mounting OwesNothing = false
is_mounting Mounts = true
is_mounting Unmounts = false
is_mounting (Arms arming) = false
is_mounting Stalls = false

abbrev is_stalling : Effect → Bool
is_stalling Nothing = false
is_stalling OwesNothing = false
is_stalling Mounts = false
is_stalling Unmounts = false
is_stalling (Arms arming) = false
is_stalling Stalls = true

abbrev is_mounted : PlainAnswer → Bool
is_mounted plain.Ok = false
is_mounted plain.Mounted = true
is_mounted plain.Already = false
is_mounted plain.Down = false
is_mounted plain.Expired = false
is_mounted plain.Io = false

-- the ring behind the log that a line under way has read
abbrev ring_of : Under → Ring
ring_of under = ring_at (end_of disk_logs under.slots)

-- it makes of a server and of the locks what the core's answer makes of them, begins a mount only with the answer `mounted`, and stalls only where a stall is asked
record IsOpenEffect (operation : Op) (answer : PlainAnswer) (effect : Effect) : Type 0 where
  server : (s : State) (under : Under) (server : Server) → answered_open (core_at s) under server operation (reply_of answer) ≡ server_after effect s.tick (ring_of under) server
  locks : (locks : Locks) (a : ℕ) → (if is_unmount operation && true then cleared locks a else locks) ≡ locks_after effect locks a
  mounts : is_mounting effect ≡ true → is_mounted answer ≡ true
  stalls : is_stalling effect ≡ true → operation ≡ op.Stall

no_mount : {X : Type 0} → false ≡ true → X
no_mount e = absurd (false≢true e)

-- nothing
plain_is : (operation : Op) (answer : PlainAnswer) → ((s : State) (under : Under) (server : Server) → answered_open (core_at s) under server operation (reply_of answer) ≡ server)
    → is_unmount operation ≡ false → IsOpenEffect operation answer Nothing
plain_is operation answer server no_unmount = record {
  server = server;
  locks = λ locks a. ap (λ b. if b && true then cleared locks a else locks) no_unmount;
  mounts = λ e. no_mount e;
  stalls = λ e. no_mount e;
}

mount_is : (answer : PlainAnswer) → IsOpenEffect op.Mount answer (open_effect op.Mount answer)
mount_is plain.Ok = plain_is op.Mount plain.Ok (λ s under server. refl) refl
mount_is plain.Mounted = record { server = λ s under server. refl; locks = λ locks a. refl; mounts = λ e. refl; stalls = λ e. no_mount e }
mount_is plain.Already = plain_is op.Mount plain.Already (λ s under server. refl) refl
mount_is plain.Down = plain_is op.Mount plain.Down (λ s under server. refl) refl
mount_is plain.Expired = plain_is op.Mount plain.Expired (λ s under server. refl) refl
mount_is plain.Io = plain_is op.Mount plain.Io (λ s under server. refl) refl

open_is : (operation : Op) (answer : PlainAnswer) → IsOpenEffect operation answer (open_effect operation answer)
open_is (op.Create path) answer = plain_is (op.Create path) answer (λ s under server. refl) refl
open_is (op.Mkdir path) answer = plain_is (op.Mkdir path) answer (λ s under server. refl) refl
open_is (op.Link path to) answer = plain_is (op.Link path to) answer (λ s under server. refl) refl
open_is (op.Symlink path target) answer = plain_is (op.Symlink path target) answer (λ s under server. refl) refl
open_is (op.Unlink path) answer = plain_is (op.Unlink path) answer (λ s under server. refl) refl
open_is (op.Rmdir path) answer = plain_is (op.Rmdir path) answer (λ s under server. refl) refl
open_is (op.Rename path to) answer = plain_is (op.Rename path to) answer (λ s under server. refl) refl
open_is (op.Write path off bytes) answer = plain_is (op.Write path off bytes) answer (λ s under server. refl) refl
open_is (op.Fill path off len byte) answer = plain_is (op.Fill path off len byte) answer (λ s under server. refl) refl
open_is (op.Truncate path len) answer = plain_is (op.Truncate path len) answer (λ s under server. refl) refl
open_is (op.Read path off len) answer = plain_is (op.Read path off len) answer (λ s under server. refl) refl
open_is (op.Stat path) answer = plain_is (op.Stat path) answer (λ s under server. refl) refl
open_is (op.List path) answer = plain_is (op.List path) answer (λ s under server. refl) refl
open_is (op.Readlink path) answer = plain_is (op.Readlink path) answer (λ s under server. refl) refl
open_is (op.Time path) answer = plain_is (op.Time path) answer (λ s under server. refl) refl
open_is op.Sync answer = plain_is op.Sync answer (λ s under server. refl) refl
open_is op.Mount answer = mount_is answer
open_is op.Unmount answer = record { server = λ s under server. refl; locks = λ locks a. refl; mounts = λ e. no_mount e; stalls = λ e. no_mount e }
open_is op.Crash answer = plain_is op.Crash answer (λ s under server. refl) refl
open_is (op.CrashAt k) answer = record { server = λ s under server. refl; locks = λ locks a. refl; mounts = λ e. no_mount e; stalls = λ e. no_mount e }
open_is (op.CutAt k) answer = record { server = λ s under server. refl; locks = λ locks a. refl; mounts = λ e. no_mount e; stalls = λ e. no_mount e }
open_is op.Stall answer = record { server = λ s under server. refl; locks = λ locks a. refl; mounts = λ e. no_mount e; stalls = λ e. refl }

-- ---- an answer to a line of a server

abbrev chosen : Bool → Op → PlainAnswer → Effect
chosen fixed operation answer = if fixed then fixed_effect operation answer else open_effect operation answer

module _ (s : State) (a : ℕ) (under : Under) (operation : Op) (answer : PlainAnswer) where
  abbrev c : Core
  c = core_at s

  fixed_by : (b : Bool) → (if b then record (c.servers a) { owes = false } else c.servers a) ≡ server_after (if b then OwesNothing else Nothing) s.tick (ring_of under) (c.servers a)
  fixed_by true = refl
  fixed_by false = refl

  server_is : (fixed : Bool) → (if fixed then answered_fixed (c.servers a) operation (reply_of answer) else answered_open c under (c.servers a) operation (reply_of answer))
      ≡ server_after (chosen fixed operation answer) s.tick (ring_of under) (c.servers a)
  server_is true = fixed_by (is_unmount operation && is_ok (reply_of answer))
  server_is false = (open_is operation answer).server s under (c.servers a)

  -- who was answered so before keeps its locks
  locks_by : (unmounts owes : Bool) → (if unmounts && false then cleared c.locks a else c.locks) ≡ locks_after (if owes then OwesNothing else Nothing) c.locks a
  locks_by true true = refl
  locks_by true false = refl
  locks_by false true = refl
  locks_by false false = refl

  locks_are : (fixed : Bool) → (if is_unmount operation && not fixed then cleared c.locks a else c.locks) ≡ locks_after (chosen fixed operation answer) c.locks a
  locks_are true = locks_by (is_unmount operation) (is_unmount operation && is_ok (reply_of answer))
  locks_are false = (open_is operation answer).locks c.locks a

  with_effect : (c.servers a).under ≡ Some under → answered_with c a under (reply_of answer) (Some operation) ≡ answered_so c a (ring_of under) (chosen (is_some under.fixed) operation answer)
  with_effect at = λ i. record c {
    servers = put c.servers a (record (server_is (is_some under.fixed) i) { under = None });
    locks = locks_are (is_some under.fixed) i;
    answered = put c.answered (sym (ap number_under at) i) true;
  }

-- ---- an answer that is due

abbrev ring_under : Option Under → Ring
ring_under None = ring_at 0
ring_under (Some under) = ring_of under

module _ (s : State) (a : ℕ) (answer : PlainAnswer) (is_due : Some (reply_of answer) ≡ due_at (core_at s) a) where
  abbrev made_of : Option Under → Option Effect → Core
  made_of under None = core_at s
  made_of under (Some effect) = answered_so (core_at s) a (ring_under under) effect

  by_operation : (under : Under) (o : Option Op) → ((core_at s).servers a).under ≡ Some under
      → answered_with (core_at s) a under (reply_of answer) o ≡ made_of (Some under) (option_map (λ operation. chosen (is_some under.fixed) operation answer) o)
  by_operation under None at = refl
  by_operation under (Some operation) at = with_effect s a under operation answer at

  by_under : (o : Option Under) → ((core_at s).servers a).under ≡ o → answered_under (core_at s) a o (Some (reply_of answer)) ≡ made_of o (effect_under o answer)
  by_under None at = refl
  by_under (Some under) at = by_operation under (operation_of under.line.what) at

  pub answered_is : answered (core_at s) a ≡ made_of ((core_at s).servers a).under (effect_under ((core_at s).servers a).under answer)
  answered_is = ap (answered_under (core_at s) a ((core_at s).servers a).under) (sym is_due) ∙ by_under ((core_at s).servers a).under refl

-- ---- what it asks

module _ (s : State) (a : ℕ) (answer : PlainAnswer) where
  abbrev server : Server
  server = (core_at s).servers a

  not_fixed : (P : Effect → Bool) → P OwesNothing ≡ false → P Nothing ≡ false → (operation : Op) → P (fixed_effect operation answer) ≡ false
  not_fixed P owes none operation = go (is_unmount operation && is_ok (reply_of answer))
    where
      go : (b : Bool) → P (if b then OwesNothing else Nothing) ≡ false
      go true = owes
      go false = none

  -- a mount begins only with the answer `mounted`
  mounts_by : (under : Option Under) (effect : Effect) → effect_under under answer ≡ Some effect → is_mounting effect ≡ true → is_mounted answer ≡ true
  mounts_by None effect is mounts = absurd (cc)
  mounts_by (Some under) effect is mounts = go (is_some under.fixed) (operation_of under.line.what) is
    where
      by_fixed : (fixed : Bool) (operation : Op) → is_mounting (chosen fixed operation answer) ≡ true → is_mounted answer ≡ true
      by_fixed true operation e = no_mount (sym (not_fixed is_mounting refl refl operation) ∙ e)
      by_fixed false operation e = (open_is operation answer).mounts e

      go : (fixed : Bool) (o : Option Op) → option_map (λ operation. chosen fixed operation answer) o ≡ Some effect → is_mounted answer ≡ true
      go fixed None is = absurd (cc)
      go fixed (Some operation) is = by_fixed fixed operation (ap is_mounting (same_Some (chosen fixed operation answer) effect is) ∙ mounts)

  -- then there is the ring behind the log that was read
  mount_ring : (ring : Option SpaciousRing) → is_mounted answer ≡ true → IsMountRing s a answer ring → IsSome ring × (ring_in ring ≡ ring_under server.under)
  mount_ring ring mounted is = by_answer answer mounted is
    where
      by_parts : (o : Option Under) (ring : Option SpaciousRing) → IsSomeAnd o (λ under. IsSomeAnd ring (λ r. r.ring ≡ ring_of under)) → IsSome ring × (ring_in ring ≡ ring_under o)
      by_parts None ring is = absurd is
      by_parts (Some under) None is = absurd is
      by_parts (Some under) (Some ring) is = (refl, is)

      by_answer : (answer : PlainAnswer) → is_mounted answer ≡ true → IsMountRing s a answer ring → IsSome ring × (ring_in ring ≡ ring_under server.under)
      by_answer plain.Ok mounted is = no_mount mounted
      by_answer plain.Mounted mounted is = by_parts server.under ring is
      by_answer plain.Already mounted is = no_mount mounted
      by_answer plain.Down mounted is = no_mount mounted
      by_answer plain.Expired mounted is = no_mount mounted
      by_answer plain.Io mounted is = no_mount mounted

  -- who stalls is up
  stalls_up : (flights : Flights) (under : Under) (effect : Effect) (fixed : Option Reply) (o : Option Op) → option_map (λ operation. chosen (is_some fixed) operation answer) o ≡ Some effect
      → is_stalling effect ≡ true → Some (reply_of answer) ≡ answer_of fixed (own_answer_of disk_logs flights a server under o) → is_up server.phase ≡ true
  stalls_up flights under effect fixed None is stalls is_due = absurd (cc)
  stalls_up flights under effect (Some reply) (Some operation) is stalls is_due =
      no_mount (sym (not_fixed is_stalling refl refl operation) ∙ ap is_stalling (same_Some (fixed_effect operation answer) effect is) ∙ stalls)
  stalls_up flights under effect None (Some operation) is stalls is_due =
      let stall : operation ≡ op.Stall = (open_is operation answer).stalls (ap is_stalling (same_Some (open_effect operation answer) effect is) ∙ stalls) in
      up (is_up server.phase) (is_due ∙ ap (own_answer disk_logs flights a server under) stall)
    where
      up : (b : Bool) → Some (reply_of answer) ≡ due_if b reply.Ok → b ≡ true
      up true e = refl
      up false e = absurd (cc)

  up_is_mounted : is_up server.phase ≡ true → is_in_mount server.phase ≡ true
  up_is_mounted up = ap (λ b. b || is_still server.phase || is_doomed server.phase) up

  stalls_mounted : (effect : Effect) → effect_under server.under answer ≡ Some effect → is_stalling effect ≡ true → Some (reply_of answer) ≡ due_at (core_at s) a → is_in_mount server.phase ≡ true
  stalls_mounted effect is stalls is_due = up_is_mounted (by_under server.under is (by_answering (is_answering server.phase) is_due))
    where
      by_answering : (b : Bool) → Some (reply_of answer) ≡ (if b then due_under disk_logs (core_at s).flights a server server.under else None)
          → Some (reply_of answer) ≡ due_under disk_logs (core_at s).flights a server server.under
      by_answering true e = e
      by_answering false e = absurd (cc)

      by_under : (o : Option Under) → effect_under o answer ≡ Some effect → Some (reply_of answer) ≡ due_under disk_logs (core_at s).flights a server o → is_up server.phase ≡ true
      by_under None is is_due = absurd (cc)
      by_under (Some under) is is_due = stalls_up (core_at s).flights under effect under.fixed (operation_of under.line.what) is stalls is_due

  pub may_have : (effect : Effect) (ring : Option SpaciousRing) → effect_under server.under answer ≡ Some effect → Some (reply_of answer) ≡ due_at (core_at s) a → IsMountRing s a answer ring
      → MayHave effect ring server
  may_have Nothing ring is is_due there = tt
  may_have OwesNothing ring is is_due there = tt
  may_have Mounts ring is is_due there = (mount_ring ring (mounts_by server.under Mounts is refl) there).0
  may_have Unmounts ring is is_due there = tt
  may_have (Arms arming) ring is is_due there = tt
  may_have Stalls ring is is_due there = stalls_mounted Stalls is refl is_due

  -- only with a mount the ring counts
  by_ring : (effect : Effect) (ring : Option SpaciousRing) → effect_under server.under answer ≡ Some effect → IsMountRing s a answer ring
      → server_after effect s.tick (ring_in ring) server ≡ server_after effect s.tick (ring_under server.under) server
  by_ring Nothing ring is there = refl
  by_ring OwesNothing ring is there = refl
  by_ring Mounts ring is there = ap (λ r. server_after Mounts s.tick r server) (mount_ring ring (mounts_by server.under Mounts is refl) there).1
  by_ring Unmounts ring is there = refl
  by_ring (Arms arming) ring is there = refl
  by_ring Stalls ring is there = refl

  -- ---- of the world

  pub answered_with_effect : (places : Placed) (parties : Parties) (table : Table) (number : ℕ) (effect : Effect) (ring : Option SpaciousRing) → effect_under server.under answer ≡ Some effect
      → Some (reply_of answer) ≡ due_at (core_at s) a → IsMountRing s a answer ring → number ≡ number_under server.under → places.script ≡ s.places.script → places.passed ≡ s.places.passed
      → marks_of places.answered ≡ put (marks_of s.places.answered) number true
      → Becomes s.parties parties a (record (server_after effect s.tick (ring_in ring) (servers_at s.parties a)) { under = None }) → table.locks ≡ locks_after effect s.locks.locks a
      → core_at (record s { places = places; parties = parties; locks = table }) ≡ answered (core_at s) a
  answered_with_effect places parties table number effect ring is is_due there numbered script passed marks becomes given_back =
      (λ i. record (core_at (record s { places = record places { script = script i; passed = passed i }; parties = record s.parties { segments = becomes.stays.segments i; held = becomes.stays.held i } })) {
        servers = becomes.servers i;
        locks = given_back i;
        answered = (marks ∙ ap (λ n. put (marks_of s.places.answered) n true) numbered) i;
      })
      ∙ ap (λ (after : Server). record (core_at s) {
        servers = put (core_at s).servers a (record after { under = None });
        locks = locks_after effect (core_at s).locks a;
        answered = put (core_at s).answered (number_under server.under) true;
      }) (by_ring effect ring is there)
      ∙ sym (answered_is s a answer is_due ∙ ap (made_of s a answer is_due server.under) is)
