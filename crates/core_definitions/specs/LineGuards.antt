-- When the events of a line may happen: Begin, Ask, Fetch, Again, Clear, Commit, Answer. Above each stand the words that it reads; each condition is a fact of its own, and behind
-- it stand the same tests in one.
use Rattle.std.specs.Prelude.{◌≡◌, ℕ, Bool, true, false, not, ◌&&◌, ◌||◌, IsTrue, Option, Some, None, is_some, List, [], ◌∷◌, map, nat_lt}
use Rattle.std.specs.List.{list_all}
use Rattle.std.specs.Map.{keys_of}
use Rattle.std.specs.Option.{IsSome}
use Rattle.frang_base.specs.Functions.{member}
use Rattle.frang_base.specs.declared.limits.TheConstants.{SERVERS}
use Rattle.frang_base.specs.declared.lock.LockId.{LockId}
use Rattle.frang_base.specs.declared.lock.Mode.{Mode}
use Rattle.frang_base.specs.declared.script.Line.{Line}
use Rattle.tree_definitions.specs.Transcript.{is_mount}
use Rattle.lock_definitions.specs.Locks.{is_wished}
use Rattle.lock_definitions.specs.Calls.{is_free}
use Rattle.ring_definitions.specs.Rings.{oldest_of}
use Rattle.disk_definitions.specs.Regions.{sector_of}
use Rattle.disk_definitions.specs.declared.region.Region.TheVariants as region
use Rattle.core_definitions.specs.Settings.{LogRules}
use Rattle.core_definitions.specs.Logs.{is_none, unread}
use Rattle.core_definitions.specs.Rings.{has_room}
use Rattle.cache_definitions.specs.Caches.{is_dirty_at}
use Rattle.core_definitions.specs.Plans.{Outcome}
use Rattle.core_definitions.specs.Lines.{Stage, Asking, Fetching, Moving, Growing, Clearing, Finishing, Under}
use Rattle.core_definitions.specs.Scripts.{hosts_answered}
use Rattle.core_definitions.specs.Servers.{Server, asks, is_answering, is_off, is_up}
use Rattle.core_definitions.specs.Writes.{lacks_room}
use Rattle.core_definitions.specs.Cores.{Core, due_at, next_of, stage}

-- a server, and not the host
abbrev pub is_server : ℕ → Bool
is_server a = nat_lt a SERVERS

-- ---- Begin

-- there is a line, and it passes
abbrev pub is_line : (Line → Bool) → Option Line → Bool
is_line passes None = false
is_line passes (Some line) = passes line

abbrev pub is_after_hosts : Core → Option Line → Bool
is_after_hosts c line = is_line (λ l. hosts_answered c.setting.script c.answered l.number) line

abbrev pub has_passed : Core → Option Line → Bool
has_passed c line = is_line (λ l. c.passed l.number) line

-- it has a next line, none under way, every host line before it is answered, it is Off, Up or Dead, and the line has passed the gate; a server that is held begins none
pub record CanBegin (c : Core) (a : ℕ) : Type 0 where
  pub server : IsTrue (is_server a)
  pub next : IsSome (next_of c a)
  pub idle : IsTrue (not (is_some (c.servers a).under))
  pub hosts : IsTrue (is_after_hosts c (next_of c a))
  pub phase : IsTrue (is_answering (c.servers a).phase)
  pub passed : IsTrue (has_passed c (next_of c a))
  pub free : IsTrue (not (c.paused a))

abbrev pub may_begin : Core → ℕ → Bool
may_begin c a =
    is_server a && is_some (next_of c a) && not (is_some (c.servers a).under) && is_after_hosts c (next_of c a) && is_answering (c.servers a).phase
    && has_passed c (next_of c a) && not (c.paused a)

-- only the gate keeps its next line from beginning
abbrev pub is_at_gate : Core → ℕ → Bool
is_at_gate c a =
    is_server a && is_some (next_of c a) && not (is_some (c.servers a).under) && is_after_hosts c (next_of c a) && is_answering (c.servers a).phase
    && not (has_passed c (next_of c a)) && not (c.paused a)

-- ---- Ask

-- its wish isn't noted in this mode, or no holder conflicts
abbrev pub is_new_wish : Core → ℕ → LockId → Mode → Bool
is_new_wish c a lock mode = not (is_wished c.locks a lock mode) || is_free c.locks a lock mode

-- Up, the line's set needs the lock so and doesn't have it: the least one; not asked yet, or no holder conflicts now
pub record CanAsk (c : Core) (a : ℕ) (lock : LockId) (mode : Mode) : Type 0 where
  pub server : IsTrue (is_server a)
  pub least : stage c a ≡ Some (Asking (lock, mode))
  pub new : IsTrue (is_new_wish c a lock mode)

-- ---- Fetch

-- the sectors that the line needs and that aren't cached
abbrev pub needed_by : Option Stage → List ℕ
needed_by (Some (Fetching needs)) = keys_of needs
needed_by _ = []

-- the slots of its own log that a mount hasn't read yet
abbrev pub slots_under : LogRules → ℕ → Option Under → List ℕ
slots_under logs a None = []
slots_under logs a (Some under) = map (λ slot. sector_of (region.Log a slot)) (unread logs under.slots)

-- Up, the line needs the sector, isn't cached, its cover is held
abbrev pub is_needed : Core → ℕ → Option Stage → ℕ → Bool
is_needed c a at sector = is_up (c.servers a).phase && member sector (needed_by at)

-- or Off with a mount line, a slot of its own log not read yet
abbrev pub is_unread : Core → ℕ → ℕ → Bool
is_unread c a sector =
    is_off (c.servers a).phase && asks is_mount (c.servers a) && member sector (slots_under c.setting.logs a (c.servers a).under)

pub record CanFetch (c : Core) (a sector : ℕ) : Type 0 where
  pub server : IsTrue (is_server a)
  pub lacks : IsTrue (is_needed c a (stage c a) sector || is_unread c a sector)

-- ---- Again

abbrev pub is_moved : Option Stage → Bool
is_moved (Some Moving) = true
is_moved _ = false

abbrev pub is_grown : Option Stage → Bool
is_grown (Some (Growing needs seen)) = true
is_grown _ = false

-- every sector that its oldest quarter's numbers name is in place: the server has none of them dirty
abbrev pub is_oldest_in_place : LogRules → Server → Bool
is_oldest_in_place logs server = list_all (λ x. not (is_dirty_at server.cache x.sector.0)) (oldest_of logs.quarter server.ring)

abbrev pub may_reclaim : LogRules → Server → Option Stage → Bool
may_reclaim logs server at = lacks_room logs server.ring at && is_oldest_in_place logs server

-- the set is held, and a seen version moved, or the set has grown, or the plan is `Done`, the ring has no room and every sector that its oldest quarter's numbers name is in place;
-- not from a failure on until its doom
pub record CanAgain (c : Core) (a : ℕ) : Type 0 where
  pub server : IsTrue (is_server a)
  pub cause : IsTrue (is_moved (stage c a) || is_grown (stage c a) || may_reclaim c.setting.logs (c.servers a) (stage c a))
  pub well : IsTrue (not (c.servers a).failed)

abbrev pub may_again : Core → ℕ → Option Stage → Bool
may_again c a at = is_server a && (is_moved at || is_grown at || may_reclaim c.setting.logs (c.servers a) at) && not (c.servers a).failed

-- ---- Clear

-- the set is held and not grown, and the plan is `Clear`
pub record CanClear (c : Core) (a block : ℕ) : Type 0 where
  pub server : IsTrue (is_server a)
  pub clear : stage c a ≡ Some (Clearing block)

-- ---- Commit

-- what the plan comes to, where the set is held and not grown, nothing moved and the plan is `Done`
abbrev pub done_by : Option Stage → Option Outcome
done_by (Some (Finishing outcome)) = Some outcome
done_by _ = None

abbrev pub has_room_for : LogRules → Server → Option Outcome → Bool
has_room_for logs server None = false
has_room_for logs server (Some outcome) = has_room logs server.ring outcome.redo

-- Up, a line over paths, the set held and not grown, nothing moved, the plan is `Done`, every write of zeros that `Clear` wanted in this mount is acknowledged, the ring has room
pub record CanCommit (c : Core) (a : ℕ) : Type 0 where
  pub server : IsTrue (is_server a)
  pub done : IsSome (done_by (stage c a))
  pub cleared : IsTrue (is_none (c.servers a).pending)
  pub room : IsTrue (has_room_for c.setting.logs (c.servers a) (done_by (stage c a)))

abbrev pub may_commit : Core → ℕ → Option Stage → Bool
may_commit c a at = is_server a && is_some (done_by at) && is_none (c.servers a).pending && has_room_for c.setting.logs (c.servers a) (done_by at)

-- ---- Answer

-- another line whose answer is due
pub record CanAnswer (c : Core) (a : ℕ) : Type 0 where
  pub server : IsTrue (is_server a)
  pub due : IsSome (due_at c a)

abbrev pub may_answer : Core → ℕ → Bool
may_answer c a = is_server a && is_some (due_at c a)
