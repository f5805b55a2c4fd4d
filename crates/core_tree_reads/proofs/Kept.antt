-- Events but those of the host's reading leave what it has read and said of the tree, and say no line of it.
use Rattle.std.proofs.Common.{◌≡◌, ◌⊎◌, inl, inr, ℕ, Bool, true, false, ◌||◌, ◌==◌, if◌then◌else◌, List, Option, Some, None, refl}
use Rattle.std.specs.List.{list_any}
use Rattle.frang_base.specs.declared.lock.LockId.{LockId}
use Rattle.frang_base.specs.declared.op.Op.{Op}
use Rattle.frang_base.specs.declared.reply.Reply.{Reply}
use Rattle.frang_base.specs.declared.said.Said.{Said}
use Rattle.frang_base.specs.declared.script.Line.{Line}
use Rattle.tree_definitions.specs.Transcript.{is_end, is_node}
use Rattle.lock_definitions.specs.Calls.{asked_for}
use Rattle.lock_definitions.specs.declared.claim.AskedFor.{AskedFor}
use Rattle.lock_definitions.specs.declared.claim.AskedFor.TheVariants.{Release, Downgrade}
use Rattle.sector_bytes.specs.SectorMaps.{value_at}
use Rattle.core_definitions.specs.Flights.{Flight}
use Rattle.core_definitions.specs.Lines.{Stage, Asking, Fetching, Moving, Stopping, Growing, Clearing, Finishing, Under, operation_of}
use Rattle.core_definitions.specs.Recoveries.{Recovery}
use Rattle.core_definitions.specs.Scripts.{host_party}
use Rattle.core_definitions.specs.Servers.{Phase, Off, Up, Still, Doomed, Dead, is_off}
use Rattle.core_definitions.specs.Writes.{Write}
use Rattle.core_definitions.specs.Cores.{Core, clean_at, due_at, next_of, stage, writes}
use Rattle.core_definitions.specs.Events.{Event, Begin, Ask, Fetch, Again, Clear, Commit, Answer, Give, Issue, Doom, Resume, Arrive, Lose, Die, Renew, Tick, Recover, Load, Look, Finish, HostLine, Close, Read, Show, End, Heard, Nothing, Got, GetFailed, Written, Late, PutFailed}
use Rattle.core_definitions.specs.LineEffects.{answered_under, answered_with, call_failed, committed_at, fetch_failed}
use Rattle.core_definitions.specs.WriteEffects.{arrived_from, died_in, given_for, issued_as, landed}
use Rattle.core_definitions.specs.EndEffects.{closed, finished_from, host_answered_line}
use Rattle.core_definitions.specs.Effects.{Deed, after, deeds_of, deeds_of_arrival, deeds_of_put, reply_by, says_answer, says_recovered}
use Rattle.core_definitions.specs.Runs.{saids_of}

-- what was read of the tree, how many lines are said, and the setting
pub record Same (c d : Core) : Type 0 where
  pub setting : d.setting ≡ c.setting
  pub read : d.read ≡ c.read
  pub shown : d.shown ≡ c.shown

either : (c d e : Core) (b : Bool) → Same c d → Same c e → Same c (if b then d else e)
either c d e true x y = x
either c d e false x y = y

-- a line of the tree, or the end
abbrev pub is_of_tree : Said → Bool
is_of_tree said = is_node said || is_end said

abbrev pub NoneOfTree : List Deed → Type 0
NoneOfTree deeds = list_any is_of_tree (saids_of deeds) ≡ false

-- ---- what an event leaves

-- what was read and said of the tree, of which it says no line
pub record Leaves (c : Core) (event : Event) (heard : Heard) : Type 0 where
  pub same : Same c (after c event heard)
  pub none : NoneOfTree (deeds_of c event heard)

-- it is one of the host's reading that does more
pub data IsOfHost : Event → Type 0 where
  Reads : (sector : ℕ) → IsOfHost (Read sector)
  Shows : (place : ℕ) → IsOfHost (Show place)
  Ends : IsOfHost End

module _ (c : Core) where
  itself : Same c c
  itself = record { setting = refl; read = refl; shown = refl }

  -- a call fails
  failed : (d : Core) (a : ℕ) → Same c d → Same c (call_failed d a)
  failed d a same = either c _ _ (a == host_party) (record { setting = same.setting; read = same.read; shown = same.shown }) (record { setting = same.setting; read = same.read; shown = same.shown })

  fetch_fails : (a : ℕ) → Same c (fetch_failed c a)
  fetch_fails a = either c _ _ (is_off (c.servers a).phase) (record { setting = refl; read = refl; shown = refl }) (failed c a itself)

  commits : (a : ℕ) (at : Option Stage) → Same c (committed_at c a at)
  commits a None = itself
  commits a (Some (Asking need)) = itself
  commits a (Some (Fetching needs)) = itself
  commits a (Some Moving) = itself
  commits a (Some Stopping) = itself
  commits a (Some (Growing needs seen)) = itself
  commits a (Some (Clearing block)) = itself
  commits a (Some (Finishing outcome)) = record { setting = refl; read = refl; shown = refl }

  answers_so : (a : ℕ) (u : Under) (r : Reply) (o : Option Op) → Same c (answered_with c a u r o)
  answers_so a u r None = itself
  answers_so a u r (Some o) = record { setting = refl; read = refl; shown = refl }

  answers : (a : ℕ) (u : Option Under) (r : Option Reply) → Same c (answered_under c a u r)
  answers a None None = itself
  answers a None (Some r) = itself
  answers a (Some u) None = itself
  answers a (Some u) (Some r) = answers_so a u r (operation_of u.line.what)

  gives : (a : ℕ) (lock : LockId) (o : Option AskedFor) → Same c (given_for c a lock o)
  gives a lock None = itself
  gives a lock (Some Downgrade) = record { setting = refl; read = refl; shown = refl }
  gives a lock (Some Release) = record { setting = refl; read = refl; shown = refl }

  issues : (a sector : ℕ) (o : Option Write) → Same c (issued_as c a sector o)
  issues a sector None = itself
  issues a sector (Some write) = record { setting = refl; read = refl; shown = refl }

  dies : (a : ℕ) (p : Phase) → Same c (died_in c a p)
  dies a Off = itself
  dies a Up = itself
  dies a Still = itself
  dies a (Doomed fate) = record { setting = refl; read = refl; shown = refl }
  dies a Dead = itself

  finishes : (by : ℕ) (o : Option Recovery) → Same c (finished_from c by o)
  finishes by None = itself
  finishes by (Some recovery) = record { setting = refl; read = refl; shown = refl }

  closes : (a : ℕ) → Same c (closed c a)
  closes a = either c _ _ (clean_at c a) (record { setting = refl; read = refl; shown = refl }) (record { setting = refl; read = refl; shown = refl })

  hosts : (o : Option Line) → Same c (host_answered_line c o)
  hosts None = itself
  hosts (Some line) = record { setting = refl; read = refl; shown = refl }

  arrives : (ticket : ℕ) (heard : Heard) (o : Option Flight) → Same c (arrived_from c ticket heard o)
  arrives ticket heard None = itself
  arrives ticket Nothing (Some flight) = record { setting = refl; read = refl; shown = refl }
  arrives ticket (Got block) (Some flight) = record { setting = refl; read = refl; shown = refl }
  arrives ticket GetFailed (Some flight) = record { setting = refl; read = refl; shown = refl }
  arrives ticket Written (Some flight) =
      either c _ _ flight.present (record { setting = refl; read = refl; shown = refl }) (record { setting = refl; read = refl; shown = refl })
  arrives ticket Late (Some flight) = record { setting = refl; read = refl; shown = refl }
  arrives ticket (PutFailed new) (Some flight) = failed (landed c ticket) flight.server (record { setting = refl; read = refl; shown = refl })

  fetches : (a sector : ℕ) (heard : Heard) → Same c (after c (Fetch a sector) heard)
  fetches a sector (Got block) = record { setting = refl; read = refl; shown = refl }
  fetches a sector Nothing = fetch_fails a
  fetches a sector GetFailed = fetch_fails a
  fetches a sector Written = fetch_fails a
  fetches a sector Late = fetch_fails a
  fetches a sector (PutFailed new) = fetch_fails a

  loads : (by slot : ℕ) (heard : Heard) → Same c (after c (Load by slot) heard)
  loads by slot (Got block) = record { setting = refl; read = refl; shown = refl }
  loads by slot Nothing = failed c by itself
  loads by slot GetFailed = failed c by itself
  loads by slot Written = failed c by itself
  loads by slot Late = failed c by itself
  loads by slot (PutFailed new) = failed c by itself

  looks : (by sector : ℕ) (heard : Heard) → Same c (after c (Look by sector) heard)
  looks by sector (Got block) = record { setting = refl; read = refl; shown = refl }
  looks by sector Nothing = failed c by itself
  looks by sector GetFailed = failed c by itself
  looks by sector Written = failed c by itself
  looks by sector Late = failed c by itself
  looks by sector (PutFailed new) = failed c by itself

  -- ---- lines said

  answer_none : (a : ℕ) (u : Option Under) (r : Option Reply) → NoneOfTree (says_answer a u r)
  answer_none a None r = refl
  answer_none a (Some u) None = refl
  answer_none a (Some u) (Some r) = refl

  put_none : (flight : Flight) (heard : Heard) → NoneOfTree (deeds_of_put c.now flight heard)
  put_none flight Nothing = refl
  put_none flight (Got block) = refl
  put_none flight GetFailed = refl
  put_none flight Written = refl
  put_none flight Late = refl
  put_none flight (PutFailed new) = refl

  arrival_none : (heard : Heard) (o : Option Flight) → NoneOfTree (deeds_of_arrival c.now heard o)
  arrival_none heard None = refl
  arrival_none heard (Some flight) = put_none flight heard

  recovered_none : (o : Option Recovery) → NoneOfTree (says_recovered c o)
  recovered_none None = refl
  recovered_none (Some recovery) = refl

  -- ---- each event

  pub left_by : (event : Event) (heard : Heard) → IsOfHost event ⊎ Leaves c event heard
  left_by (Begin a) heard = inr (record { same = record { setting = refl; read = refl; shown = refl }; none = refl })
  left_by (Ask a lock mode) heard = inr (record { same = record { setting = refl; read = refl; shown = refl }; none = refl })
  left_by (Fetch a sector) heard = inr (record { same = fetches a sector heard; none = refl })
  left_by (Again a) heard = inr (record { same = record { setting = refl; read = refl; shown = refl }; none = refl })
  left_by (Clear a block) heard = inr (record { same = record { setting = refl; read = refl; shown = refl }; none = refl })
  left_by (Commit a) heard = inr (record { same = commits a (stage c a); none = answer_none a (c.servers a).under (reply_by (stage c a)) })
  left_by (Answer a) heard = inr (record { same = answers a (c.servers a).under (due_at c a); none = answer_none a (c.servers a).under (due_at c a) })
  left_by (Give a lock) heard = inr (record { same = gives a lock (asked_for c.locks a lock); none = refl })
  left_by (Issue a sector) heard = inr (record { same = issues a sector (value_at (writes c a) sector); none = refl })
  left_by (Doom a) heard = inr (record { same = record { setting = refl; read = refl; shown = refl }; none = refl })
  left_by (Resume a) heard = inr (record { same = record { setting = refl; read = refl; shown = refl }; none = refl })
  left_by (Arrive ticket) heard = inr (record { same = arrives ticket heard (value_at c.flights ticket); none = arrival_none heard (value_at c.flights ticket) })
  left_by (Lose ticket) heard = inr (record { same = record { setting = refl; read = refl; shown = refl }; none = refl })
  left_by (Die a) heard = inr (record { same = dies a (c.servers a).phase; none = refl })
  left_by (Renew a) heard = inr (record { same = record { setting = refl; read = refl; shown = refl }; none = refl })
  left_by Tick heard = inr (record { same = record { setting = refl; read = refl; shown = refl }; none = refl })
  left_by (Recover dead by) heard = inr (record { same = record { setting = refl; read = refl; shown = refl }; none = refl })
  left_by (Load by slot) heard = inr (record { same = loads by slot heard; none = refl })
  left_by (Look by sector) heard = inr (record { same = looks by sector heard; none = refl })
  left_by (Finish by) heard = inr (record { same = finishes by (c.servers by).recovery; none = recovered_none (c.servers by).recovery })
  left_by (HostLine number) heard = inr (record { same = hosts (next_of c host_party); none = refl })
  left_by (Close a) heard = inr (record { same = closes a; none = refl })
  left_by (Read sector) heard = inl (Reads sector)
  left_by (Show place) heard = inl (Shows place)
  left_by End heard = inl Ends
