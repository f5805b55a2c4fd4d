-- The events that may happen, each once: in the order of the table, those of one row by their numbers from left to right.
use Rattle.std.specs.Prelude.{ℕ, Bool, true, false, not, ◌&&◌, if◌then◌else◌, Option, Some, None, List, [], ◌∷◌, ◌++◌, length, map, nat_lt, ◌==◌}
use Rattle.std.specs.List.{flat_map, list_all}
use Rattle.std.specs.Map.{keys_of}
use Rattle.frang_base.specs.declared.limits.TheConstants.{LAST_TICK}
use Rattle.frang_base.specs.declared.script.Line.{Line}
use Rattle.tree_definitions.specs.Transcript.{is_mount}
use Rattle.lock_definitions.specs.Locks.{claims_of}
use Rattle.sector_bytes.specs.SectorMaps.{value_at}
use Rattle.core_definitions.specs.Logs.{unread}
use Rattle.core_definitions.specs.Lines.{Stage, Asking, Clearing}
use Rattle.core_definitions.specs.Recoveries.{Recovery, to_look}
use Rattle.core_definitions.specs.Scripts.{host_party}
use Rattle.core_definitions.specs.Servers.{asks, is_off, is_up}
use Rattle.core_definitions.specs.Writes.{Writes, wanted_writes}
use Rattle.core_definitions.specs.Cores.{Core, next_of, parties, server_numbers, stage, tree_lines, tree_needs}
use Rattle.core_definitions.specs.Events.{Event, Begin, Ask, Fetch, Again, Clear, Commit, Answer, Give, Issue, Doom, Resume, Arrive, Lose, Die, Renew, Tick, Recover, Load, Look, Finish, HostLine, Close, Read, Show, End}
use Rattle.core_definitions.specs.LineGuards.{is_new_wish, is_server, may_again, may_answer, may_begin, may_commit, needed_by, slots_under}
use Rattle.core_definitions.specs.WriteGuards.{is_by_dead, is_flight, is_worker, may_die, may_doom, may_give, may_issue, may_renew, may_resume}
use Rattle.core_definitions.specs.EndGuards.{is_at_rest, is_tree_read, may_close, may_finish, may_host, may_recover}
use Rattle.core_definitions.specs.Guards.{has_line_at_gate, is_stale}

-- the event, if the test passes
abbrev pub only : Bool → Event → List Event
only true event = event ∷ []
only false event = []

abbrev pub only_if : {X : Type 0} → Bool → List X → List X
only_if true xs = xs
only_if false xs = []

-- a server or the host, with what is read off the state for several events: how far its line has come, and what it wants written
pub record Party : Type 0 where
  pub number : ℕ
  pub at : Option Stage
  pub wants : Writes

abbrev pub party_at : Core → ℕ → Option Stage → Party
party_at c a at = record { number = a; at = at; wants = wanted_writes c.setting c.locks a (c.servers a) at }

abbrev pub party_of : Core → ℕ → Party
party_of c a = party_at c a (stage c a)

abbrev pub all_parties : Core → List Party
all_parties c = map (party_of c) parties

-- rows of events, one behind another
abbrev pub row_by_row : List (List Event) → List Event
row_by_row [] = []
row_by_row (row ∷ rows) = row ++ row_by_row rows

-- ---- lines

abbrev pub begins : Core → Party → List Event
begins c p = only (may_begin c p.number) (Begin p.number)

abbrev pub asks_at : Core → ℕ → Option Stage → List Event
asks_at c a (Some (Asking need)) = only (is_server a && is_new_wish c a need.0 need.1) (Ask a need.0 need.1)
asks_at c a _ = []

abbrev pub asks_of : Core → Party → List Event
asks_of c p = asks_at c p.number p.at

abbrev pub fetches : Core → Party → List Event
fetches c p =
    map (Fetch p.number) (only_if (is_server p.number && is_up (c.servers p.number).phase) (needed_by p.at))
    ++ map (Fetch p.number)
    (only_if (is_server p.number && is_off (c.servers p.number).phase && asks is_mount (c.servers p.number)) (slots_under c.setting.logs p.number (c.servers p.number).under))

abbrev pub agains : Core → Party → List Event
agains c p = only (may_again c p.number p.at) (Again p.number)

abbrev pub clears_at : ℕ → Option Stage → List Event
clears_at a (Some (Clearing block)) = only (is_server a) (Clear a block)
clears_at a _ = []

abbrev pub clears : Party → List Event
clears p = clears_at p.number p.at

abbrev pub commits : Core → Party → List Event
commits c p = only (may_commit c p.number p.at) (Commit p.number)

abbrev pub answers : Core → Party → List Event
answers c p = only (may_answer c p.number) (Answer p.number)

-- ---- locks, writes and lives

abbrev pub gives : Core → Party → List Event
gives c p = flat_map (λ lock. only (may_give c p.number lock) (Give p.number lock)) (keys_of (claims_of c.locks p.number))

abbrev pub issues : Core → Party → List Event
issues c p = flat_map (λ sector. only (may_issue c p.number sector p.wants) (Issue p.number sector)) (keys_of p.wants)

abbrev pub dooms : Core → Party → List Event
dooms c p = only (may_doom c p.number p.wants) (Doom p.number)

abbrev pub resumes : Core → Party → List Event
resumes c p = only (may_resume c p.number) (Resume p.number)

abbrev pub arrives : Core → List Event
arrives c = map Arrive (keys_of c.flights)

abbrev pub loses : Core → List Event
loses c = flat_map (λ ticket. only (is_flight (is_by_dead c) (value_at c.flights ticket)) (Lose ticket)) (keys_of c.flights)

abbrev pub dies : Core → Party → List Event
dies c p = only (may_die c p.number) (Die p.number)

abbrev pub renews : Core → Party → List Event
renews c p = only (may_renew c p.number) (Renew p.number)

abbrev pub rows_before : Core → List Party → List (List Event)
rows_before c all =
    flat_map (begins c) all ∷ flat_map (asks_of c) all ∷ flat_map (fetches c) all ∷ flat_map (agains c) all ∷ flat_map clears all ∷
    flat_map (commits c) all ∷ flat_map (answers c) all ∷ flat_map (gives c) all ∷ flat_map (issues c) all ∷ flat_map (dooms c) all ∷
    flat_map (resumes c) all ∷ arrives c ∷ loses c ∷ flat_map (dies c) all ∷ flat_map (renews c) all ∷ []

-- ---- recoveries and the end

abbrev pub recovers : Core → List Event
recovers c = flat_map (λ dead. flat_map (λ by. only (may_recover c dead by) (Recover dead by)) parties) server_numbers

abbrev pub loads_for : Core → ℕ → Option Recovery → List Event
loads_for c by None = []
loads_for c by (Some recovery) = map (Load by) (only_if (is_worker c by) (unread c.setting.logs recovery.slots))

abbrev pub loads : Core → Party → List Event
loads c p = loads_for c p.number (c.servers p.number).recovery

abbrev pub looks_for : Core → ℕ → Option Recovery → List Event
looks_for c by None = []
looks_for c by (Some recovery) = map (Look by) (only_if (is_worker c by) (to_look c.setting.logs c.setting.segments recovery))

abbrev pub looks : Core → Party → List Event
looks c p = looks_for c p.number (c.servers p.number).recovery

abbrev pub finishes : Core → Party → List Event
finishes c p = only (may_finish c p.number) (Finish p.number)

abbrev pub host_line : Core → Option Line → List Event
host_line c None = []
host_line c (Some line) = only (may_host c line.number) (HostLine line.number)

abbrev pub closes : Core → Party → List Event
closes c p = only (may_close c p.number) (Close p.number)

abbrev pub reads : Core → List Event
reads c = map Read (only_if (is_at_rest c) (tree_needs c))

abbrev pub shows : Core → List Event
shows c = only (is_tree_read c && nat_lt c.shown (length (tree_lines c))) (Show c.shown)

abbrev pub ends : Core → List Event
ends c = only (is_tree_read c && c.shown == length (tree_lines c)) End

abbrev pub rows_after : Core → List Party → List (List Event)
rows_after c all =
    recovers c ∷ flat_map (loads c) all ∷ flat_map (looks c) all ∷ flat_map (finishes c) all ∷ host_line c (next_of c host_party) ∷
    flat_map (closes c) all ∷ reads c ∷ shows c ∷ ends c ∷ []

-- ---- the whole

abbrev pub before_tick : Core → List Party → List Event
before_tick c all = row_by_row (rows_before c all)

abbrev pub after_tick : Core → List Party → List Event
after_tick c all = row_by_row (rows_after c all)

-- every other event is an arrival or a loss of a write whose server is Still or Dead, no line is at the gate, and the clock isn't at its end
abbrev pub may_tick : Core → List Event → Bool
may_tick c others = list_all (is_stale c) others && not (has_line_at_gate c) && nat_lt c.now LAST_TICK

abbrev pub with_tick : Core → List Event → List Event → List Event
with_tick c before behind = before ++ only (may_tick c (before ++ behind)) Tick ++ behind

abbrev pub enabled_among : Core → List Party → List Event
enabled_among c all = with_tick c (before_tick c all) (after_tick c all)

abbrev pub enabled : Core → List Event
enabled c = if c.over then [] else enabled_among c (all_parties c)
