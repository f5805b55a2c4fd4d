-- The rows of the list of enabled events: which row each is, and, where what the core keeps is in order, that each ascends; and so the whole.
use Rattle.std.proofs.Common.{◌≡◌, ℕ, ◌<◌, ◌≤◌, ◌+◌, Bool, true, false, not, ◌&&◌, ◌==◌, if◌then◌else◌, List, [], ◌∷◌, ◌++◌, Option, Some, None, filter, is_some, map, nat_lt, length, refl, sym, ap, ◌∙◌, subst, arith}
use Rattle.std.proofs.lemmas.Bool.{false≢true}
use Rattle.std.proofs.lemmas.Bool.Decides.{nat_tests}
use Rattle.std.proofs.lemmas.List.Folds.{flat_map-map}
use Rattle.std.proofs.lemmas.List.Kept.{IsStrictlySortedBy-filter}
use Rattle.std.specs.List.{AllByRecursion, flat_map}
use Rattle.std.specs.List.Sorted.{IsStrictlySortedBy}
use Rattle.std.specs.Map.{keys_of}
use Rattle.std.specs.Ordering.{nat_cmp}
use Rattle.std.specs.declared.cmp.Ordering.TheVariants.{Less, Equal}
use Rattle.sorted_entries.proofs.Sorted.{all_along}
use Rattle.frang_base.specs.declared.change.Redo.{Redo}
use Rattle.frang_base.specs.declared.limits.TheConstants.{ROOT_INODE}
use Rattle.frang_base.specs.declared.script.Line.{Line}
use Rattle.frang_base.proofs.Lists.{all_map, all_append}
use Rattle.lock_definitions.specs.Locks.{AreLocks, claims_of}
use Rattle.lock_definitions.specs.Order.{lock_cmp}
use Rattle.disk_definitions.specs.Replay.{is_replayed}
use Rattle.disk_definitions.specs.Written.{ascending}
use Rattle.sector_bytes.specs.SectorMaps.{value_at, with_value}
use Rattle.sector_bytes.specs.Sectors.{Sectors}
use Rattle.sector_bytes.proofs.MapLaws.{ascend_with}
use Rattle.disk_definitions.specs.Regions.{region_of, sector_of}
use Rattle.disk_definitions.specs.declared.region.Region.TheVariants as region
use Rattle.tree_definitions.specs.Numbers.{below}
use Rattle.tree_definitions.specs.Transcript.{is_mount}
use Rattle.core_definitions.specs.Lines.{Stage, Asking, Fetching, Moving, Stopping, Growing, Clearing, Finishing, Under}
use Rattle.core_definitions.specs.Logs.{SlotsRead, is_read, is_slot_read, unread}
use Rattle.core_definitions.specs.Rings.{next_write}
use Rattle.core_definitions.specs.Recoveries.{Recovery, named_sectors, redos, to_look}
use Rattle.core_definitions.specs.Scripts.{host_party}
use Rattle.core_definitions.specs.Servers.{Phase, Off, Up, Still, Doomed, Dead, asks, is_off, is_up}
use Rattle.core_definitions.specs.Settings.{LogRules, Setting}
use Rattle.core_definitions.specs.Trees.{inode_sector, shown_by}
use Rattle.core_definitions.specs.Writes.{Write, log_wanted_to, log_write, place_writes, rescue_writes, wanted_writes}
use Rattle.core_definitions.specs.Cores.{Core, next_of, parties, server_numbers, stage, tree_lines, tree_needs}
use Rattle.core_definitions.specs.Events.{Event, Begin, Ask, Fetch, Again, Clear, Commit, Answer, Give, Issue, Doom, Resume, Arrive, Lose, Die, Renew, Tick, Recover, Load, Look, Finish, HostLine, Close, Read, Show, End}
use Rattle.core_definitions.specs.LineGuards.{is_new_wish, is_server, may_again, may_answer, may_begin, may_commit, needed_by, slots_under}
use Rattle.core_definitions.specs.WriteGuards.{is_by_dead, is_flight, is_worker, may_die, may_doom, may_give, may_issue, may_renew, may_resume}
use Rattle.core_definitions.specs.EndGuards.{is_at_rest, is_tree_read, may_close, may_finish, may_host, may_recover}
use Rattle.core_definitions.specs.Enabled.{Party, after_tick, agains, all_parties, answers, asks_at, asks_of, before_tick, begins, clears, clears_at, closes, commits, dies, dooms, enabled, enabled_among, fetches, finishes, gives, host_line, issues, loads, loads_for, looks, looks_for, may_tick, only, only_if, party_of, recovers, renews, resumes, rows_after, rows_before}
use Rattle.core_definitions.specs.Runs.{State, Run, first_state}
use Rattle.core_laws.proofs.Keeping.{locks_of_run}
use Rattle.core_laws.proofs.Membership.{contains_in}
use Rattle.core_laws.specs.EventOrder.{event_cmp, row_of}
use Rattle.core_laws.specs.Orders.{AreEventsOnce, IsInOrder}
use Rattle.core_laws.proofs.Blocks.{AllRise, AreOf, AreOfRow, AreRows, IsOf, Rises, by_first, by_last, by_lock, by_row, each_only_rises, not_below_itself, only_all, only_if_sorted, only_rises, row_all, row_rises, rows_rise, rows_within}
use Rattle.core_laws.proofs.OrderKeeping.{order_of_run}
use Rattle.core_laws.proofs.Sorting.{all_each, all_flat, all_in, ascend_fold, ascending_sorted, below_and_behind, below_sorted, sorted_append, sorted_map, sorted_none}
use Rattle.core_laws.proofs.Stages.{AreStagesInOrder, stages_in_order}

-- ---- of which row and first number the events of each piece are

asks_are : (c : Core) (a : ℕ) (at : Option Stage) → AreOf 1 a (asks_at c a at)
asks_are c a None = tt
asks_are c a (Some (Asking need)) = only_all (IsOf 1 a) (is_server a && is_new_wish c a need.0 need.1) (Ask a need.0 need.1) (refl, refl)
asks_are c a (Some (Fetching needs)) = tt
asks_are c a (Some Moving) = tt
asks_are c a (Some Stopping) = tt
asks_are c a (Some (Growing needs seen)) = tt
asks_are c a (Some (Clearing block)) = tt
asks_are c a (Some (Finishing outcome)) = tt

fetches_are : (c : Core) (p : Party) → AreOf 2 p.number (fetches c p)
fetches_are c p =
    all_append (IsOf 2 p.number) (map (Fetch p.number) (only_if (is_server p.number && is_up (c.servers p.number).phase) (needed_by p.at))) _ (all_map (IsOf 2 p.number) (Fetch p.number) _ (all_each (λ sector. (refl, refl)) (only_if (is_server p.number && is_up (c.servers p.number).phase) (needed_by p.at))))
    (all_map (IsOf 2 p.number) (Fetch p.number) _ (all_each (λ sector. (refl, refl))
    (only_if (is_server p.number && is_off (c.servers p.number).phase && asks is_mount (c.servers p.number)) (slots_under c.setting.logs p.number (c.servers p.number).under))))

clears_are : (a : ℕ) (at : Option Stage) → AreOf 4 a (clears_at a at)
clears_are a None = tt
clears_are a (Some (Asking need)) = tt
clears_are a (Some (Fetching needs)) = tt
clears_are a (Some Moving) = tt
clears_are a (Some Stopping) = tt
clears_are a (Some (Growing needs seen)) = tt
clears_are a (Some (Clearing block)) = only_all (IsOf 4 a) (is_server a) (Clear a block) (refl, refl)
clears_are a (Some (Finishing outcome)) = tt

gives_are : (c : Core) (p : Party) → AreOf 7 p.number (gives c p)
gives_are c p = all_flat (IsOf 7 p.number) (λ lock. only (may_give c p.number lock) (Give p.number lock)) (λ lock. only_all (IsOf 7 p.number) (may_give c p.number lock) (Give p.number lock) (refl, refl)) (keys_of (claims_of c.locks p.number))

issues_are : (c : Core) (p : Party) → AreOf 8 p.number (issues c p)
issues_are c p =
    all_flat (IsOf 8 p.number) (λ sector. only (may_issue c p.number sector p.wants) (Issue p.number sector)) (λ sector. only_all (IsOf 8 p.number) (may_issue c p.number sector p.wants) (Issue p.number sector) (refl, refl)) (keys_of p.wants)

abbrev recovers_of : Core → ℕ → List Event
recovers_of c dead = flat_map (λ by. only (may_recover c dead by) (Recover dead by)) parties

recovers_are : (c : Core) (dead : ℕ) → AreOf 16 dead (recovers_of c dead)
recovers_are c dead = all_flat (IsOf 16 dead) (λ by. only (may_recover c dead by) (Recover dead by)) (λ by. only_all (IsOf 16 dead) (may_recover c dead by) (Recover dead by) (refl, refl)) parties

loads_are : (c : Core) (by : ℕ) (recovery : Option Recovery) → AreOf 17 by (loads_for c by recovery)
loads_are c by None = tt
loads_are c by (Some recovery) = all_map (IsOf 17 by) (Load by) _ (all_each (λ slot. (refl, refl)) (only_if (is_worker c by) (unread c.setting.logs recovery.slots)))

looks_are : (c : Core) (by : ℕ) (recovery : Option Recovery) → AreOf 18 by (looks_for c by recovery)
looks_are c by None = tt
looks_are c by (Some recovery) = all_map (IsOf 18 by) (Look by) _ (all_each (λ sector. (refl, refl)) (only_if (is_worker c by) (to_look c.setting.logs c.setting.segments recovery)))

host_is : (c : Core) (line : Option Line) → AreOfRow 20 (host_line c line)
host_is c None = tt
host_is c (Some line) = only_all (λ e. row_of e ≡ 20) (may_host c line.number) (HostLine line.number) refl

-- ---- the rows

abbrev number_of : Party → ℕ
number_of p = p.number

pub rows_before_are : (c : Core) → AreRows 0 (rows_before c (all_parties c))
rows_before_are c = (
  row_all 0 number_of (begins c) (λ p. only_all (IsOf 0 p.number) (may_begin c p.number) (Begin p.number) (refl, refl)) (all_parties c),
  (
    row_all 1 number_of (asks_of c) (λ p. asks_are c p.number p.at) (all_parties c),
    (
      row_all 2 number_of (fetches c) (fetches_are c) (all_parties c),
      (
        row_all 3 number_of (agains c) (λ p. only_all (IsOf 3 p.number) (may_again c p.number p.at) (Again p.number) (refl, refl)) (all_parties c),
        (
          row_all 4 number_of clears (λ p. clears_are p.number p.at) (all_parties c),
          (
            row_all 5 number_of (commits c) (λ p. only_all (IsOf 5 p.number) (may_commit c p.number p.at) (Commit p.number) (refl, refl)) (all_parties c),
            (
              row_all 6 number_of (answers c) (λ p. only_all (IsOf 6 p.number) (may_answer c p.number) (Answer p.number) (refl, refl)) (all_parties c),
              (
                row_all 7 number_of (gives c) (gives_are c) (all_parties c),
                (
                  row_all 8 number_of (issues c) (issues_are c) (all_parties c),
                  (
                    row_all 9 number_of (dooms c) (λ p. only_all (IsOf 9 p.number) (may_doom c p.number p.wants) (Doom p.number) (refl, refl)) (all_parties c),
                    (
                      row_all 10 number_of (resumes c) (λ p. only_all (IsOf 10 p.number) (may_resume c p.number) (Resume p.number) (refl, refl)) (all_parties c),
                      (
                        all_map (λ e. row_of e ≡ 11) Arrive (keys_of c.flights) (all_each (λ ticket. refl) (keys_of c.flights)),
                        (
                          all_flat (λ e. row_of e ≡ 12) (λ ticket. only (is_flight (is_by_dead c) (value_at c.flights ticket)) (Lose ticket)) (λ ticket. only_all (λ e. row_of e ≡ 12) (is_flight (is_by_dead c) (value_at c.flights ticket)) (Lose ticket) refl) (keys_of c.flights),
                          (
                            row_all 13 number_of (dies c) (λ p. only_all (IsOf 13 p.number) (may_die c p.number) (Die p.number) (refl, refl)) (all_parties c),
                            (
                              row_all 14 number_of (renews c) (λ p. only_all (IsOf 14 p.number) (may_renew c p.number) (Renew p.number) (refl, refl)) (all_parties c),
                              tt,
                            ),
                          ),
                        ),
                      ),
                    ),
                  ),
                ),
              ),
            ),
          ),
        ),
      ),
    ),
  ),
)

pub rows_after_are : (c : Core) → AreRows 16 (rows_after c (all_parties c))
rows_after_are c = (
  row_all 16 (λ dead. dead) (recovers_of c) (recovers_are c) server_numbers,
  (
    row_all 17 number_of (loads c) (λ p. loads_are c p.number (c.servers p.number).recovery) (all_parties c),
    (
      row_all 18 number_of (looks c) (λ p. looks_are c p.number (c.servers p.number).recovery) (all_parties c),
      (
        row_all 19 number_of (finishes c) (λ p. only_all (IsOf 19 p.number) (may_finish c p.number) (Finish p.number) (refl, refl)) (all_parties c),
        (
          host_is c (next_of c host_party),
          (
            row_all 21 number_of (closes c) (λ p. only_all (IsOf 21 p.number) (may_close c p.number) (Close p.number) (refl, refl)) (all_parties c),
            (
              all_map (λ e. row_of e ≡ 22) Read (only_if (is_at_rest c) (tree_needs c)) (all_each (λ sector. refl) (only_if (is_at_rest c) (tree_needs c))),
              (
                only_all (λ e. row_of e ≡ 23) (is_tree_read c && nat_lt c.shown (length (tree_lines c))) (Show c.shown) refl,
                (
                  only_all (λ e. row_of e ≡ 24) (is_tree_read c && c.shown == length (tree_lines c)) End refl,
                  tt,
                ),
              ),
            ),
          ),
        ),
      ),
    ),
  ),
)

-- ---- each piece ascends

asks_rise : (c : Core) (a : ℕ) (at : Option Stage) → Rises (asks_at c a at)
asks_rise c a None = sorted_none event_cmp
asks_rise c a (Some (Asking need)) = only_rises (is_server a && is_new_wish c a need.0 need.1) (Ask a need.0 need.1)
asks_rise c a (Some (Fetching needs)) = sorted_none event_cmp
asks_rise c a (Some Moving) = sorted_none event_cmp
asks_rise c a (Some Stopping) = sorted_none event_cmp
asks_rise c a (Some (Growing needs seen)) = sorted_none event_cmp
asks_rise c a (Some (Clearing block)) = sorted_none event_cmp
asks_rise c a (Some (Finishing outcome)) = sorted_none event_cmp

clears_rise : (a : ℕ) (at : Option Stage) → Rises (clears_at a at)
clears_rise a None = sorted_none event_cmp
clears_rise a (Some (Asking need)) = sorted_none event_cmp
clears_rise a (Some (Fetching needs)) = sorted_none event_cmp
clears_rise a (Some Moving) = sorted_none event_cmp
clears_rise a (Some Stopping) = sorted_none event_cmp
clears_rise a (Some (Growing needs seen)) = sorted_none event_cmp
clears_rise a (Some (Clearing block)) = only_rises (is_server a) (Clear a block)
clears_rise a (Some (Finishing outcome)) = sorted_none event_cmp

needed_sorted : (at : Option Stage) → AreStagesInOrder at → IsStrictlySortedBy nat_cmp (needed_by at)
needed_sorted None o = sorted_none nat_cmp
needed_sorted (Some (Asking need)) o = sorted_none nat_cmp
needed_sorted (Some (Fetching needs)) o = o
needed_sorted (Some Moving) o = sorted_none nat_cmp
needed_sorted (Some Stopping) o = sorted_none nat_cmp
needed_sorted (Some (Growing needs seen)) o = sorted_none nat_cmp
needed_sorted (Some (Clearing block)) o = sorted_none nat_cmp
needed_sorted (Some (Finishing outcome)) o = sorted_none nat_cmp

unread_sorted : (logs : LogRules) (slots : SlotsRead) → IsStrictlySortedBy nat_cmp (unread logs slots)
unread_sorted logs slots = IsStrictlySortedBy-filter nat_cmp (λ slot. not (is_slot_read slots slot)) (below logs.sectors) (below_sorted logs.sectors)

slots_rise : (a m n : ℕ) → nat_cmp m n ≡ Less → nat_cmp (sector_of (region.Log a m)) (sector_of (region.Log a n)) ≡ Less
slots_rise a m n h = grind (arith, nat_tests, h)

slots_sorted : (logs : LogRules) (a : ℕ) (under : Option Under) → IsStrictlySortedBy nat_cmp (slots_under logs a under)
slots_sorted logs a None = sorted_none nat_cmp
slots_sorted logs a (Some under) = sorted_map nat_cmp nat_cmp (λ slot. sector_of (region.Log a slot)) (slots_rise a) (unread logs under.slots) (unread_sorted logs under.slots)

map_rises : (event : ℕ → Event) → ((m n : ℕ) → nat_cmp m n ≡ Less → event_cmp (event m) (event n) ≡ Less) → (ns : List ℕ) →
    IsStrictlySortedBy nat_cmp ns → Rises (map event ns)
map_rises event rises ns s = sorted_map nat_cmp event_cmp event rises ns s

-- a server that is Up isn't Off, so of the two kinds of fetches it has one
fetches_rise : (c : Core) (p : Party) → AreStagesInOrder p.at → Rises (fetches c p)
fetches_rise c p o =
    joined (is_server p.number) (is_up (c.servers p.number).phase) (is_off (c.servers p.number).phase) (asks is_mount (c.servers p.number)) (apart (c.servers p.number).phase)
  where
    needs : (t : Bool) → Rises (map (Fetch p.number) (only_if t (needed_by p.at)))
    needs t = map_rises (Fetch p.number) (λ m n l. by_last (Fetch p.number m) (Fetch p.number n) refl refl refl l) _ (only_if_sorted nat_cmp t (needed_by p.at) (needed_sorted p.at o))

    slots : (t : Bool) → Rises (map (Fetch p.number) (only_if t (slots_under c.setting.logs p.number (c.servers p.number).under)))
    slots t =
        map_rises (Fetch p.number) (λ m n l. by_last (Fetch p.number m) (Fetch p.number n) refl refl refl l) _
        (only_if_sorted nat_cmp t (slots_under c.setting.logs p.number (c.servers p.number).under) (slots_sorted c.setting.logs p.number (c.servers p.number).under))

    joined : (s u v w : Bool) → (u && v) ≡ false →
        Rises (map (Fetch p.number) (only_if (s && u) (needed_by p.at)) ++ map (Fetch p.number) (only_if (s && v && w) (slots_under c.setting.logs p.number (c.servers p.number).under)))
    joined false u v w e = sorted_none event_cmp
    joined true false v w e = slots (v && w)
    joined true true true w e = absurd (false≢true (sym e))
    joined true true false w e = sorted_append event_cmp (map (Fetch p.number) (needed_by p.at)) [] (needs true) (sorted_none event_cmp) (all_each (λ e. tt) (map (Fetch p.number) (needed_by p.at)))

    apart : (phase : Phase) → (is_up phase && is_off phase) ≡ false
    apart Off = refl
    apart Up = refl
    apart Still = refl
    apart (Doomed fate) = refl
    apart Dead = refl

gives_rise : (c : Core) (p : Party) → AreLocks c.locks → Rises (gives c p)
gives_rise c p are =
    each_only_rises lock_cmp (may_give c p.number) (Give p.number) (λ x y l. by_lock (Give p.number x) (Give p.number y) refl refl l) (keys_of (claims_of c.locks p.number)) (are.claims p.number).ordered

issues_rise : (c : Core) (p : Party) → IsStrictlySortedBy nat_cmp (keys_of p.wants) → Rises (issues c p)
issues_rise c p s =
    each_only_rises nat_cmp (λ sector. may_issue c p.number sector p.wants) (Issue p.number) (λ m n l. by_last (Issue p.number m) (Issue p.number n) refl refl refl l) (keys_of p.wants) s

parties_sorted : IsStrictlySortedBy nat_cmp parties
parties_sorted = below_and_behind 16 255 (omega arith)

recovers_rise : (c : Core) (dead : ℕ) → Rises (recovers_of c dead)
recovers_rise c dead = each_only_rises nat_cmp (may_recover c dead) (Recover dead) (λ m n l. by_last (Recover dead m) (Recover dead n) refl refl refl l) parties parties_sorted

loads_rise : (c : Core) (by : ℕ) (recovery : Option Recovery) → Rises (loads_for c by recovery)
loads_rise c by None = sorted_none event_cmp
loads_rise c by (Some recovery) =
    map_rises (Load by) (λ m n l. by_last (Load by m) (Load by n) refl refl refl l) _ (only_if_sorted nat_cmp (is_worker c by) (unread c.setting.logs recovery.slots) (unread_sorted c.setting.logs recovery.slots))

-- the sectors that records name
abbrev named_by : List Redo → List ℕ
named_by records = flat_map (λ redo. map (λ change. change.sector.0) redo.changes) records

looks_sorted : (logs : LogRules) (segments : ℕ) (recovery : Recovery) → IsStrictlySortedBy nat_cmp (to_look logs segments recovery)
looks_sorted logs segments recovery = go (is_read logs recovery.slots)
  where
    go : (b : Bool) →
        IsStrictlySortedBy nat_cmp (if b then filter (λ sector. not (is_some (value_at recovery.looked sector))) (named_sectors segments (redos logs recovery)) else [])
    go true =
        IsStrictlySortedBy-filter nat_cmp (λ sector. not (is_some (value_at recovery.looked sector))) (named_sectors segments (redos logs recovery))
        (IsStrictlySortedBy-filter nat_cmp (λ sector. is_replayed (region_of segments sector)) (ascending (named_by (redos logs recovery))) (ascending_sorted (named_by (redos logs recovery))))
    go false = sorted_none nat_cmp

looks_rise : (c : Core) (by : ℕ) (recovery : Option Recovery) → Rises (looks_for c by recovery)
looks_rise c by None = sorted_none event_cmp
looks_rise c by (Some recovery) =
    map_rises (Look by) (λ m n l. by_last (Look by m) (Look by n) refl refl refl l) _
    (only_if_sorted nat_cmp (is_worker c by) (to_look c.setting.logs c.setting.segments recovery) (looks_sorted c.setting.logs c.setting.segments recovery))

host_rises : (c : Core) (line : Option Line) → Rises (host_line c line)
host_rises c None = sorted_none event_cmp
host_rises c (Some line) = only_rises (may_host c line.number) (HostLine line.number)

needs_sorted : (c : Core) → IsStrictlySortedBy nat_cmp (tree_needs c)
needs_sorted c = IsStrictlySortedBy-filter nat_cmp (λ sector. not (is_some (value_at c.read sector))) (ascending shown) (ascending_sorted shown)
  where
    shown : List ℕ
    shown = inode_sector ROOT_INODE ∷ flat_map (λ entry. shown_by (region_of c.setting.segments entry.0) entry.1) c.read

wants_sorted : (c : Core) (a : ℕ) (at : Option Stage) → IsStrictlySortedBy nat_cmp (keys_of (wanted_writes c.setting c.locks a (c.servers a) at))
wants_sorted c a at =
    ascend_fold {V = Write} {X = ℕ × Write} (λ writes entry. with_value writes entry.0 entry.1) (λ es entry s. ascend_with entry.0 entry.1 es s)
    (rescue_writes c.setting.logs c.setting.segments (c.servers a).recovery ++ place_writes c.setting.logs c.locks a (c.servers a) at
    ++ log_write c.setting.logs a (log_wanted_to c.setting.logs c.locks a (c.servers a) at) (next_write (c.servers a).ring))
    [] (sorted_none nat_cmp)

-- ---- the rows ascend, of the parties

module _ (c : Core) (are : AreLocks c.locks) (order : IsInOrder c) where
  -- a piece for each party
  party_row : (row : ℕ) (piece : Party → List Event) → ((p : Party) → AreOf row p.number (piece p)) → ((a : ℕ) → Rises (piece (party_of c a))) →
      Rises (flat_map piece (all_parties c))
  party_row row piece of rise =
      subst Rises (sym (flat_map-map piece (party_of c) parties))
      (row_rises row (λ a. a) (λ a. piece (party_of c a)) (λ a. of (party_of c a)) rise parties (subst (IsStrictlySortedBy nat_cmp) (sym (map_same parties)) parties_sorted))
    where
      map_same : (ns : List ℕ) → map (λ a. a) ns ≡ ns
      map_same [] = refl
      map_same (n ∷ ns) = ap (λ xs. n ∷ xs) (map_same ns)

  at_stage : (a : ℕ) → AreStagesInOrder (stage c a)
  at_stage a = stages_in_order c.setting c.locks a (c.servers a) (order.servers a).under

  before_rise : AllRise (rows_before c (all_parties c))
  before_rise = (
    party_row 0 (begins c) (λ p. only_all (IsOf 0 p.number) (may_begin c p.number) (Begin p.number) (refl, refl)) (λ a. only_rises (may_begin c a) (Begin a)),
    (
      party_row 1 (asks_of c) (λ p. asks_are c p.number p.at) (λ a. asks_rise c a (stage c a)),
      (
        party_row 2 (fetches c) (fetches_are c) (λ a. fetches_rise c (party_of c a) (at_stage a)),
        (
          party_row 3 (agains c) (λ p. only_all (IsOf 3 p.number) (may_again c p.number p.at) (Again p.number) (refl, refl)) (λ a. only_rises (may_again c a (stage c a)) (Again a)),
          (
            party_row 4 clears (λ p. clears_are p.number p.at) (λ a. clears_rise a (stage c a)),
            (
              party_row 5 (commits c) (λ p. only_all (IsOf 5 p.number) (may_commit c p.number p.at) (Commit p.number) (refl, refl)) (λ a. only_rises (may_commit c a (stage c a)) (Commit a)),
              (
                party_row 6 (answers c) (λ p. only_all (IsOf 6 p.number) (may_answer c p.number) (Answer p.number) (refl, refl)) (λ a. only_rises (may_answer c a) (Answer a)),
                (
                  party_row 7 (gives c) (gives_are c) (λ a. gives_rise c (party_of c a) are),
                  (
                    party_row 8 (issues c) (issues_are c) (λ a. issues_rise c (party_of c a) (wants_sorted c a (stage c a))),
                    (
                      party_row 9 (dooms c) (λ p. only_all (IsOf 9 p.number) (may_doom c p.number p.wants) (Doom p.number) (refl, refl)) (λ a. only_rises (may_doom c a (wanted_writes c.setting c.locks a (c.servers a) (stage c a))) (Doom a)),
                      (
                        party_row 10 (resumes c) (λ p. only_all (IsOf 10 p.number) (may_resume c p.number) (Resume p.number) (refl, refl)) (λ a. only_rises (may_resume c a) (Resume a)),
                        (
                          map_rises Arrive (λ m n l. by_first (Arrive m) (Arrive n) refl l) (keys_of c.flights) order.flights,
                          (
                            each_only_rises nat_cmp (λ ticket. is_flight (is_by_dead c) (value_at c.flights ticket)) Lose (λ m n l. by_first (Lose m) (Lose n) refl l) (keys_of c.flights) order.flights,
                            (
                              party_row 13 (dies c) (λ p. only_all (IsOf 13 p.number) (may_die c p.number) (Die p.number) (refl, refl)) (λ a. only_rises (may_die c a) (Die a)),
                              (
                                party_row 14 (renews c) (λ p. only_all (IsOf 14 p.number) (may_renew c p.number) (Renew p.number) (refl, refl)) (λ a. only_rises (may_renew c a) (Renew a)),
                                tt,
                              ),
                            ),
                          ),
                        ),
                      ),
                    ),
                  ),
                ),
              ),
            ),
          ),
        ),
      ),
    ),
  )

  recover_row : Rises (recovers c)
  recover_row = row_rises 16 (λ dead. dead) (recovers_of c) (recovers_are c) (recovers_rise c) server_numbers (subst (IsStrictlySortedBy nat_cmp) (sym (map_same server_numbers)) (below_sorted 16))
    where
      map_same : (ns : List ℕ) → map (λ a. a) ns ≡ ns
      map_same [] = refl
      map_same (n ∷ ns) = ap (λ xs. n ∷ xs) (map_same ns)

  after_rise : AllRise (rows_after c (all_parties c))
  after_rise = (
    recover_row,
    (
      party_row 17 (loads c) (λ p. loads_are c p.number (c.servers p.number).recovery) (λ a. loads_rise c a (c.servers a).recovery),
      (
        party_row 18 (looks c) (λ p. looks_are c p.number (c.servers p.number).recovery) (λ a. looks_rise c a (c.servers a).recovery),
        (
          party_row 19 (finishes c) (λ p. only_all (IsOf 19 p.number) (may_finish c p.number) (Finish p.number) (refl, refl)) (λ a. only_rises (may_finish c a) (Finish a)),
          (
            host_rises c (next_of c host_party),
            (
              party_row 21 (closes c) (λ p. only_all (IsOf 21 p.number) (may_close c p.number) (Close p.number) (refl, refl)) (λ a. only_rises (may_close c a) (Close a)),
              (
                map_rises Read (λ m n l. by_first (Read m) (Read n) refl l) _ (only_if_sorted nat_cmp (is_at_rest c) (tree_needs c) (needs_sorted c)),
                (
                  only_rises (is_tree_read c && nat_lt c.shown (length (tree_lines c))) (Show c.shown),
                  (
                    only_rises (is_tree_read c && c.shown == length (tree_lines c)) End,
                    tt,
                  ),
                ),
              ),
            ),
          ),
        ),
      ),
    ),
  )

  -- ---- the whole

  among_rise : Rises (enabled_among c (all_parties c))
  among_rise =
      sorted_append event_cmp (before ++ tick) behind
      (sorted_append event_cmp before tick (rows_rise 0 (rows_before c (all_parties c)) (rows_before_are c) before_rise) (only_rises (may_tick c (before ++ behind)) Tick)
      (all_along (λ e in_. only_all (λ f. event_cmp e f ≡ Less) (may_tick c (before ++ behind)) Tick (by_row e Tick in_.1)) before (rows_within 0 (rows_before c (all_parties c)) (rows_before_are c))))
      (rows_rise 16 (rows_after c (all_parties c)) (rows_after_are c) after_rise)
      (all_append (λ e. AllByRecursion (λ f. event_cmp e f ≡ Less) behind) before tick
      (all_along (λ e in_. all_along (λ f out. by_row e f (then_less (row_of e) (row_of f) in_.1 out.0)) behind (rows_within 16 (rows_after c (all_parties c)) (rows_after_are c))) before
      (rows_within 0 (rows_before c (all_parties c)) (rows_before_are c)))
      (only_all (λ e. AllByRecursion (λ f. event_cmp e f ≡ Less) behind) (may_tick c (before ++ behind)) Tick (all_along (λ f out. by_row Tick f out.0) behind (rows_within 16 (rows_after c (all_parties c)) (rows_after_are c)))))
    where
      before : List Event
      before = before_tick c (all_parties c)

      behind : List Event
      behind = after_tick c (all_parties c)

      tick : List Event
      tick = only (may_tick c (before ++ behind)) Tick

      then_less : (m n : ℕ) → m < 0 + 15 → 16 ≤ n → m < n
      then_less m n h i = omega (arith, h, i)

  enabled_rise : Rises (enabled c)
  enabled_rise = go c.over
    where
      go : (b : Bool) → Rises (if b then [] else enabled_among c (all_parties c))
      go true = sorted_none event_cmp
      go false = among_rise

pub enabled_ascends : (setting : Setting) (disk : Sectors) (s : State) → Run (first_state setting disk) s → IsStrictlySortedBy event_cmp (enabled s.core)
enabled_ascends setting disk s run = enabled_rise s.core (locks_of_run setting disk s run) (order_of_run setting disk s run)

each_once : (events : List Event) → Rises events → AreEventsOnce events
unfolding IsStrictlySortedBy
each_once [] s = tt
each_once (e ∷ es) s = ((λ h. below_not (all_in (λ f. event_cmp e f ≡ Less) es e s.0 (contains_in es e h))), each_once es s.1)
  where
    below_not : event_cmp e e ≡ Less → ⊥
    below_not l = less_not_equal (sym l ∙ not_below_itself e)
      where
        less_not_equal : Less ≡ Equal → ⊥
        less_not_equal h = absurd (cc)

pub enabled_once : (setting : Setting) (disk : Sectors) (s : State) → Run (first_state setting disk) s → AreEventsOnce (enabled s.core)
enabled_once setting disk s run = each_once (enabled s.core) (enabled_ascends setting disk s run)
