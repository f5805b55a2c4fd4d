-- What each event does to a server keeps what it has by lock, sector and slot in order.
use Rattle.std.proofs.Common.{◌≡◌, ℕ, Bool, true, false, not, ◌&&◌, ◌==◌, if◌then◌else◌, List, [], ◌∷◌, ◌++◌, Option, Some, None, filter, fold, is_some, refl, sym, subst}
use Rattle.std.proofs.lemmas.List.Kept.{IsStrictlySortedBy-filter}
use Rattle.std.specs.List.Sorted.{IsStrictlySortedBy}
use Rattle.std.specs.Map.{keys_of}
use Rattle.std.specs.Option.{option_map}
use Rattle.std.specs.Ordering.{nat_cmp}
use Rattle.frang_base.specs.Functions.{member}
use Rattle.frang_base.specs.declared.lock.LockId.{LockId}
use Rattle.frang_base.specs.declared.op.Op.{Op}
use Rattle.frang_base.specs.declared.op.Op.TheVariants as op
use Rattle.frang_base.specs.declared.reply.Reply.{Reply}
use Rattle.frang_base.specs.declared.reply.Reply.TheVariants as reply
use Rattle.frang_base.specs.declared.script.Line.{Line}
use Rattle.lock_definitions.specs.Order.{is_lock, lock_cmp}
use Rattle.lock_definitions.proofs.LockOrder.{lock_total}
use Rattle.disk_definitions.specs.Plans.{Lock}
use Rattle.ring_definitions.specs.Rings.{last}
use Rattle.sector_bytes.specs.Blocks.{Block}
use Rattle.sector_bytes.specs.SectorMaps.{Ascend, without}
use Rattle.sector_bytes.proofs.MapLaws.{ascend_adjusted, ascend_with, ascend_without}
use Rattle.sorted_entries.proofs.Sorted.{sorted-insert_entry}
use Rattle.tree_definitions.specs.Apply.{is_path_op}
use Rattle.tree_definitions.specs.Touched.{is_ok, is_unmount}
use Rattle.core_definitions.specs.Writes.{comes_clean}
use Rattle.core_definitions.specs.Settings.{LogRules}
use Rattle.cache_definitions.specs.Caches.{Cache, cleaned, dirty_sectors, dropped, each_cached, without_dirt}
use Rattle.core_definitions.specs.Flights.{InPlace, OfLog, OfRecovery, Purpose}
use Rattle.core_definitions.specs.Lines.{Stage, Asking, Fetching, Moving, Stopping, Growing, Clearing, Finishing, Under, operation_of, set_at_first}
use Rattle.core_definitions.specs.Plans.{Outcome}
use Rattle.core_definitions.specs.Recoveries.{Recovery}
use Rattle.core_definitions.specs.Servers.{Fate, Server, is_off, is_up, wanting_all, wanting_all_up}
use Rattle.set_definitions.specs.Sets.{LockSet, first_set, joined, joined_all, mode_in, with_mode}
use Rattle.core_definitions.specs.Trees.{block_sectors}
use Rattle.core_definitions.specs.Cores.{Core}
use Rattle.core_definitions.specs.LineEffects.{again_by, answered_by, answered_open, begun_line, begun_with, cache_after, cached_under, cleared_at, committed_by, cover_needed, fetched_by, refused_under, ring_after, sector_after, set_grown, slot_read, with_bytes, with_under, zeroed}
use Rattle.core_definitions.specs.WriteEffects.{acknowledged, acknowledged_for, clean_now, died_with, under_at_death}
use Rattle.core_laws.specs.Orders.{AreLinesInOrder, AreRecoveriesInOrder, Ascending, IsLineInOrder, IsRecoveryInOrder, IsServerInOrder}
use Rattle.core_laws.proofs.Sorting.{ascend_changed, ascend_fold, ascending_sorted, keys_filter, sorted_none, sorted_one}
use Rattle.core_laws.proofs.Stages.{AreStagesInOrder}

nothing : Ascending []
nothing = sorted_none nat_cmp

kept_numbers : (test : ℕ → Bool) (numbers : List ℕ) → Ascending numbers → Ascending (filter test numbers)
kept_numbers test numbers s = IsStrictlySortedBy-filter nat_cmp test numbers s

-- with nothing in memory but a line under way
pub bare_order : (server : Server) → server.cache ≡ [] → server.staying ≡ [] → server.pending ≡ [] → server.recovery ≡ None →
    AreLinesInOrder server.under → IsServerInOrder server
bare_order server c s p r l = record {
  cache = subst Ascend (sym c) (sorted_none nat_cmp);
  staying = subst Ascending (sym s) nothing;
  pending = subst Ascending (sym p) nothing;
  under = l;
  recovery = subst AreRecoveriesInOrder (sym r) tt;
}

-- another line under way
with_line : (server : Server) (under : Option Under) → IsServerInOrder server → AreLinesInOrder under → IsServerInOrder (record server { under = under })
with_line server under s l = record { cache = s.cache; staying = s.staying; pending = s.pending; under = l; recovery = s.recovery }

-- ---- lines

first_set_sorted : IsStrictlySortedBy lock_cmp (keys_of first_set)
first_set_sorted = sorted_one lock_cmp _

at_first_sorted : (operation : Op) → IsStrictlySortedBy lock_cmp (keys_of (set_at_first operation))
at_first_sorted operation = go (is_path_op operation)
  where
    go : (b : Bool) → IsStrictlySortedBy lock_cmp (keys_of (if b then first_set else []))
    go true = first_set_sorted
    go false = sorted_none lock_cmp

pub begun_order : (server : Server) (line : Option Line) → IsServerInOrder server → IsServerInOrder (begun_line server line)
begun_order server None s = s
begun_order server (Some line) s = go (operation_of line.what)
  where
    go : (operation : Option Op) → IsServerInOrder (begun_with server line operation)
    go None = s
    go (Some operation) = with_line server _ s (record { set = at_first_sorted operation; slots = sorted_none nat_cmp; seen = tt })

changed_line : (server : Server) (change : Under → Under) → ((under : Under) → IsLineInOrder under → IsLineInOrder (change under)) →
    IsServerInOrder server → IsServerInOrder (with_under server change)
changed_line server change keeps s = with_line server _ s (go server.under s.under)
  where
    go : (under : Option Under) → AreLinesInOrder under → AreLinesInOrder (option_map change under)
    go None l = tt
    go (Some under) l = keeps under l

pub fetched_order : (a : ℕ) (at : Option Stage) (sector : ℕ) (block : Block) (server : Server) → IsServerInOrder server →
    IsServerInOrder (fetched_by a at sector block server)
fetched_order a at sector block server s = go (is_off server.phase) (cover_needed at sector)
  where
    go : (b : Bool) (cover : Option LockId) →
        IsServerInOrder (if b then with_under server (slot_read a sector block) else cached_under server sector block cover)
    go true cover = changed_line server (slot_read a sector block) (λ under l. record { set = l.set; slots = ascend_with _ block under.slots l.slots; seen = l.seen }) s
    go false None = s
    go false (Some cover) = record { cache = ascend_with sector _ server.cache s.cache; staying = s.staying; pending = s.pending; under = s.under; recovery = s.recovery }

pub refused_order : (server : Server) → IsServerInOrder server → IsServerInOrder (with_under server refused_under)
refused_order server s = changed_line server refused_under (λ under l. record { set = l.set; slots = l.slots; seen = l.seen }) s

joined_sorted : (set : LockSet) (needs : List Lock) → IsStrictlySortedBy lock_cmp (keys_of set) → IsStrictlySortedBy lock_cmp (keys_of (joined_all set needs))
joined_sorted set [] s = s
joined_sorted set (need ∷ needs) s = joined_sorted (joined set need) needs (sorted-insert_entry lock_total need.0 (with_mode (mode_in set need.0) need.1) set s)

pub again_order : (logs : LogRules) (at : Option Stage) (server : Server) → AreStagesInOrder at → IsServerInOrder server → IsServerInOrder (again_by logs at server)
again_order logs None server o s = s
again_order logs (Some (Asking need)) server o s = s
again_order logs (Some (Fetching needs)) server o s = s
again_order logs (Some Moving) server o s = changed_line server _ (λ under l. record { set = first_set_sorted; slots = l.slots; seen = tt }) s
again_order logs (Some Stopping) server o s = s
again_order logs (Some (Growing needs seen)) server o s =
    changed_line server (set_grown needs seen) (λ under l. record { set = joined_sorted under.set needs l.set; slots = l.slots; seen = o }) s
again_order logs (Some (Clearing block)) server o s = s
again_order logs (Some (Finishing outcome)) server o s = record { cache = s.cache; staying = s.staying; pending = s.pending; under = s.under; recovery = s.recovery }

pub cleared_order : (block : ℕ) (server : Server) → IsServerInOrder server → IsServerInOrder (cleared_at block server)
cleared_order block server s = record {
  cache = ascend_fold (zeroed (last server.ring) _) (λ cache sector c. ascend_with sector _ cache c) (block_sectors block) server.cache s.cache;
  staying = s.staying;
  pending = ascending_sorted (server.pending ++ block_sectors block);
  under = s.under;
  recovery = s.recovery;
}

cache_order : (mark : ℕ) (outcome : Outcome) (cache : Cache) → Ascend cache → Ascend (cache_after mark outcome cache)
cache_order mark outcome cache c =
    ascend_fold without (λ es sector e. ascend_without sector es e) outcome.freed (fold (with_bytes mark) (each_cached (sector_after mark outcome) cache) outcome.bytes)
    (ascend_fold (with_bytes mark) (λ es set e. ascend_with set.sector _ es e) outcome.bytes (each_cached (sector_after mark outcome) cache)
    (ascend_changed (λ entry. (entry.0, sector_after mark outcome entry.0 entry.1)) (λ entry. refl) cache c))

pub committed_order : (outcome : Outcome) (server : Server) → IsServerInOrder server → IsServerInOrder (committed_by outcome server)
committed_order outcome server s = record {
  cache = cache_order (last (ring_after server outcome)) outcome server.cache s.cache;
  staying = kept_numbers (λ sector. not (member sector outcome.freed)) server.staying s.staying;
  pending = s.pending;
  under = tt;
  recovery = s.recovery;
}

-- ---- answers

module _ (c : Core) (under : Under) (server : Server) (s : IsServerInOrder server) where
  abbrev Done : Op → Reply → Type 0
  Done operation answer = IsServerInOrder (record (answered_open c under server operation answer) { under = None })

  same : IsServerInOrder (record server { under = None })
  same = with_line server None s tt

  mount_order : (answer : Reply) → Done op.Mount answer
  mount_order reply.Ok = same
  mount_order reply.Mounted = bare_order _ refl refl refl refl tt
  mount_order answer = same

  open_order : (operation : Op) (answer : Reply) → Done operation answer
  open_order op.Mount answer = mount_order answer
  open_order op.Unmount answer = bare_order _ refl refl refl refl tt
  open_order (op.CrashAt k) answer = record { cache = s.cache; staying = s.staying; pending = s.pending; under = tt; recovery = s.recovery }
  open_order (op.CutAt k) answer = record { cache = s.cache; staying = s.staying; pending = s.pending; under = tt; recovery = s.recovery }
  open_order op.Stall answer = record { cache = s.cache; staying = s.staying; pending = s.pending; under = tt; recovery = s.recovery }
  open_order operation answer = same

  pub answer_order : (operation : Op) (answer : Reply) → IsServerInOrder (answered_by c under server operation answer)
  answer_order operation answer = go (is_some under.fixed)
    where
      fixed : (test : Bool) → IsServerInOrder (record (if test then record server { owes = false } else server) { under = None })
      fixed true = record { cache = s.cache; staying = s.staying; pending = s.pending; under = tt; recovery = s.recovery }
      fixed false = same

      go : (b : Bool) →
          IsServerInOrder (record (if b then (if is_unmount operation && is_ok answer then record server { owes = false } else server) else answered_open c under server operation answer) { under = None })
      go true = fixed (is_unmount operation && is_ok answer)
      go false = open_order operation answer

-- ---- locks, writes and lives

pub given_order : (server : Server) (lock : LockId) → IsServerInOrder server → IsServerInOrder (record server { cache = dropped server.cache lock })
given_order server lock s = record {
  cache = keys_filter nat_cmp (λ entry. not (is_lock lock entry.1.cover)) server.cache s.cache;
  staying = s.staying;
  pending = s.pending;
  under = s.under;
  recovery = s.recovery;
}

cleaned_order : (cache : Cache) (sector : ℕ) → Ascend cache → Ascend (cleaned cache sector)
cleaned_order cache sector c = ascend_adjusted without_dirt cache sector c

clean_order : (sector : ℕ) (server : Server) (test : Bool) → IsServerInOrder server → IsServerInOrder (if test then clean_now sector server else server)
clean_order sector server true s = record {
  cache = cleaned_order server.cache sector s.cache;
  staying = kept_numbers (λ n. not (n == sector)) server.staying s.staying;
  pending = kept_numbers (λ n. not (n == sector)) server.pending s.pending;
  under = s.under;
  recovery = s.recovery;
}
clean_order sector server false s = s

pub rescued_order : (server : Server) (change : Recovery → Recovery) → ((r : Recovery) → IsRecoveryInOrder r → IsRecoveryInOrder (change r)) →
    IsServerInOrder server →
    IsServerInOrder (record server { recovery = option_map change server.recovery })
rescued_order server change keeps s = record { cache = s.cache; staying = s.staying; pending = s.pending; under = s.under; recovery = go server.recovery s.recovery }
  where
    go : (r : Option Recovery) → AreRecoveriesInOrder r → AreRecoveriesInOrder (option_map change r)
    go None o = tt
    go (Some r) o = keeps r o

pub acknowledged_order : (sector : ℕ) (block : Block) (purpose : Purpose) (server : Server) → IsServerInOrder server →
    IsServerInOrder (acknowledged sector block purpose server)
acknowledged_order sector block (OfLog number) server s = record { cache = s.cache; staying = s.staying; pending = s.pending; under = s.under; recovery = s.recovery }
acknowledged_order sector block (InPlace cover) server s = clean_order sector server (comes_clean server sector block) s
acknowledged_order sector block OfRecovery server s = rescued_order server (acknowledged_for sector) (λ r o. record { slots = o.slots; looked = o.looked }) s

pub died_order : (fate : Fate) (server : Server) → IsServerInOrder server → IsServerInOrder (died_with fate server)
died_order fate server s = bare_order (died_with fate server) refl refl refl refl (go server.under s.under)
  where
    kept : (under : Under) (b : Bool) (fixed : Option Reply) → IsLineInOrder under → IsLineInOrder (if b then under else record under { fixed = fixed })
    kept under true fixed l = l
    kept under false fixed l = record { set = l.set; slots = l.slots; seen = l.seen }

    go : (under : Option Under) → AreLinesInOrder under → AreLinesInOrder (option_map (under_at_death server.failed) under)
    go None l = tt
    go (Some under) l = kept under (is_some under.fixed) _ l

pub wanting_order : (server : Server) → IsServerInOrder server → IsServerInOrder (wanting_all server)
wanting_order server s = record { cache = s.cache; staying = ascending_sorted (server.staying ++ dirty_sectors server.cache); pending = s.pending; under = s.under; recovery = s.recovery }

pub wanting_up_order : (server : Server) → IsServerInOrder server → IsServerInOrder (wanting_all_up server)
wanting_up_order server s = go (is_up server.phase)
  where
    go : (b : Bool) → IsServerInOrder (if b then wanting_all server else server)
    go true = wanting_order server s
    go false = s
