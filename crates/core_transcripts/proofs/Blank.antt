-- A server that nothing it answered may have changed since its mount, and that began no recovery, has nothing to write: what leaves it so.
use Rattle.std.proofs.Common.{ℕ, ◌≡◌, ◌+◌, Bool, true, false, not, ◌&&◌, ◌||◌, if◌then◌else◌, cond, IsTrue, is_some, [], ◌∷◌, ◌++◌, Option, Some, None, fold, nat_eq, refl, sym, ap, ◌∙◌, subst, arith}
use Rattle.std.proofs.lemmas.Bool.{false≢true, or_from, or_parts}
use Rattle.std.proofs.lemmas.Bool.Decides.{nat_tests}
use Rattle.std.specs.BTreeMap.{is_at}
use Rattle.std.specs.List.{cons_option, filter_map}
use Rattle.std.specs.Ordering.{match_ordering, nat_cmp}
use Rattle.std.specs.Option.{option_map, unwrap_or}
use Rattle.std.specs.declared.cmp.Ordering.{Ordering}
use Rattle.std.specs.declared.cmp.Ordering.TheVariants.{Less, Equal, Greater}
use Rattle.std.proofs.lemmas.Option.{same_Some}
use mathlib.Core.Bool.{and-false}
use Rattle.frang_base.specs.declared.change.Redo.{Redo}
use Rattle.frang_base.specs.declared.lock.LockId.{LockId}
use Rattle.lock_definitions.specs.Locks.{Locks}
use Rattle.lock_definitions.specs.Order.{is_lock}
use Rattle.ring_definitions.specs.Rings.{first_waiting, last, ring_at, sent}
use Rattle.sector_bytes.specs.Blocks.{Block}
use Rattle.sector_bytes.specs.SectorMaps.{value_at, with_value}
use Rattle.tree_definitions.specs.Transcript.{asks_change}
use Rattle.cache_definitions.specs.declared.dirt.Dirt.{Dirt}
use Rattle.cache_definitions.specs.Caches.{Cache, CachedSector, any_cached, clean, dropped, each_cached, is_dirty}
use Rattle.core_definitions.specs.Flights.{Flight, Flights, each_of_server, has_flights, is_of_mount, left_behind}
use Rattle.core_definitions.specs.Lines.{Stage, Under}
use Rattle.core_definitions.specs.Plans.{Outcome}
use Rattle.core_definitions.specs.Rings.{appended_some, is_all_reached, next_write}
use Rattle.core_definitions.specs.Servers.{Server, is_still, is_up}
use Rattle.core_definitions.specs.Settings.{LogRules, Setting}
use Rattle.core_definitions.specs.Cores.{Core, clean_at}
use Rattle.core_definitions.specs.Recoveries.{Recovery}
use Rattle.core_definitions.specs.Writes.{Write, Writes, is_place_wanted, log_wanted_to, log_write, place_write, place_writes, rescue_writes, wanted_writes}
use Rattle.core_definitions.specs.LineEffects.{cache_after, change_in, changed_by, committed_by, flight_after, purpose_after, ring_after, sector_after}
use Rattle.core_transcripts.proofs.Staging.{HasNoChanges}

pub record IsBlank (server : Server) (flying : Bool) : Type 0 where
  pub cache : any_cached is_dirty server.cache ≡ false
  pub waiting : server.ring.waiting ≡ []
  pub reached : is_all_reached server.ring ≡ true
  pub recovery : server.recovery ≡ None
  pub landed : flying ≡ false

-- its line under way asks what may change the tree
abbrev pub is_changing : Option Under → Bool
is_changing None = false
is_changing (Some u) = asks_change u.line.what

-- up or still, and neither told to be dirty nor at such a line
pub record IsSpotless (dirty : Bool) (server : Server) : Type 0 where
  pub mounted : IsTrue (is_up server.phase || is_still server.phase)
  pub clean_ : (dirty || is_changing server.under) ≡ false

-- then it is blank
abbrev pub Keeps : Bool → Server → Bool → Type 0
Keeps dirty server flying = IsSpotless dirty server → IsBlank server flying

-- ---- caches

pub fetched_blank : (cache : Cache) (sector : ℕ) (block : Block) (cover : LockId) → any_cached is_dirty cache ≡ false → any_cached is_dirty (with_value cache sector (clean block cover)) ≡ false
fetched_blank [] sector block cover h = refl
fetched_blank (e ∷ es) sector block cover h =
    let r : (is_dirty e.1 ≡ false) × (any_cached is_dirty es ≡ false) = or_parts (is_dirty e.1) (any_cached is_dirty es) h in
    go (nat_cmp sector e.0) r.0 r.1 (fetched_blank es sector block cover r.1)
  where
    go : (o : Ordering) → is_dirty e.1 ≡ false → any_cached is_dirty es ≡ false → any_cached is_dirty (with_value es sector (clean block cover)) ≡ false →
        any_cached is_dirty (match_ordering o ((sector, clean block cover) ∷ e ∷ es) ((e.0, clean block cover) ∷ es) (e ∷ with_value es sector (clean block cover))) ≡ false
    go Less here rest then_ = or_from (is_dirty e.1) (any_cached is_dirty es) here rest
    go Equal here rest then_ = rest
    go Greater here rest then_ = or_from (is_dirty e.1) (any_cached is_dirty (with_value es sector (clean block cover))) here then_

pub dropped_blank : (cache : Cache) (lock : LockId) → any_cached is_dirty cache ≡ false → any_cached is_dirty (dropped cache lock) ≡ false
dropped_blank [] lock h = refl
dropped_blank (e ∷ es) lock h =
    let r : (is_dirty e.1 ≡ false) × (any_cached is_dirty es ≡ false) = or_parts (is_dirty e.1) (any_cached is_dirty es) h in
    go (not (is_lock lock e.1.cover)) r.0 (dropped_blank es lock r.1)
  where
    go : (b : Bool) → is_dirty e.1 ≡ false → any_cached is_dirty (dropped es lock) ≡ false → any_cached is_dirty (cond b (e ∷ dropped es lock) (dropped es lock)) ≡ false
    go true here rest = or_from (is_dirty e.1) (any_cached is_dirty (dropped es lock)) here rest
    go false here rest = rest

-- each sector as dirty as it was
each_blank : (change : ℕ → CachedSector → CachedSector) → ((sector : ℕ) (cached : CachedSector) → is_dirty (change sector cached) ≡ is_dirty cached) → (cache : Cache) → any_cached is_dirty (each_cached change cache) ≡ any_cached is_dirty cache
each_blank change same [] = refl
each_blank change same (e ∷ es) =
    ap (λ b. b || any_cached is_dirty (each_cached change es)) (same e.0 e.1) ∙ ap (λ b. is_dirty e.1 || b) (each_blank change same es)

-- a line that changes nothing leaves the cache as dirty as it was
looked_cache : (mark : ℕ) (outcome : Outcome) → HasNoChanges outcome → (cache : Cache) → any_cached is_dirty (cache_after mark outcome cache) ≡ any_cached is_dirty cache
looked_cache mark outcome n cache =
    ap (λ bytes. any_cached is_dirty (cache_after mark (record outcome { bytes = bytes }) cache)) n.bytes
    ∙ ap (λ freed. any_cached is_dirty (cache_after mark (record outcome { bytes = []; freed = freed }) cache)) n.freed
    ∙ each_blank (sector_after mark outcome) same cache
  where
    by_redo : (o : Option Redo) → o ≡ None → (cover : LockId) (sector : ℕ) (cached : CachedSector) → is_dirty (changed_by mark cover (change_in o sector) cached) ≡ is_dirty cached
    by_redo None e cover sector cached = refl
    by_redo (Some r) e cover sector cached = absurd (cc)

    same : (sector : ℕ) (cached : CachedSector) → is_dirty (sector_after mark outcome sector cached) ≡ is_dirty cached
    same sector cached = by_redo outcome.redo n.redo (unwrap_or (outcome.moves sector) cached.cover) sector cached

pub looked_blank : (outcome : Outcome) (server : Server) (flying flying' : Bool) → HasNoChanges outcome → flying' ≡ false → IsBlank server flying → IsBlank (committed_by outcome server) flying'
looked_blank outcome server flying flying' n landed b = record {
  cache = looked_cache (last (ring_after server outcome)) outcome n server.cache ∙ b.cache;
  waiting = ap (λ o. (appended_some server.ring o).waiting) n.redo ∙ b.waiting;
  reached = ap (λ o. is_all_reached (appended_some server.ring o)) n.redo ∙ b.reached;
  recovery = b.recovery;
  landed = landed;
}

-- ---- a mount

next_is : (n : ℕ) → nat_eq n ((n + 0) + 0) ≡ true
next_is n = grind (arith, nat_tests)

pub mounted_reached : (n : ℕ) → is_all_reached (ring_at n) ≡ true
mounted_reached n = next_is n

-- ---- nothing is wanted written

-- the write of a cached sector, where it is wanted
abbrev wanted_at : LogRules → Locks → ℕ → Server → Option Stage → (ℕ × CachedSector) → Option (ℕ × Write)
wanted_at logs locks number server stage entry =
    option_map (λ write. (entry.0, write)) (place_write number (is_place_wanted logs locks number server stage entry.0 entry.1) entry.1 entry.1.dirt)

clean_wants : (logs : LogRules) (locks : Locks) (number : ℕ) (server : Server) (stage : Option Stage) (entry : (ℕ × CachedSector)) → is_dirty entry.1 ≡ false → wanted_at logs locks number server stage entry ≡ None
clean_wants logs locks number server stage entry h = by_dirt entry.1.dirt h refl
  where
    none_wanted : (o : Option Write) → o ≡ None → (sector : ℕ) → option_map (λ write. let x : ℕ × Write = (sector, write) in x) o ≡ None
    none_wanted None e sector = refl
    none_wanted (Some w) e sector = absurd (cc)

    by_dirt : (dirt : Option Dirt) → is_some dirt ≡ false → entry.1.dirt ≡ dirt → wanted_at logs locks number server stage entry ≡ None
    by_dirt None h e =
        none_wanted (place_write number (is_place_wanted logs locks number server stage entry.0 entry.1) entry.1 entry.1.dirt)
        (ap (place_write number (is_place_wanted logs locks number server stage entry.0 entry.1) entry.1) e) entry.0
    by_dirt (Some dirt) h e = absurd (false≢true (sym h))

no_places : (logs : LogRules) (locks : Locks) (number : ℕ) (server : Server) (stage : Option Stage) (cache : Cache) → any_cached is_dirty cache ≡ false → filter_map (wanted_at logs locks number server stage) cache ≡ []
no_places logs locks number server stage [] h = refl
no_places logs locks number server stage (e ∷ es) h =
    let r : (is_dirty e.1 ≡ false) × (any_cached is_dirty es ≡ false) = or_parts (is_dirty e.1) (any_cached is_dirty es) h in
    ap (λ o. cons_option o (filter_map (wanted_at logs locks number server stage) es)) (clean_wants logs locks number server stage e r.0)
    ∙ no_places logs locks number server stage es r.1

pub no_writes : (setting : Setting) (locks : Locks) (number : ℕ) (server : Server) (stage : Option Stage) (flying : Bool) → IsBlank server flying → wanted_writes setting locks number server stage ≡ []
no_writes setting locks number server stage flying b =
    ap (λ o. gathered (rescue_writes setting.logs setting.segments o ++ place_writes setting.logs locks number server stage ++ log_write setting.logs number (log_wanted_to setting.logs locks number server stage) (next_write server.ring))) b.recovery
    ∙ ap (λ p. gathered ([] ++ p ++ log_write setting.logs number (log_wanted_to setting.logs locks number server stage) (next_write server.ring))) (no_places setting.logs locks number server stage server.cache b.cache)
    ∙ ap (λ w. gathered ([] ++ [] ++ log_write setting.logs number (log_wanted_to setting.logs locks number server stage) (first_waiting (sent server.ring + 1) w))) b.waiting
  where
    gathered : Writes → Writes
    gathered all = fold (λ writes entry. with_value writes entry.0 entry.1) [] all

-- ---- writes in flight

-- each write of a server is of its present mount as it was
pub changed_flights : (a i : ℕ) (change : Flight → Flight) → ((flight : Flight) → is_of_mount i (change flight) ≡ is_of_mount i flight) → (fs : Flights) → has_flights (each_of_server a change fs) i ≡ has_flights fs i
changed_flights a i change same [] = refl
changed_flights a i change same (x ∷ xs) = go (nat_eq x.1.server a) (changed_flights a i change same xs)
  where
    go : (b : Bool) → has_flights (each_of_server a change xs) i ≡ has_flights xs i →
        (is_of_mount i ((if b then (x.0, change x.1) else x).1) || has_flights (each_of_server a change xs) i) ≡ (is_of_mount i x.1 || has_flights xs i)
    go true rest = ap (λ b. b || has_flights (each_of_server a change xs) i) (same x.1) ∙ ap (λ b. is_of_mount i x.1 || b) rest
    go false rest = ap (λ b. is_of_mount i x.1 || b) rest

pub looked_flights : (outcome : Outcome) (i : ℕ) (flight : Flight) → is_of_mount i (flight_after outcome flight) ≡ is_of_mount i flight
looked_flights outcome i flight = go flight.present refl
  where
    go : (b : Bool) → flight.present ≡ b → is_of_mount i (if b then record flight { purpose = purpose_after outcome flight.sector flight.purpose } else flight) ≡ is_of_mount i flight
    go true e = refl
    go false e = refl

-- fewer of them are of a present mount
pub left_stays : (a i : ℕ) (fs : Flights) → has_flights fs i ≡ false → has_flights (left_behind a fs) i ≡ false
left_stays a i [] h = refl
left_stays a i (x ∷ xs) h =
    let r : (is_of_mount i x.1 ≡ false) × (has_flights xs i ≡ false) = or_parts (is_of_mount i x.1) (has_flights xs i) h in
    or_from (is_of_mount i ((if nat_eq x.1.server a then (x.0, record x.1 { present = false }) else x).1)) (has_flights (left_behind a xs) i)
    (go (nat_eq x.1.server a) r.0) (left_stays a i xs r.1)
  where
    go : (b : Bool) → is_of_mount i x.1 ≡ false → is_of_mount i ((if b then (x.0, record x.1 { present = false }) else x).1) ≡ false
    go true here = and-false (nat_eq x.1.server i)
    go false here = here

-- one more, of another server
pub issued_stays : (fs : Flights) (ticket i : ℕ) (flight : Flight) → is_of_mount i flight ≡ false → has_flights fs i ≡ false → has_flights (fs ++ (ticket, flight) ∷ []) i ≡ false
issued_stays [] ticket i flight n h = or_from (is_of_mount i flight) false n refl
issued_stays (x ∷ xs) ticket i flight n h =
    let r : (is_of_mount i x.1 ≡ false) × (has_flights xs i ≡ false) = or_parts (is_of_mount i x.1) (has_flights xs i) h in
    or_from (is_of_mount i x.1) (has_flights (xs ++ (ticket, flight) ∷ []) i) r.0 (issued_stays xs ticket i flight n r.1)

-- one that is in flight counts
pub flies : (fs : Flights) (ticket i : ℕ) (flight : Flight) → value_at fs ticket ≡ Some flight → has_flights fs i ≡ false → is_of_mount i flight ≡ false
flies [] ticket i flight e h = absurd (cc)
flies (x ∷ xs) ticket i flight e h =
    let r : (is_of_mount i x.1 ≡ false) × (has_flights xs i ≡ false) = or_parts (is_of_mount i x.1) (has_flights xs i) h in
    go (is_at (nat_cmp ticket) x.0) e r.0 (λ f. flies xs ticket i flight f r.1)
  where
    go : (b : Bool) → (if b then Some x.1 else value_at xs ticket) ≡ Some flight → is_of_mount i x.1 ≡ false → (value_at xs ticket ≡ Some flight → is_of_mount i flight ≡ false) → is_of_mount i flight ≡ false
    go true e here behind = subst (λ z. is_of_mount i z ≡ false) (same_Some x.1 flight e) here
    go false e here behind = behind e

-- it is clean
pub blank_is_clean : (c : Core) (a : ℕ) → IsBlank (c.servers a) (has_flights c.flights a) → clean_at c a ≡ true
blank_is_clean c a b = go (any_cached is_dirty (c.servers a).cache) (has_flights c.flights a) (is_all_reached (c.servers a).ring) (c.servers a).recovery b.cache b.landed b.reached b.recovery
  where
    go : (x y z : Bool) (o : Option Recovery) → x ≡ false → y ≡ false → z ≡ true → o ≡ None → (not x && not y && z && not (is_some o)) ≡ true
    go true y z o e f g h = absurd (false≢true (sym e))
    go false true z o e f g h = absurd (false≢true (sym f))
    go false false false o e f g h = absurd (false≢true g)
    go false false true None e f g h = refl
    go false false true (Some r) e f g h = absurd (cc)
