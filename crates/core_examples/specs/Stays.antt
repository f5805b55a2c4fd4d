-- How far the line of the first server has come doesn't change while writes are issued and arrive: it goes by the blocks of what is cached, and not by what is dirty.
use Rattle.std.proofs.Common.{◌∙◌, ap, subst, sym, nat_eq, arith}
use Rattle.std.proofs.lemmas.Bool.Decides.{nat_tests}
use Rattle.std.specs.Prelude.{◌≡◌, ℕ, ◌==◌, ◌&&◌, Bool, true, false, not, cond, if◌then◌else◌, Option, Some, None, is_some, List, [], ◌∷◌, filter, map, refl}
use Rattle.std.specs.BTreeMap.{is_at}
use Rattle.std.specs.List.{cons_option}
use Rattle.std.specs.Ordering.{nat_cmp}
use Rattle.frang_base.specs.Functions.{put}
use Rattle.frang_base.specs.declared.lock.LockId.{LockId}
use Rattle.frang_base.specs.declared.lock.LockId.TheVariants.{Segment}
use Rattle.frang_base.specs.declared.op.Op.{Op}
use Rattle.lock_definitions.specs.Locks.{Locks}
use Rattle.disk_definitions.specs.Plans.{Lock}
use Rattle.sector_bytes.specs.Blocks.{Block}
use Rattle.sector_bytes.specs.SectorMaps.{value_at}
use Rattle.tree_definitions.specs.Apply.{is_path_op}
use Rattle.core_definitions.specs.Settings.{Setting}
use Rattle.set_definitions.specs.Sets.{LockSet, has_lock, next_segment, segments_in, to_ask}
use Rattle.cache_definitions.specs.Caches.{Cache, CachedSector, cleaned, without_dirt}
use Rattle.set_definitions.specs.Usable.{usable}
use Rattle.core_definitions.specs.Plans.{sight_over}
use Rattle.core_definitions.specs.Lines.{Stage, Under, bitmap_sector, missing_bitmaps, operation_of, stage_asked, stage_held, stage_in_sight}
use Rattle.core_definitions.specs.Flights.{Flight, InPlace, OfLog, OfRecovery, Purpose}
use Rattle.core_definitions.specs.Scripts.{host_party}
use Rattle.core_definitions.specs.Servers.{Phase, Server, is_open, is_up, stage_of, stage_under, stage_with}
use Rattle.core_definitions.specs.Writes.{Write, comes_clean}
use Rattle.core_definitions.specs.Cores.{Core, stage}
use Rattle.core_definitions.specs.Events.{Heard, Nothing, Got, GetFailed, Written, Late, PutFailed}
use Rattle.core_definitions.specs.LineEffects.{call_failed, failed_by}
use Rattle.core_definitions.specs.WriteEffects.{acknowledged, arrived_as, arrived_from, clean_now, counted, issued_as, landed, ring_after, taken_in}

-- ---- a cache without its dirt

abbrev undirty : ℕ × CachedSector → ℕ × CachedSector
undirty entry = (entry.0, without_dirt entry.1)

abbrev pub blocks_in : Cache → Cache
blocks_in cache = map undirty cache

blocks_cleaned : (cache : Cache) (sector : ℕ) → blocks_in (cleaned cache sector) ≡ blocks_in cache
blocks_cleaned [] sector = refl
blocks_cleaned (x ∷ xs) sector = go (is_at (nat_cmp sector) x.0) (blocks_cleaned xs sector)
  where
    go : (b : Bool) → blocks_in (cleaned xs sector) ≡ blocks_in xs → blocks_in (if b then undirty x ∷ xs else x ∷ cleaned xs sector) ≡ blocks_in (x ∷ xs)
    go true rest = refl
    go false rest = ap (λ es. undirty x ∷ es) rest

usable_same : (set : LockSet) (cache : Cache) → usable set (blocks_in cache) ≡ usable set cache
usable_same set [] = refl
usable_same set (x ∷ xs) = ap (λ es. cons_option (usable_at set x) es) (usable_same set xs)
  where
    usable_at : LockSet → ℕ × CachedSector → Option (ℕ × Block)
    usable_at set entry = if has_lock set entry.1.cover then Some (entry.0, entry.1.block) else None

there : (cache : Cache) (sector : ℕ) → is_some (value_at (blocks_in cache) sector) ≡ is_some (value_at cache sector)
there [] sector = refl
there (x ∷ xs) sector = go (is_at (nat_cmp sector) x.0) (there xs sector)
  where
    go : (b : Bool) → is_some (value_at (blocks_in xs) sector) ≡ is_some (value_at xs sector) →
        is_some (cond b (Some (undirty x).1) (value_at (blocks_in xs) sector)) ≡ is_some (cond b (Some x.1) (value_at xs sector))
    go true rest = refl
    go false rest = rest

missing_among : (cache : Cache) (segments : List ℕ) →
    filter (λ segment. not (is_some (value_at (blocks_in cache) (bitmap_sector segment)))) segments ≡
    filter (λ segment. not (is_some (value_at cache (bitmap_sector segment)))) segments
missing_among cache [] = refl
missing_among cache (g ∷ gs) =
    ap (λ b. cond (not b) (g ∷ filter (λ segment. not (is_some (value_at (blocks_in cache) (bitmap_sector segment)))) gs) (filter (λ segment. not (is_some (value_at (blocks_in cache) (bitmap_sector segment)))) gs))
    (there cache (bitmap_sector g))
    ∙ ap (λ rest. cond (not (is_some (value_at cache (bitmap_sector g)))) (g ∷ rest) rest) (missing_among cache gs)

-- ---- a line goes by the blocks

module _ (setting : Setting) (locks : Locks) (number : ℕ) (cache : Cache) where
  held_same : (under : Under) (operation : Op) (missing : List (ℕ × LockId)) →
      stage_held setting locks number (blocks_in cache) under operation missing ≡ stage_held setting locks number cache under operation missing
  held_same under operation [] =
      ap (λ cached. stage_in_sight setting under operation (next_segment setting.segments locks number under.set) (sight_over setting.segments under.set cached)) (usable_same under.set cache)
  held_same under operation (missing ∷ others) = refl

  asked_same : (under : Under) (operation : Op) (need : Option Lock) →
      stage_asked setting locks number (blocks_in cache) under operation need ≡ stage_asked setting locks number cache under operation need
  asked_same under operation (Some need) = refl
  asked_same under operation None =
      ap (λ segments. stage_held setting locks number (blocks_in cache) under operation (map (λ segment. (bitmap_sector segment, Segment segment)) segments)) (missing_among cache (segments_in under.set))
      ∙ held_same under operation (missing_bitmaps under.set cache)

  with_same : (under : Under) (operation : Option Op) → stage_with setting locks number (blocks_in cache) under operation ≡ stage_with setting locks number cache under operation
  with_same under None = refl
  with_same under (Some operation) = ap Some (asked_same under operation (to_ask locks number under.set))

  under_same : (under : Option Under) → stage_under setting locks number (blocks_in cache) under ≡ stage_under setting locks number cache under
  under_same None = refl
  under_same (Some under) = with_same under (operation_of under.line.what)

-- how far a server's line has come, by its phase, its cache and its line
abbrev stage_seen : Setting → Locks → ℕ → Phase → Cache → Option Under → Option Stage
stage_seen setting locks number phase cache under = if is_up phase && is_open is_path_op under then stage_under setting locks number cache under else None

seen_same : (setting : Setting) (locks : Locks) (number : ℕ) (phase : Phase) (cache : Cache) (under : Option Under) →
    stage_seen setting locks number phase (blocks_in cache) under ≡ stage_seen setting locks number phase cache under
seen_same setting locks number phase cache under = go (is_up phase && is_open is_path_op under)
  where
    go : (b : Bool) →
        (if b then stage_under setting locks number (blocks_in cache) under else None) ≡ (if b then stage_under setting locks number cache under else None)
    go true = under_same setting locks number cache under
    go false = refl

-- the same phase, line and blocks
record Alike (old new : Server) : Type 0 where
  phase : new.phase ≡ old.phase
  under : new.under ≡ old.under
  blocks : blocks_in new.cache ≡ blocks_in old.cache

stage_alike : (setting : Setting) (locks : Locks) (number : ℕ) (old new : Server) → Alike old new → stage_of setting locks number new ≡ stage_of setting locks number old
stage_alike setting locks number old new a =
    sym (seen_same setting locks number new.phase new.cache new.under)
    ∙ ap (λ p. stage_seen setting locks number p (blocks_in new.cache) new.under) a.phase
    ∙ ap (λ u. stage_seen setting locks number old.phase (blocks_in new.cache) u) a.under
    ∙ ap (λ c. stage_seen setting locks number old.phase c old.under) a.blocks
    ∙ seen_same setting locks number old.phase old.cache old.under

stays_with : (c : Core) (a : ℕ) (new : Server) → Alike (c.servers a) new → stage_of c.setting c.locks 0 (put c.servers a new 0) ≡ stage c 0
stays_with c a new alike = go (nat_eq 0 a) refl
  where
    first : nat_eq 0 a ≡ true → a ≡ 0
    first e = grind (arith, nat_tests, e)

    go : (b : Bool) → nat_eq 0 a ≡ b → stage_of c.setting c.locks 0 (if b then new else c.servers 0) ≡ stage_of c.setting c.locks 0 (c.servers 0)
    go true e = stage_alike c.setting c.locks 0 (c.servers 0) new (subst (λ n. Alike (c.servers n) new) (first e) alike)
    go false e = refl

-- ---- writes

pub issue_stays : (c : Core) (a sector : ℕ) (write : Option Write) → stage (issued_as c a sector write) 0 ≡ stage c 0
issue_stays c a sector None = refl
issue_stays c a sector (Some write) =
    stays_with c a (record (c.servers a) { ring = ring_after write.purpose (c.servers a).ring; arming = counted (c.servers a).arming }) (record { phase = refl; under = refl; blocks = refl })

acknowledged_alike : (sector : ℕ) (block : Block) (purpose : Purpose) (server : Server) → Alike server (acknowledged sector block purpose server)
acknowledged_alike sector block (OfLog number) server = record { phase = refl; under = refl; blocks = refl }
acknowledged_alike sector block OfRecovery server = record { phase = refl; under = refl; blocks = refl }
acknowledged_alike sector block (InPlace cover) server = go (comes_clean server sector block)
  where
    go : (b : Bool) → Alike server (if b then clean_now sector server else server)
    go true = record { phase = refl; under = refl; blocks = blocks_cleaned server.cache sector }
    go false = record { phase = refl; under = refl; blocks = refl }

taken_stays : (c : Core) (flight : Flight) → stage (taken_in c flight) 0 ≡ stage c 0
taken_stays c flight = go flight.present
  where
    new : Server
    new = acknowledged flight.sector flight.block flight.purpose (c.servers flight.server)

    go : (b : Bool) → stage (if b then record c { servers = put c.servers flight.server new } else c) 0 ≡ stage c 0
    go true = stays_with c flight.server new (acknowledged_alike flight.sector flight.block flight.purpose (c.servers flight.server))
    go false = refl

failed_stays : (c : Core) (a : ℕ) → stage (call_failed c a) 0 ≡ stage c 0
failed_stays c a = go (a == host_party)
  where
    go : (b : Bool) → stage (if b then record c { over = true } else record c { servers = put c.servers a (failed_by (c.servers a)) }) 0 ≡ stage c 0
    go true = refl
    go false = stays_with c a (failed_by (c.servers a)) (record { phase = refl; under = refl; blocks = refl })

arrived_stays : (c : Core) (flight : Flight) (heard : Heard) → stage (arrived_as c flight heard) 0 ≡ stage c 0
arrived_stays c flight Nothing = refl
arrived_stays c flight (Got block) = refl
arrived_stays c flight GetFailed = refl
arrived_stays c flight Written = taken_stays c flight
arrived_stays c flight Late = refl
arrived_stays c flight (PutFailed new) = failed_stays c flight.server

pub arrival_stays : (c : Core) (ticket : ℕ) (heard : Heard) (flight : Option Flight) → stage (arrived_from c ticket heard flight) 0 ≡ stage c 0
arrival_stays c ticket heard None = refl
arrival_stays c ticket heard (Some flight) = arrived_stays (landed c ticket) flight heard
