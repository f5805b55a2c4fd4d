-- Changes and moves of a commit, laid sector by sector.
use Rattle.std.proofs.Common.{◌≡◌, ◌≢◌, ◌<◌, ◌+◌, ◌^◌, ℕ, Bool, true, false, ◌&&◌, ◌||◌, not, IsTrue, nat_eq, nat_le, nat_lt, List, [], ◌∷◌, fold, map, filter, length, Option, Some, None, refl, sym, ap, ◌∙◌, arith}
use Rattle.std.proofs.lemmas.Bool.{and_parts, eq-eqb, false≢true}
use Rattle.std.proofs.lemmas.Bool.Decides.{nat_tests}
use Rattle.std.specs.List.{list_all}
use Rattle.std.specs.Option.{option_map, unwrap_or}
use Rattle.frang_base.specs.Functions.{member}
use Rattle.frang_base.specs.declared.change.Change.{Change}
use Rattle.frang_base.specs.declared.change.Redo.{Redo}
use Rattle.frang_base.specs.declared.limits.TheConstants.{RECORD_BYTES_MAX, RECORD_CHANGES_MAX}
use Rattle.frang_base.specs.declared.lock.LockId.{LockId}
use Rattle.disk_definitions.specs.Records.{record_bytes, record_fits, sectors_ascend}
use Rattle.ring_definitions.specs.Rings.{is_record, last}
use Rattle.sector_bytes.specs.Changes.{changed, is_change, is_older}
use Rattle.sector_bytes.specs.Replays.{change_at}
use Rattle.sector_bytes.specs.SectorMaps.{Ascend, value_at}
use Rattle.sector_bytes.proofs.MapLaws.{adjusted_nothing, adjusted_same, ascend_adjusted}
use Rattle.cache_definitions.specs.Caches.{Cache, CachedSector, block_at, cover_at, dirty, each_cached, forgotten, with_change, with_cover}
use Rattle.cache_definitions.proofs.FlagLaws.{left_all}
use Rattle.clerk_cache.specs.Dropping.{numbers_of}
use Rattle.cache_laws.specs.Steps.{ChangesLieSectorBySector, CoversMoveSectorBySector, are_apart, cover_after, names, with_changes, with_covers, with_its_change, with_own}
use Rattle.meta_version.specs.Updates.{IsOlder}
use Rattle.core_definitions.specs.LineEffects.{cache_after, change_in, changed_by, committed_by, ring_after, sector_after, with_bytes}
use Rattle.core_definitions.specs.Plans as core
use Rattle.core_definitions.specs.Rings.{appended_some}
use Rattle.core_definitions.specs.Servers.{Server}
use Rattle.server_core.specs.Outcomes.{IsOutcome, MayAppendSome, MayLay, are_older, bytes_of, changed_by_commit, changed_sector, changes_of, is_older_at, moves_of}
use Rattle.server_core.specs.States.{State}
use Rattle.server_core.specs.declared.outcome.Outcome.{Outcome}
use Rattle.server_core.proofs.Kept.{each-each, each_alike, other_adjusted, part_adjusted}

-- ---- one change

-- laid under the lock that covers its sector
pub under_its_own : (cache : Cache) (change : Change) (mark : ℕ) (cover : LockId) → Some cover ≡ cover_at cache change.sector.0 → with_change cache change mark cover ≡ with_own mark cache change
under_its_own cache change mark cover is = go (value_at cache change.sector.0) refl
  where
    go : (o : Option CachedSector) → value_at cache change.sector.0 ≡ o → with_change cache change mark cover ≡ with_own mark cache change
    go None there = cc (is ∙ ap (option_map (λ cached. cached.cover)) there)
    go (Some cached) there =
        let same : Some cover ≡ Some cached.cover = is ∙ ap (option_map (λ cached. cached.cover)) there in
        let at : cover ≡ cached.cover = cc same in
        adjusted_same (λ c. dirty (changed c.block change) cover mark false) (λ c. dirty (changed c.block change) c.cover mark false) cache change.sector.0 cached there
        (ap (λ l. dirty (changed cached.block change) l mark false) at)

-- its sector is cached and older
pub is_older_there : (cache : Cache) (change : Change) → is_older_at cache change ≡ true → IsOlder (block_at cache change.sector.0) change
is_older_there cache change older = go (block_at cache change.sector.0) older
  where
    go : (o : Option (List ℕ)) → unwrap_or (option_map (λ block. is_older block change) o) false ≡ true → IsOlder o change
    go (Some block) older = older
    go None older = cc older

-- what isn't cached doesn't move
pub uncovered_stays : (cache : Cache) (sector : ℕ) (cover : LockId) → None ≡ cover_at cache sector → cache ≡ with_cover cache sector cover
uncovered_stays cache sector cover none = sym (adjusted_nothing (λ cached. record cached { cover = cover }) cache sector (go (value_at cache sector) none))
  where
    go : (o : Option CachedSector) → None ≡ option_map (λ cached. cached.cover) o → o ≡ None
    go (Some cached) none = cc none
    go None none = refl

-- ---- changes one after another

module _ (mark : ℕ) where
  still_older : (changes : List Change) (cache : Cache) (change : Change) → names changes change.sector.0 ≡ false → are_older (with_own mark cache change) changes ≡ are_older cache changes
  still_older [] cache change apart = refl
  still_older (next ∷ changes) cache change apart = go (nat_eq next.sector.0 change.sector.0) refl (names changes change.sector.0) refl apart (still_older changes cache change)
    where
      go : (t : Bool) → nat_eq next.sector.0 change.sector.0 ≡ t → (u : Bool) → names changes change.sector.0 ≡ u → t || u ≡ false
          → (names changes change.sector.0 ≡ false → are_older (with_own mark cache change) changes ≡ are_older cache changes)
          → are_older (with_own mark cache change) (next ∷ changes) ≡ are_older cache (next ∷ changes)
      go true at u more none rest = cc none
      go false at true more none rest = cc none
      go false at false more none rest =
          let other : next.sector.0 ≢ change.sector.0 = λ same. false≢true (sym at ∙ eq-eqb next.sector.0 change.sector.0 same) in
          ap (λ o. unwrap_or (option_map (λ block. is_older block next) (option_map (λ cached. cached.block) o)) false && are_older (with_own mark cache change) changes)
          (other_adjusted (λ cached. dirty (changed cached.block change) cached.cover mark false) cache change.sector.0 next.sector.0 other)
          ∙ ap (λ b. is_older_at cache next && b) (rest more)

  -- once the first is laid, the others may be
  pub others_may : (change : Change) (changes : List Change) (cache : Cache) → MayLay cache (change ∷ changes) → MayLay (with_own mark cache change) changes
  others_may change changes cache may =
      let apart = and_parts (not (names changes change.sector.0)) (are_apart changes) may.apart in
      record {
        formed = (and_parts (is_change change) (list_all is_change changes) may.formed).1;
        apart = apart.1;
        older = still_older changes cache change (opened (names changes change.sector.0) apart.0) ∙ (and_parts (is_older_at cache change) (are_older cache changes) may.older).1;
      }
    where
      opened : (b : Bool) → not b ≡ true → b ≡ false
      opened true e = cc e
      opened false e = refl

pub first_formed : (change : Change) (changes : List Change) (cache : Cache) → MayLay cache (change ∷ changes) → is_change change ≡ true
first_formed change changes cache may = (and_parts (is_change change) (list_all is_change changes) may.formed).0

pub first_older : (change : Change) (changes : List Change) (cache : Cache) → MayLay cache (change ∷ changes) → IsOlder (block_at cache change.sector.0) change
first_older change changes cache may = is_older_there cache change (and_parts (is_older_at cache change) (are_older cache changes) may.older).0

-- ---- the changes of a record are of sectors apart

not_named : (changes : List Change) (from sector : ℕ) → sectors_ascend from changes ≡ true → sector < from → names changes sector ≡ false
not_named [] from sector ascend low = refl
not_named (change ∷ changes) from sector ascend low =
    let parts = and_parts (nat_le from change.sector.0) (sectors_ascend (change.sector.0 + 1) changes) ascend in
    ap (λ b. b || names changes sector) (apart from change.sector.0 parts.0 low) ∙ not_named changes (change.sector.0 + 1) sector parts.1 (further from change.sector.0 parts.0 low)
  where
    apart : (a b : ℕ) → nat_le a b ≡ true → sector < a → nat_eq b sector ≡ false
    apart a b le lt = grind (arith, nat_tests)

    further : (a b : ℕ) → nat_le a b ≡ true → sector < a → sector < b + 1
    further a b le lt = grind (arith, nat_tests)

ascending_apart : (changes : List Change) (from : ℕ) → sectors_ascend from changes ≡ true → are_apart changes ≡ true
ascending_apart [] from ascend = refl
ascending_apart (change ∷ changes) from ascend =
    let parts = and_parts (nat_le from change.sector.0) (sectors_ascend (change.sector.0 + 1) changes) ascend in
    ap (λ b. not b && are_apart changes) (not_named changes (change.sector.0 + 1) change.sector.0 parts.1 (more change.sector.0)) ∙ ascending_apart changes (change.sector.0 + 1) parts.1
  where
    more : (n : ℕ) → n < n + 1
    more n = omega arith

pub record_may : (cache : Cache) (redo : Redo) → IsTrue (is_record redo) → are_older cache redo.changes ≡ true → MayLay cache redo.changes
record_may cache redo is older =
    let fits = (and_parts (nat_le 1 redo.op.0 && nat_lt redo.op.0 (2 ^ 64)) (record_fits redo.changes) is).1 in
    let bytes =
    and_parts (nat_le 1 (length redo.changes) && nat_le (length redo.changes) RECORD_CHANGES_MAX && list_all is_change redo.changes && sectors_ascend 0 redo.changes)
    (nat_le (length (record_bytes redo.changes)) RECORD_BYTES_MAX) fits in
    let ascend = and_parts (nat_le 1 (length redo.changes) && nat_le (length redo.changes) RECORD_CHANGES_MAX && list_all is_change redo.changes) (sectors_ascend 0 redo.changes) bytes.0 in
    let formed = and_parts (nat_le 1 (length redo.changes) && nat_le (length redo.changes) RECORD_CHANGES_MAX) (list_all is_change redo.changes) ascend.0 in
    record { formed = formed.1; apart = ascending_apart redo.changes 0 ascend.1; older = older }

-- ---- covers that move leave the blocks

covers_leave : (changes : List Change) (cache : Cache) (move : ℕ × LockId) → are_older (with_cover cache move.0 move.1) changes ≡ are_older cache changes
covers_leave [] cache move = refl
covers_leave (change ∷ changes) cache move =
    ap (λ o. unwrap_or (option_map (λ block. is_older block change) o) false && are_older (with_cover cache move.0 move.1) changes)
    (part_adjusted (λ cached. cached.block) (λ cached. record cached { cover = move.1 }) (λ cached. refl) cache move.0 change.sector.0)
    ∙ ap (λ b. is_older_at cache change && b) (covers_leave changes cache move)

pub moved_may : (moves : List (ℕ × LockId)) (changes : List Change) (cache : Cache) → MayLay cache changes → MayLay (with_covers cache moves) changes
moved_may [] changes cache may = may
moved_may (move ∷ moves) changes cache may =
    moved_may moves changes (with_cover cache move.0 move.1) (record { formed = may.formed; apart = may.apart; older = covers_leave changes cache move ∙ may.older })

ascend_covers : (moves : List (ℕ × LockId)) (cache : Cache) → Ascend cache → Ascend (with_covers cache moves)
ascend_covers [] cache sorted = sorted
ascend_covers (move ∷ moves) cache sorted = ascend_covers moves (with_cover cache move.0 move.1) (ascend_adjusted (λ cached. record cached { cover = move.1 }) cache move.0 sorted)

-- ---- both at once

pub moved_and_laid : CoversMoveSectorBySector → ChangesLieSectorBySector → (mark : ℕ) (cache : Cache) (changes : List Change) (moves : List (ℕ × LockId)) → Ascend cache → are_apart changes ≡ true
    → with_changes mark (with_covers cache moves) changes ≡ each_cached (changed_sector mark changes moves) cache
moved_and_laid covers lie mark cache changes moves sorted apart =
    lie mark (with_covers cache moves) changes (ascend_covers moves cache sorted) apart
    ∙ ap (each_cached (λ sector cached. with_its_change mark (change_at changes sector) cached)) (covers cache moves sorted)
    ∙ each-each (λ sector cached. record cached { cover = cover_after moves sector cached.cover }) (λ sector cached. with_its_change mark (change_at changes sector) cached) cache

-- a sector that moves and changes is what the core makes of it
change_of : (redo : Option Redo) (sector : ℕ) → change_at (changes_of redo) sector ≡ change_in redo sector
change_of None sector = refl
change_of (Some redo) sector = refl

its_change : (mark : ℕ) (change : Option Change) (cover : LockId) (cached : CachedSector) → with_its_change mark change (record cached { cover = cover }) ≡ changed_by mark cover change cached
its_change mark None cover cached = refl
its_change mark (Some change) cover cached = refl

pub each_as_the_cores : (mark : ℕ) (cache : Cache) (outcome : Outcome) (of_core : core.Outcome) → Ascend cache → IsOutcome cache outcome of_core
    → each_cached (changed_sector mark (changes_of outcome.redo) (moves_of outcome.moves.items)) cache ≡ each_cached (sector_after mark of_core) cache
each_as_the_cores mark cache outcome of_core sorted is =
    each_alike (changed_sector mark (changes_of outcome.redo) (moves_of outcome.moves.items)) (sector_after mark of_core) cache sorted
    (λ sector cached there.
    ap (λ cover. with_its_change mark (change_at (changes_of outcome.redo) sector) (record cached { cover = cover })) (is.moved sector cached there)
    ∙ ap (λ change. with_its_change mark change (record cached { cover = unwrap_or (of_core.moves sector) cached.cover })) (change_of outcome.redo sector ∙ ap (λ redo. change_in redo sector) (sym is.redo))
    ∙ its_change mark (change_in of_core.redo sector) (unwrap_or (of_core.moves sector) cached.cover) cached)

-- ---- the whole of it

pub committed_cache : (mark : ℕ) (cache moved set left : Cache) (outcome : Outcome) (of_core : core.Outcome) → Ascend cache → IsOutcome cache outcome of_core
    → moved ≡ each_cached (changed_sector mark (changes_of outcome.redo) (moves_of outcome.moves.items)) cache → set ≡ fold (with_bytes mark) moved (map bytes_of outcome.bytes.items)
    → left ≡ forgotten set (numbers_of outcome.freed) → left ≡ cache_after mark of_core cache
committed_cache mark cache moved set left outcome of_core sorted is first second third =
    third
    ∙ ap (λ c. forgotten c (numbers_of outcome.freed)) (second ∙ ap (λ c. fold (with_bytes mark) c (map bytes_of outcome.bytes.items)) (first ∙ each_as_the_cores mark cache outcome of_core sorted is))
    ∙ ap (λ sets. forgotten (fold (with_bytes mark) (each_cached (sector_after mark of_core) cache) sets) (numbers_of outcome.freed)) (sym is.bytes)
    ∙ ap (forgotten (fold (with_bytes mark) (each_cached (sector_after mark of_core) cache) of_core.bytes)) (sym is.freed)

pub some_may : (server : State) (redo : Option Redo) → MayAppendSome server redo → MayLay server.server.cache (changes_of redo)
some_may server None may = record { formed = refl; apart = refl; older = refl }
some_may server (Some redo) may = record_may server.server.cache redo may.fits may.older

-- what a commit makes of a server, in two steps
pub committed_is : (old mid new : Server) (outcome : Outcome) (of_core : core.Outcome) → mid ≡ record old { ring = appended_some old.ring outcome.redo } → IsOutcome old.cache outcome of_core
    → new ≡ changed_by_commit of_core (numbers_of outcome.freed) mid → new ≡ committed_by of_core old
committed_is old mid new outcome of_core first is second =
    second ∙ ap (changed_by_commit of_core (numbers_of outcome.freed)) first
    ∙ ap (λ redo. changed_by_commit of_core (numbers_of outcome.freed) (record old { ring = appended_some old.ring redo })) (sym is.redo)
    ∙ ap (λ staying. record old { ring = ring_after old of_core; cache = cache_after (last (ring_after old of_core)) of_core old.cache; staying = staying; under = None })
    (left_all (numbers_of outcome.freed) old.staying ∙ ap (λ freed. filter (λ s. not (member s freed)) old.staying) (sym is.freed))
