-- Who stays wanted is dirty, and who has a flag is cached.
use Rattle.std.proofs.Common.{◌≡◌, ℕ, Bool, true, false, ◌&&◌, ◌||◌, if◌then◌else◌, is_some, List, [], ◌∷◌, filter, Option, Some, None, refl, sym, ap, ◌∙◌}
use Rattle.std.specs.Option.{option_map, unwrap_or}
use Rattle.std.specs.List.{AllByRecursion}
use Rattle.std.specs.Map.{keys_of}
use Rattle.std.specs.BTreeMap.{is_at}
use Rattle.std.specs.Ordering.{nat_cmp}
use Rattle.frang_base.specs.Functions.{member}
use Rattle.frang_base.proofs.Tests.{is_some-option_map, or_second_alone}
use Rattle.sector_bytes.specs.SectorMaps.{value_at, without}
use Rattle.sector_bytes.proofs.MapLaws.{found}
use Rattle.cache_definitions.specs.Caches.{Cache, CachedSector, any_cached, is_dirty, is_dirty_at}
use Rattle.cache_definitions.specs.Flags.{among_cached, but}
use Rattle.clerk_cache.specs.declared.state.SectorState.{SectorState}
use Rattle.clerk_cache.specs.Kept.{AreAlike, AreKept, flagged, is_state_dirty, is_state_staying, joined}
use Rattle.clerk_cache.proofs.Flagging.{but-cons, but_absent, member_flagged}
use Rattle.clerk_cache.proofs.IdleMarks.{each_found}
use Rattle.clerk_cache.proofs.Joining.{Blocks, States, state_at-joined, states_ascend}

-- a sector is dirty where its state is
pub dirty-joined : (blocks : Blocks) (states : States) (sector : ℕ) → AreKept blocks states → unwrap_or (option_map is_state_dirty (value_at states sector)) false ≡ is_dirty_at (joined blocks states) sector
dirty-joined blocks states sector kept = ap (λ o. unwrap_or o false) (state_at-joined is_state_dirty is_dirty (λ block state. refl) blocks states sector kept.alike)

not_dirty : (o : Option SectorState) → unwrap_or (option_map is_state_dirty o) false ≡ false → unwrap_or (option_map is_state_staying o) false ≡ false
not_dirty (Some state) clean = ap (λ b. b && state.stays) clean
not_dirty None clean = refl

-- a sector that isn't dirty isn't among those that stay wanted
pub clean_stays_not : (blocks : Blocks) (states : States) (sector : ℕ) → AreKept blocks states → is_dirty_at (joined blocks states) sector ≡ false → but sector (flagged is_state_staying states) ≡ flagged is_state_staying states
clean_stays_not blocks states sector kept clean =
    but_absent sector (flagged is_state_staying states)
    (member_flagged is_state_staying sector states (states_ascend kept) ∙ not_dirty (value_at states sector) (dirty-joined blocks states sector kept ∙ clean))

pub staying_is_dirty : (state : SectorState) → is_state_staying state ≡ true → is_state_dirty state ≡ true
staying_is_dirty state stays = go (is_some state.dirt) stays
  where
    go : (b : Bool) → b && state.stays ≡ true → b ≡ true
    go true e = refl
    go false e = cc e

-- who stays wanted is dirty
pub who_stays_is_dirty : (blocks : Blocks) (states : States) (sector : ℕ) → AreKept blocks states → member sector (flagged is_state_staying states) ≡ true → is_dirty_at (joined blocks states) sector ≡ true
who_stays_is_dirty blocks states sector kept is =
    sym (dirty-joined blocks states sector kept) ∙ go (value_at states sector) (sym (member_flagged is_state_staying sector states (states_ascend kept)) ∙ is)
  where
    go : (o : Option SectorState) → unwrap_or (option_map is_state_staying o) false ≡ true → unwrap_or (option_map is_state_dirty o) false ≡ true
    go (Some state) e = staying_is_dirty state e
    go None e = e

-- ---- what a forgotten sector leaves

pub none_left : (passes : CachedSector → Bool) (contents : Cache) (sector : ℕ) → any_cached passes contents ≡ false → any_cached passes (without contents sector) ≡ false
none_left passes [] sector none = refl
none_left passes (entry ∷ contents) sector none = go (is_at (nat_cmp sector) entry.0) (passes entry.1) none (none_left passes contents sector)
  where
    go : (t p : Bool) → p || any_cached passes contents ≡ false → (any_cached passes contents ≡ false → any_cached passes (without contents sector) ≡ false) → any_cached passes (if t then contents else entry ∷ without contents sector) ≡ false
    go true true e rest = cc e
    go true false e rest = e
    go false true e rest = cc e
    go false false e rest = or_second_alone (passes entry.1) (any_cached passes (without contents sector)) (first none) ∙ rest e
      where
        first : passes entry.1 || any_cached passes contents ≡ false → passes entry.1 ≡ false
        first e = only (passes entry.1) e
          where
            only : (p : Bool) → p || any_cached passes contents ≡ false → p ≡ false
            only true e = cc e
            only false e = refl

-- a sector that is gone isn't among those that are cached
pub but_gone : (sector : ℕ) (contents : Cache) (xs : List ℕ) → value_at contents sector ≡ None → among_cached contents (but sector xs) ≡ among_cached contents xs
but_gone sector contents [] none = refl
but_gone sector contents (x ∷ xs) none = go (is_at (nat_cmp sector) x) refl (but_gone sector contents xs none)
  where
    go : (t : Bool) → is_at (nat_cmp sector) x ≡ t → among_cached contents (but sector xs) ≡ among_cached contents xs → among_cached contents (but sector (x ∷ xs)) ≡ among_cached contents (x ∷ xs)
    go true at rest = ap (among_cached contents) (but-cons sector x xs ∙ ap (λ t. if t then but sector xs else x ∷ but sector xs) at) ∙ rest
        ∙ sym (ap (λ t. if t then x ∷ among_cached contents xs else among_cached contents xs) (ap (λ n. is_some (value_at contents n)) (found sector x at) ∙ ap is_some none))
    go false at rest = ap (among_cached contents) (but-cons sector x xs ∙ ap (λ t. if t then but sector xs else x ∷ but sector xs) at)
        ∙ ap (λ tail. if is_some (value_at contents x) then x ∷ tail else tail) rest

-- ---- who has a flag is cached

cached_there : (blocks : Blocks) (all : States) (sector : ℕ) (state : SectorState) → AreAlike blocks all → value_at all sector ≡ Some state → is_some (value_at (joined blocks all) sector) ≡ true
cached_there blocks all sector state alike is =
    sym (is_some-option_map (λ cached. cached.cover) (value_at (joined blocks all) sector))
    ∙ sym (ap is_some (state_at-joined (λ state. state.cover) (λ cached. cached.cover) (λ block state. refl) blocks all sector alike))
    ∙ is_some-option_map (λ state. state.cover) (value_at all sector) ∙ ap is_some is

module _ (test : SectorState → Bool) (blocks : Blocks) (all : States) (alike : AreAlike blocks all) where
  each_cached_there : (states : States) → AllByRecursion (λ e. value_at all e.0 ≡ Some e.1) states → flagged test states ≡ among_cached (joined blocks all) (flagged test states)
  each_cached_there [] each = refl
  each_cached_there (entry ∷ states) each = go (test entry.1) (each_cached_there states each.1)
    where
      go : (t : Bool) → flagged test states ≡ among_cached (joined blocks all) (flagged test states)
          → keys_of (if t then entry ∷ filter (λ e. test e.1) states else filter (λ e. test e.1) states) ≡ among_cached (joined blocks all) (keys_of (if t then entry ∷ filter (λ e. test e.1) states else filter (λ e. test e.1) states))
      go true rest = ap (λ xs. entry.0 ∷ xs) rest
          ∙ sym (ap (λ t. if t then entry.0 ∷ among_cached (joined blocks all) (flagged test states) else among_cached (joined blocks all) (flagged test states)) (cached_there blocks all entry.0 entry.1 alike each.0))
      go false rest = rest

pub flagged_cached : (test : SectorState → Bool) (blocks : Blocks) (states : States) → AreKept blocks states → flagged test states ≡ among_cached (joined blocks states) (flagged test states)
flagged_cached test blocks states kept = each_cached_there test blocks states kept.alike states (each_found states (states_ascend kept))
