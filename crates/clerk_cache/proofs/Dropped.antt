-- Which sectors are dirty under a lock, and what is left when its sectors are dropped.
use Rattle.std.proofs.Common.{◌≡◌, ℕ, ◌+◌, Bool, true, false, not, ◌||◌, is_some, if◌then◌else◌, [], ◌∷◌, length, find, Option, Some, None, Result, Ok, Err, IfOk, refl, sym, ap, ◌∙◌, subst, arith}
use Rattle.std.specs.List.{AllByRecursion, filter_map}
use Rattle.std.specs.List.Sorted.{IsStrictlySortedBy}
use Rattle.std.specs.BTreeMap.{is_at}
use Rattle.std.specs.Option.{option_map}
use Rattle.std.specs.Ordering.{nat_cmp, on}
use Rattle.std.specs.declared.cmp.Ordering.TheVariants.{Less}
use Rattle.frang_base.specs.declared.lock.LockId.{LockId}
use Rattle.frang_base.proofs.Tests.{at_itself}
use Rattle.sector_bytes.specs.Blocks.{Block}
use Rattle.sector_bytes.specs.SectorMaps.{value_at, without, room_for, Ascend}
use Rattle.sector_bytes.proofs.MapLaws.{AllAbove, absent, found}
use Rattle.cache_definitions.specs.declared.dirt.Dirt.{Dirt}
use Rattle.cache_definitions.specs.Caches.{Cache, CachedSector, any_cached, dropped, first_cached, is_dirty, is_under}
use Rattle.flush_order.specs.Marks.{least}
use Rattle.clerk_cache.specs.declared.state.SectorState.{SectorState}
use Rattle.clerk_cache.specs.Kept.{AreAlike, cached_of, first_state, joined, state_mark, state_marks}
use Rattle.clerk_cache.specs.Marks.{mark_of, marks_of}
use Rattle.clerk_cache.proofs.Joining.{Blocks, States}
use Rattle.clerk_cache.proofs.Keying.{length-without}

-- ---- the two maps and the contents

-- a test that a state tells
module _ (passes : CachedSector → Bool) (state_passes : SectorState → Bool) (agree : (block : Block) (state : SectorState) → state_passes state ≡ passes (cached_of block state)) where
  pub first-joined : (blocks : Blocks) (states : States) → AreAlike blocks states → first_state state_passes states ≡ first_cached passes (joined blocks states)
  first-joined [] [] alike = refl
  first-joined [] (s ∷ states) alike = elim alike [ ]
  first-joined (b ∷ blocks) [] alike = elim alike [ ]
  first-joined (b ∷ blocks) (s ∷ states) alike =
      ap (λ t. option_map (λ entry. entry.0) (if t then Some s else find (λ entry. state_passes entry.1) states)) (agree b.1 s.1)
      ∙ go (passes (cached_of b.1 s.1)) (first-joined blocks states alike.1)
    where
      go : (t : Bool) → first_state state_passes states ≡ first_cached passes (joined blocks states)
          → option_map (λ entry. entry.0) (if t then Some s else find (λ entry. state_passes entry.1) states)
          ≡ option_map (λ entry. entry.0) (if t then Some (b.0, cached_of b.1 s.1) else find (λ entry. passes entry.1) (joined blocks states))
      go true rest = ap Some (sym alike.0)
      go false rest = rest

pub marks-joined : (blocks : Blocks) (states : States) → AreAlike blocks states → state_marks states ≡ marks_of (joined blocks states)
marks-joined [] [] alike = refl
marks-joined [] (s ∷ states) alike = elim alike [ ]
marks-joined (b ∷ blocks) [] alike = elim alike [ ]
marks-joined (b ∷ blocks) (s ∷ states) alike =
    ap (λ key. filter_map state_mark ((key, s.1) ∷ states)) (sym alike.0) ∙ go s.1.dirt (marks-joined blocks states alike.1)
  where
    go : (dirt : Option Dirt) → state_marks states ≡ marks_of (joined blocks states)
        → filter_map state_mark ((b.0, record s.1 { dirt = dirt }) ∷ states) ≡ filter_map mark_of ((b.0, cached_of b.1 (record s.1 { dirt = dirt })) ∷ joined blocks states)
    go (Some dirt) rest = ap (λ marks. record { sector = record { 0 = b.0 }; mark = dirt.mark } ∷ marks) rest
    go None rest = rest

-- ---- the marks ascend

above_marks : (low : ℕ) (contents : Cache) → AllAbove low contents → AllByRecursion (λ mark. nat_cmp low mark.sector.0 ≡ Less) (marks_of contents)
above_marks low [] all = tt
above_marks low (entry ∷ contents) all = go entry.1.dirt (above_marks low contents all.1)
  where
    go : (dirt : Option Dirt) → AllByRecursion (λ mark. nat_cmp low mark.sector.0 ≡ Less) (marks_of contents)
        → AllByRecursion (λ mark. nat_cmp low mark.sector.0 ≡ Less) (filter_map mark_of ((entry.0, record { block = entry.1.block; cover = entry.1.cover; dirt = dirt }) ∷ contents))
    go (Some dirt) rest = (all.0, rest)
    go None rest = rest

pub marks_ascend : (contents : Cache) → Ascend contents → IsStrictlySortedBy (on (λ mark. mark.sector.0) nat_cmp) (marks_of contents)
unfolding IsStrictlySortedBy
marks_ascend [] sorted = tt
marks_ascend (entry ∷ contents) sorted = go entry.1.dirt (marks_ascend contents sorted.1)
  where
    go : (dirt : Option Dirt) → IsStrictlySortedBy (on (λ mark. mark.sector.0) nat_cmp) (marks_of contents)
        → IsStrictlySortedBy (on (λ mark. mark.sector.0) nat_cmp) (filter_map mark_of ((entry.0, record { block = entry.1.block; cover = entry.1.cover; dirt = dirt }) ∷ contents))
    go (Some dirt) rest = (above_marks entry.0 contents sorted.0, rest)
    go None rest = rest

-- there is a least mark where some sector is dirty
pub any_marked : (contents : Cache) → is_some (least (marks_of contents)) ≡ any_cached is_dirty contents
any_marked [] = refl
any_marked (entry ∷ contents) = go entry.1.dirt (any_marked contents)
  where
    go : (dirt : Option Dirt) → is_some (least (marks_of contents)) ≡ any_cached is_dirty contents
        → is_some (least (filter_map mark_of ((entry.0, record { block = entry.1.block; cover = entry.1.cover; dirt = dirt }) ∷ contents))) ≡ is_some dirt || any_cached is_dirty contents
    go (Some dirt) rest = refl
    go None rest = rest

-- ---- the sectors under a lock, forgotten one by one

-- a sector that is cached under the lock
pub record IsUnder (lock : LockId) (contents : Cache) (sector : ℕ) : Type 0 where
  pub cached : CachedSector
  pub there : value_at contents sector ≡ Some cached
  pub under : is_under lock cached ≡ true

module _ (lock : LockId) where
  -- the first one is one
  pub first_is_under : (contents : Cache) (sector : ℕ) → Ascend contents → first_cached (is_under lock) contents ≡ Some sector → IsUnder lock contents sector
  unfolding IsStrictlySortedBy
  first_is_under [] sector sorted first = cc first
  first_is_under (entry ∷ contents) sector sorted first = go (is_under lock entry.1) refl first (first_is_under contents sector sorted.1)
    where
      behind : (t : Bool) → is_at (nat_cmp sector) entry.0 ≡ t → IsUnder lock contents sector → IsUnder lock (entry ∷ contents) sector
      behind true is one = cc (sym (absent sector contents (subst (λ low. AllAbove low contents) (found sector entry.0 is) sorted.0)) ∙ one.there)
      behind false is one = record { cached = one.cached; there = ap (λ u. if u then Some entry.1 else value_at contents sector) is ∙ one.there; under = one.under }

      go : (t : Bool) → is_under lock entry.1 ≡ t → option_map (λ e. e.0) (if t then Some entry else find (λ e. is_under lock e.1) contents) ≡ Some sector
          → (first_cached (is_under lock) contents ≡ Some sector → IsUnder lock contents sector) → IsUnder lock (entry ∷ contents) sector
      go true under first rest =
          let here : entry.0 ≡ sector = cc first in
          record { cached = entry.1; there = ap (λ n. if is_at (nat_cmp n) entry.0 then Some entry.1 else value_at contents n) (sym here) ∙ ap (λ u. if u then Some entry.1 else value_at contents entry.0) (at_itself entry.0); under = under }
      go false under first rest = behind (is_at (nat_cmp sector) entry.0) refl (rest first)

  -- once it is gone, the same are left
  pub dropped-without : (contents : Cache) (sector : ℕ) (cached : CachedSector) → value_at contents sector ≡ Some cached → is_under lock cached ≡ true → dropped (without contents sector) lock ≡ dropped contents lock
  dropped-without [] sector cached there under = refl
  dropped-without (entry ∷ contents) sector cached there under = go (is_at (nat_cmp sector) entry.0) there (λ e. dropped-without contents sector cached e under)
    where
      go : (t : Bool) → (if t then Some entry.1 else value_at contents sector) ≡ Some cached → (value_at contents sector ≡ Some cached → dropped (without contents sector) lock ≡ dropped contents lock)
          → dropped (if t then contents else entry ∷ without contents sector) lock ≡ dropped (entry ∷ contents) lock
      go true there rest =
          let same : entry.1 ≡ cached = cc there in
          sym (ap (λ u. if not u then entry ∷ dropped contents lock else dropped contents lock) (ap (is_under lock) same ∙ under))
      go false there rest = ap (λ left. if not (is_under lock entry.1) then entry ∷ left else left) (rest there)

  -- where there is none, all are left
  pub none_under : (contents : Cache) → first_cached (is_under lock) contents ≡ None → contents ≡ dropped contents lock
  none_under [] none = refl
  none_under (entry ∷ contents) none = go (is_under lock entry.1) none (none_under contents)
    where
      go : (t : Bool) → option_map (λ e. e.0) (if t then Some entry else find (λ e. is_under lock e.1) contents) ≡ None → (first_cached (is_under lock) contents ≡ None → contents ≡ dropped contents lock)
          → entry ∷ contents ≡ (if not t then entry ∷ dropped contents lock else dropped contents lock)
      go true none rest = cc none
      go false none rest = ap (λ left. entry ∷ left) (rest none)

pub fewer_left : (contents : Cache) (sector : ℕ) (cached : CachedSector) → value_at contents sector ≡ Some cached → length (without contents sector) + 1 ≡ length contents
fewer_left contents sector cached there =
    let none : room_for contents sector ≡ 0 = ap (λ (o : Option CachedSector). if is_some o then 0 else 1) there in
    omega (arith, none, length-without sector contents)

-- a fact of what an answer holds, and what follows from it
pub if_ok : {T E : Type 0} {P Q : T → Type 0} (r : Result T E) → ((x : T) → P x → Q x) → IfOk r P → IfOk r Q
if_ok (Ok x) follows p = follows x p
if_ok (Err e) follows p = p
