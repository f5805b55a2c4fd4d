-- All that is dirty stays wanted, one sector after another.
use Rattle.std.proofs.Common.{◌≡◌, ℕ, ◌+◌, Bool, true, false, not, if◌then◌else◌, is_some, [], ◌∷◌, length, Option, Some, None, refl, sym, ap, ◌∙◌, subst, arith}
use Rattle.std.specs.List.{cons_option}
use Rattle.std.specs.List.Sorted.{IsStrictlySortedBy}
use Rattle.std.specs.BTreeMap.{is_at}
use Rattle.std.specs.Option.{option_map, unwrap_or}
use Rattle.std.specs.Ordering.{nat_cmp, match_ordering}
use Rattle.std.specs.declared.cmp.Ordering.{Ordering}
use Rattle.std.specs.declared.cmp.Ordering.TheVariants.{Less, Equal, Greater}
use Rattle.frang_base.proofs.Tests.{at_itself}
use Rattle.sector_bytes.specs.SectorMaps.{value_at, adjusted, Ascend}
use Rattle.sector_bytes.proofs.MapLaws.{AllAbove, absent, found}
use Rattle.cache_definitions.specs.declared.dirt.Dirt.{Dirt}
use Rattle.cache_definitions.specs.Caches.{dirty_sectors}
use Rattle.flush_order.specs.declared.Mark.{Mark}
use Rattle.flush_order.specs.Marks.{least, lesser, mark_cmp}
use Rattle.clerk_cache.specs.declared.state.SectorState.{SectorState}
use Rattle.clerk_cache.specs.Kept.{AreAlike, all_wanted, cached_of, flagged, is_state_dirty, is_state_flying, is_state_fresh, is_state_staying, joined, mark_key, passing_marks, state_mark, wanted_state, wanted_where_dirty}
use Rattle.clerk_cache.proofs.Joining.{Blocks, States}

-- a dirty sector that doesn't stay wanted
pub record IsFresh (states : States) (sector : ℕ) : Type 0 where
  pub state : SectorState
  pub there : value_at states sector ≡ Some state
  pub fresh : state.stays ≡ false
  pub dirty : is_some state.dirt ≡ true

fresh_mark : (entry : ℕ × SectorState) (m : Mark) → mark_key is_state_fresh entry ≡ Some m → (entry.0 ≡ m.sector.0) × (entry.1.stays ≡ false) × (is_some entry.1.dirt ≡ true)
fresh_mark entry m is = go entry.1.stays refl entry.1.dirt refl is
  where
    go : (t : Bool) → entry.1.stays ≡ t → (d : Option Dirt) → entry.1.dirt ≡ d → mark_key is_state_fresh (entry.0, record entry.1 { stays = t; dirt = d }) ≡ Some m
        → (entry.0 ≡ m.sector.0) × (entry.1.stays ≡ false) × (is_some entry.1.dirt ≡ true)
    go true stays d dirt e = cc e
    go false stays None dirt e = cc e
    go false stays (Some d) dirt e = (ap (λ o. unwrap_or (option_map (λ mark. mark.sector.0) o) entry.0) e, stays, ap is_some dirt)

-- the least of these marks is of such a sector
pub least_is_fresh : (states : States) (m : Mark) → Ascend states → least (passing_marks is_state_fresh states) ≡ Some m → IsFresh states m.sector.0
unfolding IsStrictlySortedBy
least_is_fresh [] m sorted is = cc is
least_is_fresh (entry ∷ states) m sorted is = go (mark_key is_state_fresh entry) refl is (least_is_fresh states m sorted.1)
  where
    behind : (t : Bool) → is_at (nat_cmp m.sector.0) entry.0 ≡ t → IsFresh states m.sector.0 → IsFresh (entry ∷ states) m.sector.0
    behind true at one = cc (sym (absent m.sector.0 states (subst (λ low. AllAbove low states) (found m.sector.0 entry.0 at) sorted.0)) ∙ one.there)
    behind false at one = record { state = one.state; there = ap (λ u. if u then Some entry.1 else value_at states m.sector.0) at ∙ one.there; fresh = one.fresh; dirty = one.dirty }

    here : mark_key is_state_fresh entry ≡ Some m → IsFresh (entry ∷ states) m.sector.0
    here own =
        let all = fresh_mark entry m own in
        record {
          state = entry.1;
          there = ap (λ n. if is_at (nat_cmp n) entry.0 then Some entry.1 else value_at states n) (sym all.0) ∙ ap (λ u. if u then Some entry.1 else value_at states entry.0) (at_itself entry.0);
          fresh = all.1;
          dirty = all.2;
        }

    pick : (k : Mark) (o : Option Mark) → mark_key is_state_fresh entry ≡ Some k → least (passing_marks is_state_fresh states) ≡ o → lesser k o ≡ m → (least (passing_marks is_state_fresh states) ≡ Some m → IsFresh states m.sector.0) → IsFresh (entry ∷ states) m.sector.0
    pick k None own rest e further = here (own ∙ ap Some e)
    pick k (Some other) own rest e further = by (mark_cmp k other) e
      where
        by : (o : Ordering) → match_ordering o k other other ≡ m → IsFresh (entry ∷ states) m.sector.0
        by Less e = here (own ∙ ap Some e)
        by Equal e = behind (is_at (nat_cmp m.sector.0) entry.0) refl (further (rest ∙ ap Some e))
        by Greater e = behind (is_at (nat_cmp m.sector.0) entry.0) refl (further (rest ∙ ap Some e))

    go : (o : Option Mark) → mark_key is_state_fresh entry ≡ o → least (cons_option o (passing_marks is_state_fresh states)) ≡ Some m
        → (least (passing_marks is_state_fresh states) ≡ Some m → IsFresh states m.sector.0) → IsFresh (entry ∷ states) m.sector.0
    go None own e further = behind (is_at (nat_cmp m.sector.0) entry.0) refl (further e)
    go (Some k) own e further = pick k (least (passing_marks is_state_fresh states)) own refl (cc e) further

-- ---- one more that stays

pub wanted_same : (states : States) (sector : ℕ) (state : SectorState) → value_at states sector ≡ Some state → is_some state.dirt ≡ true → all_wanted (adjusted wanted_state states sector) ≡ all_wanted states
wanted_same [] sector state there dirty = refl
wanted_same (entry ∷ states) sector state there dirty = go (is_at (nat_cmp sector) entry.0) there (wanted_same states sector state)
  where
    go : (t : Bool) → (if t then Some entry.1 else value_at states sector) ≡ Some state
        → (value_at states sector ≡ Some state → is_some state.dirt ≡ true → all_wanted (adjusted wanted_state states sector) ≡ all_wanted states)
        → all_wanted (if t then (entry.0, wanted_state entry.1) ∷ states else entry ∷ adjusted wanted_state states sector) ≡ all_wanted (entry ∷ states)
    go true e rest =
        let same : entry.1 ≡ state = cc e in
        let own : is_some entry.1.dirt ≡ true = ap (λ s. is_some s.dirt) same ∙ dirty in
        ap (λ b. (entry.0, if b then wanted_state entry.1 else wanted_state entry.1) ∷ all_wanted states) own ∙ sym (ap (λ b. (entry.0, if b then wanted_state entry.1 else entry.1) ∷ all_wanted states) own)
    go false e rest = ap (λ left. (entry.0, wanted_where_dirty entry.1) ∷ left) (rest e dirty)

-- there is one fewer that doesn't
pub fewer_fresh : (states : States) (sector : ℕ) (state : SectorState) → value_at states sector ≡ Some state → is_some state.dirt ≡ true → state.stays ≡ false
    → length (passing_marks is_state_fresh (adjusted wanted_state states sector)) + 1 ≡ length (passing_marks is_state_fresh states)
fewer_fresh [] sector state there dirty fresh = cc there
fewer_fresh (entry ∷ states) sector state there dirty fresh = go (is_at (nat_cmp sector) entry.0) there (λ e. fewer_fresh states sector state e dirty fresh)
  where
    marked : (d : Option Dirt) → is_some d ≡ true → length (cons_option (state_mark (entry.0, record entry.1 { dirt = d })) (passing_marks is_state_fresh states)) ≡ length (passing_marks is_state_fresh states) + 1
    marked (Some d) some = omega arith
    marked None some = cc some

    more : (o : Option Mark) → length (passing_marks is_state_fresh (adjusted wanted_state states sector)) + 1 ≡ length (passing_marks is_state_fresh states)
        → length (cons_option o (passing_marks is_state_fresh (adjusted wanted_state states sector))) + 1 ≡ length (cons_option o (passing_marks is_state_fresh states))
    more None e = e
    more (Some m) e = omega (arith, e)

    go : (t : Bool) → (if t then Some entry.1 else value_at states sector) ≡ Some state
        → (value_at states sector ≡ Some state → length (passing_marks is_state_fresh (adjusted wanted_state states sector)) + 1 ≡ length (passing_marks is_state_fresh states))
        → length (passing_marks is_state_fresh (if t then (entry.0, wanted_state entry.1) ∷ states else entry ∷ adjusted wanted_state states sector)) + 1 ≡ length (passing_marks is_state_fresh (entry ∷ states))
    go true e rest =
        let same : entry.1 ≡ state = cc e in
        sym (marked entry.1.dirt (ap (λ s. is_some s.dirt) same ∙ dirty))
        ∙ ap (λ t. length (cons_option (if not t then state_mark entry else None) (passing_marks is_state_fresh states))) (sym (ap (λ s. s.stays) same ∙ fresh))
    go false e rest = more (mark_key is_state_fresh entry) (rest e)

-- where there is none, all that is dirty stays
pub none_fresh : (states : States) → least (passing_marks is_state_fresh states) ≡ None → states ≡ all_wanted states
none_fresh [] none = refl
none_fresh (entry ∷ states) none = go entry.1.stays refl entry.1.dirt refl none (none_fresh states)
  where
    go : (t : Bool) → entry.1.stays ≡ t → (d : Option Dirt) → entry.1.dirt ≡ d
        → least (cons_option (mark_key is_state_fresh (entry.0, record entry.1 { stays = t; dirt = d })) (passing_marks is_state_fresh states)) ≡ None
        → (least (passing_marks is_state_fresh states) ≡ None → states ≡ all_wanted states) → entry ∷ states ≡ all_wanted (entry ∷ states)
    go true stays None dirt e rest = λ i. (entry.0, as_was dirt i) ∷ rest e i
      where
        as_was : entry.1.dirt ≡ None → entry.1 ≡ wanted_where_dirty entry.1
        as_was dirt = sym (ap (λ d. if is_some d then wanted_state entry.1 else entry.1) dirt)
    go false stays None dirt e rest = λ i. (entry.0, as_was dirt i) ∷ rest e i
      where
        as_was : entry.1.dirt ≡ None → entry.1 ≡ wanted_where_dirty entry.1
        as_was dirt = sym (ap (λ d. if is_some d then wanted_state entry.1 else entry.1) dirt)
    go true stays (Some d) dirt e rest = λ i. (entry.0, wanted stays i) ∷ rest e i
      where
        wanted : entry.1.stays ≡ true → entry.1 ≡ wanted_where_dirty entry.1
        wanted stays = ap (λ t. record entry.1 { stays = t }) stays ∙ sym (ap (λ d. if is_some d then wanted_state entry.1 else entry.1) dirt)
    go false stays (Some d) dirt e rest = cc e

-- ---- seen in the cache

pub alike-all : (blocks : Blocks) (states : States) → AreAlike blocks states → AreAlike blocks (all_wanted states)
alike-all [] [] alike = tt
alike-all [] (s ∷ states) alike = elim alike [ ]
alike-all (b ∷ blocks) [] alike = elim alike [ ]
alike-all (b ∷ blocks) (s ∷ states) alike = (alike.0, alike-all blocks states alike.1)

pub joined-all : (blocks : Blocks) (states : States) → AreAlike blocks states → joined blocks (all_wanted states) ≡ joined blocks states
joined-all [] [] alike = refl
joined-all [] (s ∷ states) alike = elim alike [ ]
joined-all (b ∷ blocks) [] alike = elim alike [ ]
joined-all (b ∷ blocks) (s ∷ states) alike = λ i. (b.0, same (is_state_dirty s.1) i) ∷ joined-all blocks states alike.1 i
  where
    same : (t : Bool) → cached_of b.1 (if t then wanted_state s.1 else s.1) ≡ cached_of b.1 s.1
    same true = refl
    same false = refl

pub flying-all : (states : States) → flagged is_state_flying (all_wanted states) ≡ flagged is_state_flying states
flying-all [] = refl
flying-all (s ∷ states) = go (is_state_dirty s.1) s.1.flies (flying-all states)
  where
    go : (t f : Bool) → flagged is_state_flying (all_wanted states) ≡ flagged is_state_flying states
        → flagged is_state_flying ((s.0, if t then wanted_state (record s.1 { flies = f }) else record s.1 { flies = f }) ∷ all_wanted states) ≡ flagged is_state_flying ((s.0, record s.1 { flies = f }) ∷ states)
    go true true rest = ap (λ xs. s.0 ∷ xs) rest
    go true false rest = rest
    go false true rest = ap (λ xs. s.0 ∷ xs) rest
    go false false rest = rest

pub staying-all : (blocks : Blocks) (states : States) → AreAlike blocks states → flagged is_state_staying (all_wanted states) ≡ dirty_sectors (joined blocks states)
staying-all [] [] alike = refl
staying-all [] (s ∷ states) alike = elim alike [ ]
staying-all (b ∷ blocks) [] alike = elim alike [ ]
staying-all (b ∷ blocks) (s ∷ states) alike = go s.1.dirt (staying-all blocks states alike.1)
  where
    go : (d : Option Dirt) → flagged is_state_staying (all_wanted states) ≡ dirty_sectors (joined blocks states)
        → flagged is_state_staying ((s.0, wanted_where_dirty (record s.1 { dirt = d })) ∷ all_wanted states) ≡ dirty_sectors ((b.0, cached_of b.1 (record s.1 { dirt = d })) ∷ joined blocks states)
    go (Some d) rest = λ i. sym alike.0 i ∷ rest i
    go None rest = rest
