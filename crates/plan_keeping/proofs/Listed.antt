-- The sectors of a thing that moves come under its lock, and all others stay.
use Rattle.std.proofs.Common.{◌≡◌, ◌<◌, ◌≤◌, ◌+◌, ◌-◌, ◌*◌, ℕ, zero, suc, length, drop, drop-cons, slice_index_or, Bool, true, false, ◌&&◌, ◌||◌, if◌then◌else◌, nat_eq, nat_lt, Option, Some, None, List, [], ◌∷◌, ◌++◌, arith, refl, sym, ap, ◌∙◌, subst, eqb-true, ltb-true}
use Rattle.std.proofs.lemmas.Bool.{eq-eqb}
use Rattle.std.specs.Option.{option_and_then, option_map, unwrap_or}
use Rattle.frang_base.specs.declared.limits.TheConstants.{LARGE_BLOCK_SECTORS, SMALL_BLOCK_SECTORS}
use Rattle.frang_base.specs.declared.lock.LockId.{LockId}
use Rattle.frang_base.specs.declared.sector.Sector.{Sector as CodeSector}
use Rattle.cache_laws.specs.Steps.{cover_after}
use Rattle.disk_definitions.specs.Ask.{Sector}
use Rattle.disk_definitions.specs.Numbered.{sector_at, sector_in}
use Rattle.disk_definitions.specs.Regions.{inodes_from, is_in_range, large_blocks_from, large_stride, region_of, sector_of, small_blocks_from}
use Rattle.disk_definitions.specs.declared.region.Region.{Region}
use Rattle.disk_definitions.specs.declared.region.Region.TheVariants as region
use Rattle.disk_definitions.proofs.RegionLaws.{region_read}
use Rattle.edit_moves.specs.declared.moves.Move.{Move}
use Rattle.edit_moves.specs.declared.thing.Thing.{Thing}
use Rattle.edit_moves.specs.declared.thing.Thing.TheVariants as thing
use Rattle.edit_moves.specs.Moves.{cover_in, is_same, lock_of, thing_of}
use Rattle.edit_moves.proofs.Same.{same_is}
use Rattle.server_core.specs.Outcomes.{moves_of}
use Rattle.plan_keeping.specs.Moved.{Covers, is_at, is_listed, is_part, is_this, over, says}

-- ---- words of sectors

pub covers_same : (list : List (CodeSector × LockId)) (f g : ℕ → Option LockId) → Covers list f → ((s : ℕ) → f s ≡ g s) → Covers list g
covers_same list f g covers same s cover = covers s cover ∙ ap (λ o. unwrap_or o cover) (same s)

both : (a b : Bool) → (a && b) ≡ true → (a ≡ true) × (b ≡ true)
both true b e = (refl, e)
both false b e = absurd (cc)

-- ---- one sector more

after_more : (list : List (CodeSector × LockId)) (one : CodeSector × LockId) (s : ℕ) (cover : LockId) → cover_after (moves_of (list ++ one ∷ [])) s cover ≡ (if nat_eq one.0.0 s then one.1 else cover_after (moves_of list) s cover)
after_more [] one s cover = refl
after_more (first ∷ list) one s cover = after_more list one s (if nat_eq first.0.0 s then first.1 else cover)

module _ (segments : ℕ) (own : Thing) (lock : LockId) (before : ℕ → Option LockId) where
  -- a sector that is the thing's is put behind the others
  pub covers_more : (old new : List (CodeSector × LockId)) (sector : CodeSector) → new ≡ old ++ (sector, lock) ∷ [] → is_at segments own sector.0 ≡ true → Covers old before
      → Covers new (over (is_this segments own sector.0) lock before)
  covers_more old new sector is at covers s cover =
      ap (λ (l : List (CodeSector × LockId)). cover_after (moves_of l) s cover) is ∙ after_more old (sector, lock) s cover
      ∙ go (nat_eq sector.0 s) refl
    where
      go : (t : Bool) → nat_eq sector.0 s ≡ t → (if t then lock else cover_after (moves_of old) s cover) ≡ unwrap_or (over (λ n. t && is_at segments own n) lock before s) cover
      go true e =
          let here : is_at segments own s ≡ true = subst (λ n. is_at segments own n ≡ true) (eqb-true sector.0 s e) at in
          sym (ap (λ (t : Bool). unwrap_or (if t then Some lock else before s) cover) here)
      go false e = covers s cover

  -- one that isn't is left out
  pub covers_none : (old : List (CodeSector × LockId)) (sector : CodeSector) → is_at segments own sector.0 ≡ false → Covers old before → Covers old (over (is_this segments own sector.0) lock before)
  covers_none old sector out covers s cover = covers s cover ∙ go (nat_eq sector.0 s) refl
    where
      go : (t : Bool) → nat_eq sector.0 s ≡ t → unwrap_or (before s) cover ≡ unwrap_or (over (λ n. t && is_at segments own n) lock before s) cover
      go true e =
          let gone : is_at segments own s ≡ false = subst (λ n. is_at segments own n ≡ false) (eqb-true sector.0 s e) out in
          sym (ap (λ (t : Bool). unwrap_or (if t then Some lock else before s) cover) gone)
      go false e = refl

  -- ---- part after part

  pub no_part : (first : ℕ) (old : List (CodeSector × LockId)) → Covers old before → Covers old (over (is_part segments own first 0) lock before)
  no_part first old covers = covers

  pub part_more : (first part : ℕ) (sector : CodeSector) (list : List (CodeSector × LockId)) → sector.0 ≡ first + part
      → Covers list (over (is_this segments own sector.0) lock (over (is_part segments own first part) lock before)) → Covers list (over (is_part segments own first (part + 1)) lock before)
  part_more first part sector list at covers =
      let next : part + 1 ≡ suc part = omega arith in
      covers_same list _ _ covers (λ s.
      go s (nat_eq sector.0 s) (is_at segments own s)
      ∙ ap (λ (n : ℕ). over (λ s. (nat_eq n s || is_listed first part s) && is_at segments own s) lock before s) at
      ∙ sym (ap (λ (n : ℕ). over (is_part segments own first n) lock before s) next))
    where
      go : (s : ℕ) (t a : Bool) → (if t && a then Some lock else (if is_listed first part s && a then Some lock else before s)) ≡ (if (t || is_listed first part s) && a then Some lock else before s)
      go s true true = refl
      go s true false = last (is_listed first part s)
        where
          last : (l : Bool) → (if l && false then Some lock else before s) ≡ before s
          last true = refl
          last false = refl
      go s false a = refl

  -- where each of the thing's is listed
  pub all_parts : (first count : ℕ) (list : List (CodeSector × LockId)) → ((s : ℕ) → is_at segments own s ≡ true → is_listed first count s ≡ true)
      → Covers list (over (is_part segments own first count) lock before) → Covers list (over (is_at segments own) lock before)
  all_parts first count list all covers = covers_same list _ _ covers (λ s. go s (is_at segments own s) refl (is_listed first count s) refl)
    where
      go : (s : ℕ) (a : Bool) → is_at segments own s ≡ a → (l : Bool) → is_listed first count s ≡ l → (if l && a then Some lock else before s) ≡ (if a then Some lock else before s)
      go s true e true k = refl
      go s true e false k = absurd (let yes = all s e in cc)
      go s false e true k = refl
      go s false e false k = refl

  pub only_this : (sector : ℕ) (list : List (CodeSector × LockId)) → ((s : ℕ) → is_at segments own s ≡ true → sector ≡ s)
      → Covers list (over (is_this segments own sector) lock before) → Covers list (over (is_at segments own) lock before)
  only_this sector list all covers = covers_same list _ _ covers (λ s. go s (is_at segments own s) refl (nat_eq sector s) refl)
    where
      go : (s : ℕ) (a : Bool) → is_at segments own s ≡ a → (l : Bool) → nat_eq sector s ≡ l → (if l && a then Some lock else before s) ≡ (if a then Some lock else before s)
      go s true e true k = refl
      go s true e false k = absurd (let yes = eq-eqb sector s (all s e) in cc)
      go s false e true k = refl
      go s false e false k = refl

-- ---- where the sectors of a thing lie

abbrev LiesAt : Thing → ℕ → Type 0
LiesAt (thing.Inode n) s = s ≡ inodes_from + n
LiesAt (thing.Small k) s = (part : ℕ) × (part < SMALL_BLOCK_SECTORS) × (s ≡ small_blocks_from + k * SMALL_BLOCK_SECTORS + part)
LiesAt (thing.Large k) s = (part : ℕ) × (part < LARGE_BLOCK_SECTORS) × (s ≡ large_blocks_from + k * large_stride + part)

lies_of : (segments s : ℕ) (r : Region) (found : Thing) → option_and_then thing_of (sector_in (Some r)) ≡ Some found → sector_of r ≡ s → is_in_range segments r ≡ true → LiesAt found s
lies_of segments s region.Param found e at range = absurd (cc)
lies_of segments s (region.Log server slot) found e at range = absurd (cc)
lies_of segments s (region.Segment k) found e at range = absurd (cc)
lies_of segments s (region.Inode n) found e at range =
    let same : thing.Inode n ≡ found = cc in
    subst (λ t. LiesAt t s) same (sym at)
lies_of segments s (region.Small k part) found e at range =
    let same : thing.Small k ≡ found = cc in
    subst (λ t. LiesAt t s) same (part, ltb-true part SMALL_BLOCK_SECTORS (both (nat_lt k _) (nat_lt part SMALL_BLOCK_SECTORS) range).1, sym at)
lies_of segments s (region.Large k part) found e at range =
    let same : thing.Large k ≡ found = cc in
    subst (λ t. LiesAt t s) same (part, ltb-true part LARGE_BLOCK_SECTORS (both (nat_lt k segments) (nat_lt part LARGE_BLOCK_SECTORS) range).1, sym at)

lies_where : (segments s : ℕ) (own : Thing) → is_at segments own s ≡ true → LiesAt own s
lies_where segments s own at = go (region_of segments s) refl at
  where
    on : (r : Region) → region_of segments s ≡ Some r → (o : Option Thing) → option_and_then thing_of (sector_in (Some r)) ≡ o
        → unwrap_or (option_map (λ found. is_same found own) o) false ≡ true → LiesAt own s
    on r is None e t = absurd (cc)
    on r is (Some found) e t =
        let place = region_read segments s r is in
        subst (λ x. LiesAt x s) (same_is found own t) (lies_of segments s r found e place.0 place.1)

    go : (o : Option Region) → region_of segments s ≡ o → unwrap_or (option_map (λ found. is_same found own) (option_and_then thing_of (sector_in o))) false ≡ true → LiesAt own s
    go None is t = absurd (cc)
    go (Some r) is t = on r is (option_and_then thing_of (sector_in (Some r))) refl t

listed_in : (first count part : ℕ) → part < count → is_listed first count (first + part) ≡ true
listed_in first zero part l = absurd (omega arith)
listed_in first (suc count) part l = go (nat_eq (first + count) (first + part)) refl (listed_in first count part)
  where
    less : (count ≡ part → ⊥) → part < suc count → part < count
    less apart l = grind arith

    go : (t : Bool) → nat_eq (first + count) (first + part) ≡ t → (part < count → is_listed first count (first + part) ≡ true) → (t || is_listed first count (first + part)) ≡ true
    go true e rest = refl
    go false e rest = rest (less (λ (q : count ≡ part). absurd (let yes = eq-eqb (first + count) (first + part) (ap (λ n. first + n) q) in cc)) l)

pub inode_here : (segments n s : ℕ) → is_at segments (thing.Inode n) s ≡ true → sector_of (region.Inode n) ≡ s
inode_here segments n s at = sym (lies_where segments s (thing.Inode n) at)

pub small_here : (segments k s : ℕ) → is_at segments (thing.Small k) s ≡ true → is_listed (small_blocks_from + k * SMALL_BLOCK_SECTORS) SMALL_BLOCK_SECTORS s ≡ true
small_here segments k s at =
    let l = lies_where segments s (thing.Small k) at in
    ap (is_listed (small_blocks_from + k * SMALL_BLOCK_SECTORS) SMALL_BLOCK_SECTORS) l.2 ∙ listed_in (small_blocks_from + k * SMALL_BLOCK_SECTORS) SMALL_BLOCK_SECTORS l.0 l.1

pub large_here : (segments k s : ℕ) → is_at segments (thing.Large k) s ≡ true → is_listed (large_blocks_from + k * large_stride) LARGE_BLOCK_SECTORS s ≡ true
large_here segments k s at =
    let l = lies_where segments s (thing.Large k) at in
    ap (is_listed (large_blocks_from + k * large_stride) LARGE_BLOCK_SECTORS) l.2 ∙ listed_in (large_blocks_from + k * large_stride) LARGE_BLOCK_SECTORS l.0 l.1

-- ---- thing after thing

-- the words of moves with one more in front
pub says_more : (segments : ℕ) (one : Move) (moves : List Move) (s : ℕ) → over (is_at segments one.thing) one.lock (says segments moves) s ≡ says segments (one ∷ moves) s
says_more segments one moves s = go (option_and_then thing_of (sector_at segments s))
  where
    go : (o : Option Thing) → (if unwrap_or (option_map (λ found. is_same found one.thing) o) false then Some one.lock else lock_of moves o) ≡ lock_of (one ∷ moves) o
    go None = refl
    go (Some found) = refl

-- nothing is said
pub no_words : (segments : ℕ) → Covers [] (says segments [])
no_words segments s cover = go (option_and_then thing_of (sector_at segments s))
  where
    go : (o : Option Thing) → cover ≡ unwrap_or (lock_of [] o) cover
    go None = refl
    go (Some found) = refl

-- what is said of sectors is said of them as places
pub said_as : (moves : List Move) (o : Option Sector) → lock_of moves (option_and_then thing_of o) ≡ option_and_then (cover_in moves) o
said_as moves None = refl
said_as moves (Some place) = refl

-- the move at a place and those behind it
pub next_move : (moves : List Move) (left : ℕ) (d : Move) → 0 < left → left ≤ length moves → slice_index_or moves (left - 1) d ∷ drop left moves ≡ drop (left - 1) moves
next_move moves left d some inside =
    let back : suc (left - 1) ≡ left = omega arith in
    sym (drop-cons moves (left - 1) d (omega arith) ∙ ap (λ (n : ℕ). slice_index_or moves (left - 1) d ∷ drop n moves) back)
