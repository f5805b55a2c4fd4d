-- Over the disk of a tree, an outcome keeps the guards: by the locks of its plan, and by what the plan looked at.
use Rattle.std.proofs.Common.{ℕ, ◌≡◌, ◌<◌, ◌*◌, ◌&&◌, inl, inr, ⊎_elim, Bool, true, false, nat_lt, if◌then◌else◌, IsTrue, IsSome, Option, Some, None, List, [], ◌∷◌, ◌++◌, map, is_some, refl, sym, ap, ◌∙◌, subst}
use Rattle.std.proofs.lemmas.List.Elements.{Contains-append_left, Contains-append_right, Contains-append_cases}
use Rattle.std.proofs.lemmas.Bool.{and_parts, false≢true, ltb-true}
use Rattle.std.specs.BTreeMap.{is_at}
use Rattle.std.specs.List.{filter_map, Contains}
use Rattle.std.specs.Option.{option_map, option_and_then, unwrap_or}
use Rattle.std.specs.Ordering.{nat_cmp}
use Rattle.std.proofs.lemmas.Option.{same_Some, none-some}
use Rattle.frang_base.specs.declared.change.Change.{Change}
use Rattle.frang_base.specs.declared.lock.LockId.{LockId}
use Rattle.frang_base.specs.declared.lock.LockId.TheVariants as lock
use Rattle.frang_base.specs.declared.lock.Mode.TheVariants.{Sole}
use Rattle.frang_base.specs.declared.op.Op.{Op}
use Rattle.frang_base.specs.Functions.{member}
use Rattle.sector_bytes.specs.Blocks.{Block}
use Rattle.sector_bytes.specs.Replays.{change_at}
use Rattle.sector_bytes.specs.SectorMaps.{value_at}
use Rattle.sector_bytes.specs.Sectors.{Sectors}
use Rattle.sector_world.specs.Histories.{Fill}
use Rattle.sector_world.specs.Histories.Fill.{Written, Freed}
use Rattle.sector_world.specs.Plans.{Outcome, looks as touched}
use Rattle.disk_definitions.specs.declared.region.Region.{Region}
use Rattle.disk_definitions.specs.declared.region.Region.TheVariants as region
use Rattle.disk_definitions.specs.Regions.{region_of, sector_of}
use Rattle.disk_definitions.proofs.RegionLaws.{region_read}
use Rattle.tree_definitions.specs.Tree.{FileTree}
use Rattle.tree_definitions.proofs.Pairs.{birth_exact, tie}
use Rattle.disk_definitions.specs.Naming.{Naming}
use Rattle.disk_definitions.specs.Store.{Store, Use, is_unused}
use Rattle.disk_definitions.specs.Held.{state_in}
use Rattle.disk_definitions.specs.Picks.{is_in_state}
use Rattle.disk_definitions.specs.Edits.{Edit}
use Rattle.disk_definitions.specs.Edits.Edit.{SetInode, SetBit, SetUse, SetPlace, SetLarge, SetBytes, SetLargeBytes}
use Rattle.disk_definitions.specs.Ask.{Sector, InodeAt, DirectoryAt, SegmentAt, BytesAt, LargeAt, Ask, run, looks, number_of}
use Rattle.disk_definitions.specs.Plans.{Hand, Lock, Plan, Finish}
use Rattle.disk_definitions.specs.Plans.Plan.{Finishes}
use Rattle.disk_definitions.specs.Meets.{IsHandOf, is_directory_use}
use Rattle.disk_definitions.specs.Written.{edit_sector, byte_writes, freed_sectors}
use Rattle.plan_laws.specs.Locks.{IsSole}
use Rattle.plan_laws.proofs.Covering.{has_head, has_more, has_cases, not_in_none, map_has}
use Rattle.plan_laws.specs.Inside.{IsInside, AreInside}
use Rattle.plan_laws.specs.Looked.{edited_at}
use Rattle.disk_definitions.specs.Covers.{cover_of}
use Rattle.plan_laws.specs.Covers.{IsHeld, PlanHolds, IsHeldSegment}
use Rattle.disk_definitions.specs.Moves.{first_said, use_said, taker_said, small_move, moved_by}
use Rattle.plan_laws.specs.Plans.{Planner, Fills}
use Rattle.disk_definitions.specs.Numbered.{sector_in, sector_at, moves_of}
use Rattle.plan_laws.proofs.Filled.{filter_from}
use Rattle.line_histories.specs.LinePlans.{held_of, hand_on, store_showing, store_on, versioned, plain, becomes_directory, is_claimed, claims_of, fill_by, edits_in, lock_in, sole_in, segment_lock, segment_number, outcome_by}
use Rattle.line_histories.specs.Outcomes.{IsOfAPlan}
use Rattle.line_histories.specs.Planners.{IsPart, IsSoundPlanner}
use Rattle.line_histories.specs.Guards.{IsDiskOf, IsUnder, IsSeen, IsMoved, IsClaimed, KeepsGuards, SoundPlansKeepGuards, LinePlansKeepGuards}
use Rattle.line_histories.proofs.Lists.{member_has, filter_has, has_map}
use Rattle.line_histories.proofs.Changes.{IsChange, change_of_edit}
use Rattle.line_histories.proofs.Hands.{is_hand, held_asked, hint_fresh}
use Rattle.line_histories.proofs.Framed.{edited_versioned, seen_is_looked}
use Rattle.line_histories.proofs.LinesSound.{lines_are_sound}
use Rattle.line_histories.proofs.Outcomes.{outcomes_of_plans}
use Rattle.disk_definitions.specs.Lines.{plan_of_line}

-- ---- numbers

pub versioned_number : (x : Sector) (m : ℕ) → versioned x ≡ Some m → m ≡ number_of x
versioned_number (InodeAt i) m e = sym (same_Some (number_of (InodeAt i)) m e)
versioned_number (DirectoryAt k part) m e = sym (same_Some (number_of (DirectoryAt k part)) m e)
versioned_number (SegmentAt k) m e = sym (same_Some (number_of (SegmentAt k)) m e)
versioned_number (BytesAt k part) m e = absurd (none-some m e)
versioned_number (LargeAt g part) m e = absurd (none-some m e)

pub plain_number : (x : Sector) (m : ℕ) → plain x ≡ Some m → m ≡ number_of x
plain_number (InodeAt i) m e = absurd (none-some m e)
plain_number (DirectoryAt k part) m e = absurd (none-some m e)
plain_number (SegmentAt k) m e = absurd (none-some m e)
plain_number (BytesAt k part) m e = sym (same_Some (number_of (BytesAt k part)) m e)
plain_number (LargeAt g part) m e = sym (same_Some (number_of (LargeAt g part)) m e)

edit_number : (e : Edit) → edit_sector e ≡ number_of (edited_at e)
edit_number (SetInode i x dated) = refl
edit_number (SetBit i b) = refl
edit_number (SetUse k u) = refl
edit_number (SetPlace k p e) = refl
edit_number (SetLarge g b) = refl
edit_number (SetBytes k part bytes) = refl
edit_number (SetLargeBytes g part bytes) = refl

-- ---- locks

pub sole_alone : (locks : List Lock) (l : LockId) → IsSole locks l → Contains (filter_map sole_in locks) l
sole_alone locks l c = filter_has sole_in locks (l, Sole) l refl c

held_used : (locks : List Lock) (more : List LockId) (l : LockId) → IsHeld locks l → Contains (map lock_in locks ++ more) l
held_used locks more l h = Contains-append_left (map lock_in locks) more l (map_has lock_in locks (l, h.0) h.1)

-- ---- bytes

-- a value that is found is among the pairs
pub value_in : (xs : List (ℕ × List ℕ)) (s : ℕ) (b : List ℕ) → value_at xs s ≡ Some b → Contains xs (s, b)
value_in [] s b e = absurd (none-some b e)
value_in (x ∷ xs) s b e = go (value_in xs s b) (is_at (nat_cmp s) x.0) refl e
  where
    go : (value_at xs s ≡ Some b → Contains xs (s, b)) → (c : Bool) → is_at (nat_cmp s) x.0 ≡ c → (if c then Some x.1 else value_at xs s) ≡ Some b → Contains (x ∷ xs) (s, b)
    go rest true q i =
        let key : x.0 ≡ s = sym (tie nat_cmp birth_exact s x.0 q) in
        let value : x.1 ≡ b = cc in
        let same : x ≡ (s, b) = rw (key, value) refl in
        subst (Contains (x ∷ xs)) same (has_head x xs)
    go rest false q i = has_more x (s, b) xs (rest i)

-- what edits make of a sector of bytes is a write or a freeing
pub filled_is : (edits : List Edit) (s : ℕ) → IsSome (fill_by edits s) → Fills edits s
filled_is edits s e = go (member s (freed_sectors edits)) refl (value_at (byte_writes edits) s) refl e
  where
    go : (b : Bool) → member s (freed_sectors edits) ≡ b → (o : Option (List ℕ)) → value_at (byte_writes edits) s ≡ o → is_some (if b then Some Freed else option_map (λ bytes. Written bytes) o) ≡ true → Fills edits s
    go true m o v i = inr (member_has s (freed_sectors edits) m)
    go false m None v i = absurd (false≢true i)
    go false m (Some bytes) v i = inl (bytes, value_in (byte_writes edits) s bytes v)

-- where a fill is made of what is shown, there is one
pub made_some : (fills : Option Block → Option Fill) (o : Option Fill) → is_some {T = Option Block → Fill} (option_map (λ fill shown. unwrap_or (fills shown) fill) o) ≡ true → IsSome o
made_some fills None e = absurd (false≢true e)
made_some fills (Some fill) e = refl

-- ---- sectors of the disk

-- the sector of a place has the place's number
place_number : (r : Region) (x : Sector) → sector_in (Some r) ≡ Some x → sector_of r ≡ number_of x
place_number region.Param x e = absurd (none-some x e)
place_number (region.Log server slot) x e = absurd (none-some x e)
place_number (region.Segment k) x e = ap number_of (same_Some (SegmentAt k) x e)
place_number (region.Inode j) x e = ap number_of (same_Some (InodeAt j) x e)
place_number (region.Small k part) x e = ap number_of (same_Some (DirectoryAt k part) x e)
place_number (region.Large g part) x e = ap number_of (same_Some (LargeAt g part) x e)

-- a part of a small block is such a place
place_part : (r : Region) (k part : ℕ) → sector_in (Some r) ≡ Some (DirectoryAt k part) → r ≡ region.Small k part
place_part region.Param k part e = absurd (none-some (DirectoryAt k part) e)
place_part (region.Log server slot) k part e = absurd (none-some (DirectoryAt k part) e)
place_part (region.Segment g) k part e = absurd (cc)
place_part (region.Inode j) k part e = absurd (cc)
place_part (region.Small j b) k part e = let same : DirectoryAt j b ≡ DirectoryAt k part = same_Some (DirectoryAt j b) (DirectoryAt k part) e in cc
place_part (region.Large g b) k part e = absurd (cc)

-- a sector that is found is that of a place
placed_at : (segments s : ℕ) (x : Sector) → sector_at segments s ≡ Some x → (r : Region) × (region_of segments s ≡ Some r) × (sector_in (Some r) ≡ Some x)
placed_at segments s x = go (region_of segments s)
  where
    go : (o : Option Region) → sector_in o ≡ Some x → (r : Region) × (o ≡ Some r) × (sector_in (Some r) ≡ Some x)
    go None i = absurd (none-some x i)
    go (Some r) i = (r, refl, i)

-- the number of a sector is its own
pub sector_here : (segments s : ℕ) (x : Sector) → sector_at segments s ≡ Some x → s ≡ number_of x
sector_here segments s x e = let r = placed_at segments s x e in sym (region_read segments s r.0 r.1).0 ∙ place_number r.0 x r.2

-- of a small block of the disk there are eight parts
part_inside : (segments s k part : ℕ) → sector_at segments s ≡ Some (DirectoryAt k part) → part < 8
part_inside segments s k part e =
    let r = placed_at segments s (DirectoryAt k part) e in
    let range = (region_read segments s (region.Small k part) (r.1 ∙ ap Some (place_part r.0 k part r.2))).1 in
    ltb-true part 8 (and_parts (nat_lt k (1024 * segments)) (nat_lt part 8) range).1

-- a sector that is moved is there
moved_there : (segments : ℕ) (edits : List Edit) (s : ℕ) (new : LockId) → moves_of segments edits s ≡ Some new → (x : Sector) × (sector_at segments s ≡ Some x) × (moved_by edits x ≡ Some new)
moved_there segments edits s new = go (sector_at segments s)
  where
    go : (o : Option Sector) → option_and_then (moved_by edits) o ≡ Some new → (x : Sector) × (o ≡ Some x) × (moved_by edits x ≡ Some new)
    go None i = absurd (none-some new i)
    go (Some x) i = (x, refl, i)

-- a sector that is claimed is a part of a block that becomes a directory's
pub record IsTakenBlock (segments : ℕ) (disk : Sectors) (hint : List ℕ) (edits : List Edit) (s : ℕ) : Type 0 where
  pub block : ℕ
  pub part : ℕ
  pub here : sector_at segments s ≡ Some (DirectoryAt block part)
  pub said : Use
  pub says : first_said (use_said block) edits ≡ Some said
  pub directory : is_directory_use said ≡ true
  pub fresh : is_in_state 0 (state_in (held_of segments disk hint) block) ≡ true

pub claimed_there : (segments : ℕ) (disk : Sectors) (hint : List ℕ) (edits : List Edit) (s : ℕ) → claims_of segments (held_of segments disk hint) edits s ≡ true → IsTakenBlock segments disk hint edits s
claimed_there segments disk hint edits s e = go (sector_at segments s) refl e
  where
    by_use : (k part : ℕ) → sector_at segments s ≡ Some (DirectoryAt k part) → (u : Option Use) → first_said (use_said k) edits ≡ u → (becomes_directory u && is_in_state 0 (state_in (held_of segments disk hint) k)) ≡ true →
        IsTakenBlock segments disk hint edits s
    by_use k part q None v i = absurd (false≢true i)
    by_use k part q (Some u) v i =
        let parts = and_parts (is_directory_use u) (is_in_state 0 (state_in (held_of segments disk hint) k)) i in
        record { block = k; part = part; here = q; said = u; says = v; directory = parts.0; fresh = parts.1 }

    go : (o : Option Sector) → sector_at segments s ≡ o → is_claimed (held_of segments disk hint) edits o ≡ true → IsTakenBlock segments disk hint edits s
    go None q i = absurd (false≢true i)
    go (Some (InodeAt j)) q i = absurd (false≢true i)
    go (Some (SegmentAt k)) q i = absurd (false≢true i)
    go (Some (BytesAt k part)) q i = absurd (false≢true i)
    go (Some (LargeAt g part)) q i = absurd (false≢true i)
    go (Some (DirectoryAt k part)) q i = by_use k part q (first_said (use_said k) edits) refl i

-- one of several sectors that are inside
one_inside : (segments : ℕ) (xs : List Sector) (x : Sector) → AreInside segments xs → Contains xs x → IsInside segments x
one_inside segments [] x a c = absurd (not_in_none x c)
one_inside segments (y ∷ xs) x a c = ⊎_elim (λ q. subst (IsInside segments) q a.0) (λ i. one_inside segments xs x a.1 i) (has_cases y x xs c)

module _ (planner : Planner) (sound : IsSoundPlanner planner) (segments : ℕ) (when : ℕ → ℕ) (hint : List ℕ) (n : ℕ) (op : Op) (disk : Sectors) (tree : FileTree) (naming : Naming) (is_of : IsDiskOf segments disk tree naming) where
  abbrev s : Store
  s = store_on segments disk

  abbrev h : Hand
  h = hand_on segments disk hint

  abbrev p : Ask Plan
  p = planner h n (when n) op

  abbrev planned : Option Block → Plan
  planned shown = run p (store_showing shown segments disk)

  hand : IsHandOf h s tree.segments
  hand = subst (IsHandOf h s) (sym is_of.count) (is_hand segments disk hint is_of.clear)

  module _ (f : Finish) (is : run p s ≡ Finishes f) where
    abbrev o : Outcome
    o = outcome_by segments disk hint planned (looks p s) f

    pub under : (x : Sector) → Contains (looks p s) x → Contains o.uses (cover_of naming x)
    under x c = ⊎_elim
        (λ held. held_used f.locks (map segment_lock hint) (cover_of naming x) (subst (λ v. PlanHolds v (cover_of naming x)) is held))
        (λ segment. at x segment)
        (sound.looks op h s tree naming n (when n) is_of.of hand x c)
      where
        at : (x : Sector) → IsHeldSegment h x → Contains o.uses (cover_of naming x)
        at (SegmentAt k) q = Contains-append_right (map lock_in f.locks) (map segment_lock hint) (lock.Segment k) (map_has segment_lock hint k (held_asked segments disk hint k q).0)
        at (InodeAt i) q = absurd q
        at (DirectoryAt k part) q = absurd q
        at (BytesAt k part) q = absurd q
        at (LargeAt g part) q = absurd q

    -- what is looked at is a part of what the disk has
    pub inside : (x : Sector) → Contains (looks p s) x → IsInside segments x
    inside x c = one_inside segments (looks p s) x (subst (λ k. AreInside k (looks p s)) is_of.count (sound.inside op h s tree naming n (when n) is_of.of hand)) c

    pub part : (x : Sector) → Contains (looks p s) x → IsPart x
    part x c = sound.parts op h s n (when n) x c

    change : (m : ℕ) (c : Change) → change_at o.changes m ≡ Some c → IsChange disk f.edits m c
    change m c e = change_of_edit disk f.edits m c e

    -- a change is of a sector that was looked at
    pub edit_seen : (m : ℕ) (c : Change) → change_at o.changes m ≡ Some c → (e : Edit) × Contains f.edits e × Contains (looks p s) (edited_at e) × (versioned (edited_at e) ≡ Some m) × (m ≡ number_of (edited_at e))
    edit_seen m c e =
        let r = (change m c e).edited in
        (r.edit, r.among, sound.looked op h s n (when n) f is r.edit r.among r.metadata, edited_versioned r.edit r.metadata ∙ ap Some r.here, sym r.here ∙ edit_number r.edit)

    of_look : (m : ℕ) → member m o.looked ≡ true → IsSeen segments naming o.uses m
    of_look m e = ⊎_elim
        (λ c. let r = filter_from versioned (looks p s) m c in record { sector = r.0; here = versioned_number r.0 m r.2; inside = inside r.0 r.1; part = part r.0 r.1; covered = under r.0 r.1 })
        (λ c. let r = has_map segment_number hint m c in
        record { sector = SegmentAt r.0; here = sym r.2; inside = tt; part = tt; covered = Contains-append_right (map lock_in f.locks) (map segment_lock hint) (lock.Segment r.0) (map_has segment_lock hint r.0 r.1) })
        (Contains-append_cases (filter_map versioned (looks p s)) (map segment_number hint) m (member_has m o.looked e))

    of_touch : (m : ℕ) → IsTrue (touched o m) → IsSeen segments naming o.uses m
    of_touch m e = go (change_at o.changes m) refl e
      where
        go : (q : Option Change) → change_at o.changes m ≡ q → IsTrue (if is_some q then true else member m o.looked) → IsSeen segments naming o.uses m
        go None i t = of_look m t
        go (Some c) i t = let r = edit_seen m c i in record { sector = edited_at r.0; here = r.4; inside = inside (edited_at r.0) r.2; part = part (edited_at r.0) r.2; covered = under (edited_at r.0) r.2 }

    of_change : (m : ℕ) (c : Change) → change_at o.changes m ≡ Some c → IsSeen segments naming o.alone m
    of_change m c e =
        let r = edit_seen m c e in
        record { sector = edited_at r.0; here = r.4; inside = inside (edited_at r.0) r.2; part = part (edited_at r.0) r.2; covered = sole_alone f.locks (cover_of naming (edited_at r.0)) (sound.edits op h s tree naming n (when n) f is_of.of hand is r.0 r.1) }

    of_move : (m : ℕ) (new : LockId) → o.moves m ≡ Some new → IsMoved segments naming o.alone m new
    of_move m new e =
        let r = moved_there segments f.edits m new e in
        let own = sound.owned op h s tree naming n (when n) f is_of.of hand is r.0 new r.2 in
        record { sector = r.0; here = r.1; old = sole_alone f.locks (cover_of naming r.0) own.0; comes = sole_alone f.locks new own.1 }

    -- a block that becomes a directory's moves
    block_moves : (k : ℕ) (u : Use) → first_said (use_said k) f.edits ≡ Some u → is_some (small_move k (first_said (taker_said k) f.edits) (Some u)) ≡ true
    block_moves k u e = go (is_unused u) refl
      where
        go : (b : Bool) → is_unused u ≡ b → is_some (small_move k (first_said (taker_said k) f.edits) (Some u)) ≡ true
        go true q = rw q refl
        go false q = let r = (sound.tidy op h s tree naming n (when n) f is_of.of hand is).gains k u e q in rw (q, r.1) refl

    of_claim : (m : ℕ) → o.claims m ≡ true → IsClaimed segments disk o m
    of_claim m e =
        let r = claimed_there segments disk hint f.edits m e in
        let free = hint_fresh segments disk hint r.block r.fresh in
        let here : m ≡ number_of (DirectoryAt r.block r.part) = sector_here segments m (DirectoryAt r.block r.part) r.here in
        let inside : r.part < 8 = part_inside segments m r.block r.part r.here in
        record {
          block = r.block;
          part = r.part;
          here = r.here;
          free = free.1;
          zeros = ap disk here ∙ is_of.clear r.block r.part free.0 inside free.1;
          moved = ap (λ o. is_some (option_and_then (moved_by f.edits) o)) r.here ∙ ap (λ u. is_some (small_move r.block (first_said (taker_said r.block) f.edits) u)) r.says ∙ block_moves r.block r.said r.says;
        }

    of_read : (m : ℕ) → member m o.reads ≡ true → IsSeen segments naming o.uses m
    of_read m e = let r = filter_from plain (looks p s) m (member_has m o.reads e) in record { sector = r.0; here = plain_number r.0 m r.2; inside = inside r.0 r.1; part = part r.0 r.1; covered = under r.0 r.1 }

    of_made : (m : ℕ) → IsSome (o.makes m) → IsUnder naming o.alone m
    of_made m e =
        let made : IsSome (fill_by (edits_in (run p s)) m) = made_some (λ shown. fill_by (edits_in (planned shown)) m) (fill_by (edits_in (run p s)) m) e in
        let r = sound.bytes op h s tree naming n (when n) f is_of.of hand is m (filled_is f.edits m (subst (λ v. IsSome (fill_by (edits_in v) m)) is made)) in
        record { sector = r.0; here = sym r.1; covered = sole_alone f.locks (cover_of naming r.0) r.2 }

    pub kept : KeepsGuards segments disk naming o
    kept = record {
      looked = of_touch;
      owned = of_change;
      based = λ m c e. let r = edit_seen m c e in (seen_is_looked (looks p s) hint (edited_at r.0) m r.2 r.3, (change m c e).version);
      moved = of_move;
      claimed = of_claim;
      read = of_read;
      made = of_made;
    }

pub sound_guarded : SoundPlansKeepGuards
sound_guarded planner sound segments when hint n op disk tree naming o is_of e =
    let r : IsOfAPlan planner segments when hint n op disk o = outcomes_of_plans planner segments when hint n op disk o e in
    subst (KeepsGuards segments disk naming) (sym r.comes.outcome) (kept planner sound segments when hint n op disk tree naming is_of r.comes.finish r.comes.is)

pub lines_guarded : LinePlansKeepGuards
lines_guarded segments when hint n op disk tree naming o is_of e = sound_guarded plan_of_line lines_are_sound segments when hint n op disk tree naming o is_of e
