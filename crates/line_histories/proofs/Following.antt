-- Covers, kinds, free sectors and those that files have written follow the sectors with versions, along every history.
use Rattle.std.proofs.Common.{ℕ, ◌≡◌, ◌≢◌, ◌<◌, ◌≤◌, ◌*◌, ⊎_elim, Bool, true, false, ◌&&◌, nat_lt, if◌then◌else◌, Option, Some, None, List, [], ◌∷◌, is_some, zero, suc, refl, sym, ◌∙◌, ap, ap₂, subst}
use Rattle.std.specs.Option.{option_and_then, option_map, unwrap_or}
use Rattle.std.proofs.lemmas.Bool.{and_parts, ltb-true}
use Rattle.frang_base.specs.declared.lock.LockId.{LockId}
use Rattle.frang_base.specs.Functions.{member}
use Rattle.frang_base.proofs.Basics.{by_keep}
use Rattle.tree_definitions.specs.Tree.{FileTree, node_at}
use Rattle.tree_definitions.specs.Touched.{shape_of}
use Rattle.sector_bytes.specs.Blocks.{Block}
use Rattle.sector_bytes.specs.SectorMaps.{value_at}
use Rattle.sector_bytes.specs.Replays.{change_at, forced}
use Rattle.sector_bytes.specs.Sectors.{Sectors}
use Rattle.sector_world.specs.HistoryBytes.{is_free, is_free_by}
use Rattle.sector_world.specs.Histories.{Fill, Commit, Item, logical, settled, survives, kept, Each}
use Rattle.sector_world.specs.Histories.Fill.{Written, Freed}
use Rattle.sector_world.specs.Histories.Item.{Done, Doubt}
use Rattle.sector_world.specs.Plans.{Outcome, outcome_of, Legal, IsByPlan}
use Rattle.sector_world.specs.Seen as seen
use Rattle.sector_world.proofs.HistoryLaws.{each_kept}
use Rattle.disk_definitions.specs.declared.region.Region.{Region}
use Rattle.disk_definitions.specs.declared.region.Region.TheVariants as region
use Rattle.disk_definitions.specs.Regions.{sector_of, region_of, is_in_range}
use Rattle.disk_definitions.proofs.RegionLaws.{region_read}
use Rattle.disk_definitions.specs.Store.{Store, Use}
use Rattle.disk_definitions.specs.Store.Use.{Fresh, Bytes}
use Rattle.disk_definitions.specs.Held.{state_in}
use Rattle.disk_definitions.specs.Picks.{is_in_state}
use Rattle.disk_definitions.specs.Edits.{Edit}
use Rattle.disk_definitions.specs.Edits.Edit.{SetInode, SetBit, SetUse, SetPlace, SetLarge, SetBytes, SetLargeBytes}
use Rattle.disk_definitions.specs.Ask.{Sector, InodeAt, DirectoryAt, SegmentAt, BytesAt, LargeAt, number_of, run, looks}
use Rattle.disk_definitions.specs.Meets.{IsOfTree, is_directory_use}
use Rattle.disk_definitions.specs.Written.{byte_writes, freed_sectors}
use Rattle.disk_definitions.specs.Covers.{cover_of}
use Rattle.disk_definitions.specs.Moves.{first_said, use_said, large_said, moved_by}
use Rattle.plan_laws.proofs.Moving.{covers_move}
use Rattle.plan_fit.proofs.Kept.{in_small, in_large}
use Rattle.plan_fit.proofs.LaidOver.{Misses}
use Rattle.plan_fit.proofs.RecordLaws.{NotTo, misses}
use Rattle.disk_definitions.specs.Numbered.{sector_in, sector_at}
use Rattle.line_histories.specs.LinePlans.{store_on, store_showing, hand_on, outcome_by, held_of, fill_by, becomes_directory, is_claimed, sector_plan}
use Rattle.line_histories.specs.Outcomes.{IsOfAPlan, fill_shape}
use Rattle.line_histories.proofs.LinesSound.{lines_are_sound}
use Rattle.line_histories.proofs.Outcomes.{outcomes_of_plans, makes_of_edits}
use Rattle.disk_definitions.specs.Lines.{plan_of_line}
use Rattle.line_histories.proofs.Guarded.{sector_here}
use Rattle.sector_world.specs.Claims.{left}
use Rattle.sector_world.specs.World.{World}
use Rattle.sector_world.specs.Trees.{Distinct, tree_of}
use Rattle.sector_world.proofs.Holding.{holds_good}
use Rattle.sector_world.proofs.Left.{by_phase}
use Rattle.line_histories.specs.Following.{store_after, CoversFollow, is_versioned, KindsFollow, IsUnused, FreeFollow, FilledFollow, Follows}
use Rattle.line_histories.specs.Laws.{AllFollow, AllFollowInWorlds}
use Rattle.line_histories.specs.Standing.{StandsNumbered}
use Rattle.line_histories.specs.Trees.{AreTimes, MayNumber, NumberedTree, performed_numbered, MayTake}
use Rattle.line_histories.specs.Files.{HoldsBytes}
use Rattle.line_histories.proofs.Filled.{IsInUse, file_in_use, not_given, written_value}
use Rattle.line_histories.proofs.Given.{small_given, large_given, fills_back, fills_none}
use Rattle.line_histories.proofs.Laid.{with_changes}
use Rattle.line_histories.proofs.Runs.{numbered, take_distinct, both}
use Rattle.line_histories.proofs.Steps.{IsStep, line_step}

-- ---- sectors by their numbers

-- where a sector with a number lies
abbrev IsInside : ℕ → Sector → Type 0
IsInside segments (DirectoryAt k part) = (k < 1024 * segments) × (part < 8)
IsInside segments (LargeAt g part) = (g < segments) × (part < 2048)
IsInside segments (BytesAt k part) = ⊥
IsInside segments _ = Unit {0}

inside_of : (segments number : ℕ) (x : Sector) → sector_at segments number ≡ Some x → IsInside segments x
inside_of segments number x e = go (region_of segments number) refl e
  where
    small : (k part : ℕ) → is_in_range segments (region.Small k part) ≡ true → (k < 1024 * segments) × (part < 8)
    small k part h = let p = and_parts (nat_lt k (1024 * segments)) (nat_lt part 8) h in (ltb-true k (1024 * segments) p.0, ltb-true part 8 p.1)

    large : (g part : ℕ) → is_in_range segments (region.Large g part) ≡ true → (g < segments) × (part < 2048)
    large g part h = let p = and_parts (nat_lt g segments) (nat_lt part 2048) h in (ltb-true g segments p.0, ltb-true part 2048 p.1)

    go : (o : Option Region) → region_of segments number ≡ o → sector_in o ≡ Some x → IsInside segments x
    go None q i = absurd (cc)
    go (Some region.Param) q i = absurd (cc)
    go (Some (region.Log server slot)) q i = absurd (cc)
    go (Some (region.Segment k)) q i = let z : SegmentAt k ≡ x = cc in subst (IsInside segments) z tt
    go (Some (region.Inode j)) q i = let z : InodeAt j ≡ x = cc in subst (IsInside segments) z tt
    go (Some (region.Small k part)) q i = let z : DirectoryAt k part ≡ x = cc in subst (IsInside segments) z (small k part (region_read segments number (region.Small k part) q).1)
    go (Some (region.Large g part)) q i = let z : LargeAt g part ≡ x = cc in subst (IsInside segments) z (large g part (region_read segments number (region.Large g part) q).1)

-- ---- no bytes are written where nobody has a block

not_fresh : (end : Store) (k p : ℕ) → end.use_of k ≡ Fresh → (e : Edit) → NotTo false (region.Small k p) end e
not_fresh end k p d (SetInode i x dated) f u q = cc
not_fresh end k p d (SetBit i b) f u q = cc
not_fresh end k p d (SetUse i x) f u q = cc
not_fresh end k p d (SetPlace i r o) f u q = absurd cc
not_fresh end k p d (SetLarge g b) f u q = cc
not_fresh end k p d (SetBytes i part bytes) f u q = let same : i ≡ k = cc in let t : Fresh ≡ Bytes = sym d ∙ sym (ap end.use_of same) ∙ u in cc
not_fresh end k p d (SetLargeBytes g part bytes) f u q = cc

not_large : (end : Store) (g p : ℕ) → end.large_bit g ≡ false → (e : Edit) → NotTo false (region.Large g p) end e
not_large end g p d (SetInode i x dated) f u q = cc
not_large end g p d (SetBit i b) f u q = cc
not_large end g p d (SetUse i x) f u q = cc
not_large end g p d (SetPlace i r o) f u q = absurd cc
not_large end g p d (SetLarge i b) f u q = cc
not_large end g p d (SetBytes i part bytes) f u q = cc
not_large end g p d (SetLargeBytes i part bytes) f u q = let same : i ≡ g = cc in let t : false ≡ true = sym d ∙ sym (ap end.large_bit same) ∙ u in cc

free_shape : (o : Option Fill) (older : Bool) → is_free_by o older ≡ is_free_by (fill_shape o) older
free_shape None older = refl
free_shape (Some (Written block)) older = refl
free_shape (Some Freed) older = refl

moved_is : (o : Option LockId) (lock : LockId) → seen.moved o lock ≡ unwrap_or o lock
moved_is None lock = refl
moved_is (Some new) lock = refl

module _ (segments : ℕ) (when : ℕ → ℕ) (times : AreTimes when) (opening : ℕ → Block) (start : NumberedTree) (begins : StandsNumbered segments opening start) where
  -- ---- one operation more
  module _ (c : Commit) (h : List Item) (l : Legal (sector_plan segments when) opening (Done c ∷ h)) (d : Distinct MayTake start (Done c ∷ h)) where
    abbrev pub disk : Sectors
    disk = logical opening h

    abbrev pub state : NumberedTree
    state = tree_of (performed_numbered when) start h

    pub stands : StandsNumbered segments disk state
    stands = (both segments when times opening start begins h l.1 d.2).0

    may : MayTake c.op state
    may = (both segments when times opening start begins h l.1 d.2).1 c.op d.1 d.0

    pub fin : IsOfAPlan plan_of_line segments when c.hint c.op c.asked disk (outcome_of c)
    fin = outcomes_of_plans plan_of_line segments when c.hint c.op c.asked disk (outcome_of c) l.0

    abbrev pub outcome : Outcome
    outcome = outcome_by segments disk c.hint (λ shown. run (plan_of_line (hand_on segments disk c.hint) c.op (when c.op) c.asked) (store_showing shown segments disk))
        (looks (plan_of_line (hand_on segments disk c.hint) c.op (when c.op) c.asked) (store_on segments disk)) fin.comes.finish

    abbrev pub edits : List Edit
    edits = fin.comes.finish.edits

    abbrev pub next : Sectors
    next = with_changes disk edits

    pub step : IsStep segments disk next c.hint (shape_of state.tree) stands.stands.below.stands.naming edits
    step = line_step segments disk state.tree stands.stands c.hint c.op (when c.op) c.asked fin.allowed may.new may.small (times c.op) fin.comes.finish fin.comes.is

    pub store_is : store_after segments opening (Done c ∷ h) ≡ store_on segments next
    store_is = ap (λ (q : Outcome). store_on segments (λ s. forced (change_at q.changes s) (disk s))) fin.comes.outcome

    pub few : segments ≤ 64
    few = subst (λ k. k ≤ 64) stands.stands.as_many step.of.few

    -- ---- covers
    covers_on : (home : ℕ → LockId) → CoversFollow segments opening home h → CoversFollow segments opening home (Done c ∷ h)
    covers_on home ih tree naming is number x at =
        let of : IsOfTree (store_on segments next) tree naming = subst (λ s. IsOfTree s tree naming) store_is is in
        let moves : c.moves number ≡ moved_by edits x = ap (λ (q : Outcome). q.moves number) fin.comes.outcome ∙ ap (option_and_then (moved_by edits)) at in
        ap₂ seen.moved moves (ih (shape_of state.tree) stands.stands.below.stands.naming step.of number x at) ∙ moved_is (moved_by edits x) (cover_of stands.stands.below.stands.naming x)
        ∙ sym (covers_move (store_on segments disk) (store_on segments next) (node_at (shape_of state.tree)) (node_at tree) stands.stands.below.stands.naming naming edits step.of.pictures of.pictures step.tidy x)

    -- ---- kinds
    abbrev fresh : ℕ → Bool
    fresh k = is_in_state 0 (state_in (held_of segments disk c.hint) k)

    kind_of_block : (k part : ℕ) → (if is_claimed (held_of segments disk c.hint) edits (Some (DirectoryAt k part)) then true else is_directory_use ((store_on segments disk).use_of k)) ≡ is_directory_use ((store_on segments next).use_of k)
    kind_of_block k part = go (first_said (use_said k) edits) refl
      where
        was : Bool
        was = is_directory_use ((store_on segments disk).use_of k)

        is : Bool
        is = is_directory_use ((store_on segments next).use_of k)

        said : (u : Use) → first_said (use_said k) edits ≡ Some u → is ≡ is_directory_use u
        said u q = ap is_directory_use (step.tidy.uses k ∙ ap (λ o. unwrap_or o ((store_on segments disk).use_of k)) q)

        becomes : (v z w : Bool) → is ≡ v → fresh k ≡ z → was ≡ w → (if v && z then true else w) ≡ v
        becomes true true w e f g = refl
        becomes true false true e f g = refl
        becomes true false false e f g = absurd (⊎_elim (λ b. let t : true ≡ false = sym b ∙ g in cc) (λ b. let t : true ≡ false = sym b ∙ f in cc) (step.come k e))
        becomes false z true e f g = absurd (let t : true ≡ false = sym (step.stay k g) ∙ e in cc)
        becomes false z false e f g = refl

        go : (o : Option Use) → first_said (use_said k) edits ≡ o → (if becomes_directory o && fresh k then true else was) ≡ is
        go None q = ap is_directory_use (sym (step.tidy.uses k ∙ ap (λ o. unwrap_or o ((store_on segments disk).use_of k)) q))
        go (Some u) q = becomes (is_directory_use u) (fresh k) was (said u q) refl refl ∙ sym (said u q)

    kind_on : (x : Sector) → IsInside segments x → (if is_claimed (held_of segments disk c.hint) edits (Some x) then true else is_versioned (store_on segments disk) x) ≡ is_versioned (store_on segments next) x
    kind_on (InodeAt i) inside = refl
    kind_on (SegmentAt k) inside = refl
    kind_on (DirectoryAt k part) inside = kind_of_block k part
    kind_on (BytesAt k part) inside = absurd inside
    kind_on (LargeAt g part) inside = refl

    pub kinds_on : (logged : ℕ → Bool) → KindsFollow segments opening logged h → KindsFollow segments opening logged (Done c ∷ h)
    kinds_on logged ih number x at =
        let claims : c.claims number ≡ is_claimed (held_of segments disk c.hint) edits (Some x) = ap (λ (q : Outcome). q.claims number) fin.comes.outcome ∙ ap (is_claimed (held_of segments disk c.hint) edits) at in
        ap₂ (λ a b. if a then true else b) claims (ih number x at) ∙ kind_on x (inside_of segments number x at) ∙ ap (λ s. is_versioned s x) (sym store_is)

    -- ---- free sectors
    -- what isn't given back and nobody has, nobody had, and no bytes are written there
    unused_small : (k part : ℕ) → part < 8 → (store_on segments next).use_of k ≡ Fresh → member (sector_of (region.Small k part)) (freed_sectors edits) ≡ false → (store_on segments disk).use_of k ≡ Fresh
    unused_small k part l free none = go (first_said (use_said k) edits) refl
      where
        go : (o : Option Use) → first_said (use_said k) edits ≡ o → (store_on segments disk).use_of k ≡ Fresh
        go None q = sym (step.tidy.uses k ∙ ap (λ o. unwrap_or o ((store_on segments disk).use_of k)) q) ∙ free
        go (Some u) q =
            let same : u ≡ Fresh = sym (step.tidy.uses k ∙ ap (λ o. unwrap_or o ((store_on segments disk).use_of k)) q) ∙ free in
            let back : true ≡ false = sym (small_given edits k part (q ∙ ap (λ v. Some v) same) l) ∙ none in
            absurd (cc)

    unused_large : (g part : ℕ) → part < 2048 → (store_on segments next).large_bit g ≡ false → member (sector_of (region.Large g part)) (freed_sectors edits) ≡ false → (store_on segments disk).large_bit g ≡ false
    unused_large g part l free none = go (first_said (large_said g) edits) refl
      where
        go : (o : Option Bool) → first_said (large_said g) edits ≡ o → (store_on segments disk).large_bit g ≡ false
        go None q = sym (step.tidy.larges g ∙ ap (λ o. unwrap_or o ((store_on segments disk).large_bit g)) q) ∙ free
        go (Some b) q =
            let same : b ≡ false = sym (step.tidy.larges g ∙ ap (λ o. unwrap_or o ((store_on segments disk).large_bit g)) q) ∙ free in
            let back : true ≡ false = sym (large_given edits g part (q ∙ ap (λ v. Some v) same) l) ∙ none in
            absurd (cc)

    unused_on : (x : Sector) → IsInside segments x → IsUnused (store_on segments next) x → member (number_of x) (freed_sectors edits) ≡ false → Misses false (number_of x) edits × IsUnused (store_on segments disk) x
    unused_on (DirectoryAt k part) inside free none = (
      misses segments (store_on segments next) false (region.Small k part) edits few (in_small segments k part inside.0 inside.1) step.fit (not_fresh (store_on segments next) k part free),
      unused_small k part inside.1 free none,
    )
    unused_on (LargeAt g part) inside free none = (
      misses segments (store_on segments next) false (region.Large g part) edits few (in_large segments g part inside.0 inside.1) step.fit (not_large (store_on segments next) g part free),
      unused_large g part inside.1 free none,
    )
    unused_on (InodeAt i) inside free none = absurd free
    unused_on (SegmentAt k) inside free none = absurd free
    unused_on (BytesAt k part) inside free none = absurd free

    free_on : (first : ℕ → Option Block) → IsByPlan c → FreeFollow segments opening first h → FreeFollow segments opening first (Done c ∷ h)
    free_on first by ih number x at unused = go (member number (freed_sectors edits)) refl
      where
        older : Bool
        older = is_free first h number

        -- it goes by what the edits make, whatever was read
        made : is_free_by (c.writes number) older ≡ is_free_by (fill_shape (fill_by edits number)) older
        made = free_shape (c.writes number) older ∙ ap (λ o. is_free_by o older)
            (ap fill_shape (by.made number) ∙ makes_of_edits plan_of_line lines_are_sound segments when c.hint c.op c.asked disk (outcome_of c) fin number (c.shown number))

        free : IsUnused (store_on segments next) x
        free = subst (λ s. IsUnused s x) store_is unused

        go : (b : Bool) → member number (freed_sectors edits) ≡ b → is_free_by (c.writes number) older ≡ true
        go true e = made ∙ ap (λ o. is_free_by (fill_shape o) older) (fills_back edits number e)
        go false e =
            let here : number ≡ number_of x = sector_here segments number x at in
            let none : member (number_of x) (freed_sectors edits) ≡ false = subst (λ s. member s (freed_sectors edits) ≡ false) here e in
            let before = unused_on x (inside_of segments number x at) free none in
            let missed : Misses false number edits = subst (λ s. Misses false s edits) (sym here) before.0 in
            made ∙ ap (λ o. is_free_by (fill_shape o) older) (fills_none edits number e missed) ∙ ih number x at before.1

    -- ---- written sectors
    stands_then : StandsNumbered segments (logical opening (Done c ∷ h)) (tree_of (performed_numbered when) start (Done c ∷ h))
    stands_then = (both segments when times opening start begins (Done c ∷ h) l d).0

    in_use_then : (x : Sector) → HoldsBytes (store_after segments opening (Done c ∷ h)) x → IsInUse segments (store_after segments opening (Done c ∷ h)) x
    in_use_then = file_in_use segments (logical opening (Done c ∷ h)) (tree_of (performed_numbered when) start (Done c ∷ h)).tree stands_then.stands

    filled_on : (first : ℕ → Option Block) → IsByPlan c → FilledFollow segments opening first h → FilledFollow segments opening first (Done c ∷ h)
    filled_on first by ih x holds = made ∙ ap (λ o. is_free_by (fill_shape o) older) fills ∙ go (value_at (byte_writes edits) number) refl
      where
        number : ℕ
        number = number_of x

        older : Bool
        older = is_free first h number

        made : is_free_by (c.writes number) older ≡ is_free_by (fill_shape (fill_by edits number)) older
        made = free_shape (c.writes number) older ∙ ap (λ o. is_free_by o older)
            (ap fill_shape (by.made number) ∙ makes_of_edits plan_of_line lines_are_sound segments when c.hint c.op c.asked disk (outcome_of c) fin number (c.shown number))

        kept : member number (freed_sectors edits) ≡ false
        kept = not_given segments few (store_on segments next) edits step.fit step.small_back step.large_back x (subst (λ s. IsInUse segments s x) store_is (in_use_then x holds))

        fills : fill_by edits number ≡ option_map Written (value_at (byte_writes edits) number)
        fills = ap (λ (b : Bool). if b then Some Freed else option_map Written (value_at (byte_writes edits) number)) kept

        go : (o : Option Block) → value_at (byte_writes edits) number ≡ o → is_free_by (fill_shape (option_map Written o)) older ≡ false
        go (Some bytes) q = refl
        go None q = ⊎_elim (λ w. absurd (let z : true ≡ false = sym (written_value edits x w) ∙ ap is_some q in cc)) (λ had. ih x had)
            (step.filled x (subst (λ s. HoldsBytes s x) store_is holds))

  -- ---- all of them
  module _ (home : ℕ → LockId) (logged : ℕ → Bool) (first : ℕ → Option Block) where
    along : (h : List Item) → Legal (sector_plan segments when) opening h → Distinct MayTake start h → Each IsByPlan h → Follows segments opening home logged first [] → Follows segments opening home logged first h
    along [] l d by f = f
    along (Doubt m ∷ h) l d by f = let r = along h l d by f in record { covers = r.covers; kinds = r.kinds; free = r.free; filled = r.filled }
    along (Done c ∷ h) l d by f =
        let r = along h l.1 d.2 by.1 f in
        record { covers = covers_on c h l d home r.covers; kinds = kinds_on c h l d logged r.kinds; free = free_on c h l d first by.0 r.free; filled = filled_on c h l d first by.0 r.filled }

pub all_follow : AllFollow
all_follow segments when opening first_tree numbers h home logged first times begins legal distinct by f =
    along segments when times opening (numbered first_tree numbers) begins home logged first h legal (take_distinct when first_tree numbers h distinct) by f

-- ---- worlds

-- what removals leave has numbers of its own
pub distinct_kept : (numbers : List ℕ) (tree : FileTree) (keep : Commit → Bool) (h : List Item) → Distinct (MayNumber numbers) tree h → Distinct (MayNumber numbers) tree (kept keep h)
distinct_kept numbers tree keep [] d = tt
distinct_kept numbers tree keep (Done c ∷ h) d =
    by_keep (Distinct (MayNumber numbers) tree) (keep c) (Done c) (kept keep h)
    (λ e. (d.0, each_kept (λ x. x.op ≢ c.op) keep h d.1, distinct_kept numbers tree keep h d.2))
    (λ e. distinct_kept numbers tree keep h d.2)
distinct_kept numbers tree keep (Doubt m ∷ h) d = distinct_kept numbers tree keep h d

pub distinct_left : (numbers : List ℕ) (tree : FileTree) (w : World) → Distinct (MayNumber numbers) tree (settled w.history) → (n : ℕ) → Distinct (MayNumber numbers) tree (left w n)
distinct_left numbers tree w d zero = d
distinct_left numbers tree w d (suc n) =
    by_phase (Distinct (MayNumber numbers) tree) (w.phase n) n (w.durable n) (w.synced n) (left w n)
    (λ off. distinct_left numbers tree w d n) (distinct_kept numbers tree (survives n (w.durable n)) (left w n) (distinct_left numbers tree w d n))

pub all_follow_in_worlds : AllFollowInWorlds
all_follow_in_worlds segments when first_tree numbers w times begins legal distinct good f =
    let holds = holds_good w good in (
      all_follow segments when w.opening first_tree numbers (settled w.history) w.home w.logged w.first times begins legal.live distinct holds.by_plan f,
      all_follow segments when w.opening first_tree numbers (left w w.servers) w.home w.logged w.first times begins legal.left (distinct_left numbers first_tree w distinct w.servers) holds.left_by_plan f,
    )
