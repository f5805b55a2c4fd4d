-- What the core makes of a finished line is its operation: its record and the covers that it moves are those of the outcome, and it sets each sector of bytes once, as what it reads there is cached.
use Rattle.std.proofs.Common.{◌≡◌, ◌<◌, ◌≤◌, ◌^◌, ◌⊎◌, ℕ, Bool, true, false, if◌then◌else◌, is_some, List, [], ◌∷◌, Option, Some, None, nat_eq, refl, sym, ap, ◌∙◌, subst, inl, inr, arith}
use Rattle.std.proofs.lemmas.Bool.Decides.{nat_tests}
use Rattle.std.proofs.lemmas.Bool.{eqb-true, false≢true}
use Rattle.std.specs.BTreeMap.{is_at}
use Rattle.std.specs.List.{Contains, filter_map}
use Rattle.std.specs.Map.{keys_of}
use Rattle.std.specs.Option.{option_and_then, option_map, option_or, unwrap_or}
use Rattle.std.specs.Ordering.{nat_cmp}
use Rattle.frang_base.specs.Functions.{member}
use Rattle.frang_base.specs.declared.bitmap.Bitmap.{Bitmap}
use Rattle.frang_base.specs.declared.change.Change.{Change}
use Rattle.frang_base.specs.declared.lock.LockId.{LockId}
use Rattle.lock_definitions.specs.Locks.{Locks}
use Rattle.sector_bytes.specs.Blocks.{Block}
use Rattle.sector_bytes.specs.Replays.{change_at}
use Rattle.sector_bytes.specs.SectorMaps.{Ascend, value_at}
use Rattle.sector_bytes.specs.Sectors.{Sectors}
use Rattle.cache_definitions.specs.declared.dirt.Dirt.{Dirt}
use Rattle.cache_definitions.specs.Caches.{Cache}
use Rattle.set_definitions.specs.Sets.{LockSet, segments_in}
use Rattle.tree_definitions.specs.Touched.{shape_of}
use Rattle.tree_definitions.specs.Tree.{FileTree}
use Rattle.tree_definitions.specs.WellFormed.{IsNew}
use Rattle.disk_definitions.specs.declared.region.Region.TheVariants as region
use Rattle.disk_definitions.specs.Allowed.{IsAllowed}
use Rattle.disk_definitions.specs.Ask.{Ask, AtHand, InodeAt, DirectoryAt, SegmentAt, BytesAt, LargeAt, Sector, number_of}
use Rattle.disk_definitions.specs.Bitmaps.{bitmap_in}
use Rattle.disk_definitions.specs.Covers as by_naming
use Rattle.disk_definitions.specs.Edits.{Edit}
use Rattle.disk_definitions.specs.Edits.Edit.{SetInode, SetBit, SetUse, SetPlace, SetLarge, SetBytes, SetLargeBytes}
use Rattle.disk_definitions.specs.FitEdits.{IsFitEdit}
use Rattle.disk_definitions.specs.Held.{bitmap_of}
use Rattle.disk_definitions.specs.LookedAt.{looked_nodes}
use Rattle.disk_definitions.specs.Missing.{is_at_hand}
use Rattle.disk_definitions.specs.Moves.{moved_by}
use Rattle.disk_definitions.specs.Naming.{Naming}
use Rattle.disk_definitions.specs.Numbered.{moves_of}
use Rattle.disk_definitions.specs.OnDisk.{AreOfDisk}
use Rattle.disk_definitions.specs.Plans.{Plan}
use Rattle.disk_definitions.specs.Regions.{sector_of}
use Rattle.disk_definitions.specs.Written.{at_hand, byte_writes, changes_of, edit_sector, edited_block, freed_sectors, is_held, is_metadata, sectors_at_hand}
use Rattle.plan_laws.specs.Looked.{edited_at}
use Rattle.plan_laws.proofs.Covering.{has_head, has_more}
use Rattle.line_locks.specs.Lines.{SetCoversAreTrue}
use Rattle.line_locks.proofs.Numbers.{numbers_tell}
use Rattle.line_sectors.proofs.AtHand.{edits_lie, once_here}
use Rattle.line_histories.specs.Done.{IsThere}
use Rattle.line_histories.specs.LinePlans.{fill_by}
use Rattle.line_histories.specs.Places.{shown_of}
use Rattle.line_histories.proofs.Owned.{placed_here}
use Rattle.core_definitions.specs.LineEffects.{change_in}
use Rattle.core_definitions.specs.Plans as plans
use Rattle.core_definitions.specs.Plans.{BytesSet, Sight, bitmap_at, nodes_looked_at, place_of, record_of, set_by}
use Rattle.core_definitions.specs.Servers.{Server}
use Rattle.core_definitions.specs.Settings.{Setting}
use Rattle.sector_world.specs.Histories.{Commit}
use Rattle.sector_world.specs.Histories.Fill.{Written, Freed}
use Rattle.sector_world.specs.Plans.{Outcome, made_of}
use Rattle.sector_world.specs.Seen.{moved}
use Rattle.sector_world.specs.World.{World, Page, cover, has_version}
use Rattle.core_world.specs.Ties.{AreCached, IsCachedAs, IsPageOf}
use Rattle.core_world.specs.Sights.{AreStood}
use Rattle.core_commits.specs.Commits.{IsDoneAs, block_in, fill_of, last_set}
use Rattle.core_commits.specs.Finished.{IsOutcomeNow, number_in, time_of}
use Rattle.core_commits.specs.Operations.{operation_in}
use Rattle.core_commits.specs.Stages.{IsFinished, nodes_of_line, program_in, sight_in}
use Rattle.core_commits.specs.Standing.{AreSegmentsOf, AreWhole, StandsWhole, whole_disk}
use Rattle.core_commits.proofs.Operating.{lines_read_bytes}
use Rattle.core_commits.proofs.Sighting.{IsUsed, held_from, of_disk, used_from}

-- ---- the record

recorded : (n : ℕ) (changes : List Change) (s : ℕ) → change_in (record_of n changes) s ≡ change_at changes s
recorded n [] s = refl
recorded n (change ∷ changes) s = refl

-- ---- the bytes that are set

is_at_is : (s t : ℕ) → is_at (nat_cmp s) t ≡ nat_eq t s
is_at_is s t = grind (arith, nat_tests)

module _ (nodes : List ℕ) (sight : Sight) (all : List Edit) where
  -- what an edit of bytes sets, with its cover
  abbrev set_with : Edit → Sector → BytesSet
  set_with e place = record { sector = number_of place; block = edited_block [] 0 e; cover = unwrap_or (moved_by all place) (plans.cover_of nodes sight place) }

  -- the first that is written in a sector, and the last that is set there
  record AreSet (es : List Edit) (s : ℕ) : Type 0 where
    first : Edit
    first_among : Contains es first
    first_plain : is_metadata first ≡ false
    first_here : edit_sector first ≡ s
    first_is : value_at (byte_writes es) s ≡ Some (edited_block [] 0 first)
    last : Edit
    last_among : Contains es last
    last_plain : is_metadata last ≡ false
    last_here : edit_sector last ≡ s
    last_is : last_set (filter_map (set_by nodes sight all) es) s ≡ Some (set_with last (edited_at last))

  record NoneSet (es : List Edit) (s : ℕ) : Type 0 where
    written : value_at (byte_writes es) s ≡ None
    set : last_set (filter_map (set_by nodes sight all) es) s ≡ None

  longer : (e : Edit) (es : List Edit) (s : ℕ) → value_at (byte_writes (e ∷ es)) s ≡ value_at (byte_writes es) s →
      last_set (filter_map (set_by nodes sight all) (e ∷ es)) s ≡ last_set (filter_map (set_by nodes sight all) es) s → NoneSet es s ⊎ AreSet es s → NoneSet (e ∷ es) s ⊎ AreSet (e ∷ es) s
  longer e es s p q (inl n) = inl (record { written = p ∙ n.written; set = q ∙ n.set })
  longer e es s p q (inr a) = inr (record {
    first = a.first;
    first_among = has_more e a.first es a.first_among;
    first_plain = a.first_plain;
    first_here = a.first_here;
    first_is = p ∙ a.first_is;
    last = a.last;
    last_among = has_more e a.last es a.last_among;
    last_plain = a.last_plain;
    last_here = a.last_here;
    last_is = q ∙ a.last_is;
  })

  -- an edit of bytes before others
  module _ (e : Edit) (es : List Edit) (s : ℕ) (plain : is_metadata e ≡ false) (same : number_of (edited_at e) ≡ edit_sector e)
      (writes : value_at (byte_writes (e ∷ es)) s ≡ (if is_at (nat_cmp s) (edit_sector e) then Some (edited_block [] 0 e) else value_at (byte_writes es) s))
      (sets : last_set (filter_map (set_by nodes sight all) (e ∷ es)) s
      ≡ option_or (last_set (filter_map (set_by nodes sight all) es) s) (if nat_eq (number_of (edited_at e)) s then Some (set_with e (edited_at e)) else None)) where
    or_none : (o : Option BytesSet) → option_or o None ≡ o
    or_none None = refl
    or_none (Some x) = refl

    written_here : nat_eq (edit_sector e) s ≡ true → value_at (byte_writes (e ∷ es)) s ≡ Some (edited_block [] 0 e)
    written_here i = writes ∙ ap (λ (b : Bool). if b then Some (edited_block [] 0 e) else value_at (byte_writes es) s) (is_at_is s (edit_sector e) ∙ i)

    set_here : nat_eq (edit_sector e) s ≡ true → last_set (filter_map (set_by nodes sight all) (e ∷ es)) s ≡ option_or (last_set (filter_map (set_by nodes sight all) es) s) (Some (set_with e (edited_at e)))
    set_here i = sets ∙ ap (λ (b : Bool). option_or (last_set (filter_map (set_by nodes sight all) es) s) (if b then Some (set_with e (edited_at e)) else None)) (ap (λ m. nat_eq m s) same ∙ i)

    before : NoneSet es s ⊎ AreSet es s → NoneSet (e ∷ es) s ⊎ AreSet (e ∷ es) s
    before rest = go (nat_eq (edit_sector e) s) refl rest
      where
        go : (b : Bool) → nat_eq (edit_sector e) s ≡ b → NoneSet es s ⊎ AreSet es s → NoneSet (e ∷ es) s ⊎ AreSet (e ∷ es) s
        go false i rest = longer e es s (writes ∙ ap (λ (b : Bool). if b then Some (edited_block [] 0 e) else value_at (byte_writes es) s) (is_at_is s (edit_sector e) ∙ i))
            (sets ∙ ap (λ (b : Bool). option_or (last_set (filter_map (set_by nodes sight all) es) s) (if b then Some (set_with e (edited_at e)) else None)) (ap (λ m. nat_eq m s) same ∙ i)
            ∙ or_none (last_set (filter_map (set_by nodes sight all) es) s)) rest
        go true i (inl n) = inr (record {
          first = e;
          first_among = has_head e es;
          first_plain = plain;
          first_here = eqb-true (edit_sector e) s i;
          first_is = written_here i;
          last = e;
          last_among = has_head e es;
          last_plain = plain;
          last_here = eqb-true (edit_sector e) s i;
          last_is = set_here i ∙ ap (λ o. option_or o (Some (set_with e (edited_at e)))) n.set;
        })
        go true i (inr a) = inr (record {
          first = e;
          first_among = has_head e es;
          first_plain = plain;
          first_here = eqb-true (edit_sector e) s i;
          first_is = written_here i;
          last = a.last;
          last_among = has_more e a.last es a.last_among;
          last_plain = a.last_plain;
          last_here = a.last_here;
          last_is = set_here i ∙ ap (λ o. option_or o (Some (set_with e (edited_at e)))) a.last_is;
        })

  all_set : (es : List Edit) (s : ℕ) → NoneSet es s ⊎ AreSet es s
  all_set [] s = inl (record { written = refl; set = refl })
  all_set (SetInode i x dated ∷ es) s = longer (SetInode i x dated) es s refl refl (all_set es s)
  all_set (SetBit i b ∷ es) s = longer (SetBit i b) es s refl refl (all_set es s)
  all_set (SetUse k u ∷ es) s = longer (SetUse k u) es s refl refl (all_set es s)
  all_set (SetPlace k q x ∷ es) s = longer (SetPlace k q x) es s refl refl (all_set es s)
  all_set (SetLarge g b ∷ es) s = longer (SetLarge g b) es s refl refl (all_set es s)
  all_set (SetBytes k part bytes ∷ es) s = before (SetBytes k part bytes) es s refl refl refl refl (all_set es s)
  all_set (SetLargeBytes g part bytes ∷ es) s = before (SetLargeBytes g part bytes) es s refl refl refl refl (all_set es s)

  -- where a sector is set once, what is written there is what is set
  once_set : ((d g : Edit) → Contains all d → Contains all g → is_metadata d ≡ false → is_metadata g ≡ false → edit_sector d ≡ edit_sector g → d ≡ g) → (s : ℕ) →
      fill_by all s ≡ fill_of (member s (freed_sectors all)) (last_set (filter_map (set_by nodes sight all) all) s)
  once_set once s = go (member s (freed_sectors all)) (all_set all s)
    where
      go : (b : Bool) → NoneSet all s ⊎ AreSet all s → (if b then Some Freed else option_map (λ bytes. Written bytes) (value_at (byte_writes all) s)) ≡ fill_of b (last_set (filter_map (set_by nodes sight all) all) s)
      go true x = refl
      go false (inl n) = ap (option_map (λ bytes. Written bytes)) n.written ∙ sym (ap (fill_of false) n.set)
      go false (inr a) =
          let same : a.first ≡ a.last = once a.first a.last a.first_among a.last_among a.first_plain a.last_plain (a.first_here ∙ sym a.last_here) in
          ap (option_map (λ bytes. Written bytes)) a.first_is ∙ ap (λ e. Some (Written (edited_block [] 0 e))) same ∙ sym (ap (fill_of false) a.last_is)

-- ---- covers

-- where the edits move the sector of an edit of bytes, by its number
moved_same : (edits : List Edit) (segments : ℕ) (e : Edit) → is_metadata e ≡ false → segments ≤ 64 → IsFitEdit segments e → moved_by edits (edited_at e) ≡ moves_of segments edits (edit_sector e)
moved_same edits segments (SetInode i x dated) plain few fit = absurd (cc)
moved_same edits segments (SetBit i b) plain few fit = absurd (cc)
moved_same edits segments (SetUse k u) plain few fit = absurd (cc)
moved_same edits segments (SetPlace k q x) plain few fit = absurd (cc)
moved_same edits segments (SetLarge g b) plain few fit = absurd (cc)
moved_same edits segments (SetBytes k part bytes) plain few fit = sym (ap (option_and_then (moved_by edits)) (placed_here segments few (SetBytes k part bytes) fit))
moved_same edits segments (SetLargeBytes g part bytes) plain few fit = sym (ap (option_and_then (moved_by edits)) (placed_here segments few (SetLargeBytes g part bytes) fit))

-- the cover of its sector
cover_same : (segments : ℕ) (w : World) (tree : FileTree) (on : StandsWhole segments w tree) → segments ≤ 64 → (e : Edit) → is_metadata e ≡ false → IsFitEdit segments e →
    cover w (edit_sector e) ≡ by_naming.cover_of on.now.stands.naming (edited_at e)
cover_same segments w tree on few (SetInode i x dated) plain fit = absurd (cc)
cover_same segments w tree on few (SetBit i b) plain fit = absurd (cc)
cover_same segments w tree on few (SetUse k u) plain fit = absurd (cc)
cover_same segments w tree on few (SetPlace k q x) plain fit = absurd (cc)
cover_same segments w tree on few (SetLarge g b) plain fit = absurd (cc)
cover_same segments w tree on few (SetBytes k part bytes) plain fit = on.follows.covers _ on.now.stands.naming on.logical.of (edit_sector (SetBytes k part bytes)) (DirectoryAt k part) (placed_here segments few (SetBytes k part bytes) fit)
cover_same segments w tree on few (SetLargeBytes g part bytes) plain fit = on.follows.covers _ on.now.stands.naming on.logical.of (edit_sector (SetLargeBytes g part bytes)) (LargeAt g part) (placed_here segments few (SetLargeBytes g part bytes) fit)

moved_or : (new : Option LockId) (old k : LockId) → old ≡ k → unwrap_or new old ≡ moved new k
moved_or None old k e = e
moved_or (Some lock) old k e = refl

-- ---- a finished line

module _ (covers : SetCoversAreTrue) (setting : Setting) (when : ℕ → ℕ) (locks : Locks) (servers : ℕ → Server) (a : ℕ) (w : World) (tree : FileTree) (outcome : plans.Outcome) (claimed : List ℕ)
    (on : StandsWhole setting.segments w tree) (t : AreCached servers w) (stood : AreStood servers w) (long : AreWhole (servers a).cache) (sorted : Ascend (servers a).cache)
    (f : IsFinished setting locks a (servers a) outcome) (inside : AreSegmentsOf setting.segments f.line.under.set)
    (out : IsOutcomeNow setting.segments when w (sight_in setting (servers a) f.line.under) on.now.stands.naming (number_in setting f.line.under.line.number) f.line.operation f.finish)
    (allowed : IsAllowed f.line.operation) (new : IsNew (shape_of tree) (number_in setting f.line.under.line.number)) (small : number_in setting f.line.under.line.number < 2 ^ 64)
    (timely : time_of setting f.line.under.line.number < 2 ^ 64) where
  abbrev segments : ℕ
  segments = setting.segments

  abbrev set : LockSet
  set = f.line.under.set

  abbrev cache : Cache
  cache = (servers a).cache

  abbrev sight : Sight
  sight = sight_in setting (servers a) f.line.under

  abbrev known : AtHand
  known = at_hand sight.cached sight.held

  abbrev p : Ask Plan
  p = program_in setting (servers a) f.line.under f.line.operation

  abbrev nodes : List ℕ
  nodes = nodes_of_line setting (servers a) f.line.under f.line.operation

  abbrev n : ℕ
  n = number_in setting f.line.under.line.number

  abbrev time : ℕ
  time = time_of setting f.line.under.line.number

  abbrev disk : Sectors
  disk = whole_disk w

  abbrev shape : FileTree
  shape = shape_of tree

  abbrev naming : Naming
  naming = on.now.stands.naming

  abbrev edits : List Edit
  edits = f.finish.edits

  abbrev o : Outcome
  o = out.o

  abbrev c : Commit
  c = operation_in w a n claimed (keys_of sight.held) f.line.operation out.o

  few : segments ≤ 64
  few = subst (λ k. k ≤ 64) on.count on.logical.of.few

  of : AreOfDisk sight.cached sight.held sight.all segments disk
  of = of_disk segments servers w tree a set on t stood long sorted inside f.comes.bitmaps

  of_count : AreOfDisk sight.cached sight.held sight.all shape.segments disk
  of_count = subst (λ k. AreOfDisk sight.cached sight.held sight.all k disk) (sym on.whole.of.count) of

  nodes_are : nodes ≡ looked_nodes p known
  nodes_are = subst (λ k. nodes_looked_at k p sight ≡ looked_nodes p known) on.whole.of.count (numbers_tell f.line.operation sight.cached sight.held sight.all disk shape n time of_count on.below).1

  fits : (e : Edit) → Contains edits e → IsFitEdit segments e
  fits = edits_lie f.line.operation sight.cached sight.held sight.all segments n time disk shape naming of on.whole f.finish allowed small timely f.comes.met_is

  once : (d g : Edit) → Contains edits d → Contains edits g → is_metadata d ≡ false → is_metadata g ≡ false → edit_sector d ≡ edit_sector g → d ≡ g
  once = once_here f.line.operation sight.cached sight.held sight.all segments n time disk shape naming of on.whole f.finish new f.comes.met_is

  -- ---- what it reads is cached

  read_block : (s : ℕ) → IsThere sight.cached sight.held s → (block : List ℕ) × (value_at sight.cached s ≡ Some block)
  read_block s there = go there.sector there.here there.there
    where
      by : (number : ℕ) → s ≡ number → (found : Option (List ℕ)) → value_at sight.cached number ≡ found → is_some found ≡ true → (block : List ℕ) × (value_at sight.cached s ≡ Some block)
      by number e None q i = absurd (false≢true i)
      by number e (Some block) q i = (block, ap (value_at sight.cached) e ∙ q)

      held_block : (k : ℕ) → (bits : Option Bitmap) → bitmap_of sight.held k ≡ bits → is_held sight.held k ≡ true → is_some (value_at sight.cached (sector_of (region.Segment k))) ≡ true
      held_block k None q i = absurd (let z : is_held sight.held k ≡ false = rw q refl in false≢true (sym z ∙ i))
      held_block k (Some bits) q i = from (value_at sight.cached (sector_of (region.Segment k))) (held_from sight.cached k (segments_in set) bits q).1
        where
          from : (found : Option (List ℕ)) → option_and_then bitmap_in found ≡ Some bits → is_some found ≡ true
          from None m = absurd (cc)
          from (Some block) m = refl

      go : (x : Sector) → s ≡ number_of x → is_at_hand known x ≡ true → (block : List ℕ) × (value_at sight.cached s ≡ Some block)
      go (SegmentAt k) e i = by (sector_of (region.Segment k)) e (value_at sight.cached (sector_of (region.Segment k))) refl (held_block k (bitmap_of sight.held k) refl i)
      go (InodeAt k) e i = found_in (value_at sight.cached (sector_of (region.Inode k))) refl
        where
          found_in : (found : Option (List ℕ)) → value_at sight.cached (sector_of (region.Inode k)) ≡ found → (block : List ℕ) × (value_at sight.cached s ≡ Some block)
          found_in (Some block) q = (block, ap (value_at sight.cached) e ∙ q)
          found_in None q = absurd (let z : is_at_hand known (InodeAt k) ≡ false = rw q refl in false≢true (sym z ∙ i))
      go (DirectoryAt k part) e i = found_in (value_at sight.cached (sector_of (region.Small k part))) refl
        where
          found_in : (found : Option (List ℕ)) → value_at sight.cached (sector_of (region.Small k part)) ≡ found → (block : List ℕ) × (value_at sight.cached s ≡ Some block)
          found_in (Some block) q = (block, ap (value_at sight.cached) e ∙ q)
          found_in None q = absurd (let z : is_at_hand known (DirectoryAt k part) ≡ false = rw q refl in false≢true (sym z ∙ i))
      go (BytesAt k part) e i = found_in (value_at sight.cached (sector_of (region.Small k part))) refl
        where
          found_in : (found : Option (List ℕ)) → value_at sight.cached (sector_of (region.Small k part)) ≡ found → (block : List ℕ) × (value_at sight.cached s ≡ Some block)
          found_in (Some block) q = (block, ap (value_at sight.cached) e ∙ q)
          found_in None q = absurd (let z : is_at_hand known (BytesAt k part) ≡ false = rw q refl in false≢true (sym z ∙ i))
      go (LargeAt k part) e i = found_in (value_at sight.cached (sector_of (region.Large k part))) refl
        where
          found_in : (found : Option (List ℕ)) → value_at sight.cached (sector_of (region.Large k part)) ≡ found → (block : List ℕ) × (value_at sight.cached s ≡ Some block)
          found_in (Some block) q = (block, ap (value_at sight.cached) e ∙ q)
          found_in None q = absurd (let z : is_at_hand known (LargeAt k part) ≡ false = rw q refl in false≢true (sym z ∙ i))

  page_block : (dirt : Option Dirt) (block : Block) (page : Page) → IsPageOf dirt block page → block_in page ≡ Some block
  page_block None block page i = ap block_in i
  page_block (Some dirt) block page i = ap block_in i.1

  shows : (s : ℕ) → member s o.reads ≡ true → block_in (w.page a s) ≡ value_at sight.cached s
  shows s e =
      let r = read_block s (out.says.read s e) in
      let u : IsUsed set s cache r.0 = used_from set s cache sorted r.0 r.1 in
      let i : IsCachedAs false (cover w s) (Some u.cached) (w.slot a s) (w.page a s) =
      subst (λ v. IsCachedAs v (cover w s) (Some u.cached) (w.slot a s) (w.page a s)) (lines_read_bytes segments when w tree on (keys_of sight.held) n f.line.operation out.o out.comes out.lies s e)
      (subst (λ x. IsCachedAs (has_version w s) (cover w s) x (w.slot a s) (w.page a s)) u.there (t a s)) in
      page_block u.cached.dirt u.cached.block (w.page a s) i.2 ∙ ap (λ b. Some b) u.block_is ∙ sym r.1

  shown : (s : ℕ) → (if member s o.reads then block_in (w.page a s) else None) ≡ shown_of sight.cached o s
  shown s = go (member s o.reads) refl
    where
      go : (b : Bool) → member s o.reads ≡ b → (if b then block_in (w.page a s) else None) ≡ (if b then value_at sight.cached s else None)
      go true e = shows s e
      go false e = refl

  -- ---- the operation

  changes : (s : ℕ) → change_in outcome.redo s ≡ change_at c.changes s
  changes s = ap (λ (x : plans.Outcome). change_in x.redo s) f.outcome_is ∙ recorded n (changes_of (sectors_at_hand sight.cached sight.held) edits) s ∙ ap (λ x. change_at x s) (sym out.says.changes)

  moves : (s : ℕ) → outcome.moves s ≡ c.moves s
  moves s = ap (λ (x : plans.Outcome). x.moves s) f.outcome_is ∙ ap (λ (m : ℕ → Option LockId). m s) (sym out.says.moves)

  bytes_are : outcome.bytes ≡ filter_map (set_by nodes sight edits) edits
  bytes_are = ap (λ (x : plans.Outcome). x.bytes) f.outcome_is

  fills : (s : ℕ) → c.writes s ≡ fill_of (member s outcome.freed) (last_set outcome.bytes s)
  fills s =
      ap (made_of (o.makes s)) (shown s) ∙ out.made s ∙ once_set nodes sight edits once s
      ∙ sym (ap (λ (x : plans.Outcome). fill_of (member s x.freed) (last_set x.bytes s)) f.outcome_is)

  set_cover : (s : ℕ) (x : BytesSet) → last_set (filter_map (set_by nodes sight edits) edits) s ≡ Some x → x.cover ≡ moved (c.moves s) (cover w s)
  set_cover s x e = go (all_set nodes sight edits edits s)
    where
      go : NoneSet nodes sight edits edits s ⊎ AreSet nodes sight edits edits s → x.cover ≡ moved (c.moves s) (cover w s)
      go (inl none) = absurd (let z : Some x ≡ None = sym e ∙ none.set in cc)
      go (inr m) =
          let same : x ≡ set_with nodes sight edits m.last (edited_at m.last) = (let z : Some x ≡ Some (set_with nodes sight edits m.last (edited_at m.last)) = sym e ∙ m.last_is in cc) in
          let fit : IsFitEdit segments m.last = fits m.last m.last_among in
          let move : moved_by edits (edited_at m.last) ≡ c.moves s =
          moved_same edits segments m.last m.last_plain few fit ∙ ap (moves_of segments edits) m.last_here ∙ ap (λ (v : ℕ → Option LockId). v s) (sym out.says.moves) in
          let found : plans.cover_of nodes sight (edited_at m.last) ≡ cover w s =
          ap (λ l. plans.cover_of l sight (edited_at m.last)) nodes_are
          ∙ covers f.line.operation sight.cached sight.held sight.all disk shape n time of_count on.below f.finish f.comes.met_is m.last m.last_among m.last_plain
          ∙ ap (λ m1. by_naming.cover_of m1 (edited_at m.last)) on.alike
          ∙ sym (cover_same segments w tree on few m.last m.last_plain fit) ∙ ap (cover w) m.last_here in
          ap (λ (v : BytesSet). v.cover) same ∙ ap (λ v. unwrap_or v (plans.cover_of nodes sight (edited_at m.last))) move
          ∙ moved_or (c.moves s) (plans.cover_of nodes sight (edited_at m.last)) (cover w s) found

  pub is_done_as : IsDoneAs outcome c w
  is_done_as = record { changes = changes; moves = moves; fills = fills; covers = λ s x e. set_cover s x (ap (λ xs. last_set xs s) (sym bytes_are) ∙ e) }
