-- A line that sees a disk of a tree makes only sectors of the disk dirty: its edits are fit, and a block that it clears is one of a held segment.
use Rattle.std.proofs.Common.{◌≡◌, ℕ, ◌<◌, ◌≤◌, ◌*◌, ◌/◌, ◌%◌, inl, inr, ⊎_elim, Bool, true, false, ◌&&◌, if◌then◌else◌, is_some, nat_eq, List, [], ◌∷◌, Option, Some, None, fold, map, refl, sym, ap, ◌∙◌, subst, arith, lit<}
use Rattle.std.proofs.lemmas.Bool.{and_parts, eqb-true, false≢true}
use Rattle.std.proofs.lemmas.Option.{none-some, same_Some}
use Rattle.std.specs.List.{AllByRecursion, cons_option, filter_map, list_any}
use Rattle.std.specs.Map.{keys_of}
use Rattle.std.specs.Option.{IsSome, option_map, unwrap_or}
use Rattle.std.specs.Ordering.{match_ordering, nat_cmp}
use Rattle.std.specs.declared.cmp.Ordering.{Ordering}
use Rattle.std.specs.declared.cmp.Ordering.TheVariants.{Less, Equal, Greater}
use Rattle.frang_base.specs.declared.bitmap.Bitmap.{Bitmap}
use Rattle.frang_base.specs.declared.change.Change.{Change}
use Rattle.frang_base.specs.declared.change.Patch.{Patch}
use Rattle.frang_base.specs.declared.lock.LockId.{LockId}
use Rattle.frang_base.specs.declared.op.Op.{Op}
use Rattle.frang_base.specs.declared.op.Op.TheVariants as op
use Rattle.frang_base.specs.declared.script.Line.{Line}
use Rattle.tree_definitions.specs.Live.{number_of as operation_number, script_time, time_in}
use Rattle.tree_definitions.specs.Numbers.{below}
use Rattle.tree_definitions.specs.Perform.{Step, Goes, Stops, resolved}
use Rattle.tree_definitions.specs.Tree.{FileTree}
use Rattle.sector_bytes.specs.Replays.{change_at}
use Rattle.sector_bytes.specs.Sectors.{Sectors}
use Rattle.lock_definitions.specs.Locks.{Locks}
use Rattle.disk_definitions.proofs.Listed.{Among, among_mapped, below_among}
use Rattle.disk_definitions.proofs.RegionLaws.{region_found}
use Rattle.disk_definitions.specs.Ask.{Ask, Met, Sector, BytesAt, LargeAt, looks, number_of, run}
use Rattle.disk_definitions.specs.Ask.Met.{Needs, Has}
use Rattle.disk_definitions.specs.Bitmaps.{block_state}
use Rattle.disk_definitions.specs.Edits.{Edit, edited_all}
use Rattle.disk_definitions.specs.Edits.Edit.{SetInode, SetBit, SetUse, SetPlace, SetLarge, SetBytes, SetLargeBytes}
use Rattle.disk_definitions.specs.FitEdits.{AreFit, IsFitEdit}
use Rattle.disk_definitions.specs.Held.{bitmap_of, state_in}
use Rattle.disk_definitions.specs.Lines.{with_trail}
use Rattle.disk_definitions.specs.Meets.{IsHandOf, IsOfTree}
use Rattle.disk_definitions.specs.Missing.{first_missing, unless_missing}
use Rattle.disk_definitions.specs.Moves.{moved_by}
use Rattle.disk_definitions.specs.Naming.{Naming}
use Rattle.disk_definitions.specs.OnDisk.{AreOfDisk}
use Rattle.disk_definitions.specs.Picks.{is_in_state}
use Rattle.disk_definitions.specs.PlanOf.{plan_of}
use Rattle.disk_definitions.specs.Plans.{Finish, Hand, Lock, Plan, must_clear}
use Rattle.disk_definitions.specs.Plans.Plan.{Lacks, Clears, Finishes}
use Rattle.disk_definitions.specs.Regions.{sector_of}
use Rattle.disk_definitions.specs.Standing.{IsInGrammar}
use Rattle.disk_definitions.specs.Store.{Store, store_of}
use Rattle.disk_definitions.specs.Written.{all_edited, ascending, at_hand, change_by, change_of, changes_of, edit_sector, edited_block, hand_of, metadata_sector, sectors_at_hand, with_number}
use Rattle.disk_definitions.specs.declared.region.Region.TheVariants as region
use Rattle.plan_laws.proofs.AllPlans.{clears_exactly}
use Rattle.plan_laws.proofs.Deciding.{meets_where}
use Rattle.plan_fit.proofs.DecodedEntries.{disks_fit}
use Rattle.plan_fit.proofs.Kept.{edit_in_range, edit_region, edit_sector_is, in_small}
use Rattle.line_laws.proofs.AtHand.{agrees}
use Rattle.line_laws.proofs.Edited.{hand}
use Rattle.line_laws.proofs.Fitting.{line_fits}
use Rattle.line_laws.proofs.Inside.{lines_inside}
use Rattle.line_laws.proofs.OfDisk.{few, of_tree}
use Rattle.line_laws.proofs.Running.{run_performed, step_plan}
use Rattle.cache_definitions.specs.Caches.{Cache}
use Rattle.set_definitions.specs.Seen.{Comparison, HasMoved, HasStopped, HasGoneThrough, SeenSectors, compared, seen_more}
use Rattle.set_definitions.specs.Sets.{LockSet, has_lock, lacks, next_segment, to_ask}
use Rattle.tree_definitions.specs.Apply.{is_path_op}
use Rattle.core_definitions.specs.Cores.{stage}
use Rattle.core_definitions.specs.LineEffects.{change_in}
use Rattle.core_definitions.specs.Lines.{Stage, Fetching, Growing, Clearing, Finishing, Under, missing_bitmaps, needed_mode, needing, once_through, operation_of, or_grown, sole_segment, stage_asked, stage_at, stage_by, stage_held, stage_over}
use Rattle.core_definitions.specs.Plans.{BytesSet, Sight, clear_needs, cover_of, examined_in, finish_needs, needed_cover, nodes_looked_at, outcome_of, planned, program_of, record_of, set_by, sight_of}
use Rattle.core_definitions.specs.Runs.{State}
use Rattle.core_definitions.specs.Servers.{asks, is_up, stage_under, stage_with}
use Rattle.core_definitions.specs.Settings.{Setting}
use Rattle.core_definitions.specs.Trees.{block_sectors}
use Rattle.core_laws.proofs.Membership.{contains_in}
use Rattle.code_plan_laws.specs.CodeStands.{IsOverADisk}
use Rattle.code_plan_laws.proofs.Asked.{fresh_is_at_hand}
use Rattle.run_laws.specs.Sights.{AFreshDiskIsSeen, IsOfATree, MayBePlanned, SeesATree, WhoSeesTreesStaysOnDisk, fresh_sight}
use Rattle.run_laws.specs.Writing.{IsOfDisk, MakesDirty}

-- ---- what fit edits change and set

edit_on_disk : (segments : ℕ) (e : Edit) → segments ≤ 64 → IsFitEdit segments e → IsOfDisk segments (edit_sector e)
edit_on_disk segments e few fit =
    subst (IsOfDisk segments) (sym (edit_sector_is e)) (ap is_some (region_found segments (edit_region e) few (edit_in_range segments e fit)))

each_fit : (segments : ℕ) (end : Store) (edits : List Edit) → AreFit segments end edits → AllByRecursion (IsFitEdit segments) edits
each_fit segments end [] fit = tt
each_fit segments end (e ∷ es) fit = (fit.0.0, each_fit segments end es fit.1)

module _ (On : ℕ → Type 0) where
  key_put : (es : List (ℕ × ℕ)) (k : ℕ) → On k → AllByRecursion (λ e. On e.0) es → AllByRecursion (λ e. On e.0) (with_number es k)
  key_put [] k here all = (here, tt)
  key_put (x ∷ xs) k here all = go (nat_cmp k x.0) (key_put xs k here all.1)
    where
      entry : ℕ → ℕ → ℕ × ℕ
      entry a b = (a, b)

      go : (o : Ordering) → AllByRecursion (λ e. On e.0) (with_number xs k) → AllByRecursion (λ e. On e.0) (match_ordering o (entry k 0 ∷ x ∷ xs) (entry x.0 0 ∷ xs) (x ∷ with_number xs k))
      go Less rest = (here, all)
      go Equal rest = (all.0, all.1)
      go Greater rest = (all.0, rest)

  keys_put : (ns : List ℕ) (es : List (ℕ × ℕ)) → AllByRecursion On ns → AllByRecursion (λ e. On e.0) es → AllByRecursion (λ e. On e.0) (fold with_number es ns)
  keys_put [] es here all = all
  keys_put (n ∷ ns) es here all = keys_put ns (with_number es n) here.1 (key_put es n here.0 all)

  each_key : (es : List (ℕ × ℕ)) → AllByRecursion (λ e. On e.0) es → AllByRecursion On (keys_of es)
  each_key [] all = tt
  each_key (e ∷ es) all = (all.0, each_key es all.1)

  in_order : (ns : List ℕ) → AllByRecursion On ns → AllByRecursion On (ascending ns)
  in_order ns here = each_key (fold with_number [] ns) (keys_put ns [] here tt)

  mapped : {X Y : Type 0} (f : X → Option Y) (P : X → Type 0) (Q : Y → Type 0) → ((x : X) (y : Y) → P x → f x ≡ Some y → Q y) → (xs : List X) → AllByRecursion P xs → AllByRecursion Q (filter_map f xs)
  mapped f P Q gives [] all = tt
  mapped {Y = Y} f P Q gives (x ∷ xs) all = go (f x) refl (mapped f P Q gives xs all.1)
    where
      go : (o : Option Y) → f x ≡ o → AllByRecursion Q (filter_map f xs) → AllByRecursion Q (cons_option o (filter_map f xs))
      go None e rest = rest
      go (Some y) e rest = (gives x y all.0 e, rest)

  change_is : (n version : ℕ) (patches : List Patch) (change : Change) → change_by n version patches ≡ Some change → On n → On change.sector.0
  change_is n version [] change e here = absurd (none-some change e)
  change_is n version (p ∷ ps) change e here = subst (λ c. On c.sector.0) (same_Some _ change e) here

  change_there : (changes : List Change) (sector : ℕ) → AllByRecursion (λ c. On c.sector.0) changes → IsSome (change_at changes sector) → On sector
  change_there [] sector all some = absurd (false≢true some)
  change_there (x ∷ xs) sector all some = go (nat_eq x.sector.0 sector) refl some (change_there xs sector all.1)
    where
      go : (b : Bool) → nat_eq x.sector.0 sector ≡ b → IsSome (if b then Some x else change_at xs sector) → (IsSome (change_at xs sector) → On sector) → On sector
      go true e some rest = subst On (eqb-true x.sector.0 sector e) all.0
      go false e some rest = rest some

module _ (segments : ℕ) (few : segments ≤ 64) (edits : List Edit) (fit : AllByRecursion (IsFitEdit segments) edits) where
  named_on_disk : AllByRecursion (IsOfDisk segments) (filter_map metadata_sector edits)
  named_on_disk = mapped (IsOfDisk segments) metadata_sector (IsFitEdit segments) (IsOfDisk segments) gives edits fit
    where
      gives : (e : Edit) (n : ℕ) → IsFitEdit segments e → metadata_sector e ≡ Some n → IsOfDisk segments n
      gives (SetBytes k part bytes) n h is = absurd (none-some n is)
      gives (SetLargeBytes g part bytes) n h is = absurd (none-some n is)
      gives (SetInode i x dated) n h is = subst (IsOfDisk segments) (same_Some _ n is) (edit_on_disk segments (SetInode i x dated) few h)
      gives (SetBit i b) n h is = subst (IsOfDisk segments) (same_Some _ n is) (edit_on_disk segments (SetBit i b) few h)
      gives (SetUse k u) n h is = subst (IsOfDisk segments) (same_Some _ n is) (edit_on_disk segments (SetUse k u) few h)
      gives (SetPlace k p x) n h is = subst (IsOfDisk segments) (same_Some _ n is) (edit_on_disk segments (SetPlace k p x) few h)
      gives (SetLarge g b) n h is = subst (IsOfDisk segments) (same_Some _ n is) (edit_on_disk segments (SetLarge g b) few h)

  changes_on_disk : (sectors : Sectors) → AllByRecursion (λ c. IsOfDisk segments c.sector.0) (changes_of sectors edits)
  changes_on_disk sectors =
      mapped (IsOfDisk segments) (change_of edits sectors (all_edited sectors edits)) (IsOfDisk segments) (λ c. IsOfDisk segments c.sector.0)
      (λ n change here is. change_is (IsOfDisk segments) n _ _ change is here)
      (ascending (filter_map metadata_sector edits)) (in_order (IsOfDisk segments) (filter_map metadata_sector edits) named_on_disk)

  recorded_on_disk : (number : ℕ) (changes : List Change) (sector : ℕ) → AllByRecursion (λ c. IsOfDisk segments c.sector.0) changes → IsSome (change_in (record_of number changes) sector) → IsOfDisk segments sector
  recorded_on_disk number [] sector all some = absurd (false≢true some)
  recorded_on_disk number (c ∷ cs) sector all some = change_there (IsOfDisk segments) (c ∷ cs) sector all some

  set_on_disk : (nodes : List ℕ) (sight : Sight) (all : List Edit) → AllByRecursion (λ set. IsOfDisk segments set.sector) (filter_map (set_by nodes sight all) edits)
  set_on_disk nodes sight all = mapped (IsOfDisk segments) (set_by nodes sight all) (IsFitEdit segments) (λ set. IsOfDisk segments set.sector) gives edits fit
    where
      made : Edit → Sector → BytesSet
      made e place = record { sector = number_of place; block = edited_block [] 0 e; cover = unwrap_or (moved_by all place) (cover_of nodes sight place) }

      gives : (e : Edit) (set : BytesSet) → IsFitEdit segments e → set_by nodes sight all e ≡ Some set → IsOfDisk segments set.sector
      gives (SetBytes k part bytes) set h is = subst (λ x. IsOfDisk segments x.sector) (same_Some (made (SetBytes k part bytes) (BytesAt k part)) set is) (edit_on_disk segments (SetBytes k part bytes) few h)
      gives (SetLargeBytes g part bytes) set h is = subst (λ x. IsOfDisk segments x.sector) (same_Some (made (SetLargeBytes g part bytes) (LargeAt g part)) set is) (edit_on_disk segments (SetLargeBytes g part bytes) few h)
      gives (SetInode i x dated) set h is = absurd (none-some set is)
      gives (SetBit i b) set h is = absurd (none-some set is)
      gives (SetUse k u) set h is = absurd (none-some set is)
      gives (SetPlace k p x) set h is = absurd (none-some set is)
      gives (SetLarge g b) set h is = absurd (none-some set is)

sector_set : (segments : ℕ) (sets : List BytesSet) (sector : ℕ) → AllByRecursion (λ set. IsOfDisk segments set.sector) sets → Among sector (map (λ (set : BytesSet). set.sector) sets) → IsOfDisk segments sector
sector_set segments [] sector all i = absurd i
sector_set segments (x ∷ xs) sector all (inl e) = subst (IsOfDisk segments) (sym e) all.0
sector_set segments (x ∷ xs) sector all (inr i) = sector_set segments xs sector all.1 i

-- ---- a block that is cleared

clears_behind : (trail : List ℕ) (p : Plan) (k : ℕ) (locks : List Lock) → with_trail trail p ≡ Clears k locks → (own : List Lock) × (p ≡ Clears k own)
clears_behind trail Lacks k locks e = absurd (cc)
clears_behind trail (Clears j own) k locks e = let z : j ≡ k = cc in (own, ap (λ j. Clears j own) z)
clears_behind trail (Finishes f) k locks e = absurd (cc)

step_clears : (h : Hand) (s : Store) (tree : FileTree) (n : Naming) (birth when : ℕ) → IsOfTree s tree n → (trail : List ℕ) (step : Step) (k : ℕ) (locks : List Lock) →
    step_plan h s birth when trail step ≡ Clears k locks → must_clear h k ≡ true
step_clears h s tree n birth when of trail (Goes o) k locks e = ((clears_exactly o h s tree n birth when of k).0 (clears_behind trail (run (plan_of h birth when o) s) k locks e)).5
step_clears h s tree n birth when of trail (Stops r) k locks e = absurd (cc)

-- its segment is held, so it is one of the disk's
held_on_disk : (sight : Sight) (disk : Sectors) (segments k : ℕ) → AreOfDisk sight.cached sight.held sight.all segments disk → segments ≤ 64 → must_clear (hand_of sight.cached sight.held sight.all) k ≡ true → (sector : ℕ) →
    Among sector (block_sectors k) → IsOfDisk segments sector
held_on_disk sight disk segments k are few clear sector i = go (bitmap_of sight.held (k / 1024)) refl (and_parts (is_in_state 0 (state_in sight.held k)) _ clear).0
  where
    low : (k n : ℕ) → k / 1024 < n → k < 1024 * n
    low k n h = omega (arith, h)

    part_on_disk : k < 1024 * segments → (part : ℕ) × Among part (below 8) × (sector_of (region.Small k part) ≡ sector) → IsOfDisk segments sector
    part_on_disk h p =
        subst (IsOfDisk segments) p.2 (ap is_some (region_found segments (region.Small k p.0) few (in_small segments k p.0 h (below_among 8 p.0 p.1))))

    go : (b : Option Bitmap) → bitmap_of sight.held (k / 1024) ≡ b → is_in_state 0 (option_map (λ bitmap. block_state bitmap (k % 1024)) b) ≡ true → IsOfDisk segments sector
    go None e t = absurd (false≢true t)
    go (Some bitmap) e t = part_on_disk (low k segments (are.as_held (k / 1024) bitmap e).0) (among_mapped (λ part. sector_of (region.Small k part)) (below 8) sector i)

-- ---- a line's plan

met_run : (x : Option Sector) (p q : Plan) → unless_missing x p ≡ Has q → p ≡ q
met_run None p q e = cc
met_run (Some sector) p q e = absurd (cc)

module _ (setting : Setting) (line : Line) (operation : Op) (sight : Sight) (may : MayBePlanned setting line operation) (of : IsOfATree setting.segments sight) where
  abbrev birth : ℕ
  birth = operation_number setting.run line.number

  abbrev when : ℕ
  when = time_in setting.run (script_time setting.script line.number)

  abbrev tree : FileTree
  tree = of.tree

  abbrev s : Store
  s = store_of tree.segments of.disk

  abbrev h : Hand
  h = hand_of sight.cached sight.held sight.all

  abbrev program : Ask Plan
  program = program_of setting line operation sight

  n : Naming
  n = of.below.stands.naming

  is_of : IsOfTree s tree n
  unfolding n
  is_of = of_tree of.disk tree of.below

  at : IsHandOf h s tree.segments
  at = hand op.Sync sight.cached sight.held sight.all of.disk tree birth when of.are of.below

  runs : (p : Plan) → planned program sight ≡ Has p → run program s ≡ p
  runs p e =
      met_run (first_missing (at_hand sight.cached sight.held) (looks program s)) (run program s) p
      (sym (meets_where program (at_hand sight.cached sight.held) s
      (agrees sight.cached sight.held tree.segments of.disk of.are.as_cached of.below.whole (looks program s) (lines_inside operation h s tree n birth when is_of at))) ∙ e)

  few_segments : tree.segments ≤ 64
  few_segments = few of.disk tree of.below

  finish_fits : (finish : Finish) → planned program sight ≡ Has (Finishes finish) → AllByRecursion (IsFitEdit tree.segments) finish.edits
  finish_fits finish e =
      each_fit tree.segments (edited_all s finish.edits) finish.edits
      (line_fits h s tree n birth when is_of at (disks_fit of.disk tree.segments (subst (λ z. IsInGrammar z of.disk) (sym of.below.stands.segments) of.below.stands.grammar) of.below.whole) may.number may.time operation finish may.allowed (runs (Finishes finish) e)).edits

  clear_fits : (k : ℕ) (locks : List Lock) → planned program sight ≡ Has (Clears k locks) → must_clear h k ≡ true
  clear_fits k locks e =
      step_clears h s tree n birth when is_of (map n.inode (resolved tree operation).trail) (resolved tree operation).step k locks
      (sym (run_performed h s birth when tree n is_of operation) ∙ runs (Clears k locks) e)

  abbrev Stays : Stage → Type 0
  Stays stage = (sector : ℕ) → MakesDirty stage sector → IsOfDisk setting.segments sector

  of_clear : (k : ℕ) (locks : List Lock) → planned program sight ≡ Has (Clears k locks) → Stays (Clearing k)
  of_clear k locks e sector m =
      subst (λ z. IsOfDisk z sector) of.size
      (held_on_disk sight of.disk tree.segments k of.are few_segments (clear_fits k locks e) sector (contains_in (block_sectors k) sector m))

  of_finish : (nodes : List ℕ) (finish : Finish) → planned program sight ≡ Has (Finishes finish) → Stays (Finishing (outcome_of setting line nodes sight finish))
  of_finish nodes finish e sector m =
      subst (λ z. IsOfDisk z sector) of.size
      (⊎_elim
      (λ some. recorded_on_disk tree.segments few_segments finish.edits fit birth (changes_of (sectors_at_hand sight.cached sight.held) finish.edits) sector
      (changes_on_disk tree.segments few_segments finish.edits fit (sectors_at_hand sight.cached sight.held)) some)
      (λ i. sector_set tree.segments (filter_map (set_by nodes sight finish.edits) finish.edits) sector (set_on_disk tree.segments few_segments finish.edits fit nodes sight finish.edits)
      (contains_in (map (λ (set : BytesSet). set.sector) (filter_map (set_by nodes sight finish.edits) finish.edits)) sector i)) m)
    where
      fit : AllByRecursion (IsFitEdit tree.segments) finish.edits
      fit = finish_fits finish e

  -- ---- how far it has come

  once : (comparison : Comparison) (stage : Stage) → Stays stage → Stays (once_through comparison stage)
  once HasGoneThrough stage h = h
  once HasStopped stage h = λ sector m. absurd m
  once HasMoved stage h = λ sector m. absurd m

  grown : (set : LockSet) (needs : List Lock) (seen : SeenSectors) (stage : Stage) → Stays stage → Stays (or_grown set needs seen stage)
  grown set needs seen stage h = go (list_any (lacks set) needs)
    where
      go : (b : Bool) → Stays (if b then Growing needs seen else stage)
      go true = λ sector m. absurd m
      go false = h

  of_needing : (comparison : Comparison) (set : LockSet) (seen : SeenSectors) (sector : ℕ) (cover : LockId) → Stays (needing comparison set seen sector cover)
  of_needing comparison set seen sector cover = go (has_lock set cover)
    where
      go : (b : Bool) → Stays (if b then Fetching ((sector, cover) ∷ []) else once_through comparison (Growing ((cover, needed_mode cover) ∷ []) seen))
      go true = λ x m. absurd m
      go false = once comparison (Growing ((cover, needed_mode cover) ∷ []) seen) (λ x m. absurd m)

  by_plan : (set : LockSet) (next : Option ℕ) (comparison : Comparison) (seen : SeenSectors) (nodes : List ℕ) (met : Met Plan) → planned program sight ≡ met →
      Stays (stage_by setting line operation sight set next comparison seen nodes met)
  by_plan set next comparison seen nodes (Needs sector) e = of_needing comparison set seen (number_of sector) (needed_cover setting.segments nodes sight sector)
  by_plan set next comparison seen nodes (Has Lacks) e = once comparison (Growing (sole_segment next) seen) (λ x m. absurd m)
  by_plan set next comparison seen nodes (Has (Clears block locks)) e =
      once comparison (or_grown set (clear_needs operation nodes sight block) seen (Clearing block))
      (grown set (clear_needs operation nodes sight block) seen (Clearing block) (of_clear block locks e))
  by_plan set next comparison seen nodes (Has (Finishes finish)) e =
      once comparison (or_grown set (finish_needs nodes sight finish) seen (Finishing (outcome_of setting line nodes sight finish)))
      (grown set (finish_needs nodes sight finish) seen (Finishing (outcome_of setting line nodes sight finish)) (of_finish nodes finish e))

over : (setting : Setting) (under : Under) (operation : Op) (sight : Sight) → MayBePlanned setting under.line operation → IsOfATree setting.segments sight → (next : Option ℕ) (comparison : Comparison) (sector : ℕ) →
    MakesDirty (stage_over setting under operation next sight comparison (program_of setting under.line operation sight)) sector → IsOfDisk setting.segments sector
over setting under operation sight may of next HasMoved sector m = absurd m
over setting under operation sight may of next HasStopped sector m =
    by_plan setting under.line operation sight may of under.set next HasStopped (seen_more sight.cached under.seen (examined_in (program_of setting under.line operation sight) sight))
    (nodes_looked_at setting.segments (program_of setting under.line operation sight) sight) (planned (program_of setting under.line operation sight) sight) refl sector m
over setting under operation sight may of next HasGoneThrough sector m =
    by_plan setting under.line operation sight may of under.set next HasGoneThrough (seen_more sight.cached under.seen (examined_in (program_of setting under.line operation sight) sight))
    (nodes_looked_at setting.segments (program_of setting under.line operation sight) sight) (planned (program_of setting under.line operation sight) sight) refl sector m

module _ (setting : Setting) (locks : Locks) (a : ℕ) (cache : Cache) (under : Under) (operation : Op) (may : MayBePlanned setting under.line operation)
    (of : IsOfATree setting.segments (sight_of setting.segments under.set cache)) where
  held : (missing : List (ℕ × LockId)) (sector : ℕ) → MakesDirty (stage_held setting locks a cache under operation missing) sector → IsOfDisk setting.segments sector
  held [] sector m =
      over setting under operation (sight_of setting.segments under.set cache) may of (next_segment setting.segments locks a under.set)
      (compared under.seen (sight_of setting.segments under.set cache).cached) sector m
  held (missing ∷ others) sector m = absurd m

  asked : (need : Option Lock) (sector : ℕ) → MakesDirty (stage_asked setting locks a cache under operation need) sector → IsOfDisk setting.segments sector
  asked (Some need) sector m = absurd m
  asked None sector m = held (missing_bitmaps under.set cache) sector m

-- ---- the line that has come so far

record Staged (s : State) (a : ℕ) (at : Stage) : Type 0 where
  under : Under
  operation : Op
  under_is : (s.core.servers a).under ≡ Some under
  asks_it : operation_of under.line.what ≡ Some operation
  stage_is : stage_at s.core.setting s.core.locks a (s.core.servers a).cache under operation ≡ at

staged : (s : State) (a : ℕ) (at : Stage) → stage s.core a ≡ Some at → Staged s a at
staged s a at e = go (is_up (s.core.servers a).phase && asks is_path_op (s.core.servers a)) (s.core.servers a).under refl e
  where
    by_operation : (under : Under) (operation : Option Op) → (s.core.servers a).under ≡ Some under → operation_of under.line.what ≡ operation →
        stage_with s.core.setting s.core.locks a (s.core.servers a).cache under operation ≡ Some at → Staged s a at
    by_operation under None u o e = absurd (none-some at e)
    by_operation under (Some operation) u o e = record { under = under; operation = operation; under_is = u; asks_it = o; stage_is = same_Some _ at e }

    go : (b : Bool) (under : Option Under) → (s.core.servers a).under ≡ under → (if b then stage_under s.core.setting s.core.locks a (s.core.servers a).cache under else None) ≡ Some at → Staged s a at
    go false under u e = absurd (none-some at e)
    go true None u e = absurd (none-some at e)
    go true (Some under) u e = by_operation under (operation_of under.line.what) u refl e

pub who_sees_stays : WhoSeesTreesStaysOnDisk
who_sees_stays s sees a at e sector m = go (staged s a at e)
  where
    go : Staged s a at → IsOfDisk s.core.setting.segments sector
    go x =
        let see : SeesATree s a x.under x.operation = sees a x.under x.operation at sector x.under_is x.asks_it e m in
        asked s.core.setting s.core.locks a (s.core.servers a).cache x.under x.operation see.may see.of (to_ask s.core.locks a x.under.set) sector
        (subst (λ z. MakesDirty z sector) (sym x.stage_is) m)

-- ---- an example

pub fresh_is_seen : AFreshDiskIsSeen
fresh_is_seen = (over_fresh.tree.segments, record { disk = over_fresh.disk; tree = over_fresh.tree; size = refl; are = over_fresh.at_hand; below = over_fresh.stands })
  where
    over_fresh : IsOverADisk op.Sync 1 fresh_sight.cached fresh_sight.held true
    over_fresh = fresh_is_at_hand 1 op.Sync (lit< tt) tt
