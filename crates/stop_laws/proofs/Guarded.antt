-- Each operation of a legal history of lines has alone the locks of what it moves and of the inodes that it changes.
use Rattle.std.proofs.Common.{ℕ, ◌≡◌, ◌≤◌, ◌<◌, ◌*◌, Bool, true, false, if◌then◌else◌, is_some, Option, Some, None, List, [], ◌∷◌, ◌++◌, map, refl, sym, ◌∙◌, ap, subst}
use Rattle.std.specs.List.{filter_map}
use Rattle.frang_base.specs.Locks.{has_lock, same_lock}
use Rattle.frang_base.specs.declared.change.Change.{Change}
use Rattle.frang_base.specs.declared.lock.LockId.{LockId}
use Rattle.frang_base.specs.declared.lock.Mode.TheVariants.{Shared, Sole}
use Rattle.tree_definitions.specs.Touched.{shape_of}
use Rattle.tree_definitions.specs.Tree.{FileTree}
use Rattle.sector_bytes.specs.Blocks.{Block}
use Rattle.sector_bytes.specs.Replays.{change_at}
use Rattle.sector_bytes.specs.Sectors.{Sectors}
use Rattle.disk_definitions.specs.declared.region.Region.TheVariants as region
use Rattle.disk_definitions.proofs.RegionLaws.{region_found, region_once}
use Rattle.sector_world.specs.Histories.{Changes, Commit, Each, Item, logical}
use Rattle.sector_world.specs.Histories.Item.{Done, Doubt}
use Rattle.sector_world.specs.Plans.{IsByPlan, Legal, Outcome, outcome_of}
use Rattle.sector_world.specs.Seen as seen
use Rattle.sector_world.specs.Trees.{Distinct, tree_of}
use Rattle.disk_definitions.specs.Naming.{Naming}
use Rattle.disk_definitions.specs.Edits.{Edit}
use Rattle.disk_definitions.specs.Edits.Edit.{SetInode, SetBit, SetUse, SetPlace, SetLarge, SetBytes, SetLargeBytes}
use Rattle.disk_definitions.specs.Ask.{Sector, InodeAt, number_of}
use Rattle.disk_definitions.specs.Plans.{Lock, Finish}
use Rattle.plan_laws.specs.Locks.{IsSole}
use Rattle.plan_laws.specs.Looked.{edited_at}
use Rattle.disk_definitions.specs.Covers.{cover_of}
use Rattle.disk_definitions.specs.Numbered.{sector_at, sector_in}
use Rattle.plan_fit.proofs.Kept.{edit_in_range, edit_region, edit_sector_is, in_inode}
use Rattle.line_laws.proofs.Covered.{line_edits_covered}
use Rattle.line_histories.specs.Guards.{IsClear, KeepsGuards}
use Rattle.line_histories.specs.LinePlans.{hand_on, lock_in, sector_plan, segment_lock, sole_in, store_on}
use Rattle.line_histories.proofs.Apart.{one_fit}
use Rattle.line_histories.proofs.Changes.{change_of_edit}
use Rattle.line_histories.proofs.Guarded.{lines_guarded, sole_alone}
use Rattle.line_histories.specs.Following.{CoversFollow}
use Rattle.line_histories.specs.Standing.{StandsNumbered}
use Rattle.line_histories.specs.Trees.{AreTimes, MayNumber, MayTake, NumberedTree, performed_numbered}
use Rattle.line_histories.proofs.Following.{all_follow}
use Rattle.line_histories.proofs.Meeting.{is_clear}
use Rattle.line_histories.proofs.Runs.{numbered, take_distinct}
use Rattle.stop_laws.proofs.BytesAlong as along
use Rattle.stop_laws.proofs.BytesCovered.{is_used}
use Rattle.stop_laws.specs.Sight.{Begins}
use Rattle.stop_laws.proofs.Removing.{AllGuarded, AllOwn, IsGuarded}

-- a lock that a plan has alone is one that it uses
alone_used : (locks : List Lock) (more : List LockId) (l : LockId) → has_lock l (filter_map sole_in locks) ≡ true → has_lock l (map lock_in locks ++ more) ≡ true
alone_used [] more l e = absurd (cc)
alone_used ((k, Sole) ∷ locks) more l e = go (same_lock k l) (alone_used locks more l) e
  where
    go : (b : Bool) → (has_lock l (filter_map sole_in locks) ≡ true → has_lock l (map lock_in locks ++ more) ≡ true) → (if b then true else has_lock l (filter_map sole_in locks)) ≡ true →
        (if b then true else has_lock l (map lock_in locks ++ more)) ≡ true
    go true rest e = refl
    go false rest e = rest e
alone_used ((k, Shared) ∷ locks) more l e = go (same_lock k l) (alone_used locks more l e)
  where
    go : (b : Bool) → has_lock l (map lock_in locks ++ more) ≡ true → (if b then true else has_lock l (map lock_in locks ++ more)) ≡ true
    go true rest = refl
    go false rest = rest

-- an edit of the sector of an inode is one of the inode
inode_edit : (i : ℕ) (e : Edit) → edit_region e ≡ region.Inode i → edited_at e ≡ InodeAt i
inode_edit i (SetInode j x dated) e = let same : j ≡ i = cc in ap InodeAt same
inode_edit i (SetBit j b) e = absurd (cc)
inode_edit i (SetUse k u) e = absurd (cc)
inode_edit i (SetPlace k p x) e = absurd (cc)
inode_edit i (SetLarge g b) e = absurd (cc)
inode_edit i (SetBytes k part bytes) e = absurd (cc)
inode_edit i (SetLargeBytes g part bytes) e = absurd (cc)

-- the sector of an inode of the disk, by its number
pub inode_here : (segments i : ℕ) → segments ≤ 64 → i < 64 * segments → sector_at segments (number_of (InodeAt i)) ≡ Some (InodeAt i)
inode_here segments i few l = ap sector_in (region_found segments (region.Inode i) few (in_inode segments i l))

module _ (segments : ℕ) (when : ℕ → ℕ) (times : AreTimes when) (opening : ℕ → Block) (start : NumberedTree) (begins : StandsNumbered segments opening start) (home : ℕ → LockId)
    (c : Commit) (h : List Item) (l : Legal (sector_plan segments when) opening (Done c ∷ h)) (d : Distinct MayTake start (Done c ∷ h)) (by : IsByPlan c)
    (follow : CoversFollow segments opening home h) where
  abbrev disk : Sectors
  disk = logical opening h

  abbrev tree : FileTree
  tree = (tree_of (performed_numbered when) start h).tree

  abbrev naming : Naming
  naming = along.naming segments when times opening start begins c h l d by

  abbrev finish : Finish
  finish = along.finish segments when times opening start begins c h l d by

  as_many : tree.segments ≡ segments
  as_many = (along.stands_now segments when times opening start begins c h l d by).stands.as_many

  clear : IsClear segments disk
  clear = subst (λ k. IsClear k disk) as_many (is_clear segments disk tree (along.stands_now segments when times opening start begins c h l d by).stands)

  guards : KeepsGuards segments disk naming (outcome_of c)
  guards = lines_guarded segments when c.hint c.op c.asked disk (shape_of tree) naming (outcome_of c)
      (record { of = (along.step segments when times opening start begins c h l d by).of; count = as_many; clear = clear }) l.0

  alone_is : c.alone ≡ filter_map sole_in finish.locks
  alone_is = ap (λ (q : Outcome). q.alone) (along.fin segments when times opening start begins c h l d by).comes.outcome

  uses_is : c.uses ≡ map lock_in finish.locks ++ map segment_lock c.hint
  uses_is = ap (λ (q : Outcome). q.uses) (along.fin segments when times opening start begins c h l d by).comes.outcome

  covered : (x : Sector) (s : ℕ) → sector_at segments s ≡ Some x → seen.cover_of home h s ≡ cover_of naming x
  covered x s at = follow (shape_of tree) naming (along.step segments when times opening start begins c h l d by).of s x at

  pub guarded : IsGuarded home c h
  guarded = record {
    uses = λ lock e. ap (has_lock lock) uses_is ∙ alone_used finish.locks (map segment_lock c.hint) lock (sym (ap (has_lock lock) alone_is) ∙ e);
    from = λ s new is. let m = guards.moved s new is in ap (λ lock. has_lock lock c.alone) (covered m.sector s m.here) ∙ is_used c.alone (cover_of naming m.sector) m.old;
    to = λ s new is. is_used c.alone new (guards.moved s new is).comes;
  }

  -- the edit by which it changes the sector of an inode
  edited : (i : ℕ) → i < 64 * segments → (x : Change) → change_at c.changes (number_of (InodeAt i)) ≡ Some x → IsSole finish.locks (cover_of naming (InodeAt i))
  edited i low x is =
      let changes_is = ap (λ (q : Outcome). change_at q.changes (number_of (InodeAt i))) (along.fin segments when times opening start begins c h l d by).comes.outcome in
      let one = (change_of_edit disk finish.edits (number_of (InodeAt i)) x (sym changes_is ∙ is)).edited in
      let step = along.step segments when times opening start begins c h l d by in
      let few = along.few segments when times opening start begins c h l d by in
      let fits = one_fit segments (store_on segments (along.next segments when times opening start begins c h l d by)) finish.edits one.edit step.fit one.among in
      let place : edit_region one.edit ≡ region.Inode i =
      region_once segments (edit_region one.edit) (region.Inode i) few (edit_in_range segments one.edit fits.0) (in_inode segments i low) (sym (edit_sector_is one.edit) ∙ one.here) in
      subst (λ y. IsSole finish.locks (cover_of naming y)) (inode_edit i one.edit place)
      (line_edits_covered c.asked (hand_on segments disk c.hint) (store_on segments disk) (shape_of tree) naming c.op (when c.op) finish step.of
      (along.after segments when times opening start begins c h l d by).done.at_hand (along.fin segments when times opening start begins c h l d by).comes.is one.edit one.among)

  pub owned : (i : ℕ) → i < 64 * segments → Changes (number_of (InodeAt i)) c → has_lock (seen.cover_of home h (number_of (InodeAt i))) c.alone ≡ true
  owned i low ch = go (change_at c.changes (number_of (InodeAt i))) refl ch
    where
      go : (o : Option Change) → change_at c.changes (number_of (InodeAt i)) ≡ o → is_some o ≡ true → has_lock (seen.cover_of home h (number_of (InodeAt i))) c.alone ≡ true
      go None is some = absurd (cc)
      go (Some x) is some =
          let lock = cover_of naming (InodeAt i) in
          ap (λ k. has_lock k c.alone) (covered (InodeAt i) (number_of (InodeAt i)) (inode_here segments i (along.few segments when times opening start begins c h l d by) low))
          ∙ ap (has_lock lock) alone_is ∙ is_used (filter_map sole_in finish.locks) lock (sole_alone finish.locks lock (edited i low x is))

-- ---- along a history

module _ (segments : ℕ) (when : ℕ → ℕ) (opening : ℕ → Block) (first_tree : FileTree) (numbers : List ℕ) (home : ℕ → LockId) (logged : ℕ → Bool) (first : ℕ → Option Block)
    (begins : Begins segments when opening first_tree numbers home logged first) where
  pub covers : (h : List Item) → Legal (sector_plan segments when) opening h → Distinct (MayNumber numbers) first_tree h → Each IsByPlan h → CoversFollow segments opening home h
  covers h l d by = (all_follow segments when opening first_tree numbers h home logged first begins.times begins.stands l d by begins.follows).covers

  pub all_guarded : (h : List Item) → Legal (sector_plan segments when) opening h → Distinct (MayNumber numbers) first_tree h → Each IsByPlan h → AllGuarded home h
  all_guarded [] l d by = tt
  all_guarded (Doubt m ∷ h) l d by = all_guarded h l d by
  all_guarded (Done c ∷ h) l d by = (
    guarded segments when begins.times opening (numbered first_tree numbers) begins.stands home c h l (take_distinct when first_tree numbers (Done c ∷ h) d) by.0 (covers h l.1 d.2 by.1),
    all_guarded h l.1 d.2 by.1,
  )

  pub all_own : (i : ℕ) → i < 64 * segments → (h : List Item) → Legal (sector_plan segments when) opening h → Distinct (MayNumber numbers) first_tree h → Each IsByPlan h →
      AllOwn home (number_of (InodeAt i)) h
  all_own i low [] l d by = tt
  all_own i low (Doubt m ∷ h) l d by = all_own i low h l d by
  all_own i low (Done c ∷ h) l d by = (
    owned segments when begins.times opening (numbered first_tree numbers) begins.stands home c h l (take_distinct when first_tree numbers (Done c ∷ h) d) by.0 (covers h l.1 d.2 by.1) i low,
    all_own i low h l.1 d.2 by.1,
  )
