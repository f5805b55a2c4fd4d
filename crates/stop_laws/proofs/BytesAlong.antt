-- Along histories of lines each operation agrees with its entry on the parts of files, so doubt is the same.
use Rattle.std.proofs.Common.{ℕ, ◌≡◌, ◌≤◌, ◌<◌, ◌^◌, ◌⊎◌, ⊎_elim, ◌++◌, Bool, true, false, is_some, List, [], ◌∷◌, map, refl, sym, ◌∙◌, ap, subst}
use Rattle.std.specs.List.{Contains}
use Rattle.frang_base.specs.Locks.{has_lock}
use Rattle.frang_base.specs.declared.lock.LockId.{LockId}
use Rattle.frang_base.specs.declared.lock.Mode.TheVariants.{Sole}
use Rattle.frang_base.specs.declared.op.Op.{Op}
use Rattle.frang_base.specs.declared.reply.Reply.TheVariants as reply
use Rattle.tree_definitions.specs.declared.history.Entry.{Entry}
use Rattle.tree_definitions.specs.Apply.{Applied}
use Rattle.tree_definitions.specs.History.{CellRun}
use Rattle.tree_definitions.specs.Perform.{perform, resolved}
use Rattle.tree_definitions.specs.Removal.{step_writes}
use Rattle.tree_definitions.specs.Touched.{shape_of, touches}
use Rattle.tree_definitions.specs.Tree.{FileTree, node_at}
use Rattle.tree_laws.specs.Doubts.{entry_writes}
use Rattle.tree_definitions.specs.WellFormed.{IsNew}
use Rattle.tree_laws.proofs.DoubtLaws.{a_last_write_leaves_doubt}
use Rattle.tree_laws.proofs.ShapeNodes.{found}
use Rattle.tree_laws.proofs.ShapeResolving.{perform_shape}
use Rattle.sector_bytes.specs.Blocks.{Block}
use Rattle.sector_bytes.specs.Replays.{change_at, forced}
use Rattle.sector_bytes.specs.Sectors.{Sectors}
use Rattle.sector_world.specs.Histories.{Commit, Item, Each, logical}
use Rattle.sector_world.specs.Histories.Item.{Done, Doubt}
use Rattle.sector_world.specs.Plans.{Outcome, outcome_of, IsByPlan, Legal}
use Rattle.sector_world.specs.Seen as seen
use Rattle.sector_world.specs.Trees.{Distinct, tree_of}
use Rattle.disk_definitions.specs.Naming.{Naming}
use Rattle.disk_definitions.specs.Store.{Store}
use Rattle.disk_definitions.specs.Edits.{Edit, edited_all}
use Rattle.disk_definitions.specs.ChangeLaws.{FilesFit}
use Rattle.disk_definitions.specs.Allowed.{IsAllowed}
use Rattle.disk_definitions.specs.Ask.{Sector, number_of, run}
use Rattle.disk_definitions.specs.Meets.{IsOfTree, IsHandOf}
use Rattle.disk_definitions.specs.Plans.{Hand, Finish}
use Rattle.disk_definitions.specs.Plans.Plan.{Finishes}
use Rattle.plan_laws.proofs.Covering.{map_has}
use Rattle.std.proofs.lemmas.List.Elements.{Contains-append_left}
use Rattle.std.proofs.lemmas.Bool.{both_ways}
use Rattle.disk_definitions.specs.Covers.{cover_of}
use Rattle.line_laws.proofs.Told.{namings_agree}
use Rattle.disk_definitions.specs.Lines.{plan_of_line}
use Rattle.line_laws.proofs.Covered.{line_edits_covered}
use Rattle.line_laws.proofs.Shaping.{some_shaped}
use Rattle.line_histories.specs.Files.{HoldsBytes, IsWritten}
use Rattle.line_histories.specs.LinePlans.{blocks_told, fill_by, hand_on, lock_in, sector_plan, segment_lock, store_on, without_bytes}
use Rattle.line_histories.specs.Outcomes.{IsOfAPlan, fill_shape}
use Rattle.line_histories.proofs.Hands.{is_hand}
use Rattle.line_histories.proofs.LinesSound.{lines_are_sound}
use Rattle.line_histories.proofs.Outcomes.{outcomes_of_plans, makes_of_edits}
use Rattle.line_histories.specs.Following.{CoversFollow, store_after}
use Rattle.line_histories.specs.Standing.{StandsForShape, StandsNumbered}
use Rattle.line_histories.specs.Trees.{AreTimes, MayNumber, MayTake, NumberedTree, performed, performed_numbered}
use Rattle.line_histories.proofs.Disks.{files_fit_now}
use Rattle.line_histories.proofs.Filled.{IsInUse, file_in_use, not_given, written_value}
use Rattle.line_histories.proofs.Following.{all_follow}
use Rattle.line_histories.proofs.Laid.{with_changes}
use Rattle.line_histories.proofs.Leading.{inodes_next}
use Rattle.line_histories.proofs.Meeting.{is_clear, hand_clear}
use Rattle.line_histories.proofs.Runs.{numbered, take_distinct, both}
use Rattle.line_histories.proofs.Steps.{IsStep, line_step}
use Rattle.line_histories.proofs.Told.{perform_told}
use Rattle.byte_trees.specs.Deeds.{Deed, Does, Says, Doubts, items, steps, tree_after}
use Rattle.byte_trees.specs.Doubts.{Agrees, Passes, AllAgree}
use Rattle.byte_trees.proofs.Lasting.{found as last_write}
use Rattle.line_histories.specs.Parts.{LiesIn, IsFinished}
use Rattle.line_histories.proofs.PartLaws.{lines_keep_parts, lines_meet_parts}
use Rattle.stop_laws.specs.Along.{LiesAfter, IsTold, IsSaid, HasShape, AllTold, DoubtIsTheSameAlongLines}
use Rattle.stop_laws.proofs.BytesCovered.{is_used, part_cover, history_cover}
use Rattle.stop_laws.proofs.Next.{ever_directories, finished, meets, naming_then, next_of}
use Rattle.stop_laws.proofs.BytesShaped.{by_shape, ok_aside}
use Rattle.stop_laws.proofs.BytesShaped as shaped_steps
use Rattle.stop_laws.proofs.Written.{some_shape, has_fill, has_bytes, value_written}

-- ---- a finished line, between two disks

pub record IsNext (segments : ℕ) (disk : Sectors) (tree : FileTree) (naming : Naming) (hint : List ℕ) (birth when : ℕ) (o : Op) (f : Finish) : Type 0 where
  pub ever : ℕ
  pub after : Naming
  pub done : IsFinished o (hand_on segments disk hint) (store_on segments disk) (shape_of tree) naming after birth when ever f
  pub inodes : (i : ℕ) → (store_on segments (with_changes disk f.edits)).inode i ≡ (edited_all (store_on segments disk) f.edits).inode i
  pub shape : shape_of (perform (shape_of tree) o birth when ever).tree ≡ shape_of (perform tree o birth when (blocks_told f.reply)).tree
  pub leads : FilesFit (node_at (shape_of (perform (shape_of tree) o birth when ever).tree)) →
      IsOfTree (store_on segments (with_changes disk f.edits)) (shape_of (perform (shape_of tree) o birth when ever).tree) after

module _ (disk : Sectors) (tree : FileTree) (stands : StandsForShape tree.segments disk tree) (hint : List ℕ) (birth when : ℕ) (o : Op) (may : IsAllowed o) (new : IsNew tree birth) (small_birth : birth < 2 ^ 64)
    (small_time : when < 2 ^ 64) (f : Finish) (is : run (plan_of_line (hand_on tree.segments disk hint) birth when o) (store_on tree.segments disk) ≡ Finishes f) where
  abbrev h : Hand
  h = hand_on tree.segments disk hint

  at : IsHandOf h (store_on tree.segments disk) tree.segments
  at = is_hand tree.segments disk hint (is_clear tree.segments disk tree stands)

  told : perform (shape_of tree) o birth when (blocks_told f.reply) ≡ perform (shape_of tree) o birth when (ever_directories disk tree stands h at (hand_clear tree.segments disk tree stands hint) birth when o may new small_birth small_time f is)
  told =
      perform_told (shape_of tree) o birth when (ever_directories disk tree stands h at (hand_clear tree.segments disk tree stands hint) birth when o may new small_birth small_time f is) f.reply
      (meets disk tree stands h at (hand_clear tree.segments disk tree stands hint) birth when o may new small_birth small_time f is).answer

  own_next : IsNext tree.segments disk tree stands.below.stands.naming hint birth when o f
  own_next = record {
    ever = ever_directories disk tree stands h at (hand_clear tree.segments disk tree stands hint) birth when o may new small_birth small_time f is;
    after = naming_then disk tree stands h at (hand_clear tree.segments disk tree stands hint) birth when o may new small_birth small_time f is;
    done = finished disk tree stands h at (hand_clear tree.segments disk tree stands hint) birth when o may new small_birth small_time f is;
    inodes = inodes_next disk tree stands h at (hand_clear tree.segments disk tree stands hint) birth when o may new small_birth small_time f is;
    shape = ap (λ (x : Applied). shape_of x.tree) (sym told) ∙ (perform_shape tree o birth when (blocks_told f.reply)).tree;
    leads = next_of disk tree stands h at (hand_clear tree.segments disk tree stands hint) birth when o may new small_birth small_time f is;
  }

line_next : (segments : ℕ) (disk : Sectors) (tree : FileTree) (stands : StandsForShape segments disk tree) (hint : List ℕ) (birth when : ℕ) (o : Op) → IsAllowed o → IsNew tree birth → birth < 2 ^ 64 → when < 2 ^ 64 → (f : Finish) →
    run (plan_of_line (hand_on segments disk hint) birth when o) (store_on segments disk) ≡ Finishes f → IsNext segments disk tree stands.below.stands.naming hint birth when o f
line_next count disk tree stands hint birth when o may new small_birth small_time f =
    subst (λ k. run (plan_of_line (hand_on k disk hint) birth when o) (store_on k disk) ≡ Finishes f → IsNext k disk tree stands.below.stands.naming hint birth when o f) stands.as_many
    (own_next disk tree (record { well_formed = stands.well_formed; as_many = refl; below = stands.below; zeros = stands.zeros }) hint birth when o may new small_birth small_time f)

pub fits : (segments : ℕ) (disk : Sectors) (tree : FileTree) → StandsForShape segments disk tree → FilesFit (node_at (shape_of tree))
fits segments disk tree stands = files_fit_now disk tree (record { well_formed = stands.well_formed; as_many = refl; below = stands.below; zeros = stands.zeros })

holds : (s : Store) (tree : FileTree) (n : Naming) (b t : ℕ) (x : Sector) → LiesIn s tree n b t x → HoldsBytes s x
holds s tree n b t x lies = record { inode = n.inode b; node = lies.stored; is = lies.is; kind = lies.kind; index = t; below = lies.below; here = lies.here }

-- ---- one operation more

module _ (segments : ℕ) (when : ℕ → ℕ) (times : AreTimes when) (opening : ℕ → Block) (start : NumberedTree) (begins : StandsNumbered segments opening start) where
  module _ (c : Commit) (h : List Item) (l : Legal (sector_plan segments when) opening (Done c ∷ h)) (d : Distinct MayTake start (Done c ∷ h)) (by : IsByPlan c) where
    abbrev pub disk : Sectors
    disk = logical opening h

    abbrev pub state : NumberedTree
    state = tree_of (performed_numbered when) start h

    abbrev pub to : FileTree
    to = (tree_of (performed_numbered when) start (Done c ∷ h)).tree

    pub stands_now : StandsNumbered segments disk state
    stands_now = (both segments when times opening start begins h l.1 d.2).0

    pub may : MayTake c.op state
    may = (both segments when times opening start begins h l.1 d.2).1 c.op d.1 d.0

    pub stands_then : StandsNumbered segments (logical opening (Done c ∷ h)) (tree_of (performed_numbered when) start (Done c ∷ h))
    stands_then = (both segments when times opening start begins (Done c ∷ h) l d).0

    pub fin : IsOfAPlan plan_of_line segments when c.hint c.op c.asked disk (outcome_of c)
    fin = outcomes_of_plans plan_of_line segments when c.hint c.op c.asked disk (outcome_of c) l.0

    abbrev pub finish : Finish
    finish = fin.comes.finish

    abbrev pub edits : List Edit
    edits = fin.comes.finish.edits

    abbrev pub next : Sectors
    next = with_changes disk fin.comes.finish.edits

    abbrev pub naming : Naming
    naming = stands_now.stands.below.stands.naming

    pub step : IsStep segments disk next c.hint (shape_of state.tree) stands_now.stands.below.stands.naming fin.comes.finish.edits
    step = line_step segments disk state.tree stands_now.stands c.hint c.op (when c.op) c.asked fin.allowed may.new may.small (times c.op) fin.comes.finish fin.comes.is

    pub after : IsNext segments disk state.tree stands_now.stands.below.stands.naming c.hint c.op (when c.op) c.asked fin.comes.finish
    after = line_next segments disk state.tree stands_now.stands c.hint c.op (when c.op) c.asked fin.allowed may.new may.small (times c.op) fin.comes.finish fin.comes.is

    pub store_is : store_after segments opening (Done c ∷ h) ≡ store_on segments next
    store_is = ap (λ (q : Outcome). store_on segments (λ s. forced (change_at q.changes s) (disk s))) fin.comes.outcome

    pub few : segments ≤ 64
    few = subst (λ k. k ≤ 64) stands_now.stands.as_many step.of.few

    -- the shape of the tree after it
    pub shape_is : shape_of (perform (shape_of state.tree) c.asked c.op (when c.op) after.ever).tree ≡ shape_of to
    shape_is = after.shape ∙ ap (λ (q : Outcome). shape_of (perform state.tree c.asked c.op (when c.op) q.blocks).tree) (sym fin.comes.outcome)

    pub then_of : IsOfTree (store_on segments next) (shape_of to) after.after
    then_of = subst (λ t. IsOfTree (store_on segments next) t after.after) shape_is
        (after.leads (subst (λ t. FilesFit (node_at t)) (sym shape_is) (fits segments (logical opening (Done c ∷ h)) to stands_then.stands)))

    -- ---- a part that lies in a sector afterwards, by any naming
    module _ (other : Naming) (of : IsOfTree (store_on segments next) (shape_of to) other) (b t : ℕ) (x : Sector) (lies : LiesIn (store_on segments next) (shape_of to) other b t x) where
      pub agree : other.inode b ≡ after.after.inode b
      agree = namings_agree (store_on segments next) (shape_of to) after.after other then_of of stands_then.stands.below.stands.reached b lies.there

      lies_edited : LiesIn (edited_all (store_on segments disk) edits) (perform (shape_of state.tree) c.asked c.op (when c.op) after.ever).tree after.after b t x
      lies_edited = record {
        there = sym (some_shaped (node_at (perform (shape_of state.tree) c.asked c.op (when c.op) after.ever).tree b))
            ∙ ap is_some (sym (found (perform (shape_of state.tree) c.asked c.op (when c.op) after.ever).tree b)) ∙ ap (λ u. is_some (node_at u b)) shape_is ∙ lies.there;
        stored = lies.stored;
        is = sym (after.inodes (after.after.inode b)) ∙ ap (store_on segments next).inode (sym agree) ∙ lies.is;
        kind = lies.kind;
        below = lies.below;
        here = lies.here;
      }

      kept : IsWritten edits x ⊎ (LiesIn (store_on segments disk) (shape_of state.tree) naming b t x × (naming.inode b ≡ after.after.inode b))
      kept = lines_keep_parts c.asked (hand_on segments disk c.hint) (store_on segments disk) (shape_of state.tree) naming after.after c.op (when c.op) after.ever finish after.done b t x lies_edited

      met : IsWritten edits x → step_writes (shape_of state.tree) (resolved (shape_of state.tree) c.asked).step finish.reply b t ≡ true
      met w = lines_meet_parts c.asked (hand_on segments disk c.hint) (store_on segments disk) (shape_of state.tree) naming after.after c.op (when c.op) after.ever finish after.done b t x lies_edited w

      pub in_use : IsInUse segments (store_on segments next) x
      in_use = subst (λ s. IsInUse segments s x) store_is
          (file_in_use segments (logical opening (Done c ∷ h)) to stands_then.stands x (subst (λ s. HoldsBytes s x) (sym store_is) (holds (store_on segments next) (shape_of to) other b t x lies)))

      -- ---- what is written
      fills : is_some (c.writes (number_of x)) ≡ is_some (fill_by edits (number_of x))
      fills =
          sym (some_shape (c.writes (number_of x)))
          ∙ ap is_some (ap fill_shape (by.made (number_of x)) ∙ makes_of_edits plan_of_line lines_are_sound segments when c.hint c.op c.asked disk (outcome_of c) fin (number_of x) (c.shown (number_of x)))
          ∙ some_shape (fill_by edits (number_of x))

      written_fills : IsWritten edits x → is_some (c.writes (number_of x)) ≡ true
      written_fills w = fills ∙ has_fill edits (number_of x) (written_value edits x w)

      pub fills_written : is_some (c.writes (number_of x)) ≡ true → IsWritten edits x
      fills_written e =
          value_written segments few (store_on segments next) edits step.fit x in_use
          (has_bytes edits (number_of x) (not_given segments few (store_on segments next) edits step.fit step.small_back step.large_back x in_use) (sym fills ∙ e))

      lay : is_some (c.writes (number_of x)) ≡ false → LiesIn (store_on segments disk) (shape_of state.tree) naming b t x
      lay none = ⊎_elim (λ w. absurd (both_ways (is_some (c.writes (number_of x))) none (written_fills w))) (λ r. r.0) kept

      -- ---- which lock covers it
      locks_used : (lock : LockId) → Contains finish.locks (lock, Sole) → has_lock lock c.uses ≡ true
      locks_used lock sole =
          ap (λ (q : Outcome). has_lock lock q.uses) fin.comes.outcome
          ∙ is_used (map lock_in finish.locks ++ map segment_lock c.hint) lock (Contains-append_left (map lock_in finish.locks) (map segment_lock c.hint) lock (map_has lock_in finish.locks (lock, Sole) sole))

      covered : (home : ℕ → LockId) → CoversFollow segments opening home h → (has_lock (cover_of naming x) c.uses ≡ true) → has_lock (seen.cover_of home h (number_of x)) c.uses ≡ true
      covered home follow used = ap (λ lock. has_lock lock c.uses) (history_cover segments few opening home h follow (shape_of state.tree) naming step.of (store_on segments next) x in_use) ∙ used

      cover_used : (LiesIn (store_on segments disk) (shape_of state.tree) naming b t x → has_lock (cover_of naming x) c.uses ≡ true) → has_lock (cover_of naming x) c.uses ≡ true
      cover_used before = ⊎_elim
          (λ w. locks_used (cover_of naming x) (subst (λ y. Contains finish.locks (cover_of naming y, Sole)) w.here
          (line_edits_covered c.asked (hand_on segments disk c.hint) (store_on segments disk) (shape_of state.tree) naming c.op (when c.op) finish step.of after.done.at_hand fin.comes.is w.edit w.among)))
          (λ r. before r.0) kept

-- ---- along a history

module _ (when : ℕ → ℕ) (first : FileTree) (numbers : List ℕ) where
  same_tree : (h : List Item) → (tree_of (performed_numbered when) (numbered first numbers) h).tree ≡ tree_of (performed when) first h
  same_tree [] = refl
  same_tree (Done c ∷ h) = ap (λ t. (performed when c.op c.asked c.blocks t).tree) (same_tree h)
  same_tree (Doubt m ∷ h) = same_tree h

module _ (segments : ℕ) (when : ℕ → ℕ) (times : AreTimes when) (opening : ℕ → Block) (first : FileTree) (numbers : List ℕ) (begins : StandsNumbered segments opening (numbered first numbers)) (home : ℕ → LockId)
    (server number : ℕ) (b t sector : ℕ) where
  abbrev Lies : List Deed → Type 0
  Lies deeds = LiesAfter segments opening first b t sector deeds

  abbrev Told : List Deed → Type 0
  Told deeds = AllTold segments when opening home first server number deeds

  pub shape_at : (deeds : List Deed) → Told deeds → HasShape when first deeds
  shape_at [] a = refl
  shape_at (Does c e ∷ older) a = a.1
  shape_at (Says e ∷ older) a = a.1
  shape_at (Doubts m runs ∷ older) a = a.0

  -- by the tree with the numbers that are left
  pub numbered_shape : (deeds : List Deed) → Told deeds → shape_of (tree_after first deeds) ≡ shape_of (tree_of (performed_numbered when) (numbered first numbers) (items deeds)).tree
  numbered_shape deeds a = shape_at deeds a ∙ ap shape_of (sym (same_tree when first numbers (items deeds)))

  -- ---- an operation
  module _ (c : Commit) (e : Entry) (older : List Deed) (l : Legal (sector_plan segments when) opening (Done c ∷ items older)) (d : Distinct MayTake (numbered first numbers) (Done c ∷ items older)) (by : IsByPlan c)
      (follow : CoversFollow segments opening home (items older)) (told : IsTold segments opening home first c e older) (now : Told older)
      (shape_then : shape_of (tree_after first (Does c e ∷ older)) ≡ shape_of (tree_of (performed_numbered when) (numbered first numbers) (Done c ∷ items older)).tree) where
    abbrev start : NumberedTree
    start = numbered first numbers

    abbrev tree : FileTree
    tree = tree_after first older

    before : shape_of tree ≡ shape_of (tree_of (performed_numbered when) start (items older)).tree
    before = numbered_shape older now

    abbrev store_then : Store
    store_then = store_on segments (next segments when times opening start begins c (items older) l d by)

    module _ (lies : Lies (Does c e ∷ older)) where
      of_then : IsOfTree store_then (shape_of (to segments when times opening start begins c (items older) l d by)) lies.naming
      of_then = subst (λ s. IsOfTree s (shape_of (to segments when times opening start begins c (items older) l d by)) lies.naming) (store_is segments when times opening start begins c (items older) l d by)
          (subst (λ u. IsOfTree (store_after segments opening (Done c ∷ items older)) u lies.naming) shape_then lies.of)

      lies_then : LiesIn store_then (shape_of (to segments when times opening start begins c (items older) l d by)) lies.naming b t lies.sector
      lies_then = subst (λ s. LiesIn s (shape_of (to segments when times opening start begins c (items older) l d by)) lies.naming b t lies.sector) (store_is segments when times opening start begins c (items older) l d by)
          (subst (λ u. LiesIn (store_after segments opening (Done c ∷ items older)) u lies.naming b t lies.sector) shape_then lies.lies)

      stays : is_some (c.writes sector) ≡ false → Lies older
      stays none =
          let r = lay segments when times opening start begins c (items older) l d by lies.naming of_then b t lies.sector lies_then (subst (λ s. is_some (c.writes s) ≡ false) lies.here none) in
          record {
            naming = naming segments when times opening start begins c (items older) l d by;
            of = subst (λ u. IsOfTree (store_after segments opening (items older)) u (naming segments when times opening start begins c (items older) l d by)) (sym before)
                (step segments when times opening start begins c (items older) l d by).of;
            sector = lies.sector;
            lies = subst (λ u. LiesIn (store_after segments opening (items older)) u (naming segments when times opening start begins c (items older) l d by) b t lies.sector) (sym before) r;
            here = lies.here;
          }

      meets_it : is_some (c.writes sector) ≡ true → entry_writes tree e b t ≡ true
      meets_it some =
          let w = fills_written segments when times opening start begins c (items older) l d by lies.naming of_then b t lies.sector lies_then (subst (λ s. is_some (c.writes s) ≡ true) lies.here some) in
          let m = met segments when times opening start begins c (items older) l d by lies.naming of_then b t lies.sector lies_then w in
          let f = finish segments when times opening start begins c (items older) l d by in
          let ok : f.reply ≡ reply.Ok = shaped_steps.is_ok (shape_of (tree_of (performed_numbered when) start (items older)).tree) b t
          (resolved (shape_of (tree_of (performed_numbered when) start (items older)).tree) c.asked).step f.reply m in
          let said : e.reply ≡ reply.Ok = ok_aside e.reply (told.reply ∙ ap (λ (q : Outcome). q.reply) (fin segments when times opening start begins c (items older) l d by).comes.outcome ∙ ap without_bytes ok) in
          let shaped_met : step_writes (shape_of tree) (resolved (shape_of tree) c.asked).step reply.Ok b t ≡ true =
          subst (λ u. step_writes u (resolved u c.asked).step reply.Ok b t ≡ true) (sym before)
          (subst (λ r. step_writes (shape_of (tree_of (performed_numbered when) start (items older)).tree) (resolved (shape_of (tree_of (performed_numbered when) start (items older)).tree) c.asked).step r b t ≡ true) ok m) in
          let tree_met : step_writes tree (resolved tree c.asked).step reply.Ok b t ≡ true = sym (by_shape tree b t c.asked) ∙ shaped_met in
          subst (λ o. step_writes tree (resolved tree o).step e.reply b t ≡ true) (sym told.asked) (subst (λ r. step_writes tree (resolved tree c.asked).step r b t ≡ true) (sym said) tree_met)

      sees_it : touches tree e b ≡ true → c.sees sector ≡ true
      sees_it touched =
          let n = naming segments when times opening start begins c (items older) l d by in
          let of_now = (step segments when times opening start begins c (items older) l d by).of in
          let used = cover_used segments when times opening start begins c (items older) l d by lies.naming of_then b t lies.sector lies_then
          (λ r. ap (λ lock. has_lock lock c.uses) (part_cover (store_after segments opening (items older)) (shape_of (tree_of (performed_numbered when) start (items older)).tree) n of_now b t lies.sector r)
          ∙ told.uses b n (subst (λ u. IsOfTree (store_after segments opening (items older)) u n) (sym before) of_now) (ap (λ u. is_some (node_at u b)) before ∙ r.there) touched) in
          told.sees sector (subst (λ s. has_lock (seen.cover_of home (items older) s) c.uses ≡ true) (sym lies.here)
          (covered segments when times opening start begins c (items older) l d by lies.naming of_then b t lies.sector lies_then home follow used))

    agrees : Agrees first b t Lies sector c e older
    agrees = record {
      by = told.by;
      answers = told.answers;
      no_mount = told.no_mount;
      no_sync = told.no_sync;
      stays = λ lies none unmet. stays lies none;
      met = λ lies some. meets_it lies some;
      seen = λ lies touched. sees_it lies touched;
    }

  -- ---- what does nothing to sectors
  shape_stays : (one two : List Deed) → items one ≡ items two → shape_of (tree_after first one) ≡ shape_of (tree_after first two) → Lies one → Lies two
  shape_stays one two same shape lies = record {
    naming = lies.naming;
    of = subst (λ h. IsOfTree (store_after segments opening h) (shape_of (tree_after first two)) lies.naming) same (subst (λ u. IsOfTree (store_after segments opening (items one)) u lies.naming) shape lies.of);
    sector = lies.sector;
    lies = subst (λ h. LiesIn (store_after segments opening h) (shape_of (tree_after first two)) lies.naming b t lies.sector) same
        (subst (λ u. LiesIn (store_after segments opening (items one)) u lies.naming b t lies.sector) shape lies.lies);
    here = lies.here;
  }

  -- a mark of doubt leaves the sectors with versions
  mark_stays : (m : ℕ → Bool) (runs : List CellRun) (older : List Deed) → shape_of (tree_after first (Doubts m runs ∷ older)) ≡ shape_of (tree_after first older) → Lies (Doubts m runs ∷ older) → Lies older
  mark_stays m runs older shape lies = record {
    naming = lies.naming;
    of = subst (λ u. IsOfTree (store_after segments opening (items older)) u lies.naming) shape lies.of;
    sector = lies.sector;
    lies = subst (λ u. LiesIn (store_after segments opening (items older)) u lies.naming b t lies.sector) shape lies.lies;
    here = lies.here;
  }

  passes : (e : Entry) (older : List Deed) → IsSaid first server number e older → shape_of (tree_after first (Says e ∷ older)) ≡ shape_of (tree_after first older) → Passes first server number b t Lies e older
  passes e older said shape = record {
    stays = shape_stays (Says e ∷ older) older refl shape;
    meets_none = said.meets_none b t;
    touches_none = said.touches_none b;
    covers = said.covers;
  }

  all_agree : (deeds : List Deed) → ((h : List Item) → Legal (sector_plan segments when) opening h → Distinct (MayNumber numbers) first h → Each IsByPlan h → CoversFollow segments opening home h) →
      Legal (sector_plan segments when) opening (items deeds) → Distinct (MayNumber numbers) first (items deeds) → Each IsByPlan (items deeds) → Told deeds → AllAgree first server number b t Lies sector deeds
  all_agree [] follow l d by a = tt
  all_agree (Does c e ∷ older) follow l d by a = (
    agrees c e older l (take_distinct when first numbers (items (Does c e ∷ older)) d) by.0 (follow (items older) l.1 d.2 by.1) a.0 a.2 (numbered_shape (Does c e ∷ older) a),
    all_agree older follow l.1 d.2 by.1 a.2,
  )
  all_agree (Says e ∷ older) follow l d by a = (passes e older a.0 (shape_at (Says e ∷ older) a ∙ sym (shape_at older a.2)), all_agree older follow l d by a.2)
  all_agree (Doubts m runs ∷ older) follow l d by a = (mark_stays m runs older (shape_at (Doubts m runs ∷ older) a ∙ sym (shape_at older a.1)), all_agree older follow l d by a.1)

pub doubt_same_along : DoubtIsTheSameAlongLines
doubt_same_along segments when opening first numbers home logged start server number deeds times begins legal distinct by follows told b t sector lies doubt =
    a_last_write_leaves_doubt server b t first (steps deeds)
    (last_write first server number b t (λ deeds. LiesAfter segments opening first b t sector deeds) sector deeds
    (all_agree segments when times opening first numbers begins home server number b t sector deeds
    (λ h l d by. (all_follow segments when opening first numbers h home logged start times begins l d by follows).covers) legal distinct by told)
    lies doubt)
