-- An operation keeps cells known: it comes from a disk that had the bytes of the tree before it, and its line leaves the bytes of the tree after its entry.
use Rattle.std.proofs.Common.{ℕ, ◌≡◌, ◌≤◌, ◌<◌, ◌-◌, ◌/◌, ◌%◌, ⊎_elim, Bool, true, false, ◌||◌, if◌then◌else◌, Option, Some, None, List, [], ◌∷◌, map, length, is_some, slice_index, refl, sym, ◌∙◌, ap, ap₂, subst}
use Rattle.std.proofs.lemmas.Bool.{and_from, false_from_ne_true}
use Rattle.std.proofs.lemmas.List.{length-map}
use Rattle.std.proofs.lemmas.Option.{slice_get_within}
use Rattle.std.specs.List.{Contains, filter_map}
use Rattle.std.specs.Option.{option_map}
use Rattle.frang_base.specs.declared.lock.LockId.{LockId}
use Rattle.frang_base.specs.Functions.{member}
use Rattle.tree_definitions.specs.declared.cells.Cell.{Cell}
use Rattle.tree_definitions.specs.declared.cells.Cell.TheVariants.{Doubtful}
use Rattle.tree_definitions.specs.declared.history.Entry.{Entry}
use Rattle.tree_definitions.specs.declared.node.Node.{Node}
use Rattle.tree_definitions.specs.declared.node.Node.TheVariants.{Dir, File, Link}
use Rattle.tree_definitions.specs.Apply.{Applied, is_path_op}
use Rattle.tree_definitions.specs.History.{Stays, agrees, applied, is_answer, leaves_tree, told_blocks}
use Rattle.tree_definitions.specs.History as trees
use Rattle.tree_definitions.specs.Perform.{perform}
use Rattle.tree_definitions.specs.Touched.{shape_of, doubts, shaped}
use Rattle.tree_definitions.specs.Tree.{FileTree, count_of, dir_blocks, node_at}
use Rattle.tree_definitions.specs.WellFormed.{IsNew}
use Rattle.tree_laws.proofs.HistoryLaws.{after_all-push}
use Rattle.tree_laws.proofs.OwnReplies.{answers_are_own}
use Rattle.tree_laws.proofs.ShapeNodes.{again, found, room_stays}
use Rattle.sector_bytes.specs.Blocks.{Block, zero_block}
use Rattle.sector_bytes.specs.SectorMaps.{value_at}
use Rattle.disk_definitions.specs.declared.region.Region.TheVariants as region
use Rattle.disk_definitions.specs.Regions.{sector_of}
use Rattle.disk_definitions.proofs.RegionLaws.{region_found}
use Rattle.sector_world.specs.HistoryBytes.{Agree, value}
use Rattle.sector_world.specs.Histories.{Commit, Item, is_logged, logical}
use Rattle.sector_world.specs.Histories.Fill.{Written, Freed}
use Rattle.sector_world.specs.Histories.Item.{Done}
use Rattle.sector_world.specs.Plans.{IsByPlan, made_of}
use Rattle.disk_definitions.specs.Naming.{Allows, Naming, cell_in, file_byte}
use Rattle.disk_definitions.specs.Store.{Store, store_of}
use Rattle.disk_definitions.specs.Store.Use.{Fresh, Bytes}
use Rattle.disk_definitions.specs.Edits.{Edit, edited_all}
use Rattle.disk_definitions.specs.Edits.Edit.{SetInode, SetBit, SetUse, SetPlace, SetLarge, SetBytes, SetLargeBytes}
use Rattle.disk_definitions.specs.ChangeLaws.{FilesFit}
use Rattle.disk_definitions.proofs.Counts.{same_byte}
use Rattle.disk_definitions.specs.Ask.{Sector, InodeAt, DirectoryAt, SegmentAt, BytesAt, LargeAt, Ask, looks, number_of, run}
use Rattle.disk_definitions.specs.Meets.{Answers, IsOfTree, IsHandOf, directory_blocks_in, is_directory_use}
use Rattle.disk_definitions.specs.Plans.{Hand, Plan}
use Rattle.disk_definitions.specs.Plans.Plan.{Finishes}
use Rattle.disk_definitions.specs.Written.{byte_writes, edit_sector, edited_block, freed_sectors, is_metadata}
use Rattle.plan_laws.specs.Looked.{edited_at}
use Rattle.disk_definitions.specs.Numbered.{sector_in}
use Rattle.line_laws.proofs.Told.{namings_agree}
use Rattle.plan_fit.proofs.Kept.{in_large, in_small}
use Rattle.plan_laws.specs.Keeping.{FinishKeeps, PlanKeeps}
use Rattle.line_laws.specs.Laws.{HasPath}
use Rattle.line_laws.specs.Stores.{blank}
use Rattle.line_laws.proofs.Shaping.{shapes_stand}
use Rattle.disk_definitions.specs.Lines.{plan_of_line}
use Rattle.line_laws.proofs.Planned.{lines_planned}
use Rattle.line_histories.specs.Files.{HoldsBytes, IsWritten}
use Rattle.line_histories.specs.LinePlans.{byte_shown, edits_in, fill_by, hand_on, plain, store_on, store_showing}
use Rattle.line_histories.specs.Planners.{edit_shape, plan_shape}
use Rattle.line_histories.proofs.AllBlind.{bytes_dont_decide}
use Rattle.line_histories.proofs.Lists.{filter_has, has_member}
use Rattle.line_histories.proofs.Outcomes.{edits_same, fills_same}
use Rattle.line_histories.proofs.Places.{lines_write_in_place}
use Rattle.line_histories.proofs.Shapes.{freed_same}
use Rattle.line_histories.specs.Following.{Follows, KindsFollow, store_after}
use Rattle.line_histories.proofs.Filled.{IsInUse}
use Rattle.byte_trees.specs.Before.{WasBefore}
use Rattle.byte_trees.proofs.Back.{steps_back}
use Rattle.byte_trees.proofs.Nodes.{well_too}
use Rattle.byte_trees.specs.Written.{WriteNone, WriteNoneLarge}
use Rattle.byte_trees.proofs.Written.{large_stand, small_stand}
use Rattle.stop_laws.specs.Keeping.{FinishesOver, KeepsBytes}
use Rattle.stop_laws.proofs.BytesKept.{agrees_by, lines_keep}
use Rattle.stop_laws.proofs.BytesTold.{told_same}
use Rattle.byte_trees.specs.Deeds.{Deed, Does, items, steps, tree_after}
use Rattle.line_histories.specs.Parts.{LiesIn}
use Rattle.byte_trees.specs.Standing.{HasItsBytes}
use Rattle.stop_laws.specs.Known.{HasWhatIsKnown, KnowsCells}
use Rattle.line_histories.proofs.Looked.{lines_look}
use Rattle.line_histories.proofs.Made.{made_exact}
use Rattle.stop_laws.specs.Cells.{IsShown, having}
use Rattle.stop_laws.proofs.Counted.{directories_few}
use Rattle.stop_laws.proofs.Lying.{block_same, large_lies, large_same, small_lies}
use Rattle.line_sectors.proofs.Pieces.{one_edit}
use Rattle.stop_laws.proofs.Shaped.{same_blank, written_too}
use Rattle.stop_laws.proofs.Stepping.{IsStepped}
use Rattle.stop_laws.proofs.Showing.{IsShownAt, bytes_on, run_shown, shown_there}
use Rattle.stop_laws.proofs.Values.{value_is}
use Rattle.stop_laws.proofs.Recorded.{path_is}
use Rattle.stop_laws.proofs.Lines.{no_node}

-- ---- small facts

unclaimed_by : (b older : Bool) → (if b then true else older) ≡ false → b ≡ false
unclaimed_by true older e = absurd (cc)
unclaimed_by false older e = refl

some_of : (o : Option Block) → is_some o ≡ true → (block : Block) × (o ≡ Some block)
some_of None e = absurd (cc)
some_of (Some block) e = (block, refl)

or_else : Option Block → Block → Block
or_else None other = other
or_else (Some block) other = block

-- files of one shape fit alike
pub fit_back : (t : FileTree) → FilesFit (node_at (shape_of t)) → FilesFit (node_at t)
fit_back t fit b links when cells is = subst (λ k. k ≤ 1114112) (length-map cells (λ c. Doubtful)) (fit b links when (doubts cells) (found t b ∙ ap shaped is))

-- a fill that isn't freed, by the value that is written
fill_kept : (edits : List Edit) (number : ℕ) → member number (freed_sectors edits) ≡ false →
    fill_by edits number ≡ option_map (λ bytes. Written bytes) (value_at (byte_writes edits) number)
fill_kept edits number none = ap (λ (b : Bool). if b then Some Freed else option_map (λ bytes. Written bytes) (value_at (byte_writes edits) number)) none

-- where none writes a part, no edit of bytes is of it
set_small : (edits : List Edit) (k part : ℕ) → WriteNone edits k part → (d : Edit) → Contains edits d → is_metadata d ≡ false → edited_at d ≡ BytesAt k part → ⊥
set_small edits k part none (SetBytes j q bytes) c p e =
    let block : j ≡ k = cc in
    let there : q ≡ part = cc in
    none bytes (subst (λ z. Contains edits (SetBytes k z bytes)) there (subst (λ z. Contains edits (SetBytes z q bytes)) block c))
set_small edits k part none (SetLargeBytes g q bytes) c p e = cc
set_small edits k part none (SetInode i x dated) c p e = cc
set_small edits k part none (SetBit i b) c p e = cc
set_small edits k part none (SetUse j u) c p e = cc
set_small edits k part none (SetPlace j q x) c p e = cc
set_small edits k part none (SetLarge g b) c p e = cc

set_large : (edits : List Edit) (g part : ℕ) → WriteNoneLarge edits g part → (d : Edit) → Contains edits d → is_metadata d ≡ false → edited_at d ≡ LargeAt g part → ⊥
set_large edits g part none (SetLargeBytes j q bytes) c p e =
    let block : j ≡ g = cc in
    let there : q ≡ part = cc in
    none bytes (subst (λ z. Contains edits (SetLargeBytes g z bytes)) there (subst (λ z. Contains edits (SetLargeBytes z q bytes)) block c))
set_large edits g part none (SetBytes k q bytes) c p e = cc
set_large edits g part none (SetInode i x dated) c p e = cc
set_large edits g part none (SetBit i b) c p e = cc
set_large edits g part none (SetUse j u) c p e = cc
set_large edits g part none (SetPlace j q x) c p e = cc
set_large edits g part none (SetLarge j b) c p e = cc

-- a sector of bytes that is in use after a history has no version
plain_by : (segments : ℕ) (opening : ℕ → Block) (logged : ℕ → Bool) (h : List Item) → segments ≤ 64 → KindsFollow segments opening logged h → (x : Sector) →
    IsInUse segments (store_after segments opening h) x →
    is_logged logged h (number_of x) ≡ false
plain_by segments opening logged h few kinds (BytesAt k p) u =
    kinds (number_of (BytesAt k p)) (DirectoryAt k p) (ap sector_in (region_found segments (region.Small k p) few (in_small segments k p u.1 u.2))) ∙ ap is_directory_use u.0
plain_by segments opening logged h few kinds (LargeAt g p) u = kinds (number_of (LargeAt g p)) (LargeAt g p) (ap sector_in (region_found segments (region.Large g p) few (in_large segments g p u.1 u.2)))
plain_by segments opening logged h few kinds (InodeAt i) u = absurd u
plain_by segments opening logged h few kinds (DirectoryAt k p) u = absurd u
plain_by segments opening logged h few kinds (SegmentAt k) u = absurd u

-- ---- an operation

module _ (segments : ℕ) (when : ℕ → ℕ) (opening : ℕ → Block) (first_tree : FileTree) (home : ℕ → LockId) (logged : ℕ → Bool) (first : ℕ → Option Block) (c : Commit)
    (e : Entry) (older : List Deed)
    (to : FileTree) (step : IsStepped segments when opening (items older) c (tree_after first_tree older) to) (by : IsByPlan c)
    (agree : Agree first (Done c ∷ items older)) (asked : e.op ≡ c.asked) (shown : IsShown segments when opening c e older)
    (knows : KnowsCells segments opening logged first first_tree older)
    (follow : Follows segments opening home logged first (items older)) (later : Follows segments opening home logged first (Done c ∷ items older)) where
  abbrev tree : FileTree
  tree = tree_after first_tree older

  abbrev base : Store
  base = store_on segments (logical opening (items older))

  abbrev next : Store
  next = store_after segments opening (Done c ∷ items older)

  abbrev hand : Hand
  hand = hand_on segments (logical opening (items older)) c.hint

  abbrev program : Ask Plan
  program = plan_of_line (hand_on segments (logical opening (items older)) c.hint) c.op (when c.op) c.asked

  -- ---- sectors of files before it have no version, and get none
  plain_now : (x : Sector) → IsInUse segments base x → is_logged logged (items older) (number_of x) ≡ false
  plain_now x u = plain_by segments opening logged (items older) step.few follow.kinds x u

  no_directory : (k : ℕ) → base.use_of k ≡ Bytes → is_directory_use (next.use_of k) ≡ false
  no_directory k u = false_from_ne_true (is_directory_use (next.use_of k))
      (λ q. ⊎_elim (λ i. (let z : true ≡ false = sym i ∙ ap is_directory_use u in cc)) (λ i. (let z : Bytes ≡ Fresh = sym u ∙ i in cc)) (step.comes k q))

  plain_still : (x : Sector) → IsInUse segments base x → is_logged logged (Done c ∷ items older) (number_of x) ≡ false
  plain_still (BytesAt k p) u =
      later.kinds (number_of (BytesAt k p)) (DirectoryAt k p) (ap sector_in (region_found segments (region.Small k p) step.few (in_small segments k p u.1 u.2))) ∙ no_directory k u.0
  plain_still (LargeAt g p) u = later.kinds (number_of (LargeAt g p)) (LargeAt g p) (ap sector_in (region_found segments (region.Large g p) step.few (in_large segments g p u.1 u.2)))
  plain_still (InodeAt i) u = absurd u
  plain_still (DirectoryAt k p) u = absurd u
  plain_still (SegmentAt k) u = absurd u

  module _ (disk : ℕ → Block) (has : HasWhatIsKnown logged first (Done c ∷ items older) disk) where
    -- ---- a disk from which it comes
    was : WasBefore logged first c (items older) disk
    was = steps_back logged first c (items older) disk by agree has

    abbrev old : Store
    old = bytes_on segments was.before (store_on segments (logical opening (items older)))

    blind : (looks program old ≡ looks program base) × (plan_shape (run program old) ≡ plan_shape (run program base))
    blind = bytes_dont_decide c.asked hand base c.op (when c.op) (store_of segments was.before).byte (store_of segments was.before).large_byte

    read_shown : (x : Sector) → Contains (looks program base) x → plain x ≡ Some (number_of x) → HoldsBytes base x → c.shown (number_of x) ≡ Some (was.before (number_of x))
    read_shown x i p holds =
        let u = step.used x holds in
        let read : member (number_of x) c.reads ≡ true
        = ap (member (number_of x)) step.reads ∙ has_member (number_of x) (filter_map plain (looks program base)) (filter_has plain (looks program base) x (number_of x) p i) in
        let some = some_of (c.shown (number_of x)) (by.shown (number_of x) ∙ read) in
        some.1 ∙ ap (λ b. Some b) (sym (was.shown (number_of x) some.0 (plain_now x u) (follow.filled x holds) some.1 (plain_still x u)))

    seen : (x : Sector) → Contains (looks program old) x → Contains (looks program base) x
    seen x i = subst (λ l. Contains l x) blind.0 i

    shown_at : (x : Sector) → Contains (looks program old) x → IsShownAt c.shown was.before x
    shown_at (BytesAt k p) i = read_shown (BytesAt k p) (seen (BytesAt k p) i) refl (lines_look c.asked hand base c.op (when c.op) (BytesAt k p) (seen (BytesAt k p) i))
    shown_at (LargeAt g p) i = read_shown (LargeAt g p) (seen (LargeAt g p) i) refl (lines_look c.asked hand base c.op (when c.op) (LargeAt g p) (seen (LargeAt g p) i))
    shown_at (InodeAt i) j = tt
    shown_at (DirectoryAt k p) j = tt
    shown_at (SegmentAt k) j = tt

    comes_now : run program old ≡ Finishes shown.finish
    comes_now = sym (run_shown segments base c.shown was.before program shown_at) ∙ shown.comes

    -- ---- it has the bytes of the tree, so the line keeps them
    of_now : IsOfTree old (shape_of tree) step.naming
    of_now = subst (λ u. IsOfTree old u step.naming) (again tree) ((shapes_stand base (shape_of tree) step.naming step.of).others (store_of segments was.before).byte (store_of segments was.before).large_byte)

    hand_now : IsHandOf hand old tree.segments
    hand_now = record {
      within = step.at_hand.within;
      all = step.at_hand.all;
      bits = step.at_hand.bits;
      states = step.at_hand.states;
      larges = step.at_hand.larges;
      zeroed = step.at_hand.zeroed;
    }

    few_now : count_of dir_blocks tree ≤ step.ever
    few_now = subst (λ k. count_of dir_blocks tree ≤ k) (sym step.files.directories)
        (subst (λ k. k ≤ directory_blocks_in base tree.segments) (room_stays tree).dirs (directories_few base (shape_of tree) step.naming step.of))

    -- it is answered as a line with a path is
    path : is_path_op e.op ≡ true
    path = path_is e.op (subst HasPath (sym asked) step.path)

    answers_shape : Answers (perform (shape_of tree) c.asked c.op (when c.op) step.ever).answer e.reply
    answers_shape =
        let keeps : FinishKeeps old (shape_of tree) step.naming (perform (shape_of tree) c.asked c.op (when c.op) step.ever) shown.finish
        = subst (PlanKeeps hand old (shape_of tree) step.naming (perform (shape_of tree) c.asked c.op (when c.op) step.ever)) comes_now
        (lines_planned c.asked hand old (shape_of tree) step.naming c.op (when c.op) step.ever of_now hand_now step.new (record { fit = step.files.fit; directories = step.files.directories })) in
        subst (Answers (perform (shape_of tree) c.asked c.op (when c.op) step.ever).answer) (sym shown.said) keeps.meets.answer

    applied_is : applied (shape_of tree) e ≡ perform (shape_of tree) c.asked c.op (when c.op) step.ever
    applied_is =
        ap (λ k. perform (shape_of tree) e.op k e.when (told_blocks (shape_of tree) e.reply)) shown.number
        ∙ ap (λ w. perform (shape_of tree) e.op c.op w (told_blocks (shape_of tree) e.reply)) shown.time
        ∙ ap (λ o. perform (shape_of tree) o c.op (when c.op) (told_blocks (shape_of tree) e.reply)) asked
        ∙ told_same (shape_of tree) c.asked c.op (when c.op) step.ever e.reply
        (subst (λ k. count_of dir_blocks (shape_of tree) ≤ k) (sym step.files.directories) (directories_few base (shape_of tree) step.naming step.of)) answers_shape

    acts : leaves_tree e.op e.reply ≡ false
    acts = answers_are_own (shape_of tree) e
        (and_from (is_path_op e.op) (agrees (applied (shape_of tree) e).answer e.reply) path
        (subst (λ (a : Applied). agrees a.answer e.reply ≡ true) (sym applied_is) (agrees_by (perform (shape_of tree) c.asked c.op (when c.op) step.ever).answer e.reply answers_shape)))

    over : FinishesOver hand old tree step.naming step.ever e shown.finish
    over = record {
      well_formed = well_too (shape_of tree) tree (again tree) step.of.well_formed;
      shape = of_now;
      bytes = knows step.naming step.of was.before was.known;
      at_hand = hand_now;
      new = subst (λ k. IsNew tree k) (sym shown.number) (no_node (node_at tree c.op) (sym (found tree c.op) ∙ step.new));
      files = record { fit = fit_back tree step.files.fit; directories = step.files.directories };
      comes = ap (λ k. run (plan_of_line hand k e.when e.op) old) shown.number ∙ ap (λ w. run (plan_of_line hand c.op w e.op) old) shown.time
          ∙ ap (λ o. run (plan_of_line hand c.op (when c.op) o) old) asked ∙ comes_now;
      said = shown.said;
      path = path;
      acts = acts;
      few = few_now;
    }

    kept : KeepsBytes old tree step.ever e shown.finish
    kept = lines_keep hand old tree step.naming step.ever e shown.finish over

    -- ---- the edited store
    abbrev edits : List Edit
    edits = shown.finish.edits

    abbrev made : Store
    made = edited_all old shown.finish.edits

    of_made : IsOfTree made (shape_of to) kept.naming
    of_made = subst (λ u. IsOfTree made u kept.naming)
        (ap (λ k. shape_of (perform tree e.op k e.when step.ever).tree) shown.number ∙ ap (λ w. shape_of (perform tree e.op c.op w step.ever).tree) shown.time
        ∙ ap (λ o. shape_of (perform tree o c.op (when c.op) step.ever).tree) asked ∙ step.performs) kept.shape

    same_shape : map edit_shape edits ≡ map edit_shape step.finish.edits
    same_shape = edits_same (Finishes shown.finish) (Finishes step.finish) (ap plan_shape (sym comes_now) ∙ blind.1 ∙ ap plan_shape step.is)

    blank_same : blank made ≡ blank (edited_all base step.finish.edits)
    blank_same = same_blank edits step.finish.edits old base same_shape refl

    inodes_same : (i : ℕ) → made.inode i ≡ next.inode i
    inodes_same i = ap (λ (s : Store). s.inode i) blank_same ∙ sym (step.inodes i)

    named_same : (b : ℕ) → is_some (node_at (shape_of to) b) ≡ true → kept.naming.inode b ≡ step.after.inode b
    named_same b there =
        namings_agree (blank made) (shape_of to) step.after kept.naming (subst (λ s. IsOfTree s (shape_of to) step.after) (sym blank_same) step.leads)
        (subst (λ u. IsOfTree (blank made) u kept.naming) (again to) (shapes_stand made (shape_of to) kept.naming of_made).blank) step.reached b there

    one_write : (d g : Edit) → Contains edits d → Contains edits g → is_metadata d ≡ false → is_metadata g ≡ false → edit_sector d ≡ edit_sector g → d ≡ g
    one_write d g = one_edit c.asked hand old (shape_of tree) step.naming c.op (when c.op) shown.finish of_now hand_now comes_now (shape_of to) kept.naming of_made step.fit d g

    -- ---- what it wrote, by what it showed
    abbrev planned : Option Block → Plan
    planned v = run program (store_showing v segments (logical opening (items older)))

    module _ (number : ℕ) (given : member number (freed_sectors step.finish.edits) ≡ false) where
      shown_shape : plan_shape (planned (c.shown number)) ≡ plan_shape (run program base)
      shown_shape = (bytes_dont_decide c.asked hand base c.op (when c.op) (λ block index. byte_shown (c.shown number) (index % 512)) (λ large index. byte_shown (c.shown number) (index % 512))).1

      shown_edits : map edit_shape (edits_in (planned (c.shown number))) ≡ map edit_shape step.finish.edits
      shown_edits = edits_same (planned (c.shown number)) (Finishes step.finish) (shown_shape ∙ ap plan_shape step.is)

      writes_made : c.writes number ≡ fill_by (edits_in (planned (c.shown number))) number
      writes_made =
          by.made number ∙ ap (λ o. made_of o (c.shown number)) (step.makes number)
          ∙ made_exact planned number (c.shown number)
          (fills_same (edits_in (planned (c.shown number))) (edits_in (planned None)) (edits_same (planned (c.shown number)) (planned None) shown_shape) number)

      value_same : value_at (byte_writes (edits_in (planned (c.shown number)))) number ≡ value_at (byte_writes edits) number
      value_same =
          lines_write_in_place c.asked hand base (shape_of tree) step.naming c.op (when c.op) (having c.shown base).byte (having c.shown base).large_byte
          (λ block index. byte_shown (c.shown number) (index % 512)) (λ large index. byte_shown (c.shown number) (index % 512)) number step.of (shown_there c.shown base number)
          ∙ ap (λ v. value_at (byte_writes (edits_in v)) number) shown.comes

      writes_is : c.writes number ≡ option_map (λ bytes. Written bytes) (value_at (byte_writes edits) number)
      writes_is =
          writes_made
          ∙ fill_kept (edits_in (planned (c.shown number))) number (ap (member number) (freed_same (edits_in (planned (c.shown number))) step.finish.edits shown_edits) ∙ given)
          ∙ ap (option_map (λ bytes. Written bytes)) value_same

    -- ---- a part of a file after it, by any naming
    module _ (n : Naming) (of : IsOfTree next (shape_of to) n) (b t : ℕ) (x : Sector) (lies : LiesIn next (shape_of to) n b t x) where
      used : IsInUse segments next x
      used = step.used_then n of b t x lies

      plain_then : is_logged logged (Done c ∷ items older) (number_of x) ≡ false
      plain_then = plain_by segments opening logged (Done c ∷ items older) step.few later.kinds x used

      edit_stands : (d : Edit) → Contains edits d → is_metadata d ≡ false → edit_sector d ≡ number_of x → edited_block [] 0 d ≡ disk (number_of x)
      edit_stands d i p here =
          let value : value_at (byte_writes edits) (number_of x) ≡ Some (edited_block [] 0 d)
          = subst (λ k. value_at (byte_writes edits) k ≡ Some (edited_block [] 0 d)) here (value_is edits d i p (λ g j q same. one_write g d j i q p same)) in
          sym (was.made (number_of x) (edited_block [] 0 d) plain_then (writes_is (number_of x) (step.kept x used) ∙ ap (option_map (λ bytes. Written bytes)) value))

      left_stands : (IsWritten edits x → ⊥) → was.before (number_of x) ≡ disk (number_of x)
      left_stands none =
          let unwritten : is_some (c.writes (number_of x)) ≡ false
          = false_from_ne_true (is_some (c.writes (number_of x))) (λ w. none (written_too step.finish.edits edits (sym same_shape) x (step.written n of b t x lies w))) in
          let unclaimed : c.claims (number_of x) ≡ false = unclaimed_by (c.claims (number_of x)) (is_logged logged (items older) (number_of x)) plain_then in
          was.left (number_of x) (ap₂ (λ v w. v || w) unwritten unclaimed)

    module _ (n : Naming) (of : IsOfTree next (shape_of to) n) (b t : ℕ) where
      small_stands : (k i : ℕ) → LiesIn next (shape_of to) n b t (BytesAt k (i / 512)) → made.byte k i ≡ (store_of segments disk).byte k i
      small_stands k i lies =
          small_stand old edits k i (disk (sector_of (region.Small k (i / 512)))) (λ bytes j. edit_stands n of b t (BytesAt k (i / 512)) lies (SetBytes k (i / 512) bytes) j refl refl)
          (λ none. ap (λ z. slice_index z (i % 512)) (left_stands n of b t (BytesAt k (i / 512)) lies (λ w. set_small edits k (i / 512) none w.edit w.among w.bytes w.here)))

      large_stands : (g i : ℕ) → LiesIn next (shape_of to) n b t (LargeAt g (i / 512)) → made.large_byte g i ≡ (store_of segments disk).large_byte g i
      large_stands g i lies =
          large_stand old edits g i (disk (sector_of (region.Large g (i / 512)))) (λ bytes j. edit_stands n of b t (LargeAt g (i / 512)) lies (SetLargeBytes g (i / 512) bytes) j refl refl)
          (λ none. ap (λ z. slice_index z (i % 512)) (left_stands n of b t (LargeAt g (i / 512)) lies (λ w. set_large edits g (i / 512) none w.edit w.among w.bytes w.here)))

    module _ (n : Naming) (of : IsOfTree next (shape_of to) n) (b j : ℕ) where
      in_file : (cells : List Cell) (links time : ℕ) → node_at to b ≡ Some (File cells links time) → j < length cells →
          file_byte (store_of segments disk) n b j ≡ file_byte made kept.naming b j
      in_file cells links time is inside =
          let node : node_at (shape_of to) b ≡ Some (File (doubts cells) links time) = found to b ∙ ap shaped is in
          let within : j < length (doubts cells) = subst (λ k. j < k) (sym (length-map cells (λ c. Doubtful))) inside in
          let named : kept.naming.inode b ≡ n.inode b
          = named_same b (ap is_some node) ∙ sym (namings_agree next (shape_of to) step.after n step.of_then of step.reached b (ap is_some node)) in
          same_byte made (store_of segments disk) kept.naming n b j
          (λ low. sym (
          ap (λ k. made.byte k (j % 4096)) (block_same next (shape_of to) n of b j (doubts cells) links time node within made kept.naming of_made inodes_same named low)
          ∙ small_stands n of b (j / 512) (n.block b (j / 4096)) (j % 4096) (small_lies next (shape_of to) n of b j (doubts cells) links time node within low)
          ))
          (λ high. sym (
          ap (λ g. made.large_byte g (j - 65536)) (large_same next (shape_of to) n of b j (doubts cells) links time node within made kept.naming of_made inodes_same named high)
          ∙ large_stands n of b (j / 512) (n.large b) (j - 65536) (large_lies next (shape_of to) n of b j (doubts cells) links time node within high)
          ))

      by_node : (o : Option Node) → node_at to b ≡ o → (cell : Cell) → cell_in o j ≡ Some cell → file_byte (store_of segments disk) n b j ≡ file_byte made kept.naming b j
      by_node None is cell i = absurd (cc)
      by_node (Some (Dir entries blocks)) is cell i = absurd (cc)
      by_node (Some (Link target links)) is cell i = absurd (cc)
      by_node (Some (File cells links time)) is cell i = in_file cells links time is (slice_get_within cells j cell i)

    pub has_bytes : to ≡ trees.tree_after tree e → (n : Naming) → IsOfTree next (shape_of to) n → HasItsBytes (store_of segments disk) to n
    has_bytes pushed n of b j cell i =
        subst (Allows cell) (sym (by_node n of b j (node_at to b) refl cell i)) (kept.bytes b j cell (subst (λ u. cell_in (node_at u b) j ≡ Some cell) pushed i))

  -- some disk has what is known after it, so the reply is the tree's answer
  known_disk : ℕ → Block
  known_disk s = or_else (value first (Done c ∷ items older) s) zero_block

  has_known : HasWhatIsKnown logged first (Done c ∷ items older) known_disk
  unfolding known_disk or_else
  has_known s plain u free is = sym (ap (λ o. or_else o zero_block) is)

  pub answer_is : is_answer tree e ≡ true
  answer_is = (kept known_disk has_known).answer

-- where the entry makes the tree, cells are known after the operation
pub operation_known : (segments : ℕ) (when : ℕ → ℕ) (opening : ℕ → Block) (first_tree : FileTree) (home : ℕ → LockId) (logged : ℕ → Bool) (first : ℕ → Option Block) (c : Commit) (e : Entry) (older : List Deed) →
    IsStepped segments when opening (items older) c (tree_after first_tree older) (tree_after first_tree (Does c e ∷ older)) →
    IsByPlan c → Agree first (Done c ∷ items older) → e.op ≡ c.asked →
    IsShown segments when opening c e older → KnowsCells segments opening logged first first_tree older → Follows segments opening home logged first (items older) →
    Follows segments opening home logged first (Done c ∷ items older) → KnowsCells segments opening logged first first_tree (Does c e ∷ older)
operation_known segments when opening first_tree home logged first c e older step by agree asked shown knows follow later n of disk has =
    has_bytes segments when opening first_tree home logged first c e older (tree_after first_tree (Does c e ∷ older)) step by agree asked shown knows follow later disk has
    (after_all-push first_tree (steps older) (Stays e)) n of
