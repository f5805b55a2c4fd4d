-- An operation of a legal history of lines uses the locks of what its entry touches: by the laws of lines, over a store with the bytes of the tree.
use Rattle.std.proofs.Common.{ℕ, ◌≡◌, ◌≢◌, ◌<◌, ◌==◌, ◌||◌, ⊎_elim, not, Bool, true, false, Option, Some, None, List, [], ◌∷◌, ◌++◌, map, is_some, eqb-true, refl, sym, ◌∙◌, ap, ap₂, subst}
use Rattle.std.proofs.lemmas.Bool.{and_parts, or_cases}
use Rattle.std.proofs.lemmas.List.Elements.{Contains-append_left}
use Rattle.std.specs.List.{Contains, filter_map, list_any}
use Rattle.frang_base.specs.Locks.{has_lock}
use Rattle.frang_base.specs.declared.lock.LockId.{LockId}
use Rattle.frang_base.specs.declared.lock.LockId.TheVariants as lock
use Rattle.frang_base.specs.declared.lock.Mode.{Mode}
use Rattle.frang_base.specs.declared.lock.Mode.TheVariants.{Sole}
use Rattle.frang_base.specs.declared.op.Op.{Op}
use Rattle.frang_base.specs.declared.op.Op.TheVariants as op
use Rattle.frang_base.specs.declared.reply.Reply.{Reply}
use Rattle.frang_base.specs.declared.reply.Reply.TheVariants as reply
use Rattle.tree_definitions.specs.declared.history.Entry.{Entry}
use Rattle.tree_definitions.specs.declared.node.Node.{Node}
use Rattle.tree_definitions.specs.Apply.{Applied}
use Rattle.tree_definitions.specs.History.{applied, is_answer, told_blocks}
use Rattle.tree_definitions.specs.Perform.{Step, Goes, Stops, perform, resolved}
use Rattle.tree_definitions.specs.Touched.{changed, changes, changes_room, differs, other_room, further, looked_in, same_where, shape_of, touches, visited, shaped}
use Rattle.tree_definitions.specs.Tree.{FileTree, node_at}
use Rattle.tree_definitions.specs.WellFormed.{IsNew, IsWellFormed}
use Rattle.tree_laws.proofs.Sameness.{where_same}
use Rattle.tree_laws.proofs.ShapeNodes.{found}
use Rattle.sector_bytes.specs.Blocks.{Block}
use Rattle.sector_bytes.specs.Sectors.{Sectors}
use Rattle.sector_world.specs.Histories.{Commit, Item, logical}
use Rattle.sector_world.specs.Histories.Item.{Done, Doubt}
use Rattle.sector_world.specs.Plans.{Legal, Outcome, outcome_of}
use Rattle.sector_world.specs.Trees.{Distinct, tree_of}
use Rattle.disk_definitions.specs.Naming.{Naming}
use Rattle.disk_definitions.specs.Standing.{IsReached}
use Rattle.disk_definitions.specs.Store.{Store}
use Rattle.disk_definitions.specs.ChangeLaws.{FilesFit}
use Rattle.disk_definitions.specs.Ask.{run}
use Rattle.disk_definitions.specs.Meets.{Answers, IsOfTree, IsHandOf, directory_blocks_in}
use Rattle.disk_definitions.specs.Plans.{Finish, Hand, Plan}
use Rattle.disk_definitions.specs.Plans.Plan.{Lacks, Clears, Finishes}
use Rattle.plan_laws.specs.FilesPlanned.{HasFiles}
use Rattle.plan_laws.specs.Keeping.{FinishKeeps, PlanKeeps}
use Rattle.plan_laws.proofs.Covering.{has_head, has_more, map_has}
use Rattle.line_laws.specs.Stores.{with_bytes}
use Rattle.disk_definitions.specs.Lines.{plan_of_line}
use Rattle.line_laws.proofs.Covered.{line_changes_alone, line_nodes_held}
use Rattle.line_laws.proofs.Planned.{lines_planned}
use Rattle.line_laws.proofs.NodeLaws.{line_room_alone}
use Rattle.line_histories.specs.Guards.{IsClear}
use Rattle.line_histories.specs.LinePlans.{hand_on, lock_in, sector_plan, segment_lock, sole_in, store_on, without_bytes}
use Rattle.line_histories.specs.Outcomes.{IsOfAPlan}
use Rattle.line_histories.specs.Planners.{finish_shape, plan_shape}
use Rattle.plan_laws.specs.Locks.{IsSole}
use Rattle.line_histories.proofs.Guarded.{sole_alone}
use Rattle.line_histories.proofs.AllBlind.{bytes_dont_decide}
use Rattle.line_histories.proofs.Hands.{is_hand}
use Rattle.line_histories.proofs.Outcomes.{outcomes_of_plans}
use Rattle.line_histories.specs.Standing.{StandsForShape, StandsNumbered}
use Rattle.line_histories.specs.Trees.{AreTimes, MayNumber, performed, performed_numbered}
use Rattle.line_histories.proofs.Disks.{files_fit_now}
use Rattle.line_histories.proofs.Meeting.{is_clear}
use Rattle.line_histories.proofs.Runs.{both, histories_of_one_tree, numbered, take_distinct}
use Rattle.byte_trees.specs.Deeds.{Deed, Does, items, tree_after}
use Rattle.stop_laws.specs.Along.{HasShape}
use Rattle.stop_laws.proofs.BytesCovered.{is_used}
use Rattle.byte_trees.proofs.Nodes.{well_too}
use Rattle.byte_trees.proofs.Filling.{reached_too}
use Rattle.stop_laws.proofs.BytesTold.{told_same}
use Rattle.stop_laws.specs.Paired.{AreLines, AreOfOneLine}
use Rattle.stop_laws.proofs.Lines.{shapes_follow, no_node}
use Rattle.stop_laws.proofs.Counted.{directories_few}
use Rattle.stop_laws.specs.Locks.{HasAloneWhatItChanges, LinesHaveAloneWhatTheyChange, LinesTakeRoomAlone, TakesRoomAlone, LinesUseTheirLocks, UsesItsLocks}
use Rattle.stop_laws.proofs.Bytes.{large_byte, says_the_tree, small_byte}
use Rattle.stop_laws.proofs.Operation.{fit_back}

-- ---- small facts

any_has : (b : ℕ) (xs : List ℕ) → list_any (λ x. x == b) xs ≡ true → Contains xs b
any_has b [] e = absurd (cc)
any_has b (x ∷ xs) e =
    ⊎_elim (λ here. subst (Contains (x ∷ xs)) (eqb-true x b here) (has_head x xs)) (λ rest. has_more x b xs (any_has b xs rest)) (or_cases (x == b) (list_any (λ x. x == b) xs) e)

some_back : (o : Option Node) → is_some (shaped o) ≡ true → is_some o ≡ true
some_back None e = absurd (cc)
some_back (Some x) e = refl

-- trees that differ have another node there
another : (old new : FileTree) (b : ℕ) → differs old new b ≡ true → node_at new b ≢ node_at old b
another old new b e same =
    let none : differs old new b ≡ false = ap (λ o. not (same_where (node_at old b) o)) same ∙ ap not (where_same (node_at old b)) in
    let z : true ≡ false = sym e ∙ none in
    cc

-- ---- what a reply has beside the bytes that it shows

further_shown : (t : FileTree) (o : Op) (bytes : List ℕ) → further t o (reply.Shown []) ≡ further t o (reply.Shown bytes)
further_shown t (op.Rmdir []) bytes = refl
further_shown t (op.Rmdir (n ∷ ns)) bytes = refl
further_shown t o bytes = refl

further_without : (t : FileTree) (o : Op) (r : Reply) → further t o (without_bytes r) ≡ further t o r
further_without t o (reply.Shown bytes) = further_shown t o bytes
further_without t o r = refl

visited_without : (t : FileTree) (s : Step) (r : Reply) → visited t s (without_bytes r) ≡ visited t s r
visited_without t (Goes o) r = ap (λ l. looked_in t o ++ l) (further_without t o r)
visited_without t (Stops q) r = refl

told_without : (t : FileTree) (r : Reply) → told_blocks t (without_bytes r) ≡ told_blocks t r
told_without t (reply.Shown bytes) = refl
told_without t r = refl

-- ---- a plan that comes to the same as a finished one, but for bytes

record IsLike (p : Plan) (f : Finish) : Type 0 where
  finish : Finish
  is : p ≡ Finishes finish
  locks : finish.locks ≡ f.locks
  reply : without_bytes finish.reply ≡ without_bytes f.reply

is_like : (p : Plan) (f : Finish) → plan_shape p ≡ plan_shape (Finishes f) → IsLike p f
is_like Lacks f e = absurd (cc)
is_like (Clears block locks) f e = absurd (cc)
is_like (Finishes g) f e =
    let same : finish_shape g ≡ finish_shape f = cc in
    record { finish = g; is = refl; locks = ap (λ (z : Finish). z.locks) same; reply = ap (λ (z : Finish). z.reply) same }

any_true : (f : ℕ → Bool) (xs : List ℕ) → list_any f xs ≡ true → (b : ℕ) × (f b ≡ true)
any_true f [] e = absurd (cc)
any_true f (x ∷ xs) e = go (f x) refl e (any_true f xs)
  where
    go : (b : Bool) → f x ≡ b → b || list_any f xs ≡ true → (list_any f xs ≡ true → (b : ℕ) × (f b ≡ true)) → (b : ℕ) × (f b ≡ true)
    go true is some rest = (x, is)
    go false is some rest = rest some

-- ---- an operation over sectors that stand for the shape of a tree

module _ (segments : ℕ) (when : ℕ → ℕ) (disk : Sectors) (tree t : FileTree) (stands : StandsForShape segments disk tree) (shapes : shape_of t ≡ shape_of tree) (well : IsWellFormed t)
    (c : Commit) (e : Entry) (one : AreOfOneLine when c e) (new : IsNew t c.op) (plan : IsOfAPlan plan_of_line segments when c.hint c.op c.asked disk (outcome_of c))
    (n : Naming) (of : IsOfTree (store_on segments disk) (shape_of t) n) where
  abbrev hand : Hand
  hand = hand_on segments disk c.hint

  -- the store with the bytes of the tree
  abbrev store : Store
  store = with_bytes (store_on segments disk) (small_byte t n) (large_byte t n)

  of_it : IsOfTree store t n
  of_it = says_the_tree (store_on segments disk) t n well of

  at_hand : IsHandOf hand (store_on segments disk) segments
  at_hand = is_hand segments disk c.hint (subst (λ k. IsClear k disk) stands.as_many (is_clear segments disk tree stands))

  as_many : segments ≡ t.segments
  as_many = sym (ap (λ (u : FileTree). u.segments) shapes ∙ stands.as_many)

  at_hand_of_it : IsHandOf hand store t.segments
  at_hand_of_it = subst (IsHandOf hand store) as_many
      (record { within = at_hand.within; all = at_hand.all; bits = at_hand.bits; states = at_hand.states; larges = at_hand.larges; zeroed = at_hand.zeroed })

  abbrev ever : ℕ
  ever = directory_blocks_in store t.segments

  files : HasFiles store t ever
  files = record {
    fit = fit_back t (subst (λ (u : FileTree). FilesFit (node_at u)) (sym shapes)
        (files_fit_now disk tree (record { well_formed = stands.well_formed; as_many = refl; below = stands.below; zeros = stands.zeros })));
    directories = refl;
  }

  -- the line over it
  like : IsLike (run (plan_of_line hand c.op (when c.op) c.asked) store) plan.comes.finish
  like = is_like (run (plan_of_line hand c.op (when c.op) c.asked) store) plan.comes.finish
      ((bytes_dont_decide c.asked hand (store_on segments disk) c.op (when c.op) (small_byte t n) (large_byte t n)).1 ∙ ap plan_shape plan.comes.is)

  same_reply : without_bytes e.reply ≡ without_bytes like.finish.reply
  same_reply = one.reply ∙ ap (λ (q : Outcome). q.reply) plan.comes.outcome ∙ sym like.reply

  -- ---- its locks are used

  used : (id : LockId) (mode : Mode) → Contains like.finish.locks (id, mode) → has_lock id c.uses ≡ true
  used id mode holds =
      ap (λ (q : Outcome). has_lock id q.uses) plan.comes.outcome
      ∙ is_used (map lock_in plan.comes.finish.locks ++ map segment_lock c.hint) id
      (Contains-append_left (map lock_in plan.comes.finish.locks) (map segment_lock c.hint) id
      (map_has lock_in plan.comes.finish.locks (id, mode) (subst (λ locks. Contains locks (id, mode)) like.locks holds)))

  -- ---- what is visited

  walked : (trail : List ℕ) (step : Step) → trail ++ visited t step e.reply ≡ trail ++ visited t step like.finish.reply
  walked trail step = ap (λ l. trail ++ l) (sym (visited_without t step e.reply) ∙ ap (visited t step) same_reply ∙ visited_without t step like.finish.reply)

  visited_used : (b : ℕ) → list_any (λ x. x == b) ((resolved t e.op).trail ++ visited t (resolved t e.op).step e.reply) ≡ true → has_lock (lock.Node (n.inode b)) c.uses ≡ true
  visited_used b visits =
      let w = resolved t c.asked in
      let asked : list_any (λ x. x == b) (w.trail ++ visited t w.step e.reply) ≡ true =
      subst (λ o. list_any (λ x. x == b) ((resolved t o).trail ++ visited t (resolved t o).step e.reply) ≡ true) one.asked visits in
      let among : Contains (w.trail ++ visited t w.step like.finish.reply) b =
      subst (λ l. Contains l b) (walked w.trail w.step) (any_has b (w.trail ++ visited t w.step e.reply) asked) in
      let held = line_nodes_held c.asked hand store t n c.op (when c.op) like.finish of_it at_hand_of_it like.is b among in
      used (lock.Node (n.inode b)) held.0 held.1

  -- ---- what is changed

  abbrev over : Applied
  over = perform t c.asked c.op (when c.op) ever

  keeps : FinishKeeps store t n over like.finish
  keeps = subst (PlanKeeps hand store t n over) like.is (lines_planned c.asked hand store t n c.op (when c.op) ever of_it at_hand_of_it new files)

  answers : Answers over.answer like.finish.reply
  answers = keeps.meets.answer

  applied_is : applied t e ≡ over
  applied_is =
      ap (perform t e.op e.number.0 e.when) (sym (told_without t e.reply) ∙ ap (told_blocks t) same_reply ∙ told_without t like.finish.reply)
      ∙ ap (λ o. perform t o e.number.0 e.when (told_blocks t like.finish.reply)) one.asked
      ∙ ap₂ (λ number at. perform t c.asked number at (told_blocks t like.finish.reply)) one.number one.time
      ∙ told_same t c.asked c.op (when c.op) ever like.finish.reply (directories_few store t n of_it) answers

  changed_used : (b : ℕ) → is_some (node_at t b) ≡ true → differs t (applied t e).tree b ≡ true → has_lock (lock.Node (n.inode b)) c.uses ≡ true
  changed_used b there other =
      used (lock.Node (n.inode b)) Sole
      (line_changes_alone c.asked hand store t n c.op (when c.op) ever like.finish of_it at_hand_of_it new (λ writes. files) like.is b there
      (another t over.tree b (subst (λ (a : Applied). differs t a.tree b ≡ true) applied_is other)))

  had_alone : (id : LockId) → IsSole like.finish.locks id → has_lock id c.alone ≡ true
  had_alone id sole =
      ap (λ (q : Outcome). has_lock id q.alone) plan.comes.outcome
      ∙ is_used (filter_map sole_in plan.comes.finish.locks) id (sole_alone plan.comes.finish.locks id (subst (λ locks. IsSole locks id) like.locks sole))

  pub changed_alone : (b : ℕ) → is_some (node_at (shape_of t) b) ≡ true → changes t e b ≡ true → has_lock (lock.Node (n.inode b)) c.alone ≡ true
  changed_alone b there some =
      had_alone (lock.Node (n.inode b))
      (line_changes_alone c.asked hand store t n c.op (when c.op) ever like.finish of_it at_hand_of_it new (λ writes. files) like.is b (some_back (node_at t b) (sym (ap is_some (found t b)) ∙ there))
      (another t over.tree b (subst (λ (a : Applied). differs t a.tree b ≡ true) applied_is (and_parts (is_answer t e) (differs t (applied t e).tree b) some).1)))

  -- ---- room

  reached : IsReached (node_at t)
  reached = reached_too (node_at t) n (subst IsReached (λ i. λ b. found t b i) (subst (λ (u : FileTree). IsReached (node_at u)) (sym shapes) stands.below.stands.reached))

  pub room_alone : changes_room t e ≡ true → (segment : ℕ) × (segment < segments) × (has_lock (lock.Segment segment) c.alone ≡ true)
  room_alone takes =
      let some = any_true (λ b. other_room (node_at t b) (node_at (applied t e).tree b)) (changed t e) takes in
      let held =
      line_room_alone c.asked hand store t n keeps.meets.naming c.op (when c.op) ever like.finish of_it reached at_hand_of_it new files like.is keeps.meets.tree some.0
      (subst (λ (a : Applied). other_room (node_at t some.0) (node_at a.tree some.0) ≡ true) applied_is some.1) in
      (held.0, subst (λ k. held.0 < k) (sym as_many) held.1, had_alone (lock.Segment held.0) held.2)

  pub touched_used : (b : ℕ) → is_some (node_at (shape_of t) b) ≡ true → touches t e b ≡ true → has_lock (lock.Node (n.inode b)) c.uses ≡ true
  touched_used b there touched =
      let visits = list_any (λ x. x == b) ((resolved t e.op).trail ++ visited t (resolved t e.op).step e.reply) in
      ⊎_elim (λ some. changed_used b (some_back (node_at t b) (sym (ap is_some (found t b)) ∙ there)) (and_parts (is_answer t e) (differs t (applied t e).tree b) some).1) (visited_used b)
      (or_cases (changes t e b) visits (and_parts (is_answer t e) (changes t e b || visits) touched).1)

-- ---- along deeds

module _ (when : ℕ → ℕ) (first : FileTree) (numbers : List ℕ) where
  pub same_tree : (h : List Item) → (tree_of (performed_numbered when) (numbered first numbers) h).tree ≡ tree_of (performed when) first h
  same_tree [] = refl
  same_tree (Done c ∷ h) = ap (λ u. (performed when c.op c.asked c.blocks u).tree) (same_tree h)
  same_tree (Doubt marked ∷ h) = same_tree h

module _ (segments : ℕ) (when : ℕ → ℕ) (opening : ℕ → Block) (first : FileTree) (numbers : List ℕ) (c : Commit) (e : Entry) (older : List Deed) (times : AreTimes when)
    (begins : StandsNumbered segments opening (numbered first numbers)) (legal : Legal (sector_plan segments when) opening (Done c ∷ items older))
    (distinct : Distinct (MayNumber numbers) first (Done c ∷ items older)) (lines : AreLines when (Does c e ∷ older)) where
  abbrev t : FileTree
  t = tree_after first older

  abbrev tree : FileTree
  tree = tree_of (performed when) first (items older)

  shape : HasShape when first older
  shape = shapes_follow segments when opening first numbers older times begins legal.1 distinct.2 lines.1

  stands : StandsForShape segments (logical opening (items older)) tree
  stands = (histories_of_one_tree segments when opening first numbers (items older) times begins legal.1 distinct.2).stands

  may_new : IsNew tree c.op
  may_new =
      let taken = take_distinct when first numbers (Done c ∷ items older) distinct in
      subst (λ u. IsNew u c.op) (same_tree when first numbers (items older))
      ((both segments when times opening (numbered first numbers) begins (items older) legal.1 taken.2).1 c.op taken.1 taken.0).new

  new : IsNew t c.op
  new = no_node (node_at t c.op) (sym (found t c.op) ∙ ap (λ u. node_at u c.op) shape ∙ found tree c.op ∙ ap shaped may_new)

  uses : UsesItsLocks segments opening first c e older
  uses b n of there touched =
      touched_used segments when (logical opening (items older)) tree t stands shape (well_too tree t (sym shape) stands.well_formed) c e lines.0 new
      (outcomes_of_plans plan_of_line segments when c.hint c.op c.asked (logical opening (items older)) (outcome_of c) legal.0) n of b there touched

  pub alone : HasAloneWhatItChanges segments opening first c e older
  alone b n of there changed =
      changed_alone segments when (logical opening (items older)) tree t stands shape (well_too tree t (sym shape) stands.well_formed) c e lines.0 new
      (outcomes_of_plans plan_of_line segments when c.hint c.op c.asked (logical opening (items older)) (outcome_of c) legal.0) n of b there changed

  pub room : TakesRoomAlone segments opening first c e older
  room n of takes =
      room_alone segments when (logical opening (items older)) tree t stands shape (well_too tree t (sym shape) stands.well_formed) c e lines.0 new
      (outcomes_of_plans plan_of_line segments when c.hint c.op c.asked (logical opening (items older)) (outcome_of c) legal.0) n of takes

pub lines_use : LinesUseTheirLocks
lines_use segments when opening first numbers c e older times begins legal distinct lines =
    uses segments when opening first numbers c e older times begins legal distinct lines

pub lines_have_alone : LinesHaveAloneWhatTheyChange
lines_have_alone segments when opening first numbers c e older times begins legal distinct lines =
    alone segments when opening first numbers c e older times begins legal distinct lines

pub lines_take_room_alone : LinesTakeRoomAlone
lines_take_room_alone segments when opening first numbers c e older times begins legal distinct lines =
    room segments when opening first numbers c e older times begins legal distinct lines
