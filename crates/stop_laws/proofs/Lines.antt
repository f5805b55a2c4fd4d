-- Along lines of both sides the shape of the file tree follows the operations, and an operation has a record exactly where its entry is one that a removal
-- may lose.
use Rattle.std.proofs.Common.{ℕ, ◌≡◌, ◌<◌, ◌^◌, ◌↔◌, Bool, true, false, if◌then◌else◌, Option, Some, None, List, [], ◌∷◌, refl, sym, ◌∙◌, ap, ap₂, subst}
use Rattle.std.proofs.lemmas.Bool.{and_from}
use Rattle.frang_base.specs.declared.op.Op.{Op}
use Rattle.tree_definitions.specs.declared.history.Entry.{Entry}
use Rattle.tree_definitions.specs.declared.node.Node.{Node}
use Rattle.tree_definitions.specs.Apply.{Applied, is_path_op}
use Rattle.tree_definitions.specs.History.{InDoubt, Stays, after_step, agrees, applied, is_answer, leaves_tree, told_blocks}
use Rattle.tree_definitions.specs.History as histories
use Rattle.tree_definitions.specs.Perform.{perform, resolved}
use Rattle.tree_definitions.specs.Removal.{is_recorded}
use Rattle.tree_definitions.specs.Touched.{is_ok, shape_of, shaped}
use Rattle.tree_definitions.specs.Tree.{FileTree, node_at}
use Rattle.tree_laws.specs.Refusals.{says_ok}
use Rattle.tree_definitions.specs.WellFormed.{BirthsAscend, IsNew}
use Rattle.tree_laws.proofs.HistoryLaws.{after_all-push}
use Rattle.tree_laws.proofs.OrderLaws.{births_after_all}
use Rattle.tree_laws.proofs.Resolving.{performed_refusals_leave}
use Rattle.tree_laws.proofs.OwnReplies.{answers_are_own}
use Rattle.tree_laws.proofs.RecordingLaws.{unrecorded_leaves_the_shape}
use Rattle.tree_laws.proofs.ShapeNodes.{found}
use Rattle.tree_laws.proofs.ShapeResolving.{perform_shape}
use Rattle.sector_bytes.specs.Blocks.{Block}
use Rattle.sector_bytes.specs.Sectors.{Sectors}
use Rattle.sector_world.specs.Histories.{Commit, Item, logical}
use Rattle.sector_world.specs.Histories.Item.{Done, Doubt}
use Rattle.sector_world.specs.Plans.{Outcome, outcome_of, Legal}
use Rattle.sector_world.specs.Trees.{Distinct, tree_of}
use Rattle.disk_definitions.specs.Allowed.{IsAllowed}
use Rattle.disk_definitions.specs.Ask.{run}
use Rattle.disk_definitions.specs.Meets.{Answers, IsHandOf}
use Rattle.disk_definitions.specs.Plans.{Finish}
use Rattle.disk_definitions.specs.Plans.Plan.{Finishes}
use Rattle.disk_definitions.specs.Written.{changes_of}
use Rattle.line_laws.specs.Records.{IsEntryOfLine}
use Rattle.disk_definitions.specs.Lines.{plan_of_line}
use Rattle.line_histories.specs.LinePlans.{blocks_told, hand_on, sector_plan, store_on, without_bytes}
use Rattle.line_histories.specs.Outcomes.{IsOfAPlan}
use Rattle.line_histories.proofs.Hands.{is_hand}
use Rattle.line_histories.proofs.Outcomes.{outcomes_of_plans}
use Rattle.line_histories.specs.Laws.{IsOfOneTree}
use Rattle.line_histories.specs.Standing.{StandsForShape, StandsNumbered}
use Rattle.line_histories.specs.Trees.{AreTimes, MayNumber, performed, performed_numbered, reply_of}
use Rattle.line_histories.proofs.Disks.{blank_of, ever}
use Rattle.line_histories.proofs.Leading as leading
use Rattle.line_histories.proofs.Meeting.{is_clear, hand_clear}
use Rattle.line_histories.proofs.Runs.{numbered, take_distinct, both, histories_of_one_tree}
use Rattle.line_histories.proofs.Told.{perform_told}
use Rattle.byte_trees.specs.Deeds.{Deed, Does, Says, Doubts, items, steps, tree_after}
use Rattle.stop_laws.specs.Along.{HasShape}
use Rattle.stop_laws.proofs.BytesTold.{told_same}
use Rattle.stop_laws.specs.Paired.{AreOfOneLine, AreLines}
use Rattle.stop_laws.specs.Settling.{ShapesFollow, RecordsAreLosses}
use Rattle.stop_laws.proofs.Doubted.{doubted_shape}
use Rattle.stop_laws.proofs.Few.{few_directories}
use Rattle.stop_laws.proofs.Recorded.{ok_aside, ok_is, ok_said, plain_ok, ok_shape, ok_agrees, path_is, step_stays, told_by_shape, unless_ok, recorded_by_shape}
use Rattle.stop_laws.proofs.Verdicts.{changes_exactly}

-- ---- a finished line over sectors that stand for a shape

-- it has changes exactly where its entry may be lost, and does the same with the number of directories' blocks that is told as with that of the tree
record IsDone (disk : Sectors) (tree : FileTree) (birth when : ℕ) (o : Op) (f : Finish) : Type 0 where
  change : (e : Entry) → IsEntryOfLine birth when o f e → (changes_of disk f.edits ≡ []) ↔ (is_recorded (shape_of tree) e ≡ false)
  same : perform (shape_of tree) o birth when (told_blocks (shape_of tree) f.reply) ≡ perform (shape_of tree) o birth when (blocks_told f.reply)

module _ (disk : Sectors) (tree : FileTree) (stands : StandsForShape tree.segments disk tree) (hint : List ℕ) (birth when : ℕ) (o : Op) (may : IsAllowed o)
    (new : IsNew tree birth) (small_birth : birth < 2 ^ 64)
    (small_time : when < 2 ^ 64) (f : Finish) (is : run (plan_of_line (hand_on tree.segments disk hint) birth when o) (store_on tree.segments disk) ≡ Finishes f) where
  at : IsHandOf (hand_on tree.segments disk hint) (store_on tree.segments disk) tree.segments
  at = is_hand tree.segments disk hint (is_clear tree.segments disk tree stands)

  abbrev most : ℕ
  most = ever disk tree stands

  answers : Answers (perform (shape_of tree) o birth when most).answer f.reply
  answers = (leading.meets disk tree stands (hand_on tree.segments disk hint) at (hand_clear tree.segments disk tree stands hint) birth when o may new small_birth small_time f is).answer

  own_done : IsDone disk tree birth when o f
  own_done = record {
    change = λ e entry. changes_exactly disk tree stands (hand_on tree.segments disk hint) at
        (hand_clear tree.segments disk tree stands hint) birth when o may new small_birth small_time f is e entry;
    same =
        told_same (shape_of tree) o birth when most f.reply (few_directories (store_on tree.segments disk) (shape_of tree) stands.below.stands.naming (blank_of disk tree stands)) answers
        ∙ sym (perform_told (shape_of tree) o birth when most f.reply answers);
  }

line_done : (segments : ℕ) (disk : Sectors) (tree : FileTree) → StandsForShape segments disk tree → (hint : List ℕ) (birth when : ℕ) (o : Op) → IsAllowed o → IsNew tree birth →
    birth < 2 ^ 64 → when < 2 ^ 64 → (f : Finish) →
    run (plan_of_line (hand_on segments disk hint) birth when o) (store_on segments disk) ≡ Finishes f → IsDone disk tree birth when o f
line_done segments disk tree stands hint birth when o may new small_birth small_time f =
    subst (λ k. run (plan_of_line (hand_on k disk hint) birth when o) (store_on k disk) ≡ Finishes f → IsDone disk tree birth when o f) stands.as_many
    (own_done disk tree (record { well_formed = stands.well_formed; as_many = refl; below = stands.below; zeros = stands.zeros }) hint birth when o may new small_birth small_time f)

-- ---- an operation and its entry, at a tree of the shape that the operations gave

pub no_node : (o : Option Node) → shaped o ≡ None → o ≡ None
no_node None e = refl
no_node (Some x) e = absurd (cc)

after_is : (l a : Bool) (t u : FileTree) → l ≡ false → a ≡ true → (if l then t else (if a then u else t)) ≡ u
after_is true a t u e g = absurd (cc)
after_is false false t u e g = absurd (cc)
after_is false true t u e g = refl

module _ (disk : Sectors) (tree t : FileTree) (segments : ℕ) (when : ℕ → ℕ) (c : Commit) (e : Entry) (one : AreOfOneLine when c e) (f : Finish)
    (done : IsDone disk tree c.op (when c.op) c.asked f)
    (reply_is : c.reply ≡ without_bytes f.reply) (blocks_is : c.blocks ≡ blocks_told f.reply) (changes_is : c.changes ≡ changes_of disk f.edits)
    (answered : c.reply ≡ reply_of (perform tree c.asked c.op (when c.op) c.blocks).answer) (path : is_path_op c.asked ≡ true)
    (births : BirthsAscend t) (new : IsNew tree c.op) (shapes : shape_of t ≡ shape_of tree) where
  -- the entry with the reply of the plan
  abbrev planned : Entry
  planned = record e { reply = f.reply }

  entry : IsEntryOfLine c.op (when c.op) c.asked f planned
  entry = record { number = one.number; time = one.time; reply = refl; operates = one.asked }

  ok_alike : is_ok f.reply ≡ is_ok e.reply
  ok_alike = sym (ok_aside f.reply) ∙ ap is_ok (sym reply_is ∙ sym one.reply) ∙ ok_aside e.reply

  new_here : IsNew t e.number.0
  new_here = no_node (node_at t e.number.0) (sym (found t e.number.0) ∙ ap (λ u. node_at u e.number.0) shapes ∙ found tree e.number.0 ∙ ap shaped (ap (node_at tree) one.number ∙ new))

  recorded_is : is_recorded (shape_of tree) planned ≡ is_recorded t e
  recorded_is = go (is_ok e.reply) refl
    where
      go : (b : Bool) → is_ok e.reply ≡ b → is_recorded (shape_of tree) planned ≡ is_recorded t e
      go true ok =
          let said : f.reply ≡ e.reply = ok_is f.reply (ok_alike ∙ ok) ∙ sym (ok_is e.reply ok) in
          ap (λ r. is_recorded (shape_of tree) (record e { reply = r })) said ∙ ap (λ u. is_recorded u e) (sym shapes) ∙ recorded_by_shape t e (ok_is e.reply ok)
      go false ok = unless_ok (store_on segments disk) (shape_of tree) planned (ok_alike ∙ ok) ∙ sym (unless_ok (store_on segments disk) t e ok)

  has_record : (c.changes ≡ []) ↔ (is_recorded t e ≡ false)
  has_record =
      let both = done.change planned entry in (
        λ none. sym recorded_is ∙ both.0 (sym changes_is ∙ none),
        λ none. changes_is ∙ both.1 (recorded_is ∙ none),
      )

  -- ---- the shape after it

  abbrev next : FileTree
  next = (perform tree c.asked c.op (when c.op) c.blocks).tree

  -- the operation over the shape, with the blocks that the plan told
  abbrev over : Applied
  over = perform (shape_of tree) c.asked c.op (when c.op) c.blocks

  over_own : perform (shape_of t) e.op e.number.0 e.when (told_blocks t f.reply) ≡ over
  over_own =
      ap (perform (shape_of t) e.op e.number.0 e.when) (sym (told_by_shape t f.reply))
      ∙ ap (λ u. perform u e.op e.number.0 e.when (told_blocks u f.reply)) shapes
      ∙ ap (λ o. perform (shape_of tree) o e.number.0 e.when (told_blocks (shape_of tree) f.reply)) one.asked
      ∙ ap₂ (λ n at. perform (shape_of tree) c.asked n at (told_blocks (shape_of tree) f.reply)) one.number one.time
      ∙ done.same ∙ ap (perform (shape_of tree) c.asked c.op (when c.op)) (sym blocks_is)

  refused_shape : is_ok e.reply ≡ false → shape_of (histories.tree_after t e) ≡ shape_of next
  refused_shape refused =
      let none : says_ok (perform tree c.asked c.op (when c.op) c.blocks).answer ≡ false =
      sym (ok_said (perform tree c.asked c.op (when c.op) c.blocks).answer) ∙ ap is_ok (sym answered ∙ reply_is) ∙ ok_aside f.reply ∙ ok_alike ∙ refused in
      unrecorded_leaves_the_shape t e births new_here (unless_ok (store_on segments disk) t e refused) ∙ shapes
      ∙ ap shape_of (sym (performed_refusals_leave tree c.asked c.op (when c.op) c.blocks none))

  module _ (ok : is_ok e.reply ≡ true) where
    same_reply : f.reply ≡ e.reply
    same_reply = ok_is f.reply (ok_alike ∙ ok) ∙ sym (ok_is e.reply ok)

    applied_over : perform (shape_of t) e.op e.number.0 e.when (told_blocks t e.reply) ≡ over
    applied_over = ap (λ r. perform (shape_of t) e.op e.number.0 e.when (told_blocks t r)) (sym same_reply) ∙ over_own

    said_ok : says_ok (perform tree c.asked c.op (when c.op) c.blocks).answer ≡ true
    said_ok = sym (ok_said (perform tree c.asked c.op (when c.op) c.blocks).answer) ∙ ap is_ok (sym answered ∙ reply_is) ∙ ok_aside f.reply ∙ ok_alike ∙ ok

    answer_here : says_ok (applied t e).answer ≡ true
    answer_here =
        sym (ok_shape (applied t e).answer) ∙ ap says_ok (sym (perform_shape t e.op e.number.0 e.when (told_blocks t e.reply)).answer)
        ∙ ap (λ (a : Applied). says_ok a.answer) applied_over
        ∙ ap says_ok (perform_shape tree c.asked c.op (when c.op) c.blocks).answer ∙ ok_shape (perform tree c.asked c.op (when c.op) c.blocks).answer ∙ said_ok

    is_answered : is_answer t e ≡ true
    is_answered =
        and_from (is_path_op e.op) (agrees (applied t e).answer e.reply) (ap is_path_op one.asked ∙ path)
        (ok_agrees (applied t e).answer e.reply (plain_ok (applied t e).answer answer_here) (ok_is e.reply ok))

    then_is : histories.tree_after t e ≡ (applied t e).tree
    then_is =
        after_is (leaves_tree e.op e.reply) (is_answer t e) t (after_step (applied t e).tree (resolved t e.op).step e.reply) (answers_are_own t e is_answered) is_answered
        ∙ step_stays (applied t e).tree (resolved t e.op).step e.reply (ok_is e.reply ok)

    done_shape : shape_of (histories.tree_after t e) ≡ shape_of next
    done_shape =
        ap shape_of then_is ∙ sym (perform_shape t e.op e.number.0 e.when (told_blocks t e.reply)).tree ∙ ap (λ (a : Applied). shape_of a.tree) applied_over
        ∙ (perform_shape tree c.asked c.op (when c.op) c.blocks).tree

  next_shape : shape_of (histories.tree_after t e) ≡ shape_of next
  next_shape = go (is_ok e.reply) refl
    where
      go : (b : Bool) → is_ok e.reply ≡ b → shape_of (histories.tree_after t e) ≡ shape_of next
      go true ok = done_shape ok
      go false ok = refused_shape ok

-- ---- along deeds

module _ (segments : ℕ) (when : ℕ → ℕ) (times : AreTimes when) (opening : ℕ → Block) (first : FileTree) (numbers : List ℕ)
    (begins : StandsNumbered segments opening (numbered first numbers)) where
  same_tree : (h : List Item) → (tree_of (performed_numbered when) (numbered first numbers) h).tree ≡ tree_of (performed when) first h
  same_tree [] = refl
  same_tree (Done c ∷ h) = ap (λ t. (performed when c.op c.asked c.blocks t).tree) (same_tree h)
  same_tree (Doubt m ∷ h) = same_tree h

  module _ (c : Commit) (h : List Item) (l : Legal (sector_plan segments when) opening (Done c ∷ h)) (d : Distinct (MayNumber numbers) first (Done c ∷ h)) where
    abbrev disk : Sectors
    disk = logical opening h

    abbrev tree : FileTree
    tree = tree_of (performed when) first h

    before : IsOfOneTree segments when opening first h
    before = histories_of_one_tree segments when opening first numbers h times begins l.1 d.2

    then_answers : c.reply ≡ reply_of (perform tree c.asked c.op (when c.op) c.blocks).answer
    then_answers = (histories_of_one_tree segments when opening first numbers (Done c ∷ h) times begins l d).answers.0

    may_new : IsNew tree c.op
    may_new =
        let taken = take_distinct when first numbers (Done c ∷ h) d in
        subst (λ t. IsNew t c.op) (same_tree h) ((both segments when times opening (numbered first numbers) begins h l.1 taken.2).1 c.op taken.1 taken.0).new

    fin : IsOfAPlan plan_of_line segments when c.hint c.op c.asked disk (outcome_of c)
    fin = outcomes_of_plans plan_of_line segments when c.hint c.op c.asked disk (outcome_of c) l.0

    is_done : IsDone disk tree c.op (when c.op) c.asked fin.comes.finish
    is_done = line_done segments disk tree before.stands c.hint c.op (when c.op) c.asked fin.allowed may_new d.0.small (times c.op) fin.comes.finish fin.comes.is

    module _ (e : Entry) (one : AreOfOneLine when c e) (t : FileTree) (births : BirthsAscend t) (shapes : shape_of t ≡ shape_of tree) where
      reply_is : c.reply ≡ without_bytes fin.comes.finish.reply
      reply_is = ap (λ (q : Outcome). q.reply) fin.comes.outcome

      blocks_is : c.blocks ≡ blocks_told fin.comes.finish.reply
      blocks_is = ap (λ (q : Outcome). q.blocks) fin.comes.outcome

      changes_is : c.changes ≡ changes_of disk fin.comes.finish.edits
      changes_is = ap (λ (q : Outcome). q.changes) fin.comes.outcome

      shape_then : shape_of (histories.tree_after t e) ≡ shape_of (tree_of (performed when) first (Done c ∷ h))
      shape_then = next_shape disk tree t segments when c e one fin.comes.finish is_done reply_is blocks_is changes_is then_answers (path_is c.asked fin.path) births may_new shapes

      record_then : (c.changes ≡ []) ↔ (is_recorded t e ≡ false)
      record_then = has_record disk tree t segments when c e one fin.comes.finish is_done reply_is blocks_is changes_is then_answers (path_is c.asked fin.path) births may_new shapes

  births_along : (deeds : List Deed) → BirthsAscend (tree_after first deeds)
  births_along deeds = births_after_all first (steps deeds) begins.stands.well_formed.births

  leaves : (t : FileTree) (e : Entry) → leaves_tree e.op e.reply ≡ true → histories.tree_after t e ≡ t
  leaves t e l = ap (λ (b : Bool). if b then t else (if is_answer t e then after_step (applied t e).tree (resolved t e.op).step e.reply else t)) l

  follows : (deeds : List Deed) → Legal (sector_plan segments when) opening (items deeds) → Distinct (MayNumber numbers) first (items deeds) → AreLines when deeds →
      HasShape when first deeds
  follows [] l d a = refl
  follows (Does c e ∷ older) l d a =
      ap shape_of (after_all-push first (steps older) (Stays e)) ∙ shape_then c (items older) l d e a.0 (tree_after first older) (births_along older) (follows older l.1 d.2 a.1)
  follows (Says e ∷ older) l d a = ap shape_of (after_all-push first (steps older) (Stays e) ∙ leaves (tree_after first older) e a.0) ∙ follows older l d a.1
  follows (Doubts m runs ∷ older) l d a =
      ap shape_of (after_all-push first (steps older) (InDoubt runs)) ∙ doubted_shape (tree_after first older) runs (births_along older) ∙ follows older l d a

  losses : (c : Commit) (e : Entry) (older : List Deed) → Legal (sector_plan segments when) opening (Done c ∷ items older) → Distinct (MayNumber numbers) first (Done c ∷ items older) →
      AreLines when (Does c e ∷ older) → (c.changes ≡ []) ↔ (is_recorded (tree_after first older) e ≡ false)
  losses c e older l d a = record_then c (items older) l d e a.0 (tree_after first older) (births_along older) (follows older l.1 d.2 a.1)

pub shapes_follow : ShapesFollow
shapes_follow segments when opening first numbers deeds times begins legal distinct lines = follows segments when times opening first numbers begins deeds legal distinct lines

pub records_are_losses : RecordsAreLosses
records_are_losses segments when opening first numbers times begins c e older legal distinct lines = losses segments when times opening first numbers begins c e older legal distinct lines
