-- The number of directories' blocks that an entry tells is the disk's, where the history left it: not below the tree's, and not above what the entries before it grew beside the opening's.
use Rattle.std.proofs.Common.{ℕ, ◌≡◌, ◌≤◌, ◌+◌, ◌-◌, ◌⊎◌, ⊎_elim, inl, inr, ◌&&◌, Bool, true, nat_le, Option, List, [], ◌∷◌, ◌++◌, refl, sym, ◌∙◌, ap, ap₂, subst, arith, le_refl}
use Rattle.std.proofs.lemmas.Bool.Decides.{nat_tests}
use Rattle.frang_base.specs.declared.lock.LockId.{LockId}
use Rattle.frang_base.specs.declared.reply.Reply.{Reply}
use Rattle.frang_base.specs.declared.reply.Reply.TheVariants as reply
use Rattle.tree_definitions.specs.declared.history.Entry.{Entry}
use Rattle.tree_definitions.specs.History.{InDoubt, Settled, Stays, after_all, may_tell}
use Rattle.tree_definitions.specs.Perform.{perform}
use Rattle.tree_definitions.specs.Touched.{shape_of}
use Rattle.tree_definitions.specs.Tree.{FileTree, count_of, dir_blocks}
use Rattle.tree_laws.specs.Histories.{ever_after}
use Rattle.tree_laws.proofs.HistoryLaws.{after_all-push, ever-append}
use Rattle.tree_laws.proofs.ShapeNodes.{room_stays}
use Rattle.sector_bytes.specs.Blocks.{Block}
use Rattle.sector_bytes.specs.Sectors.{Sectors}
use Rattle.sector_world.specs.Histories.{Commit, Each, logical}
use Rattle.sector_world.specs.Histories.Item.{Done}
use Rattle.sector_world.specs.Plans.{IsByPlan, Outcome}
use Rattle.sector_world.specs.Trees.{Distinct, tree_of}
use Rattle.disk_definitions.specs.Store.{Store}
use Rattle.disk_definitions.specs.Naming.{Naming}
use Rattle.disk_definitions.specs.Edits.{edited_all}
use Rattle.disk_definitions.specs.Meets.{Answers, IsHandOf, IsOfTree, directory_blocks_in, is_directory_use}
use Rattle.disk_definitions.specs.Plans.{Finish, Hand}
use Rattle.plan_laws.specs.Keeping.{FinishKeeps, PlanKeeps}
use Rattle.room_laws.specs.Growth.{FreesNone, GainsNone}
use Rattle.room_laws.proofs.Gaining.{lines_gain_or_free}
use Rattle.room_laws.proofs.Growing.{grows_with_the_tree}
use Rattle.room_laws.proofs.Numbers.{answers_tell}
use Rattle.line_laws.proofs.Laws.{lines_move}
use Rattle.line_laws.proofs.Planned.{lines_planned}
use Rattle.line_histories.specs.LinePlans.{hand_on, store_on, without_bytes}
use Rattle.line_histories.specs.Following.{store_after}
use Rattle.line_histories.specs.Trees.{MayTake, NumberedTree, performed_numbered}
use Rattle.line_histories.proofs.Runs.{numbered, take_distinct}
use Rattle.byte_trees.specs.Deeds.{Deed, Does, Says, Doubts, items, steps, tree_after}
use Rattle.stop_laws.specs.Legal.{AllMayTell}
use Rattle.stop_laws.specs.Sight.{Begins}
use Rattle.stop_laws.proofs.Births as births
use Rattle.stop_laws.proofs.BytesAlong as next
use Rattle.stop_laws.proofs.Few.{few_directories}
use Rattle.kept_laws.specs.Telling.{BlocksAreCounted, NumbersMayBeTold}
use Rattle.kept_laws.proofs.Nodes.{AreGood, good_before, shape_is}

-- a reply that tells a number tells it whatever bytes are left out
number_back : (r : Reply) (m : ℕ) → without_bytes r ≡ reply.NoBlock m → r ≡ reply.NoBlock m
number_back (reply.Shown bytes) m is = absurd (cc)
number_back r m is = is

within : (low m high : ℕ) → low ≤ m → m ≤ high → nat_le low m && nat_le m high ≡ true
within low m high above below =
    let a : nat_le low m ≡ true = grind (arith, nat_tests) in
    let b : nat_le m high ≡ true = grind (arith, nat_tests) in
    ap₂ (λ x y. x && y) a b

raised : (now before more ever : ℕ) → now ≤ before + more → before ≤ ever → now ≤ ever + more
raised now before more ever one rest = omega arith

still : (before more ever : ℕ) → before ≤ ever → before ≤ ever + more
still before more ever rest = omega arith

-- one step more
ever_more : (first : FileTree) (ever : ℕ) (list : List Settled) (s : Settled) →
    ever_after first ever (list ++ s ∷ []) ≡ ever_after first ever list + (count_of dir_blocks (after_all first (list ++ s ∷ [])) - count_of dir_blocks (after_all first list))
ever_more first ever list s =
    ever-append first ever list (s ∷ []) ∙ ap (λ t. ever_after first ever list + (count_of dir_blocks t - count_of dir_blocks (after_all first list))) (sym (after_all-push first list s))

module _ (segments : ℕ) (when : ℕ → ℕ) (opening : ℕ → Block) (first : FileTree) (numbers : List ℕ) (home : ℕ → LockId) (logged : ℕ → Bool) (bytes : ℕ → Option Block)
    (begin : Begins segments when opening first numbers home logged bytes) where
  abbrev start : NumberedTree
  start = numbered first numbers

  abbrev Good : List Deed → Type 0
  Good deeds = AreGood segments when opening first numbers begin.times begin.stands deeds

  abbrev blocks_after : List Deed → ℕ
  blocks_after deeds = directory_blocks_in (store_after segments opening (items deeds)) segments

  abbrev directories : List Deed → ℕ
  directories deeds = count_of dir_blocks (tree_after first deeds)

  -- the tree that goes with the numbers has as many
  counted_alike : (deeds : List Deed) → Good deeds → count_of dir_blocks (shape_of (tree_of (performed_numbered when) start (items deeds)).tree) ≡ directories deeds
  counted_alike deeds good =
      ap (count_of dir_blocks) (sym (shape_is segments when opening first numbers begin.times begin.stands deeds good)) ∙ (room_stays (tree_after first deeds)).dirs

  -- ---- an operation

  module _ (c : Commit) (e : Entry) (older : List Deed) (good : Good (Does c e ∷ older)) (by : IsByPlan c) where
    taken : Distinct MayTake start (items (Does c e ∷ older))
    taken = take_distinct when first numbers (items (Does c e ∷ older)) good.distinct

    before : Good older
    before = good_before segments when opening first numbers begin.times begin.stands c e older good

    abbrev disk : Sectors
    disk = logical opening (items older)

    abbrev s : Store
    s = store_on segments disk

    abbrev tree : FileTree
    tree = (tree_of (performed_numbered when) start (items older)).tree

    abbrev to : FileTree
    to = (tree_of (performed_numbered when) start (items (Does c e ∷ older))).tree

    abbrev hand : Hand
    hand = hand_on segments disk c.hint

    abbrev finish : Finish
    finish = (next.fin segments when begin.times opening start begin.stands c (items older) good.legal taken by).comes.finish

    abbrev naming : Naming
    naming = next.naming segments when begin.times opening start begin.stands c (items older) good.legal taken by

    of : IsOfTree s (shape_of tree) naming
    of = (next.step segments when begin.times opening start begin.stands c (items older) good.legal taken by).of

    at_hand : IsHandOf hand s (shape_of tree).segments
    at_hand = (next.after segments when begin.times opening start begin.stands c (items older) good.legal taken by).done.at_hand

    as_many : tree.segments ≡ segments
    as_many = (births.stands_at segments when begin.times opening start begin.stands (items older) good.legal.1 taken.2).as_many

    as_many_then : to.segments ≡ segments
    as_many_then = (births.stands_at segments when begin.times opening start begin.stands (items (Does c e ∷ older)) good.legal taken).as_many

    -- ---- what it gains

    uses_are : (k : ℕ) → (store_after segments opening (Done c ∷ items older)).use_of k ≡ (edited_all s finish.edits).use_of k
    uses_are k =
        let step = next.step segments when begin.times opening start begin.stands c (items older) good.legal taken by in
        let is = (next.fin segments when begin.times opening start begin.stands c (items older) good.legal taken by).comes.is in
        ap (λ (z : Store). z.use_of k) (next.store_is segments when begin.times opening start begin.stands c (items older) good.legal taken by) ∙ step.tidy.uses k
        ∙ sym ((lines_move c.asked hand s (shape_of tree) naming c.op (when c.op) finish of at_hand is).uses k)

    gains : GainsNone s (store_after segments opening (Done c ∷ items older)) ⊎ FreesNone s (store_after segments opening (Done c ∷ items older))
    gains =
        let is = (next.fin segments when begin.times opening start begin.stands c (items older) good.legal taken by).comes.is in
        ⊎_elim (λ none. inl (λ k used. none k (subst (λ u. is_directory_use u ≡ true) (uses_are k) used)))
        (λ none. inr (λ k. ⊎_elim (λ same. inl (uses_are k ∙ same)) (λ new. inr (uses_are k ∙ new)) (none k)))
        (lines_gain_or_free c.asked hand s (shape_of tree) naming c.op (when c.op) finish of at_hand is)

    grown : blocks_after (Does c e ∷ older) ≤ blocks_after older + (directories (Does c e ∷ older) - directories older)
    grown =
        let then_of = births.named segments when begin.times opening start begin.stands (items (Does c e ∷ older)) good.legal taken in
        let low : directory_blocks_in (store_after segments opening (Done c ∷ items older)) tree.segments
        ≤ directory_blocks_in s tree.segments + (count_of dir_blocks (shape_of to) - count_of dir_blocks (shape_of tree)) =
        grows_with_the_tree s (store_after segments opening (Done c ∷ items older)) (shape_of tree) (shape_of to) naming then_of.0 of then_of.1 (as_many_then ∙ sym as_many) gains in
        subst (λ n. blocks_after (Does c e ∷ older) ≤ blocks_after older + (n - directories older)) (counted_alike (Does c e ∷ older) good)
        (subst (λ n. blocks_after (Does c e ∷ older) ≤ blocks_after older + (count_of dir_blocks (shape_of to) - n)) (counted_alike older before)
        (subst (λ k. directory_blocks_in (store_after segments opening (Done c ∷ items older)) k ≤ directory_blocks_in s k + (count_of dir_blocks (shape_of to) - count_of dir_blocks (shape_of tree)))
        as_many low))

    -- ---- what it tells

    told : (m : ℕ) → e.reply ≡ reply.NoBlock m → m ≡ blocks_after older
    told m is =
        let fin = next.fin segments when begin.times opening start begin.stands c (items older) good.legal taken by in
        let after = next.after segments when begin.times opening start begin.stands c (items older) good.legal taken by in
        let planned : without_bytes finish.reply ≡ reply.NoBlock m =
        sym (ap (λ (q : Outcome). q.reply) fin.comes.outcome) ∙ sym good.lines.0.reply ∙ ap without_bytes is in
        let keeps : FinishKeeps s (shape_of tree) naming (perform (shape_of tree) c.asked c.op (when c.op) after.ever) finish =
        subst (PlanKeeps hand s (shape_of tree) naming (perform (shape_of tree) c.asked c.op (when c.op) after.ever)) fin.comes.is
        (lines_planned c.asked hand s (shape_of tree) naming c.op (when c.op) after.ever of at_hand after.done.new after.done.files) in
        answers_tell (shape_of tree) c.asked c.op (when c.op) after.ever m
        (subst (λ r. Answers (perform (shape_of tree) c.asked c.op (when c.op) after.ever).answer r) (number_back finish.reply m planned) keeps.meets.answer)
        ∙ after.done.files.directories ∙ ap (directory_blocks_in s) as_many

    at_least : directories older ≤ blocks_after older
    at_least =
        subst (λ n. n ≤ blocks_after older) (counted_alike older before)
        (subst (λ k. count_of dir_blocks (shape_of tree) ≤ directory_blocks_in s k) as_many (few_directories s (shape_of tree) naming of))

    pub may_tell_it : (high : ℕ) → blocks_after older ≤ high → may_tell (tree_after first older) high e.reply ≡ true
    may_tell_it high most = go e.reply refl
      where
        go : (r : Reply) → e.reply ≡ r → may_tell (tree_after first older) high r ≡ true
        go (reply.NoBlock m) is =
            let number : m ≡ blocks_after older = told m is in
            within (directories older) m high (subst (λ n. directories older ≤ n) (sym number) at_least) (subst (λ n. n ≤ high) (sym number) most)
        go r is = refl

  -- ---- along deeds

  module _ (ever : ℕ) (counted : directory_blocks_in (store_after segments opening []) segments ≡ ever) where
    all_counted : (deeds : List Deed) → Good deeds → Each IsByPlan (items deeds) → blocks_after deeds ≤ ever_after first ever (steps deeds)
    all_counted [] good by = subst (λ n. blocks_after [] ≤ n) counted (le_refl (blocks_after []))
    all_counted (Does c e ∷ older) good by =
        subst (λ n. blocks_after (Does c e ∷ older) ≤ n) (sym (ever_more first ever (steps older) (Stays e)))
        (raised (blocks_after (Does c e ∷ older)) (blocks_after older) (directories (Does c e ∷ older) - directories older) (ever_after first ever (steps older)) (grown c e older good by.0)
        (all_counted older (good_before segments when opening first numbers begin.times begin.stands c e older good) by.1))
    all_counted (Says e ∷ older) good by =
        subst (λ n. blocks_after older ≤ n) (sym (ever_more first ever (steps older) (Stays e)))
        (still (blocks_after older) (directories (Says e ∷ older) - directories older) (ever_after first ever (steps older))
        (all_counted older (record { legal = good.legal; distinct = good.distinct; lines = good.lines.1 }) by))
    all_counted (Doubts marked runs ∷ older) good by =
        subst (λ n. blocks_after older ≤ n) (sym (ever_more first ever (steps older) (InDoubt runs)))
        (still (blocks_after older) (directories (Doubts marked runs ∷ older) - directories older) (ever_after first ever (steps older))
        (all_counted older (record { legal = good.legal; distinct = good.distinct; lines = good.lines }) by))

    all_tell : (deeds : List Deed) → Good deeds → Each IsByPlan (items deeds) → AllMayTell first ever deeds
    all_tell [] good by = tt
    all_tell (Does c e ∷ older) good by =
        let before = good_before segments when opening first numbers begin.times begin.stands c e older good in
        (may_tell_it c e older good by.0 (ever_after first ever (steps older)) (all_counted older before by.1), all_tell older before by.1)
    all_tell (Says e ∷ older) good by = all_tell older (record { legal = good.legal; distinct = good.distinct; lines = good.lines.1 }) by
    all_tell (Doubts marked runs ∷ older) good by = all_tell older (record { legal = good.legal; distinct = good.distinct; lines = good.lines }) by

pub blocks_counted : BlocksAreCounted
blocks_counted segments when opening first numbers home logged bytes begin ever counted deeds legal distinct by lines =
    all_counted segments when opening first numbers home logged bytes begin ever counted deeds (record { legal = legal; distinct = distinct; lines = lines }) by

pub numbers_told : NumbersMayBeTold
numbers_told segments when opening first numbers home logged bytes begin ever counted deeds legal distinct by lines =
    all_tell segments when opening first numbers home logged bytes begin ever counted deeds (record { legal = legal; distinct = distinct; lines = lines }) by
