-- The plan of a line meets the file tree.
use Rattle.std.proofs.Common.{ℕ, ◌≡◌, ◌≢◌, ◌+◌, ◌*◌, ◌<◌, ◌⊎◌, inl, inr, ⊎_elim, true, false, Option, Some, None, List, length, is_some, refl, sym, ◌∙◌, ap, subst, arith, le_refl}
use Rattle.frang_base.specs.declared.op.Op.{Op}
use Rattle.frang_base.specs.declared.op.Op.TheVariants as op
use Rattle.frang_base.specs.declared.reply.Reply.{Reply}
use Rattle.frang_base.specs.declared.reply.Reply.TheVariants as reply
use Rattle.tree_definitions.specs.declared.node.Node.{Node}
use Rattle.tree_definitions.specs.declared.node.Node.TheVariants.{Dir, File, Link}
use Rattle.tree_definitions.specs.Tree.{FileTree, node_at}
use Rattle.tree_definitions.specs.Touched.{shape_of}
use Rattle.tree_definitions.specs.Apply.{Answer, Plain, Shows, Applied}
use Rattle.tree_definitions.specs.Perform.{perform}
use Rattle.tree_definitions.specs.WellFormed.{IsNew, IsWellFormed}
use Rattle.tree_laws.proofs.Balance.{Limits, Within, AreAllowed}
use Rattle.tree_laws.proofs.WellFormedLaws.{Makes}
use Rattle.tree_laws.proofs.OrderLaws.{segments_perform}
use Rattle.tree_laws.proofs.StepsLaws.{perform_keeps, perform_well}
use Rattle.tree_laws.specs.Acting.{GoesByShape, answer_shape}
use Rattle.tree_laws.proofs.ShapeResolving.{perform_shape}
use Rattle.sector_bytes.specs.Replays.{change_at, forced}
use Rattle.sector_bytes.specs.Sectors.{Sectors}
use Rattle.disk_definitions.specs.declared.param.Param.{Param}
use Rattle.sector_world.specs.Plans.{Outcome}
use Rattle.sector_world.specs.Trees.{Applied as Told, Meets}
use Rattle.disk_definitions.specs.Allowed.{IsAllowed}
use Rattle.disk_definitions.specs.Ask.{run}
use Rattle.disk_definitions.specs.Meets.{Answers, FinishMeets, IsHandOf, is_directory_use}
use Rattle.disk_definitions.specs.Plans.{Hand, Finish}
use Rattle.disk_definitions.specs.Plans.Plan.{Finishes}
use Rattle.disk_definitions.specs.Written.{changes_of}
use Rattle.disk_definitions.specs.Lines.{plan_of_line}
use Rattle.line_laws.specs.Ready.{IsClearOn}
use Rattle.line_histories.specs.LinePlans.{store_on, hand_on, without_bytes, blocks_told, sector_plan}
use Rattle.line_histories.specs.Guards.{IsClear}
use Rattle.line_histories.proofs.Outcomes.{outcomes_of_plans}
use Rattle.line_histories.proofs.Hands.{hint_fresh, is_hand}
use Rattle.line_histories.specs.Trees.{reply_of, AreTimes, NumberedTree, without, performed_numbered, MayTake}
use Rattle.line_histories.specs.Standing.{HasZeros, StandsForShape, StandsNumbered}
use Rattle.line_histories.specs.Laws.{LinesMeetTheTree}
use Rattle.line_histories.proofs.Disks.{ever}
use Rattle.line_histories.proofs.Leading.{IsNextBelow, meets, stands_next, zeros_next}
use Rattle.line_histories.proofs.Told.{perform_told}
use Rattle.line_histories.proofs.Numbers.{one_fewer, others_stay}
use Rattle.line_histories.proofs.Laid.{with_changes}

-- ---- answers

-- a reply that answers the shape is the tree's, bytes aside
answers_shape : (a : Answer) (r : Reply) → Answers (answer_shape a) r → without_bytes r ≡ reply_of a
answers_shape (Plain said) r h = ap without_bytes h
answers_shape (Shows cells) (reply.Shown bytes) h = refl
answers_shape (Shows cells) _ h = absurd h

-- ---- nodes come by numbers

-- a birth that was, or is this one
abbrev old_or : FileTree → ℕ → Limits
old_or t n = record { allowed = λ b k. (is_some (node_at t b) ≡ true) ⊎ (b ≡ n); least = λ b. 0 }

old_within : (t : FileTree) (n b : ℕ) (z : Node) → node_at t b ≡ Some z → Within (old_or t n) b z
old_within t n b (Dir es k) is = (inl (ap is_some is), (omega arith))
old_within t n b (File cells links when) is = inl (ap is_some is)
old_within t n b (Link target links) is = inl (ap is_some is)

within_old : (t : FileTree) (n b : ℕ) (z : Node) → Within (old_or t n) b z → (is_some (node_at t b) ≡ true) ⊎ (b ≡ n)
within_old t n b (Dir es k) i = i.0
within_old t n b (File cells links when) i = i
within_old t n b (Link target links) i = i

makes_own : (t : FileTree) (o : Op) (b : ℕ) → Makes (old_or t b) o b
makes_own t (op.Create path) b = inr refl
makes_own t (op.Mkdir path) b = (inr refl, le_refl 0)
makes_own t (op.Symlink path target) b = inr refl
makes_own t _ b = tt

still_none : (t u : FileTree) (n b : ℕ) → AreAllowed (old_or t n) u → IsNew t b → b ≢ n → (o : Option Node) → node_at u b ≡ o → node_at u b ≡ None
still_none t u n b all new far None is = is
still_none t u n b all new far (Some z) is = absurd (⊎_elim (λ s. (let e : is_some (node_at t b) ≡ false = ap is_some new in let v : ⊥ = cc in v)) (λ e. far e) (within_old t n b z (all b z is)))

new_stays : (t : FileTree) (o : Op) (birth when m b : ℕ) → IsWellFormed t → IsNew t birth → IsNew t b → b ≢ birth → IsNew (perform t o birth when m).tree b
new_stays t o birth when m b w mine new far =
    let r = perform_well (old_or t birth) t (record { well = w; allowed = old_within t birth }) o birth when m mine (makes_own t o birth) in
    still_none t (perform t o birth when m).tree birth b r.allowed new far (node_at (perform t o birth when m).tree b) refl

-- ---- a finished line

module _ (segments : ℕ) (when : ℕ → ℕ) (times : AreTimes when) (n : ℕ) (o : Op) (state : NumberedTree) (disk : Sectors) (is_of : StandsNumbered segments disk state) (may_take : MayTake n state) (h : Hand)
    (at : IsHandOf h (store_on state.tree.segments disk) state.tree.segments) (clear : IsClearOn disk h) (may : IsAllowed o) (f : Finish) (is : run (plan_of_line h n (when n) o) (store_on state.tree.segments disk) ≡ Finishes f) where
  abbrev tree : FileTree
  tree = state.tree

  abbrev shape : FileTree
  shape = shape_of tree

  abbrev told : ℕ
  told = blocks_told f.reply

  stands : StandsForShape tree.segments disk tree
  stands = record { well_formed = is_of.stands.well_formed; as_many = refl; below = is_of.stands.below; zeros = is_of.stands.zeros }

  abbrev m : ℕ
  m = ever disk tree stands

  leads : FinishMeets (store_on tree.segments disk) (perform shape o n (when n) m) f
  leads = meets disk tree stands h at clear n (when n) o may may_take.new may_take.small (times n) f is

  same : perform shape o n (when n) told ≡ perform shape o n (when n) m
  same = perform_told shape o n (when n) m f.reply leads.answer

  by_shape : GoesByShape (perform tree o n (when n) told) (perform shape o n (when n) told)
  by_shape = perform_shape tree o n (when n) told

  abbrev to : FileTree
  to = (perform tree o n (when n) told).tree

  shape_is : shape_of (perform shape o n (when n) m).tree ≡ shape_of to
  shape_is = ap (λ (x : Applied). shape_of x.tree) (sym same) ∙ by_shape.tree

  same_segments : to.segments ≡ tree.segments
  same_segments = segments_perform tree o n (when n) told is_of.stands.well_formed.births

  answers : without_bytes f.reply ≡ reply_of (perform tree o n (when n) told).answer
  answers = answers_shape (perform tree o n (when n) told).answer f.reply (subst (λ a. Answers a f.reply) (ap (λ (x : Applied). x.answer) (sym same) ∙ by_shape.answer) leads.answer)

  fewer : length (without n state.numbers) + 1 ≡ length state.numbers
  fewer = one_fewer n state.numbers may_take.listed

  room : is_of.stands.below.most + 1 < 131072 * is_of.stands.below.stands.param.run
  room =
      let enough : is_of.stands.below.most + length state.numbers < 131072 * is_of.stands.below.stands.param.run = is_of.enough in
      let one : length (without n state.numbers) + 1 ≡ length state.numbers = fewer in
      omega arith

  next_below : IsNextBelow disk shape is_of.stands.below (with_changes disk f.edits) (shape_of to)
  unfolding stands
  next_below = stands_next disk tree stands h at clear n (when n) o may may_take.new may_take.small (times n) f is (shape_of to) shape_is room

  still_enough : (most run : ℕ) → most ≡ is_of.stands.below.most + 1 → run ≡ is_of.stands.below.stands.param.run → most + length (without n state.numbers) < 131072 * run
  still_enough most run e g =
      let enough : is_of.stands.below.most + length state.numbers < 131072 * is_of.stands.below.stands.param.run = is_of.enough in
      let one : length (without n state.numbers) + 1 ≡ length state.numbers = fewer in
      omega arith

  next_numbered : StandsNumbered segments (with_changes disk f.edits) (record { tree = to; numbers = without n state.numbers })
  next_numbered = record {
    stands = record {
      well_formed = perform_keeps tree o n (when n) told is_of.stands.well_formed may_take.new;
      as_many = same_segments ∙ is_of.stands.as_many;
      below = next_below.after;
      zeros = subst (λ k. HasZeros k (with_changes disk f.edits)) (sym same_segments) (zeros_next disk tree stands h at clear n (when n) o may may_take.new may_take.small (times n) f is);
    };
    enough = still_enough next_below.after.most next_below.after.stands.param.run next_below.most (ap (λ (p : Param). p.run) next_below.param);
  }

  others : (k : ℕ) → k ≢ n → MayTake k state → MayTake k (record { tree = to; numbers = without n state.numbers })
  others k apart its = record {
    listed = others_stay n k state.numbers apart its.listed;
    new = new_stays tree o n (when n) told k is_of.stands.well_formed may_take.new its.new apart;
    small = its.small;
  }

  pub finish_meets : (q : Outcome) → q.reply ≡ without_bytes f.reply → q.blocks ≡ told → q.changes ≡ changes_of disk f.edits → Meets NumberedTree (StandsNumbered segments) (performed_numbered when) MayTake n o state disk q
  finish_meets q reply_is blocks_is changes_is =
      let on : (λ s. forced (change_at q.changes s) (disk s)) ≡ with_changes disk f.edits = ap (λ changes s. forced (change_at changes s) (disk s)) changes_is in
      let says : (performed_numbered when n o told state) ≡ performed_numbered when n o q.blocks state = ap (λ k. performed_numbered when n o k state) (sym blocks_is) in
      record {
        answer = reply_is ∙ answers ∙ ap (λ (a : Told NumberedTree). a.reply) says;
        next = subst (λ (a : Told NumberedTree). StandsNumbered segments (λ s. forced (change_at q.changes s) (disk s)) a.tree) says (subst (λ d. StandsNumbered segments d (performed_numbered when n o told state).tree) (sym on) next_numbered);
        others = λ k apart its. subst (λ (a : Told NumberedTree). MayTake k a.tree) says (others k apart its);
      }

-- ---- the plan

module _ (segments : ℕ) (disk : Sectors) (tree : FileTree) (stands : StandsForShape segments disk tree) where
  -- what the sectors of a fresh block are
  pub is_clear : IsClear tree.segments disk
  is_clear k p lk lp e = stands.zeros k p lk lp (ap is_directory_use e)

  pub hand_clear : (hint : List ℕ) → IsClearOn disk (hand_on tree.segments disk hint)
  hand_clear hint k p e lp = let f = hint_fresh tree.segments disk hint k e in is_clear k p f.0 lp f.1

pub lines_meet : LinesMeetTheTree
lines_meet segments when times hint n o state disk q is_of may_take is =
    let k = state.tree.segments in
    let r = outcomes_of_plans plan_of_line k when hint n o disk q (subst (λ k. sector_plan k when hint n o disk ≡ Some q) (sym is_of.stands.as_many) is) in
    finish_meets segments when times n o state disk is_of may_take (hand_on k disk hint) (is_hand k disk hint (is_clear segments disk state.tree is_of.stands)) (hand_clear segments disk state.tree is_of.stands hint) r.allowed r.comes.finish r.comes.is q
    (ap (λ (q : Outcome). q.reply) r.comes.outcome) (ap (λ (q : Outcome). q.blocks) r.comes.outcome) (ap (λ (q : Outcome). q.changes) r.comes.outcome)
