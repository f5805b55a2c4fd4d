-- What a history of lines gives of its next operation: the blind plan, the disk before and after it as disks of the shapes of trees, and where bytes lie.
use Rattle.std.proofs.Common.{ℕ, ◌≡◌, ◌≤◌, ◌⊎◌, inl, inr, ⊎_elim, true, false, List, ◌∷◌, is_some, sym, ◌∙◌, ap, subst}
use Rattle.std.specs.List.{filter_map}
use Rattle.frang_base.specs.Functions.{member}
use Rattle.tree_definitions.specs.Perform.{perform}
use Rattle.tree_definitions.specs.Touched.{shape_of}
use Rattle.tree_definitions.specs.Tree.{FileTree, node_at}
use Rattle.tree_definitions.specs.WellFormed.{IsNew}
use Rattle.tree_laws.proofs.ShapeResolving.{perform_shape}
use Rattle.sector_bytes.specs.Blocks.{Block}
use Rattle.sector_world.specs.Histories.{Commit, Item, logical}
use Rattle.sector_world.specs.Histories.Item.{Done}
use Rattle.sector_world.specs.Plans.{Outcome, IsByPlan, Legal}
use Rattle.sector_world.specs.Trees.{Distinct}
use Rattle.disk_definitions.specs.Naming.{Naming}
use Rattle.disk_definitions.specs.Standing.{IsReached}
use Rattle.disk_definitions.specs.Store.Use.{Fresh}
use Rattle.disk_definitions.specs.Edits.{edited_all}
use Rattle.disk_definitions.specs.ChangeLaws.{FilesFit}
use Rattle.disk_definitions.specs.Ask.{Sector, looks, number_of, run}
use Rattle.disk_definitions.specs.Meets.{IsOfTree, IsHandOf, is_directory_use}
use Rattle.disk_definitions.specs.Plans.{Finish}
use Rattle.disk_definitions.specs.Plans.Plan.{Finishes}
use Rattle.disk_definitions.specs.Written.{freed_sectors}
use Rattle.plan_laws.specs.FilesPlanned.{HasFiles}
use Rattle.line_laws.specs.Stores.{blank}
use Rattle.line_laws.specs.Laws.{HasPath}
use Rattle.line_laws.proofs.Shaping.{shapes_stand}
use Rattle.disk_definitions.specs.Lines.{plan_of_line}
use Rattle.line_histories.specs.Files.{HoldsBytes, IsWritten}
use Rattle.line_histories.specs.LinePlans.{hand_on, makes_by, plain, sector_plan, store_on, store_showing}
use Rattle.line_histories.proofs.Hands.{hint_fresh}
use Rattle.line_histories.specs.Following.{store_after}
use Rattle.line_histories.specs.Standing.{StandsNumbered}
use Rattle.line_histories.specs.Trees.{AreTimes, MayTake, NumberedTree}
use Rattle.line_histories.proofs.Filled.{IsInUse, file_in_use, not_given}
use Rattle.line_histories.specs.Parts.{LiesIn}
use Rattle.stop_laws.proofs.BytesAlong as along

pub record IsStepped (segments : ℕ) (when : ℕ → ℕ) (opening : ℕ → Block) (h : List Item) (c : Commit) (tree to : FileTree) : Type 0 where
  pub few : segments ≤ 64
  pub path : HasPath c.asked
  -- the plan over the sectors with versions
  pub finish : Finish
  pub is : run (plan_of_line (hand_on segments (logical opening h) c.hint) c.op (when c.op) c.asked) (store_on segments (logical opening h)) ≡ Finishes finish
  pub reads : c.reads ≡ filter_map plain (looks (plan_of_line (hand_on segments (logical opening h) c.hint) c.op (when c.op) c.asked) (store_on segments (logical opening h)))
  pub makes : (number : ℕ) →
      c.makes number ≡ makes_by (λ shown. run (plan_of_line (hand_on segments (logical opening h) c.hint) c.op (when c.op) c.asked) (store_showing shown segments (logical opening h))) number
  -- the disk before it
  pub naming : Naming
  pub of : IsOfTree (store_on segments (logical opening h)) (shape_of tree) naming
  pub at_hand : IsHandOf (hand_on segments (logical opening h) c.hint) (store_on segments (logical opening h)) (shape_of tree).segments
  pub new : IsNew (shape_of tree) c.op
  pub ever : ℕ
  pub files : HasFiles (store_on segments (logical opening h)) (shape_of tree) ever
  pub used : (x : Sector) → HoldsBytes (store_on segments (logical opening h)) x → IsInUse segments (store_on segments (logical opening h)) x
  -- the disk after it
  pub performs : shape_of (perform tree c.asked c.op (when c.op) ever).tree ≡ shape_of to
  pub after : Naming
  pub leads : IsOfTree (blank (edited_all (store_on segments (logical opening h)) finish.edits)) (shape_of to) after
  pub of_then : IsOfTree (store_after segments opening (Done c ∷ h)) (shape_of to) after
  pub inodes : (i : ℕ) → (store_after segments opening (Done c ∷ h)).inode i ≡ (edited_all (store_on segments (logical opening h)) finish.edits).inode i
  pub reached : IsReached (node_at (shape_of to))
  pub fit : FilesFit (node_at (shape_of to))
  pub comes : (k : ℕ) → is_directory_use ((store_after segments opening (Done c ∷ h)).use_of k) ≡ true →
      (is_directory_use ((store_on segments (logical opening h)).use_of k) ≡ true) ⊎ ((store_on segments (logical opening h)).use_of k ≡ Fresh)
  -- the sectors of files after it
  pub used_then : (n : Naming) → IsOfTree (store_after segments opening (Done c ∷ h)) (shape_of to) n → (b t : ℕ) (x : Sector) →
      LiesIn (store_after segments opening (Done c ∷ h)) (shape_of to) n b t x →
      IsInUse segments (store_after segments opening (Done c ∷ h)) x
  pub kept : (x : Sector) → IsInUse segments (store_after segments opening (Done c ∷ h)) x → member (number_of x) (freed_sectors finish.edits) ≡ false
  pub written : (n : Naming) → IsOfTree (store_after segments opening (Done c ∷ h)) (shape_of to) n → (b t : ℕ) (x : Sector) →
      LiesIn (store_after segments opening (Done c ∷ h)) (shape_of to) n b t x →
      is_some (c.writes (number_of x)) ≡ true → IsWritten finish.edits x

module _ (segments : ℕ) (when : ℕ → ℕ) (times : AreTimes when) (opening : ℕ → Block) (start : NumberedTree) (begins : StandsNumbered segments opening start) (c : Commit)
    (h : List Item)
    (l : Legal (sector_plan segments when) opening (Done c ∷ h)) (d : Distinct MayTake start (Done c ∷ h)) (by : IsByPlan c) (tree to : FileTree)
    (before : shape_of tree ≡ shape_of (along.state segments when times opening start begins c h l d by).tree)
    (afterwards : shape_of to ≡ shape_of (along.to segments when times opening start begins c h l d by)) where
  abbrev was : FileTree
  was = (along.state segments when times opening start begins c h l d by).tree

  abbrev now : FileTree
  now = along.to segments when times opening start begins c h l d by

  -- the trees have the shapes of those of the history
  now_is : shape_of (along.to segments when times opening start begins c h l d by) ≡ shape_of to
  now_is = sym afterwards

  was_is : shape_of (along.state segments when times opening start begins c h l d by).tree ≡ shape_of tree
  was_is = sym before

  store_is : store_on segments (along.next segments when times opening start begins c h l d by) ≡ store_after segments opening (Done c ∷ h)
  store_is = sym (along.store_is segments when times opening start begins c h l d by)

  -- what holds by the history's tree and its next disk
  back_of : (n : Naming) → IsOfTree (store_after segments opening (Done c ∷ h)) (shape_of to) n →
      IsOfTree (store_on segments (along.next segments when times opening start begins c h l d by)) (shape_of (along.to segments when times opening start begins c h l d by)) n
  back_of n of = subst (λ s. IsOfTree s (shape_of now) n) (sym store_is) (subst (λ u. IsOfTree (store_after segments opening (Done c ∷ h)) u n) afterwards of)

  back_lies : (n : Naming) (b t : ℕ) (x : Sector) → LiesIn (store_after segments opening (Done c ∷ h)) (shape_of to) n b t x →
      LiesIn (store_on segments (along.next segments when times opening start begins c h l d by)) (shape_of (along.to segments when times opening start begins c h l d by)) n b t x
  back_lies n b t x lies = subst (λ s. LiesIn s (shape_of now) n b t x) (sym store_is) (subst (λ u. LiesIn (store_after segments opening (Done c ∷ h)) u n b t x) afterwards lies)

  performed_is : shape_of (perform tree c.asked c.op (when c.op) (along.after segments when times opening start begins c h l d by).ever).tree ≡ shape_of to
  performed_is =
      let ever = (along.after segments when times opening start begins c h l d by).ever in
      sym (perform_shape tree c.asked c.op (when c.op) ever).tree ∙ ap (λ u. shape_of (perform u c.asked c.op (when c.op) ever).tree) before
      ∙ along.shape_is segments when times opening start begins c h l d by ∙ now_is

  leads_blank : IsOfTree (blank (edited_all (store_on segments (logical opening h)) (along.fin segments when times opening start begins c h l d by).comes.finish.edits)) (shape_of to) (along.after segments when times opening start begins c h l d by).after
  leads_blank =
      let edits = (along.fin segments when times opening start begins c h l d by).comes.finish.edits in
      let next = along.after segments when times opening start begins c h l d by in
      subst (λ u. IsOfTree (blank (edited_all (store_on segments (logical opening h)) edits)) u next.after) (along.shape_is segments when times opening start begins c h l d by ∙ now_is)
      (shapes_stand (edited_all (store_on segments (logical opening h)) edits) (perform (shape_of was) c.asked c.op (when c.op) next.ever).tree next.after next.done.leads).blank

  pub stepped : IsStepped segments when opening h c tree to
  stepped = record {
    few = along.few segments when times opening start begins c h l d by;
    path = (along.fin segments when times opening start begins c h l d by).path;
    finish = (along.fin segments when times opening start begins c h l d by).comes.finish;
    is = (along.fin segments when times opening start begins c h l d by).comes.is;
    reads = ap (λ (q : Outcome). q.reads) (along.fin segments when times opening start begins c h l d by).comes.outcome;
    makes = λ number. ap (λ (q : Outcome). q.makes number) (along.fin segments when times opening start begins c h l d by).comes.outcome;
    naming = along.naming segments when times opening start begins c h l d by;
    of = subst (λ u. IsOfTree (store_on segments (logical opening h)) u (along.naming segments when times opening start begins c h l d by)) was_is (along.step segments when times opening start begins c h l d by).of;
    at_hand = subst (λ (u : FileTree). IsHandOf (hand_on segments (logical opening h) c.hint) (store_on segments (logical opening h)) u.segments) was_is
        (along.after segments when times opening start begins c h l d by).done.at_hand;
    new = subst (λ u. IsNew u c.op) was_is (along.after segments when times opening start begins c h l d by).done.new;
    ever = (along.after segments when times opening start begins c h l d by).ever;
    files = subst (λ u. HasFiles (store_on segments (logical opening h)) u (along.after segments when times opening start begins c h l d by).ever) was_is
        (along.after segments when times opening start begins c h l d by).done.files;
    used = λ x holds. file_in_use segments (logical opening h) was (along.stands_now segments when times opening start begins c h l d by).stands x holds;
    performs = performed_is;
    after = (along.after segments when times opening start begins c h l d by).after;
    leads = leads_blank;
    of_then = subst (λ u. IsOfTree (store_after segments opening (Done c ∷ h)) u (along.after segments when times opening start begins c h l d by).after) now_is
        (subst (λ s. IsOfTree s (shape_of now) (along.after segments when times opening start begins c h l d by).after) store_is (along.then_of segments when times opening start begins c h l d by));
    inodes = λ i. ap (λ s. s.inode i) (sym store_is) ∙ (along.after segments when times opening start begins c h l d by).inodes i;
    reached = subst (λ (u : FileTree). IsReached (node_at u)) now_is (along.stands_then segments when times opening start begins c h l d by).stands.below.stands.reached;
    fit = subst (λ (u : FileTree). FilesFit (node_at u)) now_is (along.fits segments (logical opening (Done c ∷ h)) now (along.stands_then segments when times opening start begins c h l d by).stands);
    comes = λ k e. ⊎_elim (λ i. inl i) (λ i. inr (hint_fresh segments (logical opening h) c.hint k i).1)
        ((along.step segments when times opening start begins c h l d by).come k (ap (λ s. is_directory_use (s.use_of k)) store_is ∙ e));
    used_then = λ n of b t x lies. subst (λ s. IsInUse segments s x) store_is (along.in_use segments when times opening start begins c h l d by n (back_of n of) b t x (back_lies n b t x lies));
    kept = λ x u.
        let step = along.step segments when times opening start begins c h l d by in
        not_given segments (along.few segments when times opening start begins c h l d by) (store_on segments (along.next segments when times opening start begins c h l d by))
        (along.fin segments when times opening start begins c h l d by).comes.finish.edits step.fit step.small_back step.large_back x (subst (λ s. IsInUse segments s x) (sym store_is) u);
    written = λ n of b t x lies e. along.fills_written segments when times opening start begins c h l d by n (back_of n of) b t x (back_lies n b t x lies) e;
  }
