-- Histories of lines, worlds and runs are of one file tree.
use Rattle.std.proofs.Common.{ℕ, ◌≡◌, ◌≢◌, List, [], ◌∷◌, refl, sym, ◌∙◌, ap, subst}
use Rattle.tree_definitions.specs.Tree.{FileTree}
use Rattle.sector_bytes.specs.Blocks.{Block}
use Rattle.sector_world.specs.Histories.{Item, logical, settled, Each}
use Rattle.sector_world.specs.Histories.Item.{Done, Doubt}
use Rattle.sector_world.specs.Plans.{outcome_of, Legal}
use Rattle.sector_world.specs.World.{World, start}
use Rattle.sector_world.specs.Kinds.{Good}
use Rattle.sector_world.specs.Claims.{left, replayed}
use Rattle.sector_world.specs.Logged.{now_of}
use Rattle.sector_world.specs.Trees.{Meets, Distinct, Answers, Stand, tree_of, with_versions}
use Rattle.sector_world.proofs.Every.{good_start, good_run}
use Rattle.sector_world.proofs.Legal.{legal_run, legal_good, opening_run}
use Rattle.sector_world.proofs.Trees.{distinct_run, stand_good}
use Rattle.line_histories.specs.LinePlans.{sector_plan}
use Rattle.line_histories.proofs.Framed.{lines_framed}
use Rattle.line_histories.specs.Trees.{performed, AreTimes, MayNumber, NumberedTree, performed_numbered, MayTake}
use Rattle.line_histories.specs.Standing.{StandsForShape, StandsNumbered}
use Rattle.line_histories.specs.Laws.{HistoriesAreOfOneTree, WorldsAreOfOneTree, RunsAreOfOneTree}
use Rattle.line_histories.proofs.Meeting.{lines_meet}

-- ---- with the numbers that are left, and without

abbrev pub numbered : FileTree → List ℕ → NumberedTree
numbered first numbers = record { tree = first; numbers = numbers }

module _ (when : ℕ → ℕ) (first : FileTree) (numbers : List ℕ) where
  same_tree : (h : List Item) → (tree_of (performed_numbered when) (numbered first numbers) h).tree ≡ tree_of (performed when) first h
  same_tree [] = refl
  same_tree (Done c ∷ h) = ap (λ t. (performed when c.op c.asked c.blocks t).tree) (same_tree h)
  same_tree (Doubt m ∷ h) = same_tree h

  same_answers : (h : List Item) → Answers (performed_numbered when) (numbered first numbers) h → Answers (performed when) first h
  same_answers [] a = tt
  same_answers (Done c ∷ h) a = (a.0 ∙ ap (λ t. (performed when c.op c.asked c.blocks t).reply) (same_tree h), same_answers h a.1)
  same_answers (Doubt m ∷ h) a = same_answers h a

  pub take_distinct : (h : List Item) → Distinct (MayNumber numbers) first h → Distinct MayTake (numbered first numbers) h
  take_distinct [] d = tt
  take_distinct (Done c ∷ h) d = (d.0, d.1, take_distinct h d.2)
  take_distinct (Doubt m ∷ h) d = take_distinct h d

  same_stands : (segments : ℕ) (disk : ℕ → Block) (h : List Item) → StandsNumbered segments disk (tree_of (performed_numbered when) (numbered first numbers) h) → StandsForShape segments disk (tree_of (performed when) first h)
  same_stands segments disk h s = subst (StandsForShape segments disk) (same_tree h) s.stands

-- ---- histories

module _ (segments : ℕ) (when : ℕ → ℕ) (times : AreTimes when) (opening : ℕ → Block) (first : NumberedTree) (begins : StandsNumbered segments opening first) where
  -- the sectors stand for the tree of the history, and it is met by the next operation whose number none has had
  pub both : (h : List Item) → Legal (sector_plan segments when) opening h → Distinct MayTake first h →
      StandsNumbered segments (logical opening h) (tree_of (performed_numbered when) first h) × ((m : ℕ) → Each (λ e. e.op ≢ m) h → MayTake m first → MayTake m (tree_of (performed_numbered when) first h))
  both [] l d = (begins, (λ m e f. f))
  both (Doubt m ∷ h) l d = both h l d
  both (Done c ∷ h) l d =
      let r = both h l.1 d.2 in
      let state = tree_of (performed_numbered when) first h in
      let q : Meets NumberedTree (StandsNumbered segments) (performed_numbered when) MayTake c.op c.asked state (logical opening h) (outcome_of c) =
      lines_meet segments when times c.hint c.op c.asked state (logical opening h) (outcome_of c) r.0 (r.1 c.op d.1 d.0) l.0 in
      (q.next, (λ m e f. q.others m (λ i. e.0 (sym i)) (r.1 m e.1 f)))

  answered : (h : List Item) → Legal (sector_plan segments when) opening h → Distinct MayTake first h → Answers (performed_numbered when) first h
  answered [] l d = tt
  answered (Doubt m ∷ h) l d = answered h l d
  answered (Done c ∷ h) l d =
      let r = both h l.1 d.2 in
      let state = tree_of (performed_numbered when) first h in
      let q : Meets NumberedTree (StandsNumbered segments) (performed_numbered when) MayTake c.op c.asked state (logical opening h) (outcome_of c) =
      lines_meet segments when times c.hint c.op c.asked state (logical opening h) (outcome_of c) r.0 (r.1 c.op d.1 d.0) l.0 in
      (q.answer, answered h l.1 d.2)

pub histories_of_one_tree : HistoriesAreOfOneTree
histories_of_one_tree segments when opening first numbers h times begins legal distinct =
    let d = take_distinct when first numbers h distinct in
    record {
      answers = same_answers when first numbers h (answered segments when times opening (numbered first numbers) begins h legal d);
      stands = same_stands when first numbers segments (logical opening h) h (both segments when times opening (numbered first numbers) begins h legal d).0;
    }

-- ---- worlds and runs

pub worlds_of_one_tree : WorldsAreOfOneTree
worlds_of_one_tree segments when first numbers w times begins legal distinct good =
    let s : Stand NumberedTree (StandsNumbered segments) (performed_numbered when) (numbered first numbers) w =
    stand_good (sector_plan segments when) (StandsNumbered segments) (performed_numbered when) MayTake (lines_meet segments when times) (numbered first numbers) w begins legal
    (take_distinct when first numbers (settled w.history) distinct) good in
    record {
      answers = same_answers when first numbers (settled w.history) s.answers;
      left_answers = same_answers when first numbers (left w w.servers) s.left_answers;
      now = same_stands when first numbers segments (now_of w) (settled w.history) s.now;
      replay = same_stands when first numbers segments (with_versions w (left w w.servers) (replayed w w.servers)) (left w w.servers) s.replay;
    }

pub runs_of_one_tree : RunsAreOfOneTree
runs_of_one_tree segments when servers disk logged of_files home first numbers events w times begins run planned new =
    let begin : World = start servers disk logged of_files home in
    let plan = sector_plan segments when in
    let good : Good w = good_run begin events w run (good_start servers disk logged of_files home) in
    worlds_of_one_tree segments when first numbers w times (subst (λ o. StandsNumbered segments o (numbered first numbers)) (sym (opening_run begin events w run)) begins)
    (legal_good plan (lines_framed segments when) w good (legal_run plan (lines_framed segments when) begin events w run planned (good_start servers disk logged of_files home) tt))
    (distinct_run (MayNumber numbers) first begin events w run new tt) good
