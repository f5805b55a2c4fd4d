-- What the judge has after some of the lines.
use Rattle.std.specs.Prelude.{◌≡◌, ℕ, Bool, true, false, not, ◌&&◌, if◌then◌else◌, is_none, Option, Some, None, List, [], ◌∷◌, map, take}
use Rattle.std.specs.List.{All, slice_get}
use Rattle.frang_base.specs.declared.said.Said.{Said}
use Rattle.frang_base.specs.declared.said.Said.TheVariants as said
use Rattle.frang_base.specs.declared.script.Line.{Line}
use Rattle.tree_definitions.specs.declared.history.Item.{Item}
use Rattle.tree_definitions.specs.History.{Opening, after_all, legal_from, fresh_opening}
use Rattle.tree_definitions.specs.Live.{item_of, live_history}
use Rattle.tree_definitions.specs.Removal.{kept_from, settled, settled_from}
use Rattle.tree_definitions.specs.Transcript.{live_tree}
use Rattle.tree_definitions.specs.Tree.{fresh}
use Rattle.tree_definitions.specs.TreeLines.{tree_lines}
use Rattle.tree_model.specs.Replayed.{all_within}
use Rattle.history_rules.specs.Settled.{SoFar}
use Rattle.transcript_rules.specs.Tells.{SoFar as ToldSoFar, HasTreeAt, MayGoOn, onward}
use Rattle.judge_rules.specs.Scripts.{items_of}
use Rattle.judge_rules.specs.Verdicts.{AreKept, AreLegal, AreTranscript, BreaksAt}

-- an item, or none, whose operation has a proper target where it has one
abbrev pub WithinAt : Option Item → Type 0
WithinAt item = all_within (items_of item) ≡ true

-- what each line adds, one after the other
pub record AreItems (script : List Line) (saids : List Said) (items : List (Option Item)) : Type 0 where
  pub are : map items_of items ≡ map (item_of script 1) saids
  pub within : All WithinAt items

-- a history goes on by these items, of which there is one at most: legal stays what was where the longer list is, and illegal stays so
pub record Takes (old : SoFar) (items : List Item) (new : SoFar) : Type 0 where
  pub opening : new.opening ≡ old.opening
  pub steps : new.steps ≡ settled_from old.opening old.steps items
  pub kept : new.kept ≡ (old.kept && kept_from old.opening old.steps items)
  pub goes : old.legal ≡ true → legal_from old.opening 0 old.steps ≡ true → new.legal ≡ legal_from new.opening 0 new.steps
  pub stays : old.legal ≡ false → new.legal ≡ false

-- a history is that of lines said on a fresh disk
pub record IsHistory (script : List Line) (segments : ℕ) (before : List Said) (now : SoFar) : Type 0 where
  pub opening : now.opening ≡ fresh segments
  pub steps : now.steps ≡ settled (fresh segments) (live_history script 1 before)

-- lines of the tree that are at hand: those that were found, else those of the history
abbrev pub at_hand : SoFar → List Said → List Said
at_hand now [] = tree_lines (after_all now.opening now.steps)
at_hand now (line ∷ found) = line ∷ found

-- the lines of the tree where one of it is said, or the end; else none
abbrev pub tree_for : SoFar → List Said → Said → List Said
tree_for now found (said.Node path kind size links) = at_hand now found
tree_for now found said.End = at_hand now found
tree_for now found _ = []

-- the lines of the tree of lines said, or none
abbrev pub AreAtHand : List Line → ℕ → List Said → List Said → Type 0
AreAtHand script segments before [] = Unit {0}
AreAtHand script segments before (line ∷ found) = line ∷ found ≡ live_tree script (fresh_opening segments) before

-- what the test of the next line tells, of a tree with these lines
pub record Tests (old new : ToldSoFar) (lines : List Said) (holds : Bool) : Type 0 where
  pub goes : holds ≡ true → new ≡ onward old
  pub may : (opening : Opening) → HasTreeAt old opening lines (slice_get old.saids old.place) → holds ≡ true → MayGoOn old opening (slice_get old.saids old.place)
  pub never : (opening : Opening) → HasTreeAt old opening lines (slice_get old.saids old.place) → holds ≡ false → MayGoOn old opening (slice_get old.saids old.place) → ⊥

-- the number of the first line that breaks a rule, once one more is heard
abbrev pub first_of : Option ℕ → Bool → ℕ → Option ℕ
first_of before holds number = if is_none before && not holds then Some number else before

-- the transcript so far: where it broke first; and while it holds, that these lines were told, and of which tree lines are at hand
pub record Hears (script : List Line) (segments : ℕ) (granted : Bool) (saids : List Said) (place : ℕ) (told : ToldSoFar) (tree : List Said) (first : Option ℕ) : Type 0 where
  pub breaks : BreaksAt (AreTranscript script segments granted) (take place saids) first
  pub told_is : first ≡ None → told ≡ record { script = script; granted = granted; saids = saids; place = place }
  pub tree_is : first ≡ None → AreAtHand script segments (take place saids) tree

-- the history so far: where it broke first, and where what must be kept was not
pub record Weighs (script : List Line) (segments : ℕ) (saids : List Said) (place : ℕ) (now : SoFar) (legal kept : Option ℕ) : Type 0 where
  pub history : IsHistory script segments (take place saids) now
  pub legality : BreaksAt (AreLegal script segments) (take place saids) legal
  pub keeping : BreaksAt (AreKept script segments) (take place saids) kept
  pub is_legal : now.legal ≡ is_none legal
  pub is_kept : now.kept ≡ is_none kept
