-- What is made ready for a line of the tree and for the end is for its event.
use Rattle.std.proofs.Common.{ℕ, ◌≡◌, ◌≤◌, ◌<◌, true, false, Option, Some, None, List, length, refl, sym, ap, subst, ◌∙◌, arith}
use Rattle.std.specs.List.{slice_get}
use Rattle.std.proofs.lemmas.Bool.{false≢true, ltb-true}
use Rattle.std.proofs.lemmas.Option.{slice_get_within}
use Rattle.frang_base.specs.declared.said.Said.{Said}
use Rattle.frang_base.specs.declared.said.Said.TheVariants as said
use Rattle.tree_definitions.specs.SaidLines.{said_line}
use Rattle.core_definitions.specs.Calls.{Say, say_call}
use Rattle.core_definitions.specs.Cores.{Core, tree_lines}
use Rattle.core_definitions.specs.Effects.{says_node}
use Rattle.core_definitions.specs.EndGuards.{is_tree_read}
use Rattle.core_definitions.specs.Events.{Show, End}
use Rattle.hall_runs.specs.declared.event.Call.TheVariants as call
use Rattle.host_tree.specs.Reading.{HostReading, all_lines}
use Rattle.world_state.specs.States.{State, core_at}
use Rattle.world_ready.specs.Making.{IsMade, with_tree}
use Rattle.world_ready.specs.Trees.{IsSaidInTime, IsShown, IsTextAt, SameReading}
use Rattle.world_ready.specs.declared.kinds.Ready.TheVariants as ready
use Rattle.world_ready.proofs.TreeEnd.{ends, lines_are, not_below, read_is_tree, shows}

-- the same reading gives the same core
pub with_same : (c : Core) (was tree : HostReading) → SameReading was tree → with_tree c tree ≡ with_tree c was
with_same c was tree same = λ i. record c { read = same.read i; shown = same.shown i }

-- ---- the text at a place

module _ (tree : HostReading) (place shown : ℕ) (shown_is : shown ≡ tree.shown) where
  pub said_elsewhere : (shown ≡ place → ⊥) → IsTextAt tree place None
  said_elsewhere other = λ next. absurd (other (shown_is ∙ sym next))

  pub said_here : (line : Said) (text : List ℕ) → shown ≡ place → Some line ≡ slice_get (all_lines tree.segments tree.read) tree.shown → text ≡ said_line line → IsTextAt tree place (Some text)
  said_here line text here there text_is =
      let next : place ≡ tree.shown = sym here ∙ shown_is in
      record { next = next; line = line; there = ap (slice_get (all_lines tree.segments tree.read)) next ∙ sym there; text = text_is }

  pub said_all : shown ≡ place → None ≡ slice_get (all_lines tree.segments tree.read) tree.shown → IsTextAt tree place None
  said_all here none = λ next. ap (slice_get (all_lines tree.segments tree.read)) next ∙ sym none

-- ---- what is made ready

module _ (s : State) (was tree : HostReading) (same : SameReading was tree) where
  abbrev c : Core
  c = core_at s

  read_still : is_tree_read (with_tree c tree) ≡ is_tree_read (with_tree c was)
  read_still = ap is_tree_read (with_same c was tree same)

  pub shows_unread : (place : ℕ) → is_tree_read (with_tree c was) ≡ false → IsMade c s tree (Show place) None
  shows_unread place unread can = false≢true (sym unread ∙ sym read_still ∙ read_is_tree (with_tree c tree) can.read)

  pub ends_unread : is_tree_read (with_tree c was) ≡ false → IsMade c s tree End None
  ends_unread unread can = false≢true (sym unread ∙ sym read_still ∙ read_is_tree (with_tree c tree) can.read)

  module _ (disk : was.segments ≡ s.parties.segments) (read : is_tree_read (with_tree c was) ≡ true) where
    lines : all_lines tree.segments tree.read ≡ tree_lines (with_tree c tree)
    lines = lines_are c tree (same.segments ∙ disk)

    reads : is_tree_read (with_tree c tree) ≡ true
    reads = read_still ∙ read

    -- ---- Show

    pub shows_not : (place : ℕ) → IsTextAt tree place None → IsMade c s tree (Show place) None
    shows_not place none can =
        let least : length (tree_lines (with_tree c tree)) ≤ place = not_below (with_tree c tree) (tree_lines (with_tree c tree)) place (ap (λ (all : List Said). slice_get all place) (sym lines) ∙ none can.next) in
        let below : place < length (tree_lines (with_tree c tree)) = ltb-true place (length (tree_lines (with_tree c tree))) can.there in
        absurd (omega arith)

    pub shows_it : (place : ℕ) (text : List ℕ) → IsShown tree place text → tree.is_made ≡ true → IsMade c s tree (Show place) (Some (record { ready = ready.Show place; call = call.Say text }))
    shows_it place text is made =
        let there : slice_get (tree_lines (with_tree c tree)) place ≡ Some is.line = ap (λ (all : List Said). slice_get all place) (sym lines) ∙ is.there in
        record {
          event = refl;
          can = shows (with_tree c tree) place is.line reads is.next there;
          asks = ap (λ (line : Option Said). say_call (says_node line)) there ∙ ap Say (sym is.text);
          may = made;
        }

    -- ---- End

    pub ends_not : (line : Said) → slice_get (all_lines tree.segments tree.read) tree.shown ≡ Some line → IsMade c s tree End None
    ends_not line there can =
        let below : tree.shown < length (tree_lines (with_tree c tree)) = slice_get_within (tree_lines (with_tree c tree)) tree.shown line (ap (λ (all : List Said). slice_get all tree.shown) (sym lines) ∙ there) in
        let all : tree.shown ≡ length (tree_lines (with_tree c tree)) = can.said in
        absurd (omega arith)

    pub ends_it : (text : List ℕ) → IsSaidInTime was → slice_get (all_lines tree.segments tree.read) tree.shown ≡ None → text ≡ said_line said.End → IsMade c s tree End (Some (record { ready = ready.End; call = call.Say text }))
    ends_it text in_time none text_is =
        let most : tree.shown ≤ length (tree_lines (with_tree c tree)) = subst (λ (all : List Said). tree.shown ≤ length all) lines still in
        record {
          event = refl;
          can = ends (with_tree c tree) reads (ap (λ (all : List Said). slice_get all tree.shown) (sym lines) ∙ none) most;
          asks = ap Say (sym text_is);
          may = tt;
        }
      where
        still : tree.shown ≤ length (all_lines tree.segments tree.read)
        still =
            let lines_same : all_lines tree.segments tree.read ≡ all_lines was.segments was.read = ap (λ n. all_lines n tree.read) same.segments ∙ ap (all_lines was.segments) same.read in
            let most : was.shown ≤ length (all_lines was.segments was.read) = in_time.most in
            let length_same : length (all_lines tree.segments tree.read) ≡ length (all_lines was.segments was.read) = ap length lines_same in
            let shown_same : tree.shown ≡ was.shown = same.shown in
            omega arith
