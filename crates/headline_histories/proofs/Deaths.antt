-- Without deaths nobody is dead by the lines said, so none is recovered, and no history that they tell has a recovery.
use Rattle.std.proofs.Common.{ℕ, ◌≡◌, ◌+◌, ◌==◌, ◌&&◌, Bool, true, false, if◌then◌else◌, Option, Some, None, List, [], ◌∷◌, ◌++◌, refl, sym, ◌∙◌, append_assoc, append-nil}
use Rattle.std.proofs.lemmas.Bool.{and_parts, false≢true, or_from, or_parts}
use Rattle.std.specs.List.{list_any}
use Rattle.frang_base.specs.declared.op.Op.{Op}
use Rattle.frang_base.specs.declared.op.What.{What}
use Rattle.frang_base.specs.declared.op.What.TheVariants.{Server, Host}
use Rattle.frang_base.specs.declared.reply.Reply.{Reply}
use Rattle.frang_base.specs.declared.said.Said.{Said}
use Rattle.frang_base.specs.declared.said.Said.TheVariants as said
use Rattle.frang_base.specs.declared.script.Line.{Line}
use Rattle.frang_base.specs.declared.sector.ServerId.{ServerId}
use Rattle.tree_definitions.specs.declared.history.Item.{Item}
use Rattle.tree_definitions.specs.declared.history.Item.TheVariants.{Did, Recovered}
use Rattle.tree_definitions.specs.History.{Opening, Settled, Stays}
use Rattle.tree_definitions.specs.Live.{item_of, item_of_line, item_of_what, line_of, live_history}
use Rattle.tree_definitions.specs.Removal.{settled_from}
use Rattle.tree_definitions.specs.Touched.{is_mounted, is_ok, is_stall, is_unmount}
use Rattle.tree_definitions.specs.Transcript.{Faults, Phase, ServerState, after_asked, after_line, after_said, first_state, goes_on, is_dead, is_up, phase_after, state_from, state_of}
use Rattle.tree_definitions.specs.Tree.{FileTree}
use Rattle.core_transcripts.specs.Transcripts.{EachMay, MaySayButTree}
use Rattle.core_transcripts.proofs.Saying.{any_push}
use Rattle.headline_histories.specs.Rest.{DeathlessHistoriesStay, all_stay, is_death}

-- ---- nobody is dead

module _ (script : List Line) (a : ℕ) where
  own : (t : Bool) (new old : ServerState) → is_dead new.phase ≡ false → is_dead old.phase ≡ false → is_dead (if t then new else old).phase ≡ false
  own true new old here e = here
  own false new old here e = e

  answered : (now : Phase) (o : Op) (r : Reply) → is_dead now ≡ false → is_dead (phase_after now o r) ≡ false
  answered now o r e = go (is_mounted r) (is_up now && is_ok r && is_stall o) (is_up now && is_ok r && is_unmount o)
    where
      go : (x y z : Bool) → is_dead (if x then Phase.Up else (if y then Phase.Stalled else (if z then Phase.Off else now))) ≡ false
      go true y z = refl
      go false true z = refl
      go false false true = refl
      go false false false = e

  asked : (t : ServerState) (w : What) (r : Reply) → is_dead t.phase ≡ false → is_dead (after_asked t w r).phase ≡ false
  asked t (Server o) r e = answered t.phase o r e
  asked t (Host h) r e = e

  lined : (t : ServerState) (l : Option Line) (r : Reply) → is_dead t.phase ≡ false → is_dead (after_line t l r).phase ≡ false
  lined t None r e = e
  lined t (Some l) r e = asked t l.what r e

  one_more : (faulted : Bool) (t : ServerState) (x : Said) → is_death x ≡ false → is_dead t.phase ≡ false → is_dead (after_said script a faulted t x).phase ≡ false
  one_more faulted t (said.Answer s n r) none e = own (s.0 == a) (after_line t (line_of script n) r) t (lined t (line_of script n) r e) e
  one_more faulted t (said.Dead s) none e = absurd (false≢true (sym none))
  one_more faulted t (said.Recovering s by) none e = own (s.0 == a) (record t { under_recovery = true }) t e e
  one_more faulted t (said.Recovered s kept) none e = own (s.0 == a) (record t { phase = Phase.Off }) t refl e
  one_more faulted t (said.Renewed s) none e = own (s.0 == a) (record t { phase = Phase.Up }) t refl e
  one_more faulted t (said.Node path kind size links) none e = e
  one_more faulted t said.End none e = e
  one_more faulted t (said.Redo number) none e = e
  one_more faulted t (said.Backup line) none e = e
  one_more faulted t (said.Locks line) none e = e
  one_more faulted t (said.Shown text) none e = e

  from_there : (faults : Faults) (place : ℕ) (t : ServerState) (saids : List Said) → list_any is_death saids ≡ false → is_dead t.phase ≡ false → is_dead (state_from script faults a place t saids).phase ≡ false
  from_there faults place t [] none e = e
  from_there faults place t (x ∷ saids) none e =
      let parts = or_parts (is_death x) (list_any is_death saids) none in
      from_there faults (place + 1) (after_said script a (faults place a) t x) saids parts.1 (one_more (faults place a) t x parts.0 e)

  pub nobody_dead : (faults : Faults) (saids : List Said) → list_any is_death saids ≡ false → is_dead (state_of script faults a saids).phase ≡ false
  nobody_dead faults saids none = from_there faults 0 first_state saids none refl

-- ---- none is recovered

abbrev tells_end : Said → Bool
tells_end (said.Recovered s kept) = true
tells_end _ = false

module _ (script : List Line) (opening : Opening) (faults : Faults) where
  one_unrecovered : (before : List Said) (x : Said) → list_any is_death before ≡ false → MaySayButTree script opening faults before x → tells_end x ≡ false
  one_unrecovered before (said.Answer s n r) none may = refl
  one_unrecovered before (said.Dead s) none may = refl
  one_unrecovered before (said.Recovering s by) none may = refl
  one_unrecovered before (said.Recovered s kept) none may =
      let state = state_of script faults s.0 before in
      let parts = and_parts (goes_on script before) (is_dead state.phase && state.under_recovery) may in
      absurd (false≢true (sym (nobody_dead script s.0 faults before none) ∙ (and_parts (is_dead state.phase) state.under_recovery parts.1).0))
  one_unrecovered before (said.Renewed s) none may = refl
  one_unrecovered before (said.Node path kind size links) none may = refl
  one_unrecovered before said.End none may = refl
  one_unrecovered before (said.Redo number) none may = refl
  one_unrecovered before (said.Backup line) none may = refl
  one_unrecovered before (said.Locks line) none may = refl
  one_unrecovered before (said.Shown text) none may = refl

  pub unrecovered : (before saids : List Said) → list_any is_death before ≡ false → list_any is_death saids ≡ false → EachMay (MaySayButTree script opening faults) before saids → list_any tells_end saids ≡ false
  unrecovered before [] none_before none each = refl
  unrecovered before (x ∷ saids) none_before none each =
      let parts = or_parts (is_death x) (list_any is_death saids) none in
      or_from (tells_end x) (list_any tells_end saids) (one_unrecovered before x none_before each.0)
      (unrecovered (before ++ x ∷ []) saids (any_push is_death before x ∙ or_from (list_any is_death before) (is_death x) none_before parts.0) parts.1 each.1)

-- ---- so all stay

abbrev ends : Item → Bool
ends (Did e) = false
ends (Recovered server keeps) = true

both_none : (xs ys : List Item) → list_any ends xs ≡ false → list_any ends ys ≡ false → list_any ends (xs ++ ys) ≡ false
both_none [] ys n m = m
both_none (x ∷ xs) ys n m = let parts = or_parts (ends x) (list_any ends xs) n in or_from (ends x) (list_any ends (xs ++ ys)) parts.0 (both_none xs ys parts.1 m)

module _ (script : List Line) (run : ℕ) where
  of_what : (s : ServerId) (r : Reply) (n ticks : ℕ) (w : What) → list_any ends (item_of_what run s r n ticks w) ≡ false
  of_what s r n ticks (Server o) = refl
  of_what s r n ticks (Host h) = refl

  of_line : (s : ServerId) (r : Reply) (n ticks : ℕ) (l : Option Line) → list_any ends (item_of_line run s r n ticks l) ≡ false
  of_line s r n ticks None = refl
  of_line s r n ticks (Some l) = of_what s r n ticks l.what

  of_said : (x : Said) → tells_end x ≡ false → list_any ends (item_of script run x) ≡ false
  of_said (said.Answer s n r) none = of_line s r n _ (line_of script n)
  of_said (said.Dead s) none = refl
  of_said (said.Recovering s by) none = refl
  of_said (said.Recovered s kept) none = absurd (false≢true (sym none))
  of_said (said.Renewed s) none = refl
  of_said (said.Node path kind size links) none = refl
  of_said said.End none = refl
  of_said (said.Redo number) none = refl
  of_said (said.Backup line) none = refl
  of_said (said.Locks line) none = refl
  of_said (said.Shown text) none = refl

  no_ends : (saids : List Said) → list_any tells_end saids ≡ false → list_any ends (live_history script run saids) ≡ false
  no_ends [] none = refl
  no_ends (x ∷ saids) none = let parts = or_parts (tells_end x) (list_any tells_end saids) none in both_none (item_of script run x) (live_history script run saids) (of_said x parts.0) (no_ends saids parts.1)

stay_on : (first : FileTree) (list : List Settled) (items : List Item) → list_any ends items ≡ false → settled_from first list items ≡ list ++ all_stay items
stay_on first list [] none = sym (append-nil list)
stay_on first list (Did e ∷ items) none = stay_on first (list ++ Stays e ∷ []) items none ∙ append_assoc list (Stays e ∷ []) (all_stay items)
stay_on first list (Recovered server keeps ∷ items) none = absurd (false≢true (sym none))

pub deathless_stay : DeathlessHistoriesStay
deathless_stay script opening faults run first saids each none =
    stay_on first [] (live_history script run saids) (no_ends script run saids (unrecovered script opening faults [] saids refl none each))
