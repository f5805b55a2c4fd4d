-- At a step that is neither an operation, nor an answer, nor the end of a recovery no line is said that is an entry.
use Rattle.std.proofs.Common.{ℕ, zero, suc, ◌≡◌, ◌==◌, Bool, true, false, not, ◌&&◌, ◌||◌, if◌then◌else◌, IsTrue, Option, Some, None, List, [], ◌∷◌, ◌++◌, length, refl, sym, ap, ◌∙◌, subst}
use Rattle.std.proofs.lemmas.Bool.{and_parts, eqb-true, false≢true}
use Rattle.std.specs.List.{AllByRecursion, flat_map, slice_get}
use Rattle.disk_definitions.proofs.Listed.{Among, all_at}
use Rattle.frang_base.specs.declared.limits.TheConstants.{KIND_DIRECTORY, KIND_FILE, KIND_LINK, ROOT_INODE}
use Rattle.frang_base.specs.declared.op.What.{What}
use Rattle.frang_base.specs.declared.op.What.TheVariants.{Server, Host}
use Rattle.frang_base.specs.declared.reply.Reply.TheVariants as reply
use Rattle.frang_base.specs.declared.said.Said.{Said}
use Rattle.frang_base.specs.declared.said.Said.TheVariants as said
use Rattle.frang_base.specs.declared.script.Line.{Line}
use Rattle.disk_definitions.specs.Store.{Store, StoredNode, store_of}
use Rattle.sector_bytes.specs.SectorMaps.{value_at}
use Rattle.sector_bytes.specs.Sectors.{sectors_of}
use Rattle.tree_definitions.specs.Live.{item_of, item_of_line, item_of_what, line_of, live_history, script_time}
use Rattle.tree_definitions.specs.Tree.{FileTree}
use Rattle.tree_definitions.specs.TreeLines.{name_below, path_text}
use Rattle.core_definitions.specs.Cores.{Core, next_of, tree_lines}
use Rattle.core_definitions.specs.Effects.{deeds_of, deeds_of_arrival, id_of, says_node}
use Rattle.core_definitions.specs.Events.{Event, Begin, Ask, Fetch, Again, Clear, Commit, Answer, Give, Issue, Doom, Resume, Arrive, Lose, Die, Renew, Tick, Recover, Load, Look, Finish, HostLine, Close, Read, Show, End, Heard, Nothing, Got, GetFailed, Written, Late, PutFailed}
use Rattle.core_definitions.specs.Flights.{Flight}
use Rattle.core_definitions.specs.Guards.{CanGoing}
use Rattle.core_definitions.specs.LineGuards.{is_line}
use Rattle.core_definitions.specs.Runs.{State, Step, Event_, Enter, Hold, Flush, Relock, Note, Peek, PeekFails, goes_on, is_note, saids_of}
use Rattle.core_definitions.specs.Scripts.{host_party}
use Rattle.core_definitions.specs.Settings.{setting_of}
use Rattle.core_definitions.specs.Trees.{entries_from, lines_at, lines_from, sorted_entries}
use Rattle.core_laws.proofs.Kept.{setting_kept, setting_of_run}
use Rattle.core_transcripts.specs.Scripts.{ReadScriptsAreNumbered}
use Rattle.core_transcripts.specs.Transcripts.{IsNumbered, is_host_what, is_hosted}
use Rattle.core_transcripts.proofs.Numbering.{found_in, line_is}
use Rattle.sector_world.specs.World.{World}
use Rattle.core_world.specs.Events.{IsSameStory}
use Rattle.core_world.specs.Steps.{IsReached}
use Rattle.stop_laws.specs.Paired.{ArePaired}
use Rattle.stop_laws.specs.Replies.{SaidWhereItHappened}
use Rattle.core_histories.specs.Silent.{SilentStepsAddNone, SilentStepsAreTold, is_silent, is_silent_step}
use Rattle.core_histories.specs.Tellings.{IsTold, Tells}
use Rattle.core_histories.proofs.Adding.{none_adds}

module _ (script : List Line) (run : ℕ) where
  -- ---- lines of a tree

  abbrev IsNone : Said → Type 0
  IsNone x = item_of script run x ≡ []

  all_flat : {X : Type 0} (f : X → List Said) → ((x : X) → AllByRecursion IsNone (f x)) → (xs : List X) → AllByRecursion IsNone (flat_map f xs)
  all_flat f each [] = tt
  all_flat f each (x ∷ xs) = joined (f x) (flat_map f xs) (each x) (all_flat f each xs)
    where
      joined : (ys zs : List Said) → AllByRecursion IsNone ys → AllByRecursion IsNone zs → AllByRecursion IsNone (ys ++ zs)
      joined [] zs a b = b
      joined (y ∷ ys) zs a b = (a.0, joined ys zs a.1 b)

  node_none : (onward : List ℕ → ℕ → List Said) → ((text : List ℕ) (inode : ℕ) → AllByRecursion IsNone (onward text inode)) → (store : Store) (text : List ℕ) (node : Option StoredNode) →
      AllByRecursion IsNone (lines_at onward store text node)
  node_none onward each store text None = tt
  node_none onward each store text (Some node) = go (node.kind == KIND_DIRECTORY) (node.kind == KIND_FILE)
    where
      go : (d f : Bool) →
          AllByRecursion IsNone
          (if d
          then said.Node (path_text text) KIND_DIRECTORY node.size 0 ∷ flat_map (λ entry. onward (name_below text entry.0) entry.1) (sorted_entries (entries_from store node))
          else (if f then said.Node (path_text text) KIND_FILE node.size node.links ∷ [] else said.Node (path_text text) KIND_LINK node.size 0 ∷ []))
      go true f = (refl, all_flat (λ entry. onward (name_below text entry.0) entry.1) (λ entry. each (name_below text entry.0) entry.1) (sorted_entries (entries_from store node)))
      go false true = (refl, tt)
      go false false = (refl, tt)

  tree_none : (depth : ℕ) (store : Store) (text : List ℕ) (inode : ℕ) → AllByRecursion IsNone (lines_from depth store text inode)
  tree_none zero store text inode = tt
  tree_none (suc depth) store text inode = node_none (lines_from depth store) (tree_none depth store) store text (store.inode inode)

  shown_none : (lines : List Said) → AllByRecursion IsNone lines → (place : ℕ) → live_history script run (saids_of (says_node (slice_get lines place))) ≡ []
  shown_none [] all place = refl
  shown_none (line ∷ lines) all zero = ap (λ x. x ++ []) all.0
  shown_none (line ∷ lines) all (suc place) = shown_none lines all.1 place

  -- ---- a line of the host

  what_none : (w : What) (ticks number : ℕ) → IsTrue (is_host_what w) → item_of_what run (id_of host_party) reply.Ok number ticks w ≡ []
  what_none (Host asked) ticks number h = refl
  what_none (Server operation) ticks number h = absurd (false≢true h)

  module _ (numbers : IsNumbered script) where
    hosted : (l : Line) → Among l script → l.who.0 == host_party ≡ true → IsTrue (is_host_what l.what)
    hosted l among own =
        let h : IsTrue (not true || is_host_what l.what) = subst (λ b. IsTrue (not b || is_host_what l.what)) own (all_at is_hosted script numbers.hosted l among) in h

    host_none : (c : Core) (number : ℕ) → c.setting.script ≡ script → (o : Option Line) → next_of c host_party ≡ o → IsTrue (is_line (λ line. line.number == number) o) →
        item_of script run (said.Answer (id_of host_party) number reply.Ok) ≡ []
    host_none c number same None e h = absurd (false≢true h)
    host_none c number same (Some l) e h =
        let found = found_in (λ line. line.who.0 == host_party && not (c.answered line.number)) c.setting.script l e in
        let among : Among l script = subst (Among l) same found.0 in
        let there : line_of script number ≡ Some l = subst (λ n. line_of script n ≡ Some l) (eqb-true l.number number h) (line_is script l numbers.apart among) in
        ap (item_of_line run (id_of host_party) reply.Ok number (script_time script number)) there
        ∙ what_none l.what (script_time script number) number (hosted l among (and_parts (l.who.0 == host_party) (not (c.answered l.number)) found.1).0)

    -- ---- events

    arrival_none : (now : ℕ) (heard : Heard) (flight : Option Flight) → live_history script run (saids_of (deeds_of_arrival now heard flight)) ≡ []
    arrival_none now heard None = refl
    arrival_none now Nothing (Some flight) = refl
    arrival_none now (Got block) (Some flight) = refl
    arrival_none now GetFailed (Some flight) = refl
    arrival_none now Written (Some flight) = refl
    arrival_none now Late (Some flight) = refl
    arrival_none now (PutFailed new) (Some flight) = refl

    event_none : (c : Core) (event : Event) (heard : Heard) → c.setting.script ≡ script → CanGoing c event → IsTrue (is_silent event) → live_history script run (saids_of (deeds_of c event heard)) ≡ []
    event_none c (Begin a) heard same can h = refl
    event_none c (Ask a lock mode) heard same can h = refl
    event_none c (Fetch a sector) heard same can h = refl
    event_none c (Again a) heard same can h = refl
    event_none c (Clear a block) heard same can h = refl
    event_none c (Commit a) heard same can h = absurd (false≢true h)
    event_none c (Answer a) heard same can h = absurd (false≢true h)
    event_none c (Give a lock) heard same can h = refl
    event_none c (Issue a sector) heard same can h = refl
    event_none c (Doom a) heard same can h = refl
    event_none c (Resume a) heard same can h = refl
    event_none c (Arrive ticket) heard same can h = arrival_none c.now heard (value_at c.flights ticket)
    event_none c (Lose ticket) heard same can h = refl
    event_none c (Die a) heard same can h = refl
    event_none c (Renew a) heard same can h = refl
    event_none c Tick heard same can h = refl
    event_none c (Recover dead by) heard same can h = refl
    event_none c (Load by slot) heard same can h = refl
    event_none c (Look by sector) heard same can h = refl
    event_none c (Finish by) heard same can h = absurd (false≢true h)
    event_none c (HostLine number) heard same can h = ap (λ x. x ++ []) (host_none c number same (next_of c host_party) refl can.next)
    event_none c (Close a) heard same can h = refl
    event_none c (Read sector) heard same can h = refl
    event_none c (Show place) heard same can h =
        shown_none (tree_lines c) (tree_none (length c.read) (store_of c.setting.segments (sectors_of c.read)) [] ROOT_INODE) place
    event_none c End heard same can h = refl

  note_none : (x : Said) → IsTrue (is_note x) → item_of script run x ≡ []
  note_none (said.Backup line) h = refl
  note_none (said.Locks line) h = refl
  note_none x h = absurd (false≢true h)

-- ---- steps

module _ (numbers : ReadScriptsAreNumbered) (s : State) (r : IsReached s) where
  numbered : IsNumbered s.core.setting.script
  numbered = subst (λ z. IsNumbered z.script) (sym (setting_of_run (setting_of r.script r.segments r.number) r.disk s r.run)) (numbers r.bytes r.script r.read)

  pub step_none : (v : State) (step : Step s v) → IsTrue (is_silent_step s v step) →
      live_history s.core.setting.script s.core.setting.run (saids_of v.record_) ≡ live_history s.core.setting.script s.core.setting.run (saids_of s.record_)
  step_none v (Event_ event heard makes) h =
      none_adds s.core.setting s.record_ (deeds_of s.core event heard) (event_none s.core.setting.script s.core.setting.run numbered s.core event heard refl makes.can.can h)
  step_none v (Enter a line can) h = refl
  step_none v (Hold a on may) h = refl
  step_none v (Flush a may) h = refl
  step_none v (Relock locks going are same wait) h = refl
  step_none v (Note line may) h =
      none_adds s.core.setting s.record_ _ (ap (λ x. x ++ []) (note_none s.core.setting.script s.core.setting.run line (and_parts (is_note line) (goes_on s.core) may).0))
  step_none v (Peek sector going) h = refl
  step_none v (PeekFails sector going) h = refl

pub silent_steps_add_none : ReadScriptsAreNumbered → SilentStepsAddNone
silent_steps_add_none numbers s v step r h = step_none numbers s r v step h

step_keeps : (s v : State) → Step s v → v.core.setting ≡ s.core.setting
step_keeps s v (Event_ event heard makes) = setting_kept s.core event heard
step_keeps s v (Enter a line can) = refl
step_keeps s v (Hold a on may) = refl
step_keeps s v (Flush a may) = refl
step_keeps s v (Relock locks going are same wait) = refl
step_keeps s v (Note line may) = refl
step_keeps s v (Peek sector going) = refl
step_keeps s v (PeekFails sector going) = refl

-- what happened is told on where nothing more is told and the history is the same
pub tells_on : (s v : State) (w u : World) (when : ℕ → ℕ) (first_tree : FileTree) (numbers : List ℕ) → v.core.setting ≡ s.core.setting →
    live_history s.core.setting.script s.core.setting.run (saids_of v.record_) ≡ live_history s.core.setting.script s.core.setting.run (saids_of s.record_) → IsSameStory w u →
    IsTold when first_tree numbers s w → IsTold when first_tree numbers v u
tells_on s v w u when first_tree numbers same none story told = subst (λ z. Tells z when first_tree numbers (saids_of v.record_) u) (sym same) (record {
  happened = told.happened;
  sectors = told.sectors ∙ sym story.history;
  lines = told.lines ∙ sym none;
  paired = subst (λ o. ArePaired s.core.setting.segments when o first_tree numbers told.happened) (sym story.opening) told.paired;
  said = subst (λ o. SaidWhereItHappened s.core.setting.segments when o told.happened) (sym story.opening) told.said;
  synced = told.synced;
})

pub silent_steps_are_told : ReadScriptsAreNumbered → SilentStepsAreTold
silent_steps_are_told scripts s v w u when first_tree numbers step r h story told =
    tells_on s v w u when first_tree numbers (step_keeps s v step) (silent_steps_add_none scripts s v step r h) story told
