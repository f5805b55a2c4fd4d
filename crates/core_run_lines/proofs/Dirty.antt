-- What is dirty goes on at a step that isn't of lines: cleared blocks stay free and pending, and marks lie where operations end.
use Rattle.std.proofs.Common.{◌≡◌, ◌≢◌, ◌⊎◌, ℕ, Bool, true, false, ◌||◌, if◌then◌else◌, IsTrue, is_some, List, [], ◌∷◌, Option, Some, None, refl, sym, ap, ◌∙◌, subst, inl, inr}
use Rattle.std.proofs.lemmas.Bool.{false≢true}
use Rattle.std.proofs.lemmas.Option.{none-some}
use Rattle.frang_base.specs.Functions.{put}
use Rattle.frang_base.specs.declared.lock.LockId.{LockId}
use Rattle.frang_base.proofs.Basics.{at_put}
use Rattle.tree_definitions.specs.Tree.{FileTree}
use Rattle.disk_definitions.specs.Replay.{slots_of}
use Rattle.ring_definitions.specs.RingRuns as log
use Rattle.sector_bytes.specs.Blocks.{Block}
use Rattle.sector_bytes.specs.SectorMaps.{value_at}
use Rattle.cache_definitions.specs.declared.dirt.Dirt.{Dirt}
use Rattle.cache_definitions.specs.Caches.{CachedSector, is_dirty}
use Rattle.core_definitions.specs.Cores.{clean_at, stage}
use Rattle.core_definitions.specs.EndGuards.{is_recovery, is_through}
use Rattle.core_definitions.specs.Events.{Event, Begin, Ask, Fetch, Again, Clear, Commit, Answer, Give, Issue, Doom, Resume, Arrive, Lose, Die, Renew, Tick, Recover, Load, Look, Finish, HostLine, Close, Read, Show, End, Heard, Nothing, Got, GetFailed, Written, Late, PutFailed}
use Rattle.core_definitions.specs.Flights as core
use Rattle.core_definitions.specs.LineGuards.{is_server}
use Rattle.core_definitions.specs.Lines.{Stage, Asking, Fetching, Moving, Stopping, Growing, Clearing, Finishing}
use Rattle.core_definitions.specs.Recoveries.{Recovery}
use Rattle.core_definitions.specs.Runs.{State as RunMoment, Makes, Step, Event_, Enter, Hold, Flush, Relock, Note, Peek, PeekFails}
use Rattle.core_definitions.specs.Servers.{is_dead, is_off}
use Rattle.core_definitions.specs.Settings.{setting_of}
use Rattle.core_laws.specs.Facts.{OffHasNothing, RecoveriesAreOfTheDead}
use Rattle.sector_world.specs.Histories.{is_logged, settled}
use Rattle.sector_world.specs.Histories.Entry.{Recovered}
use Rattle.sector_world.specs.HistoryBytes.{is_free}
use Rattle.sector_world.specs.Kinds.{Good}
use Rattle.sector_world.specs.Steps.{Event as SectorEvent, Run, after}
use Rattle.sector_world.specs.Steps.Run.{goes, stays}
use Rattle.sector_world.specs.World.{World, Page, NoPage, CleanPage, DirtyPage, FreedPage, Slot, Unread, cover, has_version}
use Rattle.sector_world.proofs.Every.{good_step}
use Rattle.core_world.specs.Beside.{AreEnds}
use Rattle.core_world.specs.Events.{IsSameStory}
use Rattle.core_world.specs.Journals.{IsOwn, Journal, journal_at, with_event, with_event_of}
use Rattle.core_world.specs.Quiet.{AllQuiet}
use Rattle.core_world.specs.Steps.{IsReached, Leads}
use Rattle.core_world.specs.Ties.{IsCachedAs, IsPageOf}
use Rattle.core_lives.specs.Cleared.{ClearedAreFree}
use Rattle.core_lives.specs.Idle.{begins_mount, ends_mount, tells_sync}
use Rattle.core_lives.specs.Lives.{HasEntry}
use Rattle.core_lives.proofs.Mounting.{mount_off}
use Rattle.core_line_steps.specs.Pending.{FreeDirtIsPending}
use Rattle.core_log_marks.proofs.Counting.{beside_own}
use Rattle.core_log_writes.specs.Quiet.{EndsGoOn, KeepsMarks, QuietRunsKeepMarks, WasMarked}
use Rattle.core_writes.specs.Issues.{issues_log}
use Rattle.core_recoveries.proofs.Passing.{cached_held}
use Rattle.core_recoveries.proofs.Removing.{free_stays, kind_stays}
use Rattle.core_recoveries.proofs.Sweeping.{rescue_of}
use Rattle.core_histories.specs.Steps.{HasStoryAt, HasStoryOf}
use Rattle.core_histories.specs.Told.{HasItsStory}
use Rattle.core_commit_steps.specs.Lasts.{SettledLastsAreReached}
use Rattle.core_run_ties.specs.Ties.{StandsFurther}
use Rattle.core_runs.specs.Journals.{arrived_journals, heard_journals, journals_after, journals_next, landed_journals, reclaimed_journals, written_journals}
use Rattle.core_runs.specs.Kept.{IsKeptAlong}
use Rattle.core_runs.specs.Open.{is_line_step, is_of_lines}
use Rattle.core_run_lines.specs.Dirt.{DirtGoesOnByLasts}
use Rattle.core_run_lines.proofs.Turning.{AllKeep, step_keeps}

pub record DirtLaws : Type 0 where
  pub nothing : OffHasNothing
  pub dead : RecoveriesAreOfTheDead
  pub marks : QuietRunsKeepMarks
  pub ends : EndsGoOn
  pub reached : SettledLastsAreReached

-- ---- worlds

good_run : (w : World) (events : List SectorEvent) (u : World) → Run w events u → Good w → Good u
good_run w [] u stays g = g
good_run w (e ∷ es) u (goes can rest) g = good_run (after w e) es u rest (good_step w e can g)

-- what a dirty page is of in the core
module _ (lock : LockId) (slot : Slot) (page : Page) (block : Block) (m : ℕ) (dirty : page ≡ DirtyPage block m) where
  of_dirt : (kept : CachedSector) (dirt : Option Dirt) → kept.dirt ≡ dirt → IsPageOf dirt kept.block page → is_dirty kept ≡ true
  of_dirt kept None e t = absurd (let z : CleanPage kept.block ≡ DirtyPage block m = sym t ∙ dirty in cc)
  of_dirt kept (Some dirt) e t = ap is_some e

  of_page : (b : Bool) → b ≡ false → (o : Option CachedSector) → IsCachedAs b lock o slot page → (kept : CachedSector) × (o ≡ Some kept) × (is_dirty kept ≡ true)
  of_page true plain o t = absurd (false≢true (sym plain))
  of_page false plain (Some kept) t = (kept, refl, of_dirt kept kept.dirt refl t.2)
  of_page false plain None t = absurd (none t.1)
    where
      none : (page ≡ NoPage) ⊎ ((k : ℕ) × (page ≡ FreedPage k)) → ⊥
      none (inl e) = let z : NoPage ≡ DirtyPage block m = sym e ∙ dirty in cc
      none (inr x) = let z : FreedPage x.0 ≡ DirtyPage block m = sym x.1 ∙ dirty in cc

plain_page : (w : World) → Good w → (a s : ℕ) (block : Block) (m : ℕ) → w.page a s ≡ DirtyPage block m → has_version w s ≡ false
plain_page w g a s block m dirty = go (has_version w s) refl
  where
    go : (b : Bool) → has_version w s ≡ b → b ≡ false
    go true e = absurd (let z : NoPage ≡ DirtyPage block m = sym (g.kinds.empty a s e) ∙ dirty in cc)
    go false e = refl

-- ---- what the history leaves of a sector that a server has cached

record KeepsStory (w u : World) (a x : ℕ) : Type 0 where
  free : is_free u.first (settled u.history) x ≡ is_free w.first (settled w.history) x
  kind : has_version u x ≡ has_version w x
  own : (m : ℕ) → IsOwn a m (settled w.history) → IsOwn a m (settled u.history)

settled_same : (w u : World) (a x : ℕ) → u.first ≡ w.first → u.logged ≡ w.logged → settled u.history ≡ settled w.history → KeepsStory w u a x
settled_same w u a x first logged history = record {
  free = ap (λ f. is_free f (settled u.history) x) first ∙ ap (λ h. is_free w.first h x) history;
  kind = ap (λ l. is_logged l (settled u.history) x) logged ∙ ap (λ h. is_logged w.logged h x) history;
  own = λ m i. subst (IsOwn a m) (sym history) i;
}

ended_story : (w u : World) (g : Good w) (a x d : ℕ) → HasEntry w u (Recovered d (w.durable d)) → a ≢ d → w.holds a (cover w x) ≢ None → KeepsStory w u a x
ended_story w u g a x d story other holds = record {
  free = ap (λ f. is_free f (settled u.history) x) story.first ∙ ap (λ h. is_free w.first (settled h) x) story.history ∙ free_stays w (rescue_of d d (λ y. Unread)) g a x holds other;
  kind = ap (λ l. is_logged l (settled u.history) x) story.logged ∙ ap (λ h. is_logged w.logged (settled h) x) story.history ∙ kind_stays w (rescue_of d d (λ y. Unread)) g a x holds other;
  own = λ m i. subst (λ h. IsOwn a m (settled h)) (sym story.history) (beside_own a m (Recovered d (w.durable d)) w.history (λ e. other (sym e)) i);
}

either_dead : (o d : Bool) → IsTrue d → IsTrue (o || d)
either_dead true d h = refl
either_dead false d h = h

either_off : (o d : Bool) → IsTrue o → IsTrue (o || d)
either_off true d h = refl
either_off false d h = absurd (false≢true h)

pub has_recovery : (passes : Recovery → Bool) (o : Option Recovery) → IsTrue (is_recovery passes o) → (recovery : Recovery) × (o ≡ Some recovery)
has_recovery passes None h = absurd (false≢true h)
has_recovery passes (Some recovery) h = (recovery, refl)

module _ (laws : DirtLaws) (first : World) (s : RunMoment) (w : World) (journal : ℕ → Journal) (when : ℕ → ℕ) (first_tree : FileTree) (numbers : List ℕ)
    (kept : IsKeptAlong (StandsFurther first) s w journal when first_tree numbers) where
  abbrev r : IsReached s
  r = kept.beside.run.reached

  -- ---- who has nothing

  bare_off : (a : ℕ) → IsTrue (is_server a) → IsTrue (is_off (s.core.servers a).phase) → (s.core.servers a).cache ≡ []
  bare_off a server off =
      (laws.nothing (setting_of r.script r.segments r.number) r.disk s r.run a server (either_off (is_off (s.core.servers a).phase) (is_dead (s.core.servers a).phase) off)).cache

  pub bare_dead : (by : ℕ) → Makes s (Finish by) Nothing → (recovery : Recovery) → (s.core.servers by).recovery ≡ Some recovery → (s.core.servers recovery.dead).cache ≡ []
  bare_dead by m recovery has =
      let d = laws.dead (setting_of r.script r.segments r.number) r.disk s r.run by recovery m.can.can.who has in
      (laws.nothing (setting_of r.script r.segments r.number) r.disk s r.run recovery.dead d.0 (either_dead (is_off (s.core.servers recovery.dead).phase) (is_dead (s.core.servers recovery.dead).phase) d.1)).cache

  module _ (a x : ℕ) (cached : CachedSector) (has : value_at (s.core.servers a).cache x ≡ Some cached) where
    not_bare : (s.core.servers a).cache ≡ [] → ⊥
    not_bare e = none-some cached (sym (ap (λ c. value_at c x) e) ∙ has)

    holds : w.holds a (cover w x) ≢ None
    holds =
        cached_held (has_version w x) (cover w x) cached (w.slot a x) (w.page a x) (w.holds a (cover w x))
        (subst (λ o. IsCachedAs (has_version w x) (cover w x) o (w.slot a x) (w.page a x)) has (kept.beside.run.world.tied.cached a x)) (kept.beside.run.good.logged.held a x) (kept.beside.run.good.bytes.held a x)

    -- ---- the history

    by_same : (u : World) → IsSameStory w u → KeepsStory w u a x
    by_same u story = settled_same w u a x story.first story.logged (ap settled story.history)

    by_its : (b c : Bool) (u : World) (n : ℕ) → HasItsStory b c w u n → KeepsStory w u a x
    by_its true c u n story = settled_same w u a x story.first story.logged (ap settled story.history)
    by_its false true u n story = settled_same w u a x story.first story.logged (ap settled story.history)
    by_its false false u n story = by_same u story

    by_end : (u : World) (by : ℕ) → Makes s (Finish by) Nothing → HasStoryOf when first_tree numbers s w u kept.told (Finish by) → KeepsStory w u a x
    by_end u by m story =
        let f = has_recovery (is_through s.core) (s.core.servers by).recovery m.can.can.ended in
        ended_story w u kept.beside.run.good a x f.0.dead (story f.0 f.1).entry
        (λ e. not_bare (ap (λ n. (s.core.servers n).cache) e ∙ bare_dead by m f.0 f.1)) holds

    by_event : (u : World) (event : Event) (heard : Heard) → Makes s event heard → is_of_lines s.core event ≡ false → HasStoryOf when first_tree numbers s w u kept.told event → KeepsStory w u a x
    by_event u (Commit b) heard m n story = absurd (false≢true (sym n))
    by_event u (Answer b) heard m n story = by_its (begins_mount s.core b) (ends_mount s.core b || tells_sync s.core b) u b story
    by_event u (Close b) heard m n story = by_its false (clean_at s.core b) u b story
    by_event u (Finish by) heard m n story = by_end u by (subst (Makes s (Finish by)) m.hears m) story
    by_event u (Begin b) heard m n story = by_same u story
    by_event u (Ask b lock mode) heard m n story = by_same u story
    by_event u (Fetch b sector) heard m n story = by_same u story
    by_event u (Again b) heard m n story = by_same u story
    by_event u (Clear b block) heard m n story = by_same u story
    by_event u (Give b lock) heard m n story = by_same u story
    by_event u (Issue b sector) heard m n story = by_same u story
    by_event u (Doom b) heard m n story = by_same u story
    by_event u (Resume b) heard m n story = by_same u story
    by_event u (Arrive ticket) heard m n story = by_same u story
    by_event u (Lose ticket) heard m n story = by_same u story
    by_event u (Die b) heard m n story = by_same u story
    by_event u (Renew b) heard m n story = by_same u story
    by_event u Tick heard m n story = by_same u story
    by_event u (Recover dead by) heard m n story = by_same u story
    by_event u (Load by slot) heard m n story = by_same u story
    by_event u (Look by sector) heard m n story = by_same u story
    by_event u (HostLine number) heard m n story = by_same u story
    by_event u (Read sector) heard m n story = by_same u story
    by_event u (Show place) heard m n story = by_same u story
    by_event u End heard m n story = by_same u story

    by_step : (v : RunMoment) (u : World) (step : Step s v) → is_line_step s v step ≡ false → HasStoryAt when first_tree numbers s v w u kept.told step → KeepsStory w u a x
    by_step v u (Event_ event heard makes) n story = by_event u event heard makes n story
    by_step v u (Enter b line can) n story = by_same u story
    by_step v u (Hold b on may) n story = by_same u story
    by_step v u (Flush b may) n story = by_same u story
    by_step v u (Relock locks going are alike wait) n story = by_same u story
    by_step v u (Note line may) n story = by_same u story
    by_step v u (Peek sector going) n story = by_same u story
    by_step v u (PeekFails sector going) n story = by_same u story

    -- ---- where operations end

    at_event : (journals : ℕ → Journal) (b : ℕ) (e : log.LogEvent) (m : ℕ) → (with_event_of journals b e a).ends m ≡ (journals a).ends m
    at_event journals b e m = at_put (λ j. j.ends m ≡ (journals a).ends m) journals b (with_event (journals b) e) a (λ i. ap (λ n. (journals n).ends m) (sym i)) (λ away. refl)

    at_landed : (b number : ℕ) (present : Bool) (m : ℕ) → (landed_journals journal b number present a).ends m ≡ (journal a).ends m
    at_landed b number true m = at_event (with_event_of journal b (log.Arrive number)) b (log.Acknowledge number) m ∙ at_event journal b (log.Arrive number) m
    at_landed b number false m = at_event journal b (log.Arrive number) m

    at_heard : (b number : ℕ) (present : Bool) (heard : Heard) (m : ℕ) → (heard_journals journal b number present heard a).ends m ≡ (journal a).ends m
    at_heard b number present Written m = at_landed b number present m
    at_heard b number present (PutFailed true) m = at_event journal b (log.Arrive number) m
    at_heard b number present (PutFailed false) m = refl
    at_heard b number present Nothing m = refl
    at_heard b number present (Got block) m = refl
    at_heard b number present GetFailed m = refl
    at_heard b number present Late m = refl

    at_written : (flight : core.Flight) (heard : Heard) (purpose : core.Purpose) (m : ℕ) → (written_journals journal flight heard purpose a).ends m ≡ (journal a).ends m
    at_written flight heard (core.OfLog number) m = at_heard flight.server number flight.present heard m
    at_written flight heard (core.InPlace under) m = refl
    at_written flight heard core.OfRecovery m = refl

    at_arrived : (heard : Heard) (flight : Option core.Flight) (m : ℕ) → (arrived_journals journal heard flight a).ends m ≡ (journal a).ends m
    at_arrived heard None m = refl
    at_arrived heard (Some flight) m = at_written flight heard flight.purpose m

    at_reclaimed : (b : ℕ) (at : Option Stage) (m : ℕ) → (reclaimed_journals journal b at a).ends m ≡ (journal a).ends m
    at_reclaimed b (Some (Finishing outcome)) m = at_event journal b log.GiveUp m
    at_reclaimed b None m = refl
    at_reclaimed b (Some (Asking need)) m = refl
    at_reclaimed b (Some (Fetching needs)) m = refl
    at_reclaimed b (Some Moving) m = refl
    at_reclaimed b (Some Stopping) m = refl
    at_reclaimed b (Some (Growing needs seen)) m = refl
    at_reclaimed b (Some (Clearing block)) m = refl

    -- who mounts had nothing cached
    at_answer : (b : ℕ) → Makes s (Answer b) Nothing → (m : ℕ) → (journals_after s w (Answer b) Nothing journal a).ends m ≡ (journal a).ends m
    at_answer b makes m = go (begins_mount s.core b) refl
      where
        go : (begins : Bool) → begins_mount s.core b ≡ begins → ((if begins then put journal b (journal_at (slots_of s.disk b)) else journal) a).ends m ≡ (journal a).ends m
        go false e = refl
        go true e =
            at_put (λ j. j.ends m ≡ (journal a).ends m) journal b (journal_at (slots_of s.disk b)) a
            (λ i. absurd (not_bare (ap (λ n. (s.core.servers n).cache) i ∙ bare_off b makes.can.can.server (mount_off s b makes e)))) (λ away. refl)

    at_issue : (b sector : ℕ) (m : ℕ) → (journals_after s w (Issue b sector) Nothing journal a).ends m ≡ (journal a).ends m
    at_issue b sector m = go (issues_log s.core b sector)
      where
        go : (of_log : Bool) → ((if of_log then with_event_of journal b log.Issue else journal) a).ends m ≡ (journal a).ends m
        go true = at_event journal b log.Issue m
        go false = refl

    ends_after : (event : Event) (heard : Heard) → Makes s event heard → is_of_lines s.core event ≡ false → (m : ℕ) → (journals_after s w event heard journal a).ends m ≡ (journal a).ends m
    ends_after (Commit b) heard makes n m = absurd (false≢true (sym n))
    ends_after (Again b) heard makes n m = at_reclaimed b (stage s.core b) m
    ends_after (Answer b) heard makes n m = at_answer b (subst (Makes s (Answer b)) makes.hears makes) m
    ends_after (Issue b sector) heard makes n m = at_issue b sector m
    ends_after (Arrive ticket) heard makes n m = at_arrived heard (value_at s.core.flights ticket) m
    ends_after (Close b) heard makes n m = refl
    ends_after (Finish by) heard makes n m = refl
    ends_after (Begin b) heard makes n m = refl
    ends_after (Ask b lock mode) heard makes n m = refl
    ends_after (Fetch b sector) heard makes n m = refl
    ends_after (Clear b block) heard makes n m = refl
    ends_after (Give b lock) heard makes n m = refl
    ends_after (Doom b) heard makes n m = refl
    ends_after (Resume b) heard makes n m = refl
    ends_after (Lose ticket) heard makes n m = refl
    ends_after (Die b) heard makes n m = refl
    ends_after (Renew b) heard makes n m = refl
    ends_after Tick heard makes n m = refl
    ends_after (Recover dead by) heard makes n m = refl
    ends_after (Load by slot) heard makes n m = refl
    ends_after (Look by sector) heard makes n m = refl
    ends_after (HostLine number) heard makes n m = refl
    ends_after (Read sector) heard makes n m = refl
    ends_after (Show place) heard makes n m = refl
    ends_after End heard makes n m = refl

    ends_then : (v : RunMoment) (step : Step s v) → is_line_step s v step ≡ false → (m : ℕ) → (journals_next s v w step journal a).ends m ≡ (journal a).ends m
    ends_then v (Event_ event heard makes) n m = ends_after event heard makes n m
    ends_then v (Enter b line can) n m = refl
    ends_then v (Hold b on may) n m = refl
    ends_then v (Flush b may) n m = refl
    ends_then v (Relock locks going are alike wait) n m = refl
    ends_then v (Note line may) n m = refl
    ends_then v (Peek sector going) n m = refl
    ends_then v (PeekFails sector going) n m = refl

  -- ---- the step

  module _ (v : RunMoment) (step : Step s v) (plain : is_line_step s v step ≡ false) (leads : Leads w v (journals_next s v w step journal)) (quiet : AllQuiet v.core.setting.segments w leads.events)
      (story : HasStoryAt when first_tree numbers s v w leads.world kept.told step) where
    abbrev u : World
    u = leads.world

    keeps : AllKeep s.core v.core
    keeps = step_keeps s r bare_dead v step plain

    marks : KeepsMarks w u
    marks = laws.marks v.core.setting.segments w u leads.events leads.run quiet kept.beside.run.good

    story_at : (a x : ℕ) (cached : CachedSector) → value_at (v.core.servers a).cache x ≡ Some cached → is_dirty cached ≡ true → KeepsStory w u a x
    story_at a x cached e d = by_step a x cached ((keeps a).cached x cached e d) v u step plain story

    pub pending_then : FreeDirtIsPending v.core.servers u
    pending_then a x block m page free =
        let there = of_page (cover u x) (u.slot a x) (u.page a x) block m page (has_version u x) (plain_page u (good_run w leads.events u leads.run kept.beside.run.good) a x block m page)
        (value_at (v.core.servers a).cache x) (leads.is.tied.cached a x) in
        (keeps a).pending x there.0 there.1 there.2
        (kept.beside.dirt.cleared.pending a x block m (marks.pages a x block m page) (sym (story_at a x there.0 there.1 there.2).free ∙ free))

    pub free_then : ClearedAreFree v.core.servers u
    free_then a x cached e d bytes none =
        let t = story_at a x cached e d in
        t.free ∙ kept.beside.dirt.cleared.free a x cached ((keeps a).cached x cached e d) d bytes (sym t.kind ∙ none)

    was : (a x : ℕ) (cached : CachedSector) (dirt : Dirt) → value_at (v.core.servers a).cache x ≡ Some cached → cached.dirt ≡ Some dirt →
        WasMarked s.core.servers v.core.servers w u journal (journals_next s v w step journal) a x dirt.mark
    was a x cached dirt e d = record {
      old = cached;
      was = (keeps a).cached x cached e (ap is_some d);
      dirt = dirt;
      is_dirty = d;
      mark_is = refl;
      reached = (keeps a).reached x cached e;
      ends = ends_then a x cached ((keeps a).cached x cached e (ap is_some d)) v step plain;
      own = (story_at a x cached e (ap is_some d)).own;
    }

    pub ends_are : AreEnds v.core.servers u (journals_next s v w step journal)
    ends_are =
        laws.ends s.core.servers v.core.servers w u journal (journals_next s v w step journal) marks (λ a x cached dirt server e d. was a x cached dirt e d) kept.beside.dirt.ends

pub dirt_on : DirtLaws → (first : World) → DirtGoesOnByLasts first
dirt_on laws first lasts s v w journal when first_tree numbers step kept plain leads quiet story = record {
  cleared = record {
    pending = pending_then laws first s w journal when first_tree numbers kept v step plain leads quiet story;
    free = free_then laws first s w journal when first_tree numbers kept v step plain leads quiet story;
  };
  ends = ends_are laws first s w journal when first_tree numbers kept v step plain leads quiet story;
  reached = λ a server mounted.
      laws.reached v leads.world (journals_next s v w step journal) a leads.is server mounted (lasts s v w journal when first_tree numbers step kept plain leads quiet story);
}
