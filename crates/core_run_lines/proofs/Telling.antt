-- What the events of lines tell, and that records behind them name only sectors of regions that a replay changes: what an operation changes lies on the disk, and has a version behind it.
use Rattle.std.proofs.Common.{◌≡◌, ◌⊎◌, ℕ, inl, inr, ⊎_elim, Bool, true, false, IsTrue, is_some, List, [], ◌∷◌, ◌++◌, Option, Some, None, map, nat_lt, refl, sym, ap, ◌∙◌, subst}
use Rattle.std.proofs.lemmas.Bool.{false≢true}
use Rattle.frang_base.specs.Functions.{keep_if, put}
use Rattle.frang_base.specs.declared.change.Change.{Change}
use Rattle.frang_base.specs.declared.change.Redo.{Redo}
use Rattle.frang_base.proofs.Basics.{at_put}
use Rattle.tree_definitions.specs.Tree.{FileTree}
use Rattle.sector_bytes.specs.Replays.{above, change_at}
use Rattle.disk_definitions.specs.Ask.{Sector}
use Rattle.disk_definitions.specs.Numbered.{sector_at, sector_in}
use Rattle.disk_definitions.specs.Regions.{region_of}
use Rattle.disk_definitions.specs.Replay.{is_replayed}
use Rattle.disk_definitions.specs.Store.{Store}
use Rattle.disk_definitions.specs.declared.region.Region.{Region}
use Rattle.disk_definitions.specs.declared.region.Region.TheVariants as region
use Rattle.line_histories.specs.Following.{KindsFollow, is_versioned, store_after}
use Rattle.ring_definitions.specs.Rings.{Ring}
use Rattle.core_definitions.specs.Events as core
use Rattle.core_definitions.specs.Runs.{State as RunMoment}
use Rattle.core_definitions.specs.Trees.{block_sectors}
use Rattle.sector_world.specs.Guards.{CanDo, NoneNames}
use Rattle.sector_world.specs.Histories.{Commit, Entry, is_logged, redo_of, settled}
use Rattle.sector_world.specs.Histories.Entry.{Did}
use Rattle.sector_world.specs.Histories.Item.{Done}
use Rattle.sector_world.specs.Steps.{Event, Run, after}
use Rattle.sector_world.specs.Steps.Event.{Tick, Leave, Fail, Renew, Mount, Unmount, Take, Give, Lower, Do, Reach, Ack, Sync, Reclaim, Crash, Begin, Look, Finish, Fetch, Issue, Replay, Land, Fade, Break, BreakNew, FetchBytes, Clear, IssueBytes, LandBytes, FadeBytes, BreakBytes, BreakBytesNew, Settle}
use Rattle.sector_world.specs.Steps.Run.{goes, stays}
use Rattle.sector_world.specs.World.{World}
use Rattle.core_world.specs.Events.{IsSameStory}
use Rattle.core_world.specs.Journals.{Journal}
use Rattle.core_lives.specs.Steps.{HasEntries}
use Rattle.core_commits.specs.Commits.{fetched_world}
use Rattle.core_commits.specs.Moments.{claimed_in, operation_at}
use Rattle.core_commits.specs.Standing.{tree_now}
use Rattle.core_commit_steps.specs.Commits.{known_behind}
use Rattle.core_commit_steps.specs.Steps.{AreOfLine, AreOfOperation}
use Rattle.core_histories.specs.Steps.{HasStoryOf}
use Rattle.core_histories.specs.Tellings.{IsTold}
use Rattle.core_runs.specs.Kept.{NameRegions}
use Rattle.core_runs.specs.Open.{is_of_lines}

-- ---- records

none_kept : (b : Bool) (r : Redo) (rs : List Redo) (x : ℕ) → change_at r.changes x ≡ None → NoneNames rs x → NoneNames (keep_if b r rs) x
none_kept true r rs x e n = (e, n)
none_kept false r rs x e n = n

none_above : (k x : ℕ) (rs : List Redo) → NoneNames rs x → NoneNames (above k rs) x
none_above k x [] n = tt
none_above k x (r ∷ rs) n = none_kept (nat_lt k r.op.0) r (above k rs) x n.0 (none_above k x rs n.1)

-- an operation changes only sectors of regions that a replay changes
abbrev pub NamesRegions : ℕ → Event → Type 0
NamesRegions segments (Do c) = (x : ℕ) → (change_at c.changes x ≡ None) ⊎ IsTrue (is_replayed (region_of segments x))
NamesRegions segments e = Unit {0}

abbrev pub AllName : ℕ → List Event → Type 0
AllName segments [] = Unit {0}
AllName segments (e ∷ es) = NamesRegions segments e × AllName segments es

both_name : (segments : ℕ) (es fs : List Event) → AllName segments es → AllName segments fs → AllName segments (es ++ fs)
both_name segments [] fs a b = b
both_name segments (e ∷ es) fs a b = (a.0, both_name segments es fs a.1 b)

module _ (segments : ℕ) (w : World) (h : NameRegions segments w) where
  at_log : (a : ℕ) (rs : List Redo) → ((x : ℕ) → NoneNames rs x ⊎ IsTrue (is_replayed (region_of segments x))) → (d x : ℕ) → NoneNames (put w.log a rs d) x ⊎ IsTrue (is_replayed (region_of segments x))
  at_log a rs f d x = at_put (λ qs. NoneNames qs x ⊎ IsTrue (is_replayed (region_of segments x))) w.log a rs d (λ e. f x) (λ n. h d x)

  regions_step : (e : Event) → NamesRegions segments e → NameRegions segments (after w e)
  regions_step (Do c) q =
      at_log c.by (redo_of c ∷ w.log c.by) (λ x. ⊎_elim (λ none. ⊎_elim (λ rest. inl (none, rest)) (λ of. inr of) (h c.by x)) (λ of. inr of) (q x))
  regions_step (Reclaim a k) q = at_log a (above k (w.log a)) (λ x. ⊎_elim (λ none. inl (none_above k x (w.log a) none)) (λ of. inr of) (h a x))
  regions_step (Finish r) q = at_log r.dead [] (λ x. inl tt)
  regions_step Tick q = h
  regions_step Leave q = h
  regions_step (Fail a) q = h
  regions_step (Renew a) q = h
  regions_step (Mount a) q = h
  regions_step (Unmount a) q = h
  regions_step (Take a l mode) q = h
  regions_step (Give a l) q = h
  regions_step (Lower a l) q = h
  regions_step (Reach e k) q = h
  regions_step (Ack a k) q = h
  regions_step (Sync a) q = h
  regions_step (Crash a) q = h
  regions_step (Begin e b) q = h
  regions_step (Look r s) q = h
  regions_step (Fetch a s) q = h
  regions_step (Issue a s block mark) q = h
  regions_step (Replay r s block) q = h
  regions_step (Land s f) q = h
  regions_step (Fade s f) q = h
  regions_step (Break s f) q = h
  regions_step (BreakNew s f) q = h
  regions_step (FetchBytes a s) q = h
  regions_step (Clear a s) q = h
  regions_step (IssueBytes a s block mark) q = h
  regions_step (LandBytes s f) q = h
  regions_step (FadeBytes s f) q = h
  regions_step (BreakBytes s f) q = h
  regions_step (BreakBytesNew s f) q = h
  regions_step (Settle a s block mark) q = h

pub regions_run : (segments : ℕ) (w : World) (events : List Event) (u : World) → Run w events u → AllName segments events → NameRegions segments w → NameRegions segments u
regions_run segments w [] u stays names h = h
regions_run segments w (e ∷ es) u (goes can rest) names h = regions_run segments (after w e) es u rest names.1 (regions_step segments w h e names.0)

-- ---- regions

-- a sector of the disk with a version
of_version : (segments x : ℕ) (store : Store) (sector : Sector) → sector_at segments x ≡ Some sector → is_versioned store sector ≡ true → IsTrue (is_replayed (region_of segments x))
of_version segments x store sector = go (region_of segments x)
  where
    go : (r : Option Region) → sector_in r ≡ Some sector → is_versioned store sector ≡ true → IsTrue (is_replayed r)
    go None e v = absurd (cc)
    go (Some region.Param) e v = absurd (cc)
    go (Some (region.Log server slot)) e v = absurd (cc)
    go (Some (region.Segment k)) e v = refl
    go (Some (region.Inode i)) e v = refl
    go (Some (region.Small k part)) e v = refl
    go (Some (region.Large k part)) e v = absurd (cc)

fetches_name : (segments a : ℕ) (claimed : List ℕ) → AllName segments (map (Fetch a) claimed)
fetches_name segments a [] = tt
fetches_name segments a (x ∷ xs) = (tt, fetches_name segments a xs)

clears_name : (segments a : ℕ) (cleared : List ℕ) → AllName segments (map (Clear a) cleared)
clears_name segments a [] = tt
clears_name segments a (x ∷ xs) = (tt, clears_name segments a xs)

known_name : (segments : ℕ) (w : World) (a n : ℕ) (ring : Ring) (j : Journal) (redo : Option Redo) → AllName segments (known_behind w a n ring j redo)
known_name segments w a n ring j None = (tt, (tt, tt))
known_name segments w a n ring j (Some redo) = tt

module _ (s : RunMoment) (w : World) (journal : ℕ → Journal) (when : ℕ → ℕ) (first_tree : FileTree) where
  -- ---- a Commit

  module _ (a : ℕ) (u : World) (events : List Event) (entries : List Entry) (by : AreOfOperation s w journal when first_tree a events entries) (story : HasEntries w u entries)
      (kinds : KindsFollow s.core.setting.segments u.opening u.logged (settled u.history)) where
    abbrev c : Commit
    c = operation_at s w when (tree_now when first_tree w) a by.outcome by.op

    abbrev claimed : List ℕ
    claimed = claimed_in (s.core.servers a).cache by.op.out.o.claims

    can : CanDo (fetched_world w a claimed) c
    can = (by.op.done by.clean).1.can

    history_is : u.history ≡ Did c ∷ w.history
    history_is = story.history ∙ ap (λ es. es ++ w.history) by.entries_are

    logged_is : (x : ℕ) → is_logged u.logged (settled u.history) x ≡ is_logged w.logged (Done c ∷ settled w.history) x
    logged_is x = ap (λ h. is_logged u.logged (settled h) x) history_is ∙ ap (λ l. is_logged l (Done c ∷ settled w.history) x) story.logged

    changed_lies : (x : ℕ) (change : Change) → change_at c.changes x ≡ Some change → IsTrue (is_replayed (region_of s.core.setting.segments x))
    changed_lies x change e =
        let at = by.op.out.owns.changed x change e in
        of_version s.core.setting.segments x (store_after s.core.setting.segments u.opening (settled u.history)) at.sector at.here
        (sym (kinds x at.sector at.here) ∙ logged_is x ∙ can.named x (ap is_some e))

    operation_names : NamesRegions s.core.setting.segments (Do c)
    operation_names x = go (change_at c.changes x) refl
      where
        go : (o : Option Change) → change_at c.changes x ≡ o → (change_at c.changes x ≡ None) ⊎ IsTrue (is_replayed (region_of s.core.setting.segments x))
        go None e = inl e
        go (Some change) e = inr (changed_lies x change e)

    commit_names : AllName s.core.setting.segments events
    commit_names =
        subst (AllName s.core.setting.segments) (sym by.events_are)
        (both_name s.core.setting.segments (map (Fetch a) claimed) (Do c ∷ known_behind w a c.op (s.core.servers a).ring (journal a) by.outcome.redo) (fetches_name s.core.setting.segments a claimed)
        (operation_names, known_name s.core.setting.segments w a c.op (s.core.servers a).ring (journal a) by.outcome.redo))

  -- ---- of each

  pub line_names : (event : core.Event) → IsTrue (is_of_lines s.core event) → (u : World) (events : List Event) (entries : List Entry) → AreOfLine s w journal when first_tree event events entries →
      HasEntries w u entries → KindsFollow s.core.setting.segments u.opening u.logged (settled u.history) → AllName s.core.setting.segments events
  line_names (core.Commit a) told u events entries by story kinds = commit_names a u events entries by story kinds
  line_names (core.Clear a block) told u events entries by story kinds = subst (AllName s.core.setting.segments) (sym by.0) (clears_name s.core.setting.segments a (block_sectors block))
  line_names (core.Again a) told u events entries by story kinds = subst (AllName s.core.setting.segments) (sym by.0.1) (tt, tt)
  line_names (core.Begin a) told u events entries by story kinds = absurd (false≢true told)
  line_names (core.Ask a lock mode) told u events entries by story kinds = absurd (false≢true told)
  line_names (core.Fetch a sector) told u events entries by story kinds = absurd (false≢true told)
  line_names (core.Answer a) told u events entries by story kinds = absurd (false≢true told)
  line_names (core.Give a lock) told u events entries by story kinds = absurd (false≢true told)
  line_names (core.Issue a sector) told u events entries by story kinds = absurd (false≢true told)
  line_names (core.Doom a) told u events entries by story kinds = absurd (false≢true told)
  line_names (core.Resume a) told u events entries by story kinds = absurd (false≢true told)
  line_names (core.Arrive ticket) told u events entries by story kinds = absurd (false≢true told)
  line_names (core.Lose ticket) told u events entries by story kinds = absurd (false≢true told)
  line_names (core.Die a) told u events entries by story kinds = absurd (false≢true told)
  line_names (core.Renew a) told u events entries by story kinds = absurd (false≢true told)
  line_names core.Tick told u events entries by story kinds = absurd (false≢true told)
  line_names (core.Recover dead worker) told u events entries by story kinds = absurd (false≢true told)
  line_names (core.Load worker slot) told u events entries by story kinds = absurd (false≢true told)
  line_names (core.Look worker sector) told u events entries by story kinds = absurd (false≢true told)
  line_names (core.Finish worker) told u events entries by story kinds = absurd (false≢true told)
  line_names (core.HostLine number) told u events entries by story kinds = absurd (false≢true told)
  line_names (core.Close a) told u events entries by story kinds = absurd (false≢true told)
  line_names (core.Read sector) told u events entries by story kinds = absurd (false≢true told)
  line_names (core.Show place) told u events entries by story kinds = absurd (false≢true told)
  line_names core.End told u events entries by story kinds = absurd (false≢true told)

  same_story : (u : World) (entries : List Entry) → entries ≡ [] → HasEntries w u entries → IsSameStory w u
  same_story u entries none story = record {
    servers = story.servers;
    opening = story.opening;
    logged = story.logged;
    first = story.first;
    home = story.home;
    history = story.history ∙ ap (λ es. es ++ w.history) none;
  }

  pub line_story : (numbers : List ℕ) (tells : IsTold when first_tree numbers s w) (event : core.Event) → IsTrue (is_of_lines s.core event) → (u : World) (events : List Event) (entries : List Entry) →
      AreOfLine s w journal when first_tree event events entries → HasEntries w u entries → HasStoryOf when first_tree numbers s w u tells event
  line_story numbers tells (core.Commit a) told u events entries by story = record {
    outcome = by.outcome;
    at = by.at;
    op = by.op;
    clean = by.clean;
    entry = record {
      servers = story.servers;
      opening = story.opening;
      logged = story.logged;
      first = story.first;
      home = story.home;
      history = story.history ∙ ap (λ es. es ++ w.history) by.entries_are;
    };
  }
  line_story numbers tells (core.Clear a block) told u events entries by story = same_story u entries by.1 story
  line_story numbers tells (core.Again a) told u events entries by story = same_story u entries by.1 story
  line_story numbers tells (core.Begin a) told u events entries by story = absurd (false≢true told)
  line_story numbers tells (core.Ask a lock mode) told u events entries by story = absurd (false≢true told)
  line_story numbers tells (core.Fetch a sector) told u events entries by story = absurd (false≢true told)
  line_story numbers tells (core.Answer a) told u events entries by story = absurd (false≢true told)
  line_story numbers tells (core.Give a lock) told u events entries by story = absurd (false≢true told)
  line_story numbers tells (core.Issue a sector) told u events entries by story = absurd (false≢true told)
  line_story numbers tells (core.Doom a) told u events entries by story = absurd (false≢true told)
  line_story numbers tells (core.Resume a) told u events entries by story = absurd (false≢true told)
  line_story numbers tells (core.Arrive ticket) told u events entries by story = absurd (false≢true told)
  line_story numbers tells (core.Lose ticket) told u events entries by story = absurd (false≢true told)
  line_story numbers tells (core.Die a) told u events entries by story = absurd (false≢true told)
  line_story numbers tells (core.Renew a) told u events entries by story = absurd (false≢true told)
  line_story numbers tells core.Tick told u events entries by story = absurd (false≢true told)
  line_story numbers tells (core.Recover dead worker) told u events entries by story = absurd (false≢true told)
  line_story numbers tells (core.Load worker slot) told u events entries by story = absurd (false≢true told)
  line_story numbers tells (core.Look worker sector) told u events entries by story = absurd (false≢true told)
  line_story numbers tells (core.Finish worker) told u events entries by story = absurd (false≢true told)
  line_story numbers tells (core.HostLine number) told u events entries by story = absurd (false≢true told)
  line_story numbers tells (core.Close a) told u events entries by story = absurd (false≢true told)
  line_story numbers tells (core.Read sector) told u events entries by story = absurd (false≢true told)
  line_story numbers tells (core.Show place) told u events entries by story = absurd (false≢true told)
  line_story numbers tells core.End told u events entries by story = absurd (false≢true told)
