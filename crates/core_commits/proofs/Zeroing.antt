-- What is cached of free sectors stays zeros at every event.
use Rattle.std.proofs.Common.{◌≡◌, ◌≢◌, ℕ, Bool, true, false, List, [], ◌∷◌, Option, Some, None, if◌then◌else◌, IsSome, inr, refl, sym, ap, ◌∙◌, subst, ⊎_elim}
use Rattle.std.proofs.lemmas.Bool.{cases_eq, false≢true}
use Rattle.frang_base.proofs.Basics.{at_put, at_put2, by_test}
use Rattle.frang_base.specs.Functions.{put, put2}
use Rattle.frang_base.specs.Locks.{same_lock}
use Rattle.frang_base.specs.declared.lock.LockId.{LockId}
use Rattle.frang_base.specs.declared.lock.Mode.{Mode}
use Rattle.frang_base.specs.declared.lock.Mode.TheVariants.{Sole}
use Rattle.sector_bytes.specs.Blocks.{Block, zero_block}
use Rattle.cache_definitions.specs.declared.dirt.Dirt.{Dirt}
use Rattle.sector_world.specs.Histories.{Commit, Fill, Item, Each, Writes, settled, survives, synced_of, recovered}
use Rattle.sector_world.specs.Histories.Fill.{Written, Freed}
use Rattle.sector_world.specs.HistoryBytes.{is_free, is_free_by}
use Rattle.sector_world.specs.Seen.{Alters}
use Rattle.sector_world.specs.World.{World, Phase, Page, NoPage, CleanPage, DirtyPage, FreedPage, Rescue, cover, has_version}
use Rattle.sector_world.specs.Guards.{CanDo, CanFinish}
use Rattle.sector_world.specs.Bytes.{PageHeld, PageUnlessUp}
use Rattle.sector_world.specs.Kinds.{Good}
use Rattle.sector_world.specs.Steps.{after, page_done, page_landed, page_lowered}
use Rattle.sector_world.specs.Steps.Event.{Tick, Leave, Fail, Renew, Mount, Unmount, Take, Give, Lower, Do, Reach, Ack, Sync, Reclaim, Crash, Begin, Look, Finish, Fetch, Issue, Replay, Land, Fade, Break, BreakNew, FetchBytes, Clear, IssueBytes, LandBytes, FadeBytes, BreakBytes, BreakBytesNew, Settle}
use Rattle.sector_world.specs.Steps.Run.{stays, goes}
use Rattle.sector_world.specs.World.Phase.{Off, Up, Dead}
use Rattle.sector_world.proofs.Bytes.{free_kept}
use Rattle.sector_world.proofs.Every.{good_step}
use Rattle.sector_world.proofs.Finishing.{lost_sole}
use Rattle.sector_world.proofs.HistoryLaws.{each_map}
use Rattle.sector_world.proofs.Recovering.{sole_or_not}
use Rattle.core_world.specs.Ties.{IsCachedAs, IsPageOf}
use Rattle.core_commits.specs.Zeros.{IsZeroPage, FreePagesAreZeros, EventsKeepZeros, RunsKeepZeros, StartsHaveNoPages, FreeSectorsAreZeros}

pub starts_have_no_pages : StartsHaveNoPages
starts_have_no_pages servers disk logged of_files home a s free = tt

-- a page under a lock that its server doesn't hold is none
no_page : (x : Page) (m : Option Mode) → PageHeld x m → (m ≢ None → ⊥) → IsZeroPage x
no_page NoPage m h n = tt
no_page (CleanPage block) m h n = absurd (n h)
no_page (DirtyPage block mark) m h n = absurd (n (λ e. let z : None ≡ Some Sole = sym e ∙ h in cc))
no_page (FreedPage mark) m h n = tt

none_up : (p : Phase) (x : Page) → p ≡ Dead → PageUnlessUp p x → IsZeroPage x
none_up Off x e u = absurd (cc)
none_up Up x e u = absurd (cc)
none_up Dead x e u = subst IsZeroPage (sym u) tt

lowered_zero : (x : Page) → IsZeroPage x → IsZeroPage (page_lowered x)
lowered_zero NoPage z = tt
lowered_zero (CleanPage block) z = z
lowered_zero (DirtyPage block mark) z = z
lowered_zero (FreedPage mark) z = tt

landed_zero : (acked : ℕ) (block : Block) (x : Page) → IsZeroPage x → IsZeroPage (page_landed acked block x)
landed_zero acked block NoPage z = tt
landed_zero acked block (CleanPage old) z = z
landed_zero acked block (DirtyPage old mark) z = by_test IsZeroPage (CleanPage old) (DirtyPage old mark) _ (λ e. z) (λ e. z)
landed_zero acked block (FreedPage mark) z = tt

-- ---- an operation

-- its own page
done_zero : (claimed : Bool) (fill : Option Fill) (older : Bool) (op : ℕ) (x : Page) → is_free_by fill older ≡ true → (older ≡ true → IsZeroPage x) → IsZeroPage (page_done claimed fill op x)
done_zero true fill older op x free z = tt
done_zero false None older op x free z = z free
done_zero false (Some (Written block)) older op x free z = absurd (false≢true free)
done_zero false (Some Freed) older op x free z = tt

-- another's: a sector that is freed is held alone
other_zero : (fill : Option Fill) (older : Bool) (x : Page) → is_free_by fill older ≡ true → (older ≡ true → IsZeroPage x) → (fill ≢ None → IsZeroPage x) → IsZeroPage x
other_zero None older x free z written = z free
other_zero (Some f) older x free z written = written (λ e. absurd (cc))

module _ (w : World) (c : Commit) (can : CanDo w c) (g : Good w) (z : FreePagesAreZeros w) where
  -- what it writes or frees no other server has
  apart : (b s : ℕ) → b ≢ c.by → c.writes s ≢ None → IsZeroPage (w.page b s)
  apart b s n wrote =
      no_page (w.page b s) (w.holds b (cover w s)) (g.bytes.held b s) (λ held. n (sym (g.logged.apart c.by b (cover w s) (can.written s (some_of (c.writes s) wrote)) held)))
    where
      some_of : (fill : Option Fill) → fill ≢ None → IsSome fill
      some_of None m = absurd (m refl)
      some_of (Some f) m = refl

  do_zeros : FreePagesAreZeros (after w (Do c))
  do_zeros b s free =
      at_put (λ f. IsZeroPage (f s)) w.page c.by (λ s. page_done (c.claims s) (c.writes s) c.op (w.page c.by s)) b
      (λ e. done_zero (c.claims s) (c.writes s) (is_free w.first (settled w.history) s) c.op (w.page c.by s) free (z c.by s))
      (λ n. other_zero (c.writes s) (is_free w.first (settled w.history) s) (w.page b s) free (z b s) (apart b s n))

-- ---- the end of a recovery

module _ (w : World) (r : Rescue) (can : CanFinish w r) (g : Good w) (z : FreePagesAreZeros w) where
  abbrev rest : List Item
  rest = recovered r.dead (w.durable r.dead) (synced_of r.dead w.history) (settled w.history)

  writes_stay : (s : ℕ) → (w.holds r.dead (cover w s) ≡ Some Sole → ⊥) → Each (λ c. Writes s c → survives r.dead (w.durable r.dead) c ≡ true) (settled w.history)
  writes_stay s n = each_map (λ c. Alters s c → survives r.dead (w.durable r.dead) c ≡ true) (λ c. Writes s c → survives r.dead (w.durable r.dead) c ≡ true) (λ c m i. m (inr (inr i)))
      (settled w.history) (lost_sole w r can g.logged s n)

  free_same : (s : ℕ) → (w.holds r.dead (cover w s) ≡ Some Sole → ⊥) → is_free w.first rest s ≡ is_free w.first (settled w.history) s
  free_same s n = free_kept w.first s (survives r.dead (w.durable r.dead)) (settled w.history) (writes_stay s n)

  -- what the dead server held alone no other has
  beside : (b s : ℕ) → w.holds r.dead (cover w s) ≡ Some Sole → IsZeroPage (w.page b s)
  beside b s sole = ⊎_elim
      (λ e. none_up (w.phase b) (w.page b s) (ap w.phase e ∙ (g.logged.rescued r can.going).dead) (g.bytes.not_up b s))
      (λ n. no_page (w.page b s) (w.holds b (cover w s)) (g.bytes.held b s) (λ held. n (sym (g.logged.apart r.dead b (cover w s) sole held))))
      (cases_eq b r.dead)

  finish_zeros : FreePagesAreZeros (after w (Finish r))
  finish_zeros b s free = ⊎_elim (λ sole. beside b s sole) (λ n. z b s (sym (free_same s n) ∙ free)) (sole_or_not (w.holds r.dead (cover w s)))

-- ---- all events

-- a page changed at one place
put_zero : (w : World) (a s : ℕ) (x : Page) → ((b t : ℕ) → is_free w.first (settled w.history) t ≡ true → IsZeroPage (w.page b t)) → (is_free w.first (settled w.history) s ≡ true → IsZeroPage x) →
    (b t : ℕ) → is_free w.first (settled w.history) t ≡ true → IsZeroPage (put2 w.page a s x b t)
put_zero w a s x z here b t free = at_put2 IsZeroPage w.page a s x b t (λ e i. here (subst (λ n. is_free w.first (settled w.history) n ≡ true) i free)) (λ n. z b t free)

-- those of a server under a lock
under_zero : (w : World) (a : ℕ) (l : LockId) (change : Page → Page) → FreePagesAreZeros w → ((x : Page) → IsZeroPage x → IsZeroPage (change x)) →
    (b t : ℕ) → is_free w.first (settled w.history) t ≡ true → IsZeroPage (put w.page a (λ s. if same_lock (cover w s) l then change (w.page a s) else w.page a s) b t)
under_zero w a l change z keeps b t free =
    at_put (λ f. IsZeroPage (f t)) w.page a (λ s. if same_lock (cover w s) l then change (w.page a s) else w.page a s) b
    (λ e. by_test IsZeroPage (change (w.page a t)) (w.page a t) (same_lock (cover w t) l) (λ i. keeps (w.page a t) (z a t free)) (λ i. z a t free)) (λ n. z b t free)

pub events_keep_zeros : EventsKeepZeros
events_keep_zeros w Tick can g z = z
events_keep_zeros w Leave can g z = z
events_keep_zeros w (Fail a) can g z = z
events_keep_zeros w (Renew a) can g z = z
events_keep_zeros w (Mount a) can g z = z
events_keep_zeros w (Unmount a) can g z = z
events_keep_zeros w (Take a l mode) can g z = z
events_keep_zeros w (Give a l) can g z = under_zero w a l (λ x. NoPage) z (λ x i. tt)
events_keep_zeros w (Lower a l) can g z = under_zero w a l page_lowered z lowered_zero
events_keep_zeros w (Do c) can g z = do_zeros w c can g z
events_keep_zeros w (Reach d k) can g z = z
events_keep_zeros w (Ack a k) can g z = z
events_keep_zeros w (Sync a) can g z = z
events_keep_zeros w (Reclaim a k) can g z = z
events_keep_zeros w (Crash a) can g z = λ b t free. at_put (λ f. IsZeroPage (f t)) w.page a (λ s. NoPage) b (λ e. tt) (λ n. z b t free)
events_keep_zeros w (Begin d b) can g z = z
events_keep_zeros w (Look r s) can g z = z
events_keep_zeros w (Finish r) can g z = finish_zeros w r can g z
events_keep_zeros w (Fetch a s) can g z = z
events_keep_zeros w (Issue a s block mark) can g z = z
events_keep_zeros w (Replay r s block) can g z = z
events_keep_zeros w (Land s f) can g z = z
events_keep_zeros w (Fade s f) can g z = z
events_keep_zeros w (Break s f) can g z = z
events_keep_zeros w (BreakNew s f) can g z = z
events_keep_zeros w (FetchBytes a s) can g z = put_zero w a s (CleanPage (w.bytes s)) z (λ free. absurd (false≢true (sym can.filled ∙ free)))
events_keep_zeros w (Clear a s) can g z = put_zero w a s (DirtyPage zero_block (w.last a)) z (λ free. refl)
events_keep_zeros w (IssueBytes a s block mark) can g z = z
events_keep_zeros w (LandBytes s f) can g z = put_zero w f.by s (page_landed (w.acked f.by) f.block (w.page f.by s)) z (λ free. landed_zero (w.acked f.by) f.block (w.page f.by s) (z f.by s free))
events_keep_zeros w (FadeBytes s f) can g z = z
events_keep_zeros w (BreakBytes s f) can g z = z
events_keep_zeros w (BreakBytesNew s f) can g z = z
events_keep_zeros w (Settle a s block mark) can g z = put_zero w a s (CleanPage block) z (λ free. subst IsZeroPage can.dirty (z a s free))

pub runs_keep_zeros : RunsKeepZeros
runs_keep_zeros w u [] stays g z = z
runs_keep_zeros w u (e ∷ es) (goes can r) g z = runs_keep_zeros (after w e) u es r (good_step w e can g) (events_keep_zeros w e can g z)

-- ---- caches of the core

pub free_sectors_are_zeros : FreeSectorsAreZeros
free_sectors_are_zeros servers w t z a s kept e plain free =
    go (has_version w s) plain kept.dirt (subst (λ o. IsCachedAs (has_version w s) (cover w s) o (w.slot a s) (w.page a s)) e (t a s))
  where
    page_is : (dirt : Option Dirt) (page : Page) → IsPageOf dirt kept.block page → IsZeroPage page → kept.block ≡ zero_block
    page_is None page i zero = subst IsZeroPage i zero
    page_is (Some dirt) page i zero = subst IsZeroPage i.1 zero

    go : (v : Bool) → v ≡ false → (dirt : Option Dirt) → IsCachedAs v (cover w s) (Some kept) (w.slot a s) (w.page a s) → kept.block ≡ zero_block
    go true f dirt c = absurd (false≢true (sym f))
    go false f dirt c = page_is kept.dirt (w.page a s) c.2 (z a s free)
