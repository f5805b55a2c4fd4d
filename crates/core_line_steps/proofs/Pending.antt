-- A Commit and a Clear keep that dirty pages of free sectors are pending, and that cleared blocks are free.
use Rattle.std.proofs.Common.{◌≡◌, ◌≢◌, ◌⊎◌, ℕ, Bool, true, false, if◌then◌else◌, IsTrue, is_some, List, [], ◌∷◌, Option, Some, None, refl, sym, ap, ◌∙◌, subst, inl, inr}
use Rattle.std.proofs.lemmas.Bool.{cases_eq, false≢true}
use Rattle.std.specs.Option.{option_map, unwrap_or}
use Rattle.frang_base.specs.Functions.{member, put}
use Rattle.frang_base.proofs.Basics.{at_put}
use Rattle.frang_base.specs.declared.change.Change.{Change}
use Rattle.frang_base.specs.declared.lock.Mode.TheVariants.{Sole}
use Rattle.cache_definitions.specs.declared.dirt.Dirt.{Dirt}
use Rattle.sector_bytes.specs.Blocks.{Block}
use Rattle.sector_bytes.specs.Replays.{change_at}
use Rattle.sector_bytes.specs.SectorMaps.{Ascend, value_at}
use Rattle.cache_definitions.specs.Caches.{Cache, CachedSector, dirty, is_dirty, is_dirty_bytes}
use Rattle.core_definitions.specs.LineEffects.{cache_after, change_in, changed_by, committed_by, ring_after, sector_after}
use Rattle.core_definitions.specs.Logs.{is_none}
use Rattle.core_definitions.specs.Plans as plans
use Rattle.core_definitions.specs.Plans.{BytesSet}
use Rattle.core_definitions.specs.Servers.{Server}
use Rattle.ring_definitions.specs.Rings.{last}
use Rattle.sector_world.specs.Bytes.{PageHeld}
use Rattle.sector_world.specs.Guards.{CanDo}
use Rattle.sector_world.specs.Histories.{Commit, Fill, settled}
use Rattle.sector_world.specs.Histories.Fill.{Written, Freed}
use Rattle.sector_world.specs.HistoryBytes.{is_free, is_free_by}
use Rattle.sector_world.specs.Kinds.{Good}
use Rattle.sector_world.specs.Steps.{after, page_done, page_filled}
use Rattle.sector_world.specs.Steps.Event.{Do}
use Rattle.sector_world.specs.World.{World, Page, NoPage, DirtyPage, FreedPage, cover, has_version}
use Rattle.core_world.specs.Ties.{AreCached, IsCachedAs, IsPageOf}
use Rattle.core_lives.specs.Cleared.{ClearedAreFree}
use Rattle.core_commits.specs.Commits.{IsDoneAs, fetched_world, fill_of, last_set}
use Rattle.core_commits.proofs.CacheLaws.{after_at, with_set}
use Rattle.core_line_steps.specs.Pending.{FreeDirtIsPending}

-- ---- after an operation

pub none_pending : (xs : List ℕ) (s : ℕ) → IsTrue (is_none xs) → member s xs ≡ true → ⊥
none_pending [] s e m = false≢true m
none_pending (x ∷ xs) s e m = false≢true e

free_before : (fill : Option Fill) (older : Bool) (page old : Page) (op : ℕ) (block : Block) (m : ℕ) → page ≡ page_filled fill op old → page ≡ DirtyPage block m → is_free_by fill older ≡ true → (old ≡ DirtyPage block m) × (older ≡ true)
free_before None older page old op block m is e f = (sym is ∙ e, f)
free_before (Some (Written written)) older page old op block m is e f = absurd (false≢true f)
free_before (Some Freed) older page old op block m is e f = absurd (let z : FreedPage op ≡ DirtyPage block m = sym is ∙ e in cc)

module _ (servers : ℕ → Server) (w : World) (outcome : plans.Outcome) (c : Commit) (sectors : List ℕ) (g : Good (fetched_world w c.by sectors)) (t : AreCached servers w) (sorted : Ascend (servers c.by).cache)
    (done : IsDoneAs outcome c w) (can : CanDo (fetched_world w c.by sectors) c) (none : IsTrue (is_none (servers c.by).pending)) where
  abbrev u : World
  u = after (fetched_world w c.by sectors) (Do c)

  abbrev next : ℕ → Server
  next = put servers c.by (committed_by outcome (servers c.by))

  -- the server of an operation has alone what it writes, so no other has it dirty
  not_dirty : (b s : ℕ) (block : Block) (m : ℕ) → b ≢ c.by → w.page b s ≡ DirtyPage block m → c.writes s ≡ None
  not_dirty b s block m n e = go (c.writes s) refl
    where
      sole : w.holds b (cover w s) ≡ Some Sole
      sole = subst (λ p. PageHeld p (w.holds b (cover w s))) e (g.bytes.held b s)

      go : (fill : Option Fill) → c.writes s ≡ fill → fill ≡ None
      go None q = refl
      go (Some fill) q =
          absurd (n (g.logged.apart b c.by (cover w s) sole (λ z. let y : None ≡ Some Sole = sym z ∙ can.written s (ap is_some q) in cc)))

  page_then : (s : ℕ) (block : Block) (m : ℕ) → page_done (c.claims s) (c.writes s) c.op (w.page c.by s) ≡ DirtyPage block m → page_filled (c.writes s) c.op (w.page c.by s) ≡ DirtyPage block m
  page_then s block m = go (c.claims s)
    where
      go : (b : Bool) → (if b then NoPage else page_filled (c.writes s) c.op (w.page c.by s)) ≡ DirtyPage block m → page_filled (c.writes s) c.op (w.page c.by s) ≡ DirtyPage block m
      go true e = absurd (cc)
      go false e = e

  pub pending_then : FreeDirtIsPending servers w → FreeDirtIsPending next u
  pending_then f b s block m e free = go (cases_eq b c.by)
    where
      go : (b ≡ c.by) ⊎ (b ≡ c.by → ⊥) → member s (next b).pending ≡ true
      go (inl i) =
          let own : page_done (c.claims s) (c.writes s) c.op (w.page c.by s) ≡ DirtyPage block m =
          at_put (λ p. p s ≡ DirtyPage block m → page_done (c.claims s) (c.writes s) c.op (w.page c.by s) ≡ DirtyPage block m) w.page c.by (λ i. page_done (c.claims i) (c.writes i) c.op (w.page c.by i)) b (λ j q. q) (λ n. absurd (n i)) e in
          let r = free_before (c.writes s) (is_free w.first (settled w.history) s) (page_filled (c.writes s) c.op (w.page c.by s)) (w.page c.by s) c.op block m refl (page_then s block m own) free in
          absurd (none_pending (servers c.by).pending s none (f c.by s block m r.0 r.1))
      go (inr n) =
          let old : w.page b s ≡ DirtyPage block m = at_put (λ p. p s ≡ DirtyPage block m → w.page b s ≡ DirtyPage block m) w.page c.by (λ i. page_done (c.claims i) (c.writes i) c.op (w.page c.by i)) b (λ j. absurd (n j)) (λ j q. q) e in
          let was : is_free w.first (settled w.history) s ≡ true = sym (ap (λ x. is_free_by x (is_free w.first (settled w.history) s)) (not_dirty b s block m n old)) ∙ free in
          at_put (λ x. member s x.pending ≡ true) servers c.by (committed_by outcome (servers c.by)) b (λ j. absurd (n j)) (λ j. f b s block m old was)

  -- ---- what is dirty beside file bytes

  older_plain : (claimed older : Bool) → (if claimed then true else older) ≡ false → older ≡ false
  older_plain true older e = absurd (false≢true (sym e))
  older_plain false older e = e

  stays_free : (fill : Option Fill) (older : Bool) → fill ≡ None → older ≡ true → is_free_by fill older ≡ true
  stays_free fill older e f = ap (λ x. is_free_by x older) e ∙ f

  page_dirty : (dirt : Option Dirt) (block : Block) (page : Page) → is_some dirt ≡ true → IsPageOf dirt block page → (m : ℕ) × (page ≡ DirtyPage block m)
  page_dirty None block page e i = absurd (false≢true e)
  page_dirty (Some dirt) block page e i = i

  not_there : {X : Type 0} (x : X) (o : Option X) → o ≡ None → o ≡ Some x → ⊥
  not_there x o e f = let z : None ≡ Some x = sym e ∙ f in cc

  abbrev mark : ℕ
  mark = last (ring_after (servers c.by) outcome)

  abbrev old_cache : Cache
  old_cache = (servers c.by).cache

  -- of the server itself
  own_free : ClearedAreFree servers w → (s : ℕ) (cached : CachedSector) → value_at (cache_after mark outcome old_cache) s ≡ Some cached → is_dirty cached ≡ true → is_dirty_bytes cached ≡ false →
      (if c.claims s then true else has_version w s) ≡ false → is_free_by (c.writes s) (is_free w.first (settled w.history) s) ≡ true
  own_free f s cached e dirt plain bare = go (member s outcome.freed) (last_set outcome.bytes s) (done.fills s) (sym (after_at mark outcome old_cache s sorted) ∙ e)
    where
      unchanged : (x : Option Change) → (is_some x ≡ true → ⊥) → x ≡ None
      unchanged None n = refl
      unchanged (Some x) n = absurd (n refl)

      no_change : change_in outcome.redo s ≡ None
      no_change = done.changes s ∙ unchanged (change_at c.changes s) (λ i. false≢true (sym bare ∙ can.named s i))

      from : (kept : Option CachedSector) → value_at old_cache s ≡ kept → c.writes s ≡ None →
          option_map (λ k. changed_by mark (unwrap_or (outcome.moves s) k.cover) (change_in outcome.redo s) k) kept ≡ Some cached → is_free_by (c.writes s) (is_free w.first (settled w.history) s) ≡ true
      from None q i r = absurd (cc)
      from (Some kept) q i r =
          let same : changed_by mark (unwrap_or (outcome.moves s) kept.cover) None kept ≡ cached =
          (let z : Some (changed_by mark (unwrap_or (outcome.moves s) kept.cover) (change_in outcome.redo s) kept) ≡ Some cached = r in ap (λ x. changed_by mark (unwrap_or (outcome.moves s) kept.cover) x kept) (sym no_change) ∙ cc) in
          stays_free (c.writes s) (is_free w.first (settled w.history) s) i
          (f c.by s kept q (ap is_dirty same ∙ dirt) (ap is_dirty_bytes same ∙ plain) (older_plain (c.claims s) (has_version w s) bare))

      go : (freed : Bool) (set : Option BytesSet) → c.writes s ≡ fill_of freed set →
          (if freed then None else with_set mark set (option_map (sector_after mark outcome s) (value_at old_cache s))) ≡ Some cached → is_free_by (c.writes s) (is_free w.first (settled w.history) s) ≡ true
      go true set i r = absurd (cc)
      go false (Some x) i r = let same : dirty x.block x.cover mark true ≡ cached = cc in absurd (false≢true (sym plain ∙ sym (ap is_dirty_bytes same)))
      go false None i r = from (value_at old_cache s) refl i r

  other_free : ClearedAreFree servers w → (b s : ℕ) (cached : CachedSector) → b ≢ c.by → value_at (servers b).cache s ≡ Some cached → is_dirty cached ≡ true → is_dirty_bytes cached ≡ false →
      (if c.claims s then true else has_version w s) ≡ false → is_free_by (c.writes s) (is_free w.first (settled w.history) s) ≡ true
  other_free f b s cached n e dirt plain bare =
      let none_now : has_version w s ≡ false = older_plain (c.claims s) (has_version w s) bare in
      let i : IsCachedAs false (cover w s) (Some cached) (w.slot b s) (w.page b s) =
      subst (λ x. IsCachedAs x (cover w s) (Some cached) (w.slot b s) (w.page b s)) none_now (subst (λ o. IsCachedAs (has_version w s) (cover w s) o (w.slot b s) (w.page b s)) e (t b s)) in
      let p = page_dirty cached.dirt cached.block (w.page b s) dirt i.2 in
      stays_free (c.writes s) (is_free w.first (settled w.history) s) (not_dirty b s cached.block p.0 n p.1) (f b s cached e dirt plain none_now)

  pub free_then : ClearedAreFree servers w → ClearedAreFree next u
  free_then f b s cached e dirt plain bare = go (cases_eq b c.by)
    where
      go : (b ≡ c.by) ⊎ (b ≡ c.by → ⊥) → is_free_by (c.writes s) (is_free w.first (settled w.history) s) ≡ true
      go (inl i) = own_free f s cached
          (at_put (λ x. value_at x.cache s ≡ Some cached → value_at (cache_after mark outcome old_cache) s ≡ Some cached) servers c.by (committed_by outcome (servers c.by)) b (λ j q. q) (λ n. absurd (n i)) e) dirt plain bare
      go (inr n) = other_free f b s cached n
          (at_put (λ x. value_at x.cache s ≡ Some cached → value_at (servers b).cache s ≡ Some cached) servers c.by (committed_by outcome (servers c.by)) b (λ j. absurd (n j)) (λ j q. q) e) dirt plain bare
