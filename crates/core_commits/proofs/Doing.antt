-- What a Commit leaves cached is what an operation of the world leaves: sector by sector.
use Rattle.std.proofs.Common.{◌≡◌, ◌≢◌, ◌⊎◌, ℕ, Bool, true, false, if◌then◌else◌, Option, Some, None, is_some, refl, sym, ap, ◌∙◌, subst, inl, inr}
use Rattle.std.proofs.lemmas.Bool.{false≢true, cases_eq}
use Rattle.std.specs.Option.{option_map, unwrap_or}
use Rattle.frang_base.specs.Functions.{put, member}
use Rattle.frang_base.proofs.Basics.{at_put}
use Rattle.frang_base.specs.declared.change.Change.{Change}
use Rattle.frang_base.specs.declared.lock.LockId.{LockId}
use Rattle.sector_bytes.specs.Changes as changes
use Rattle.sector_bytes.specs.Replays.{change_at}
use Rattle.sector_bytes.specs.SectorMaps.{value_at, Ascend}
use Rattle.ring_definitions.specs.Rings.{last}
use Rattle.cache_definitions.specs.declared.dirt.Dirt.{Dirt}
use Rattle.cache_definitions.specs.Caches.{Cache, CachedSector}
use Rattle.core_definitions.specs.Plans as plans
use Rattle.core_definitions.specs.Plans.{BytesSet}
use Rattle.core_definitions.specs.LineEffects.{cache_after, change_in, changed_by, committed_by, sector_after, ring_after}
use Rattle.core_definitions.specs.Servers.{Server}
use Rattle.sector_world.specs.Histories.{Fill, Commit, Changes, Writes}
use Rattle.sector_world.specs.Histories.Fill.{Written, Freed}
use Rattle.sector_world.specs.Seen.{moved}
use Rattle.sector_world.specs.World.{World, Slot, Absent, Clean, Dirty, Page, NoPage, cover, has_version}
use Rattle.sector_world.specs.Steps.{after, changed, page_done, page_filled}
use Rattle.sector_world.specs.Steps.Event.{Do}
use Rattle.core_world.specs.Ties.{AreCached, IsCachedAs, IsSlotOf, IsPageOf, IsNoPage}
use Rattle.core_commits.specs.Commits.{IsDoneAs, fill_of, last_set}
use Rattle.core_commits.proofs.CacheLaws.{after_at, with_set}

pub cover_moved : (new : Option LockId) (old k : LockId) → old ≡ k → unwrap_or new old ≡ moved new k
cover_moved None old k e = e
cover_moved (Some lock) old k e = refl

versioned : (k : LockId) (new : Option LockId) (x : Option Change) (op mark : ℕ) (e : Option CachedSector) (slot : Slot) (page next : Page) → IsCachedAs true k e slot page →
    IsCachedAs true (moved new k) (option_map (λ kept. changed_by mark (unwrap_or new kept.cover) x kept) e) (changed x op slot) next
versioned k new None op mark None slot page next t = t
versioned k new (Some x) op mark None slot page next t = ap (changed (Some x) op) t
versioned k new None op mark (Some kept) slot page next t = (cover_moved new kept.cover k t.0, t.1)
versioned k new (Some x) op mark (Some kept) slot page next t = (cover_moved new kept.cover k t.0, (op, go kept.dirt t.1))
  where
    go : (dirt : Option Dirt) → IsSlotOf dirt kept.block slot → changed (Some x) op slot ≡ Dirty (changes.changed kept.block x) op
    go None i = ap (changed (Some x) op) i
    go (Some dirt) i = ap (changed (Some x) op) i.1

plain : (k : LockId) (new : Option LockId) (op mark : ℕ) (freed : Bool) (set : Option BytesSet) → ((x : BytesSet) → set ≡ Some x → x.cover ≡ moved new k) → (e : Option CachedSector) (slot : Slot) (page : Page) → IsCachedAs false k e slot page →
    IsCachedAs false (moved new k) (if freed then None else with_set mark set (option_map (λ kept. changed_by mark (unwrap_or new kept.cover) None kept) e)) slot (page_filled (fill_of freed set) op page)
plain k new op mark true set covered e slot page t = (none e t, gone page)
  where
    none : (o : Option CachedSector) → IsCachedAs false k o slot page → slot ≡ Absent
    none None i = i.0
    none (Some kept) i = i.1

    gone : (p : Page) → IsNoPage (page_filled (Some Freed) op p)
    gone p = inr (op, refl)
plain k new op mark false (Some x) covered e slot page t = (covered x refl, none e t, fills page)
  where
    none : (o : Option CachedSector) → IsCachedAs false k o slot page → slot ≡ Absent
    none None i = i.0
    none (Some kept) i = i.1

    fills : (p : Page) → IsPageOf (Some (record { mark = mark; is_bytes = true })) x.block (page_filled (Some (Written x.block)) op p)
    fills p = (op, refl)
plain k new op mark false None covered None slot page t = t
plain k new op mark false None covered (Some kept) slot page t = (cover_moved new kept.cover k t.0, t.1, t.2)

-- what is claimed is cached as zeros, and fetched
pub record IsFetched (cache : Cache) (w : World) (a s : ℕ) : Type 0 where
  pub kept : CachedSector
  pub there : value_at cache s ≡ Some kept
  pub under : kept.cover ≡ cover w s
  pub clean : kept.dirt ≡ None
  pub slot : w.slot a s ≡ Clean kept.block

module _ (servers : ℕ → Server) (w : World) (outcome : plans.Outcome) (c : Commit) (sorted : Ascend (servers c.by).cache) (done : IsDoneAs outcome c w)
    (named : (s : ℕ) → Changes s c → (if c.claims s then true else has_version w s) ≡ true) (unnamed : (s : ℕ) → Writes s c → (if c.claims s then true else has_version w s) ≡ false)
    (fetched : (s : ℕ) → c.claims s ≡ true → IsFetched (servers c.by).cache w c.by s)
    (cached : (b s : ℕ) → (b ≡ c.by → c.claims s ≡ true → ⊥) → IsCachedAs (has_version w s) (cover w s) (value_at (servers b).cache s) (w.slot b s) (w.page b s))
    (elsewhere : (b s : ℕ) → b ≢ c.by → (c.claims s ≡ true) ⊎ (c.moves s ≢ None) → value_at (servers b).cache s ≡ None × (w.slot b s ≡ Absent)) where
  abbrev mark : ℕ
  mark = last (ring_after (servers c.by) outcome)

  abbrev old : Cache
  old = (servers c.by).cache

  none_of : (x : Option Change) → (is_some x ≡ true → ⊥) → x ≡ None
  none_of None n = refl
  none_of (Some x) n = absurd (n refl)

  no_fill : (x : Option Fill) → (is_some x ≡ true → ⊥) → x ≡ None
  no_fill None n = refl
  no_fill (Some x) n = absurd (n refl)

  filled_none : (freed : Bool) (set : Option BytesSet) → fill_of freed set ≡ None → (freed ≡ false) × (set ≡ None)
  filled_none true set e = absurd (cc)
  filled_none false None e = (refl, refl)
  filled_none false (Some x) e = absurd (cc)

  -- the sector has a version, before or by this
  with_version : (s : ℕ) → (if c.claims s then true else has_version w s) ≡ true → (slot : Slot) (page next : Page) → IsCachedAs true (cover w s) (value_at old s) slot page →
      IsCachedAs true (moved (c.moves s) (cover w s)) (value_at (cache_after mark outcome old) s) (changed (change_at c.changes s) c.op slot) next
  with_version s v slot page next t =
      let none : c.writes s ≡ None = no_fill (c.writes s) (λ i. false≢true (sym (unnamed s i) ∙ v)) in
      let f = filled_none (member s outcome.freed) (last_set outcome.bytes s) (sym (done.fills s) ∙ none) in
      subst (λ e. IsCachedAs true (moved (c.moves s) (cover w s)) e (changed (change_at c.changes s) c.op slot) next)
      (sym (after_at mark outcome old s sorted ∙ ap (λ b. if b then None else with_set mark (last_set outcome.bytes s) (option_map (sector_after mark outcome s) (value_at old s))) f.0
      ∙ ap (λ o. with_set mark o (option_map (sector_after mark outcome s) (value_at old s))) f.1
      ∙ ap (λ new. option_map (λ kept. changed_by mark (unwrap_or new kept.cover) (change_in outcome.redo s) kept) (value_at old s)) (done.moves s)
      ∙ ap (λ x. option_map (λ kept. changed_by mark (unwrap_or (c.moves s) kept.cover) x kept) (value_at old s)) (done.changes s)))
      (versioned (cover w s) (c.moves s) (change_at c.changes s) c.op mark (value_at old s) slot page next t)

  -- it has none, afterwards neither
  without_version : (s : ℕ) → (if c.claims s then true else has_version w s) ≡ false → IsCachedAs false (cover w s) (value_at old s) (w.slot c.by s) (w.page c.by s) →
      IsCachedAs false (moved (c.moves s) (cover w s)) (value_at (cache_after mark outcome old) s) (changed (change_at c.changes s) c.op (w.slot c.by s)) (page_filled (c.writes s) c.op (w.page c.by s))
  without_version s v t =
      let none : change_at c.changes s ≡ None = none_of (change_at c.changes s) (λ i. false≢true (sym v ∙ named s i)) in
      subst (λ x. IsCachedAs false (moved (c.moves s) (cover w s)) (value_at (cache_after mark outcome old) s) (changed x c.op (w.slot c.by s)) (page_filled (c.writes s) c.op (w.page c.by s))) (sym none)
      (subst (λ f. IsCachedAs false (moved (c.moves s) (cover w s)) (value_at (cache_after mark outcome old) s) (w.slot c.by s) (page_filled f c.op (w.page c.by s))) (sym (done.fills s))
      (subst (λ e. IsCachedAs false (moved (c.moves s) (cover w s)) e (w.slot c.by s) (page_filled (fill_of (member s outcome.freed) (last_set outcome.bytes s)) c.op (w.page c.by s)))
      (sym (after_at mark outcome old s sorted
      ∙ ap (λ new. if member s outcome.freed then None else with_set mark (last_set outcome.bytes s) (option_map (λ kept. changed_by mark (unwrap_or new kept.cover) (change_in outcome.redo s) kept) (value_at old s))) (done.moves s)
      ∙ ap (λ x. if member s outcome.freed then None else with_set mark (last_set outcome.bytes s) (option_map (λ kept. changed_by mark (unwrap_or (c.moves s) kept.cover) x kept) (value_at old s))) (done.changes s ∙ none)))
      (plain (cover w s) (c.moves s) c.op mark (member s outcome.freed) (last_set outcome.bytes s) (done.covers s) (value_at old s) (w.slot c.by s) (w.page c.by s) t)))

  abbrev new_slot : ℕ → Slot
  new_slot s = changed (change_at c.changes s) c.op (w.slot c.by s)

  abbrev new_page : ℕ → Page
  new_page s = page_done (c.claims s) (c.writes s) c.op (w.page c.by s)

  own : (s : ℕ) → IsCachedAs (if c.claims s then true else has_version w s) (moved (c.moves s) (cover w s)) (value_at (cache_after mark outcome old) s) (new_slot s) (new_page s)
  own s = by (c.claims s) refl (has_version w s) refl
    where
      by : (b : Bool) → c.claims s ≡ b → (v : Bool) → has_version w s ≡ v →
          IsCachedAs (if b then true else v) (moved (c.moves s) (cover w s)) (value_at (cache_after mark outcome old) s) (new_slot s) (page_done b (c.writes s) c.op (w.page c.by s))
      by true e v f =
          let q = fetched s e in
          with_version s (ap (λ b. if b then true else has_version w s) e) (w.slot c.by s) NoPage NoPage
          (subst (λ o. IsCachedAs true (cover w s) o (w.slot c.by s) NoPage) (sym q.there) (q.under, subst (λ d. IsSlotOf d q.kept.block (w.slot c.by s)) (sym q.clean) q.slot))
      by false e true f =
          with_version s (ap (λ b. if b then true else has_version w s) e ∙ f) (w.slot c.by s) (w.page c.by s) (page_filled (c.writes s) c.op (w.page c.by s))
          (subst (λ v. IsCachedAs v (cover w s) (value_at old s) (w.slot c.by s) (w.page c.by s)) f (cached c.by s (λ i j. false≢true (sym e ∙ j))))
      by false e false f =
          without_version s (ap (λ b. if b then true else has_version w s) e ∙ f)
          (subst (λ v. IsCachedAs v (cover w s) (value_at old s) (w.slot c.by s) (w.page c.by s)) f (cached c.by s (λ i j. false≢true (sym e ∙ j))))

  none_cached : (v : Bool) (k : LockId) (slot : Slot) (page : Page) → slot ≡ Absent → IsNoPage page → IsCachedAs v k None slot page
  none_cached true k slot page i j = i
  none_cached false k slot page i j = (i, j)

  -- another server has cached nothing of what is claimed or moved
  other : (b s : ℕ) → b ≢ c.by → (page_none : (c.claims s ≡ true) ⊎ (c.moves s ≢ None) → IsNoPage (w.page b s)) →
      IsCachedAs (if c.claims s then true else has_version w s) (moved (c.moves s) (cover w s)) (value_at (servers b).cache s) (w.slot b s) (w.page b s)
  other b s n pages = by (c.claims s) refl (c.moves s) refl
    where
      moves_some : (l : LockId) → c.moves s ≡ Some l → c.moves s ≢ None
      moves_some l e i = let z : Some l ≡ None = sym e ∙ i in cc

      gone : (v : Bool) (k : LockId) → (c.claims s ≡ true) ⊎ (c.moves s ≢ None) → IsCachedAs v k (value_at (servers b).cache s) (w.slot b s) (w.page b s)
      gone v k d = let q = elsewhere b s n d in subst (λ e. IsCachedAs v k e (w.slot b s) (w.page b s)) (sym q.0) (none_cached v k (w.slot b s) (w.page b s) q.1 (pages d))

      by : (d : Bool) → c.claims s ≡ d → (new : Option LockId) → c.moves s ≡ new → IsCachedAs (if d then true else has_version w s) (moved new (cover w s)) (value_at (servers b).cache s) (w.slot b s) (w.page b s)
      by true e new f = gone true (moved new (cover w s)) (inl e)
      by false e (Some l) f = gone (has_version w s) l (inr (moves_some l f))
      by false e None f = cached b s (λ i j. n i)

  abbrev Goal : ℕ → Server → Slot → Page → Type 0
  Goal s server slot page = IsCachedAs (if c.claims s then true else has_version w s) (moved (c.moves s) (cover w s)) (value_at server.cache s) slot page

  pub do_cached : ((b s : ℕ) → b ≢ c.by → (c.claims s ≡ true) ⊎ (c.moves s ≢ None) → IsNoPage (w.page b s)) → AreCached (put servers c.by (committed_by outcome (servers c.by))) (after w (Do c))
  do_cached pages b s = go (cases_eq b c.by)
    where
      go : (b ≡ c.by) ⊎ (b ≡ c.by → ⊥) → Goal s (put servers c.by (committed_by outcome (servers c.by)) b) (put w.slot c.by (λ i. new_slot i) b s) (put w.page c.by (λ i. new_page i) b s)
      go (inl e) = at_put (λ x. Goal s x (put w.slot c.by (λ i. new_slot i) b s) (put w.page c.by (λ i. new_page i) b s)) servers c.by (committed_by outcome (servers c.by)) b
          (λ i. at_put (λ x. Goal s (committed_by outcome (servers c.by)) (x s) (put w.page c.by (λ i. new_page i) b s)) w.slot c.by (λ i. new_slot i) b
          (λ j. at_put (λ x. Goal s (committed_by outcome (servers c.by)) (new_slot s) (x s)) w.page c.by (λ i. new_page i) b (λ k. own s) (λ n. absurd (n e)))
          (λ n. absurd (n e)))
          (λ n. absurd (n e))
      go (inr n) = at_put (λ x. Goal s x (put w.slot c.by (λ i. new_slot i) b s) (put w.page c.by (λ i. new_page i) b s)) servers c.by (committed_by outcome (servers c.by)) b (λ e. absurd (n e))
          (λ m. at_put (λ x. Goal s (servers b) (x s) (put w.page c.by (λ i. new_page i) b s)) w.slot c.by (λ i. new_slot i) b (λ e. absurd (n e))
          (λ m. at_put (λ x. Goal s (servers b) (w.slot b s) (x s)) w.page c.by (λ i. new_page i) b (λ e. absurd (n e)) (λ m. other b s n (pages b s n))))
