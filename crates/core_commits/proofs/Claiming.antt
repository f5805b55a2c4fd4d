-- Around an operation: the claimed sectors are fetched before it, and no other server has what it claims or moves. So its caches and its writes in flight are those of the world.
use Rattle.std.proofs.Common.{◌≡◌, ◌≢◌, ◌⊎◌, ◌≤◌, ℕ, Bool, true, false, if◌then◌else◌, is_some, List, [], ◌∷◌, Option, Some, None, refl, sym, ap, ◌∙◌, subst, inl, inr}
use Rattle.std.proofs.lemmas.Bool.{false≢true}
use Rattle.std.specs.List.{Contains}
use Rattle.std.specs.Option.{IsSome}
use Rattle.frang_base.specs.Functions.{put, put2}
use Rattle.frang_base.proofs.Basics.{at_put2}
use Rattle.frang_base.specs.declared.change.Change.{Change}
use Rattle.frang_base.specs.declared.lock.LockId.{LockId}
use Rattle.frang_base.specs.declared.lock.Mode.{Mode}
use Rattle.frang_base.specs.declared.lock.Mode.TheVariants.{Sole}
use Rattle.sector_bytes.specs.Blocks.{Block, zero_block}
use Rattle.sector_bytes.specs.Replays.{change_at, forced}
use Rattle.sector_bytes.specs.SectorMaps.{Ascend, value_at}
use Rattle.cache_definitions.specs.declared.dirt.Dirt.{Dirt}
use Rattle.cache_definitions.specs.Caches.{CachedSector}
use Rattle.core_definitions.specs.Flights as core
use Rattle.core_definitions.specs.Flights.{Flights, each_of_server}
use Rattle.core_definitions.specs.LineEffects.{committed_by, flight_after}
use Rattle.core_definitions.specs.Plans as plans
use Rattle.core_definitions.specs.Servers.{Server}
use Rattle.core_laws.specs.Laws.{AreOnce}
use Rattle.core_laws.proofs.Membership.{contains_in, in_contains}
use Rattle.disk_definitions.proofs.Listed.{Among}
use Rattle.sector_world.specs.Guards.{CanDo, MovesOwned}
use Rattle.sector_world.specs.Histories.{Commit, Item, is_logged, logical, settled}
use Rattle.sector_world.specs.Histories.Item.{Done, Doubt}
use Rattle.sector_world.specs.Bytes.{PageHeld}
use Rattle.sector_world.specs.Kinds.{Claimed, Good}
use Rattle.sector_world.specs.Logged.{HeldIf, IsCopy, now_of}
use Rattle.sector_world.specs.Steps.{after}
use Rattle.sector_world.specs.Steps.Event.{Do, Fetch}
use Rattle.sector_world.specs.Steps.Run.{goes, stays}
use Rattle.sector_world.specs.World.{World, Page, NoPage, CleanPage, DirtyPage, FreedPage, Slot, Absent, Clean, Dirty, cover, has_version}
use Rattle.sector_world.proofs.Every.{good_step}
use Rattle.core_world.specs.Ties.{AreCached, AreFlying, IsCachedAs, IsPageOf, IsShown, IsSlotOf, is_log_sector}
use Rattle.core_commits.specs.Commits.{AreClaimed, AreClaimedClean, CommitsKeepCaches, CommitsKeepFlights, IsDoneAs, SectorsAreFetched, WritesHoldTheirCovers, fetched_slots, fetched_world}
use Rattle.core_commits.proofs.Doing.{IsFetched, do_cached}
use Rattle.core_commits.proofs.Moving.{do_flying}

-- ---- slots that are fetched

module _ (disk : ℕ → Block) (a : ℕ) where
  -- a sector that isn't among these
  pub slot_else : (sectors : List ℕ) (slot : ℕ → ℕ → Slot) (b s : ℕ) → (b ≡ a → Among s sectors → ⊥) → fetched_slots disk slot a sectors b s ≡ slot b s
  slot_else [] slot b s n = refl
  slot_else (t ∷ sectors) slot b s n =
      slot_else sectors (put2 slot a t (Clean (disk t))) b s (λ e i. n e (inr i))
      ∙ at_put2 (λ x. x ≡ slot b s) slot a t (Clean (disk t)) b s (λ e i. absurd (n e (inl i))) (λ m. refl)

  -- one that is
  pub slot_there : (sectors : List ℕ) (slot : ℕ → ℕ → Slot) (s : ℕ) → AreOnce sectors → Among s sectors → fetched_slots disk slot a sectors a s ≡ Clean (disk s)
  slot_there [] slot s once i = absurd i
  slot_there (t ∷ sectors) slot s once (inr i) = slot_there sectors (put2 slot a t (Clean (disk t))) s once.1 i
  slot_there (t ∷ sectors) slot s once (inl e) =
      slot_else sectors (put2 slot a t (Clean (disk t))) a s (λ q i. once.0 (subst (Contains sectors) e (in_contains sectors s i)))
      ∙ at_put2 (λ x. x ≡ Clean (disk s)) slot a t (Clean (disk t)) a s (λ q f. ap (λ n. Clean (disk n)) (sym e)) (λ m. absurd (m refl e))

pub sectors_are_fetched : SectorsAreFetched
sectors_are_fetched w a [] up once may = stays
sectors_are_fetched w a (s ∷ sectors) up once may =
    goes (record { up = up; held = (may s (here s)).1; absent = (may s (here s)).0 })
    (sectors_are_fetched (after w (Fetch a s)) a sectors up once.1 (λ t i. (absent t i, (may t (there t i)).1)))
  where
    here : (t : ℕ) → Contains (t ∷ sectors) t
    here t = in_contains (t ∷ sectors) t (inl refl)

    there : (t : ℕ) → Contains sectors t → Contains (s ∷ sectors) t
    there t i = in_contains (s ∷ sectors) t (inr (contains_in sectors t i))

    absent : (t : ℕ) → Contains sectors t → put2 w.slot a s (Clean (w.disk s)) a t ≡ Absent
    absent t i = at_put2 (λ x. x ≡ Absent) w.slot a s (Clean (w.disk s)) a t (λ e f. absurd (once.0 (subst (Contains sectors) f i))) (λ n. (may t (there t i)).0)

-- ---- what another server has

none_held : (slot : Slot) (mode : Option Mode) → HeldIf slot mode → (mode ≢ None → ⊥) → slot ≡ Absent
none_held Absent mode h n = refl
none_held (Clean block) mode h n = absurd (n h)
none_held (Dirty block mark) mode h n = absurd (n (λ e. let z : None ≡ Some Sole = sym e ∙ h in cc))

no_page_held : (page : Page) (mode : Option Mode) → PageHeld page mode → (mode ≢ None → ⊥) → page ≡ NoPage
no_page_held NoPage mode h n = refl
no_page_held (CleanPage block) mode h n = absurd (n h)
no_page_held (DirtyPage block mark) mode h n = absurd (n (λ e. let z : None ≡ Some Sole = sym e ∙ h in cc))
no_page_held (FreedPage mark) mode h n = absurd (n (λ e. let z : None ≡ Some Sole = sym e ∙ h in cc))

-- nothing is cached by the core where the world has nothing
nothing_cached : (v : Bool) (lock : LockId) (o : Option CachedSector) (slot : Slot) (page : Page) → IsCachedAs v lock o slot page → slot ≡ Absent → page ≡ NoPage → o ≡ None
nothing_cached v lock None slot page t e f = refl
nothing_cached true lock (Some kept) slot page t e f = absurd (go kept.dirt t.1)
  where
    go : (dirt : Option Dirt) → IsSlotOf dirt kept.block slot → ⊥
    go None i = let z : Absent ≡ Clean kept.block = sym e ∙ i in cc
    go (Some dirt) i = let z : Absent ≡ Dirty kept.block i.0 = sym e ∙ i.1 in cc
nothing_cached false lock (Some kept) slot page t e f = absurd (go kept.dirt t.2)
  where
    go : (dirt : Option Dirt) → IsPageOf dirt kept.block page → ⊥
    go None i = let z : NoPage ≡ CleanPage kept.block = sym f ∙ i in cc
    go (Some dirt) i = let z : NoPage ≡ DirtyPage kept.block i.0 = sym f ∙ i.1 in cc

-- ---- a sector without a version is zeros among those with one

same_older : (claimed older : Bool) → (if claimed then true else older) ≡ false → (claimed ≡ false) × (older ≡ false)
same_older true older e = absurd (false≢true (sym e))
same_older false older e = (refl, e)

no_change : (x : Option Change) (block : Block) → (is_some x ≡ true → ⊥) → forced x block ≡ block
no_change None block n = refl
no_change (Some x) block n = absurd (n refl)

pub opens_as : (opening : ℕ → Block) (first : ℕ → Bool) (s : ℕ) (h : List Item) → Claimed first s h → is_logged first h s ≡ false → logical opening h s ≡ opening s
opens_as opening first s [] claimed plain = refl
opens_as opening first s (Doubt m ∷ h) claimed plain = opens_as opening first s h claimed plain
opens_as opening first s (Done c ∷ h) claimed plain =
    no_change (change_at c.changes s) (logical opening h s) (λ i. false≢true (sym plain ∙ claimed.0 i))
    ∙ opens_as opening first s h claimed.1 (same_older (c.claims s) (is_logged first h s) plain).1

first_plain : (first : ℕ → Bool) (s : ℕ) (h : List Item) → is_logged first h s ≡ false → first s ≡ false
first_plain first s [] plain = plain
first_plain first s (Doubt m ∷ h) plain = first_plain first s h plain
first_plain first s (Done c ∷ h) plain = first_plain first s h (same_older (c.claims s) (is_logged first h s) plain).1

pub plain_is_zero : (w : World) → Good w → (s : ℕ) → has_version w s ≡ false → now_of w s ≡ zero_block
plain_is_zero w g s plain = opens_as w.opening w.logged s (settled w.history) (g.kinds.claimed s) plain ∙ g.kinds.zero s (first_plain w.logged s (settled w.history) plain)

-- ---- caches

module _ (servers : ℕ → Server) (w : World) (outcome : plans.Outcome) (c : Commit) (sectors : List ℕ) (g : Good (fetched_world w c.by sectors)) (t : AreCached servers w)
    (sorted : Ascend (servers c.by).cache) (done : IsDoneAs outcome c w) (claimed : AreClaimed c sectors) (clean : AreClaimedClean (servers c.by).cache c)
    (can : CanDo (fetched_world w c.by sectors) c) where
  abbrev v : World
  v = fetched_world w c.by sectors

  -- where nothing is fetched
  slot_same : (b s : ℕ) → (b ≡ c.by → c.claims s ≡ true → ⊥) → v.slot b s ≡ w.slot b s
  slot_same b s n = slot_else w.disk c.by sectors w.slot b s (λ e i. n e (claimed.only s (in_contains sectors s i)))

  as_before : (b s : ℕ) → (b ≡ c.by → c.claims s ≡ true → ⊥) → IsCachedAs (has_version v s) (cover v s) (value_at (servers b).cache s) (v.slot b s) (v.page b s)
  as_before b s n = subst (λ x. IsCachedAs (has_version w s) (cover w s) (value_at (servers b).cache s) x (w.page b s)) (sym (slot_same b s n)) (t b s)

  some_move : (s : ℕ) → (c.claims s ≡ true) ⊎ (c.moves s ≢ None) → c.moves s ≢ None
  some_move s (inl e) none = let z : IsSome (c.moves s) = (can.claims s e).moved in let y : false ≡ true = sym (ap is_some none) ∙ z in cc
  some_move s (inr n) none = n none

  -- what is claimed or moved its server holds alone
  held_alone : (s : ℕ) → (c.claims s ≡ true) ⊎ (c.moves s ≢ None) → w.holds c.by (cover w s) ≡ Some Sole
  held_alone s d = go (c.moves s) (some_move s d) (can.moves s)
    where
      go : (new : Option LockId) → new ≢ None → MovesOwned new (w.holds c.by (cover w s)) (w.holds c.by) → w.holds c.by (cover w s) ≡ Some Sole
      go None n owned = absurd (n refl)
      go (Some lock) n owned = owned.0

  -- so no other server holds its cover
  apart : (b s : ℕ) → b ≢ c.by → (c.claims s ≡ true) ⊎ (c.moves s ≢ None) → w.holds b (cover w s) ≢ None → ⊥
  apart b s n d held = n (sym (g.logged.apart c.by b (cover w s) (held_alone s d) held))

  absent : (b s : ℕ) → b ≢ c.by → (c.claims s ≡ true) ⊎ (c.moves s ≢ None) → v.slot b s ≡ Absent
  absent b s n d = none_held (v.slot b s) (w.holds b (cover w s)) (g.logged.held b s) (apart b s n d)

  pageless : (b s : ℕ) → b ≢ c.by → (c.claims s ≡ true) ⊎ (c.moves s ≢ None) → w.page b s ≡ NoPage
  pageless b s n d = no_page_held (w.page b s) (w.holds b (cover w s)) (g.bytes.held b s) (apart b s n d)

  elsewhere : (b s : ℕ) → b ≢ c.by → (c.claims s ≡ true) ⊎ (c.moves s ≢ None) → (value_at (servers b).cache s ≡ None) × (v.slot b s ≡ Absent)
  elsewhere b s n d =
      (nothing_cached (has_version w s) (cover w s) (value_at (servers b).cache s) (v.slot b s) (w.page b s) (as_before b s (λ e. absurd (n e))) (absent b s n d) (pageless b s n d), absent b s n d)

  -- what is claimed is zeros on either side
  zero_there : (s : ℕ) → c.claims s ≡ true → w.disk s ≡ zero_block
  zero_there s e =
      (let i : v.slot c.by s ≡ Clean (w.disk s) = slot_there w.disk c.by sectors w.slot s claimed.once (contains_in sectors s (claimed.all s e)) in
      let copy : IsCopy (Clean (w.disk s)) (now_of v s) = subst (λ x. IsCopy x (now_of v s)) i (g.logged.copies c.by s) in copy)
      ∙ plain_is_zero v g s (can.claims s e).fresh

  fetched : (s : ℕ) → c.claims s ≡ true → IsFetched (servers c.by).cache v c.by s
  fetched s e =
      let k = clean s e in
      let plain : IsCachedAs false (cover w s) (Some k.0) (w.slot c.by s) (w.page c.by s) =
      subst (λ x. IsCachedAs x (cover w s) (Some k.0) (w.slot c.by s) (w.page c.by s)) (can.claims s e).fresh
      (subst (λ o. IsCachedAs (has_version w s) (cover w s) o (w.slot c.by s) (w.page c.by s)) k.1 (t c.by s)) in
      let page : w.page c.by s ≡ CleanPage k.0.block = subst (λ d. IsPageOf d k.0.block (w.page c.by s)) k.2 plain.2 in
      let zero : k.0.block ≡ zero_block = (let z : CleanPage k.0.block ≡ CleanPage zero_block = sym page ∙ (can.claims s e).cleared in cc) in
      record {
        kept = k.0;
        there = k.1;
        under = plain.0;
        clean = k.2;
        slot = slot_there w.disk c.by sectors w.slot s claimed.once (contains_in sectors s (claimed.all s e)) ∙ ap Clean (zero_there s e ∙ sym zero);
      }

  pub caches_kept : AreCached (put servers c.by (committed_by outcome (servers c.by))) (after v (Do c))
  caches_kept =
      do_cached servers v outcome c sorted (record { changes = done.changes; moves = done.moves; fills = done.fills; covers = done.covers }) can.named can.plain fetched as_before elsewhere
      (λ b s n d. inl (pageless b s n d))

pub commits_keep_caches : CommitsKeepCaches
commits_keep_caches servers w outcome c sectors g t sorted done claimed clean can = caches_kept servers w outcome c sectors g t sorted done claimed clean can

-- ---- writes in flight

module _ (segments : ℕ) (flights : Flights) (w : World) (outcome : plans.Outcome) (c : Commit) (sectors : List ℕ) (g : Good (fetched_world w c.by sectors)) (t : AreFlying segments w.now flights w)
    (done : IsDoneAs outcome c w) (no_log : (s : ℕ) → c.claims s ≡ true → is_log_sector segments s ≡ false) (can : CanDo (fetched_world w c.by sectors) c) (soles : WritesHoldTheirCovers w flights) where
  abbrev then_ : World
  then_ = after (fetched_world w c.by sectors) (Do c)

  good_then : Good then_
  good_then = good_step (fetched_world w c.by sectors) (Do c) can g

  -- nothing of a claimed sector is in time
  landed : (one : ℕ × core.Flight) → Contains flights one → w.now ≤ one.1.stamp → c.claims one.1.sector ≡ true → ⊥
  landed one i early e =
      good_then.kinds.landed one.1.sector (record { by = one.1.server; stamp = one.1.stamp; block = one.1.block }) (ap (λ (b : Bool). if b then true else has_version w one.1.sector) e)
      (subst (λ x. IsShown x one.1 (w.flight one.1.sector) (w.byte_flight one.1.sector)) (can.claims one.1.sector e).fresh (t.shown one i early (no_log one.1.sector e))) early

  -- another's write in place isn't moved, as both would hold its cover alone
  others : (s : ℕ) (lock : LockId) → cover w s ≡ lock → (b : ℕ) → (b ≡ c.by → ⊥) → w.holds b lock ≡ Some Sole → c.moves s ≡ None
  others s lock at b n sole = go (c.moves s) refl (can.moves s)
    where
      go : (new : Option LockId) → c.moves s ≡ new → MovesOwned new (w.holds c.by (cover w s)) (w.holds c.by) → new ≡ None
      go None e owned = refl
      go (Some new) e owned =
          absurd (n (g.logged.apart b c.by (cover w s) (ap (w.holds b) at ∙ sole) (λ none. let z : None ≡ Some Sole = sym none ∙ owned.0 in cc)))

  pub flights_kept : AreFlying segments w.now (each_of_server c.by (flight_after outcome) flights) then_
  flights_kept = do_flying segments w.now flights (fetched_world w c.by sectors) outcome c (record { changes = done.changes; moves = done.moves; fills = done.fills; covers = done.covers })
      (record { flight = t.flight; bytes = t.bytes; shown = t.shown }) others soles landed

pub commits_keep_flights : CommitsKeepFlights
commits_keep_flights segments flights w outcome c sectors g t done no_log can soles = flights_kept segments flights w outcome c sectors g t done no_log can soles
