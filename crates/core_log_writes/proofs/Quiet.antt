-- Quiet events mark nothing: what is dirty behind them was so before, with the same mark, and no log is known less.
use Rattle.std.proofs.Common.{◌≡◌, ℕ, ◌≤◌, Bool, true, false, ◌&&◌, if◌then◌else◌, IsTrue, List, [], ◌∷◌, Option, Some, None, nat_le, le_refl, le_trans, refl, sym, ap, ◌∙◌, subst, inl, inr}
use Rattle.std.specs.Str.{bytes_eq}
use Rattle.frang_base.specs.Locks.{same_lock}
use Rattle.frang_base.proofs.Basics.{at_put, at_put2}
use Rattle.sector_bytes.specs.Blocks.{Block}
use Rattle.sector_bytes.specs.SectorMaps.{value_at}
use Rattle.cache_definitions.specs.declared.dirt.Dirt.{Dirt}
use Rattle.cache_definitions.specs.Caches.{CachedSector}
use Rattle.core_definitions.specs.LineGuards.{is_server}
use Rattle.core_definitions.specs.Servers.{Server}
use Rattle.sector_world.specs.Histories.{settled}
use Rattle.sector_world.specs.Kinds.{Good}
use Rattle.sector_world.specs.Steps.{Event, after, landed, page_landed, page_lowered, stays, goes}
use Rattle.sector_world.specs.Steps.Event.{Ack, Clear, Crash, Do, Fetch, FetchBytes, Finish, Give, Land, LandBytes, Lower, Settle}
use Rattle.sector_world.specs.World.{World, Slot, Absent, Clean, Dirty, Page, NoPage, CleanPage, DirtyPage, FreedPage, cover}
use Rattle.sector_world.proofs.Every.{good_step}
use Rattle.core_world.specs.Beside.{AtCached, AtPage, AtSlot, IsEnd}
use Rattle.core_world.specs.Journals.{IsOwn, Journal}
use Rattle.core_world.specs.Quiet.{IsQuiet}
use Rattle.core_log_writes.specs.Quiet.{EndsGoOn, KeepsMarks, QuietRunsKeepMarks, WasMarked}

-- ---- one slot, one page

module _ (block : Block) (m : ℕ) where
  given_slot : (t : Bool) (x : Slot) → (if t then Absent else x) ≡ Dirty block m → x ≡ Dirty block m
  given_slot true x e = absurd (cc)
  given_slot false x e = e

  landed_slot : (new : Block) (x : Slot) → landed new x ≡ Dirty block m → x ≡ Dirty block m
  landed_slot new Absent e = e
  landed_slot new (Clean old) e = e
  landed_slot new (Dirty old k) e = go (bytes_eq old new) e
    where
      go : (t : Bool) → (if t then Clean old else Dirty old k) ≡ Dirty block m → Dirty old k ≡ Dirty block m
      go true f = absurd (cc)
      go false f = f

  given_page : (t : Bool) (x : Page) → (if t then NoPage else x) ≡ DirtyPage block m → x ≡ DirtyPage block m
  given_page true x e = absurd (cc)
  given_page false x e = e

  lowered_page : (t : Bool) (x : Page) → (if t then page_lowered x else x) ≡ DirtyPage block m → x ≡ DirtyPage block m
  lowered_page false x e = e
  lowered_page true NoPage e = e
  lowered_page true (CleanPage old) e = e
  lowered_page true (DirtyPage old k) e = e
  lowered_page true (FreedPage k) e = absurd (cc)

  landed_page : (acked : ℕ) (new : Block) (x : Page) → page_landed acked new x ≡ DirtyPage block m → x ≡ DirtyPage block m
  landed_page acked new NoPage e = e
  landed_page acked new (CleanPage old) e = e
  landed_page acked new (FreedPage k) e = e
  landed_page acked new (DirtyPage old k) e = go (bytes_eq old new && nat_le k acked) e
    where
      go : (t : Bool) → (if t then CleanPage old else DirtyPage old k) ≡ DirtyPage block m → DirtyPage old k ≡ DirtyPage block m
      go true f = absurd (cc)
      go false f = f

-- ---- one event

slot_was : (segments : ℕ) (w : World) (e : Event) → IsQuiet segments w e → (a s : ℕ) (block : Block) (m : ℕ) → (after w e).slot a s ≡ Dirty block m → w.slot a s ≡ Dirty block m
slot_was segments w (Do c) q a s block m i = absurd q
slot_was segments w (Give b l) q a s block m i =
    at_put (λ f. f s ≡ Dirty block m → w.slot a s ≡ Dirty block m) w.slot b (λ x. if same_lock (cover w x) l then Absent else w.slot b x) a
    (λ is f. ap (λ n. w.slot n s) is ∙ given_slot block m (same_lock (cover w s) l) (w.slot b s) f) (λ n f. f) i
slot_was segments w (Crash b) q a s block m i =
    at_put (λ f. f s ≡ Dirty block m → w.slot a s ≡ Dirty block m) w.slot b (λ x. Absent) a (λ is f. absurd (cc)) (λ n f. f) i
slot_was segments w (Fetch b t) q a s block m i =
    at_put2 (λ x. x ≡ Dirty block m → w.slot a s ≡ Dirty block m) w.slot b t (Clean (w.disk t)) a s (λ j k f. absurd (cc)) (λ n f. f) i
slot_was segments w (Land t f) q a s block m i =
    at_put2 (λ x. x ≡ Dirty block m → w.slot a s ≡ Dirty block m) w.slot f.behalf t (landed f.block (w.slot f.behalf t)) a s
    (λ j k g. (λ n. w.slot (j n) (k n)) ∙ landed_slot block m f.block (w.slot f.behalf t) g) (λ n g. g) i
slot_was segments w e q a s block m i = i

page_was : (segments : ℕ) (w : World) (e : Event) → IsQuiet segments w e → (a s : ℕ) (block : Block) (m : ℕ) → (after w e).page a s ≡ DirtyPage block m → w.page a s ≡ DirtyPage block m
page_was segments w (Do c) q a s block m i = absurd q
page_was segments w (Clear b t) q a s block m i = absurd q
page_was segments w (Give b l) q a s block m i =
    at_put (λ f. f s ≡ DirtyPage block m → w.page a s ≡ DirtyPage block m) w.page b (λ x. if same_lock (cover w x) l then NoPage else w.page b x) a
    (λ is f. ap (λ n. w.page n s) is ∙ given_page block m (same_lock (cover w s) l) (w.page b s) f) (λ n f. f) i
page_was segments w (Lower b l) q a s block m i =
    at_put (λ f. f s ≡ DirtyPage block m → w.page a s ≡ DirtyPage block m) w.page b (λ x. if same_lock (cover w x) l then page_lowered (w.page b x) else w.page b x) a
    (λ is f. ap (λ n. w.page n s) is ∙ lowered_page block m (same_lock (cover w s) l) (w.page b s) f) (λ n f. f) i
page_was segments w (Crash b) q a s block m i =
    at_put (λ f. f s ≡ DirtyPage block m → w.page a s ≡ DirtyPage block m) w.page b (λ x. NoPage) a (λ is f. absurd (cc)) (λ n f. f) i
page_was segments w (FetchBytes b t) q a s block m i =
    at_put2 (λ x. x ≡ DirtyPage block m → w.page a s ≡ DirtyPage block m) w.page b t (CleanPage (w.bytes t)) a s (λ j k f. absurd (cc)) (λ n f. f) i
page_was segments w (LandBytes t f) q a s block m i =
    at_put2 (λ x. x ≡ DirtyPage block m → w.page a s ≡ DirtyPage block m) w.page f.by t (page_landed (w.acked f.by) f.block (w.page f.by t)) a s
    (λ j k g. (λ n. w.page (j n) (k n)) ∙ landed_page block m (w.acked f.by) f.block (w.page f.by t) g) (λ n g. g) i
page_was segments w (Settle b t new mark) q a s block m i =
    at_put2 (λ x. x ≡ DirtyPage block m → w.page a s ≡ DirtyPage block m) w.page b t (CleanPage new) a s (λ j k f. absurd (cc)) (λ n f. f) i
page_was segments w e q a s block m i = i

-- a recovery that ends knows all that is durable, which is no less
acked_more : (segments : ℕ) (w : World) (e : Event) → IsQuiet segments w e → Good w → (a : ℕ) → w.acked a ≤ (after w e).acked a
acked_more segments w (Do c) q g a = absurd q
acked_more segments w (Ack b k) q g a = at_put (λ n. w.acked a ≤ n) w.acked b k a (λ is. subst (λ n. w.acked n ≤ k) (sym is) q) (λ n. le_refl (w.acked a))
acked_more segments w (Finish r) q g a =
    at_put (λ n. w.acked a ≤ n) w.acked r.dead (w.durable r.dead) a (λ is. subst (λ n. w.acked n ≤ w.durable r.dead) (sym is) (g.logged.acks r.dead)) (λ n. le_refl (w.acked a))
acked_more segments w e q g a = le_refl (w.acked a)

-- ---- a run

pub runs_keep_marks : QuietRunsKeepMarks
runs_keep_marks segments w u [] stays q g = record { slots = λ a s block m i. i; pages = λ a s block m i. i; acked = λ a. le_refl (w.acked a) }
runs_keep_marks segments w u (e ∷ es) (goes can run) q g =
    let k : KeepsMarks (after w e) u = runs_keep_marks segments (after w e) u es run q.1 (good_step w e can g) in
    record {
      slots = λ a s block m i. slot_was segments w e q.0 a s block m (k.slots a s block m i);
      pages = λ a s block m i. page_was segments w e q.0 a s block m (k.pages a s block m i);
      acked = λ a. le_trans (acked_more segments w e q.0 g a) (k.acked a);
    }

-- ---- marks

module _ (servers next : ℕ → Server) (w u : World) (journal further : ℕ → Journal) (keeps : KeepsMarks w u) (a s mark : ℕ) (x : WasMarked servers next w u journal further a s mark) where
  abbrev Before : ℕ → ℕ → Type 0
  Before = IsEnd (journal a).ends (servers a).ring.reached (w.acked a) a (settled w.history)

  abbrev Now : ℕ → ℕ → Type 0
  Now = IsEnd (further a).ends (next a).ring.reached (u.acked a) a (settled u.history)

  end_on : (m : ℕ) → Before mark m → Now mark m
  end_on m (inl both) = inl (le_trans both.0 x.reached, le_trans both.1 (keeps.acked a))
  end_on m (inr own) = inr (x.own m own.0, x.ends m ∙ own.1)

  slot_on : (slot : Slot) → u.slot a s ≡ slot → AtSlot Before mark (w.slot a s) → AtSlot Now mark slot
  slot_on Absent e t = tt
  slot_on (Clean block) e t = tt
  slot_on (Dirty block m) e t = end_on m (subst (λ (y : Slot). AtSlot Before mark y) (keeps.slots a s block m e) t)

  page_on : (page : Page) → u.page a s ≡ page → AtPage Before mark (w.page a s) → AtPage Now mark page
  page_on NoPage e t = tt
  page_on (CleanPage block) e t = tt
  page_on (FreedPage m) e t = tt
  page_on (DirtyPage block m) e t = end_on m (subst (λ (y : Page). AtPage Before mark y) (keeps.pages a s block m e) t)

  both_on : AtCached Before (value_at (servers a).cache s) (w.slot a s) (w.page a s) → AtSlot Now mark (u.slot a s) × AtPage Now mark (u.page a s)
  both_on t = (slot_on (u.slot a s) refl now.0, page_on (u.page a s) refl now.1)
    where
      dirty : AtCached Before (Some (record x.old { dirt = Some x.dirt })) (w.slot a s) (w.page a s)
      dirty = subst (λ d. AtCached Before (Some (record x.old { dirt = d })) (w.slot a s) (w.page a s)) x.is_dirty (subst (λ o. AtCached Before o (w.slot a s) (w.page a s)) x.was t)

      now : AtSlot Before mark (w.slot a s) × AtPage Before mark (w.page a s)
      now = subst (λ n. AtSlot Before n (w.slot a s) × AtPage Before n (w.page a s)) x.mark_is dirty

pub ends_go_on : EndsGoOn
ends_go_on servers next w u journal further keeps was ends a s server = go (value_at (next a).cache s) refl
  where
    by_dirt : (cached : CachedSector) → value_at (next a).cache s ≡ Some cached → (d : Option Dirt) → cached.dirt ≡ d → AtCached (IsEnd (further a).ends (next a).ring.reached (u.acked a) a (settled u.history)) (Some (record cached { dirt = d })) (u.slot a s) (u.page a s)
    by_dirt cached e None i = tt
    by_dirt cached e (Some dirt) i = both_on servers next w u journal further keeps a s dirt.mark (was a s cached dirt server e i) (ends a s server)

    go : (o : Option CachedSector) → value_at (next a).cache s ≡ o → AtCached (IsEnd (further a).ends (next a).ring.reached (u.acked a) a (settled u.history)) o (u.slot a s) (u.page a s)
    go None e = tt
    go (Some cached) e = by_dirt cached e cached.dirt refl
