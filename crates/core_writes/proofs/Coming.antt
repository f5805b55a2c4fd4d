-- What is cached of a sector as a write of it arrives in time, on both sides.
use Rattle.std.proofs.Common.{◌≡◌, ℕ, ◌≤◌, ◌↔◌, ◌&&◌, Bool, true, false, if◌then◌else◌, Option, Some, None, nat_le, refl, sym, ap, ◌∙◌, subst, inl, inr}
use Rattle.std.proofs.lemmas.Bool.{false≢true, leb-true, le-leb}
use Rattle.std.specs.Option.{option_and_then, option_map, unwrap_or}
use Rattle.std.specs.Str.{bytes_eq}
use Rattle.frang_base.specs.declared.lock.LockId.{LockId}
use Rattle.sector_bytes.specs.Blocks.{Block}
use Rattle.cache_definitions.specs.declared.dirt.Dirt.{Dirt}
use Rattle.cache_definitions.specs.Caches.{CachedSector, without_dirt}
use Rattle.ring_definitions.specs.Rings.{Ring}
use Rattle.core_definitions.specs.Writes.{is_mark_reached}
use Rattle.sector_world.specs.Steps.{landed, page_landed}
use Rattle.sector_world.specs.World.{Slot, Clean, Dirty, Page, CleanPage, DirtyPage}
use Rattle.core_world.specs.Ties.{IsCachedAs, IsMark, IsMarkedAs, IsNoPage}

-- it comes clean: it is this block, and its mark is reached
abbrev pub cleans : Ring → Block → Option CachedSector → Bool
cleans ring block o = unwrap_or (option_map (λ cached. bytes_eq cached.block block) o) false && is_mark_reached ring (option_and_then (λ cached. option_map (λ dirt. dirt.mark) cached.dirt) o)

abbrev pub left_clean : Bool → Option CachedSector → Option CachedSector
left_clean b o = if b then option_map without_dirt o else o

-- both ties of it
abbrev pub IsKeptAs : Bool → LockId → (reached acked : ℕ) → Option CachedSector → Slot → Page → Type 0
IsKeptAs v k reached acked o slot page = IsCachedAs v k o slot page × IsMarkedAs reached acked o slot page

-- of a sector with a version: where the block came, the mark is reached
abbrev pub IsReachedIf : (reached : ℕ) → Block → Option CachedSector → Type 0
IsReachedIf reached block o = (cached : CachedSector) (dirt : Dirt) → o ≡ Some cached → cached.dirt ≡ Some dirt → bytes_eq cached.block block ≡ true → dirt.mark ≤ reached

pub slot_comes : (k : LockId) (ring : Ring) (acked : ℕ) (block : Block) (o : Option CachedSector) (slot : Slot) (page : Page) → IsReachedIf ring.reached block o →
    IsKeptAs true k ring.reached acked o slot page → IsKeptAs true k ring.reached acked (left_clean (cleans ring block o) o) (landed block slot) page
slot_comes k ring acked block None slot page h t = (ap (landed block) t.0, tt)
slot_comes k ring acked block (Some cached) slot page h t = go cached.dirt refl (bytes_eq cached.block block) refl
  where
    Goal : Option Dirt → Bool → Type 0
    Goal d same = IsKeptAs true k ring.reached acked
        (if same && is_mark_reached ring (option_map (λ (dirt : Dirt). dirt.mark) d) then Some (record cached { dirt = None }) else Some (record cached { dirt = d })) (landed block slot) page

    -- what was so of its dirt
    old : (d : Option Dirt) → cached.dirt ≡ d → IsKeptAs true k ring.reached acked (Some (record cached { dirt = d })) slot page
    old d e = subst (λ x. IsKeptAs true k ring.reached acked (Some (record cached { dirt = x })) slot page) e t

    clean_slot : slot ≡ Clean cached.block → landed block slot ≡ Clean cached.block
    clean_slot e = ap (landed block) e

    dirty_slot : (m : ℕ) (same : Bool) → bytes_eq cached.block block ≡ same → slot ≡ Dirty cached.block m → landed block slot ≡ (if same then Clean cached.block else Dirty cached.block m)
    dirty_slot m same e i = ap (landed block) i ∙ ap (λ b. if b then Clean cached.block else Dirty cached.block m) e

    by_mark : (dirt : Dirt) (same reached : Bool) → cached.dirt ≡ Some dirt → bytes_eq cached.block block ≡ same → nat_le dirt.mark ring.reached ≡ reached →
        IsKeptAs true k ring.reached acked (if same && reached then Some (record cached { dirt = None }) else Some (record cached { dirt = Some dirt })) (landed block slot) page
    by_mark dirt true true d e i = let x = old (Some dirt) d in ((x.0.0, dirty_slot x.0.1.0 true e x.0.1.1), tt)
    by_mark dirt true false d e i = absurd (false≢true (sym i ∙ le-leb dirt.mark ring.reached (h cached dirt refl d e)))
    by_mark dirt false reached d e i = let x = old (Some dirt) d in
        subst (λ y. IsKeptAs true k ring.reached acked (Some (record cached { dirt = Some dirt })) y page) (x.0.1.1 ∙ sym (dirty_slot x.0.1.0 false e x.0.1.1)) x

    go : (d : Option Dirt) → cached.dirt ≡ d → (same : Bool) → bytes_eq cached.block block ≡ same → IsKeptAs true k ring.reached acked (left_clean (cleans ring block (Some cached)) (Some cached)) (landed block slot) page
    go d e same f = subst (λ b. IsKeptAs true k ring.reached acked (left_clean (b && is_mark_reached ring (option_map (λ (dirt : Dirt). dirt.mark) cached.dirt)) (Some cached)) (landed block slot) page) (sym f)
        (subst (λ x. Goal x same) (sym e) (by d e same f))
      where
        by : (x : Option Dirt) → cached.dirt ≡ x → (b : Bool) → bytes_eq cached.block block ≡ b → Goal x b
        by None i true j = let x = old None i in ((x.0.0, clean_slot x.0.1), tt)
        by None i false j = let x = old None i in ((x.0.0, clean_slot x.0.1), tt)
        by (Some dirt) i b j = by_mark dirt b (nat_le dirt.mark ring.reached) i j refl

-- of one of bytes
none_comes : (acked : ℕ) (block : Block) (page : Page) → IsNoPage page → IsNoPage (page_landed acked block page)
none_comes acked block page (inl e) = inl (ap (page_landed acked block) e)
none_comes acked block page (inr e) = inr (e.0, ap (page_landed acked block) e.1)

same_test : (n m x y : ℕ) → ((n ≤ m) ↔ (x ≤ y)) → nat_le x y ≡ nat_le n m
same_test n m x y both = go (nat_le n m) refl (nat_le x y) refl
  where
    go : (b : Bool) → nat_le n m ≡ b → (c : Bool) → nat_le x y ≡ c → c ≡ b
    go true e true f = refl
    go false e false f = refl
    go true e false f = absurd (false≢true (sym f ∙ le-leb x y (both.0 (leb-true n m e))))
    go false e true f = absurd (false≢true (sym e ∙ le-leb n m (both.1 (leb-true x y f))))

pub page_comes : (k : LockId) (ring : Ring) (acked : ℕ) (block : Block) (o : Option CachedSector) (slot : Slot) (page : Page) → IsKeptAs false k ring.reached acked o slot page →
    IsKeptAs false k ring.reached acked (left_clean (cleans ring block o) o) slot (page_landed acked block page)
page_comes k ring acked block None slot page t = ((t.0.0, none_comes acked block page t.0.1), tt)
page_comes k ring acked block (Some cached) slot page t = go cached.dirt refl (bytes_eq cached.block block) refl
  where
    Goal : Option Dirt → Bool → Type 0
    Goal d same = IsKeptAs false k ring.reached acked
        (if same && is_mark_reached ring (option_map (λ (dirt : Dirt). dirt.mark) d) then Some (record cached { dirt = None }) else Some (record cached { dirt = d })) slot (page_landed acked block page)

    old : (d : Option Dirt) → cached.dirt ≡ d → IsKeptAs false k ring.reached acked (Some (record cached { dirt = d })) slot page
    old d e = subst (λ x. IsKeptAs false k ring.reached acked (Some (record cached { dirt = x })) slot page) e t

    by_mark : (dirt : Dirt) (same reached : Bool) → cached.dirt ≡ Some dirt → bytes_eq cached.block block ≡ same → nat_le dirt.mark ring.reached ≡ reached →
        IsKeptAs false k ring.reached acked (if same && reached then Some (record cached { dirt = None }) else Some (record cached { dirt = Some dirt })) slot (page_landed acked block page)
    by_mark dirt same reached d e i = pick same reached (left same reached refl)
      where
        x : IsKeptAs false k ring.reached acked (Some (record cached { dirt = Some dirt })) slot page
        x = old (Some dirt) d

        is : page ≡ DirtyPage cached.block x.0.2.0
        is = x.0.2.1

        mark : IsMark ring.reached acked dirt.mark x.0.2.0
        mark = (subst (λ p. IsMarkedAs ring.reached acked (Some (record cached { dirt = Some dirt })) slot p) is x.1).1

        left : (b c : Bool) → (b && c) ≡ (b && c) → page_landed acked block page ≡ (if same && reached then CleanPage cached.block else DirtyPage cached.block x.0.2.0)
        left b c f =
            ap (page_landed acked block) is
            ∙ ap (λ y. if y && nat_le x.0.2.0 acked then CleanPage cached.block else DirtyPage cached.block x.0.2.0) e
            ∙ ap (λ y. if same && y then CleanPage cached.block else DirtyPage cached.block x.0.2.0) (same_test dirt.mark ring.reached x.0.2.0 acked mark ∙ i)

        pick : (b c : Bool) → page_landed acked block page ≡ (if b && c then CleanPage cached.block else DirtyPage cached.block x.0.2.0) →
            IsKeptAs false k ring.reached acked (if b && c then Some (record cached { dirt = None }) else Some (record cached { dirt = Some dirt })) slot (page_landed acked block page)
        pick true true f = ((x.0.0, x.0.1, f), tt)
        pick true false f = subst (λ y. IsKeptAs false k ring.reached acked (Some (record cached { dirt = Some dirt })) slot y) (is ∙ sym f) x
        pick false c f = subst (λ y. IsKeptAs false k ring.reached acked (Some (record cached { dirt = Some dirt })) slot y) (is ∙ sym f) x

    go : (d : Option Dirt) → cached.dirt ≡ d → (same : Bool) → bytes_eq cached.block block ≡ same → IsKeptAs false k ring.reached acked (left_clean (cleans ring block (Some cached)) (Some cached)) slot (page_landed acked block page)
    go d e same f = subst (λ b. IsKeptAs false k ring.reached acked (left_clean (b && is_mark_reached ring (option_map (λ (dirt : Dirt). dirt.mark) cached.dirt)) (Some cached)) slot (page_landed acked block page)) (sym f)
        (subst (λ x. Goal x same) (sym e) (by d e same f))
      where
        clean_page : page ≡ CleanPage cached.block → page_landed acked block page ≡ CleanPage cached.block
        clean_page i = ap (page_landed acked block) i

        by : (x : Option Dirt) → cached.dirt ≡ x → (b : Bool) → bytes_eq cached.block block ≡ b → Goal x b
        by None i true j = let x = old None i in ((x.0.0, x.0.1, clean_page x.0.2), tt)
        by None i false j = let x = old None i in ((x.0.0, x.0.1, clean_page x.0.2), tt)
        by (Some dirt) i b j = by_mark dirt b (nat_le dirt.mark ring.reached) i j refl
