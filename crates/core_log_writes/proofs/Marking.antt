-- Marks lie where operations end: as the log is acknowledged further, they are marks as before, and lie there still.
use Rattle.std.proofs.Common.{◌↔◌, ℕ, ◌≤◌, List, Option, Some, None, sym, subst, inl, inr, le_refl, le_trans}
use Rattle.cache_definitions.specs.declared.dirt.Dirt.{Dirt}
use Rattle.cache_definitions.specs.Caches.{CachedSector}
use Rattle.sector_world.specs.Histories.{Item}
use Rattle.sector_world.specs.World.{Slot, Absent, Clean, Dirty, Page, NoPage, CleanPage, DirtyPage, FreedPage}
use Rattle.core_world.specs.Beside.{AtCached, AtDirt, AtPage, AtSlot, IsEnd}
use Rattle.core_world.specs.Journals.{IsUpTo}
use Rattle.core_world.specs.Ties.{IsDirtAs, IsMark, IsMarkedAs, IsPageMark, IsSlotMark}
use Rattle.core_log_writes.specs.Marks.{EndsAreMarks, EndsBegin}
use Rattle.core_log_writes.proofs.Furthest.{own_up_to}

module _ (Ties Others : ℕ → ℕ → Type 0) (on : (mark m : ℕ) → Ties mark m → Others mark m) where
  slot_on : (mark : ℕ) (slot : Slot) → AtSlot Ties mark slot → AtSlot Others mark slot
  slot_on mark Absent t = tt
  slot_on mark (Clean block) t = tt
  slot_on mark (Dirty block m) t = on mark m t

  page_on : (mark : ℕ) (page : Page) → AtPage Ties mark page → AtPage Others mark page
  page_on mark NoPage t = tt
  page_on mark (CleanPage block) t = tt
  page_on mark (DirtyPage block m) t = on mark m t
  page_on mark (FreedPage m) t = tt

  dirt_on : (dirt : Option Dirt) (slot : Slot) (page : Page) → AtDirt Ties dirt slot page → AtDirt Others dirt slot page
  dirt_on None slot page t = tt
  dirt_on (Some dirt) slot page t = (slot_on dirt.mark slot t.0, page_on dirt.mark page t.1)

  pub cached_on : (o : Option CachedSector) (slot : Slot) (page : Page) → AtCached Ties o slot page → AtCached Others o slot page
  cached_on None slot page t = tt
  cached_on (Some kept) slot page t = dirt_on kept.dirt slot page t

-- in the words of the ties
module _ (reached acked : ℕ) where
  slot_mark : (mark : ℕ) (slot : Slot) → AtSlot (IsMark reached acked) mark slot → IsSlotMark reached acked mark slot
  slot_mark mark Absent t = tt
  slot_mark mark (Clean block) t = tt
  slot_mark mark (Dirty block m) t = t

  page_mark : (mark : ℕ) (page : Page) → AtPage (IsMark reached acked) mark page → IsPageMark reached acked mark page
  page_mark mark NoPage t = tt
  page_mark mark (CleanPage block) t = tt
  page_mark mark (DirtyPage block m) t = t
  page_mark mark (FreedPage m) t = tt

  dirt_mark : (dirt : Option Dirt) (slot : Slot) (page : Page) → AtDirt (IsMark reached acked) dirt slot page → IsDirtAs reached acked dirt slot page
  dirt_mark None slot page t = tt
  dirt_mark (Some dirt) slot page t = (slot_mark dirt.mark slot t.0, page_mark dirt.mark page t.1)

  pub cached_mark : (o : Option CachedSector) (slot : Slot) (page : Page) → AtCached (IsMark reached acked) o slot page → IsMarkedAs reached acked o slot page
  cached_mark None slot page t = tt
  cached_mark (Some kept) slot page t = dirt_mark kept.dirt slot page t

module _ (ends : ℕ → ℕ) (reached acked further known a : ℕ) (h : List Item) (more : reached ≤ further) (more_known : acked ≤ known) where
  pub end_stays : (mark m : ℕ) → IsEnd ends reached acked a h mark m → IsEnd ends further known a h mark m
  end_stays mark m (inl both) = inl (le_trans both.0 more, le_trans both.1 more_known)
  end_stays mark m (inr own) = inr own

  pub end_marks : IsUpTo ends further a known h → (mark m : ℕ) → IsEnd ends reached acked a h mark m → IsMark further known mark m
  end_marks up mark m (inl both) = ((λ i. le_trans both.1 more_known), (λ i. le_trans both.0 more))
  end_marks up mark m (inr own) =
      let test : (m ≤ known) ↔ (ends m ≤ further) = own_up_to ends further a known m h own.0 up in
      ((λ i. test.1 (subst (λ n. n ≤ further) (sym own.1) i)), (λ i. subst (λ n. n ≤ further) own.1 (test.0 i)))

pub ends_are_marks : EndsAreMarks
ends_are_marks ends reached acked a h up mark m end = end_marks ends reached acked reached acked a h (le_refl reached) (le_refl acked) up mark m end

pub ends_begin : EndsBegin
ends_begin setting disk logged of_files home journal a s server = tt
