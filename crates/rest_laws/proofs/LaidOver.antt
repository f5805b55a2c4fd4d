-- While no server is dead a sector that nobody has dirty is in place, and what is dirty is what was done.
use Rattle.std.proofs.Common.{ℕ, zero, suc, ◌≡◌, ◌≢◌, ◌≤◌, ◌<◌, ◌⊎◌, inl, inr, ⊎_elim, Bool, false, if◌then◌else◌, refl, sym, ◌∙◌, ap, subst, arith}
use Rattle.std.proofs.lemmas.Bool.{cases_lt}
use Rattle.sector_world.specs.World.{Page, Phase, Slot, World}
use Rattle.sector_world.specs.World.Page.{CleanPage, DirtyPage, FreedPage, NoPage}
use Rattle.sector_world.specs.World.Phase.{Dead, Off, Up}
use Rattle.sector_world.specs.World.Slot.{Absent, Clean, Dirty}
use Rattle.sector_world.specs.Bytes.{IsCopyPage, IsLoose, IsMarked, PageUnlessUp}
use Rattle.sector_world.specs.Claims.{Holds}
use Rattle.sector_world.specs.Guards.{NoDirtyPage, NotDirty}
use Rattle.sector_world.specs.Histories.{in_doubt, settled}
use Rattle.sector_world.specs.HistoryBytes.{is_free}
use Rattle.sector_world.specs.Kinds.{Good}
use Rattle.sector_world.specs.Logged.{AbsentUnlessUp, Covers, IsCopy, Pending, now_of}
use Rattle.sector_world.proofs.HistoryLaws.{all_in_place}
use Rattle.sector_world.proofs.Holding.{holds_good}
use Rattle.rest_laws.specs.LaidOver.{CachesAreLaidOver, CachesLaidOverStand, NoneIsDead, laid_over, page_over, pages_over, slot_over, slots_over}
use Rattle.rest_laws.proofs.Done.{what_was_done_stands}

-- ---- one server

none_covers : (p : Phase) (x : Slot) (op : ℕ) → p ≢ Dead → NotDirty x → Covers p x op → ⊥
none_covers Off x op alive clean covers = covers
none_covers Dead x op alive clean covers = alive refl
none_covers Up Absent op alive clean covers = covers
none_covers Up (Clean block) op alive clean covers = covers
none_covers Up (Dirty block mark) op alive clean covers = clean

none_loose : (p : Phase) (x : Page) (last : ℕ) (doubt free : Bool) → p ≢ Dead → NoDirtyPage x → IsMarked x last doubt free → free ≡ false → IsLoose p x → ⊥
none_loose Off x last doubt free alive clean marked filled loose = loose
none_loose Dead x last doubt free alive clean marked filled loose = alive refl
none_loose Up NoPage last doubt free alive clean marked filled loose = loose
none_loose Up (CleanPage block) last doubt free alive clean marked filled loose = loose
none_loose Up (DirtyPage block mark) last doubt free alive clean marked filled loose = clean
none_loose Up (FreedPage mark) last doubt free alive clean marked filled loose = let z = marked.1 in absurd (cc)

-- who isn't up has nothing dirty
pub clean_unless_up : (p : Phase) (x : Slot) → p ≢ Up → AbsentUnlessUp p x → NotDirty x
clean_unless_up Off x down absent = subst NotDirty (sym absent) tt
clean_unless_up Dead x down absent = subst NotDirty (sym absent) tt
clean_unless_up Up x down absent = absurd (down refl)

pub no_page_unless_up : (p : Phase) (x : Page) → p ≢ Up → PageUnlessUp p x → NoDirtyPage x
no_page_unless_up Off x down absent = subst NoDirtyPage (sym absent) tt
no_page_unless_up Dead x down absent = subst NoDirtyPage (sym absent) tt
no_page_unless_up Up x down absent = absurd (down refl)

up_not_off : (p : Phase) → p ≡ Up → p ≢ Off
up_not_off p up off = let z : Up ≡ Off = sym up ∙ off in cc

-- ---- the caches of the first servers

module _ (w : World) (good : Good w) (alive : NoneIsDead w) (s : ℕ) where
  held : Holds w
  held = holds_good w good

  -- the servers past the last have nothing
  beyond : (a : ℕ) → w.servers ≤ a → w.phase a ≢ Up
  beyond a past up = let l : a < w.servers = good.logged.known a (up_not_off (w.phase a) up) in omega arith

  -- one has it dirty, and it is the logical one; or none has, and it is the disk's
  slots_so_far : (n : ℕ) → (slots_over w n s ≡ now_of w s) ⊎ (((a : ℕ) → a < n → NotDirty (w.slot a s)) × (slots_over w n s ≡ w.disk s))
  slots_so_far zero = inr ((λ a l. absurd (omega arith)), refl)
  slots_so_far (suc n) = go (w.slot n s) refl (held.coherent n s) (slots_so_far n)
    where
      go : (x : Slot) → w.slot n s ≡ x → IsCopy x (now_of w s) → (slots_over w n s ≡ now_of w s) ⊎ (((a : ℕ) → a < n → NotDirty (w.slot a s)) × (slots_over w n s ≡ w.disk s)) →
          (slot_over x (slots_over w n s) ≡ now_of w s) ⊎ (((a : ℕ) → a < suc n → NotDirty (w.slot a s)) × (slot_over x (slots_over w n s) ≡ w.disk s))
      go (Dirty block mark) is copy before = inl copy
      go Absent is copy (inl done) = inl done
      go Absent is copy (inr none) = inr ((λ a l. ⊎_elim (λ m. none.0 a m) (λ m. let same : n ≡ a = omega arith in subst (λ k. NotDirty (w.slot k s)) same (subst NotDirty (sym is) tt)) (cases_lt a n)), none.1)
      go (Clean block) is copy (inl done) = inl done
      go (Clean block) is copy (inr none) = inr ((λ a l. ⊎_elim (λ m. none.0 a m) (λ m. let same : n ≡ a = omega arith in subst (λ k. NotDirty (w.slot k s)) same (subst NotDirty (sym is) tt)) (cases_lt a n)), none.1)

  slots_are : slots_over w w.servers s ≡ now_of w s
  slots_are = ⊎_elim (λ done. done) (λ none. none.1 ∙ in_place none.0) (slots_so_far w.servers)
    where
      clean : ((a : ℕ) → a < w.servers → NotDirty (w.slot a s)) → (a : ℕ) → NotDirty (w.slot a s)
      clean none a = ⊎_elim (λ l. none a l) (λ past. clean_unless_up (w.phase a) (w.slot a s) (beyond a past) (good.logged.not_up a s)) (cases_lt a w.servers)

      in_place : ((a : ℕ) → a < w.servers → NotDirty (w.slot a s)) → w.disk s ≡ now_of w s
      in_place none =
          all_in_place w.opening w.durable s (Pending w s) (w.disk s) (λ c i p. none_covers (w.phase c.by) (w.slot c.by s) c.op (alive c.by) (clean none c.by) p.covered) (settled w.history)
          (good.logged.place s)

  -- of a sector that isn't free the same of bytes
  pages_so_far : (n : ℕ) → (pages_over w n s ≡ w.truth s) ⊎ (((a : ℕ) → a < n → NoDirtyPage (w.page a s)) × (pages_over w n s ≡ w.bytes s))
  pages_so_far zero = inr ((λ a l. absurd (omega arith)), refl)
  pages_so_far (suc n) = go (w.page n s) refl (held.coherent_bytes n s) (pages_so_far n)
    where
      more : NoDirtyPage (w.page n s) → ((a : ℕ) → a < n → NoDirtyPage (w.page a s)) → (a : ℕ) → a < suc n → NoDirtyPage (w.page a s)
      more own none a l = ⊎_elim (λ m. none a m) (λ m. let same : n ≡ a = omega arith in subst (λ k. NoDirtyPage (w.page k s)) same own) (cases_lt a n)

      go : (x : Page) → w.page n s ≡ x → IsCopyPage x (w.truth s) → (pages_over w n s ≡ w.truth s) ⊎ (((a : ℕ) → a < n → NoDirtyPage (w.page a s)) × (pages_over w n s ≡ w.bytes s)) →
          (page_over x (pages_over w n s) ≡ w.truth s) ⊎ (((a : ℕ) → a < suc n → NoDirtyPage (w.page a s)) × (page_over x (pages_over w n s) ≡ w.bytes s))
      go (DirtyPage block mark) is copy before = inl copy
      go NoPage is copy (inl done) = inl done
      go NoPage is copy (inr none) = inr (more (subst NoDirtyPage (sym is) tt) none.0, none.1)
      go (CleanPage block) is copy (inl done) = inl done
      go (CleanPage block) is copy (inr none) = inr (more (subst NoDirtyPage (sym is) tt) none.0, none.1)
      go (FreedPage mark) is copy (inl done) = inl done
      go (FreedPage mark) is copy (inr none) = inr (more (subst NoDirtyPage (sym is) tt) none.0, none.1)

  pages_are : is_free w.first (settled w.history) s ≡ false → pages_over w w.servers s ≡ w.truth s
  pages_are filled = ⊎_elim (λ done. done) (λ none. none.1 ∙ in_place none.0) (pages_so_far w.servers)
    where
      clean : ((a : ℕ) → a < w.servers → NoDirtyPage (w.page a s)) → (a : ℕ) → NoDirtyPage (w.page a s)
      clean none a = ⊎_elim (λ l. none a l) (λ past. no_page_unless_up (w.phase a) (w.page a s) (beyond a past) (good.bytes.not_up a s)) (cases_lt a w.servers)

      in_place : ((a : ℕ) → a < w.servers → NoDirtyPage (w.page a s)) → w.bytes s ≡ w.truth s
      in_place none =
          good.bytes.still s filled
          (λ b sole loose. none_loose (w.phase b) (w.page b s) (w.last b) (in_doubt b (w.synced b) (settled w.history) s) (is_free w.first (settled w.history) s) (alive b) (clean none b)
          (good.bytes.dirtied b s) filled loose)

pub caches_are_laid_over : CachesAreLaidOver
caches_are_laid_over w good alive = record {
  versioned = λ s logged. ap (λ (t : Bool). if t then slots_over w w.servers s else pages_over w w.servers s) logged ∙ slots_are w good alive s;
  known = λ s plain known filled is.
      (holds_good w good).known s known filled is
      ∙ sym (ap (λ (t : Bool). if t then slots_over w w.servers s else pages_over w w.servers s) plain ∙ pages_are w good alive s filled);
}

pub caches_laid_over_stand : CachesLaidOverStand
caches_laid_over_stand segments when first_tree numbers w h are alive =
    what_was_done_stands segments when first_tree numbers w h (laid_over w) are (caches_are_laid_over w are.good alive)
