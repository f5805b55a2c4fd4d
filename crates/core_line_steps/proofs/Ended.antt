-- The zeros of a cleared block are marked with the last number of the log, at which the last operation ends.
use Rattle.std.proofs.Common.{◌≡◌, ◌⊎◌, ◌≤◌, ◌/◌, ◌==◌, ℕ, Bool, true, false, if◌then◌else◌, IsTrue, List, [], ◌∷◌, Option, Some, None, nat_eq, refl, sym, ap, ◌∙◌, subst, inl, inr, ⊎_elim, arith}
use Rattle.std.proofs.lemmas.Bool.{cases_eq, eq-eqb, eqb-true, false≢true}
use Rattle.std.proofs.lemmas.Bool.Decides.{nat_tests}
use Rattle.frang_base.specs.Functions.{member, put, put2}
use Rattle.frang_base.proofs.Basics.{at_put2, put_other, put_same}
use Rattle.frang_base.specs.declared.lock.LockId.{LockId}
use Rattle.frang_base.specs.declared.lock.LockId.TheVariants.{Segment}
use Rattle.sector_bytes.specs.Blocks.{zero_block}
use Rattle.sector_bytes.specs.SectorMaps.{value_at}
use Rattle.cache_definitions.specs.Caches.{CachedSector, dirty}
use Rattle.tree_definitions.specs.Tree.{FileTree}
use Rattle.ring_definitions.specs.Rings.{last}
use Rattle.core_definitions.specs.Cores.{stage}
use Rattle.core_definitions.specs.LineEffects.{cleared_at}
use Rattle.core_definitions.specs.LineGuards.{is_server}
use Rattle.core_definitions.specs.Lines.{Clearing}
use Rattle.core_definitions.specs.Runs.{State as RunMoment}
use Rattle.core_definitions.specs.Servers as life
use Rattle.core_definitions.specs.Servers.{Server, is_in_mount, is_up}
use Rattle.core_definitions.specs.Trees.{block_sectors}
use Rattle.sector_world.specs.Histories.{settled}
use Rattle.sector_world.specs.World.{World, Page, DirtyPage, Slot, Absent, cover}
use Rattle.core_world.specs.Beside.{AreEnds, AtCached, AtSlot, IsEnd}
use Rattle.core_world.specs.Journals.{IsJournal, Journal, sector_log}
use Rattle.core_world.specs.Steps.{IsWorldOf}
use Rattle.core_world.specs.Ties.{IsCachedAs}
use Rattle.core_lives.proofs.Alike.{mounted_journal}
use Rattle.core_commits.specs.Clears.{IsFreshBlock, IsReachedWithAll, cleared_pages, cleared_world}
use Rattle.core_commits.specs.Standing.{StandsWhole}
use Rattle.core_commits.proofs.Clearing.{plain, zeroed_at}
use Rattle.core_commits.proofs.Reclaiming.{up_of}
use Rattle.core_line_steps.specs.Marks.{ClearsKeepEnds}

-- ---- the pages of a cleared block

module _ (last_op a : ℕ) where
  page_else : (sectors : List ℕ) (page : ℕ → ℕ → Page) (b s : ℕ) → (b ≡ a → member s sectors ≡ true → ⊥) → cleared_pages last_op page a sectors b s ≡ page b s
  page_else [] page b s n = refl
  page_else (t ∷ sectors) page b s n =
      page_else sectors (put2 page a t (DirtyPage zero_block last_op)) b s (λ e i. n e (later (nat_eq t s) i))
      ∙ at_put2 (λ x. x ≡ page b s) page a t (DirtyPage zero_block last_op) b s (λ e i. absurd (n e (ap (λ (x : Bool). if x then true else member s sectors) (eq-eqb t s (sym i))))) (λ m. refl)
    where
      later : (b : Bool) {m : Bool} → m ≡ true → (if b then true else m) ≡ true
      later true i = refl
      later false i = i

  page_there : (sectors : List ℕ) (page : ℕ → ℕ → Page) (s : ℕ) → (page a s ≡ DirtyPage zero_block last_op) ⊎ (member s sectors ≡ true) → cleared_pages last_op page a sectors a s ≡ DirtyPage zero_block last_op
  page_there [] page s (inl e) = e
  page_there [] page s (inr e) = absurd (false≢true e)
  page_there (t ∷ sectors) page s d = page_there sectors (put2 page a t (DirtyPage zero_block last_op)) s (go (nat_eq t s) refl d)
    where
      put_it : t ≡ s → put2 page a t (DirtyPage zero_block last_op) a s ≡ DirtyPage zero_block last_op
      put_it e = at_put2 (λ x. x ≡ DirtyPage zero_block last_op) page a t (DirtyPage zero_block last_op) a s (λ i j. refl) (λ m. absurd (m refl (sym e)))

      go : (b : Bool) → nat_eq t s ≡ b → (page a s ≡ DirtyPage zero_block last_op) ⊎ ((if b then true else member s sectors) ≡ true) →
          (put2 page a t (DirtyPage zero_block last_op) a s ≡ DirtyPage zero_block last_op) ⊎ (member s sectors ≡ true)
      go true e d = inl (put_it (eqb-true t s e))
      go false e (inl i) = inl (at_put2 (λ x. x ≡ DirtyPage zero_block last_op) page a t (DirtyPage zero_block last_op) a s (λ p q. refl) (λ m. i))
      go false e (inr i) = inr i

-- ---- the ends

pub up_mounted : (p : life.Phase) → IsTrue (is_up p) → is_in_mount p ≡ true
up_mounted life.Off up = absurd (false≢true up)
up_mounted life.Up up = refl
up_mounted life.Still up = absurd (false≢true up)
up_mounted (life.Doomed fate) up = absurd (false≢true up)
up_mounted life.Dead up = absurd (false≢true up)

all_there : (n m : ℕ) → IsTrue (n == m) → m ≤ n
all_there n m e = grind (arith, nat_tests, e)

module _ (s : RunMoment) (w : World) (journal : ℕ → Journal) (tree : FileTree) (a block : ℕ) (server : IsTrue (is_server a)) (is : IsWorldOf s w journal) (on : StandsWhole s.core.setting.segments w tree)
    (fresh : IsFreshBlock s.core.setting.segments w a block) (at : stage s.core a ≡ Some (Clearing block)) (back : IsReachedWithAll s.core.servers w a) (ends : AreEnds s.core.servers w journal) where
  abbrev x : Server
  x = s.core.servers a

  abbrev new : Server
  new = cleared_at block (s.core.servers a)

  abbrev sectors : List ℕ
  sectors = block_sectors block

  abbrev then_ : ℕ → Server
  then_ = put s.core.servers a (cleared_at block (s.core.servers a))

  abbrev zero : CachedSector
  zero = dirty zero_block (Segment (block / 1024)) (last (s.core.servers a).ring) false

  j : IsJournal life.Up x.ring s.core.now s.core.flights s.disk (sector_log w a) a (journal a)
  j = mounted_journal x.phase (up_mounted x.phase (up_of s.core.setting s.core.locks a x (Clearing block) at)) x.ring s.core.now s.core.flights s.disk (sector_log w a) a (journal a) (is.journals a server)

  -- the last operation ends at the last number, or all is acknowledged
  last_ends : IsEnd (journal a).ends x.ring.reached (w.acked a) a (settled w.history) (last x.ring) (w.last a)
  last_ends = ⊎_elim (λ l. inl (all_there x.ring.reached (last x.ring) (back l), l)) (λ own. inr (own, j.counted.ends_at)) j.counted.newest

  no_slot : (o : Option CachedSector) (lock : LockId) (slot : Slot) (page : Page) → IsCachedAs false lock o slot page → slot ≡ Absent
  no_slot None lock slot page i = i.0
  no_slot (Some kept) lock slot page i = i.1

  absent : (t : ℕ) → member t sectors ≡ true → w.slot a t ≡ Absent
  absent t e = no_slot (value_at x.cache t) (cover w t) (w.slot a t) (w.page a t)
      (subst (λ v. IsCachedAs v (cover w t) (value_at x.cache t) (w.slot a t) (w.page a t)) (plain s.core.setting.segments w tree a block on fresh t e) (is.tied.cached a t))

  abbrev Ends : ℕ → Server → ℕ → Page → Type 0
  Ends b y t page = AtCached (IsEnd (journal b).ends y.ring.reached (w.acked b) b (settled w.history)) (value_at y.cache t) (w.slot b t) page

  abbrev EndsAt : ℕ → Option CachedSector → Page → Type 0
  EndsAt t o page = AtCached (IsEnd (journal a).ends x.ring.reached (w.acked a) a (settled w.history)) o (w.slot a t) page

  cleared : (t : ℕ) → member t sectors ≡ true → EndsAt t (Some zero) (DirtyPage zero_block (w.last a))
  cleared t e = (subst (AtSlot (IsEnd (journal a).ends x.ring.reached (w.acked a) a (settled w.history)) (last x.ring)) (sym (absent t e)) tt, last_ends)

  value_is : (t : ℕ) (m : Bool) → member t sectors ≡ m → value_at new.cache t ≡ (if m then Some zero else value_at x.cache t)
  value_is t m e = zeroed_at (last x.ring) (block / 1024) sectors x.cache t ∙ ap (λ (y : Bool). if y then Some zero else value_at x.cache t) e

  own : (t : ℕ) (m : Bool) → member t sectors ≡ m → EndsAt t (value_at new.cache t) (cleared_pages (w.last a) w.page a sectors a t)
  own t true e =
      subst (λ o. EndsAt t o (cleared_pages (w.last a) w.page a sectors a t)) (sym (value_is t true e))
      (subst (EndsAt t (Some zero)) (sym (page_there (w.last a) a sectors w.page t (inr e))) (cleared t e))
  own t false e =
      subst (λ o. EndsAt t o (cleared_pages (w.last a) w.page a sectors a t)) (sym (value_is t false e))
      (subst (EndsAt t (value_at x.cache t)) (sym (page_else (w.last a) a sectors w.page a t (λ i k. false≢true (sym e ∙ k)))) (ends a t server))

  pub ends_then : AreEnds then_ (cleared_world w a sectors) journal
  ends_then b t who = ⊎_elim
      (λ e. subst (λ n. Ends n (then_ n) t (cleared_pages (w.last a) w.page a sectors n t)) (sym e)
      (subst (λ y. Ends a y t (cleared_pages (w.last a) w.page a sectors a t)) (sym (put_same s.core.servers a new)) (own t (member t sectors) refl)))
      (λ n. subst (λ y. Ends b y t (cleared_pages (w.last a) w.page a sectors b t)) (sym (put_other s.core.servers a new b n))
      (subst (Ends b (s.core.servers b) t) (sym (page_else (w.last a) a sectors w.page b t (λ e. absurd (n e)))) (ends b t who)))
      (cases_eq b a)

pub clears_keep_ends : ClearsKeepEnds
clears_keep_ends s w journal tree a block server is on fresh at back ends = ends_then s w journal tree a block server is on fresh at back ends
