-- What is unseen, unmet and unsynced stays so, and covers stay where all that moved them stays.
use Rattle.std.proofs.Common.{⊎_elim, IsTrue, ℕ, ◌<◌, ◌≤◌, ◌≡◌, inl, Bool, true, false, List, [], ◌∷◌, Option, Some, None, IsSome, refl, sym, ◌∙◌, ap, arith}
use Rattle.std.proofs.lemmas.Bool.{cases_eq, leb-true}
use Rattle.frang_base.specs.declared.lock.LockId.{LockId}
use Rattle.frang_base.specs.Functions.{keep_if}
use Rattle.frang_base.specs.Locks.{has_lock}
use Rattle.sector_world.specs.Histories.{Commit, Item, Entry, kept, survives, Each, Changes, Moves, OpsRise}
use Rattle.sector_world.specs.Histories.Item.{Done, Doubt}
use Rattle.sector_world.specs.Histories.Entry.{Did, Recovered, Synced, Mounted}
use Rattle.sector_world.specs.Seen.{moved, cover_of, Alters, IsLost, Unseen, Unmet, Unsynced}
use Rattle.sector_world.specs.Plans.{IsClear}
use Rattle.frang_base.proofs.Basics.{by_keep, le_or_lt}
use Rattle.sector_world.proofs.HistoryLaws.{each_map, each_kept}
use Rattle.sector_world.proofs.Removals.{survives_own, survives_low}

pub unseen_kept : (d k : ℕ) (keep : Commit → Bool) (h : List Item) → Unseen d k h → Unseen d k (kept keep h)
unseen_kept d k keep [] u = tt
unseen_kept d k keep (Done c ∷ h) u =
    by_keep (Unseen d k) (keep c) (Done c) (kept keep h)
    (λ e. (λ n s i. each_kept (λ e. IsLost d k e → Alters s e → ⊥) keep h (u.0 n s i), unseen_kept d k keep h u.1))
    (λ e. unseen_kept d k keep h u.1)
unseen_kept d k keep (Doubt m ∷ h) u = unseen_kept d k keep h u

pub unseen_more : (d k j : ℕ) → k ≤ j → (h : List Item) → Unseen d k h → Unseen d j h
unseen_more d k j le [] u = tt
unseen_more d k j le (Done c ∷ h) u = (
  λ n s i. each_map (λ e. IsLost d k e → Alters s e → ⊥) (λ e. IsLost d j e → Alters s e → ⊥)
      (λ e f l. let m : j < e.op = l.above in f (record { of = l.of; above = omega arith })) h (u.0 n s i),
  unseen_more d k j le h u.1,
)
unseen_more d k j le (Doubt m ∷ h) u = unseen_more d k j le h u

pub unmet_kept : (d k : ℕ) (keep : Commit → Bool) (h : List Item) → Unmet d k h → Unmet d k (kept keep h)
unmet_kept d k keep [] u = tt
unmet_kept d k keep (Done c ∷ h) u =
    by_keep (Unmet d k) (keep c) (Done c) (kept keep h)
    (λ e. (λ n l i. each_kept (λ e. IsLost d k e → IsTrue (has_lock l e.alone) → ⊥) keep h (u.0 n l i), unmet_kept d k keep h u.1))
    (λ e. unmet_kept d k keep h u.1)
unmet_kept d k keep (Doubt m ∷ h) u = unmet_kept d k keep h u

pub unmet_more : (d k j : ℕ) → k ≤ j → (h : List Item) → Unmet d k h → Unmet d j h
unmet_more d k j le [] u = tt
unmet_more d k j le (Done c ∷ h) u = (
  λ n l i. each_map (λ e. IsLost d k e → IsTrue (has_lock l e.alone) → ⊥) (λ e. IsLost d j e → IsTrue (has_lock l e.alone) → ⊥)
      (λ e f x. let m : j < e.op = x.above in f (record { of = x.of; above = omega arith })) h (u.0 n l i),
  unmet_more d k j le h u.1,
)
unmet_more d k j le (Doubt m ∷ h) u = unmet_more d k j le h u

pub unsynced_more : (d k j : ℕ) → k ≤ j → (h : List Entry) → Unsynced d k h → Unsynced d j h
unsynced_more d k j le [] u = tt
unsynced_more d k j le (Did c ∷ h) u = unsynced_more d k j le h u
unsynced_more d k j le (Recovered e i ∷ h) u = unsynced_more d k j le h u
unsynced_more d k j le (Synced e op ∷ h) u = (λ q. let m : op ≤ k = u.0 q in omega arith, unsynced_more d k j le h u.1)
unsynced_more d k j le (Mounted e op ∷ h) u = (λ q. let m : op ≤ k = u.0 q in omega arith, unsynced_more d k j le h u.1)

cover_step : (o : Option LockId) (b : Bool) (l : LockId) → (IsSome o → b ≡ true) → elim b [ true ↦ moved o l | false ↦ l ] ≡ moved o l
cover_step None true l f = refl
cover_step None false l f = refl
cover_step (Some x) true l f = refl
cover_step (Some x) false l f = let q = f refl in cc

cover_keep : (home : ℕ → LockId) (b : Bool) (c : Commit) (h : List Item) (s : ℕ) → cover_of home (keep_if b (Done c) h) s ≡ elim b [ true ↦ moved (c.moves s) (cover_of home h s) | false ↦ cover_of home h s ]
cover_keep home true c h s = refl
cover_keep home false c h s = refl

-- the covers stay, where all that moved the sector stays
pub cover_kept : (home : ℕ → LockId) (s : ℕ) (keep : Commit → Bool) (h : List Item) → Each (λ c. Moves s c → keep c ≡ true) h → cover_of home (kept keep h) s ≡ cover_of home h s
cover_kept home s keep [] e = refl
cover_kept home s keep (Done c ∷ h) e =
    cover_keep home (keep c) c (kept keep h) s
    ∙ ap (λ x. elim (keep c) as (λ y. LockId) [ true ↦ moved (c.moves s) x | false ↦ x ]) (cover_kept home s keep h e.1)
    ∙ cover_step (c.moves s) (keep c) (cover_of home h s) e.0
cover_kept home s keep (Doubt m ∷ h) e = cover_kept home s keep h e

-- what nobody saw is clear of what stays
pub clear_survives : (d k : ℕ) (h : List Item) → OpsRise h → Unseen d k h → IsClear (survives d k) h
clear_survives d k [] o u = tt
clear_survives d k (Done c ∷ h) o u = (
  (λ e s t. ⊎_elim
      (λ i. each_map (λ x. x.by ≡ c.by → x.op < c.op) (λ x. Changes s x → survives d k x ≡ true)
      (λ x lt w. survives_low d k x (λ j. let m : x.op < c.op = lt (j ∙ sym i) in let n : c.op ≤ k = leb-true c.op k (sym (survives_own d k c i) ∙ e) in omega arith)) h o.0)
      (λ i. each_map (λ x. IsLost d k x → Alters s x → ⊥) (λ x. Changes s x → survives d k x ≡ true)
      (λ x f w. survives_low d k x (λ j. ⊎_elim (λ l. l) (λ l. absurd (f (record { of = j; above = l }) (inl w))) (le_or_lt x.op k))) h (u.0 i s (inl t)))
      (cases_eq c.by d)),
  clear_survives d k h o.1 u.1,
)
clear_survives d k (Doubt m ∷ h) o u = clear_survives d k h o u

pub each_all : (Q : ℕ → Commit → Type 0) (h : List Item) → ((d : ℕ) → Each (Q d) h) → Each (λ e. (d : ℕ) → Q d e) h
each_all Q [] f = tt
each_all Q (Done c ∷ h) f = ((λ d. (f d).0), each_all Q h (λ d. (f d).1))
each_all Q (Doubt m ∷ h) f = each_all Q h f

pub each_kept_with : (P : Commit → Type 0) (keep : Commit → Bool) (h : List Item) → Each P h → Each (λ c. (keep c ≡ true) × P c) (kept keep h)
each_kept_with P keep [] e = tt
each_kept_with P keep (Done c ∷ h) e = by_keep (Each (λ c. (keep c ≡ true) × P c)) (keep c) (Done c) (kept keep h) (λ t. ((t, e.0), each_kept_with P keep h e.1)) (λ t. each_kept_with P keep h e.1)
each_kept_with P keep (Doubt m ∷ h) e = each_kept_with P keep h e
