-- A lock that no removed operation used alone covers after a removal what it covered before, so operations that are left see what is under their locks.
use Rattle.std.proofs.Common.{ℕ, ◌≡◌, ◌≤◌, ◌<◌, ◌⊎◌, ⊎_elim, inl, inr, Bool, true, false, nat_eq, nat_le, if◌then◌else◌, is_some, Option, Some, None, List, [], ◌∷◌, refl, sym, ◌∙◌, ap, subst, arith}
use Rattle.std.proofs.lemmas.Bool.{cases_eq, leb-false, leb-true, eqb-true}
use Rattle.frang_base.specs.Functions.{keep_if}
use Rattle.frang_base.specs.Locks.{has_lock}
use Rattle.frang_base.specs.declared.lock.LockId.{LockId}
use Rattle.frang_base.proofs.Basics.{by_keep}
use Rattle.sector_world.specs.Histories.{Commit, Item, Changes, Each, Moves, OpsRise, kept, survives}
use Rattle.sector_world.specs.Histories.Item.{Done, Doubt}
use Rattle.sector_world.specs.Seen.{Alters, IsLost, Unmet, Unseen, cover_of, moved}
use Rattle.sector_world.proofs.HistoryLaws.{each_map}
use Rattle.sector_world.proofs.Removals.{survives_own}
use Rattle.stop_laws.specs.Sight.{AllSee}

-- an operation has alone the old and the new lock of each sector that it moves; and it uses what it has alone
pub record IsGuarded (home : ℕ → LockId) (c : Commit) (older : List Item) : Type 0 where
  pub uses : (l : LockId) → has_lock l c.alone ≡ true → has_lock l c.uses ≡ true
  pub from : (s : ℕ) (new : LockId) → c.moves s ≡ Some new → has_lock (cover_of home older s) c.alone ≡ true
  pub to : (s : ℕ) (new : LockId) → c.moves s ≡ Some new → has_lock new c.alone ≡ true

abbrev pub AllGuarded : (ℕ → LockId) → List Item → Type 0
AllGuarded home [] = Unit {0}
AllGuarded home (Done c ∷ older) = IsGuarded home c older × AllGuarded home older
AllGuarded home (Doubt m ∷ older) = AllGuarded home older

-- each that changes the sector has its lock alone
abbrev pub AllOwn : (ℕ → LockId) → ℕ → List Item → Type 0
AllOwn home s [] = Unit {0}
AllOwn home s (Done c ∷ older) = (Changes s c → has_lock (cover_of home older s) c.alone ≡ true) × AllOwn home s older
AllOwn home s (Doubt m ∷ older) = AllOwn home s older

-- those of the server that stay are not above the number
pub low_left : (server durable : ℕ) (h : List Item) → Each (λ c. c.by ≡ server → c.op ≤ durable) (kept (survives server durable) h)
low_left server durable [] = tt
low_left server durable (Doubt m ∷ h) = low_left server durable h
low_left server durable (Done c ∷ h) =
    by_keep (Each (λ c. c.by ≡ server → c.op ≤ durable)) (survives server durable c) (Done c) (kept (survives server durable) h)
    (λ there. ((λ by. leb-true c.op durable (sym (survives_own server durable c by) ∙ there)), low_left server durable h)) (λ goes. low_left server durable h)

module _ (home : ℕ → LockId) (server durable : ℕ) where
  -- what is left
  abbrev pub stays : List Item → List Item
  stays h = kept (survives server durable) h

  -- no operation that is removed used the lock alone
  abbrev pub Apart : LockId → List Item → Type 0
  Apart l h = Each (λ e. IsLost server durable e → has_lock l e.alone ≡ true → ⊥) h

  -- ---- what is removed, and what isn't

  pub lost : (c : Commit) → survives server durable c ≡ false → IsLost server durable c
  lost c goes = go (nat_eq c.by server) refl goes
    where
      go : (b : Bool) → nat_eq c.by server ≡ b → (if b then nat_le c.op durable else true) ≡ false → IsLost server durable c
      go true same above = record { of = eqb-true c.by server same; above = leb-false c.op durable above }
      go false same above = absurd (cc)

  pub not_lost : (c : Commit) → survives server durable c ≡ true → IsLost server durable c → ⊥
  not_lost c there l =
      let low : c.op ≤ durable = leb-true c.op durable (sym (survives_own server durable c l.of) ∙ there) in
      let high : durable < c.op = l.above in
      omega arith

  pub survives_if : (c : Commit) → (IsLost server durable c → ⊥) → survives server durable c ≡ true
  survives_if c none = go (survives server durable c) refl
    where
      go : (b : Bool) → survives server durable c ≡ b → survives server durable c ≡ true
      go true is = is
      go false is = absurd (none (lost c is))

  -- before an operation of the server that stays none was removed
  pub none_before : (P : Commit → Type 0) (c : Commit) (h : List Item) → OpsRise (Done c ∷ h) → survives server durable c ≡ true → c.by ≡ server →
      Each (λ e. IsLost server durable e → P e → ⊥) h
  none_before P c h rises there own =
      each_map (λ e. e.by ≡ c.by → e.op < c.op) (λ e. IsLost server durable e → P e → ⊥)
      (λ e less l p.
      let m : e.op < c.op = less (l.of ∙ sym own) in
      let low : c.op ≤ durable = leb-true c.op durable (sym (survives_own server durable c own) ∙ there) in
      let high : durable < e.op = l.above in
      omega arith)
      h rises.0

  -- an operation that stays used no lock that one that was removed before it used alone
  pub apart_before : (c : Commit) (h : List Item) → OpsRise (Done c ∷ h) → Unmet server durable (Done c ∷ h) → survives server durable c ≡ true → (l : LockId) → has_lock l c.uses ≡ true → Apart l h
  apart_before c h rises unmet there l used =
      ⊎_elim (λ own. none_before (λ e. has_lock l e.alone ≡ true) c h rises there own) (λ other. unmet.0 other l used) (cases_eq c.by server)

  -- ---- covers

  -- a lock that covers the sector in what is left covered it before
  pub cover_back : (l : LockId) (s : ℕ) (h : List Item) → AllGuarded home h → Apart l h → cover_of home (stays h) s ≡ l → cover_of home h s ≡ l
  cover_back l s [] g a e = e
  cover_back l s (Doubt m ∷ h) g a e = cover_back l s h g a e
  cover_back l s (Done c ∷ h) g a e = go (survives server durable c) refl (cover_back l s h g.1 a.1) e
    where
      there : (o : Option LockId) → (cover_of home (stays h) s ≡ l → cover_of home h s ≡ l) → moved o (cover_of home (stays h) s) ≡ l → moved o (cover_of home h s) ≡ l
      there None back e = back e
      there (Some new) back e = e

      gone : IsLost server durable c → (o : Option LockId) → c.moves s ≡ o → cover_of home h s ≡ l → moved o (cover_of home h s) ≡ l
      gone x None is e = e
      gone x (Some new) is e = absurd (a.0 x (subst (λ k. has_lock k c.alone ≡ true) e (g.0.from s new is)))

      go : (b : Bool) → survives server durable c ≡ b → (cover_of home (stays h) s ≡ l → cover_of home h s ≡ l) → cover_of home (keep_if b (Done c) (stays h)) s ≡ l →
          moved (c.moves s) (cover_of home h s) ≡ l
      go true is back e = there (c.moves s) back e
      go false is back e = gone (lost c is) (c.moves s) refl (back e)

  -- where such a lock covers a sector, nothing that is removed changed or moved it
  abbrev pub Touches : ℕ → Commit → Type 0
  Touches s e = Changes s e ⊎ Moves s e

  alters : (s : ℕ) (e : Commit) → Touches s e → Alters s e
  alters s e t = ⊎_elim (λ x. inl x) (λ x. inr (inl x)) t

  pub none_touches : (l : LockId) (s : ℕ) (h : List Item) → OpsRise h → Unseen server durable h → AllGuarded home h → AllOwn home s h → Apart l h →
      cover_of home h s ≡ l → Each (λ e. IsLost server durable e → Touches s e → ⊥) h
  none_touches l s [] rises unseen g o a e = tt
  none_touches l s (Doubt m ∷ h) rises unseen g o a e = none_touches l s h rises unseen g o a e
  none_touches l s (Done c ∷ h) rises unseen g o a e = go (c.moves s) refl (λ before. none_touches l s h rises.1 unseen.1 g.1 o.1 a.1 before) e
    where
      -- one that stays moved it here
      after : survives server durable c ≡ true → (new : LockId) → c.moves s ≡ Some new → Each (λ e. IsLost server durable e → Touches s e → ⊥) h
      after there new is =
          ⊎_elim (λ own. none_before (Touches s) c h rises there own)
          (λ other. each_map (λ e. IsLost server durable e → Alters s e → ⊥) (λ e. IsLost server durable e → Touches s e → ⊥) (λ e f x t. f x (alters s e t)) h
          (unseen.0 other s (inr (inl (ap is_some is)))))
          (cases_eq c.by server)

      moved_here : (new : LockId) → c.moves s ≡ Some new → new ≡ l → (b : Bool) → survives server durable c ≡ b → Each (λ e. IsLost server durable e → Touches s e → ⊥) (Done c ∷ h)
      moved_here new is same true there = ((λ x t. not_lost c there x), after there new is)
      moved_here new is same false goes = absurd (a.0 (lost c goes) (subst (λ k. has_lock k c.alone ≡ true) same (g.0.to s new is)))

      here : c.moves s ≡ None → cover_of home h s ≡ l → IsLost server durable c → Touches s c → ⊥
      here is e x t = ⊎_elim (λ ch. a.0 x (subst (λ k. has_lock k c.alone ≡ true) e (o.0 ch))) (λ m. let z : true ≡ false = sym m ∙ ap is_some is in cc) t

      go : (m : Option LockId) → c.moves s ≡ m → (cover_of home h s ≡ l → Each (λ e. IsLost server durable e → Touches s e → ⊥) h) → moved m (cover_of home h s) ≡ l → Each (λ e. IsLost server durable e → Touches s e → ⊥) (Done c ∷ h)
      go None is rest e = (here is e, rest e)
      go (Some new) is rest e = moved_here new is e (survives server durable c) refl

  -- ---- what is seen

  pub sight_stays : (h : List Item) → OpsRise h → Unmet server durable h → AllGuarded home h → AllSee home h → AllSee home (stays h)
  sight_stays [] rises unmet g a = tt
  sight_stays (Doubt m ∷ h) rises unmet g a = sight_stays h rises unmet g a
  sight_stays (Done c ∷ h) rises unmet g a =
      by_keep (AllSee home) (survives server durable c) (Done c) (stays h)
      (λ there. (
        (λ s used. a.0 s (subst (λ l. has_lock l c.uses ≡ true) (sym (cover_back (cover_of home (stays h) s) s h g.1 (apart_before c h rises unmet there (cover_of home (stays h) s) used) refl)) used)),
        sight_stays h rises.1 unmet.1 g.1 a.1,
      ))
      (λ goes. sight_stays h rises.1 unmet.1 g.1 a.1)
