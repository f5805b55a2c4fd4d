-- Each call of a lock table keeps holders compatible, and only a want gives a server a lock.
use Rattle.std.proofs.Common.{◌≡◌, ℕ, ◌<◌, ◌≤◌, ◌==◌, Bool, true, false, not, ◌&&◌, if◌then◌else◌, [], length, Option, Some, None, refl, sym, ap, ◌∙◌, subst, inl, inr, ◌⊎◌, arith}
use Rattle.std.proofs.lemmas.Bool.{cases_eq, cases_lt, false≢true, not-true}
use Rattle.std.proofs.lemmas.Bool.Decides.{nat_tests}
use Rattle.std.proofs.lemmas.List.{get_or-set_same, get_or-set_other, set_past}
use Rattle.frang_base.specs.declared.lock.LockId.{LockId}
use Rattle.frang_base.specs.declared.lock.Mode.{Mode}
use Rattle.frang_base.specs.declared.lock.Mode.TheVariants.{Shared, Sole}
use Rattle.lock_definitions.specs.declared.claim.Claim.{Claim}
use Rattle.lock_definitions.specs.Servers.{any_server}
use Rattle.lock_definitions.specs.Locks.{Locks, claim_in, claims_of, claim_of, held, AreCompatible, AreClaims, AreLocks}
use Rattle.lock_definitions.specs.declared.claim.Wanted.TheVariants.{Granted, Wait}
use Rattle.lock_definitions.specs.Calls.{holders, answered, serves, clashes, conflicts, is_free, changed, holding, granted, wishing, given_up, shared, wanted, released, downgraded, cleared}
use Rattle.lock_definitions.proofs.ServerTests.{none_below}
use Rattle.lock_definitions.proofs.Changes.{claims_past, claim_of-changed, IsChanged}

-- ---- modes

-- who holds a lock sole after a grant held it so before, or was granted it so
pub sole_after_grant : (mode : Mode) (claim : Claim) → (granted mode claim).held ≡ Some Sole → (claim.held ≡ Some Sole) ⊎ (mode ≡ Sole)
sole_after_grant Sole claim sole = inr refl
sole_after_grant Shared claim sole = go claim.held refl sole
  where
    go : (h : Option Mode) → claim.held ≡ h → (if serves h Sole then holding Sole claim else holding Shared claim).held ≡ Some Sole → (claim.held ≡ Some Sole) ⊎ (Shared ≡ Sole)
    go None is sole = cc
    go (Some Sole) is sole = inl is
    go (Some Shared) is sole = cc

-- nothing conflicts with a sole want but what is held
unheld : (h : Option Mode) → clashes Sole h ≡ false → h ≡ None
unheld None e = refl
unheld (Some Sole) e = absurd (false≢true (sym e))
unheld (Some Shared) e = absurd (false≢true (sym e))

sole_clashes : (mode : Mode) (h : Option Mode) → h ≡ Some Sole → clashes mode h ≡ true
sole_clashes mode h is = ap (clashes mode) is ∙ by mode
  where
    by : (m : Mode) → clashes m (Some Sole) ≡ true
    by Shared = refl
    by Sole = refl

held-wishing : (mode : Mode) (claim : Claim) → (wishing mode claim).held ≡ claim.held
held-wishing Shared claim = refl
held-wishing Sole claim = refl

-- ---- what is free

module _ (locks : Locks) (servers : length locks.clerks ≡ 16) (s : ℕ) (lock : LockId) (mode : Mode) (free : is_free locks s lock mode ≡ true) where
  -- where a lock is free no other server holds it in a mode that conflicts
  pub no_clash : (t : ℕ) → (t ≡ s → ⊥) → clashes mode (held locks t lock) ≡ false
  unfolding any_server
  no_clash t apart = go (cases_lt t 16)
    where
      differs : (t == s) ≡ false
      differs = grind (arith, nat_tests)

      part : (a b : Bool) → a ≡ false → (not a && b) ≡ false → b ≡ false
      part false b e f = f
      part true b e f = absurd (false≢true (sym e))

      go : (t < 16) ⊎ (16 ≤ t) → clashes mode (held locks t lock) ≡ false
      go (inl below) = part (t == s) _ differs (none_below (conflicts locks s lock mode) 16 (not-true _ free) t below)
      go (inr above) = ap (λ claims. clashes mode (claim_in claims lock).held) (claims_past locks t (omega arith))

-- ---- calls that give nobody a lock

-- at this server and lock nothing more is held than before
pub record HoldsNoMore (new old : Locks) (t : ℕ) (q : LockId) : Type 0 where
  pub sole : held new t q ≡ Some Sole → held old t q ≡ Some Sole
  pub none : held old t q ≡ None → held new t q ≡ None

as_before : (new old : Locks) (t : ℕ) (q : LockId) → held new t q ≡ held old t q → HoldsNoMore new old t q
as_before new old t q same = record { sole = λ e. sym same ∙ e; none = λ e. same ∙ e }

pub AreCompatible-no_more : (new old : Locks) → ((t : ℕ) (q : LockId) → HoldsNoMore new old t q) → AreCompatible old → AreCompatible new
AreCompatible-no_more new old less compatible a b q apart sole = (less b q).none (compatible a b q apart ((less a q).sole sole))

-- a change by which a claim holds no more than before
module _ (locks : Locks) (s : ℕ) (lock : LockId) (change : Claim → Claim) (are : AreClaims (claims_of locks s)) where
  pub changed_no_more : ((change (claim_of locks s lock)).held ≡ Some Sole → held locks s lock ≡ Some Sole) → (held locks s lock ≡ None → (change (claim_of locks s lock)).held ≡ None)
      → (t : ℕ) (q : LockId) → HoldsNoMore (changed locks s lock change) locks t q
  changed_no_more sole none t q = go (claim_of-changed locks s lock change are t q)
    where
      here : IsChanged locks s lock change t q → held locks t q ≡ held locks s lock
      here at = λ i. held locks (at.same_server i) (at.same_lock i)

      go : IsChanged locks s lock change t q ⊎ (claim_of (changed locks s lock change) t q ≡ claim_of locks t q) → HoldsNoMore (changed locks s lock change) locks t q
      go (inl at) = record {
        sole = λ e. here at ∙ sole (sym (ap (λ c. c.held) at.claim) ∙ e);
        none = λ e. ap (λ c. c.held) at.claim ∙ none (sym (here at) ∙ e);
      }
      go (inr same) = as_before _ _ t q (ap (λ c. c.held) same)

pub released_no_more : (locks : Locks) (s : ℕ) (lock : LockId) → AreClaims (claims_of locks s) → (t : ℕ) (q : LockId) → HoldsNoMore (released locks s lock) locks t q
released_no_more locks s lock are = changed_no_more locks s lock given_up are (λ e. cc) (λ e. refl)

pub downgraded_no_more : (locks : Locks) (s : ℕ) (lock : LockId) → AreClaims (claims_of locks s) → (t : ℕ) (q : LockId) → HoldsNoMore (downgraded locks s lock) locks t q
downgraded_no_more locks s lock are = changed_no_more locks s lock shared are (λ e. not_sole (held locks s lock) e) (λ e. ap lowered e)
  where
    lowered : Option Mode → Option Mode
    lowered None = None
    lowered (Some mode) = Some Shared

    not_sole : (h : Option Mode) → (shared (record { held = h; wishes_shared = false; wishes_sole = false })).held ≡ Some Sole → held locks s lock ≡ Some Sole
    not_sole None e = cc
    not_sole (Some mode) e = cc

pub wished_no_more : (locks : Locks) (s : ℕ) (lock : LockId) (mode : Mode) → AreClaims (claims_of locks s) → (t : ℕ) (q : LockId) → HoldsNoMore (changed locks s lock (wishing mode)) locks t q
wished_no_more locks s lock mode are = changed_no_more locks s lock (wishing mode) are (λ e. sym (held-wishing mode _) ∙ e) (λ e. held-wishing mode _ ∙ e)

pub cleared_no_more : (locks : Locks) (dead t : ℕ) (q : LockId) → HoldsNoMore (cleared locks dead) locks t q
cleared_no_more locks dead t q = go (cases_eq t dead) (cases_lt dead (length locks.clerks))
  where
    gone : held (cleared locks dead) t q ≡ None → HoldsNoMore (cleared locks dead) locks t q
    gone none = record { sole = λ e. cc; none = λ e. none }

    kept : claims_of (cleared locks dead) t ≡ claims_of locks t → HoldsNoMore (cleared locks dead) locks t q
    kept same = as_before _ _ t q (ap (λ claims. (claim_in claims q).held) same)

    go : (t ≡ dead) ⊎ (t ≡ dead → ⊥) → (dead < length locks.clerks) ⊎ (length locks.clerks ≤ dead) → HoldsNoMore (cleared locks dead) locks t q
    go (inl same) (inl inside) = gone (ap (λ n. held (cleared locks dead) n q) same ∙ ap (λ claims. (claim_in claims q).held) (get_or-set_same locks.clerks dead [] [] inside))
    go (inl same) (inr past) = kept (ap (λ clerks. claims_of (record locks { clerks = clerks }) t) (set_past locks.clerks dead [] past))
    go (inr apart) b = kept (get_or-set_other locks.clerks dead t [] [] apart)

-- ---- a want

module _ (locks : Locks) (are : AreLocks locks) (s : ℕ) (lock : LockId) (mode : Mode) where
  compatible-granted : is_free locks s lock mode ≡ true → AreCompatible (changed locks s lock (granted mode))
  compatible-granted free a b q apart sole = go (claim_of-changed locks s lock (granted mode) (are.claims s) a q) (claim_of-changed locks s lock (granted mode) (are.claims s) b q)
    where
      New : Locks
      New = changed locks s lock (granted mode)

      Changed : ℕ → Type 0
      Changed t = IsChanged locks s lock (granted mode) t q

      held_by : (t : ℕ) → claim_of New t q ≡ claim_of locks t q → held New t q ≡ held locks t q
      held_by t same = ap (λ c. c.held) same

      go : Changed a ⊎ (claim_of New a q ≡ claim_of locks a q) → Changed b ⊎ (claim_of New b q ≡ claim_of locks b q) → held New b q ≡ None
      go (inl one) (inl two) = absurd (apart (two.same_server ∙ sym one.same_server))
      go (inl one) (inr same) = held_by b same ∙ by (sole_after_grant mode (claim_of locks s lock) (sym (ap (λ c. c.held) one.claim) ∙ sole))
        where
          away : b ≡ s → ⊥
          away e = apart (e ∙ sym one.same_server)

          by : (held locks s lock ≡ Some Sole) ⊎ (mode ≡ Sole) → held locks b q ≡ None
          by (inl had) = ap (λ l. held locks b l) one.same_lock ∙ are.compatible s b lock away had
          by (inr is) = ap (λ l. held locks b l) one.same_lock ∙ unheld (held locks b lock) (subst (λ m. clashes m (held locks b lock) ≡ false) is (no_clash locks are.servers s lock mode free b away))
      go (inr same) (inl two) = absurd (false≢true (sym (no_clash locks are.servers s lock mode free a away) ∙ sole_clashes mode (held locks a lock) had))
        where
          away : a ≡ s → ⊥
          away e = apart (two.same_server ∙ sym e)

          had : held locks a lock ≡ Some Sole
          had = ap (λ l. held locks a l) (sym two.same_lock) ∙ sym (held_by a same) ∙ sole
      go (inr one) (inr two) = held_by b two ∙ are.compatible a b q apart (sym (held_by a one) ∙ sole)

  pub AreCompatible-wanted : AreCompatible (wanted locks s lock mode)
  AreCompatible-wanted = go (is_free locks s lock mode) refl
    where
      go : (b : Bool) → is_free locks s lock mode ≡ b → AreCompatible (changed locks s lock (answered (if b then Granted else Wait (holders locks s lock mode)) mode))
      go true free = compatible-granted free
      go false taken = AreCompatible-no_more _ locks (wished_no_more locks s lock mode (are.claims s)) are.compatible
