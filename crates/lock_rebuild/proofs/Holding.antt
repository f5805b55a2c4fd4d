-- Where the locks of lists are put into a table, what the table has and what is left together are what the lists say, before the least clash.
use Rattle.std.proofs.Common.{◌≡◌, ℕ, ◌<◌, ◌≤◌, ◌==◌, Bool, true, false, not, ◌&&◌, if◌then◌else◌, List, [], ◌∷◌, Option, Some, None, refl, sym, ap, ◌∙◌, subst, inl, inr, ◌⊎◌, arith}
use Rattle.std.proofs.lemmas.Bool.{cases_lt, false≢true}
use Rattle.std.proofs.lemmas.Bool.Decides.{nat_tests}
use Rattle.frang_base.specs.declared.lock.LockId.{LockId}
use Rattle.frang_base.specs.declared.lock.Mode.{Mode}
use Rattle.lock_definitions.specs.declared.lists.ClerkLocks.{ClerkLocks}
use Rattle.lock_definitions.specs.Order.{is_lock}
use Rattle.lock_definitions.specs.Servers.{any_server}
use Rattle.lock_definitions.specs.Locks.{Locks, held, is_wished, AreLocks}
use Rattle.lock_definitions.specs.Calls.{clashes, conflicts, is_free, wanted}
use Rattle.lock_definitions.proofs.LockOrder.{is_lock_equiv}
use Rattle.lock_definitions.proofs.ServerTests.{passing_below}
use Rattle.lock_definitions.proofs.States.{AreLocks-wanted}
use Rattle.lock_rebuild.specs.Lists.{stronger, mode_in, listed_mode, mode_clash}
use Rattle.lock_rebuild.specs.Rebuilt.{AreServers}
use Rattle.lock_rebuild.specs.Steps.{Rebuilding, is_before, with_hold, with_holds, with_all_holds}
use Rattle.lock_rebuild.proofs.Modes.{stronger_assoc, clash_right, clash_left, clash_more}
use Rattle.lock_rebuild.proofs.Claiming.{part, held_granted, held_waiting, unwished_granted, wishes_beside}
use Rattle.lock_rebuild.proofs.Before.{less_apart, before_both, before_apart}

-- where a lock isn't free another server's hold conflicts
pub taken_by : (locks : Locks) (s : ℕ) (lock : LockId) (mode : Mode) → is_free locks s lock mode ≡ false → (t : ℕ) × (t < 16) × (conflicts locks s lock mode t ≡ true)
unfolding any_server
taken_by locks s lock mode is = passing_below (conflicts locks s lock mode) 16 (turned (any_server (conflicts locks s lock mode)) is)
  where
    turned : (b : Bool) → not b ≡ false → b ≡ true
    turned true e = refl
    turned false e = sym e

-- what that means
pub conflict_parts : (locks : Locks) (s : ℕ) (lock : LockId) (mode : Mode) (t : ℕ) → conflicts locks s lock mode t ≡ true → (t ≡ s → ⊥) × (clashes mode (held locks t lock) ≡ true)
conflict_parts locks s lock mode t is = go (t == s) refl is
  where
    apart : (t == s) ≡ false → t ≡ s → ⊥
    apart e same = grind (arith, nat_tests)

    go : (b : Bool) → (t == s) ≡ b → (not b && clashes mode (held locks t lock)) ≡ true → (t ≡ s → ⊥) × (clashes mode (held locks t lock) ≡ true)
    go true e f = absurd (false≢true f)
    go false e f = (apart e, f)

-- of another lock it is no part
pub no_part : (s : ℕ) (lock : LockId) (mode : Mode) (t : ℕ) (q : LockId) → is_lock q lock ≡ false → part s lock mode t q ≡ None
no_part s lock mode t q differ = ap (λ c. if s == t then (if c then Some mode else None) else None) differ ∙ go (s == t)
  where
    go : (b : Bool) → ◌≡◌ {A = Option Mode} (if b then None else None) None
    go true = refl
    go false = refl

own_part : (s : ℕ) (lock : LockId) (mode : Mode) → part s lock mode s lock ≡ Some mode
own_part s lock mode = ap (λ b. if b then (if is_lock lock lock then Some mode else None) else None) same ∙ ap (λ c. if c then Some mode else None) (is_lock_equiv.refl lock)
  where
    same : (s == s) ≡ true
    same = grind (arith, nat_tests)

-- something is so of the least clash, where there is one
abbrev pub AtClash : (LockId → Type 0) → Option LockId → Type 0
AtClash C None = Unit {0}
AtClash C (Some lock) = C lock

module _ (all : ℕ → LockId → Option Mode) (C : LockId → Type 0) (clash : (lock : LockId) (f s : ℕ) → f < 256 → s < 256 → (s ≡ f → ⊥) → mode_clash (all f lock) (all s lock) ≡ true → C lock) where
  -- before the least clash, what is held and what is left are all; nothing is wished; and at the least clash something is so
  pub record ArePut (rest : ℕ → LockId → Option Mode) (at : Rebuilding) : Type 0 where
    pub are : AreLocks at.locks
    pub agrees : (t : ℕ) (q : LockId) → is_before q at.clash ≡ true → stronger (held at.locks t q) (rest t q) ≡ all t q
    pub unwished : (t : ℕ) (q : LockId) (w : Mode) → is_before q at.clash ≡ true → is_wished at.locks t q w ≡ false
    pub found : AtClash C at.clash

  put_alike : (rest other : ℕ → LockId → Option Mode) (at : Rebuilding) → ((t : ℕ) (q : LockId) → other t q ≡ rest t q) → ArePut rest at → ArePut other at
  put_alike rest other at alike put = record {
    are = put.are;
    agrees = λ t q e. ap (stronger (held at.locks t q)) (alike t q) ∙ put.agrees t q e;
    unwished = put.unwished;
    found = put.found;
  }

  module _ (s : ℕ) (inside : s < 16) (lock : LockId) (mode : Mode) (rest : ℕ → LockId → Option Mode) (at : Rebuilding) (put : ArePut (λ t q. stronger (part s lock mode t q) (rest t q)) at) where
    passed : (t : ℕ) (q : LockId) → is_lock q lock ≡ false → is_before q at.clash ≡ true → stronger (held at.locks t q) (rest t q) ≡ all t q
    passed t q differ e = ap (λ p. stronger (held at.locks t q) (stronger p (rest t q))) (sym (no_part s lock mode t q differ)) ∙ put.agrees t q e

    clash_found : is_before lock at.clash ≡ true → is_free at.locks s lock mode ≡ false → C lock
    clash_found before is =
        let found = taken_by at.locks s lock mode is in
        let parts = conflict_parts at.locks s lock mode found.0 found.2 in
        let theirs : clashes mode (all found.0 lock) ≡ true = ap (clashes mode) (sym (put.agrees found.0 lock before)) ∙ clash_right mode (held at.locks found.0 lock) _ parts.1 in
        let own : mode_clash (part s lock mode s lock) (all found.0 lock) ≡ true = ap (λ o. mode_clash o (all found.0 lock)) (own_part s lock mode) ∙ theirs in
        let ours : mode_clash (all s lock) (all found.0 lock) ≡ true = ap (λ o. mode_clash o (all found.0 lock)) (sym (put.agrees s lock before))
        ∙ clash_left (held at.locks s lock) (stronger (part s lock mode s lock) (rest s lock)) (all found.0 lock) (clash_more (part s lock mode s lock) (rest s lock) (all found.0 lock) own) in
        clash lock s found.0 (omega (arith, inside)) (omega (arith, found.1)) parts.0 ours

    put_one : ArePut rest (with_hold s at (lock, mode))
    put_one = go (is_before lock at.clash) refl
      where
        go : (b : Bool) → is_before lock at.clash ≡ b → ArePut rest (if b then record { locks = wanted at.locks s lock mode; clash = if is_free at.locks s lock mode then at.clash else Some lock } else at)
        go false behind = record {
          are = put.are;
          agrees = λ t q e. passed t q (before_apart q lock at.clash e behind) e;
          unwished = put.unwished;
          found = put.found;
        }
        go true before = free (is_free at.locks s lock mode) refl
          where
            free : (f : Bool) → is_free at.locks s lock mode ≡ f → ArePut rest (record { locks = wanted at.locks s lock mode; clash = if f then at.clash else Some lock })
            free true is = record {
              are = AreLocks-wanted at.locks put.are s lock mode;
              agrees = λ t q e. ap (λ h. stronger h (rest t q)) (held_granted at.locks put.are s inside lock mode is t q) ∙ stronger_assoc (held at.locks t q) (part s lock mode t q) (rest t q) ∙ put.agrees t q e;
              unwished = λ t q w e. unwished_granted at.locks put.are s inside lock mode is t q w (put.unwished t q w e);
              found = put.found;
            }
            free false is = record {
              are = AreLocks-wanted at.locks put.are s lock mode;
              agrees = λ t q e. ap (λ h. stronger h (rest t q)) (held_waiting at.locks put.are s inside lock mode is t q) ∙ passed t q (less_apart q lock e) (before_both q lock at.clash before e);
              unwished = λ t q w e. wishes_beside at.locks put.are s inside lock mode t q w (less_apart q lock e) ∙ put.unwished t q w (before_both q lock at.clash before e);
              found = clash_found before is;
            }

  -- what a server holds by a list
  abbrev by_list : ℕ → List (LockId × Mode) → ℕ → LockId → Option Mode
  by_list s entries t q = if s == t then mode_in entries q else None

  put_list : (s : ℕ) → s < 16 → (entries : List (LockId × Mode)) (rest : ℕ → LockId → Option Mode) (at : Rebuilding) → ArePut (λ t q. stronger (by_list s entries t q) (rest t q)) at → ArePut rest (with_holds s at entries)
  put_list s inside [] rest at put = put_alike _ rest at (λ t q. go (s == t) (rest t q)) put
    where
      go : (b : Bool) (r : Option Mode) → r ≡ stronger (if b then None else None) r
      go true r = refl
      go false r = refl
  put_list s inside (entry ∷ entries) rest at put =
      put_list s inside entries rest (with_hold s at entry)
      (put_one s inside entry.0 entry.1 (λ t q. stronger (by_list s entries t q) (rest t q)) at (put_alike _ _ at (λ t q. go (s == t) (if is_lock q entry.0 then Some entry.1 else None) (mode_in entries q) (rest t q)) put))
    where
      go : (b : Bool) (o m r : Option Mode) → stronger (if b then o else None) (stronger (if b then m else None) r) ≡ stronger (if b then stronger o m else None) r
      go true o m r = sym (stronger_assoc o m r)
      go false o m r = refl

  pub put_lists : (clerks : List ClerkLocks) → AreServers clerks → (at : Rebuilding) → ArePut (listed_mode clerks) at → ArePut (λ t q. None) (with_all_holds at clerks)
  put_lists [] servers at put = put
  put_lists (clerk ∷ clerks) servers at put = put_lists clerks servers.1 (with_holds clerk.server.0 at clerk.held) (go (cases_lt clerk.server.0 16))
    where
      go : (clerk.server.0 < 16) ⊎ (16 ≤ clerk.server.0) → ArePut (listed_mode clerks) (with_holds clerk.server.0 at clerk.held)
      go (inl inside) = put_list clerk.server.0 inside clerk.held (listed_mode clerks) at put
      go (inr past) = subst (λ entries. ArePut (listed_mode clerks) (with_holds clerk.server.0 at entries)) (sym none) (put_alike _ (listed_mode clerks) at (λ t q. nothing (clerk.server.0 == t) (listed_mode clerks t q) ∙ ap (λ entries. stronger (by_list clerk.server.0 entries t q) (listed_mode clerks t q)) (sym none)) put)
        where
          none : clerk.held ≡ []
          none = (servers.0 past).0

          nothing : (b : Bool) (r : Option Mode) → r ≡ stronger (if b then None else None) r
          nothing true r = refl
          nothing false r = refl
