-- What the answers of a lock table mean: the bits of those who wait, what a holder is asked for, and that tables with the same
-- locks answer alike.
use Rattle.std.proofs.Common.{◌≡◌, ℕ, ◌<◌, ◌≤◌, ◌^◌, ◌==◌, Bool, true, false, not, ◌&&◌, if◌then◌else◌, is_some, List, [], ◌∷◌, Option, Some, None, refl, sym, ap, ◌∙◌, inl, inr, ◌⊎◌, arith}
use Rattle.std.specs.Prelude.{bit_and, IsBitSet, ◌↔◌, nat_lt, unwrap_or}
use Rattle.std.specs.Int.Bits.{and_zero_l}
use Rattle.std.specs.List.{filter_map, cons_option}
use Rattle.std.specs.Option.{option_map}
use Rattle.std.specs.Map.{lookup}
use Rattle.std.proofs.lemmas.Nat.{pow_pos}
use Rattle.std.proofs.lemmas.Bool.{cases_lt, false≢true}
use Rattle.std.proofs.lemmas.Bool.Decides.{nat_tests}
use mathlib.Core.Bool.{and-false}
use Rattle.frang_base.specs.declared.lock.LockId.{LockId}
use Rattle.frang_base.specs.declared.lock.Mode.{Mode}
use Rattle.frang_base.specs.declared.lock.Mode.TheVariants.{Shared, Sole}
use Rattle.lock_definitions.specs.declared.claim.AskedFor.{AskedFor}
use Rattle.lock_definitions.specs.declared.claim.Claim.{Claim}
use Rattle.lock_definitions.specs.Order.{is_lock}
use Rattle.lock_definitions.specs.Servers.{any_below, bits_below, any_server, server_bits}
use Rattle.lock_definitions.specs.Locks.{Claims, Locks, no_claim, claim_in, claims_of, held, is_wished, AreLocks}
use Rattle.lock_definitions.specs.declared.claim.Wanted.TheVariants.{Granted, Wait}
use Rattle.lock_definitions.specs.Calls.{hold_against, clashes, conflicts, is_free, holders, asked_of, asked_for, is_wished_by_other, revokes, want_answer, log_taken_by}
use Rattle.lock_definitions.specs.Same.{waits, SameLocks}
use Rattle.lock_definitions.proofs.LockOrder.{found_lock}
use Rattle.lock_definitions.proofs.ServerTests.{bit_of, none_below, some_below, passing_below, bits_of_none}
use Rattle.lock_definitions.proofs.Changes.{claims_past}

-- ---- bits

pub bit_set : (passes : ℕ → Bool) (n t : ℕ) → IsBitSet (bits_below passes n) t ↔ ((t < n) × (passes t ≡ true))
bit_set passes n t = (there (nat_lt t n) (passes t) refl refl, λ p. here (nat_lt t n) (passes t) refl refl p)
  where
    value : (a b : Bool) → nat_lt t n ≡ a → passes t ≡ b → bit_and (bits_below passes n) (2 ^ t) ≡ (if a && b then 2 ^ t else 0)
    value a b e f = bit_of passes n t ∙ (λ i. if e i && f i then 2 ^ t else 0)

    below : nat_lt t n ≡ true → t < n
    below e = grind (arith, nat_tests)

    not_below : nat_lt t n ≡ false → n ≤ t
    not_below e = grind (arith, nat_tests)

    there : (a b : Bool) → nat_lt t n ≡ a → passes t ≡ b → IsBitSet (bits_below passes n) t → (t < n) × (passes t ≡ true)
    there true true e f set = (below e, f)
    there true false e f set = absurd (set (value true false e f))
    there false b e f set = absurd (set (value false b e f))

    here : (a b : Bool) → nat_lt t n ≡ a → passes t ≡ b → (t < n) × (passes t ≡ true) → IsBitSet (bits_below passes n) t
    here true true e f p none = absurd (positive (sym (value true true e f) ∙ none))
      where
        positive : 2 ^ t ≡ 0 → ⊥
        positive none = omega (arith, pow_pos t)
    here true false e f p none = absurd (false≢true (sym f ∙ p.1))
    here false b e f p none = absurd (omega (arith, p.0, not_below e))

pub free_of_bits : (passes : ℕ → Bool) (n : ℕ) → (bits_below passes n == 0) ≡ not (any_below passes n)
free_of_bits passes n = go (any_below passes n) refl
  where
    go : (b : Bool) → any_below passes n ≡ b → (bits_below passes n == 0) ≡ not b
    go false none = ap (λ m. m == 0) (bits_of_none passes n none)
    go true some = zeros (bits_below passes n) (λ is. let found = passing_below passes n some in (bit_set passes n found.0).1 (found.1, found.2) (ap (λ m. bit_and m (2 ^ found.0)) is ∙ and_zero_l (2 ^ found.0)))
      where
        zeros : (m : ℕ) → (m ≡ 0 → ⊥) → (m == 0) ≡ false
        zeros m apart = grind (arith, nat_tests)

-- a want is free exactly where no bit is set
pub free-holders : (locks : Locks) (server : ℕ) (lock : LockId) (mode : Mode) → (holders locks server lock mode == 0) ≡ is_free locks server lock mode
unfolding any_server server_bits
free-holders locks server lock mode = free_of_bits (conflicts locks server lock mode) 16

-- the answer, read off the bits
pub granted_without_bits : (locks : Locks) (server : ℕ) (lock : LockId) (mode : Mode) → holders locks server lock mode ≡ 0 → want_answer locks server lock mode ≡ Granted
granted_without_bits locks server lock mode none = ap (λ b. if b then Granted else Wait (holders locks server lock mode)) (sym (free-holders locks server lock mode) ∙ ap (λ m. m == 0) none)

pub waits_with_bits : (locks : Locks) (server : ℕ) (lock : LockId) (mode : Mode) → (holders locks server lock mode ≡ 0 → ⊥) → want_answer locks server lock mode ≡ Wait (holders locks server lock mode)
waits_with_bits locks server lock mode some = ap (λ b. if b then Granted else Wait (holders locks server lock mode)) (sym (free-holders locks server lock mode) ∙ not_zero (holders locks server lock mode) some)
  where
    not_zero : (m : ℕ) → (m ≡ 0 → ⊥) → (m == 0) ≡ false
    not_zero m apart = grind (arith, nat_tests)

pub bit_of_holder : (locks : Locks) (server : ℕ) (lock : LockId) (mode : Mode) (other : ℕ) → IsBitSet (holders locks server lock mode) other ↔ ((other < 16) × (conflicts locks server lock mode other ≡ true))
unfolding server_bits
bit_of_holder locks server lock mode other = bit_set (conflicts locks server lock mode) 16 other

-- a want is granted exactly where no server's hold conflicts
pub granted_exactly : (locks : Locks) → AreLocks locks → (server : ℕ) (lock : LockId) (mode : Mode) → (want_answer locks server lock mode ≡ Granted) ↔ ((other : ℕ) → conflicts locks server lock mode other ≡ false)
unfolding any_server
granted_exactly locks are server lock mode = (none (any_below Conflicts 16) refl, free (any_below Conflicts 16) refl)
  where
    Conflicts : ℕ → Bool
    Conflicts = conflicts locks server lock mode

    past : (other : ℕ) → 16 ≤ other → Conflicts other ≡ false
    past other above = ap (λ claims. not (other == server) && clashes mode (claim_in claims lock).held) (claims_past locks other (omega (arith, are.servers))) ∙ and-false (not (other == server))

    none : (b : Bool) → any_below Conflicts 16 ≡ b → (if not b then Granted else Wait (holders locks server lock mode)) ≡ Granted → (other : ℕ) → Conflicts other ≡ false
    none false is granted other = by (cases_lt other 16)
      where
        by : (other < 16) ⊎ (16 ≤ other) → Conflicts other ≡ false
        by (inl below) = none_below Conflicts 16 is other below
        by (inr above) = past other above
    none true is granted other = cc

    free : (b : Bool) → any_below Conflicts 16 ≡ b → ((other : ℕ) → Conflicts other ≡ false) → (if not b then Granted else Wait (holders locks server lock mode)) ≡ Granted
    free false is all = refl
    free true is all = let found = passing_below Conflicts 16 is in absurd (false≢true (sym (all found.0) ∙ found.2))

-- where another server's hold conflicts the lock isn't free
not_free : (locks : Locks) (holder server : ℕ) (lock : LockId) (mode : Mode) → holder < 16 → clashes mode (held locks holder lock) ≡ true → (server ≡ holder → ⊥) → is_free locks server lock mode ≡ false
unfolding any_server
not_free locks holder server lock mode below clash apart = ap not (some_below (conflicts locks server lock mode) 16 holder below (both (holder == server) (clashes mode (held locks holder lock)) differs clash))
  where
    differs : (holder == server) ≡ false
    differs = grind (arith, nat_tests)

    both : (a b : Bool) → a ≡ false → b ≡ true → (not a && b) ≡ true
    both false true e f = refl
    both false false e f = f
    both true b e f = absurd (false≢true (sym e))

-- ---- what is asked for

module _ (asked : LockId → Option AskedFor) (q : LockId) where
  listed : (claims : Claims) → lookup (is_lock q) (filter_map (λ entry. option_map (λ a. (entry.0, a)) (asked entry.0)) claims) ≡ (if is_some (lookup (is_lock q) claims) then asked q else None)
  listed [] = refl
  listed (entry ∷ claims) = go (is_lock q entry.0) refl (asked entry.0) refl (listed claims)
    where
      Tail : List (LockId × AskedFor)
      Tail = filter_map (λ e. option_map (λ a. (e.0, a)) (asked e.0)) claims

      nothing : (b : Bool) → asked q ≡ None → (if b then asked q else None) ≡ asked q
      nothing true none = refl
      nothing false none = sym none

      go : (b : Bool) → is_lock q entry.0 ≡ b → (o : Option AskedFor) → asked entry.0 ≡ o → lookup (is_lock q) Tail ≡ (if is_some (lookup (is_lock q) claims) then asked q else None)
          → lookup (is_lock q) (cons_option (option_map (λ a. (entry.0, a)) o) Tail) ≡ (if is_some (if b then Some entry.1 else lookup (is_lock q) claims) then asked q else None)
      go true same (Some a) is rest = ap (λ b. if b then Some a else lookup (is_lock q) Tail) same ∙ sym is ∙ ap asked (found_lock q entry.0 same)
      go true same None is rest = rest ∙ nothing (is_some (lookup (is_lock q) claims)) (ap asked (sym (found_lock q entry.0 same)) ∙ is)
      go false apart (Some a) is rest = ap (λ b. if b then Some a else lookup (is_lock q) Tail) apart ∙ rest
      go false apart None is rest = rest

-- `revokes` lists for each lock what the server is asked for
pub revokes_of : (locks : Locks) (server : ℕ) (lock : LockId) → lookup (is_lock lock) (revokes locks server) ≡ asked_for locks server lock
revokes_of locks server lock = listed (asked_for locks server) lock (claims_of locks server) ∙ go (lookup (is_lock lock) (claims_of locks server)) refl
  where
    go : (o : Option Claim) → lookup (is_lock lock) (claims_of locks server) ≡ o → (if is_some o then asked_for locks server lock else None) ≡ asked_for locks server lock
    go (Some claim) is = refl
    go None is = sym (ap (λ o. asked_of (unwrap_or o no_claim).held (is_wished_by_other locks server lock Shared) (is_wished_by_other locks server lock Sole)) is)

-- ---- tables with the same locks

module _ (a b : Locks) (same : SameLocks a b) where
  pub free_alike : (server : ℕ) (lock : LockId) (mode : Mode) → is_free a server lock mode ≡ is_free b server lock mode
  free_alike server lock mode i = not (any_server (λ other. not (other == server) && clashes mode (same.held other lock i)))

  pub wanted_alike : (server : ℕ) (lock : LockId) (mode : Mode) → want_answer a server lock mode ≡ want_answer b server lock mode
  wanted_alike server lock mode i = if free_alike server lock mode i then Granted else Wait (server_bits (λ other. not (other == server) && clashes mode (same.held other lock i)))

  pub logs_alike : (dead by now : ℕ) → log_taken_by a dead by now ≡ log_taken_by b dead by now
  logs_alike dead by now = ap (hold_against by now) (same.logs dead)

  -- a wish of another server that conflicts with what this one holds waits
  wish_waits : (x : Locks) (server other : ℕ) (lock : LockId) (mode : Mode) → server < 16 → clashes mode (held x server lock) ≡ true → (other ≡ server → ⊥) → waits x other lock mode ≡ is_wished x other lock mode
  wish_waits x server other lock mode below clash apart = by (is_wished x other lock mode) (is_free x other lock mode) (not_free x server other lock mode below clash apart)
    where
      by : (w f : Bool) → f ≡ false → (w && not f) ≡ w
      by true false e = refl
      by false false e = refl
      by true true e = sym e
      by false true e = refl

  wished_alike : (server : ℕ) (lock : LockId) (mode : Mode) → server < 16 → clashes mode (held a server lock) ≡ true → is_wished_by_other a server lock mode ≡ is_wished_by_other b server lock mode
  wished_alike server lock mode below clash i = any_server (λ other. pointwise other i)
    where
      other_wish : (other : ℕ) → (other ≡ server → ⊥) → is_wished a other lock mode ≡ is_wished b other lock mode
      other_wish other apart = sym (wish_waits a server other lock mode below clash apart) ∙ same.wishes other lock mode
          ∙ wish_waits b server other lock mode below (sym (ap (clashes mode) (same.held server lock)) ∙ clash) apart

      pointwise : (other : ℕ) → (not (other == server) && is_wished a other lock mode) ≡ (not (other == server) && is_wished b other lock mode)
      pointwise other = go (other == server) refl
        where
          go : (e : Bool) → (other == server) ≡ e → (not e && is_wished a other lock mode) ≡ (not e && is_wished b other lock mode)
          go true is = refl
          go false is = other_wish other (λ e. differ e is)
            where
              differ : other ≡ server → (other == server) ≡ false → ⊥
              differ e f = grind (arith, nat_tests)

  pub asked_alike : AreLocks a → (server : ℕ) (lock : LockId) → asked_for a server lock ≡ asked_for b server lock
  asked_alike are server lock = go (held a server lock) refl
    where
      below : (mode : Mode) → held a server lock ≡ Some mode → server < 16
      below mode is = by (cases_lt server 16)
        where
          by : (server < 16) ⊎ (16 ≤ server) → server < 16
          by (inl inside) = inside
          by (inr past) = absurd (cc (ap (λ claims. (claim_in claims lock).held) (claims_past a server (omega (arith, are.servers))), is))

      clash : (mode wanted : Mode) → held a server lock ≡ Some mode → clashes wanted (Some mode) ≡ true → clashes wanted (held a server lock) ≡ true
      clash mode wanted is e = ap (clashes wanted) is ∙ e

      Asked : Option Mode → Bool → Bool → Option AskedFor
      Asked = asked_of

      go : (h : Option Mode) → held a server lock ≡ h → asked_for a server lock ≡ asked_for b server lock
      go None is = ap (λ h. Asked h (is_wished_by_other a server lock Shared) (is_wished_by_other a server lock Sole)) is
          ∙ ap (λ h. Asked h (is_wished_by_other b server lock Shared) (is_wished_by_other b server lock Sole)) (sym is ∙ same.held server lock)
      go (Some Sole) is = λ i. Asked (same.held server lock i) (wished_alike server lock Shared (below Sole is) (clash Sole Shared is refl) i) (wished_alike server lock Sole (below Sole is) (clash Sole Sole is refl) i)
      go (Some Shared) is = ap (λ h. Asked h (is_wished_by_other a server lock Shared) (is_wished_by_other a server lock Sole)) is
          ∙ regardless (is_wished_by_other a server lock Sole) (is_wished_by_other b server lock Sole) (wished_alike server lock Sole (below Shared is) (clash Shared Sole is refl))
          ∙ ap (λ h. Asked h (is_wished_by_other b server lock Shared) (is_wished_by_other b server lock Sole)) (sym is ∙ same.held server lock)
        where
          regardless : (p q : Bool) → p ≡ q → asked_of (Some Shared) (is_wished_by_other a server lock Shared) p ≡ asked_of (Some Shared) (is_wished_by_other b server lock Shared) q
          regardless true true e = refl
          regardless false false e = refl
          regardless true false e = absurd (false≢true (sym e))
          regardless false true e = absurd (false≢true e)
