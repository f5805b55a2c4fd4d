-- What conflicts with a holder of the lost table that wasn't cleared isn't newly granted: the table has its hold, or it is silent.
use Rattle.std.proofs.Common.{◌≡◌, ℕ, ◌<◌, ◌≤◌, ◌==◌, Bool, true, false, not, ◌&&◌, ◌||◌, if◌then◌else◌, List, [], ◌∷◌, None, refl, sym, ap, ◌∙◌, inl, inr, ◌⊎◌, arith}
use Rattle.std.specs.Prelude.{bit_or}
use Rattle.std.proofs.lemmas.Bool.{cases_lt, false≢true}
use Rattle.std.proofs.lemmas.Bool.Decides.{nat_tests}
use Rattle.std.proofs.lemmas.List.{get_or-set_other}
use Rattle.frang_base.specs.declared.lock.LockId.{LockId}
use Rattle.frang_base.specs.declared.lock.Mode.{Mode}
use Rattle.lock_definitions.specs.declared.claim.Wanted.TheVariants.{Granted, Wait}
use Rattle.lock_definitions.specs.Servers.{any_server, server_bits}
use Rattle.lock_definitions.specs.Locks.{Locks, claim_in, held, AreLocks}
use Rattle.lock_definitions.specs.Calls.{answered, clashes, conflicts, serves, is_free, holders, want_answer, wanted}
use Rattle.lock_definitions.proofs.Changes.{claims_past, past_claims}
use Rattle.lock_definitions.proofs.ServerTests.{some_below}
use Rattle.lock_definitions.proofs.States.{AreLocks-wanted}
use Rattle.lock_rebuild.specs.Guard.{Guard, GuardCall, is_silent, some_silent, may_grant, guarded_answer, after_call, after_calls, clears, is_cleared}
use Rattle.lock_rebuild.specs.Guard.GuardCall.{Want, Cleared}
use Rattle.lock_rebuild.specs.Rebuilt.{IsRebuilt}
use Rattle.lock_rebuild.specs.Missing.{is_among, lists_of}
use Rattle.lock_rebuild.proofs.Modes.{clash_right}
use Rattle.lock_rebuild.proofs.Claiming.{part, held_granted, held_waiting}
use Rattle.lock_rebuild.proofs.Listing.{modes_of}

module _ (t : ℕ) (below : t < 16) (q : LockId) (m : Mode) where
  -- the table has a hold of this server that conflicts, or the server is silent
  pub record Stands (guard : Guard) : Type 0 where
    pub are : AreLocks guard.locks
    pub either : (clashes m (held guard.locks t q) ≡ true) ⊎ (is_silent guard t ≡ true)

  -- a want takes no hold away
  holds_on : (locks : Locks) → AreLocks locks → (s : ℕ) (lock : LockId) (mode : Mode) → clashes m (held locks t q) ≡ true → clashes m (held (wanted locks s lock mode) t q) ≡ true
  holds_on locks are s lock mode clash = go (cases_lt s 16)
    where
      by : s < 16 → (f : Bool) → is_free locks s lock mode ≡ f → clashes m (held (wanted locks s lock mode) t q) ≡ true
      by inside true free = ap (clashes m) (held_granted locks are s inside lock mode free t q) ∙ clash_right m (held locks t q) (part s lock mode t q) clash
      by inside false taken = ap (clashes m) (held_waiting locks are s inside lock mode taken t q) ∙ clash

      go : (s < 16) ⊎ (16 ≤ s) → clashes m (held (wanted locks s lock mode) t q) ≡ true
      go (inl inside) = by inside (is_free locks s lock mode) refl
      go (inr past) = ap (λ claims. clashes m (claim_in claims q).held) (past_claims locks s lock (answered (want_answer locks s lock mode) mode) (omega (arith, past, are.servers)) t) ∙ clash

  stands_on : (guard : Guard) (call : GuardCall) → clears t call ≡ false → Stands guard → Stands (after_call guard call)
  stands_on guard (Want s lock mode) other stands = go (is_free guard.locks s lock mode && not (may_grant guard s lock mode))
    where
      either : (clashes m (held guard.locks t q) ≡ true) ⊎ (is_silent guard t ≡ true) → (clashes m (held (wanted guard.locks s lock mode) t q) ≡ true) ⊎ (is_silent guard t ≡ true)
      either (inl clash) = inl (holds_on guard.locks stands.are s lock mode clash)
      either (inr silent) = inr silent

      go : (b : Bool) → Stands (record guard { locks = if b then guard.locks else wanted guard.locks s lock mode })
      go true = record { are = stands.are; either = stands.either }
      go false = record { are = AreLocks-wanted guard.locks stands.are s lock mode; either = either stands.either }
  stands_on guard (Cleared s) other stands = record { are = stands.are; either = go stands.either }
    where
      apart : t ≡ s → ⊥
      apart same = differ other (sym same)
        where
          differ : (s == t) ≡ false → s ≡ t → ⊥
          differ e f = grind (arith, nat_tests)

      go : (clashes m (held guard.locks t q) ≡ true) ⊎ (is_silent guard t ≡ true) → (clashes m (held guard.locks t q) ≡ true) ⊎ (is_silent (after_call guard (Cleared s)) t ≡ true)
      go (inl clash) = inl clash
      go (inr silent) = inr (get_or-set_other guard.silent s t false false apart ∙ silent)

  stand_all : (calls : List GuardCall) (guard : Guard) → is_cleared t calls ≡ false → Stands guard → Stands (after_calls guard calls)
  stand_all [] guard none stands = stands
  stand_all (call ∷ calls) guard none stands = stand_all calls (after_call guard call) (behind (clears t call) (is_cleared t calls) none).1 (stands_on guard call (behind (clears t call) (is_cleared t calls) none).0 stands)
    where
      behind : (a b : Bool) → (a || b) ≡ false → (a ≡ false) × (b ≡ false)
      behind false b e = (refl, e)
      behind true b e = absurd (false≢true (sym e))

  -- where it stands a grant to another server isn't a new one
  not_granted : (guard : Guard) → Stands guard → (s : ℕ) → (t ≡ s → ⊥) → guarded_answer guard s q m ≡ Granted → serves (held guard.locks s q) m ≡ false → ⊥
  unfolding any_server
  not_granted guard stands s apart granted unserved = go stands.either
    where
      refused : (f g : Bool) → (f && g) ≡ false → (if f && g then Granted else Wait (bit_or (holders guard.locks s q m) (server_bits (is_silent guard)))) ≡ Granted → ⊥
      refused f g e is = cc (sym (ap (λ b. if b then Granted else Wait (bit_or (holders guard.locks s q m) (server_bits (is_silent guard)))) e) ∙ is)

      left : (f g : Bool) → f ≡ false → (f && g) ≡ false
      left false g e = refl
      left true g e = absurd (false≢true (sym e))

      right : (f g : Bool) → g ≡ false → (f && g) ≡ false
      right true g e = e
      right false g e = refl

      neither : (a b : Bool) → a ≡ true → b ≡ false → (not a || b) ≡ false
      neither true b e f = f
      neither false b e f = absurd (false≢true e)

      differ : (t == s) ≡ false
      differ = grind (arith, nat_tests)

      both : (a b : Bool) → a ≡ false → b ≡ true → (not a && b) ≡ true
      both false b e f = f
      both true b e f = absurd (false≢true (sym e))

      go : (clashes m (held guard.locks t q) ≡ true) ⊎ (is_silent guard t ≡ true) → ⊥
      go (inl clash) = refused (is_free guard.locks s q m) (may_grant guard s q m)
          (left (is_free guard.locks s q m) (may_grant guard s q m) (ap not (some_below (conflicts guard.locks s q m) 16 t below (both (t == s) (clashes m (held guard.locks t q)) differ clash)))) granted
      go (inr silent) = refused (is_free guard.locks s q m) (may_grant guard s q m)
          (right (is_free guard.locks s q m) (may_grant guard s q m) (neither (some_silent guard) (serves (held guard.locks s q) m) (some_below (is_silent guard) 16 t below silent) unserved)) granted

pub waited_for : (lost : Locks) → AreLocks lost → (listed : List ℕ) (guard : Guard) → AreLocks guard.locks → IsRebuilt (lists_of lost listed) guard.locks
    → ((t : ℕ) → t < 16 → is_among t listed ≡ false → is_silent guard t ≡ true)
    → (calls : List GuardCall) (s : ℕ) (q : LockId) (m : Mode) → guarded_answer (after_calls guard calls) s q m ≡ Granted → serves (held (after_calls guard calls).locks s q) m ≡ false
    → (t : ℕ) → (t ≡ s → ⊥) → is_cleared t calls ≡ false → clashes m (held lost t q) ≡ false
waited_for lost are listed guard are_guard is silent calls s q m granted unserved t apart uncleared = go (clashes m (held lost t q)) refl (cases_lt t 16)
  where
    unheld : 16 ≤ t → clashes m (held lost t q) ≡ false
    unheld past = ap (λ claims. clashes m (claim_in claims q).held) (claims_past lost t (omega (arith, past, are.servers)))

    at_first : t < 16 → clashes m (held lost t q) ≡ true → (b : Bool) → is_among t listed ≡ b → (clashes m (held guard.locks t q) ≡ true) ⊎ (is_silent guard t ≡ true)
    at_first below clash true among = inl (ap (clashes m) (is.held t q ∙ modes_of lost are listed t q ∙ ap (λ b. if b then held lost t q else None) among) ∙ clash)
    at_first below clash false missing = inr (silent t below missing)

    go : (b : Bool) → clashes m (held lost t q) ≡ b → (t < 16) ⊎ (16 ≤ t) → b ≡ false
    go false e c = refl
    go true e (inr past) = sym e ∙ unheld past
    go true e (inl below) = absurd (not_granted t below q m (after_calls guard calls)
        (stand_all t below q m calls guard uncleared (record { are = are_guard; either = at_first below e (is_among t listed) refl })) s apart granted unserved)
