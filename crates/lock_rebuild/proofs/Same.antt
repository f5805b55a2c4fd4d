-- The table that is rebuilt of all lists that a table has is the same, and its wishes wait.
use Rattle.std.proofs.Common.{◌≡◌, ℕ, ◌<◌, ◌≤◌, ◌==◌, Bool, true, false, not, ◌&&◌, if◌then◌else◌, List, Option, Some, None, refl, sym, ap, ◌∙◌, inl, inr, ◌⊎◌, arith}
use Rattle.std.proofs.lemmas.Bool.{cases_lt, false≢true}
use Rattle.std.proofs.lemmas.Bool.Decides.{nat_tests}
use Rattle.std.proofs.lemmas.List.{get_or_past}
use Rattle.frang_base.specs.declared.lock.LockId.{LockId}
use Rattle.frang_base.specs.declared.lock.Mode.{Mode}
use Rattle.frang_base.specs.declared.lock.Mode.TheVariants.{Shared, Sole}
use Rattle.lock_definitions.specs.declared.claim.LogHold.{LogHold}
use Rattle.lock_definitions.specs.declared.lists.ClerkLocks.{ClerkLocks}
use Rattle.lock_definitions.specs.Locks.{Locks, claim_in, held, is_wished, log_hold, AreLocks}
use Rattle.lock_definitions.specs.Calls.{is_free}
use Rattle.lock_definitions.specs.Same.{SameLocks, AllWishesWait}
use Rattle.lock_definitions.proofs.Changes.{claims_past}
use Rattle.known_locks.specs.Listed.{clerks_of, parties}
use Rattle.lock_rebuild.specs.Lists.{lists_wish}
use Rattle.lock_rebuild.specs.Rebuilt.{expiry_by, IsRebuilt}
use Rattle.lock_rebuild.specs.Missing.{is_among, TakersAreParties}
use Rattle.lock_rebuild.proofs.Wishing.{free_same}
use Rattle.lock_rebuild.proofs.Listing.{modes_of, wishes_of_all, logs_of, servers_are_parties}

-- a wish that is noted conflicts with a holder
pub all_wait : (clerks : List ClerkLocks) (new : Locks) → IsRebuilt clerks new → AllWishesWait new
all_wait clerks new is s q w wished = go (lists_wish clerks s q w) (is_free new s q w) (sym (is.wishes s q w) ∙ wished)
  where
    go : (x f : Bool) → (x && not f) ≡ true → f ≡ false
    go true false e = refl
    go true true e = absurd (false≢true e)
    go false f e = absurd (false≢true e)

-- a hold is known by what each party has of it
same_hold : (a b : Option LogHold) → ((p : ℕ) → expiry_by a p ≡ expiry_by b p) → a ≡ b
same_hold None None same = refl
same_hold None (Some h) same = cc (same h.by.0 ∙ own h)
  where
    own : (h : LogHold) → expiry_by (Some h) h.by.0 ≡ Some h.expiry
    own h = ap (λ b. if b then Some h.expiry else None) equal
      where
        equal : (h.by.0 == h.by.0) ≡ true
        equal = grind (arith, nat_tests)
same_hold (Some h) None same = cc (sym (same h.by.0) ∙ own h)
  where
    own : (h : LogHold) → expiry_by (Some h) h.by.0 ≡ Some h.expiry
    own h = ap (λ b. if b then Some h.expiry else None) equal
      where
        equal : (h.by.0 == h.by.0) ≡ true
        equal = grind (arith, nat_tests)
same_hold (Some h) (Some g) same = go (g.by.0 == h.by.0) refl (sym (own h) ∙ same h.by.0)
  where
    own : (h : LogHold) → expiry_by (Some h) h.by.0 ≡ Some h.expiry
    own h = ap (λ b. if b then Some h.expiry else None) equal
      where
        equal : (h.by.0 == h.by.0) ≡ true
        equal = grind (arith, nat_tests)

    taker : (g.by.0 == h.by.0) ≡ true → h.by.0 ≡ g.by.0
    taker e = grind (arith, nat_tests)

    go : (b : Bool) → (g.by.0 == h.by.0) ≡ b → Some h.expiry ≡ (if b then Some g.expiry else None) → Some h ≡ Some g
    go false e f = cc f
    go true e f = let expiry : h.expiry ≡ g.expiry = cc f in λ i. Some (record { by = record { 0 = taker e i }; expiry = expiry i })

module _ (lost : Locks) (are : AreLocks lost) where
  held_all : (s : ℕ) (q : LockId) → (if is_among s parties then held lost s q else None) ≡ held lost s q
  held_all s q = go (cases_lt s 16)
    where
      past_held : 16 ≤ s → held lost s q ≡ None
      past_held past = ap (λ claims. (claim_in claims q).held) (claims_past lost s (omega (arith, past, are.servers)))

      nothing : (b : Bool) → held lost s q ≡ None → (if b then held lost s q else None) ≡ held lost s q
      nothing true e = refl
      nothing false e = sym e

      go : (s < 16) ⊎ (16 ≤ s) → (if is_among s parties then held lost s q else None) ≡ held lost s q
      go (inl below) = ap (λ b. if b then held lost s q else None) (servers_are_parties s below)
      go (inr past) = nothing (is_among s parties) (past_held past)

  wished_all : (s : ℕ) (q : LockId) (w : Mode) → (is_among s parties && is_wished lost s q w) ≡ is_wished lost s q w
  wished_all s q w = go (cases_lt s 16)
    where
      none : (m : Mode) → 16 ≤ s → is_wished lost s q m ≡ false
      none Shared past = ap (λ claims. (claim_in claims q).wishes_shared) (claims_past lost s (omega (arith, past, are.servers)))
      none Sole past = ap (λ claims. (claim_in claims q).wishes_sole) (claims_past lost s (omega (arith, past, are.servers)))

      nothing : (b x : Bool) → x ≡ false → (b && x) ≡ x
      nothing true x e = refl
      nothing false x e = sym e

      go : (s < 16) ⊎ (16 ≤ s) → (is_among s parties && is_wished lost s q w) ≡ is_wished lost s q w
      go (inl below) = ap (λ b. b && is_wished lost s q w) (servers_are_parties s below)
      go (inr past) = nothing (is_among s parties) (is_wished lost s q w) (none w past)

  module _ (takers : TakersAreParties lost) (new : Locks) (are_new : AreLocks new) (is : IsRebuilt (clerks_of lost) new) where
    held_same : (s : ℕ) (q : LockId) → held new s q ≡ held lost s q
    held_same s q = is.held s q ∙ modes_of lost are parties s q ∙ held_all s q

    wishes_same : (s : ℕ) (q : LockId) (w : Mode) → (is_wished new s q w && not (is_free new s q w)) ≡ (is_wished lost s q w && not (is_free lost s q w))
    wishes_same s q w =
        ap (λ x. x && not (is_free new s q w)) (is.wishes s q w ∙ ap (λ x. x && not (is_free new s q w)) (wishes_of_all lost are parties s q w ∙ wished_all s q w))
        ∙ twice (is_wished lost s q w) (not (is_free new s q w))
        ∙ ap (λ f. is_wished lost s q w && not f) (free_same new lost held_same s q w)
      where
        twice : (x y : Bool) → ((x && y) && y) ≡ (x && y)
        twice true true = refl
        twice true false = refl
        twice false y = refl

    log_same : (d : ℕ) → log_hold new d ≡ log_hold lost d
    log_same d = go (cases_lt d 256)
      where
        of_all : (p : ℕ) (h : Option LogHold) → log_hold lost d ≡ h → (if is_among p parties then expiry_by h p else None) ≡ expiry_by h p
        of_all p None e = nothing (is_among p parties)
          where
            nothing : (b : Bool) → ◌≡◌ {A = Option ℕ} (if b then None else None) None
            nothing true = refl
            nothing false = refl
        of_all p (Some h) e = by_party (is_among p parties) refl (h.by.0 == p) refl
          where
            same : (h.by.0 == p) ≡ true → p ≡ h.by.0
            same f = grind (arith, nat_tests)

            by_party : (x : Bool) → is_among p parties ≡ x → (y : Bool) → (h.by.0 == p) ≡ y → (if x then (if y then Some h.expiry else None) else None) ≡ (if y then Some h.expiry else None)
            by_party true f y g = refl
            by_party false f false g = refl
            by_party false f true g = absurd (false≢true (sym f ∙ ap (λ n. is_among n parties) (same g) ∙ takers d h e))

        go : (d < 256) ⊎ (256 ≤ d) → log_hold new d ≡ log_hold lost d
        go (inl below) = same_hold (log_hold new d) (log_hold lost d) (λ p. is.logs p d below ∙ logs_of lost are parties p d ∙ of_all p (log_hold lost d) refl)
        go (inr past) = get_or_past new.logs d None (omega (arith, past, are_new.logs)) ∙ sym (get_or_past lost.logs d None (omega (arith, past, are.logs)))

    pub same_table : SameLocks new lost
    same_table = record { held = held_same; wishes = wishes_same; logs = log_same }
