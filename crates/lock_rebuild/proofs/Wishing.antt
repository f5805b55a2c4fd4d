-- Where the wishes of lists are put into a table, those that it notes and those that are left are those that the lists say and that conflict with a holder.
use Rattle.std.proofs.Common.{◌≡◌, ℕ, ◌<◌, ◌≤◌, ◌==◌, Bool, true, false, not, ◌&&◌, ◌||◌, if◌then◌else◌, List, [], ◌∷◌, refl, sym, ap, ◌∙◌, subst, inl, inr, ◌⊎◌, arith}
use Rattle.std.proofs.lemmas.Bool.{cases_lt, false≢true}
use Rattle.std.proofs.lemmas.Bool.Decides.{nat_tests}
use Rattle.frang_base.specs.declared.lock.LockId.{LockId}
use Rattle.frang_base.specs.declared.lock.Mode.{Mode}
use Rattle.frang_base.specs.declared.lock.Mode.TheVariants.{Shared, Sole}
use Rattle.lock_definitions.specs.declared.claim.Claim.{Claim}
use Rattle.lock_definitions.specs.declared.claim.Wanted.TheVariants.{Granted, Wait}
use Rattle.lock_definitions.specs.declared.lists.ClerkLocks.{ClerkLocks}
use Rattle.lock_definitions.specs.Order.{is_lock}
use Rattle.lock_definitions.specs.Servers.{any_server}
use Rattle.lock_definitions.specs.Locks.{Locks, claim_of, held, is_wished, is_wished_in, AreLocks}
use Rattle.lock_definitions.specs.Calls.{answered, clashes, changed, holders, is_free, wanted, wishing}
use Rattle.lock_definitions.proofs.LockOrder.{found_lock}
use Rattle.lock_definitions.proofs.States.{AreLocks-wanted}
use Rattle.lock_rebuild.specs.Lists.{is_mode, has_in, lists_wish}
use Rattle.lock_rebuild.specs.Rebuilt.{AreServers}
use Rattle.lock_rebuild.specs.Steps.{with_wish, with_wishes, with_all_wishes}
use Rattle.lock_rebuild.proofs.Claiming.{claim_after, held_waiting}

-- what a server wishes by this alone
abbrev pub wish_part : ℕ → LockId → Mode → ℕ → LockId → Mode → Bool
wish_part s lock mode t q w = (s == t) && (is_lock q lock && is_mode w mode)

wishing_adds : (mode w : Mode) (claim : Claim) → is_wished_in (wishing mode claim) w ≡ (is_wished_in claim w || is_mode w mode)
wishing_adds Shared Shared claim = sym (or_true claim.wishes_shared)
  where
    or_true : (b : Bool) → (b || true) ≡ true
    or_true true = refl
    or_true false = refl
wishing_adds Shared Sole claim = sym (or_false claim.wishes_sole)
  where
    or_false : (b : Bool) → (b || false) ≡ b
    or_false true = refl
    or_false false = refl
wishing_adds Sole Shared claim = sym (or_false claim.wishes_shared)
  where
    or_false : (b : Bool) → (b || false) ≡ b
    or_false true = refl
    or_false false = refl
wishing_adds Sole Sole claim = sym (or_true claim.wishes_sole)
  where
    or_true : (b : Bool) → (b || true) ≡ true
    or_true true = refl
    or_true false = refl

same_mode : (a b : Mode) → is_mode a b ≡ true → a ≡ b
same_mode Shared Shared e = refl
same_mode Sole Sole e = refl
same_mode Shared Sole e = absurd (false≢true e)
same_mode Sole Shared e = absurd (false≢true e)

or_none : (b : Bool) → (b || false) ≡ b
or_none true = refl
or_none false = refl

-- tables in which the same is held have the same locks free
pub free_same : (a b : Locks) → ((t : ℕ) (q : LockId) → held a t q ≡ held b t q) → (s : ℕ) (lock : LockId) (mode : Mode) → is_free a s lock mode ≡ is_free b s lock mode
free_same a b same s lock mode i = not (any_server (λ other. not (other == s) && clashes mode (same other lock i)))

-- a want that waits notes the wish
wish_noted : (locks : Locks) → AreLocks locks → (s : ℕ) → s < 16 → (lock : LockId) (mode : Mode) → is_free locks s lock mode ≡ false → (t : ℕ) (q : LockId) (w : Mode)
    → is_wished (wanted locks s lock mode) t q w ≡ (is_wished locks t q w || wish_part s lock mode t q w)
wish_noted locks are s inside lock mode taken t q w =
    ap (λ b. is_wished (changed locks s lock (answered (if b then Granted else Wait (holders locks s lock mode)) mode)) t q w) taken
    ∙ ap (λ c. is_wished_in c w) (claim_after locks are s inside lock (wishing mode) t q)
    ∙ go (s == t) refl (is_lock q lock) refl
  where
    same : (s == t) ≡ true → s ≡ t
    same e = grind (arith, nat_tests)

    go : (b : Bool) → (s == t) ≡ b → (c : Bool) → is_lock q lock ≡ c → is_wished_in (if b then (if c then wishing mode (claim_of locks s lock) else claim_of locks t q) else claim_of locks t q) w ≡ (is_wished locks t q w || (b && (c && is_mode w mode)))
    go true e true d = wishing_adds mode w (claim_of locks s lock) ∙ ap (λ n. is_wished locks n lock w || is_mode w mode) (same e) ∙ ap (λ l. is_wished locks t l w || is_mode w mode) (found_lock q lock d)
    go true e false d = sym (or_none (is_wished locks t q w))
    go false e c d = sym (or_none (is_wished locks t q w))

module _ (all : ℕ → LockId → Mode → Bool) (base : Locks) where
  -- the wishes noted, and those left that conflict with a holder, are all that do; what is held and taken is as it was
  pub record AreWished (rest : ℕ → LockId → Mode → Bool) (locks : Locks) : Type 0 where
    pub are : AreLocks locks
    pub held : (t : ℕ) (q : LockId) → held locks t q ≡ held base t q
    pub logs : locks.logs ≡ base.logs
    pub agrees : (t : ℕ) (q : LockId) (w : Mode) → (is_wished locks t q w || (rest t q w && not (is_free base t q w))) ≡ (all t q w && not (is_free base t q w))

  wished_alike : (rest other : ℕ → LockId → Mode → Bool) (locks : Locks) → ((t : ℕ) (q : LockId) (w : Mode) → other t q w ≡ rest t q w) → AreWished rest locks → AreWished other locks
  wished_alike rest other locks alike put = record {
    are = put.are;
    held = put.held;
    logs = put.logs;
    agrees = λ t q w. ap (λ r. is_wished locks t q w || (r && not (is_free base t q w))) (alike t q w) ∙ put.agrees t q w;
  }

  module _ (s : ℕ) (inside : s < 16) (lock : LockId) (mode : Mode) (rest : ℕ → LockId → Mode → Bool) (locks : Locks) (put : AreWished (λ t q w. wish_part s lock mode t q w || rest t q w) locks) where
    -- whether this wish conflicts
    at_part : (t : ℕ) (q : LockId) (w : Mode) → wish_part s lock mode t q w ≡ true → is_free base t q w ≡ is_free base s lock mode
    at_part t q w is = go (s == t) refl (is_lock q lock) refl (is_mode w mode) refl is
      where
        same : (s == t) ≡ true → t ≡ s
        same e = grind (arith, nat_tests)

        go : (b : Bool) → (s == t) ≡ b → (c : Bool) → is_lock q lock ≡ c → (d : Bool) → is_mode w mode ≡ d → (b && (c && d)) ≡ true → is_free base t q w ≡ is_free base s lock mode
        go true e true f true g h = ap (λ n. is_free base n q w) (same e) ∙ ap (λ l. is_free base s l w) (sym (found_lock q lock f)) ∙ ap (is_free base s lock) (same_mode w mode g)
        go true e true f false g h = absurd (false≢true h)
        go true e false f d g h = absurd (false≢true h)
        go false e c f d g h = absurd (false≢true h)

    wish_one : AreWished rest (with_wish s locks (lock, mode))
    wish_one = go (is_free locks s lock mode) refl
      where
        in_base : (b : Bool) → is_free locks s lock mode ≡ b → is_free base s lock mode ≡ b
        in_base b is = sym (free_same locks base put.held s lock mode) ∙ is

        go : (b : Bool) → is_free locks s lock mode ≡ b → AreWished rest (if b then locks else wanted locks s lock mode)
        go true free = record {
          are = put.are;
          held = put.held;
          logs = put.logs;
          agrees = λ t q w. without t q w (wish_part s lock mode t q w) refl ∙ put.agrees t q w;
        }
          where
            without : (t : ℕ) (q : LockId) (w : Mode) (p : Bool) → wish_part s lock mode t q w ≡ p → (is_wished locks t q w || (rest t q w && not (is_free base t q w))) ≡ (is_wished locks t q w || ((p || rest t q w) && not (is_free base t q w)))
            without t q w false e = refl
            without t q w true e = nothing (is_free base t q w) (rest t q w) (at_part t q w e ∙ in_base true free)
              where
                nothing : (f r : Bool) → f ≡ true → (is_wished locks t q w || (r && not f)) ≡ (is_wished locks t q w || not f)
                nothing true true e = refl
                nothing true false e = refl
                nothing false r e = absurd (false≢true e)
        go false taken = record {
          are = AreLocks-wanted locks put.are s lock mode;
          held = λ t q. held_waiting locks put.are s inside lock mode taken t q ∙ put.held t q;
          logs = put.logs;
          agrees = λ t q w. ap (λ x. x || (rest t q w && not (is_free base t q w))) (wish_noted locks put.are s inside lock mode taken t q w) ∙ with_it t q w (wish_part s lock mode t q w) refl ∙ put.agrees t q w;
        }
          where
            with_it : (t : ℕ) (q : LockId) (w : Mode) (p : Bool) → wish_part s lock mode t q w ≡ p
                → ((is_wished locks t q w || p) || (rest t q w && not (is_free base t q w))) ≡ (is_wished locks t q w || ((p || rest t q w) && not (is_free base t q w)))
            with_it t q w false e = ap (λ x. x || (rest t q w && not (is_free base t q w))) (or_none (is_wished locks t q w))
            with_it t q w true e = noted (is_wished locks t q w) (is_free base t q w) (rest t q w) (at_part t q w e ∙ in_base false taken)
              where
                noted : (x f r : Bool) → f ≡ false → ((x || true) || (r && not f)) ≡ (x || not f)
                noted true f r e = refl
                noted false false r e = refl
                noted false true r e = absurd (false≢true (sym e))

  -- what a server wishes by a list
  abbrev by_list : ℕ → List (LockId × Mode) → ℕ → LockId → Mode → Bool
  by_list s entries t q w = (s == t) && has_in entries q w

  wish_list : (s : ℕ) → s < 16 → (entries : List (LockId × Mode)) (rest : ℕ → LockId → Mode → Bool) (locks : Locks) → AreWished (λ t q w. by_list s entries t q w || rest t q w) locks → AreWished rest (with_wishes s locks entries)
  wish_list s inside [] rest locks put = wished_alike _ rest locks (λ t q w. go (s == t) (rest t q w)) put
    where
      go : (b r : Bool) → r ≡ ((b && false) || r)
      go true r = refl
      go false r = refl
  wish_list s inside (entry ∷ entries) rest locks put =
      wish_list s inside entries rest (with_wish s locks entry)
      (wish_one s inside entry.0 entry.1 (λ t q w. by_list s entries t q w || rest t q w) locks (wished_alike _ _ locks (λ t q w. go (s == t) (is_lock q entry.0 && is_mode w entry.1) (has_in entries q w) (rest t q w)) put))
    where
      go : (b o m r : Bool) → ((b && o) || ((b && m) || r)) ≡ ((b && (o || m)) || r)
      go true true m r = refl
      go true false m r = refl
      go false o m r = refl

  pub wish_lists : (clerks : List ClerkLocks) → AreServers clerks → (locks : Locks) → AreWished (lists_wish clerks) locks → AreWished (λ t q w. false) (with_all_wishes locks clerks)
  wish_lists [] servers locks put = put
  wish_lists (clerk ∷ clerks) servers locks put = wish_lists clerks servers.1 (with_wishes clerk.server.0 locks clerk.wants) (go (cases_lt clerk.server.0 16))
    where
      go : (clerk.server.0 < 16) ⊎ (16 ≤ clerk.server.0) → AreWished (lists_wish clerks) (with_wishes clerk.server.0 locks clerk.wants)
      go (inl inside) = wish_list clerk.server.0 inside clerk.wants (lists_wish clerks) locks put
      go (inr past) = subst (λ entries. AreWished (lists_wish clerks) (with_wishes clerk.server.0 locks entries)) (sym none) (wished_alike _ (lists_wish clerks) locks (λ t q w. nothing (clerk.server.0 == t) (lists_wish clerks t q w) ∙ ap (λ entries. by_list clerk.server.0 entries t q w || lists_wish clerks t q w) (sym none)) put)
        where
          none : clerk.wants ≡ []
          none = (servers.0 past).1

          nothing : (b r : Bool) → r ≡ ((b && false) || r)
          nothing true r = refl
          nothing false r = refl
