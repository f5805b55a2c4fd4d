-- What the lists that a table has say is what the table has.
use Rattle.std.proofs.Common.{◌≡◌, ℕ, zero, suc, ◌+◌, ◌<◌, ◌≤◌, ◌==◌, Bool, true, false, ◌&&◌, ◌||◌, if◌then◌else◌, is_some, List, [], ◌∷◌, ◌++◌, get_or, Option, Some, None, unwrap_or, refl, sym, ap, ◌∙◌, subst, inl, inr, ◌⊎◌, arith}
use Rattle.std.specs.Prelude.{nat_lt}
use Rattle.std.specs.List.{AllByRecursion, range_with_len, cons_option}
use Rattle.std.specs.List.Sorted.{IsStrictlySortedBy}
use Rattle.std.specs.Map.{lookup, keys_of}
use Rattle.std.specs.Option.{option_map, option_or}
use Rattle.std.specs.declared.cmp.Ordering.TheVariants.{Less}
use Rattle.std.proofs.lemmas.Bool.{cases_eq, false≢true}
use Rattle.std.proofs.lemmas.Bool.Decides.{nat_tests}
use Rattle.frang_base.specs.declared.lock.LockId.{LockId}
use Rattle.frang_base.specs.declared.lock.LockId.TheVariants.{Log, Segment, Node}
use Rattle.frang_base.specs.declared.lock.Mode.{Mode}
use Rattle.frang_base.specs.declared.lock.Mode.TheVariants.{Shared, Sole}
use Rattle.lock_definitions.specs.declared.claim.Claim.{Claim}
use Rattle.lock_definitions.specs.declared.claim.LogHold.{LogHold}
use Rattle.lock_definitions.specs.Order.{lock_cmp, is_lock}
use Rattle.lock_definitions.specs.Locks.{Claims, Locks, no_claim, claim_in, claims_of, held, is_wished, is_wished_in, log_hold, AreLocks}
use Rattle.lock_definitions.proofs.Changes.{claims_past}
use Rattle.lock_definitions.proofs.LockOrder.{found_lock, locks}
use Rattle.lock_table.specs.Asked.{servers}
use Rattle.known_locks.specs.Listed.{held_in, wishes_of, wishes_in, log_by, logs_from, parties}
use Rattle.known_locks.proofs.Listing.{wishes_first}
use Rattle.known_locks.proofs.SameEntries.{absent}
use Rattle.lock_rebuild.specs.Lists.{stronger, is_mode, mode_in, has_in, expiry_in, listed_mode, lists_wish, listed_expiry, mode_clash, has_log_of, HasNoClash}
use Rattle.lock_rebuild.specs.Rebuilt.{AreServers, expiry_by}
use Rattle.lock_rebuild.specs.Missing.{is_among, lists_of}
use Rattle.lock_rebuild.proofs.Modes.{stronger_none, stronger_same, or_none}
use Rattle.lock_rebuild.proofs.Whole.{compatible_modes, one_taker, none_clash}

-- ---- one list

module _ (q : LockId) where
  mode_missed : (claims : Claims) → lookup (is_lock q) claims ≡ None → mode_in (held_in claims) q ≡ None
  mode_missed [] missed = refl
  mode_missed (entry ∷ claims) missed = go (is_lock q entry.0) refl missed entry.1.held (mode_missed claims)
    where
      go : (b : Bool) → is_lock q entry.0 ≡ b → (if b then Some entry.1 else lookup (is_lock q) claims) ≡ None → (h : Option Mode) → (lookup (is_lock q) claims ≡ None → mode_in (held_in claims) q ≡ None) → mode_in (cons_option (option_map (λ mode. (entry.0, mode)) h) (held_in claims)) q ≡ None
      go true e f h rest = cc f
      go false e f None rest = rest f
      go false e f (Some mode) rest = ap (λ b. stronger (if b then Some mode else None) (mode_in (held_in claims) q)) e ∙ rest f

  gone : (entry : LockId × Claim) (claims : Claims) → is_lock q entry.0 ≡ true → AllByRecursion (λ k. lock_cmp entry.0 k ≡ Less) (keys_of claims) → lookup (is_lock q) claims ≡ None
  gone entry claims same above = subst (λ k. lookup (is_lock k) claims ≡ None) (found_lock q entry.0 same) (absent locks entry.0 claims above)

  pub mode_listed : (claims : Claims) → IsStrictlySortedBy lock_cmp (keys_of claims) → mode_in (held_in claims) q ≡ (claim_in claims q).held
  unfolding IsStrictlySortedBy
  mode_listed [] sorted = refl
  mode_listed (entry ∷ claims) sorted = go (is_lock q entry.0) refl entry.1.held refl (mode_listed claims sorted.1)
    where
      go : (b : Bool) → is_lock q entry.0 ≡ b → (h : Option Mode) → entry.1.held ≡ h → mode_in (held_in claims) q ≡ (claim_in claims q).held → mode_in (cons_option (option_map (λ mode. (entry.0, mode)) h) (held_in claims)) q ≡ (unwrap_or (if b then Some entry.1 else lookup (is_lock q) claims) no_claim).held
      go true e None f rest = mode_missed claims (gone entry claims e sorted.0) ∙ sym f
      go true e (Some mode) f rest = ap (λ b. stronger (if b then Some mode else None) (mode_in (held_in claims) q)) e ∙ ap (stronger (Some mode)) (mode_missed claims (gone entry claims e sorted.0)) ∙ stronger_none (Some mode) ∙ sym f
      go false e None f rest = rest
      go false e (Some mode) f rest = ap (λ b. stronger (if b then Some mode else None) (mode_in (held_in claims) q)) e ∙ rest

  module _ (w : Mode) where
    has_both : (a b : List (LockId × Mode)) → has_in (a ++ b) q w ≡ (has_in a q w || has_in b q w)
    has_both [] b = refl
    has_both (entry ∷ a) b = ap (λ x. (is_lock q entry.0 && is_mode w entry.1) || x) (has_both a b) ∙ assoc (is_lock q entry.0 && is_mode w entry.1) (has_in a q w) (has_in b q w)
      where
        assoc : (x y z : Bool) → (x || (y || z)) ≡ ((x || y) || z)
        assoc true y z = refl
        assoc false y z = refl

    has_own : (entry : LockId × Claim) → has_in (wishes_of entry) q w ≡ (is_lock q entry.0 && is_wished_in entry.1 w)
    has_own entry = go w entry.1.wishes_shared refl entry.1.wishes_sole refl (is_lock q entry.0)
      where
        none : (x : Bool) → (x && false) ≡ false
        none true = refl
        none false = refl

        go : (m : Mode) (a : Bool) → entry.1.wishes_shared ≡ a → (b : Bool) → entry.1.wishes_sole ≡ b → (x : Bool) → has_in ((if a then (entry.0, Shared) ∷ [] else []) ++ (if b then (entry.0, Sole) ∷ [] else [])) q m ≡ (is_lock q entry.0 && is_wished_in entry.1 m)
        go Shared true e true f x = three (is_lock q entry.0) ∙ ap (λ y. is_lock q entry.0 && y) (sym e)
          where
            three : (x : Bool) → ((x && true) || ((x && false) || false)) ≡ (x && true)
            three true = refl
            three false = refl
        go Shared true e false f x = two (is_lock q entry.0) ∙ ap (λ y. is_lock q entry.0 && y) (sym e)
          where
            two : (x : Bool) → ((x && true) || false) ≡ (x && true)
            two true = refl
            two false = refl
        go Shared false e true f x = two (is_lock q entry.0) ∙ ap (λ y. is_lock q entry.0 && y) (sym e)
          where
            two : (x : Bool) → ((x && false) || false) ≡ (x && false)
            two true = refl
            two false = refl
        go Shared false e false f x = sym (none (is_lock q entry.0)) ∙ ap (λ y. is_lock q entry.0 && y) (sym e)
        go Sole true e true f x = three (is_lock q entry.0) ∙ ap (λ y. is_lock q entry.0 && y) (sym f)
          where
            three : (x : Bool) → ((x && false) || ((x && true) || false)) ≡ (x && true)
            three true = refl
            three false = refl
        go Sole false e true f x = two (is_lock q entry.0) ∙ ap (λ y. is_lock q entry.0 && y) (sym f)
          where
            two : (x : Bool) → ((x && true) || false) ≡ (x && true)
            two true = refl
            two false = refl
        go Sole true e false f x = two (is_lock q entry.0) ∙ ap (λ y. is_lock q entry.0 && y) (sym f)
          where
            two : (x : Bool) → ((x && false) || false) ≡ (x && false)
            two true = refl
            two false = refl
        go Sole false e false f x = sym (none (is_lock q entry.0)) ∙ ap (λ y. is_lock q entry.0 && y) (sym f)

    has_first : (entry : LockId × Claim) (claims : Claims) → has_in (wishes_in (entry ∷ claims)) q w ≡ ((is_lock q entry.0 && is_wished_in entry.1 w) || has_in (wishes_in claims) q w)
    has_first entry claims = ap (λ list. has_in list q w) (wishes_first entry claims) ∙ has_both (wishes_of entry) (wishes_in claims) ∙ ap (λ x. x || has_in (wishes_in claims) q w) (has_own entry)

    wish_missed : (claims : Claims) → lookup (is_lock q) claims ≡ None → has_in (wishes_in claims) q w ≡ false
    wish_missed [] missed = refl
    wish_missed (entry ∷ claims) missed = has_first entry claims ∙ go (is_lock q entry.0) missed (wish_missed claims)
      where
        go : (b : Bool) → (if b then Some entry.1 else lookup (is_lock q) claims) ≡ None → (lookup (is_lock q) claims ≡ None → has_in (wishes_in claims) q w ≡ false) → ((b && is_wished_in entry.1 w) || has_in (wishes_in claims) q w) ≡ false
        go true f rest = cc f
        go false f rest = rest f

    pub wish_listed : (claims : Claims) → IsStrictlySortedBy lock_cmp (keys_of claims) → has_in (wishes_in claims) q w ≡ is_wished_in (claim_in claims q) w
    unfolding IsStrictlySortedBy
    wish_listed [] sorted = sym (nothing w)
      where
        nothing : (m : Mode) → is_wished_in no_claim m ≡ false
        nothing Shared = refl
        nothing Sole = refl
    wish_listed (entry ∷ claims) sorted = has_first entry claims ∙ go (is_lock q entry.0) refl (wish_listed claims sorted.1)
      where
        or_false : (b : Bool) → (b || false) ≡ b
        or_false true = refl
        or_false false = refl

        go : (b : Bool) → is_lock q entry.0 ≡ b → has_in (wishes_in claims) q w ≡ is_wished_in (claim_in claims q) w → ((b && is_wished_in entry.1 w) || has_in (wishes_in claims) q w) ≡ is_wished_in (unwrap_or (if b then Some entry.1 else lookup (is_lock q) claims) no_claim) w
        go true e rest = ap (λ x. is_wished_in entry.1 w || x) (wish_missed claims (gone entry claims e sorted.0)) ∙ or_false (is_wished_in entry.1 w)
        go false e rest = rest

-- ---- logs

module _ (party : ℕ) where
  behind : (holds : List (Option LogHold)) (k d : ℕ) → d < k → expiry_in (logs_from party k holds) d ≡ None
  behind [] k d below = refl
  behind (hold ∷ holds) k d below = go hold (behind holds (suc k) d (omega (arith, below)))
    where
      differ : (k == d) ≡ false
      differ = grind (arith, nat_tests)

      some : (h : LogHold) (b : Bool) → expiry_in (logs_from party (suc k) holds) d ≡ None → expiry_in (cons_option (if b then Some (record { 0 = k }, h.expiry) else None) (logs_from party (suc k) holds)) d ≡ None
      some h true rest = ap (λ o. option_or o (if k == d then Some h.expiry else None)) rest ∙ ap (λ b. if b then Some h.expiry else None) differ
      some h false rest = rest

      go : (o : Option LogHold) → expiry_in (logs_from party (suc k) holds) d ≡ None → expiry_in (cons_option (log_by party k o) (logs_from party (suc k) holds)) d ≡ None
      go None rest = rest
      go (Some h) rest = some h (h.by.0 == party) rest

  log_listed : (holds : List (Option LogHold)) (k i : ℕ) → expiry_in (logs_from party k holds) (k + i) ≡ expiry_by (get_or holds i None) party
  log_listed [] k i = refl
  log_listed (hold ∷ holds) k zero = go hold
    where
      same : (k == k + 0) ≡ true
      same = grind (arith, nat_tests)

      none : expiry_in (logs_from party (suc k) holds) (k + 0) ≡ None
      none = behind holds (suc k) (k + 0) (omega arith)

      some : (h : LogHold) (b : Bool) → expiry_in (cons_option (if b then Some (record { 0 = k }, h.expiry) else None) (logs_from party (suc k) holds)) (k + 0) ≡ (if b then Some h.expiry else None)
      some h true = ap (λ o. option_or o (if k == k + 0 then Some h.expiry else None)) none ∙ ap (λ b. if b then Some h.expiry else None) same
      some h false = none

      go : (o : Option LogHold) → expiry_in (cons_option (log_by party k o) (logs_from party (suc k) holds)) (k + 0) ≡ expiry_by o party
      go None = none
      go (Some h) = some h (h.by.0 == party)
  log_listed (hold ∷ holds) k (suc i) = go hold (ap (expiry_in (logs_from party (suc k) holds)) (more k i) ∙ log_listed holds (suc k) i)
    where
      differ : (k == k + suc i) ≡ false
      differ = grind (arith, nat_tests)

      more : (a b : ℕ) → a + suc b ≡ suc a + b
      more a b = omega arith

      some : (h : LogHold) (b : Bool) → expiry_in (logs_from party (suc k) holds) (k + suc i) ≡ expiry_by (get_or holds i None) party → expiry_in (cons_option (if b then Some (record { 0 = k }, h.expiry) else None) (logs_from party (suc k) holds)) (k + suc i) ≡ expiry_by (get_or holds i None) party
      some h true rest = ap (λ b. option_or (expiry_in (logs_from party (suc k) holds) (k + suc i)) (if b then Some h.expiry else None)) differ ∙ or_none (expiry_in (logs_from party (suc k) holds) (k + suc i)) ∙ rest
      some h false rest = rest

      go : (o : Option LogHold) → expiry_in (logs_from party (suc k) holds) (k + suc i) ≡ expiry_by (get_or holds i None) party → expiry_in (cons_option (log_by party k o) (logs_from party (suc k) holds)) (k + suc i) ≡ expiry_by (get_or holds i None) party
      go None rest = rest
      go (Some h) rest = some h (h.by.0 == party) rest

-- ---- lists of several

module _ (lost : Locks) (are : AreLocks lost) where
  same_number : (p s : ℕ) → (p == s) ≡ true → p ≡ s
  same_number p s e = grind (arith, nat_tests)

  pub modes_of : (ps : List ℕ) (s : ℕ) (q : LockId) → listed_mode (lists_of lost ps) s q ≡ (if is_among s ps then held lost s q else None)
  modes_of [] s q = refl
  modes_of (p ∷ ps) s q = ap (stronger (if p == s then mode_in (held_in (claims_of lost p)) q else None)) (modes_of ps s q) ∙ go (p == s) refl (is_among s ps)
    where
      own : p ≡ s → mode_in (held_in (claims_of lost p)) q ≡ held lost s q
      own e = mode_listed q (claims_of lost p) (are.claims p).ordered ∙ ap (λ n. held lost n q) e

      go : (b : Bool) → (p == s) ≡ b → (c : Bool) → stronger (if b then mode_in (held_in (claims_of lost p)) q else None) (if c then held lost s q else None) ≡ (if b || c then held lost s q else None)
      go false e c = refl
      go true e true = ap (λ o. stronger o (held lost s q)) (own (same_number p s e)) ∙ stronger_same (held lost s q)
      go true e false = stronger_none (mode_in (held_in (claims_of lost p)) q) ∙ own (same_number p s e)

  pub wishes_of_all : (ps : List ℕ) (s : ℕ) (q : LockId) (w : Mode) → lists_wish (lists_of lost ps) s q w ≡ (is_among s ps && is_wished lost s q w)
  wishes_of_all [] s q w = refl
  wishes_of_all (p ∷ ps) s q w = ap (λ x. ((p == s) && has_in (wishes_in (claims_of lost p)) q w) || x) (wishes_of_all ps s q w) ∙ go (p == s) refl (is_among s ps)
    where
      own : p ≡ s → has_in (wishes_in (claims_of lost p)) q w ≡ is_wished lost s q w
      own e = wish_listed q w (claims_of lost p) (are.claims p).ordered ∙ ap (λ n. is_wished lost n q w) e

      twice : (x c : Bool) → (x || (c && x)) ≡ x
      twice true c = refl
      twice false true = refl
      twice false false = refl

      go : (b : Bool) → (p == s) ≡ b → (c : Bool) → ((b && has_in (wishes_in (claims_of lost p)) q w) || (c && is_wished lost s q w)) ≡ ((b || c) && is_wished lost s q w)
      go false e c = refl
      go true e c = ap (λ x. x || (c && is_wished lost s q w)) (own (same_number p s e)) ∙ twice (is_wished lost s q w) c

  pub logs_of : (ps : List ℕ) (p d : ℕ) → listed_expiry (lists_of lost ps) p d ≡ (if is_among p ps then expiry_by (log_hold lost d) p else None)
  logs_of [] p d = refl
  logs_of (x ∷ ps) p d = ap (λ o. option_or o (if x == p then expiry_in (logs_from x 0 lost.logs) d else None)) (logs_of ps p d) ∙ go (x == p) refl (is_among p ps)
    where
      own : x ≡ p → expiry_in (logs_from x 0 lost.logs) d ≡ expiry_by (log_hold lost d) p
      own e = ap (expiry_in (logs_from x 0 lost.logs)) (from_none d) ∙ log_listed x lost.logs 0 d ∙ ap (expiry_by (log_hold lost d)) e
        where
          from_none : (n : ℕ) → n ≡ 0 + n
          from_none n = omega arith

      twice : (o : Option ℕ) → option_or o o ≡ o
      twice None = refl
      twice (Some n) = refl

      go : (b : Bool) → (x == p) ≡ b → (c : Bool) → option_or (if c then expiry_by (log_hold lost d) p else None) (if b then expiry_in (logs_from x 0 lost.logs) d else None) ≡ (if b || c then expiry_by (log_hold lost d) p else None)
      go false e true = or_none (expiry_by (log_hold lost d) p)
      go false e false = refl
      go true e true = ap (option_or (expiry_by (log_hold lost d) p)) (own (same_number x p e)) ∙ twice (expiry_by (log_hold lost d) p)
      go true e false = own (same_number x p e)

  -- ---- what lists of a table always are

  pub lists_of_servers : (ps : List ℕ) → AreServers (lists_of lost ps)
  lists_of_servers [] = tt
  lists_of_servers (p ∷ ps) = ((λ past. (ap held_in (none past), ap wishes_in (none past))), lists_of_servers ps)
    where
      none : 16 ≤ p → claims_of lost p ≡ []
      none past = claims_past lost p (omega (arith, past, are.servers))

  pub lists_without_clash : (ps : List ℕ) → HasNoClash (lists_of lost ps)
  lists_without_clash ps lock a b = none_clash (lists_of lost ps) lock a b
      (λ apart. (λ i. mode_clash (modes_of ps a lock i) (modes_of ps b lock i)) ∙ modes (is_among a ps) (is_among b ps) apart)
      (λ apart. logs lock apart)
    where
      modes : (x y : Bool) → (b ≡ a → ⊥) → mode_clash (if x then held lost a lock else None) (if y then held lost b lock else None) ≡ false
      modes false y apart = refl
      modes true false apart = none (held lost a lock)
        where
          none : (o : Option Mode) → mode_clash o None ≡ false
          none None = refl
          none (Some mode) = refl
      modes true true apart = compatible_modes lost are.compatible a b lock apart

      taken : (d : ℕ) (x y c : Bool) → (b ≡ a → ⊥) → ((c && is_some (if x then expiry_by (log_hold lost d) a else None)) && (c && is_some (if y then expiry_by (log_hold lost d) b else None))) ≡ false
      taken d x y false apart = refl
      taken d false y true apart = refl
      taken d true true true apart = one_taker (log_hold lost d) a b apart
      taken d true false true apart = none (is_some (expiry_by (log_hold lost d) a))
        where
          none : (x : Bool) → (x && false) ≡ false
          none true = refl
          none false = refl

      logs : (q : LockId) → (b ≡ a → ⊥) → (has_log_of (lists_of lost ps) q a && has_log_of (lists_of lost ps) q b) ≡ false
      logs (Segment n) apart = refl
      logs (Node n) apart = refl
      logs (Log d) apart = (λ i. (nat_lt d 256 && is_some (logs_of ps a d i)) && (nat_lt d 256 && is_some (logs_of ps b d i))) ∙ taken d (is_among a ps) (is_among b ps) (nat_lt d 256) apart

-- ---- the parties

range_has : (n k s : ℕ) → k ≤ s → s < k + n → is_among s (range_with_len k n) ≡ true
range_has zero k s low high = absurd (omega arith)
range_has (suc n) k s low high = go (k == s) refl (cases_eq k s) (range_has n (k + 1) s)
  where
    go : (b : Bool) → (k == s) ≡ b → (k ≡ s) ⊎ (k ≡ s → ⊥) → (k + 1 ≤ s → s < k + 1 + n → is_among s (range_with_len (k + 1) n) ≡ true) → (b || is_among s (range_with_len (k + 1) n)) ≡ true
    go true e c rest = refl
    go false e (inl same) rest = absurd (differ e same)
      where
        differ : (k == s) ≡ false → k ≡ s → ⊥
        differ e same = grind (arith, nat_tests)
    go false e (inr apart) rest = rest (omega (arith, low, apart)) (omega (arith, high))

among_left : (s : ℕ) (a b : List ℕ) → is_among s a ≡ true → is_among s (a ++ b) ≡ true
among_left s [] b e = absurd (false≢true e)
among_left s (n ∷ a) b e = go (n == s) e (among_left s a b)
  where
    go : (c : Bool) → (c || is_among s a) ≡ true → (is_among s a ≡ true → is_among s (a ++ b) ≡ true) → (c || is_among s (a ++ b)) ≡ true
    go true f rest = refl
    go false f rest = rest f

-- each server is a party
pub servers_are_parties : (s : ℕ) → s < 16 → is_among s parties ≡ true
unfolding parties servers
servers_are_parties s below = among_left s (range_with_len 0 16) (255 ∷ []) (range_has 16 0 s (omega arith) (omega (arith, below)))
