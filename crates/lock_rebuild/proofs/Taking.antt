-- Where the logs of lists are put into a table, what the table has and what is left together are what the lists say, before the least clash.
use Rattle.std.proofs.Common.{◌≡◌, ℕ, ◌<◌, ◌≤◌, ◌==◌, Bool, true, false, ◌||◌, if◌then◌else◌, is_some, IsSome, List, [], ◌∷◌, set, get_or, Option, Some, None, refl, sym, ap, ◌∙◌, inl, inr, ◌⊎◌, arith}
use Rattle.std.specs.Prelude.{nat_lt}
use Rattle.std.specs.Option.{option_or}
use Rattle.std.proofs.lemmas.Bool.{cases_eq, cases_lt, false≢true}
use Rattle.std.proofs.lemmas.Bool.Decides.{nat_tests}
use Rattle.std.proofs.lemmas.List.{get_or-set_same, get_or-set_other, set_past, get_or_past}
use Rattle.frang_base.specs.declared.lock.LockId.{LockId}
use Rattle.frang_base.specs.declared.lock.LockId.TheVariants.{Log}
use Rattle.frang_base.specs.declared.sector.ServerId.{ServerId}
use Rattle.lock_definitions.specs.declared.claim.LogHold.{LogHold}
use Rattle.lock_definitions.specs.declared.lists.ClerkLocks.{ClerkLocks}
use Rattle.lock_definitions.specs.Order.{is_lock}
use Rattle.lock_definitions.specs.Locks.{log_hold, AreLocks}
use Rattle.lock_definitions.specs.Calls.{hold_against, log_taken_by, hold_of, taken}
use Rattle.lock_definitions.proofs.LockOrder.{is_lock_equiv}
use Rattle.lock_definitions.proofs.States.{AreLocks-taken}
use Rattle.lock_rebuild.specs.Lists.{expiry_in, listed_expiry}
use Rattle.lock_rebuild.specs.Rebuilt.{expiry_by}
use Rattle.lock_rebuild.specs.Steps.{Rebuilding, is_before, with_log, with_logs, with_all_logs, AreNumbered}
use Rattle.lock_rebuild.proofs.Modes.{or_assoc, or_none}
use Rattle.lock_rebuild.proofs.Before.{less_apart, before_both, before_apart}
use Rattle.lock_rebuild.proofs.Holding.{AtClash}

-- what a party has of a log by this alone
abbrev pub log_part : ℕ → ℕ → ℕ → ℕ → ℕ → Option ℕ
log_part party dead expiry p d = if party == p then (if dead == d then Some expiry else None) else None

-- the logs of two numbers are two
logs_apart : (d dead : ℕ) → is_lock (Log d) (Log dead) ≡ false → d ≡ dead → ⊥
logs_apart d dead differ same = false≢true (sym differ ∙ ap (λ n. is_lock (Log n) (Log dead)) same ∙ is_lock_equiv.refl (Log dead))

no_log_part : (party dead expiry p d : ℕ) → (d ≡ dead → ⊥) → log_part party dead expiry p d ≡ None
no_log_part party dead expiry p d apart = ap (λ c. if party == p then (if c then Some expiry else None) else None) differ ∙ go (party == p)
  where
    differ : (dead == d) ≡ false
    differ = grind (arith, nat_tests)

    go : (b : Bool) → ◌≡◌ {A = Option ℕ} (if b then None else None) None
    go true = refl
    go false = refl

-- what a hold that doesn't stand against a taker becomes
taken_over : (party dead expiry p : ℕ) (hold : Option LogHold) → hold_against party 0 hold ≡ None → option_or (log_part party dead expiry p dead) (expiry_by hold p) ≡ expiry_by (Some (hold_of party expiry)) p
taken_over party dead expiry p hold is = ap (λ c. option_or (if party == p then (if c then Some expiry else None) else None) (expiry_by hold p)) same ∙ go (party == p) refl hold is
  where
    same : (dead == dead) ≡ true
    same = grind (arith, nat_tests)

    other : (by : ℕ) → (party == p) ≡ false → (by == party) ≡ true → (by == p) ≡ false
    other by e f = grind (arith, nat_tests)

    never : (n : ℕ) → nat_lt n 0 ≡ false
    never n = grind (arith, nat_tests)

    own : (h : LogHold) (b c : Bool) → c ≡ false → (h.by.0 == party) ≡ b → ◌≡◌ {A = Option LogHold} (if b || c then None else Some h) None → (h.by.0 == party) ≡ true
    own h true c e f g = f
    own h false false e f g = cc
    own h false true e f g = absurd (false≢true (sym e))

    go : (b : Bool) → (party == p) ≡ b → (h : Option LogHold) → hold_against party 0 h ≡ None → option_or (if b then Some expiry else None) (expiry_by h p) ≡ (if b then Some expiry else None)
    go true e h f = refl
    go false e None f = refl
    go false e (Some h) f = ap (λ c. if c then Some h.expiry else None) (other h.by.0 e (own h (h.by.0 == party) (nat_lt h.expiry 0) (never h.expiry) refl f))

-- a hold that stands against a taker is another's
against_other : (party : ℕ) (hold : Option LogHold) (h : LogHold) → hold_against party 0 hold ≡ Some h → (hold ≡ Some h) × (h.by.0 ≡ party → ⊥)
against_other party None h is = cc
against_other party (Some x) h is = go (x.by.0 == party) (nat_lt x.expiry 0) refl is
  where
    differ : (x.by.0 == party) ≡ false → x.by.0 ≡ party → ⊥
    differ e f = grind (arith, nat_tests)

    taker : Option LogHold → ℕ
    taker None = 0
    taker (Some y) = y.by.0

    go : (b c : Bool) → (x.by.0 == party) ≡ b → (if b || c then None else Some x) ≡ Some h → (Some x ≡ Some h) × (h.by.0 ≡ party → ⊥)
    go true c e f = cc
    go false true e f = cc
    go false false e f = (f, λ same. differ e (ap taker f ∙ same))

right_some : (a b : Option ℕ) → IsSome b → IsSome (option_or a b)
right_some None b some = some
right_some (Some n) b some = refl

left_some : (a b : Option ℕ) → IsSome a → IsSome (option_or a b)
left_some None b some = cc some
left_some (Some n) b some = refl

own_expiry : (h : LogHold) → IsSome (expiry_by (Some h) h.by.0)
own_expiry h = ap (λ b. is_some (if b then Some h.expiry else None)) same
  where
    same : (h.by.0 == h.by.0) ≡ true
    same = grind (arith, nat_tests)

own_log : (party dead expiry : ℕ) → IsSome (log_part party dead expiry party dead)
own_log party dead expiry = ap (λ b. is_some (if b then (if dead == dead then Some expiry else None) else None)) (same party) ∙ ap (λ b. is_some (if b then Some expiry else None)) (same dead)
  where
    same : (n : ℕ) → (n == n) ≡ true
    same n = grind (arith, nat_tests)

module _ (all : ℕ → ℕ → Option ℕ) (base : Rebuilding) (C : LockId → Type 0) (clash : (dead f s : ℕ) → dead < 256 → f < 256 → s < 256 → (s ≡ f → ⊥) → IsSome (all f dead) → IsSome (all s dead) → C (Log dead)) where
  -- before the least clash, what is taken and what is left are all; the claims are as they were; and at the least clash something is so
  pub record AreTaken (rest : ℕ → ℕ → Option ℕ) (at : Rebuilding) : Type 0 where
    pub are : AreLocks at.locks
    pub clerks : at.locks.clerks ≡ base.locks.clerks
    pub before : (q : LockId) → is_before q at.clash ≡ true → is_before q base.clash ≡ true
    pub agrees : (p d : ℕ) → d < 256 → is_before (Log d) at.clash ≡ true → option_or (rest p d) (expiry_by (log_hold at.locks d) p) ≡ all p d
    pub numbered : (d : ℕ) (h : LogHold) → log_hold at.locks d ≡ Some h → h.by.0 < 256
    pub found : AtClash C at.clash

  taken_alike : (rest other : ℕ → ℕ → Option ℕ) (at : Rebuilding) → ((p d : ℕ) → other p d ≡ rest p d) → AreTaken rest at → AreTaken other at
  taken_alike rest other at alike put = record {
    are = put.are;
    clerks = put.clerks;
    before = put.before;
    agrees = λ p d small e. ap (λ o. option_or o (expiry_by (log_hold at.locks d) p)) (alike p d) ∙ put.agrees p d small e;
    numbered = put.numbered;
    found = put.found;
  }

  module _ (party dead expiry : ℕ) (small : party < 256) (rest : ℕ → ℕ → Option ℕ) (at : Rebuilding) (put : AreTaken (λ p d. option_or (rest p d) (log_part party dead expiry p d)) at) where
    abbrev Hold : Option LogHold
    Hold = log_hold at.locks dead

    passed : (p d : ℕ) → d < 256 → (d ≡ dead → ⊥) → is_before (Log d) at.clash ≡ true → option_or (rest p d) (expiry_by (log_hold at.locks d) p) ≡ all p d
    passed p d below apart e = ap (λ o. option_or o (expiry_by (log_hold at.locks d) p)) (sym (or_none (rest p d)) ∙ ap (option_or (rest p d)) (sym (no_log_part party dead expiry p d apart))) ∙ put.agrees p d below e

    log_clash : is_before (Log dead) at.clash ≡ true → (h : LogHold) → log_taken_by at.locks dead party 0 ≡ Some h → C (Log dead)
    log_clash before h is = go (cases_lt dead 256)
      where
        found : (Hold ≡ Some h) × (h.by.0 ≡ party → ⊥)
        found = against_other party Hold h is

        ours : dead < 256 → IsSome (all party dead)
        ours inside = ap is_some (sym (put.agrees party dead inside before)) ∙ left_some (option_or (rest party dead) (log_part party dead expiry party dead)) (expiry_by Hold party) (right_some (rest party dead) (log_part party dead expiry party dead) (own_log party dead expiry))

        theirs : dead < 256 → IsSome (all h.by.0 dead)
        theirs inside = ap is_some (sym (put.agrees h.by.0 dead inside before)) ∙ right_some (option_or (rest h.by.0 dead) (log_part party dead expiry h.by.0 dead)) (expiry_by Hold h.by.0) (ap (λ o. is_some (expiry_by o h.by.0)) found.0 ∙ own_expiry h)

        go : (dead < 256) ⊎ (256 ≤ dead) → C (Log dead)
        go (inl inside) = clash dead party h.by.0 inside small (put.numbered dead h found.0) found.1 (ours inside) (theirs inside)
        go (inr past) = cc (sym (get_or_past at.locks.logs dead None (omega (arith, past, put.are.logs))) ∙ found.0)

    take_one : AreTaken rest (with_log party at (record { 0 = dead }, expiry))
    take_one = go (is_before (Log dead) at.clash) refl
      where
        go : (b : Bool) → is_before (Log dead) at.clash ≡ b → AreTaken rest (if b then record { locks = taken at.locks dead party 0 expiry; clash = if is_some (log_taken_by at.locks dead party 0) then Some (Log dead) else at.clash } else at)
        go false behind = record {
          are = put.are;
          clerks = put.clerks;
          before = put.before;
          agrees = λ p d below e. passed p d below (logs_apart d dead (before_apart (Log d) (Log dead) at.clash e behind)) e;
          numbered = put.numbered;
          found = put.found;
        }
        go true before = by (log_taken_by at.locks dead party 0) refl (AreLocks-taken at.locks put.are dead party 0 expiry)
          where
            Put : List (Option LogHold)
            Put = set at.locks.logs dead (Some (hold_of party expiry))

            own : dead < 256 → get_or Put dead None ≡ Some (hold_of party expiry)
            own inside = get_or-set_same at.locks.logs dead (Some (hold_of party expiry)) None (omega (arith, inside, put.are.logs))

            other : (d : ℕ) → (d ≡ dead → ⊥) → get_or Put d None ≡ log_hold at.locks d
            other d apart = get_or-set_other at.locks.logs dead d (Some (hold_of party expiry)) None apart

            agreed : log_taken_by at.locks dead party 0 ≡ None → (p d : ℕ) → d < 256 → is_before (Log d) at.clash ≡ true → option_or (rest p d) (expiry_by (get_or Put d None) p) ≡ all p d
            agreed none p d below e = at_place (cases_eq d dead)
              where
                at_place : (d ≡ dead) ⊎ (d ≡ dead → ⊥) → option_or (rest p d) (expiry_by (get_or Put d None) p) ≡ all p d
                at_place (inr apart) = ap (λ h. option_or (rest p d) (expiry_by h p)) (other d apart) ∙ passed p d below apart e
                at_place (inl same) =
                    ap (λ n. option_or (rest p d) (expiry_by (get_or Put n None) p)) same
                    ∙ ap (λ h. option_or (rest p d) (expiry_by h p)) (own (omega (arith, same, below)))
                    ∙ ap (option_or (rest p d)) (sym (taken_over party dead expiry p Hold none))
                    ∙ sym (or_assoc (rest p d) (log_part party dead expiry p dead) (expiry_by Hold p))
                    ∙ ap (λ n. option_or (option_or (rest p d) (log_part party dead expiry p n)) (expiry_by (log_hold at.locks n) p)) (sym same)
                    ∙ put.agrees p d below e

            numbered : (d : ℕ) (h : LogHold) → get_or Put d None ≡ Some h → h.by.0 < 256
            numbered d h is = at_place (cases_eq d dead) (cases_lt dead 256)
              where
                taker : Option LogHold → ℕ
                taker None = 0
                taker (Some y) = y.by.0

                at_place : (d ≡ dead) ⊎ (d ≡ dead → ⊥) → (dead < 256) ⊎ (256 ≤ dead) → h.by.0 < 256
                at_place (inl same) (inl inside) = let e : party ≡ h.by.0 = ap taker (sym (own inside) ∙ ap (λ n. get_or Put n None) (sym same) ∙ is) in omega (arith, e, small)
                at_place (inl same) (inr past) = put.numbered d h (ap (λ logs. get_or logs d None) (sym (set_past at.locks.logs dead (Some (hold_of party expiry)) (omega (arith, past, put.are.logs)))) ∙ is)
                at_place (inr apart) b = put.numbered d h (sym (other d apart) ∙ is)

            by : (o : Option LogHold) → log_taken_by at.locks dead party 0 ≡ o → AreLocks (if is_some o then at.locks else record at.locks { logs = Put })
                → AreTaken rest (record { locks = if is_some o then at.locks else record at.locks { logs = Put }; clash = if is_some o then Some (Log dead) else at.clash })
            by None is are = record {
              are = are;
              clerks = put.clerks;
              before = put.before;
              agrees = agreed is;
              numbered = numbered;
              found = put.found;
            }
            by (Some h) is are = record {
              are = put.are;
              clerks = put.clerks;
              before = λ q e. put.before q (before_both q (Log dead) at.clash before e);
              agrees = λ p d below e. passed p d below (logs_apart d dead (less_apart (Log d) (Log dead) e)) (before_both (Log d) (Log dead) at.clash before e);
              numbered = put.numbered;
              found = log_clash before h is;
            }

  -- what a party has by a list
  abbrev by_list : ℕ → List (ServerId × ℕ) → ℕ → ℕ → Option ℕ
  by_list party entries p d = if party == p then expiry_in entries d else None

  take_list : (party : ℕ) → party < 256 → (entries : List (ServerId × ℕ)) (rest : ℕ → ℕ → Option ℕ) (at : Rebuilding) → AreTaken (λ p d. option_or (rest p d) (by_list party entries p d)) at → AreTaken rest (with_logs party at entries)
  take_list party small [] rest at put = taken_alike _ rest at (λ p d. go (party == p) (rest p d)) put
    where
      go : (b : Bool) (r : Option ℕ) → r ≡ option_or r (if b then None else None)
      go true r = sym (or_none r)
      go false r = sym (or_none r)
  take_list party small (entry ∷ entries) rest at put =
      take_list party small entries rest (with_log party at entry)
      (take_one party entry.0.0 entry.1 small (λ p d. option_or (rest p d) (by_list party entries p d)) at (taken_alike _ _ at (λ p d. go (party == p) (if entry.0.0 == d then Some entry.1 else None) (expiry_in entries d) (rest p d)) put))
    where
      go : (b : Bool) (o m r : Option ℕ) → option_or (option_or r (if b then m else None)) (if b then o else None) ≡ option_or r (if b then option_or m o else None)
      go true o m r = or_assoc r m o
      go false o m r = or_none (option_or r None)

  pub take_lists : (clerks : List ClerkLocks) → AreNumbered clerks → (at : Rebuilding) → AreTaken (listed_expiry clerks) at → AreTaken (λ p d. None) (with_all_logs at clerks)
  take_lists [] small at put = put
  take_lists (clerk ∷ clerks) small at put = take_lists clerks small.1 (with_logs clerk.server.0 at clerk.logs) (take_list clerk.server.0 small.0 clerk.logs (listed_expiry clerks) at put)
