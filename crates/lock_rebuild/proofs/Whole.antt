-- All lists are put into a table: where no clash was seen the table is the one that is rebuilt, and else the least clash was seen.
use Rattle.std.proofs.Common.{◌≡◌, ℕ, ◌<◌, ◌≤◌, ◌==◌, Bool, true, false, not, ◌&&◌, ◌||◌, if◌then◌else◌, is_some, IsSome, [], ◌∷◌, List, Option, Some, None, refl, sym, ap, ◌∙◌, subst, inl, inr, ◌⊎◌, arith}
use Rattle.std.specs.Prelude.{nat_lt}
use Rattle.std.specs.Option.{option_or}
use Rattle.std.specs.Ordering.{is_lt}
use Rattle.std.proofs.lemmas.Bool.{cases_lt, false≢true}
use Rattle.std.proofs.lemmas.Bool.Decides.{nat_tests}
use Rattle.frang_base.specs.declared.lock.LockId.{LockId}
use Rattle.frang_base.specs.declared.lock.LockId.TheVariants.{Log, Segment, Node}
use Rattle.frang_base.specs.declared.lock.Mode.{Mode}
use Rattle.frang_base.specs.declared.lock.Mode.TheVariants.{Shared, Sole}
use Rattle.lock_definitions.specs.declared.claim.LogHold.{LogHold}
use Rattle.lock_definitions.specs.declared.lists.ClerkLocks.{ClerkLocks}
use Rattle.lock_definitions.specs.Locks.{Claims, Locks, no_locks, no_clerks, no_logs, claims_of, claim_in, held, is_wished, log_hold, AreCompatible}
use Rattle.lock_definitions.specs.Calls.{is_free, wanted}
use Rattle.std.proofs.lemmas.List.{get_or_past, get_or-replicate, length-replicate}
use Rattle.lock_definitions.proofs.Changes.{claims_past}
use Rattle.lock_definitions.proofs.States.{AreLocks-no_locks}
use Rattle.lock_rebuild.specs.Lists.{stronger, mode_in, expiry_in, listed_mode, lists_wish, listed_expiry, mode_clash, has_log_of, lists_clash, HasNoneBelow, HasNoClash, IsLeastClash}
use Rattle.lock_rebuild.specs.Rebuilt.{AreServers, expiry_by, IsRebuilt}
use Rattle.lock_rebuild.specs.Steps.{Rebuilding, is_before, with_hold, with_holds, with_all_holds, with_all_logs, with_all_wishes, AreNumbered}
use Rattle.lock_rebuild.proofs.Modes.{stronger_none}
use Rattle.lock_rebuild.proofs.Holding.{AtClash, ArePut, put_lists}
use Rattle.lock_rebuild.proofs.Taking.{AreTaken, take_lists}
use Rattle.lock_rebuild.proofs.Wishing.{AreWished, wish_lists, free_same}

-- nothing was put in yet
abbrev pub fresh : Rebuilding
fresh = record { locks = no_locks; clash = None }

-- ---- a table without anything

nothing_claimed : (t : ℕ) → claims_of no_locks t ≡ []
unfolding no_clerks no_logs
nothing_claimed t = go (cases_lt t 16)
  where
    go : (t < 16) ⊎ (16 ≤ t) → claims_of no_locks t ≡ []
    go (inl below) = get_or-replicate 16 t [] [] below
    go (inr above) = claims_past no_locks t (omega (arith, length-replicate {A = Claims} 16 []))

nothing_taken : (d : ℕ) → log_hold no_locks d ≡ None
unfolding no_clerks no_logs
nothing_taken d = go (cases_lt d 256)
  where
    go : (d < 256) ⊎ (256 ≤ d) → log_hold no_locks d ≡ None
    go (inl below) = get_or-replicate {A = Option LogHold} 256 d None None below
    go (inr above) = get_or_past no_locks.logs d None (omega (arith, length-replicate {A = Option LogHold} 256 None))

not_wished : (t : ℕ) (q : LockId) (w : Mode) → is_wished no_locks t q w ≡ false
not_wished t q Shared = ap (λ claims. (claim_in claims q).wishes_shared) (nothing_claimed t)
not_wished t q Sole = ap (λ claims. (claim_in claims q).wishes_sole) (nothing_claimed t)

-- ---- locks that are put in leave the logs

one_keeps_logs : (s : ℕ) (at : Rebuilding) (entry : LockId × Mode) → (with_hold s at entry).locks.logs ≡ at.locks.logs
one_keeps_logs s at entry = go (is_before entry.0 at.clash)
  where
    go : (b : Bool) → (if b then record { locks = wanted at.locks s entry.0 entry.1; clash = if is_free at.locks s entry.0 entry.1 then at.clash else Some entry.0 } else at).locks.logs ≡ at.locks.logs
    go true = refl
    go false = refl

list_keeps_logs : (s : ℕ) (entries : List (LockId × Mode)) (at : Rebuilding) → (with_holds s at entries).locks.logs ≡ at.locks.logs
list_keeps_logs s [] at = refl
list_keeps_logs s (entry ∷ entries) at = list_keeps_logs s entries (with_hold s at entry) ∙ one_keeps_logs s at entry

all_keep_logs : (clerks : List ClerkLocks) (at : Rebuilding) → (with_all_holds at clerks).locks.logs ≡ at.locks.logs
all_keep_logs [] at = refl
all_keep_logs (clerk ∷ clerks) at = all_keep_logs clerks (with_holds clerk.server.0 at clerk.held) ∙ list_keeps_logs clerk.server.0 clerk.held at

-- ---- numbers of servers

unlisted : (clerks : List ClerkLocks) → AreNumbered clerks → (t : ℕ) → 256 ≤ t → (q : LockId) → listed_mode clerks t q ≡ None
unlisted [] small t past q = refl
unlisted (clerk ∷ clerks) small t past q = ap (λ b. stronger (if b then mode_in clerk.held q else None) (listed_mode clerks t q)) differ ∙ unlisted clerks small.1 t past q
  where
    differ : (clerk.server.0 == t) ≡ false
    differ = apart clerk.server.0 small.0
      where
        apart : (n : ℕ) → n < 256 → (n == t) ≡ false
        apart n below = grind (arith, nat_tests)

unlisted_log : (clerks : List ClerkLocks) → AreNumbered clerks → (t : ℕ) → 256 ≤ t → (d : ℕ) → listed_expiry clerks t d ≡ None
unlisted_log [] small t past d = refl
unlisted_log (clerk ∷ clerks) small t past d = ap (λ o. option_or o (if clerk.server.0 == t then expiry_in clerk.logs d else None)) (unlisted_log clerks small.1 t past d) ∙ ap (λ b. if b then expiry_in clerk.logs d else None) differ
  where
    differ : (clerk.server.0 == t) ≡ false
    differ = apart clerk.server.0 small.0
      where
        apart : (n : ℕ) → n < 256 → (n == t) ≡ false
        apart n below = grind (arith, nat_tests)

-- ---- one table

-- holders that are compatible don't clash
pub compatible_modes : (locks : Locks) → AreCompatible locks → (a b : ℕ) (q : LockId) → (b ≡ a → ⊥) → mode_clash (held locks a q) (held locks b q) ≡ false
compatible_modes locks compatible a b q apart = go (held locks a q) refl (held locks b q) refl
  where
    go : (x : Option Mode) → held locks a q ≡ x → (y : Option Mode) → held locks b q ≡ y → mode_clash x y ≡ false
    go None e y f = refl
    go (Some x) e None f = refl
    go (Some Shared) e (Some Shared) f = refl
    go (Some Sole) e (Some y) f = cc (sym (compatible a b q apart e) ∙ f)
    go (Some Shared) e (Some Sole) f = cc (sym (compatible b a q (λ same. apart (sym same)) f) ∙ e)

-- a hold on a log is one party's
pub one_taker : (h : Option LogHold) (a b : ℕ) → (b ≡ a → ⊥) → (is_some (expiry_by h a) && is_some (expiry_by h b)) ≡ false
one_taker None a b apart = refl
one_taker (Some h) a b apart = go (h.by.0 == a) refl (h.by.0 == b) refl
  where
    equal : (n : ℕ) → (h.by.0 == n) ≡ true → h.by.0 ≡ n
    equal n e = grind (arith, nat_tests)

    go : (x : Bool) → (h.by.0 == a) ≡ x → (y : Bool) → (h.by.0 == b) ≡ y → (is_some (if x then Some h.expiry else None) && is_some (if y then Some h.expiry else None)) ≡ false
    go false e y f = refl
    go true e false f = refl
    go true e true f = absurd (apart (sym (equal b f) ∙ equal a e))

-- ---- two servers

module _ (clerks : List ClerkLocks) where
  mode_none : (o : Option Mode) → mode_clash o None ≡ false
  mode_none None = refl
  mode_none (Some mode) = refl

  -- what clashes at a lock, as a test of its two parts
  parts_clash : (lock : LockId) (a b : ℕ) → (b ≡ a → ⊥) → (mode_clash (listed_mode clerks a lock) (listed_mode clerks b lock) ≡ true) ⊎ ((has_log_of clerks lock a && has_log_of clerks lock b) ≡ true) → lists_clash clerks lock a b ≡ true
  parts_clash lock a b apart some = ap (λ e. not e && (mode_clash (listed_mode clerks a lock) (listed_mode clerks b lock) || (has_log_of clerks lock a && has_log_of clerks lock b))) differ ∙ go some
    where
      differ : (b == a) ≡ false
      differ = grind (arith, nat_tests)

      either : (x y : Bool) → y ≡ true → (x || y) ≡ true
      either true y e = refl
      either false y e = e

      go : (mode_clash (listed_mode clerks a lock) (listed_mode clerks b lock) ≡ true) ⊎ ((has_log_of clerks lock a && has_log_of clerks lock b) ≡ true) → (mode_clash (listed_mode clerks a lock) (listed_mode clerks b lock) || (has_log_of clerks lock a && has_log_of clerks lock b)) ≡ true
      go (inl e) = ap (λ x. x || (has_log_of clerks lock a && has_log_of clerks lock b)) e
      go (inr e) = either (mode_clash (listed_mode clerks a lock) (listed_mode clerks b lock)) _ e

  pub none_clash : (lock : LockId) (a b : ℕ) → ((b ≡ a → ⊥) → mode_clash (listed_mode clerks a lock) (listed_mode clerks b lock) ≡ false) → ((b ≡ a → ⊥) → (has_log_of clerks lock a && has_log_of clerks lock b) ≡ false) → lists_clash clerks lock a b ≡ false
  none_clash lock a b modes logs = go (b == a) refl
    where
      apart : (b == a) ≡ false → b ≡ a → ⊥
      apart e same = grind (arith, nat_tests)

      neither : (x y : Bool) → x ≡ false → y ≡ false → (x || y) ≡ false
      neither false y e f = f
      neither true y e f = absurd (false≢true (sym e))

      go : (e : Bool) → (b == a) ≡ e → (not e && (mode_clash (listed_mode clerks a lock) (listed_mode clerks b lock) || (has_log_of clerks lock a && has_log_of clerks lock b))) ≡ false
      go true e = refl
      go false e = neither _ _ (modes (apart e)) (logs (apart e))

module _ (clerks : List ClerkLocks) (servers : AreServers clerks) (numbered : AreNumbered clerks) where
  -- two servers whose lists clash at a lock
  pub record AClash (lock : LockId) : Type 0 where
    pub first : ℕ
    pub second : ℕ
    pub first_small : first < 256
    pub second_small : second < 256
    pub clash : lists_clash clerks lock first second ≡ true

  mode_clashes : (lock : LockId) (f s : ℕ) → f < 256 → s < 256 → (s ≡ f → ⊥) → mode_clash (listed_mode clerks f lock) (listed_mode clerks s lock) ≡ true → AClash lock
  mode_clashes lock f s f_small s_small apart is = record { first = f; second = s; first_small = f_small; second_small = s_small; clash = parts_clash clerks lock f s apart (inl is) }

  log_clashes : (dead f s : ℕ) → dead < 256 → f < 256 → s < 256 → (s ≡ f → ⊥) → IsSome (listed_expiry clerks f dead) → IsSome (listed_expiry clerks s dead) → AClash (Log dead)
  log_clashes dead f s small f_small s_small apart ours theirs = record { first = f; second = s; first_small = f_small; second_small = s_small; clash = parts_clash clerks (Log dead) f s apart (inr (both (below dead small) ours theirs)) }
    where
      below : (n : ℕ) → n < 256 → nat_lt n 256 ≡ true
      below n e = grind (arith, nat_tests)

      both : {x y z : Bool} → x ≡ true → y ≡ true → z ≡ true → ((x && y) && (x && z)) ≡ true
      both e f g i = (e i && f i) && (e i && g i)

  abbrev Held : Rebuilding
  Held = with_all_holds fresh clerks

  abbrev pub Taken : Rebuilding
  Taken = with_all_logs Held clerks

  put : ArePut (listed_mode clerks) AClash mode_clashes (λ t q. None) Held
  put = put_lists (listed_mode clerks) AClash mode_clashes clerks servers fresh (record {
    are = AreLocks-no_locks;
    agrees = λ t q e. ap (λ claims. stronger (claim_in claims q).held (listed_mode clerks t q)) (nothing_claimed t);
    unwished = λ t q w e. not_wished t q w;
    found = tt;
  })

  logs_of_held : Held.locks.logs ≡ no_locks.logs
  logs_of_held = all_keep_logs clerks fresh

  took : AreTaken (listed_expiry clerks) Held AClash log_clashes (λ p d. None) Taken
  took = take_lists (listed_expiry clerks) Held AClash log_clashes clerks numbered Held (record {
    are = put.are;
    clerks = refl;
    before = λ q e. e;
    agrees = λ p d small e. ap (λ h. option_or (listed_expiry clerks p d) (expiry_by h p)) (untaken d) ∙ none_left (listed_expiry clerks p d);
    numbered = λ d h is. cc (sym (untaken d) ∙ is);
    found = put.found;
  })
    where
      untaken : (d : ℕ) → log_hold Held.locks d ≡ None
      untaken d = ap (λ logs. log_hold (record no_locks { logs = logs }) d) logs_of_held ∙ nothing_taken d

      none_left : (o : Option ℕ) → option_or o None ≡ o
      none_left None = refl
      none_left (Some n) = refl

  -- what was put in one after the other
  pub put_in : (new held taken : Rebuilding) → new ≡ fresh → held ≡ with_all_holds new clerks → taken ≡ with_all_logs held clerks → taken ≡ Taken
  put_in new held taken is then_held then_taken = then_taken ∙ ap (λ at. with_all_logs at clerks) (then_held ∙ ap (λ at. with_all_holds at clerks) is)

  -- ---- before the least clash

  -- what is held then is what the lists say
  pub held_then : (t : ℕ) (q : LockId) → is_before q Taken.clash ≡ true → held Taken.locks t q ≡ listed_mode clerks t q
  held_then t q e = ap (λ all. held (record Taken.locks { clerks = all }) t q) took.clerks ∙ sym (stronger_none (held Held.locks t q)) ∙ put.agrees t q (took.before q e)

  pub taken_then : (p d : ℕ) → d < 256 → is_before (Log d) Taken.clash ≡ true → expiry_by (log_hold Taken.locks d) p ≡ listed_expiry clerks p d
  taken_then p d small e = took.agrees p d small e

  logs_then : (q : LockId) → is_before q Taken.clash ≡ true → (a b : ℕ) → (b ≡ a → ⊥) → (has_log_of clerks q a && has_log_of clerks q b) ≡ false
  logs_then (Segment n) e a b apart = refl
  logs_then (Node n) e a b apart = refl
  logs_then (Log d) e a b apart = go (nat_lt d 256) refl
    where
      below : (n : ℕ) → nat_lt n 256 ≡ true → n < 256
      below n is = grind (arith, nat_tests)

      go : (x : Bool) → nat_lt d 256 ≡ x → ((x && is_some (listed_expiry clerks a d)) && (x && is_some (listed_expiry clerks b d))) ≡ false
      go false is = refl
      go true is = sym (λ i. is_some (taken_then a d (below d is) e i) && is_some (taken_then b d (below d is) e i)) ∙ one_taker (log_hold Taken.locks d) a b apart

  pub no_clash_before : (q : LockId) → is_before q Taken.clash ≡ true → (a b : ℕ) → lists_clash clerks q a b ≡ false
  no_clash_before q e a b = none_clash clerks q a b
      (λ apart. sym (λ i. mode_clash (held_then a q e i) (held_then b q e i)) ∙ compatible_modes Taken.locks took.are.compatible a b q apart)
      (λ apart. logs_then q e a b apart)

  -- ---- a clash was seen

  pub seen : (lock : LockId) → Taken.clash ≡ Some lock → AClash lock
  seen lock is = subst (AtClash AClash) is took.found

  -- who isn't numbered clashes with nobody
  unnumbered : (lock : LockId) (a b : ℕ) → 256 ≤ b → lists_clash clerks lock a b ≡ false
  unnumbered lock a b past = none_clash clerks lock a b (λ apart. ap (mode_clash (listed_mode clerks a lock)) (unlisted clerks numbered b past lock) ∙ mode_none clerks (listed_mode clerks a lock)) (λ apart. ap (λ x. has_log_of clerks lock a && x) (no_log lock) ∙ and_false (has_log_of clerks lock a))
    where
      and_false : (x : Bool) → (x && false) ≡ false
      and_false true = refl
      and_false false = refl

      no_log : (q : LockId) → has_log_of clerks q b ≡ false
      no_log (Segment n) = refl
      no_log (Node n) = refl
      no_log (Log d) = ap (λ o. nat_lt d 256 && is_some o) (unlisted_log clerks numbered b past d) ∙ and_false (nat_lt d 256)

  pub least : (lock : LockId) → Taken.clash ≡ Some lock → (first second : ℕ) → lists_clash clerks lock first second ≡ true → HasNoneBelow clerks lock first second → ((a : ℕ) → a < first → HasNoneBelow clerks lock a 256) → IsLeastClash clerks lock first second
  least lock is first second clash seconds firsts = record {
    clash = clash;
    no_lesser_lock = λ other a b less. no_clash_before other (ap (is_before other) is ∙ ap is_lt less) a b;
    no_lesser_first = λ a b below. go a b below (cases_lt b 256);
    no_lesser_second = seconds;
  }
    where
      go : (a b : ℕ) → a < first → (b < 256) ⊎ (256 ≤ b) → lists_clash clerks lock a b ≡ false
      go a b below (inl small) = firsts a below b small
      go a b below (inr past) = unnumbered lock a b past

  pub none_seen : (lock : LockId) → Taken.clash ≡ Some lock → ((a : ℕ) → a < 256 → HasNoneBelow clerks lock a 256) → ⊥
  none_seen lock is none = let found = seen lock is in false≢true (sym (none found.first found.first_small found.second found.second_small) ∙ found.clash)

  -- ---- no clash was seen

  module _ (clear : Taken.clash ≡ None) where
    anywhere : (q : LockId) → is_before q Taken.clash ≡ true
    anywhere q = ap (is_before q) clear

    pub no_clash : HasNoClash clerks
    no_clash lock a b = no_clash_before lock (anywhere lock) a b

    wished : AreWished (lists_wish clerks) Taken.locks (λ t q w. false) (with_all_wishes Taken.locks clerks)
    wished = wish_lists (lists_wish clerks) Taken.locks clerks servers Taken.locks (record {
      are = took.are;
      held = λ t q. refl;
      logs = refl;
      agrees = λ t q w. ap (λ x. x || (lists_wish clerks t q w && not (is_free Taken.locks t q w))) (unwished t q w);
    })
      where
        unwished : (t : ℕ) (q : LockId) (w : Mode) → is_wished Taken.locks t q w ≡ false
        unwished t q w = ap (λ all. is_wished (record Taken.locks { clerks = all }) t q w) took.clerks ∙ put.unwished t q w (took.before q (anywhere q))

    pub rebuilt : (locks : Locks) → locks ≡ with_all_wishes Taken.locks clerks → IsRebuilt clerks locks
    rebuilt locks is = subst (IsRebuilt clerks) (sym is) (record {
      held = λ t q. wished.held t q ∙ held_then t q (anywhere q);
      wishes = λ t q w. sym (or_false (is_wished (with_all_wishes Taken.locks clerks) t q w)) ∙ wished.agrees t q w ∙ ap (λ f. lists_wish clerks t q w && not f) (sym (free_same (with_all_wishes Taken.locks clerks) Taken.locks wished.held t q w));
      logs = λ p d small. ap (λ logs. expiry_by (log_hold (record Taken.locks { logs = logs }) d) p) wished.logs ∙ taken_then p d small (anywhere (Log d));
    })
      where
        or_false : (b : Bool) → (b || false) ≡ b
        or_false true = refl
        or_false false = refl
