-- Over every run: a noted wish of a server that is Up is for the lock that its line must ask next, and one that is Still has none. Event by event.
use Rattle.std.proofs.Common.{◌≡◌, ℕ, ◌<◌, ◌⊎◌, inl, inr, Bool, true, false, not, ◌&&◌, ◌||◌, ◌==◌, ◌+◌, ◌%◌, if◌then◌else◌, IsTrue, is_some, length, [], Option, Some, None, nat_eq, refl, sym, ap, ◌∙◌, subst, arith}
use Rattle.std.proofs.lemmas.Bool.{cases_eq, false≢true, not-true, and_parts, or_right, or_left, eqb-true}
use Rattle.std.proofs.lemmas.Bool.Decides.{nat_tests}
use Rattle.std.proofs.lemmas.List.{get_or-set_other}
use Rattle.std.specs.Option.{option_map}
use Rattle.std.specs.Prelude.{slice_set}
use Rattle.std.proofs.lemmas.Option.{none-some}
use Rattle.frang_base.specs.Functions.{put}
use Rattle.frang_base.specs.declared.lock.LockId.{LockId}
use Rattle.frang_base.specs.declared.lock.LockId.TheVariants.{Log}
use Rattle.frang_base.specs.declared.lock.Mode.{Mode}
use Rattle.frang_base.specs.declared.lock.Mode.TheVariants.{Shared, Sole}
use Rattle.frang_base.specs.declared.op.Op.{Op}
use Rattle.frang_base.specs.declared.op.Op.TheVariants as op
use Rattle.frang_base.specs.declared.reply.Reply.{Reply}
use Rattle.frang_base.specs.declared.reply.Reply.TheVariants as reply
use Rattle.frang_base.specs.declared.script.Line.{Line}
use Rattle.lock_definitions.specs.declared.claim.AskedFor.{AskedFor}
use Rattle.lock_definitions.specs.declared.claim.AskedFor.TheVariants.{Release, Downgrade}
use Rattle.lock_definitions.specs.declared.claim.Claim.{Claim}
use Rattle.lock_definitions.specs.declared.claim.Wanted.{Wanted}
use Rattle.lock_definitions.specs.declared.claim.Wanted.TheVariants.{Granted, Wait}
use Rattle.lock_definitions.specs.Calls.{answered as wanted_by, asked_for, changed, cleared, given_up, granted, hold_of, holding, is_free, log_taken_by, serves, shared, taken, want_answer, wanted, wishing}
use Rattle.lock_definitions.specs.Locks.{AreClaims, AreLocks, Locks, claim_in, claim_of, claims_of, is_wished, is_wished_in}
use Rattle.lock_definitions.specs.Order.{is_lock}
use Rattle.lock_definitions.specs.Same.{AllWishesWait, SameLocks, waits}
use Rattle.lock_definitions.proofs.Changes.{IsChanged, claim_of-changed, other_claims, own_claim}
use Rattle.lock_definitions.proofs.LockOrder.{found_lock, is_lock_equiv}
use Rattle.lock_definitions.proofs.Wants.{no_claims_left, none_wished}
use Rattle.disk_definitions.specs.Plans.{Lock}
use Rattle.tree_definitions.specs.Apply.{is_path_op}
use Rattle.tree_definitions.specs.Touched.{is_ok, is_unmount}
use Rattle.sector_bytes.specs.Blocks.{Block}
use Rattle.sector_bytes.specs.SectorMaps.{value_at}
use Rattle.sector_bytes.specs.Sectors.{Sectors}
use Rattle.core_definitions.specs.Flights.{Flight, InPlace, OfLog, OfRecovery, Purpose}
use Rattle.core_definitions.specs.Lines.{Stage, Asking, Fetching, Moving, Stopping, Growing, Clearing, Finishing, Under, operation_of}
use Rattle.core_definitions.specs.Logs.{is_read}
use Rattle.core_definitions.specs.Recoveries.{Recovery}
use Rattle.core_definitions.specs.Scripts.{host_party}
use Rattle.core_definitions.specs.Servers.{Phase, Off, Up, Still, Doomed, Dead, Server, asked_by, asks, due_if, due_under, is_answering, is_off, is_open, is_still, is_up, own_answer, own_answer_of, wanting_all, wanting_all_up}
use Rattle.set_definitions.specs.Sets.{has_lock, held_set}
use Rattle.core_definitions.specs.Settings.{Setting}
use Rattle.core_definitions.specs.Writes.{Write, comes_clean}
use Rattle.core_definitions.specs.Cores.{Core, clean_at, due_at, expiry_of, next_of, stage, with_server, writes}
use Rattle.core_definitions.specs.Events.{Event, Begin, Ask, Fetch, Again, Clear, Commit, Answer, Give, Issue, Doom, Resume, Arrive, Lose, Die, Renew, Tick, Recover, Load, Look, Finish, HostLine, Close, Read, Show, End, Heard, Nothing, Got, GetFailed, Written, Late, PutFailed}
use Rattle.core_definitions.specs.LineGuards.{CanBegin, is_server}
use Rattle.core_definitions.specs.WriteGuards.{CanGive, set_under}
use Rattle.core_definitions.specs.LineEffects.{again_by, answered_by, answered_open, answered_under, answered_with, begun_line, begun_with, cached_under, call_failed, committed, committed_at, committed_by, cover_needed, failed_by, fetch_failed, fetched_by, off_after, refused_under, slot_read, with_under}
use Rattle.core_definitions.specs.WriteEffects.{acknowledged, arrived_as, arrived_from, clean_now, died_in, given_for, issued_as, landed, taken_in, up_again}
use Rattle.core_definitions.specs.EndEffects.{finished_by, finished_from, host_answered_line}
use Rattle.core_definitions.specs.Effects.{after}
use Rattle.core_definitions.specs.Runs.{State, Step, Event_, Enter, Hold, Flush, Relock, Note, Peek, PeekFails, Run, first_state, Makes}
use Rattle.core_laws.proofs.Along.{along}
use Rattle.core_laws.proofs.Keeping.{locks_of_run}
use Rattle.core_laws.proofs.Memory.{given_due, opened}
use Rattle.core_laws.proofs.Unheld.{Bare, bare_of_run}
use Rattle.core_laws.proofs.Asked.{Claiming, Wishes, asked_next, asked_under, asks_stage, first_lacking, held_same, next_stays, serves_need, stage_asks, wishes_same}

-- ---- what the core keeps

-- Up or Still
abbrev lives : Phase → Bool
lives phase = is_up phase || is_still phase

abbrev Wishing : Core → Type 0
Wishing c = (a : ℕ) → IsTrue (is_server a) → IsTrue (lives (c.servers a).phase) → Wishes (claim_of c.locks a) (c.servers a)

-- the same claims
abbrev SameClaims : Locks → Locks → ℕ → Type 0
SameClaims old new a = (lock : LockId) → claim_of new a lock ≡ claim_of old a lock

same_claims : (locks : Locks) (a : ℕ) → SameClaims locks locks a
same_claims locks a lock = refl

-- one server changes, and no other's claims do
moved : (c d : Core) (a : ℕ) (new : Server) → d.servers ≡ put c.servers a new → ((i : ℕ) → (i ≡ a → ⊥) → SameClaims c.locks d.locks i) →
    (IsTrue (is_server a) → IsTrue (lives new.phase) → Wishes (claim_of d.locks a) new) → Wishing c → Wishing d
moved c d a new servers same own w i server t = subst (λ f. Wishes (claim_of d.locks i) (f i)) (sym servers) (go (nat_eq i a) refl (subst (λ f. IsTrue (lives (f i).phase)) servers t))
  where
    apart : nat_eq i a ≡ false → i ≡ a → ⊥
    apart e f = absurd (grind (arith, nat_tests, e, f))

    go : (b : Bool) → nat_eq i a ≡ b → IsTrue (lives (if b then new else c.servers i).phase) → Wishes (claim_of d.locks i) (if b then new else c.servers i)
    go true e t = subst (λ n. Wishes (claim_of d.locks n) new) (sym (eqb-true i a e)) (own (subst (λ n. IsTrue (is_server n)) (eqb-true i a e) server) t)
    go false e t = wishes_same (claim_of c.locks i) (claim_of d.locks i) (same i (apart e)) (c.servers i) (w i server t)

-- where its line must ask the same
abbrev AsksSame : Server → Server → Type 0
AsksSame old new = ((IsTrue (lives new.phase) → IsTrue (lives old.phase)) × ((claim : Claiming) → asked_next claim new ≡ asked_next claim old))

steady : (c : Core) (a : ℕ) (new : Server) → AsksSame (c.servers a) new → Wishing c → Wishing (record c { servers = put c.servers a new })
steady c a new same w =
    moved c (record c { servers = put c.servers a new }) a new refl (λ i apart. same_claims c.locks i)
    (λ server t lock mode h. same.1 (claim_of c.locks a) ∙ w a server (same.0 t) lock mode h) w

-- every server's line must ask the same, and no claim changes
calm : (c d : Core) → ((i : ℕ) → AsksSame (c.servers i) (d.servers i)) → ((i : ℕ) → SameClaims c.locks d.locks i) → Wishing c → Wishing d
calm c d same claims w i server t lock mode h =
    (same i).1 (claim_of d.locks i)
    ∙ wishes_same (claim_of c.locks i) (claim_of d.locks i) (claims i) (c.servers i) (w i server ((same i).0 t)) lock mode h

unchanged : (server : Server) → AsksSame server server
unchanged server = ((λ t. t), λ claim. refl)

-- a server that must ask for nothing has no wish
nothing_wished : (claim : Claiming) (server : Server) → asked_next claim server ≡ None → Wishes claim server → (lock : LockId) (mode : Mode) →
    is_wished_in (claim lock) mode ≡ false
nothing_wished claim server none w lock mode = go (is_wished_in (claim lock) mode) refl
  where
    go : (b : Bool) → is_wished_in (claim lock) mode ≡ b → b ≡ false
    go true e = absurd (none-some (lock, mode) (sym none ∙ w lock mode e))
    go false e = refl

no_wishes : (claim : Claiming) (server : Server) → ((lock : LockId) (mode : Mode) → is_wished_in (claim lock) mode ≡ false) → Wishes claim server
no_wishes claim server none lock mode h = absurd (false≢true (sym (none lock mode) ∙ h))

-- of claims on nothing there is none
bare_wishes : (locks : Locks) (a : ℕ) (server : Server) → claims_of locks a ≡ [] → Wishes (claim_of locks a) server
bare_wishes locks a server e = no_wishes (claim_of locks a) server (λ lock mode. ap (λ claims. is_wished_in (claim_in claims lock) mode) e ∙ none_wished mode)

-- ---- locks

cleared_others : (locks : Locks) (dead i : ℕ) → (i ≡ dead → ⊥) → SameClaims locks (cleared locks dead) i
cleared_others locks dead i apart lock = ap (λ claims. claim_in claims lock) (get_or-set_other locks.clerks dead i [] [] apart)

changed_others : (locks : Locks) (s : ℕ) (lock : LockId) (change : Claim → Claim) (i : ℕ) → (i ≡ s → ⊥) → SameClaims locks (changed locks s lock change) i
changed_others locks s lock change i apart q = ap (λ claims. claim_in claims q) (other_claims locks s lock change i apart)

taken_same : (locks : Locks) (dead by now expiry i : ℕ) → SameClaims locks (taken locks dead by now expiry) i
taken_same locks dead by now expiry i lock = go (is_some (log_taken_by locks dead by now))
  where
    go : (b : Bool) →
        claim_of (if b then locks else record locks { logs = slice_set locks.logs dead (Some (hold_of by expiry)) }) i lock ≡ claim_of locks i lock
    go true = refl
    go false = refl

-- ---- a want

lock_in : Option Lock → LockId
lock_in None = Log 0
lock_in (Some need) = need.0

mode_in : Option Lock → Mode
mode_in None = Shared
mode_in (Some need) = need.1

same_lock : (l q : LockId) (m n : Mode) (found : Option Lock) → found ≡ Some (l, m) → found ≡ Some (q, n) → l ≡ q
unfolding lock_in
same_lock l q m n found e f = ap lock_in (sym e ∙ f)

same_mode : (l q : LockId) (m n : Mode) (found : Option Lock) → found ≡ Some (l, m) → found ≡ Some (q, n) → m ≡ n
unfolding mode_in
same_mode l q m n found e f = ap mode_in (sym e ∙ f)

-- a grant leaves only a wish that it doesn't serve
granted_leaves : (mode m : Mode) (claim : Claim) → is_wished_in (granted mode claim) m ≡ true → (is_wished_in claim m ≡ true) × (m ≡ mode → ⊥)
granted_leaves mode m claim h = go (serves claim.held Sole) mode m h
  where
    apart : Sole ≡ Shared → ⊥
    apart e = absurd (cc)

    go : (b : Bool) (mode m : Mode) → is_wished_in (if b then holding Sole claim else holding mode claim) m ≡ true →
        (is_wished_in claim m ≡ true) × (m ≡ mode → ⊥)
    go true mode Shared h = absurd (false≢true h)
    go true mode Sole h = absurd (false≢true h)
    go false Sole Shared h = absurd (false≢true h)
    go false Sole Sole h = absurd (false≢true h)
    go false Shared Shared h = absurd (false≢true h)
    go false Shared Sole h = (h, apart)

wishing_held : (mode : Mode) (claim : Claim) → (wishing mode claim).held ≡ claim.held
wishing_held Shared claim = refl
wishing_held Sole claim = refl

-- a noted wish is this one or was noted
wishing_adds : (mode m : Mode) (claim : Claim) → is_wished_in (wishing mode claim) m ≡ true → (m ≡ mode) ⊎ (is_wished_in claim m ≡ true)
wishing_adds Shared Shared claim h = inl refl
wishing_adds Shared Sole claim h = inr h
wishing_adds Sole Shared claim h = inr h
wishing_adds Sole Sole claim h = inl refl

module _ (locks : Locks) (a : ℕ) (lock : LockId) (change : Claim → Claim) (are : AreClaims (claims_of locks a)) (inside : a < length locks.clerks) where
  abbrev new : Locks
  new = changed locks a lock change

  -- the claim on the lock is changed, and no other
  own : claim_of new a lock ≡ change (claim_of locks a lock)
  own = own_claim locks a lock change are inside

  other : (q : LockId) → is_lock lock q ≡ false → claim_of new a q ≡ claim_of locks a q
  other q apart = go (claim_of-changed locks a lock change are a q)
    where
      go : IsChanged locks a lock change a q ⊎ (claim_of new a q ≡ claim_of locks a q) → claim_of new a q ≡ claim_of locks a q
      go (inl at) = absurd (false≢true (sym apart ∙ ap (is_lock lock) at.same_lock ∙ is_lock_equiv.refl lock))
      go (inr same) = same

  -- what is so of a claim on another lock as it was, and on this one as it is, is so
  by_lock : (P : LockId → Claim → Type 0) → ((q : LockId) → is_lock lock q ≡ false → P q (claim_of locks a q)) →
      P lock (change (claim_of locks a lock)) → (q : LockId) → P q (claim_of new a q)
  by_lock P there here q = go (is_lock lock q) refl
    where
      go : (b : Bool) → is_lock lock q ≡ b → P q (claim_of new a q)
      go true e = subst (λ l. P l (claim_of new a l)) (sym (found_lock lock q e)) (subst (P lock) (sym own) here)
      go false e = subst (P q) (sym (other q e)) (there q e)

-- who asks for the lock that it must has that wish alone, or none
module _ (locks : Locks) (a : ℕ) (lock : LockId) (mode : Mode) (server : Server) (are : AreClaims (claims_of locks a)) (inside : a < length locks.clerks)
    (next : asked_next (claim_of locks a) server ≡ Some (lock, mode)) (w : Wishes (claim_of locks a) server) where
  -- an old wish is for it
  of_it : (q : LockId) (m : Mode) → is_wished_in (claim_of locks a q) m ≡ true → (q ≡ lock) × (m ≡ mode)
  of_it q m h =
      (same_lock q lock m mode (asked_next (claim_of locks a) server) (w q m h) next, same_mode q lock m mode (asked_next (claim_of locks a) server) (w q m h) next)

  apart_from : (q : LockId) → is_lock lock q ≡ false → q ≡ lock → ⊥
  apart_from q e f = false≢true (sym e ∙ ap (is_lock lock) f ∙ is_lock_equiv.refl lock)

  want_wishes : (answer : Wanted) → Wishes (claim_of (changed locks a lock (wanted_by answer mode)) a) server
  want_wishes Granted =
      by_lock locks a lock (granted mode) are inside (λ q claim. (m : Mode) → is_wished_in claim m ≡ true → asked_next (claim_of (changed locks a lock (granted mode)) a) server ≡ Some (q, m))
      (λ q e m h. absurd (apart_from q e (of_it q m h).0))
      (λ m h. let left : (is_wished_in (claim_of locks a lock) m ≡ true) × (m ≡ mode → ⊥) = granted_leaves mode m (claim_of locks a lock) h in absurd (left.1 (of_it lock m left.0).1))
  want_wishes (Wait holders) =
      by_lock locks a lock (wishing mode) are inside (λ q claim. (m : Mode) → is_wished_in claim m ≡ true → asked_next (claim_of (changed locks a lock (wishing mode)) a) server ≡ Some (q, m))
      (λ q e m h. absurd (apart_from q e (of_it q m h).0))
      (λ m h. still ∙ ap (λ n. Some (lock, n)) (sym (this m (wishing_adds mode m (claim_of locks a lock) h))))
    where
      still : asked_next (claim_of (changed locks a lock (wishing mode)) a) server ≡ Some (lock, mode)
      still =
          held_same (claim_of locks a) (claim_of (changed locks a lock (wishing mode)) a)
          (by_lock locks a lock (wishing mode) are inside (λ q claim. claim.held ≡ (claim_of locks a q).held) (λ q e. refl) (wishing_held mode (claim_of locks a lock))) server
          ∙ next

      this : (m : Mode) → (m ≡ mode) ⊎ (is_wished_in (claim_of locks a lock) m ≡ true) → m ≡ mode
      this m (inl e) = e
      this m (inr h) = (of_it lock m h).1

-- ---- a gift

given_less : (h : Option Mode) (m : Mode) → serves h m ≡ false → serves (option_map (λ mode. Shared) h) m ≡ false
given_less None m e = refl
given_less (Some Sole) m e = absurd (false≢true (sym e))
given_less (Some Shared) Shared e = absurd (false≢true (sym e))
given_less (Some Shared) Sole e = refl

module _ (locks : Locks) (a : ℕ) (lock : LockId) (change : Claim → Claim) (server : Server) (are : AreClaims (claims_of locks a)) (inside : a < length locks.clerks)
    (wishes : (claim : Claim) (m : Mode) → is_wished_in (change claim) m ≡ is_wished_in claim m) (less : (claim : Claim) (m : Mode) → serves claim.held m ≡ false → serves (change claim).held m ≡ false)
    (unused : has_lock (held_set locks a (set_under server.under)) lock ≡ false) (w : Wishes (claim_of locks a) server) where
  abbrev later : Claiming
  later = claim_of (changed locks a lock change) a

  same_need : (need : Lock) → is_lock lock need.0 ≡ false → serves_need later need ≡ serves_need (claim_of locks a) need
  same_need need e = ap (λ claim. serves claim.held need.1) (other locks a lock change are inside need.0 e)

  less_need : (need : Lock) → serves_need (claim_of locks a) need ≡ false → serves_need later need ≡ false
  less_need need =
      by_lock locks a lock change are inside (λ q claim. serves (claim_of locks a q).held need.1 ≡ false → serves claim.held need.1 ≡ false) (λ q e h. h)
      (λ h. less (claim_of locks a lock) need.1 h) need.0

  next_after : (need : Lock) → asked_next (claim_of locks a) server ≡ Some need → asked_next later server ≡ Some need
  next_after need = go (is_up server.phase) server.under unused
    where
      set_stays : (under : Under) (f b : Bool) → has_lock (held_set locks a (if f then [] else under.set)) lock ≡ false →
          (if not f && b then first_lacking (claim_of locks a) under.set else None) ≡ Some need → (if not f && b then first_lacking later under.set else None) ≡ Some need
      set_stays under true b u e = absurd (none-some need e)
      set_stays under false false u e = absurd (none-some need e)
      set_stays under false true u e = next_stays lock (serves_need (claim_of locks a)) (serves_need later) same_need less_need under.set u need e

      go : (up : Bool) (under : Option Under) → has_lock (held_set locks a (set_under under)) lock ≡ false →
          (if up && is_open is_path_op under then asked_under (claim_of locks a) under else None) ≡ Some need → (if up && is_open is_path_op under then asked_under later under else None) ≡ Some need
      go false under u e = absurd (none-some need e)
      go true None u e = absurd (none-some need e)
      go true (Some under) u e = set_stays under (is_some under.fixed) (asked_by is_path_op (operation_of under.line.what)) u e

  given_wishes : Wishes later server
  given_wishes q m h = next_after (q, m) (w q m (was q m h))
    where
      was : (q : LockId) (m : Mode) → is_wished_in (later q) m ≡ true → is_wished_in (claim_of locks a q) m ≡ true
      was =
          by_lock locks a lock change are inside (λ q claim. (m : Mode) → is_wished_in claim m ≡ true → is_wished_in (claim_of locks a q) m ≡ true) (λ q e m h. h)
          (λ m h. sym (wishes (claim_of locks a lock) m) ∙ h)

given_up_wishes : (claim : Claim) (m : Mode) → is_wished_in (given_up claim) m ≡ is_wished_in claim m
given_up_wishes claim Shared = refl
given_up_wishes claim Sole = refl

shared_wishes : (claim : Claim) (m : Mode) → is_wished_in (shared claim) m ≡ is_wished_in claim m
shared_wishes claim Shared = refl
shared_wishes claim Sole = refl

-- ---- a table in the place of another

relocked_wishes : (locks old : Locks) → SameLocks locks old → AllWishesWait locks → (a : ℕ) (server : Server) → Wishes (claim_of old a) server →
    Wishes (claim_of locks a) server
relocked_wishes locks old same wait a server w lock mode h = held_same (claim_of old a) (claim_of locks a) (λ l. same.held a l) server ∙ w lock mode (and_parts (is_wished old a lock mode) _ waiting).0
  where
    waiting : waits old a lock mode ≡ true
    waiting = sym (same.wishes a lock mode) ∙ ap (λ b. b && not (is_free locks a lock mode)) h ∙ ap not (wait a lock mode h)

-- ---- a stage that asks for no lock

abbrev AsksNothing : Option Stage → Type 0
AsksNothing None = Unit {0}
AsksNothing (Some (Asking need)) = ⊥
AsksNothing (Some (Fetching needs)) = Unit {0}
AsksNothing (Some Moving) = Unit {0}
AsksNothing (Some Stopping) = Unit {0}
AsksNothing (Some (Growing needs seen)) = Unit {0}
AsksNothing (Some (Clearing block)) = Unit {0}
AsksNothing (Some (Finishing outcome)) = Unit {0}

-- then nothing is wished
stage_wishes : (c : Core) (a : ℕ) (at : Option Stage) → stage c a ≡ at → AsksNothing at → Wishes (claim_of c.locks a) (c.servers a) →
    (lock : LockId) (mode : Mode) →
    is_wished_in (claim_of c.locks a lock) mode ≡ false
stage_wishes c a at e nothing w lock mode = go (is_wished_in (claim_of c.locks a lock) mode) refl
  where
    go : (b : Bool) → is_wished_in (claim_of c.locks a lock) mode ≡ b → b ≡ false
    go true h = absurd (subst AsksNothing (sym e ∙ asks_stage c.setting c.locks a (c.servers a) (lock, mode) (w lock mode h)) nothing)
    go false h = refl

-- ---- effects by cases

either : (test : Bool) (d e : Core) → Wishing d → Wishing e → Wishing (if test then d else e)
either true d e k l = k
either false d e k l = l

failed_wishing : (c : Core) (a : ℕ) → Wishing c → Wishing (call_failed c a)
failed_wishing c a w = either (a == host_party) _ _ (calm c (record c { over = true }) (λ i. unchanged (c.servers i)) (λ i. same_claims c.locks i) w) (steady c a (failed_by (c.servers a)) ((λ t. t), λ claim. refl) w)

-- nothing was wished, and whatever it must ask then
renewed_line : (c : Core) (a : ℕ) (new : Server) → (IsTrue (lives new.phase) → IsTrue (lives (c.servers a).phase)) →
    (Wishes (claim_of c.locks a) (c.servers a) → (lock : LockId) (mode : Mode) → is_wished_in (claim_of c.locks a lock) mode ≡ false) → Wishing c → Wishing (record c { servers = put c.servers a new })
renewed_line c a new lived none w =
    moved c (record c { servers = put c.servers a new }) a new refl (λ i apart. same_claims c.locks i) (λ server t. no_wishes (claim_of c.locks a) new (none (w a server (lived t)))) w

begun_wishing : (c : Core) (a : ℕ) → CanBegin c a → Wishing c → Wishing (after c (Begin a) Nothing)
begun_wishing c a can w = renewed_line c a _ (λ t. ap lives (sym (same_phase (next_of c a))) ∙ t) (λ wishes. nothing_wished (claim_of c.locks a) (c.servers a) (idle (c.servers a).under can.idle) wishes) w
  where
    same_phase : (line : Option Line) → (begun_line (c.servers a) line).phase ≡ (c.servers a).phase
    same_phase None = refl
    same_phase (Some line) = go (operation_of line.what)
      where
        go : (operation : Option Op) → (begun_with (c.servers a) line operation).phase ≡ (c.servers a).phase
        go None = refl
        go (Some operation) = refl

    idle : (under : Option Under) → IsTrue (not (is_some under)) →
        (if is_up (c.servers a).phase && is_open is_path_op under then asked_under (claim_of c.locks a) under else None) ≡ None
    idle None t = go (is_up (c.servers a).phase)
      where
        go : (b : Bool) → (if b && false then asked_under (claim_of c.locks a) None else None) ≡ None
        go true = refl
        go false = refl
    idle (Some under) t = absurd (false≢true t)

fetched_asks : (a : ℕ) (at : Option Stage) (sector : ℕ) (block : Block) (server : Server) → AsksSame server (fetched_by a at sector block server)
fetched_asks a at sector block server = go (is_off server.phase) (cover_needed at sector)
  where
    go : (b : Bool) (cover : Option LockId) →
        AsksSame server (if b then with_under server (slot_read a sector block) else cached_under server sector block cover)
    go true cover = ((λ t. t), λ claim. slot_asks claim server.phase server.under)
      where
        slot_asks : (claim : Claiming) (phase : Phase) (under : Option Under) →
            (if is_up phase && is_open is_path_op (option_map (slot_read a sector block) under) then asked_under claim (option_map (slot_read a sector block) under) else None) ≡
            (if is_up phase && is_open is_path_op under then asked_under claim under else None)
        slot_asks claim phase None = refl
        slot_asks claim phase (Some under) = refl
    go false None = unchanged server
    go false (Some cover) = ((λ t. t), λ claim. refl)

refused_asks : (server : Server) → AsksSame server (with_under server refused_under)
refused_asks server = ((λ t. t), λ claim. go claim server.phase server.under)
  where
    go : (claim : Claiming) (phase : Phase) (under : Option Under) →
        (if is_up phase && is_open is_path_op (option_map refused_under under) then asked_under claim (option_map refused_under under) else None) ≡
        (if is_up phase && is_open is_path_op under then asked_under claim under else None)
    go claim phase None = refl
    go claim phase (Some under) = refl

again_wishing : (c : Core) (a : ℕ) (at : Option Stage) → stage c a ≡ at → Wishing c → Wishing (with_server c a (again_by c.setting.logs at (c.servers a)))
again_wishing c a None e w = steady c a _ (unchanged (c.servers a)) w
again_wishing c a (Some (Asking need)) e w = steady c a _ (unchanged (c.servers a)) w
again_wishing c a (Some (Fetching needs)) e w = steady c a _ (unchanged (c.servers a)) w
again_wishing c a (Some Moving) e w = renewed_line c a _ (λ t. t) (stage_wishes c a (Some Moving) e tt) w
again_wishing c a (Some Stopping) e w = steady c a _ (unchanged (c.servers a)) w
again_wishing c a (Some (Growing needs seen)) e w = renewed_line c a _ (λ t. t) (stage_wishes c a (Some (Growing needs seen)) e tt) w
again_wishing c a (Some (Clearing block)) e w = steady c a _ (unchanged (c.servers a)) w
again_wishing c a (Some (Finishing outcome)) e w = steady c a _ ((λ t. t), λ claim. refl) w

committed_wishing : (c : Core) (a : ℕ) (at : Option Stage) → stage c a ≡ at → Wishing c → Wishing (committed_at c a at)
committed_wishing c a None e w = w
committed_wishing c a (Some (Asking need)) e w = w
committed_wishing c a (Some (Fetching needs)) e w = w
committed_wishing c a (Some Moving) e w = w
committed_wishing c a (Some Stopping) e w = w
committed_wishing c a (Some (Growing needs seen)) e w = w
committed_wishing c a (Some (Clearing block)) e w = w
committed_wishing c a (Some (Finishing outcome)) e w =
    moved c (committed c a outcome) a _ refl (λ i apart. same_claims c.locks i)
    (λ server t. no_wishes (claim_of c.locks a) (committed_by outcome (c.servers a)) (stage_wishes c a (Some (Finishing outcome)) e tt (w a server t))) w

-- ---- answers

-- a server that lives after an answer lived and had to ask for nothing, or was Off
abbrev Lived : Server → Server → Type 0
Lived old new = IsTrue (lives new.phase) → (IsTrue (lives old.phase) × ((claim : Claiming) → asked_next claim old ≡ None)) ⊎ IsTrue (is_off old.phase)

module _ (c : Core) (a : ℕ) (under : Under) (server : Server) (has : server.under ≡ Some under) where
  abbrev done : Op → Reply → Server
  done operation answer = record (answered_open c under server operation answer) { under = None }

  -- a line that isn't one over paths, or has its answer, asks for no lock
  no_path : asks is_path_op server ≡ false → (claim : Claiming) → asked_next claim server ≡ None
  no_path e claim = ap (λ b. if is_up server.phase && b then asked_under claim server.under else None) e ∙ go (is_up server.phase)
    where
      go : (b : Bool) → (if b && false then asked_under claim server.under else None) ≡ None
      go true = refl
      go false = refl

  by_line : (f : Bool) (operation : Option Op) → is_some under.fixed ≡ f → operation_of under.line.what ≡ operation →
      asks is_path_op server ≡ (not f && asked_by is_path_op operation)
  by_line f operation s o = ap (is_open is_path_op) has ∙ (λ i. not (s i) && asked_by is_path_op (o i))

  up_lives : IsTrue (is_up server.phase) → IsTrue (lives server.phase)
  up_lives t = or_left (is_up server.phase) (is_still server.phase) t

  mounted_lived : (off failed read : Bool) (answer : Reply) → is_off server.phase ≡ off →
      (if off then (if failed then Some reply.Io else due_if read reply.Mounted) else None) ≡ Some answer →
      Lived server (done op.Mount answer)
  mounted_lived false failed read answer o e = absurd (none-some answer e)
  mounted_lived true failed read answer o e = λ t. inr o

  open_lived : (operation : Op) (answer : Reply) → is_some under.fixed ≡ false → operation_of under.line.what ≡ Some operation →
      own_answer c.setting.logs c.flights a server under operation ≡ Some answer → Lived server (done operation answer)
  open_lived (op.Create path) answer f o e = absurd (none-some answer e)
  open_lived (op.Mkdir path) answer f o e = absurd (none-some answer e)
  open_lived (op.Link path to) answer f o e = absurd (none-some answer e)
  open_lived (op.Symlink path target) answer f o e = absurd (none-some answer e)
  open_lived (op.Unlink path) answer f o e = absurd (none-some answer e)
  open_lived (op.Rmdir path) answer f o e = absurd (none-some answer e)
  open_lived (op.Rename path to) answer f o e = absurd (none-some answer e)
  open_lived (op.Write path off bytes) answer f o e = absurd (none-some answer e)
  open_lived (op.Fill path off len byte) answer f o e = absurd (none-some answer e)
  open_lived (op.Truncate path len) answer f o e = absurd (none-some answer e)
  open_lived (op.Read path off len) answer f o e = absurd (none-some answer e)
  open_lived (op.Stat path) answer f o e = absurd (none-some answer e)
  open_lived (op.List path) answer f o e = absurd (none-some answer e)
  open_lived (op.Readlink path) answer f o e = absurd (none-some answer e)
  open_lived (op.Time path) answer f o e = absurd (none-some answer e)
  open_lived op.Sync answer f o e = λ t. inl (t, no_path (by_line false (Some op.Sync) f o))
  open_lived op.Mount answer f o e = mounted_lived (is_off server.phase) under.get_failed (is_read c.setting.logs under.slots) answer refl e
  open_lived op.Unmount answer f o e = λ t. absurd (false≢true t)
  open_lived op.Crash answer f o e = absurd (none-some answer e)
  open_lived (op.CrashAt k) answer f o e = λ t. inl (t, no_path (by_line false (Some (op.CrashAt k)) f o))
  open_lived (op.CutAt k) answer f o e = λ t. inl (t, no_path (by_line false (Some (op.CutAt k)) f o))
  open_lived op.Stall answer f o e = λ t. inl (up_lives (given_due (is_up server.phase) reply.Ok answer e), no_path (by_line false (Some op.Stall) f o))

  answer_lived : (operation : Op) (answer : Reply) → operation_of under.line.what ≡ Some operation →
      (is_some under.fixed ≡ false → own_answer c.setting.logs c.flights a server under operation ≡ Some answer) → Lived server (answered_by c under server operation answer)
  answer_lived operation answer o own = go (is_some under.fixed) refl
    where
      fixed : (test : Bool) → is_some under.fixed ≡ true → Lived server (record (if test then record server { owes = false } else server) { under = None })
      fixed true f = λ t. inl (t, no_path (by_line true (Some operation) f o))
      fixed false f = λ t. inl (t, no_path (by_line true (Some operation) f o))

      go : (b : Bool) → is_some under.fixed ≡ b →
          Lived server (record (if b then (if is_unmount operation && is_ok answer then record server { owes = false } else server) else answered_open c under server operation answer) { under = None })
      go true f = fixed (is_unmount operation && is_ok answer) f
      go false f = open_lived operation answer f o (own f)

-- what a server that is Off has
abbrev Offs : Core → Type 0
Offs c = (a : ℕ) → IsTrue (is_server a) → IsTrue (is_off (c.servers a).phase) → Bare c.locks a

answered_with_wishing : (c : Core) (a : ℕ) (under : Under) (answer : Reply) (operation : Option Op) → AreLocks c.locks → Offs c →
    (c.servers a).under ≡ Some under →
    operation_of under.line.what ≡ operation → (is_some under.fixed ≡ false → own_answer_of c.setting.logs c.flights a (c.servers a) under operation ≡ Some answer) → Wishing c →
    Wishing (answered_with c a under answer operation)
answered_with_wishing c a under answer None are offs has o own w = w
answered_with_wishing c a under answer (Some operation) are offs has o own w =
    moved c (answered_with c a under answer (Some operation)) a new refl (λ i apart. others (is_unmount operation && not (is_some under.fixed)) i apart)
    (λ server t. mine (is_unmount operation && not (is_some under.fixed)) server (answer_lived c a under (c.servers a) has operation answer o own t)) w
  where
    new : Server
    new = answered_by c under (c.servers a) operation answer

    others : (test : Bool) (i : ℕ) → (i ≡ a → ⊥) → SameClaims c.locks (if test then cleared c.locks a else c.locks) i
    others true i apart = cleared_others c.locks a i apart
    others false i apart = same_claims c.locks i

    mine : (test : Bool) → IsTrue (is_server a) →
        (IsTrue (lives (c.servers a).phase) × ((claim : Claiming) → asked_next claim (c.servers a) ≡ None)) ⊎ IsTrue (is_off (c.servers a).phase) →
        Wishes (claim_of (if test then cleared c.locks a else c.locks) a) new
    mine true server lived = bare_wishes (cleared c.locks a) a new (no_claims_left c.locks are a)
    mine false server (inl lived) = no_wishes (claim_of c.locks a) new (nothing_wished (claim_of c.locks a) (c.servers a) (lived.1 (claim_of c.locks a)) (w a server lived.0))
    mine false server (inr off) = bare_wishes c.locks a new (offs a server off).claims

answered_wishing : (c : Core) (a : ℕ) (under : Option Under) (answer : Option Reply) → AreLocks c.locks → Offs c → (c.servers a).under ≡ under →
    due_at c a ≡ answer → Wishing c →
    Wishing (answered_under c a under answer)
answered_wishing c a None None are offs u e w = w
answered_wishing c a None (Some answer) are offs u e w = w
answered_wishing c a (Some under) None are offs u e w = w
answered_wishing c a (Some under) (Some answer) are offs u e w =
    answered_with_wishing c a under answer (operation_of under.line.what) are offs u refl
    (opened (is_answering (c.servers a).phase) under.fixed (own_answer_of c.setting.logs c.flights a (c.servers a) under (operation_of under.line.what)) answer
    (sym (ap (λ o. if is_answering (c.servers a).phase then due_under c.setting.logs c.flights a (c.servers a) o else None) u) ∙ e))
    w

-- ---- locks, writes and lives

server_inside : (c : Core) (a : ℕ) → AreLocks c.locks → IsTrue (is_server a) → a < length c.locks.clerks
server_inside c a are server = below a (length c.locks.clerks) server are.servers
  where
    below : (a n : ℕ) → IsTrue (is_server a) → n ≡ 16 → a < n
    below a n h e = grind (arith, nat_tests, h, e)

asked_wishing : (c : Core) (a : ℕ) (lock : LockId) (mode : Mode) → AreLocks c.locks → IsTrue (is_server a) → stage c a ≡ Some (Asking (lock, mode)) →
    Wishing c →
    Wishing (record c { locks = wanted c.locks a lock mode })
asked_wishing c a lock mode are server next w i is_one t = go (cases_eq i a)
  where
    go : (i ≡ a) ⊎ (i ≡ a → ⊥) → Wishes (claim_of (wanted c.locks a lock mode) i) (c.servers i)
    go (inl same) =
        subst (λ n. Wishes (claim_of (wanted c.locks a lock mode) n) (c.servers n)) (sym same)
        (want_wishes c.locks a lock mode (c.servers a) (are.claims a) (server_inside c a are server) (stage_asks c.setting c.locks a (c.servers a) (lock, mode) next)
        (subst (λ n. Wishes (claim_of c.locks n) (c.servers n)) same (w i is_one t)) (want_answer c.locks a lock mode))
    go (inr apart) = wishes_same (claim_of c.locks i) (claim_of (wanted c.locks a lock mode) i) (changed_others c.locks a lock (wanted_by (want_answer c.locks a lock mode) mode) i apart) (c.servers i) (w i is_one t)

given_wishing : (c : Core) (a : ℕ) (lock : LockId) (asked : Option AskedFor) → AreLocks c.locks → CanGive c a lock → Wishing c →
    Wishing (given_for c a lock asked)
given_wishing c a lock None are can w = w
given_wishing c a lock (Some Downgrade) are can w =
    moved_locks (changed c.locks a lock shared) (changed_others c.locks a lock shared) (given_wishes c.locks a lock shared (c.servers a) (are.claims a) (server_inside c a are can.server) shared_wishes
    (λ claim m e. given_less claim.held m e) unused)
  where
    unused : has_lock (held_set c.locks a (set_under (c.servers a).under)) lock ≡ false
    unused = not-true (has_lock (held_set c.locks a (set_under (c.servers a).under)) lock) can.unused

    moved_locks : (locks : Locks) → ((i : ℕ) → (i ≡ a → ⊥) → SameClaims c.locks locks i) →
        (Wishes (claim_of c.locks a) (c.servers a) → Wishes (claim_of locks a) (c.servers a)) →
        Wishing (record c { locks = locks })
    moved_locks locks others mine i is_one t = go (cases_eq i a)
      where
        go : (i ≡ a) ⊎ (i ≡ a → ⊥) → Wishes (claim_of locks i) (c.servers i)
        go (inl same) = subst (λ n. Wishes (claim_of locks n) (c.servers n)) (sym same) (mine (subst (λ n. Wishes (claim_of c.locks n) (c.servers n)) same (w i is_one t)))
        go (inr apart) = wishes_same (claim_of c.locks i) (claim_of locks i) (others i apart) (c.servers i) (w i is_one t)
given_wishing c a lock (Some Release) are can w =
    moved c (given_for c a lock (Some Release)) a _ refl (λ i apart. changed_others c.locks a lock given_up i apart)
    (λ server t. given_wishes c.locks a lock given_up (c.servers a) (are.claims a) (server_inside c a are can.server) given_up_wishes (λ claim m e. refl) unused (w a server t)) w
  where
    unused : has_lock (held_set c.locks a (set_under (c.servers a).under)) lock ≡ false
    unused = not-true (has_lock (held_set c.locks a (set_under (c.servers a).under)) lock) can.unused

issued_wishing : (c : Core) (a sector : ℕ) (write : Option Write) → Wishing c → Wishing (issued_as c a sector write)
issued_wishing c a sector None w = w
issued_wishing c a sector (Some write) w =
    moved c (issued_as c a sector (Some write)) a _ refl (λ i apart. same_claims c.locks i) (λ server t. w a server t) w

acknowledged_asks : (sector : ℕ) (block : Block) (purpose : Purpose) (server : Server) → AsksSame server (acknowledged sector block purpose server)
acknowledged_asks sector block (OfLog number) server = ((λ t. t), λ claim. refl)
acknowledged_asks sector block OfRecovery server = ((λ t. t), λ claim. refl)
acknowledged_asks sector block (InPlace cover) server = go (comes_clean server sector block)
  where
    go : (b : Bool) → AsksSame server (if b then clean_now sector server else server)
    go true = ((λ t. t), λ claim. refl)
    go false = unchanged server

landed_wishing : (c : Core) (ticket : ℕ) → Wishing c → Wishing (landed c ticket)
landed_wishing c ticket w = calm c (landed c ticket) (λ i. unchanged (c.servers i)) (λ i. same_claims c.locks i) w

taken_wishing : (c : Core) (flight : Flight) → Wishing c → Wishing (taken_in c flight)
taken_wishing c flight w = either flight.present _ _ (steady c flight.server _ (acknowledged_asks flight.sector flight.block flight.purpose (c.servers flight.server)) w) w

arrived_as_wishing : (c : Core) (flight : Flight) (heard : Heard) → Wishing c → Wishing (arrived_as c flight heard)
arrived_as_wishing c flight Nothing w = w
arrived_as_wishing c flight (Got block) w = w
arrived_as_wishing c flight GetFailed w = w
arrived_as_wishing c flight Written w = taken_wishing c flight w
arrived_as_wishing c flight Late w = w
arrived_as_wishing c flight (PutFailed new) w = failed_wishing c flight.server w

arrived_wishing : (c : Core) (ticket : ℕ) (heard : Heard) (flight : Option Flight) → Wishing c → Wishing (arrived_from c ticket heard flight)
arrived_wishing c ticket heard None w = w
arrived_wishing c ticket heard (Some flight) w = arrived_as_wishing (landed c ticket) flight heard (landed_wishing c ticket w)

died_wishing : (c : Core) (a : ℕ) (phase : Phase) → Wishing c → Wishing (died_in c a phase)
died_wishing c a Off w = w
died_wishing c a Up w = w
died_wishing c a Still w = w
died_wishing c a (Doomed fate) w = moved c (died_in c a (Doomed fate)) a _ refl (λ i apart. same_claims c.locks i) (λ server t. absurd (false≢true t)) w
died_wishing c a Dead w = w

finished_wishing : (c : Core) (by : ℕ) (recovery : Option Recovery) → Wishing c → Wishing (finished_from c by recovery)
finished_wishing c by None w = w
finished_wishing c by (Some recovery) w =
    moved rid (finished_by c by recovery.dead) recovery.dead _ refl (λ i apart. cleared_others c.locks recovery.dead i apart) (λ server t. absurd (false≢true t))
    (steady c by (record (c.servers by) { recovery = None }) ((λ t. t), λ claim. refl) w)
  where
    rid : Core
    rid = record c { servers = put c.servers by (record (c.servers by) { recovery = None }) }

host_wishing : (c : Core) (line : Option Line) → Wishing c → Wishing (host_answered_line c line)
host_wishing c None w = w
host_wishing c (Some line) w = w

wanting_asks : (server : Server) → AsksSame server (wanting_all_up server)
wanting_asks server = go (is_up server.phase)
  where
    go : (b : Bool) → AsksSame server (if b then wanting_all server else server)
    go true = ((λ t. t), λ claim. refl)
    go false = unchanged server

ticked_wishing : (c : Core) → Wishing c → Wishing (after c Tick Nothing)
ticked_wishing c w = calm c (after c Tick Nothing) (λ i. go i ((c.now + 1) % c.setting.flush_ticks == 0)) (λ i lock. refl) w
  where
    go : (i : ℕ) (b : Bool) → AsksSame (c.servers i) (if b then wanting_all_up (c.servers i) else c.servers i)
    go i true = wanting_asks (c.servers i)
    go i false = unchanged (c.servers i)

close_wishing : (c : Core) (a : ℕ) → AreLocks c.locks → Wishing c → Wishing (after c (Close a) Nothing)
close_wishing c a are w =
    either (clean_at c a) _ _
    (moved c (record c { servers = put c.servers a (off_after (c.servers a)); locks = cleared c.locks a }) a _ refl (λ i apart. cleared_others c.locks a i apart) (λ server t. absurd (false≢true t)) w)
    (steady c a (wanting_all (c.servers a)) ((λ t. t), λ claim. refl) w)

-- ---- each event

fetch_failed_wishing : (c : Core) (a : ℕ) → Wishing c → Wishing (fetch_failed c a)
fetch_failed_wishing c a w = either (is_off (c.servers a).phase) _ _ (steady c a _ (refused_asks (c.servers a)) w) (failed_wishing c a w)

fetch_wishing : (c : Core) (a sector : ℕ) (heard : Heard) → Wishing c → Wishing (after c (Fetch a sector) heard)
fetch_wishing c a sector (Got block) w = steady c a _ (fetched_asks a (stage c a) sector block (c.servers a)) w
fetch_wishing c a sector Nothing w = fetch_failed_wishing c a w
fetch_wishing c a sector GetFailed w = fetch_failed_wishing c a w
fetch_wishing c a sector Written w = fetch_failed_wishing c a w
fetch_wishing c a sector Late w = fetch_failed_wishing c a w
fetch_wishing c a sector (PutFailed new) w = fetch_failed_wishing c a w

load_wishing : (c : Core) (by slot : ℕ) (heard : Heard) → Wishing c → Wishing (after c (Load by slot) heard)
load_wishing c by slot (Got block) w = steady c by _ ((λ t. t), λ claim. refl) w
load_wishing c by slot Nothing w = failed_wishing c by w
load_wishing c by slot GetFailed w = failed_wishing c by w
load_wishing c by slot Written w = failed_wishing c by w
load_wishing c by slot Late w = failed_wishing c by w
load_wishing c by slot (PutFailed new) w = failed_wishing c by w

look_wishing : (c : Core) (by sector : ℕ) (heard : Heard) → Wishing c → Wishing (after c (Look by sector) heard)
look_wishing c by sector (Got block) w = steady c by _ ((λ t. t), λ claim. refl) w
look_wishing c by sector Nothing w = failed_wishing c by w
look_wishing c by sector GetFailed w = failed_wishing c by w
look_wishing c by sector Written w = failed_wishing c by w
look_wishing c by sector Late w = failed_wishing c by w
look_wishing c by sector (PutFailed new) w = failed_wishing c by w

read_wishing : (c : Core) (sector : ℕ) (heard : Heard) → Wishing c → Wishing (after c (Read sector) heard)
read_wishing c sector (Got block) w = w
read_wishing c sector Nothing w = failed_wishing c host_party w
read_wishing c sector GetFailed w = failed_wishing c host_party w
read_wishing c sector Written w = failed_wishing c host_party w
read_wishing c sector Late w = failed_wishing c host_party w
read_wishing c sector (PutFailed new) w = failed_wishing c host_party w

event_wishing : (s : State) (event : Event) (heard : Heard) → Makes s event heard → AreLocks s.core.locks → Offs s.core → Wishing s.core →
    Wishing (after s.core event heard)
event_wishing s (Begin a) heard m are offs w = begun_wishing s.core a m.can.can w
event_wishing s (Ask a lock mode) heard m are offs w = asked_wishing s.core a lock mode are m.can.can.server m.can.can.least w
event_wishing s (Fetch a sector) heard m are offs w = fetch_wishing s.core a sector heard w
event_wishing s (Again a) heard m are offs w = again_wishing s.core a (stage s.core a) refl w
event_wishing s (Clear a block) heard m are offs w = steady s.core a _ ((λ t. t), λ claim. refl) w
event_wishing s (Commit a) heard m are offs w = committed_wishing s.core a (stage s.core a) refl w
event_wishing s (Answer a) heard m are offs w = answered_wishing s.core a (s.core.servers a).under (due_at s.core a) are offs refl refl w
event_wishing s (Give a lock) heard m are offs w = given_wishing s.core a lock (asked_for s.core.locks a lock) are m.can.can w
event_wishing s (Issue a sector) heard m are offs w = issued_wishing s.core a sector (value_at (writes s.core a) sector) w
event_wishing s (Doom a) heard m are offs w = moved s.core (after s.core (Doom a) heard) a _ refl (λ i apart. same_claims s.core.locks i) (λ server t. absurd (false≢true t)) w
event_wishing s (Resume a) heard m are offs w =
    moved s.core (after s.core (Resume a) heard) a _ refl (λ i apart. cleared_others s.core.locks a i apart)
    (λ server t. bare_wishes (cleared s.core.locks a) a (up_again s.core.setting s.core.now (s.core.servers a)) (no_claims_left s.core.locks are a)) w
event_wishing s (Arrive ticket) heard m are offs w = arrived_wishing s.core ticket heard (value_at s.core.flights ticket) w
event_wishing s (Lose ticket) heard m are offs w = landed_wishing s.core ticket w
event_wishing s (Die a) heard m are offs w = died_wishing s.core a (s.core.servers a).phase w
event_wishing s (Renew a) heard m are offs w = moved s.core (after s.core (Renew a) heard) a _ refl (λ i apart lock. refl) (λ server t. w a server t) w
event_wishing s Tick heard m are offs w = ticked_wishing s.core w
event_wishing s (Recover dead by) heard m are offs w =
    moved s.core (after s.core (Recover dead by) heard) by _ refl (λ i apart. taken_same s.core.locks dead by s.core.now (expiry_of s.core by) i)
    (λ server t. wishes_same (claim_of s.core.locks by) (claim_of (taken s.core.locks dead by s.core.now (expiry_of s.core by)) by) (taken_same s.core.locks dead by s.core.now (expiry_of s.core by) by) (s.core.servers by) (w by server t)) w
event_wishing s (Load by slot) heard m are offs w = load_wishing s.core by slot heard w
event_wishing s (Look by sector) heard m are offs w = look_wishing s.core by sector heard w
event_wishing s (Finish by) heard m are offs w = finished_wishing s.core by (s.core.servers by).recovery w
event_wishing s (HostLine number) heard m are offs w = host_wishing s.core (next_of s.core host_party) w
event_wishing s (Close a) heard m are offs w = close_wishing s.core a are w
event_wishing s (Read sector) heard m are offs w = read_wishing s.core sector heard w
event_wishing s (Show place) heard m are offs w = w
event_wishing s End heard m are offs w = w

step_wishing : (s v : State) → Step s v → AreLocks s.core.locks → Offs s.core → Wishing s.core → Wishing v.core
step_wishing s v (Event_ event heard makes) are offs w = event_wishing s event heard makes are offs w
step_wishing s v (Enter a line can) are offs w = w
step_wishing s v (Hold a on may) are offs w = w
step_wishing s v (Flush a may) are offs w = steady s.core a _ (wanting_asks (s.core.servers a)) w
step_wishing s v (Relock locks going good same wait) are offs w = λ i is_one t. relocked_wishes locks s.core.locks same wait i (s.core.servers i) (w i is_one t)
step_wishing s v (Note line may) are offs w = w
step_wishing s v (Peek sector going) are offs w = w
step_wishing s v (PeekFails sector going) are offs w = failed_wishing s.core host_party w

wishing_of_run : (setting : Setting) (disk : Sectors) (s : State) → Run (first_state setting disk) s → Wishing s.core
wishing_of_run setting disk =
    along setting disk (λ s. Wishing s.core) (λ s v run step w. step_wishing s v step (locks_of_run setting disk s run) (bare_of_run setting disk s run) w)
    (λ a server t. absurd (false≢true t))

-- ---- in the words of the laws

pub wish_is_next : (setting : Setting) (disk : Sectors) (s : State) → Run (first_state setting disk) s → (a : ℕ) → IsTrue (is_server a) →
    IsTrue (is_up (s.core.servers a).phase) → (lock : LockId) (mode : Mode) →
    is_wished s.core.locks a lock mode ≡ true → stage s.core a ≡ Some (Asking (lock, mode))
wish_is_next setting disk s run a server up lock mode h =
    asks_stage s.core.setting s.core.locks a (s.core.servers a) (lock, mode)
    (wishing_of_run setting disk s run a server (or_left (is_up (s.core.servers a).phase) (is_still (s.core.servers a).phase) up) lock mode h)

pub still_wishes_nothing : (setting : Setting) (disk : Sectors) (s : State) → Run (first_state setting disk) s → (a : ℕ) → IsTrue (is_server a) →
    IsTrue (is_still (s.core.servers a).phase) → (lock : LockId)
    (mode : Mode) → is_wished s.core.locks a lock mode ≡ false
still_wishes_nothing setting disk s run a server still =
    nothing_wished (claim_of s.core.locks a) (s.core.servers a) (not_up (s.core.servers a).phase still)
    (wishing_of_run setting disk s run a server (or_right (is_up (s.core.servers a).phase) (is_still (s.core.servers a).phase) still))
  where
    not_up : (phase : Phase) → IsTrue (is_still phase) →
        (if is_up phase && asks is_path_op (s.core.servers a) then asked_under (claim_of s.core.locks a) (s.core.servers a).under else None) ≡ None
    not_up Off t = refl
    not_up Up t = absurd (false≢true t)
    not_up Still t = refl
    not_up (Doomed fate) t = refl
    not_up Dead t = refl
