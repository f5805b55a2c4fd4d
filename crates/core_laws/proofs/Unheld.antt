-- Over every run: a server that is Off neither has nor wishes a lock, and has taken no log. Event by event.
use Rattle.std.proofs.Common.{◌≡◌, ℕ, ◌<◌, ◌≤◌, ◌⊎◌, inl, inr, Bool, true, false, not, ◌&&◌, ◌||◌, ◌==◌, if◌then◌else◌, cond, IsTrue, is_some, unwrap_or, List, [], ◌∷◌, ◌+◌, ◌%◌, length, map, replicate, set, get_or, Option, Some, None, nat_eq, refl, sym, ap, ◌∙◌, subst, arith}
use Rattle.std.proofs.Math.ListN.{get_or-map}
use Rattle.std.proofs.lemmas.Bool.{cases_eq, cases_lt, false≢true, eqb-true}
use Rattle.std.proofs.lemmas.Bool.Decides.{nat_tests}
use Rattle.std.proofs.lemmas.List.{get_or-replicate, get_or-set_same, get_or-set_other, get_or_past, length-replicate, set_past}
use Rattle.std.specs.Map.{lookup}
use Rattle.std.proofs.lemmas.Option.{same_Some, none-some}
use Rattle.frang_base.specs.Functions.{put}
use Rattle.frang_base.specs.declared.lock.LockId.{LockId}
use Rattle.frang_base.specs.declared.lock.Mode.{Mode}
use Rattle.frang_base.specs.declared.lock.Mode.TheVariants.{Shared, Sole}
use Rattle.frang_base.specs.declared.op.Op.{Op}
use Rattle.frang_base.specs.declared.op.Op.TheVariants as op
use Rattle.frang_base.specs.declared.reply.Reply.{Reply}
use Rattle.frang_base.specs.declared.reply.Reply.TheVariants as reply
use Rattle.frang_base.specs.declared.script.Line.{Line}
use Rattle.lock_definitions.specs.declared.claim.AskedFor.{AskedFor}
use Rattle.lock_definitions.specs.declared.claim.AskedFor.TheVariants.{Release, Downgrade}
use Rattle.lock_definitions.specs.declared.claim.Claim.{Claim}
use Rattle.lock_definitions.specs.declared.claim.LogHold.{LogHold}
use Rattle.lock_definitions.specs.Calls.{answered as wanted_by, asked_for, changed, cleared, extended, given_up, hold_extended, hold_not_by, hold_of, is_free, log_taken_by, shared, taken, want_answer}
use Rattle.lock_definitions.specs.Locks.{AreClaims, AreLocks, Claims, Locks, claim_in, claims_of, held, is_no_claim, is_wished, is_wished_in, log_hold, no_claim, no_locks, no_clerks, no_logs}
use Rattle.lock_definitions.specs.Order.{is_lock}
use Rattle.lock_definitions.specs.Same.{AllWishesWait, SameLocks, waits}
use Rattle.lock_definitions.proofs.Changes.{other_claims}
use Rattle.lock_definitions.proofs.LockOrder.{is_lock_equiv}
use Rattle.lock_definitions.proofs.Wants.{no_claims_left, no_logs_left, none_wished}
use Rattle.tree_definitions.specs.Touched.{is_ok, is_unmount}
use Rattle.sector_bytes.specs.SectorMaps.{value_at}
use Rattle.sector_bytes.specs.Sectors.{Sectors}
use Rattle.core_definitions.specs.Flights.{Flight}
use Rattle.core_definitions.specs.Lines.{Stage, Asking, Fetching, Moving, Stopping, Growing, Clearing, Finishing, Under, operation_of}
use Rattle.core_definitions.specs.Logs.{is_read}
use Rattle.core_definitions.specs.Recoveries.{Recovery}
use Rattle.core_definitions.specs.Scripts.{host_party}
use Rattle.core_definitions.specs.Servers.{Phase, Off, Up, Still, Doomed, Dead, Server, due_if, due_under, is_answering, is_off, is_up, own_answer, own_answer_of, wanting_all, wanting_all_up}
use Rattle.core_definitions.specs.Settings.{Setting, lease_to}
use Rattle.core_definitions.specs.Writes.{Write}
use Rattle.core_definitions.specs.Cores.{Core, clean_at, due_at, expiry_of, next_of, stage, writes}
use Rattle.core_definitions.specs.Events.{Event, Begin, Ask, Fetch, Again, Clear, Commit, Answer, Give, Issue, Doom, Resume, Arrive, Lose, Die, Renew, Tick, Recover, Load, Look, Finish, HostLine, Close, Read, Show, End, Heard, Nothing, Got, GetFailed, Written, Late, PutFailed}
use Rattle.core_definitions.specs.LineGuards.{is_server}
use Rattle.core_definitions.specs.EndGuards.{CanRecover, none_up}
use Rattle.core_definitions.specs.LineEffects.{answered_by, answered_open, answered_under, answered_with, call_failed, committed, committed_at, fetch_failed, locks_after, off_after}
use Rattle.core_definitions.specs.WriteEffects.{arrived_as, arrived_from, died_in, given_for, issued_as, landed, taken_in}
use Rattle.core_definitions.specs.EndEffects.{finished_by, finished_from, host_answered_line}
use Rattle.core_definitions.specs.Effects.{after}
use Rattle.core_definitions.specs.Runs.{State, Step, Event_, Enter, Hold, Flush, Relock, Note, Peek, PeekFails, Run, first_state, Makes}
use Rattle.core_laws.proofs.Keeping.{locks_of_run}
use Rattle.core_laws.proofs.Along.{along}
use Rattle.core_laws.proofs.Ashore.{acknowledged_phase, again_phase, begun_phase, fetched_phase, wanting_phase}
use Rattle.core_laws.proofs.Memory.{opened, staged}
use Rattle.core_laws.proofs.Resting.{server_no_host}

-- the hold is this taker's
abbrev pub takes : ℕ → Option LogHold → Bool
takes i None = false
takes i (Some hold) = hold.by.0 == i

pub record Bare (locks : Locks) (i : ℕ) : Type 0 where
  pub claims : claims_of locks i ≡ []
  pub logs : (dead : ℕ) → takes i (log_hold locks dead) ≡ false

-- ---- calls of a lock table

apart_number : (x y : ℕ) → (x ≡ y → ⊥) → (y == x) ≡ false
apart_number x y apart = grind (arith, nat_tests, apart)

changed_bare : (locks : Locks) (s : ℕ) (lock : LockId) (change : Claim → Claim) (i : ℕ) → (i ≡ s → ⊥) → Bare locks i → Bare (changed locks s lock change) i
changed_bare locks s lock change i apart b = record { claims = other_claims locks s lock change i apart ∙ b.claims; logs = b.logs }

-- one hold is another
hold_set : (logs : List (Option LogHold)) (at : ℕ) (hold : Option LogHold) (i : ℕ) → takes i hold ≡ false →
    ((k : ℕ) → takes i (get_or logs k None) ≡ false) → (k : ℕ) →
    takes i (get_or (set logs at hold) k None) ≡ false
hold_set logs at hold i free b k = go (cases_eq k at) (cases_lt at (length logs))
  where
    go : (k ≡ at) ⊎ (k ≡ at → ⊥) → (at < length logs) ⊎ (length logs ≤ at) → takes i (get_or (set logs at hold) k None) ≡ false
    go (inl same) (inl inside) = ap (λ n. takes i (get_or (set logs at hold) n None)) same ∙ ap (takes i) (get_or-set_same logs at hold None inside) ∙ free
    go (inl same) (inr past) = ap (λ xs. takes i (get_or xs k None)) (set_past logs at hold past) ∙ b k
    go (inr apart) q = ap (takes i) (get_or-set_other logs at k hold None apart) ∙ b k

taken_bare : (locks : Locks) (dead by now expiry i : ℕ) → (i ≡ by → ⊥) → Bare locks i → Bare (taken locks dead by now expiry) i
taken_bare locks dead by now expiry i apart b = go (is_some (log_taken_by locks dead by now))
  where
    go : (t : Bool) → Bare (if t then locks else record locks { logs = set locks.logs dead (Some (hold_of by expiry)) }) i
    go true = b
    go false = record { claims = b.claims; logs = hold_set locks.logs dead (Some (hold_of by expiry)) i (apart_number i by apart) b.logs }

extended_bare : (locks : Locks) (by expiry i : ℕ) → Bare locks i → Bare (extended locks by expiry) i
extended_bare locks by expiry i b = record {
  claims = b.claims;
  logs = λ dead. ap (takes i) (get_or-map (hold_extended by expiry) locks.logs dead None) ∙ same (get_or locks.logs dead None) ∙ b.logs dead;
}
  where
    same_taker : (x y : ℕ) → (x == y) ≡ true → y ≡ x
    same_taker x y e = grind (arith, nat_tests, e)

    same : (hold : Option LogHold) → takes i (hold_extended by expiry hold) ≡ takes i hold
    same None = refl
    same (Some hold) = go (hold.by.0 == by) refl
      where
        go : (t : Bool) → (hold.by.0 == by) ≡ t → takes i (if t then Some (hold_of by expiry) else Some hold) ≡ (hold.by.0 == i)
        go true e = ap (λ k. k == i) (same_taker hold.by.0 by e)
        go false e = refl

-- who is cleared has nothing, and who had nothing has nothing then
cleared_bare : (locks : Locks) → AreLocks locks → (dead i : ℕ) → Bare locks i → Bare (cleared locks dead) i
cleared_bare locks are dead i b = record {
  claims = claims (cases_eq i dead);
  logs = hold_set (map (hold_not_by dead) locks.logs) dead None i refl (λ k. ap (takes i) (get_or-map (hold_not_by dead) locks.logs k None) ∙ fewer (get_or locks.logs k None) (b.logs k));
}
  where
    claims : (i ≡ dead) ⊎ (i ≡ dead → ⊥) → claims_of (cleared locks dead) i ≡ []
    claims (inl same) = ap (claims_of (cleared locks dead)) same ∙ no_claims_left locks are dead
    claims (inr apart) = get_or-set_other locks.clerks dead i [] [] apart ∙ b.claims

    fewer : (hold : Option LogHold) → takes i hold ≡ false → takes i (hold_not_by dead hold) ≡ false
    fewer None e = refl
    fewer (Some hold) e = go (hold.by.0 == dead)
      where
        go : (t : Bool) → takes i (if t then None else Some hold) ≡ false
        go true = refl
        go false = e

bare_cleared : (locks : Locks) → AreLocks locks → (i : ℕ) → Bare (cleared locks i) i
bare_cleared locks are i = record { claims = no_claims_left locks are i; logs = λ dead. free dead (log_hold (cleared locks i) dead) refl }
  where
    differ : (x : ℕ) → (x ≡ i → ⊥) → (x == i) ≡ false
    differ x apart = grind (arith, nat_tests, apart)

    free : (dead : ℕ) (hold : Option LogHold) → log_hold (cleared locks i) dead ≡ hold → takes i hold ≡ false
    free dead None e = refl
    free dead (Some hold) e = differ hold.by.0 (no_logs_left locks i dead hold e).0

-- ---- a table in the place of another

-- where nothing is held or wished nothing is claimed
nothing_claimed : (claims : Claims) → AreClaims claims → ((lock : LockId) → (claim_in claims lock).held ≡ None) →
    ((lock : LockId) (mode : Mode) → is_wished_in (claim_in claims lock) mode ≡ false) →
    claims ≡ []
nothing_claimed [] are held wished = refl
nothing_claimed (e ∷ es) are held wished = absurd (false≢true (sym (are.claimed 0 e.1 (omega arith)) ∙ none e.1 (ap (λ c. c.held) own ∙ held e.0) (ap (λ c. c.wishes_shared) own ∙ wished e.0 Shared) (ap (λ c. c.wishes_sole) own ∙ wished e.0 Sole)))
  where
    own : e.1 ≡ claim_in (e ∷ es) e.0
    own = sym (ap (λ b. unwrap_or (cond b (Some e.1) (lookup (is_lock e.0) es)) no_claim) (is_lock_equiv.refl e.0))

    none : (claim : Claim) → claim.held ≡ None → claim.wishes_shared ≡ false → claim.wishes_sole ≡ false → is_no_claim claim ≡ true
    none claim h s t = cc

relocked_bare : (locks old : Locks) → AreLocks locks → SameLocks locks old → AllWishesWait locks → (i : ℕ) → Bare old i → Bare locks i
relocked_bare locks old are same wait i b = record {
  claims = nothing_claimed (claims_of locks i) (are.claims i) (λ lock. same.held i lock ∙ ap (λ claims. (claim_in claims lock).held) b.claims) (λ lock mode. unwished lock mode (is_wished locks i lock mode) refl);
  logs = λ dead. ap (takes i) (same.logs dead) ∙ b.logs dead;
}
  where
    none_waits : (lock : LockId) (mode : Mode) → waits old i lock mode ≡ false
    none_waits lock mode = ap (λ w. w && not (is_free old i lock mode)) (ap (λ claims. is_wished_in (claim_in claims lock) mode) b.claims ∙ none_wished mode)

    unwished : (lock : LockId) (mode : Mode) (w : Bool) → is_wished locks i lock mode ≡ w → w ≡ false
    unwished lock mode false e = refl
    unwished lock mode true e =
        absurd (false≢true (sym (none_waits lock mode) ∙ sym (same.wishes i lock mode) ∙ ap (λ w. w && not (is_free locks i lock mode)) e ∙ ap not (wait i lock mode e)))

-- ---- what the core keeps

abbrev pub Unheld : Core → Type 0
Unheld c = (i : ℕ) → IsTrue (is_server i) → IsTrue (is_off (c.servers i).phase) → Bare c.locks i

-- each server's phase is as before, and who is Off goes on having nothing
calm : (c d : Core) → ((i : ℕ) → (d.servers i).phase ≡ (c.servers i).phase) →
    ((i : ℕ) → IsTrue (is_server i) → IsTrue (is_off (c.servers i).phase) → Bare c.locks i → Bare d.locks i) →
    Unheld c → Unheld d
calm c d same bare u i server t = let before : IsTrue (is_off (c.servers i).phase) = ap is_off (sym (same i)) ∙ t in bare i server before (u i server before)

-- one server changes; where it is Off then, it was, or has nothing then
moved : (c d : Core) (a : ℕ) (new : Server) → d.servers ≡ put c.servers a new →
    (IsTrue (is_off new.phase) → IsTrue (is_off (c.servers a).phase) ⊎ Bare d.locks a) →
    ((i : ℕ) → IsTrue (is_server i) → IsTrue (is_off (c.servers i).phase) → Bare c.locks i → Bare d.locks i) → Unheld c → Unheld d
moved c d a new e off bare u i server t = go (nat_eq i a) refl (subst (λ f. IsTrue (is_off (f i).phase)) e t)
  where
    at_it : IsTrue (is_server a) → IsTrue (is_off (c.servers a).phase) ⊎ Bare d.locks a → Bare d.locks a
    at_it server (inl t) = bare a server t (u a server t)
    at_it server (inr b) = b

    go : (b : Bool) → nat_eq i a ≡ b → IsTrue (is_off (if b then new else c.servers i).phase) → Bare d.locks i
    go true f t = subst (Bare d.locks) (sym (eqb-true i a f)) (at_it (subst (λ k. IsTrue (is_server k)) (eqb-true i a f) server) (off t))
    go false f t = bare i server t (u i server t)

-- its phase stays, and the locks too
steady : (c : Core) (a : ℕ) (new : Server) → new.phase ≡ (c.servers a).phase → Unheld c → Unheld (record c { servers = put c.servers a new })
steady c a new p u = moved c (record c { servers = put c.servers a new }) a new refl (λ t. inl (ap is_off (sym p) ∙ t)) (λ i server t b. b) u

off_up_not : (p : Phase) → IsTrue (is_off p) → IsTrue (is_up p) → ⊥
off_up_not Off t u = false≢true u
off_up_not Up t u = false≢true t
off_up_not Still t u = false≢true t
off_up_not (Doomed fate) t u = false≢true t
off_up_not Dead t u = false≢true t

-- who is Off isn't the one that is Up
apart : (c : Core) (a i : ℕ) → IsTrue (is_up (c.servers a).phase) → IsTrue (is_off (c.servers i).phase) → i ≡ a → ⊥
apart c a i up off same = off_up_not (c.servers a).phase (subst (λ k. IsTrue (is_off (c.servers k).phase)) same off) up

-- ---- effects by cases

either : (test : Bool) (d e : Core) → Unheld d → Unheld e → Unheld (if test then d else e)
either true d e k l = k
either false d e k l = l

failed_unheld : (c : Core) (a : ℕ) → Unheld c → Unheld (call_failed c a)
failed_unheld c a u = either (a == host_party) _ _ u (steady c a _ refl u)

committed_unheld : (c : Core) (a : ℕ) (at : Option Stage) → Unheld c → Unheld (committed_at c a at)
committed_unheld c a None u = u
committed_unheld c a (Some (Asking need)) u = u
committed_unheld c a (Some (Fetching needs)) u = u
committed_unheld c a (Some Moving) u = u
committed_unheld c a (Some Stopping) u = u
committed_unheld c a (Some (Growing needs seen)) u = u
committed_unheld c a (Some (Clearing block)) u = u
committed_unheld c a (Some (Finishing outcome)) u = moved c (committed c a outcome) a _ refl (λ t. inl t) (λ i server t b. b) u

module _ (c : Core) (a : ℕ) (under : Under) (server : Server) (are : AreLocks c.locks) where
  abbrev Leaves : Op → Server → Type 0
  Leaves operation new = IsTrue (is_off new.phase) → IsTrue (is_off server.phase) ⊎ Bare (if is_unmount operation then cleared c.locks a else c.locks) a

  abbrev done : Op → Reply → Server
  done operation answer = record (answered_open c under server operation answer) { under = None }

  mounted_leaves : (off failed read : Bool) (answer : Reply) →
      (if off then (if failed then Some reply.Io else due_if read reply.Mounted) else None) ≡ Some answer → Leaves op.Mount (done op.Mount answer)
  mounted_leaves false failed read answer e = absurd (none-some answer e)
  mounted_leaves true true read answer e = subst (λ x. Leaves op.Mount (done op.Mount x)) (same_Some reply.Io answer e) (λ t. inl t)
  mounted_leaves true false false answer e = absurd (none-some answer e)
  mounted_leaves true false true answer e = subst (λ x. Leaves op.Mount (done op.Mount x)) (same_Some reply.Mounted answer e) (λ t. absurd (false≢true t))

  open_leaves : (operation : Op) (answer : Reply) → own_answer c.setting.logs c.flights a server under operation ≡ Some answer →
      Leaves operation (done operation answer)
  open_leaves (op.Create path) answer e = absurd (none-some answer e)
  open_leaves (op.Mkdir path) answer e = absurd (none-some answer e)
  open_leaves (op.Link path to) answer e = absurd (none-some answer e)
  open_leaves (op.Symlink path target) answer e = absurd (none-some answer e)
  open_leaves (op.Unlink path) answer e = absurd (none-some answer e)
  open_leaves (op.Rmdir path) answer e = absurd (none-some answer e)
  open_leaves (op.Rename path to) answer e = absurd (none-some answer e)
  open_leaves (op.Write path off bytes) answer e = absurd (none-some answer e)
  open_leaves (op.Fill path off len byte) answer e = absurd (none-some answer e)
  open_leaves (op.Truncate path len) answer e = absurd (none-some answer e)
  open_leaves (op.Read path off len) answer e = absurd (none-some answer e)
  open_leaves (op.Stat path) answer e = absurd (none-some answer e)
  open_leaves (op.List path) answer e = absurd (none-some answer e)
  open_leaves (op.Readlink path) answer e = absurd (none-some answer e)
  open_leaves (op.Time path) answer e = absurd (none-some answer e)
  open_leaves op.Sync answer e = λ t. inl t
  open_leaves op.Mount answer e = mounted_leaves (is_off server.phase) under.get_failed (is_read c.setting.logs under.slots) answer e
  open_leaves op.Unmount answer e = λ t. inr (bare_cleared c.locks are a)
  open_leaves op.Crash answer e = absurd (none-some answer e)
  open_leaves (op.CrashAt k) answer e = λ t. inl t
  open_leaves (op.CutAt k) answer e = λ t. inl t
  open_leaves op.Stall answer e = λ t. absurd (false≢true t)

  -- the answer is fixed or open; the locks are given back exactly where an open unmount is answered
  abbrev AnswerLeaves : Op → Reply → Type 0
  AnswerLeaves operation answer = IsTrue (is_off (answered_by c under server operation answer).phase) → IsTrue (is_off server.phase) ⊎ Bare (locks_after c.locks a under operation) a

  answer_leaves : (operation : Op) (answer : Reply) →
      (is_some under.fixed ≡ false → own_answer c.setting.logs c.flights a server under operation ≡ Some answer) → AnswerLeaves operation answer
  answer_leaves operation answer own = go (is_some under.fixed) refl
    where
      fixed : (test : Bool) → IsTrue (is_off (if test then record server { owes = false } else server).phase) → IsTrue (is_off server.phase)
      fixed true t = t
      fixed false t = t

      opened_as : (unmounts : Bool) → Bare (if unmounts then cleared c.locks a else c.locks) a →
          Bare (if unmounts && not false then cleared c.locks a else c.locks) a
      opened_as true b = b
      opened_as false b = b

      over : IsTrue (is_off server.phase) ⊎ Bare (if is_unmount operation then cleared c.locks a else c.locks) a →
          IsTrue (is_off server.phase) ⊎ Bare (if is_unmount operation && not false then cleared c.locks a else c.locks) a
      over (inl t) = inl t
      over (inr b) = inr (opened_as (is_unmount operation) b)

      go : (b : Bool) → is_some under.fixed ≡ b →
          IsTrue (is_off (record (if b then (if is_unmount operation && is_ok answer then record server { owes = false } else server) else answered_open c under server operation answer) { under = None }).phase) →
          IsTrue (is_off server.phase) ⊎ Bare (if is_unmount operation && not b then cleared c.locks a else c.locks) a
      go true e t = inl (fixed (is_unmount operation && is_ok answer) t)
      go false e t = over (open_leaves operation answer (own e) t)

answered_with_unheld : (c : Core) (a : ℕ) (under : Under) (answer : Reply) (operation : Option Op) → AreLocks c.locks →
    (is_some under.fixed ≡ false → own_answer_of c.setting.logs c.flights a (c.servers a) under operation ≡ Some answer) → Unheld c → Unheld (answered_with c a under answer operation)
answered_with_unheld c a under answer None are own u = u
answered_with_unheld c a under answer (Some operation) are own u =
    moved c (answered_with c a under answer (Some operation)) a _ refl (answer_leaves c a under (c.servers a) are operation answer own)
    (λ i server t b. given (is_unmount operation && not (is_some under.fixed)) i b) u
  where
    given : (test : Bool) (i : ℕ) → Bare c.locks i → Bare (if test then cleared c.locks a else c.locks) i
    given true i b = cleared_bare c.locks are a i b
    given false i b = b

answered_unheld : (c : Core) (a : ℕ) (under : Option Under) (answer : Option Reply) → AreLocks c.locks → (c.servers a).under ≡ under →
    due_at c a ≡ answer → Unheld c → Unheld (answered_under c a under answer)
answered_unheld c a None None are n e u = u
answered_unheld c a None (Some answer) are n e u = u
answered_unheld c a (Some under) None are n e u = u
answered_unheld c a (Some under) (Some answer) are n e u =
    answered_with_unheld c a under answer (operation_of under.line.what) are
    (opened (is_answering (c.servers a).phase) under.fixed (own_answer_of c.setting.logs c.flights a (c.servers a) under (operation_of under.line.what)) answer
    (sym (ap (λ o. if is_answering (c.servers a).phase then due_under c.setting.logs c.flights a (c.servers a) o else None) n) ∙ e))
    u

given_unheld : (c : Core) (a : ℕ) (lock : LockId) (asked : Option AskedFor) → IsTrue (is_up (c.servers a).phase) → Unheld c → Unheld (given_for c a lock asked)
given_unheld c a lock None up u = u
given_unheld c a lock (Some Downgrade) up u = calm c (given_for c a lock (Some Downgrade)) (λ i. refl) (λ i server t b. changed_bare c.locks a lock shared i (apart c a i up t) b) u
given_unheld c a lock (Some Release) up u =
    moved c (given_for c a lock (Some Release)) a _ refl (λ t. inl t) (λ i server t b. changed_bare c.locks a lock given_up i (apart c a i up t) b) u

issued_unheld : (c : Core) (a sector : ℕ) (write : Option Write) → Unheld c → Unheld (issued_as c a sector write)
issued_unheld c a sector None u = u
issued_unheld c a sector (Some write) u = moved c (issued_as c a sector (Some write)) a _ refl (λ t. inl t) (λ i server t b. b) u

taken_unheld : (c : Core) (flight : Flight) → Unheld c → Unheld (taken_in c flight)
taken_unheld c flight u =
    either flight.present _ _ (steady c flight.server _ (acknowledged_phase flight.sector flight.block flight.purpose (c.servers flight.server)) u) u

arrived_as_unheld : (c : Core) (flight : Flight) (heard : Heard) → Unheld c → Unheld (arrived_as c flight heard)
arrived_as_unheld c flight Nothing u = u
arrived_as_unheld c flight (Got block) u = u
arrived_as_unheld c flight GetFailed u = u
arrived_as_unheld c flight Written u = taken_unheld c flight u
arrived_as_unheld c flight Late u = u
arrived_as_unheld c flight (PutFailed new) u = failed_unheld c flight.server u

arrived_unheld : (c : Core) (ticket : ℕ) (heard : Heard) (flight : Option Flight) → Unheld c → Unheld (arrived_from c ticket heard flight)
arrived_unheld c ticket heard None u = u
arrived_unheld c ticket heard (Some flight) u = arrived_as_unheld (landed c ticket) flight heard u

died_unheld : (c : Core) (a : ℕ) (phase : Phase) → Unheld c → Unheld (died_in c a phase)
died_unheld c a Off u = u
died_unheld c a Up u = u
died_unheld c a Still u = u
died_unheld c a (Doomed fate) u = moved c (died_in c a (Doomed fate)) a _ refl (λ t. absurd (false≢true t)) (λ i server t b. b) u
died_unheld c a Dead u = u

-- who takes a log isn't Off
recover_unheld : (c : Core) (dead by : ℕ) → CanRecover c dead by → Unheld c → Unheld (after c (Recover dead by) Nothing)
recover_unheld c dead by can u =
    moved c (after c (Recover dead by) Nothing) by _ refl (λ t. inl t) (λ i server t b. taken_bare c.locks dead by c.now (expiry_of c by) i (other i server t) b) u
  where
    taker : (s u h n : Bool) → IsTrue ((s && u) || (h && n)) → h ≡ false → IsTrue u
    taker s true h n t e = refl
    taker s false true n t e = absurd (false≢true (sym e))
    taker true false false n t e = absurd (false≢true t)
    taker false false false n t e = absurd (false≢true t)

    other : (i : ℕ) → IsTrue (is_server i) → IsTrue (is_off (c.servers i).phase) → i ≡ by → ⊥
    other i server t same =
        apart c by i
        (taker (is_server by) (is_up (c.servers by).phase) (by == host_party) (none_up c) can.taker (server_no_host by (subst (λ k. IsTrue (is_server k)) same server)))
        t same

finished_unheld : (c : Core) (by : ℕ) (recovery : Option Recovery) → AreLocks c.locks → Unheld c → Unheld (finished_from c by recovery)
finished_unheld c by None are u = u
finished_unheld c by (Some recovery) are u =
    moved rid (finished_by c by recovery.dead) recovery.dead _ refl (λ t. inr (bare_cleared c.locks are recovery.dead)) (λ i server t b. cleared_bare c.locks are recovery.dead i b)
    (steady c by (record (c.servers by) { recovery = None }) refl u)
  where
    rid : Core
    rid = record c { servers = put c.servers by (record (c.servers by) { recovery = None }) }

host_unheld : (c : Core) (line : Option Line) → Unheld c → Unheld (host_answered_line c line)
host_unheld c None u = u
host_unheld c (Some line) u = u

-- ---- each event

fetch_failed_unheld : (c : Core) (a : ℕ) → Unheld c → Unheld (fetch_failed c a)
fetch_failed_unheld c a u = either (is_off (c.servers a).phase) _ _ (steady c a _ refl u) (failed_unheld c a u)

fetch_unheld : (c : Core) (a sector : ℕ) (heard : Heard) → Unheld c → Unheld (after c (Fetch a sector) heard)
fetch_unheld c a sector (Got block) u = steady c a _ (fetched_phase a (stage c a) sector block (c.servers a)) u
fetch_unheld c a sector Nothing u = fetch_failed_unheld c a u
fetch_unheld c a sector GetFailed u = fetch_failed_unheld c a u
fetch_unheld c a sector Written u = fetch_failed_unheld c a u
fetch_unheld c a sector Late u = fetch_failed_unheld c a u
fetch_unheld c a sector (PutFailed new) u = fetch_failed_unheld c a u

load_unheld : (c : Core) (by slot : ℕ) (heard : Heard) → Unheld c → Unheld (after c (Load by slot) heard)
load_unheld c by slot (Got block) u = steady c by _ refl u
load_unheld c by slot Nothing u = failed_unheld c by u
load_unheld c by slot GetFailed u = failed_unheld c by u
load_unheld c by slot Written u = failed_unheld c by u
load_unheld c by slot Late u = failed_unheld c by u
load_unheld c by slot (PutFailed new) u = failed_unheld c by u

look_unheld : (c : Core) (by sector : ℕ) (heard : Heard) → Unheld c → Unheld (after c (Look by sector) heard)
look_unheld c by sector (Got block) u = steady c by _ refl u
look_unheld c by sector Nothing u = failed_unheld c by u
look_unheld c by sector GetFailed u = failed_unheld c by u
look_unheld c by sector Written u = failed_unheld c by u
look_unheld c by sector Late u = failed_unheld c by u
look_unheld c by sector (PutFailed new) u = failed_unheld c by u

read_unheld : (c : Core) (sector : ℕ) (heard : Heard) → Unheld c → Unheld (after c (Read sector) heard)
read_unheld c sector (Got block) u = u
read_unheld c sector Nothing u = failed_unheld c host_party u
read_unheld c sector GetFailed u = failed_unheld c host_party u
read_unheld c sector Written u = failed_unheld c host_party u
read_unheld c sector Late u = failed_unheld c host_party u
read_unheld c sector (PutFailed new) u = failed_unheld c host_party u

ticked_unheld : (c : Core) → Unheld c → Unheld (after c Tick Nothing)
ticked_unheld c u =
    calm c (after c Tick Nothing) (λ i. go i ((c.now + 1) % c.setting.flush_ticks == 0)) (λ i server t b. extended_bare c.locks host_party (lease_to c.setting (c.now + 1)) i b) u
  where
    go : (i : ℕ) (b : Bool) → (if b then wanting_all_up (c.servers i) else c.servers i).phase ≡ (c.servers i).phase
    go i true = wanting_phase (c.servers i)
    go i false = refl

close_unheld : (c : Core) (a : ℕ) → AreLocks c.locks → Unheld c → Unheld (after c (Close a) Nothing)
close_unheld c a are u =
    either (clean_at c a) _ _
    (moved c (record c { servers = put c.servers a (off_after (c.servers a)); locks = cleared c.locks a }) a _ refl (λ t. inr (bare_cleared c.locks are a))
    (λ i server t b. cleared_bare c.locks are a i b) u)
    (steady c a (wanting_all (c.servers a)) refl u)

event_unheld : (s : State) (event : Event) (heard : Heard) → Makes s event heard → AreLocks s.core.locks → Unheld s.core → Unheld (after s.core event heard)
event_unheld s (Begin a) heard m are u = steady s.core a _ (begun_phase (s.core.servers a) (next_of s.core a)) u
event_unheld s (Ask a lock mode) heard m are u =
    calm s.core (after s.core (Ask a lock mode) heard) (λ i. refl)
    (λ i server t b. changed_bare s.core.locks a lock (wanted_by (want_answer s.core.locks a lock mode) mode) i (apart s.core a i (staged s.core a (Asking (lock, mode)) m.can.can.least) t) b) u
event_unheld s (Fetch a sector) heard m are u = fetch_unheld s.core a sector heard u
event_unheld s (Again a) heard m are u = steady s.core a _ (again_phase s.core.setting.logs (stage s.core a) (s.core.servers a)) u
event_unheld s (Clear a block) heard m are u = steady s.core a _ refl u
event_unheld s (Commit a) heard m are u = committed_unheld s.core a (stage s.core a) u
event_unheld s (Answer a) heard m are u = answered_unheld s.core a (s.core.servers a).under (due_at s.core a) are refl refl u
event_unheld s (Give a lock) heard m are u = given_unheld s.core a lock (asked_for s.core.locks a lock) m.can.can.up u
event_unheld s (Issue a sector) heard m are u = issued_unheld s.core a sector (value_at (writes s.core a) sector) u
event_unheld s (Doom a) heard m are u = moved s.core (after s.core (Doom a) heard) a _ refl (λ t. absurd (false≢true t)) (λ i server t b. b) u
event_unheld s (Resume a) heard m are u =
    moved s.core (after s.core (Resume a) heard) a _ refl (λ t. absurd (false≢true t)) (λ i server t b. cleared_bare s.core.locks are a i b) u
event_unheld s (Arrive ticket) heard m are u = arrived_unheld s.core ticket heard (value_at s.core.flights ticket) u
event_unheld s (Lose ticket) heard m are u = u
event_unheld s (Die a) heard m are u = died_unheld s.core a (s.core.servers a).phase u
event_unheld s (Renew a) heard m are u =
    moved s.core (after s.core (Renew a) heard) a _ refl (λ t. inl t) (λ i server t b. extended_bare s.core.locks a (lease_to s.core.setting s.core.now) i b) u
event_unheld s Tick heard m are u = ticked_unheld s.core u
event_unheld s (Recover dead by) heard m are u = recover_unheld s.core dead by m.can.can u
event_unheld s (Load by slot) heard m are u = load_unheld s.core by slot heard u
event_unheld s (Look by sector) heard m are u = look_unheld s.core by sector heard u
event_unheld s (Finish by) heard m are u = finished_unheld s.core by (s.core.servers by).recovery are u
event_unheld s (HostLine number) heard m are u = host_unheld s.core (next_of s.core host_party) u
event_unheld s (Close a) heard m are u = close_unheld s.core a are u
event_unheld s (Read sector) heard m are u = read_unheld s.core sector heard u
event_unheld s (Show place) heard m are u = u
event_unheld s End heard m are u = u

step_unheld : (s v : State) → Step s v → AreLocks s.core.locks → Unheld s.core → Unheld v.core
step_unheld s v (Event_ event heard makes) are u = event_unheld s event heard makes are u
step_unheld s v (Enter a line can) are u = u
step_unheld s v (Hold a on may) are u = u
step_unheld s v (Flush a may) are u = steady s.core a _ (wanting_phase (s.core.servers a)) u
step_unheld s v (Relock locks going good same wait) are u = calm s.core v.core (λ i. refl) (λ i server t b. relocked_bare locks s.core.locks good same wait i b) u
step_unheld s v (Note line may) are u = u
step_unheld s v (Peek sector going) are u = u
step_unheld s v (PeekFails sector going) are u = failed_unheld s.core host_party u

bare_at_first : (i : ℕ) → Bare no_locks i
unfolding no_clerks no_logs
bare_at_first i = record { claims = claims (cases_lt i 16); logs = λ dead. logs dead (cases_lt dead 256) }
  where
    claims : (i < 16) ⊎ (16 ≤ i) → claims_of no_locks i ≡ []
    claims (inl below) = get_or-replicate 16 i [] [] below
    claims (inr past) = get_or_past (replicate 16 []) i [] (omega (arith, length-replicate {A = Claims} 16 [], past))

    logs : (dead : ℕ) → (dead < 256) ⊎ (256 ≤ dead) → takes i (log_hold no_locks dead) ≡ false
    logs dead (inl below) = ap (takes i) (get_or-replicate 256 dead None None below)
    logs dead (inr past) = ap (takes i) (get_or_past (replicate 256 None) dead None (omega (arith, length-replicate {A = Option LogHold} 256 None, past)))

pub bare_of_run : (setting : Setting) (disk : Sectors) (s : State) → Run (first_state setting disk) s → Unheld s.core
bare_of_run setting disk =
    along setting disk (λ s. Unheld s.core) (λ s v run step u. step_unheld s v step (locks_of_run setting disk s run) u) (λ i server t. bare_at_first i)

-- ---- in the words of the locks

pub held_by_off : (setting : Setting) (disk : Sectors) (s : State) → Run (first_state setting disk) s → (a : ℕ) → IsTrue (is_server a) →
    IsTrue (is_off (s.core.servers a).phase) → (lock : LockId) →
    held s.core.locks a lock ≡ None
held_by_off setting disk s run a server off lock = ap (λ claims. (claim_in claims lock).held) (bare_of_run setting disk s run a server off).claims

pub wished_by_off : (setting : Setting) (disk : Sectors) (s : State) → Run (first_state setting disk) s → (a : ℕ) → IsTrue (is_server a) →
    IsTrue (is_off (s.core.servers a).phase) → (lock : LockId)
    (mode : Mode) → is_wished s.core.locks a lock mode ≡ false
wished_by_off setting disk s run a server off lock mode = ap (λ claims. is_wished_in (claim_in claims lock) mode) (bare_of_run setting disk s run a server off).claims ∙ none_wished mode

pub taken_by_off : (setting : Setting) (disk : Sectors) (s : State) → Run (first_state setting disk) s → (a : ℕ) → IsTrue (is_server a) →
    IsTrue (is_off (s.core.servers a).phase) → (dead : ℕ)
    (hold : LogHold) → log_hold s.core.locks dead ≡ Some hold → hold.by.0 ≡ a → ⊥
taken_by_off setting disk s run a server off dead hold e same = differ hold.by.0 same (sym (ap (takes a) e) ∙ (bare_of_run setting disk s run a server off).logs dead)
  where
    differ : (x : ℕ) → x ≡ a → (x == a) ≡ false → ⊥
    differ x e f = absurd (grind (arith, nat_tests, e, f))
