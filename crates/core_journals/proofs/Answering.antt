-- What ends a line under way: its answer, or that every line is answered. And what is answered stays so. Event by event.
use Rattle.std.proofs.Common.{◌≡◌, ℕ, suc, ◌≤◌, ◌+◌, ◌%◌, ◌⊎◌, inl, inr, Bool, true, false, not, ◌==◌, if◌then◌else◌, cond, is_some, IsTrue, List, [], ◌∷◌, length, filter, Option, Some, None, refl, sym, ap, ◌∙◌, subst, arith}
use Rattle.std.proofs.Math.Nat.{le_refl}
use Rattle.std.proofs.lemmas.Bool.{cases_eq, false≢true}
use Rattle.std.proofs.lemmas.Option.{same_Some}
use Rattle.std.specs.Option.{option_map}
use Rattle.frang_base.specs.Functions.{put}
use Rattle.frang_base.specs.declared.lock.LockId.{LockId}
use Rattle.frang_base.specs.declared.op.Op.{Op}
use Rattle.frang_base.specs.declared.reply.Reply.{Reply}
use Rattle.frang_base.specs.declared.script.Line.{Line}
use Rattle.frang_base.proofs.Basics.{at_put, put_other, put_same}
use Rattle.disk_definitions.proofs.Listed.{Among}
use Rattle.lock_definitions.specs.declared.claim.AskedFor.{AskedFor}
use Rattle.lock_definitions.specs.declared.claim.AskedFor.TheVariants.{Release, Downgrade}
use Rattle.lock_definitions.specs.Calls.{asked_for, cleared}
use Rattle.sector_bytes.specs.Blocks.{Block}
use Rattle.sector_bytes.specs.SectorMaps.{value_at}
use Rattle.core_definitions.specs.Cores.{Core, clean_at, due_at, is_all_answered, next_of, stage, writes}
use Rattle.core_definitions.specs.EndEffects.{finished_from, host_answered_line, recovered}
use Rattle.core_definitions.specs.Effects.{after}
use Rattle.core_definitions.specs.Events.{Event, Begin, Ask, Fetch, Again, Clear, Commit, Answer, Give, Issue, Doom, Resume, Arrive, Lose, Die, Renew, Tick, Recover, Load, Look, Finish, HostLine, Close, Read, Show, End, Heard, Nothing, Got, GetFailed, Written, Late, PutFailed}
use Rattle.core_definitions.specs.Flights.{Flight, InPlace, OfLog, OfRecovery, Purpose}
use Rattle.core_definitions.specs.Guards.{Can}
use Rattle.core_definitions.specs.LineEffects.{again_by, answered_under, answered_with, begun_line, begun_with, cached_under, call_failed, committed_at, committed_by, cover_needed, failed_by, fetch_failed, number_under, off_after, refused_under, slot_read, with_under}
use Rattle.core_definitions.specs.Lines.{Stage, Asking, Fetching, Moving, Stopping, Growing, Clearing, Finishing, Under, operation_of}
use Rattle.core_definitions.specs.Recoveries.{Recovery}
use Rattle.core_definitions.specs.Runs.{State, Step, Event_, Enter, Hold, Flush, Relock, Note, Peek, PeekFails}
use Rattle.core_definitions.specs.Scripts.{Marks, host_party}
use Rattle.core_definitions.specs.Servers.{Doomed, Off, Up, Still, Dead, Phase, Server, is_off, is_up, wanting_all, wanting_all_up}
use Rattle.core_definitions.specs.WriteEffects.{acknowledged, arrived_from, clean_now, died_in, died_with, given_for, issued_as, landed, under_at_death}
use Rattle.core_definitions.specs.Writes.{Write, comes_clean}

-- what becomes of a line under way
pub data Ends (c v : Core) (a : ℕ) (u : Under) : Type 0 where
  Goes : IsTrue (is_some (v.servers a).under) → Ends c v a u
  Said : v.answered u.line.number ≡ true → Ends c v a u
  Done : IsTrue (is_all_answered c) → Ends c v a u

pub record Answering (c v : Core) : Type 0 where
  pub grows : (number : ℕ) → c.answered number ≡ true → v.answered number ≡ true
  pub ends : (a : ℕ) (u : Under) → (c.servers a).under ≡ Some u → Ends c v a u

abbrev Keeps : Core → Core → Type 0
Keeps c v = (a : ℕ) → IsTrue (is_some (c.servers a).under) → IsTrue (is_some (v.servers a).under)

-- nothing is answered, and each line goes on
same : (c v : Core) → v.answered ≡ c.answered → Keeps c v → Answering c v
same c v e keeps = record { grows = λ n t. ap (λ marks. marks n) e ∙ t; ends = λ a u has. Goes (keeps a (ap is_some has)) }

put_keeps : (c : Core) (b : ℕ) (new : Server) → (IsTrue (is_some (c.servers b).under) → IsTrue (is_some new.under)) → (a : ℕ) → IsTrue (is_some (c.servers a).under) →
    IsTrue (is_some (put c.servers b new a).under)
put_keeps c b new keeps a t = at_put (λ x. IsTrue (is_some x.under)) c.servers b new a (λ e. keeps (subst (λ n. IsTrue (is_some (c.servers n).under)) e t)) (λ n. t)

mapped : {X Y : Type 0} (f : X → Y) (o : Option X) → IsTrue (is_some o) → IsTrue (is_some (option_map f o))
mapped f None t = t
mapped f (Some x) t = refl

begun_keeps : (server : Server) (line : Option Line) → IsTrue (is_some server.under) → IsTrue (is_some (begun_line server line).under)
begun_keeps server None t = t
begun_keeps server (Some line) t = go (operation_of line.what)
  where
    go : (o : Option Op) → IsTrue (is_some (begun_with server line o).under)
    go None = t
    go (Some operation) = refl

again_keeps : (c : Core) (a : ℕ) (at : Option Stage) → IsTrue (is_some (c.servers a).under) → IsTrue (is_some (again_by c.setting.logs at (c.servers a)).under)
again_keeps c a None t = t
again_keeps c a (Some (Asking need)) t = t
again_keeps c a (Some (Fetching needs)) t = t
again_keeps c a (Some Moving) t = mapped _ (c.servers a).under t
again_keeps c a (Some Stopping) t = t
again_keeps c a (Some (Growing needs seen)) t = mapped _ (c.servers a).under t
again_keeps c a (Some (Clearing block)) t = t
again_keeps c a (Some (Finishing outcome)) t = t

fetched_keeps : (a sector : ℕ) (block : Block) (server : Server) (cover : Option LockId) → (off : Bool) → IsTrue (is_some server.under) →
    IsTrue (is_some (if off then with_under server (slot_read a sector block) else cached_under server sector block cover).under)
fetched_keeps a sector block server cover true t = mapped (slot_read a sector block) server.under t
fetched_keeps a sector block server None false t = t
fetched_keeps a sector block server (Some cover) false t = t

failed_call : (c : Core) (b : ℕ) → Answering c (call_failed c b)
failed_call c b = go (b == host_party)
  where
    go : (t : Bool) → Answering c (if t then record c { over = true } else record c { servers = put c.servers b (failed_by (c.servers b)) })
    go true = same c _ refl (λ a t. t)
    go false = same c _ refl (put_keeps c b (failed_by (c.servers b)) (λ t. t))

failed_fetch : (c : Core) (b : ℕ) → Answering c (fetch_failed c b)
failed_fetch c b = go (is_off (c.servers b).phase)
  where
    go : (t : Bool) → Answering c (if t then record c { servers = put c.servers b (with_under (c.servers b) refused_under) } else call_failed c b)
    go true = same c _ refl (put_keeps c b (with_under (c.servers b) refused_under) (mapped refused_under (c.servers b).under))
    go false = failed_call c b

-- ---- answers

module _ (c : Core) (b : ℕ) (new : Server) (number : ℕ) (v : Core) (servers : v.servers ≡ put c.servers b new) (marks : v.answered ≡ put c.answered number true)
    (is : (u : Under) → (c.servers b).under ≡ Some u → u.line.number ≡ number) where
  answer_said : Answering c v
  answer_said = record {
    grows = λ n t. ap (λ m. m n) marks ∙ at_put (λ x. x ≡ true) c.answered number true n (λ e. refl) (λ e. t);
    ends = λ a u has. go a u has (cases_eq a b);
  }
    where
      go : (a : ℕ) (u : Under) → (c.servers a).under ≡ Some u → (a ≡ b) ⊎ (a ≡ b → ⊥) → Ends c v a u
      go a u has (inl e) =
          Said (ap (λ m. m u.line.number) marks ∙ ap (put c.answered number true) (is u (ap (λ n. (c.servers n).under) (sym e) ∙ has)) ∙ put_same c.answered number true)
      go a u has (inr ne) = Goes (ap (λ f. is_some (f a).under) servers ∙ ap (λ (x : Server). is_some x.under) (put_other c.servers b new a ne) ∙ ap is_some has)

committed_said : (c : Core) (b : ℕ) (at : Option Stage) → Answering c (committed_at c b at)
committed_said c b None = same c _ refl (λ a t. t)
committed_said c b (Some (Asking need)) = same c _ refl (λ a t. t)
committed_said c b (Some (Fetching needs)) = same c _ refl (λ a t. t)
committed_said c b (Some Moving) = same c _ refl (λ a t. t)
committed_said c b (Some Stopping) = same c _ refl (λ a t. t)
committed_said c b (Some (Growing needs seen)) = same c _ refl (λ a t. t)
committed_said c b (Some (Clearing block)) = same c _ refl (λ a t. t)
committed_said c b (Some (Finishing outcome)) =
    answer_said c b (committed_by outcome (c.servers b)) (number_under (c.servers b).under) (committed_at c b (Some (Finishing outcome))) refl refl (λ u has. sym (ap number_under has))

answered_said : (c : Core) (b : ℕ) (under : Option Under) (answer : Option Reply) → (c.servers b).under ≡ under → Answering c (answered_under c b under answer)
answered_said c b None None e = same c _ refl (λ a t. t)
answered_said c b None (Some answer) e = same c _ refl (λ a t. t)
answered_said c b (Some under) None e = same c _ refl (λ a t. t)
answered_said c b (Some under) (Some answer) e = go (operation_of under.line.what)
  where
    go : (o : Option Op) → Answering c (answered_with c b under answer o)
    go None = same c _ refl (λ a t. t)
    go (Some operation) =
        answer_said c b _ under.line.number (answered_with c b under answer (Some operation)) refl refl (λ u has. ap (λ (x : Under). x.line.number) (same_Some u under (sym has ∙ e)))

host_said : (c : Core) (line : Option Line) → Answering c (host_answered_line c line)
host_said c None = same c _ refl (λ a t. t)
host_said c (Some line) = record {
  grows = λ n t. at_put (λ x. x ≡ true) c.answered line.number true n (λ e. refl) (λ e. t);
  ends = λ a u has. Goes (ap is_some has);
}

-- ---- the others

given_said : (c : Core) (b : ℕ) (lock : LockId) (asked : Option AskedFor) → Answering c (given_for c b lock asked)
given_said c b lock None = same c _ refl (λ a t. t)
given_said c b lock (Some Downgrade) = same c _ refl (λ a t. t)
given_said c b lock (Some Release) = same c _ refl (put_keeps c b _ (λ t. t))

issued_said : (c : Core) (b sector : ℕ) (write : Option Write) → Answering c (issued_as c b sector write)
issued_said c b sector None = same c _ refl (λ a t. t)
issued_said c b sector (Some write) = same c _ refl (put_keeps c b _ (λ t. t))

taken_keeps : (sector : ℕ) (block : Block) (p : Purpose) (server : Server) → IsTrue (is_some server.under) → IsTrue (is_some (acknowledged sector block p server).under)
taken_keeps sector block (OfLog number) server t = t
taken_keeps sector block OfRecovery server t = t
taken_keeps sector block (InPlace cover) server t = go (comes_clean server sector block)
  where
    go : (b : Bool) → IsTrue (is_some (if b then clean_now sector server else server).under)
    go true = t
    go false = t

arrived_said : (c : Core) (ticket : ℕ) (heard : Heard) (flight : Option Flight) → Answering c (arrived_from c ticket heard flight)
arrived_said c ticket heard None = same c _ refl (λ a t. t)
arrived_said c ticket Nothing (Some f) = same c _ refl (λ a t. t)
arrived_said c ticket (Got block) (Some f) = same c _ refl (λ a t. t)
arrived_said c ticket GetFailed (Some f) = same c _ refl (λ a t. t)
arrived_said c ticket Late (Some f) = same c _ refl (λ a t. t)
arrived_said c ticket (PutFailed new) (Some f) = go (f.server == host_party)
  where
    go : (t : Bool) → Answering c (if t then record (landed c ticket) { over = true } else record (landed c ticket) { servers = put c.servers f.server (failed_by (c.servers f.server)) })
    go true = same c _ refl (λ a t. t)
    go false = same c _ refl (put_keeps c f.server (failed_by (c.servers f.server)) (λ t. t))
arrived_said c ticket Written (Some f) = go f.present
  where
    go : (t : Bool) → Answering c (if t then record (landed c ticket) { servers = put c.servers f.server (acknowledged f.sector f.block f.purpose (c.servers f.server)) } else landed c ticket)
    go true = same c _ refl (put_keeps c f.server _ (taken_keeps f.sector f.block f.purpose (c.servers f.server)))
    go false = same c _ refl (λ a t. t)

died_said : (c : Core) (b : ℕ) (phase : Phase) → Answering c (died_in c b phase)
died_said c b Off = same c _ refl (λ a t. t)
died_said c b Up = same c _ refl (λ a t. t)
died_said c b Still = same c _ refl (λ a t. t)
died_said c b (Doomed fate) = same c _ refl (put_keeps c b (died_with fate (c.servers b)) (mapped (under_at_death (c.servers b).failed) (c.servers b).under))
died_said c b Dead = same c _ refl (λ a t. t)

flushed_keeps : (server : Server) (test : Bool) → IsTrue (is_some server.under) → IsTrue (is_some (if test then wanting_all_up server else server).under)
flushed_keeps server false t = t
flushed_keeps server true t = go (is_up server.phase)
  where
    go : (b : Bool) → IsTrue (is_some (if b then wanting_all server else server).under)
    go true = t
    go false = t

finished_said : (c : Core) (by : ℕ) (recovery : Option Recovery) → Answering c (finished_from c by recovery)
finished_said c by None = same c _ refl (λ a t. t)
finished_said c by (Some r) =
    same c _ refl
    (λ a t. at_put (λ x. IsTrue (is_some x.under)) (put c.servers by (record (c.servers by) { recovery = None })) r.dead (recovered (c.servers r.dead)) a
    (λ e. subst (λ n. IsTrue (is_some (c.servers n).under)) e t) (λ n. put_keeps c by (record (c.servers by) { recovery = None }) (λ x. x) a t))

closed_said : (c : Core) (b : ℕ) → IsTrue (is_all_answered c) → Answering c (after c (Close b) Nothing)
closed_said c b all = go (clean_at c b)
  where
    go : (t : Bool) → Answering c (if t then record c { servers = put c.servers b (off_after (c.servers b)); locks = cleared c.locks b } else record c { servers = put c.servers b (wanting_all (c.servers b)) })
    go true = record { grows = λ n t. t; ends = λ a u has. Done all }
    go false = same c _ refl (put_keeps c b (wanting_all (c.servers b)) (λ t. t))

-- ---- each event

module _ (c : Core) where
  fetch_said : (b sector : ℕ) (heard : Heard) → Answering c (after c (Fetch b sector) heard)
  fetch_said b sector (Got block) =
      same c _ refl (put_keeps c b _ (fetched_keeps b sector block (c.servers b) (cover_needed (stage c b) sector) (is_off (c.servers b).phase)))
  fetch_said b sector Nothing = failed_fetch c b
  fetch_said b sector GetFailed = failed_fetch c b
  fetch_said b sector Written = failed_fetch c b
  fetch_said b sector Late = failed_fetch c b
  fetch_said b sector (PutFailed new) = failed_fetch c b

  load_said : (by slot : ℕ) (heard : Heard) → Answering c (after c (Load by slot) heard)
  load_said by slot (Got block) = same c _ refl (put_keeps c by _ (λ t. t))
  load_said by slot Nothing = failed_call c by
  load_said by slot GetFailed = failed_call c by
  load_said by slot Written = failed_call c by
  load_said by slot Late = failed_call c by
  load_said by slot (PutFailed new) = failed_call c by

  look_said : (by sector : ℕ) (heard : Heard) → Answering c (after c (Look by sector) heard)
  look_said by sector (Got block) = same c _ refl (put_keeps c by _ (λ t. t))
  look_said by sector Nothing = failed_call c by
  look_said by sector GetFailed = failed_call c by
  look_said by sector Written = failed_call c by
  look_said by sector Late = failed_call c by
  look_said by sector (PutFailed new) = failed_call c by

  read_said : (sector : ℕ) (heard : Heard) → Answering c (after c (Read sector) heard)
  read_said sector (Got block) = same c _ refl (λ a t. t)
  read_said sector Nothing = failed_call c host_party
  read_said sector GetFailed = failed_call c host_party
  read_said sector Written = failed_call c host_party
  read_said sector Late = failed_call c host_party
  read_said sector (PutFailed new) = failed_call c host_party

  event_said : (event : Event) (heard : Heard) → Can c event → Answering c (after c event heard)
  event_said (Begin b) heard can = same c _ refl (put_keeps c b _ (begun_keeps (c.servers b) (next_of c b)))
  event_said (Ask b lock mode) heard can = same c _ refl (λ a t. t)
  event_said (Fetch b sector) heard can = fetch_said b sector heard
  event_said (Again b) heard can = same c _ refl (put_keeps c b _ (again_keeps c b (stage c b)))
  event_said (Clear b block) heard can = same c _ refl (put_keeps c b _ (λ t. t))
  event_said (Commit b) heard can = committed_said c b (stage c b)
  event_said (Answer b) heard can = answered_said c b (c.servers b).under (due_at c b) refl
  event_said (Give b lock) heard can = given_said c b lock (asked_for c.locks b lock)
  event_said (Issue b sector) heard can = issued_said c b sector (value_at (writes c b) sector)
  event_said (Doom b) heard can = same c _ refl (put_keeps c b _ (λ t. t))
  event_said (Resume b) heard can = same c _ refl (put_keeps c b _ (λ t. t))
  event_said (Arrive ticket) heard can = arrived_said c ticket heard (value_at c.flights ticket)
  event_said (Lose ticket) heard can = same c _ refl (λ a t. t)
  event_said (Die b) heard can = died_said c b (c.servers b).phase
  event_said (Renew b) heard can = same c _ refl (put_keeps c b _ (λ t. t))
  event_said Tick heard can = same c _ refl (λ a t. flushed_keeps (c.servers a) ((c.now + 1) % c.setting.flush_ticks == 0) t)
  event_said (Recover dead by) heard can = same c _ refl (put_keeps c by _ (λ t. t))
  event_said (Load by slot) heard can = load_said by slot heard
  event_said (Look by sector) heard can = look_said by sector heard
  event_said (Finish by) heard can = finished_said c by (c.servers by).recovery
  event_said (HostLine number) heard can = host_said c (next_of c host_party)
  event_said (Close b) heard can = closed_said c b can.can.answered
  event_said (Read sector) heard can = read_said sector heard
  event_said (Show place) heard can = same c _ refl (λ a t. t)
  event_said End heard can = same c _ refl (λ a t. t)

pub step_said : (s v : State) → Step s v → Answering s.core v.core
step_said s v (Event_ event heard makes) = event_said s.core event heard makes.can
step_said s v (Enter a line can) = same s.core _ refl (λ a t. t)
step_said s v (Hold a on may) = same s.core _ refl (λ a t. t)
step_said s v (Flush b may) = same s.core _ refl (put_keeps s.core b (wanting_all_up (s.core.servers b)) (flushed_keeps (s.core.servers b) true))
step_said s v (Relock locks going are alike wait) = same s.core _ refl (λ a t. t)
step_said s v (Note line may) = same s.core _ refl (λ a t. t)
step_said s v (Peek sector going) = same s.core _ refl (λ a t. t)
step_said s v (PeekFails sector going) = failed_call s.core host_party

-- ---- how many lines aren't answered

abbrev pub unanswered : Marks → List Line → List Line
unanswered marks lines = filter (λ line. not (marks line.number)) lines

module _ (before now : Marks) (grows : (number : ℕ) → before number ≡ true → now number ≡ true) where
  abbrev count : Bool → ℕ → ℕ
  count true n = n
  count false n = suc n

  counted : (marks : Marks) (line : Line) (lines : List Line) → length (unanswered marks (line ∷ lines)) ≡ count (marks line.number) (length (unanswered marks lines))
  counted marks line lines = go (marks line.number)
    where
      go : (b : Bool) → length (cond (not b) (line ∷ unanswered marks lines) (unanswered marks lines)) ≡ count b (length (unanswered marks lines))
      go true = refl
      go false = refl

  less : (b d : Bool) → (b ≡ true → d ≡ true) → (n m : ℕ) → n ≤ m → count d n ≤ count b m
  less true true h n m l = l
  less true false h n m l = absurd (false≢true (h refl))
  less false true h n m l = omega (arith, l)
  less false false h n m l = omega (arith, l)

  pub no_more : (lines : List Line) → length (unanswered now lines) ≤ length (unanswered before lines)
  no_more [] = le_refl 0
  no_more (line ∷ lines) =
      subst (λ n. n ≤ length (unanswered before (line ∷ lines))) (sym (counted now line lines))
      (subst (λ n. count (now line.number) (length (unanswered now lines)) ≤ n) (sym (counted before line lines))
      (less (before line.number) (now line.number) (grows line.number) (length (unanswered now lines)) (length (unanswered before lines)) (no_more lines)))

  fewer : (b d : Bool) → (b ≡ true → d ≡ true) → (n m : ℕ) → suc n ≤ m → suc (count d n) ≤ count b m
  fewer true true h n m l = l
  fewer true false h n m l = absurd (false≢true (h refl))
  fewer false true h n m l = omega (arith, l)
  fewer false false h n m l = omega (arith, l)

  pub one_less : (lines : List Line) (line : Line) → Among line lines → before line.number ≡ false → now line.number ≡ true → suc (length (unanswered now lines)) ≤ length (unanswered before lines)
  one_less [] line i was is = absurd i
  one_less (x ∷ xs) line i was is =
      subst (λ n. suc n ≤ length (unanswered before (x ∷ xs))) (sym (counted now x xs))
      (subst (λ n. suc (count (now x.number) (length (unanswered now xs))) ≤ n) (sym (counted before x xs)) (go i (λ k. one_less xs line k was is)))
    where
      go : Among line (x ∷ xs) → (Among line xs → suc (length (unanswered now xs)) ≤ length (unanswered before xs)) →
          suc (count (now x.number) (length (unanswered now xs))) ≤ count (before x.number) (length (unanswered before xs))
      go (inl e) rest =
          subst (λ b. suc (count (now x.number) (length (unanswered now xs))) ≤ count b (length (unanswered before xs))) (sym (ap (λ (l : Line). before l.number) (sym e) ∙ was))
          (subst (λ d. suc (count d (length (unanswered now xs))) ≤ suc (length (unanswered before xs))) (sym (ap (λ (l : Line). now l.number) (sym e) ∙ is)) (up (length (unanswered now xs)) (length (unanswered before xs)) (no_more xs)))
        where
          up : (n m : ℕ) → n ≤ m → suc n ≤ suc m
          up n m l = omega (arith, l)
      go (inr j) rest = fewer (before x.number) (now x.number) (grows x.number) (length (unanswered now xs)) (length (unanswered before xs)) (rest j)
