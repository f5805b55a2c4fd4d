-- Each event leaves of a server no more due than before, but for a call of it that fails and for what is said of it; and calls for the death of one that it dooms.
use Rattle.std.proofs.Common.{ℕ, ◌≡◌, ◌≤◌, ◌+◌, ◌%◌, Bool, true, false, not, ◌&&◌, ◌||◌, ◌==◌, if◌then◌else◌, IsTrue, is_some, List, [], ◌∷◌, Option, Some, None, nat_eq, nat_lt, refl, sym, ap, ◌∙◌, subst, arith}
use Rattle.std.proofs.lemmas.Bool.{false≢true, or_right, eqb-true, eq-eqb, and_parts}
use Rattle.std.specs.List.{slice_get}
use Rattle.std.specs.Option.{IsSome, option_map}
use Rattle.std.proofs.Math.Nat.{le_refl}
use Rattle.frang_base.specs.Functions.{put}
use Rattle.frang_base.specs.declared.lock.LockId.{LockId}
use Rattle.frang_base.specs.declared.op.Op.{Op}
use Rattle.frang_base.specs.declared.reply.Reply.{Reply}
use Rattle.frang_base.specs.declared.reply.Reply.TheVariants as reply
use Rattle.frang_base.specs.declared.said.Said.{Said}
use Rattle.frang_base.specs.declared.said.Said.TheVariants as said
use Rattle.frang_base.specs.declared.script.Line.{Line}
use Rattle.lock_definitions.specs.Calls.{asked_for, cleared}
use Rattle.lock_definitions.specs.Locks.{log_hold}
use Rattle.lock_definitions.specs.declared.claim.AskedFor.{AskedFor}
use Rattle.lock_definitions.specs.declared.claim.AskedFor.TheVariants.{Release, Downgrade}
use Rattle.disk_definitions.specs.Logs.{greatest_operation}
use Rattle.sector_bytes.specs.SectorMaps.{value_at}
use Rattle.sector_bytes.specs.Sectors.{Sectors}
use Rattle.tree_definitions.specs.Apply.{is_path_op}
use Rattle.tree_definitions.specs.Touched.{is_ok, is_unmount}
use Rattle.tree_definitions.specs.Transcript.{Faults, is_io, is_node, is_unexplained, may_be_dirty}
use Rattle.core_definitions.specs.Settings.{lease_to}
use Rattle.cache_definitions.specs.Caches.{dropped}
use Rattle.core_definitions.specs.Flights.{Flight}
use Rattle.core_definitions.specs.Lines.{Stage, Asking, Fetching, Moving, Stopping, Growing, Clearing, Finishing, Under, operation_of}
use Rattle.core_definitions.specs.Plans.{Outcome}
use Rattle.core_definitions.specs.Recoveries.{Recovery, recovery_of, redos}
use Rattle.core_definitions.specs.Scripts.{host_party}
use Rattle.core_definitions.specs.Servers.{Fate, Phase, Off, Up, Still, Doomed, Dead, Server, answer_of, asks, due_under, is_answering, is_dead, is_doomed, is_in_mount, is_off, is_still, is_up, own_answer_of, stage_under, stage_with, wanting_all}
use Rattle.core_definitions.specs.Writes.{Write}
use Rattle.core_definitions.specs.Cores.{Core, clean_at, due_at, next_of, stage, tree_lines, writes}
use Rattle.core_definitions.specs.Events.{Event, Begin, Ask, Fetch, Again, Clear, Commit, Answer, Give, Issue, Doom, Resume, Arrive, Lose, Die, Renew, Tick, Recover, Load, Look, Finish, HostLine, Close, Read, Show, End, Heard, Nothing, Got, GetFailed, Written, Late, PutFailed}
use Rattle.core_definitions.specs.LineGuards.{CanAnswer, CanBegin, CanCommit, done_by, is_server}
use Rattle.core_definitions.specs.WriteGuards.{CanDoom, CanResume}
use Rattle.core_definitions.specs.EndGuards.{CanRecover, is_hold_over}
use Rattle.core_definitions.specs.Guards.{CanGoing}
use Rattle.core_definitions.specs.LineEffects.{again_by, answered_by, answered_fixed, answered_open, answered_under, answered_with, begun_line, begun_with, call_failed, cleared_at, committed_at, committed_by, failed_by, fetch_failed, fetched_by, off_after, refused_under, with_under}
use Rattle.core_definitions.specs.WriteEffects.{acknowledged, arrived_from, counted, died_in, died_with, doomed, fate_of, flushed_at, given_for, issued_as, landed, ring_after, taken_in, up_again}
use Rattle.core_definitions.specs.EndEffects.{closed, finished_from, host_answered_line, look_made, recovered, slot_loaded}
use Rattle.core_definitions.specs.Effects.{MayHear, after, deeds_of, deeds_of_arrival, id_of, reply_by, says_answer, says_node, says_recovered}
use Rattle.core_definitions.specs.Runs.{saids_of}
use Rattle.core_definitions.specs.Faults.{failing, is_of}
use Rattle.core_transcripts.proofs.Answering.{is_under}
use Rattle.core_transcripts.proofs.Fits.{AskFits, asked_of, key_of}
use Rattle.core_transcripts.proofs.Fitting.{told_of}
use Rattle.core_transcripts.proofs.Happening.{CoreFits}
use Rattle.core_transcripts.proofs.Numbering.{numbers_turn}
use Rattle.core_transcripts.proofs.Staging.{StageIsPlain, stage_plain}
use Rattle.core_transcripts.proofs.Steady.{acknowledged_steady, again_steady, fetched_steady, flushed_steady, issued_steady, recovery_steady}
use Rattle.core_transcripts.proofs.Telling.{got_in, tree_nodes}
use Rattle.core_transcripts.proofs.Turning.{no_load}
use Rattle.core_transcripts.proofs.Called.{CallFits, IsAside, called, fails_more}
use Rattle.core_transcripts.proofs.Dooms.{death_explained, doomed_calls, doomed_mounted}
use Rattle.core_transcripts.proofs.Due.{Pays, answer_due, asked_due, aside_pays, death_due, io_due, nil_right, one_if, quiet_pays, said_pays, same_pays}
use Rattle.core_transcripts.proofs.Owed.{IsOpenPaid, answering_awake, begun_due, died_due, failed_deaths, failed_due, mount_same, mounted_in, off_awake, open_paid, plain_io, refused_due, up_awake}

-- ---- numbers and tests

keeps : (n : ℕ) → n ≤ n + 0
keeps n = omega arith

keeps_same : (m n : ℕ) → m ≡ n → m ≤ n + 0
keeps_same m n e = omega (arith, e)

none_least : (n : ℕ) → 0 ≤ n + 0
none_least n = omega arith

said_none : (l k a n : ℕ) → l ≡ k → n ≡ 0 → (l + a) + n ≤ (k + a) + 0
said_none l k a n e z = omega (arith, e, z)

-- the line that is answered is no more under way
said_due : (l k a n : ℕ) → l ≤ k → n ≤ a → (l + 0) + n ≤ (k + a) + 0
said_due l k a n h m = omega (arith, h, m)

idle_due : (k a : ℕ) → k + 0 ≤ (k + a) + 0
idle_due k a = omega arith

off_said : (k a n : ℕ) → n ≡ 0 → (0 + a) + n ≤ (k + a) + 0
off_said k a n z = omega (arith, z)

same_said : (m n : ℕ) → m ≡ n → m + 0 ≤ n + 0
same_said m n e = omega (arith, e)

least_same : (m n k : ℕ) → m ≡ n → n ≤ k → m ≤ k
least_same m n k e h = omega (arith, e, h)

at_most : (m n k : ℕ) → m ≤ n → k ≡ n → m ≤ k
at_most m n k h e = omega (arith, h, e)

one_said : (b : Bool) → 0 + ((if b then 1 else 0) + 0) ≤ 1 + 0
one_said true = omega arith
one_said false = omega arith

none_said : (b : Bool) (n : ℕ) → b ≡ false → 0 + ((if b then 1 else 0) + 0) ≤ n + 0
none_said true n e = absurd (false≢true (sym e))
none_said false n e = omega arith

no_answer : (b : Bool) → one_if (b && false) ≡ 0
no_answer true = refl
no_answer false = refl

own_answer_io : (a : ℕ) (r : Reply) → one_if (nat_eq a a && is_io r) ≡ one_if (is_io r)
own_answer_io a r = ap (λ b. one_if (b && is_io r)) (eq-eqb a a refl)

if_some : {X : Type 0} (b : Bool) (x : Option X) (r : X) → (if b then x else None) ≡ Some r → IsTrue b × (x ≡ Some r)
if_some true x r e = (refl, e)
if_some false x r e = absurd (cc)

none_some : {X P : Type 0} (r : X) → None ≡ Some r → P
none_some r e = absurd (cc)

pub arrival_says : (now : ℕ) (heard : Heard) (o : Option Flight) → saids_of (deeds_of_arrival now heard o) ≡ []
arrival_says now heard None = refl
arrival_says now Nothing (Some flight) = refl
arrival_says now (Got block) (Some flight) = refl
arrival_says now GetFailed (Some flight) = refl
arrival_says now Written (Some flight) = refl
arrival_says now Late (Some flight) = refl
arrival_says now (PutFailed new) (Some flight) = refl

-- ---- a stage's reply

abbrev PlainBy : Option Stage → Type 0
PlainBy None = Unit {0}
PlainBy (Some at) = StageIsPlain at

plain_stage : (c : Core) (a : ℕ) → PlainBy (stage c a)
plain_stage c a = go (is_up (c.servers a).phase && asks is_path_op (c.servers a)) (c.servers a).under
  where
    by : (u : Under) (o : Option Op) → PlainBy (stage_with c.setting c.locks a (c.servers a).cache u o)
    by u None = tt
    by u (Some o) = stage_plain c.setting c.locks a (c.servers a).cache u o

    go : (b : Bool) (o : Option Under) → PlainBy (if b then stage_under c.setting c.locks a (c.servers a).cache o else None)
    go false o = tt
    go true None = tt
    go true (Some u) = by u (operation_of u.line.what)

stage_up : (c : Core) (a : ℕ) (at : Stage) → stage c a ≡ Some at → IsTrue (is_up (c.servers a).phase)
stage_up c a at e =
    (and_parts (is_up (c.servers a).phase) (asks is_path_op (c.servers a))
    (if_some (is_up (c.servers a).phase && asks is_path_op (c.servers a)) (stage_under c.setting c.locks a (c.servers a).cache (c.servers a).under) at e).0).0

-- ---- events

module _ (script : List Line) (f : Faults) (c : Core) (saids : List Said) (g : CoreFits script f saids c)
    (lease : (a : ℕ) → IsTrue (is_server a) → IsTrue (is_still (c.servers a).phase) → IsTrue (not (clean_at c a)) → IsTrue (may_be_dirty script a saids))
    (h : (i : ℕ) → CallFits (c.servers i).phase (c.servers i).failed (called script i saids)) where
  abbrev Paid : List Said → ℕ → Server → ℕ → Type 0
  Paid more i v fails = Pays script saids more i (key_of (c.servers i)) (key_of v) fails

  same_paid : (i : ℕ) (v : Server) (fails : ℕ) → key_of v ≡ key_of (c.servers i) → Paid [] i v fails
  same_paid i v fails e = same_pays script saids i (key_of (c.servers i)) (h i) (key_of v) fails e

  still_paid : (i fails : ℕ) → Paid [] i (c.servers i) fails
  still_paid i fails = same_paid i (c.servers i) fails refl

  aside_paid : (i : ℕ) (x : Said) → IsAside i x → Paid (x ∷ []) i (c.servers i) 0
  aside_paid i x aside = aside_pays script saids i (key_of (c.servers i)) (h i) x (key_of (c.servers i)) (key_of (c.servers i)).saves 0 refl aside

  -- one server has changed
  one_server : (more : List Said) (a : ℕ) (v : Server) (fails : ℕ → ℕ) → Paid more a v (fails a) → ((i : ℕ) → nat_eq i a ≡ false → Paid more i (c.servers i) (fails i)) →
      (i : ℕ) → Paid more i (put c.servers a v i) (fails i)
  one_server more a v fails own others i = go (nat_eq i a) refl
    where
      go : (b : Bool) → nat_eq i a ≡ b → Paid more i (if b then v else c.servers i) (fails i)
      go true e = subst (λ j. Paid more j v (fails j)) (sym (eqb-true i a e)) own
      go false e = others i e

  quietly : (a : ℕ) (v : Server) → Paid [] a v 0 → (i : ℕ) → Paid [] i (put c.servers a v i) 0
  quietly a v own = one_server [] a v (λ i. 0) own (λ i n. still_paid i 0)

  -- it is as it was in all that counts
  steadily : (a : ℕ) (v : Server) → key_of v ≡ key_of (c.servers a) → (i : ℕ) → Paid [] i (put c.servers a v i) 0
  steadily a v same = quietly a v (same_paid a v 0 same)

  -- ---- Begin
  begun_paid : (a : ℕ) → CanBegin c a → (i : ℕ) → Paid [] i ((after c (Begin a) Nothing).servers i) 0
  begun_paid a can = quietly a (begun_line (c.servers a) (next_of c a)) (by_line (next_of c a))
    where
      by_operation : (l : Line) (o : Option Op) → Paid [] a (begun_with (c.servers a) l o) 0
      by_operation l None = still_paid a 0
      by_operation l (Some o) =
          quiet_pays script saids a (key_of (c.servers a)) (key_of (begun_with (c.servers a) l (Some o))) 0 (answering_awake (c.servers a).phase can.phase)
          (begun_due (c.servers a) o (death_due (key_of (c.servers a))) (asked_due (key_of (c.servers a)).asked)) (keeps (death_due (key_of (c.servers a))))

      by_line : (o : Option Line) → Paid [] a (begun_line (c.servers a) o) 0
      by_line None = still_paid a 0
      by_line (Some l) = by_operation l (operation_of l.what)

  -- ---- calls that fail
  failed_own : (a : ℕ) → Paid [] a (failed_by (c.servers a)) (one_if (nat_eq a a))
  failed_own a =
      subst (λ b. Paid [] a (failed_by (c.servers a)) (one_if b)) (sym (eq-eqb a a refl))
      (record {
        answers = plus_none (io_due (key_of (failed_by (c.servers a)))) (io_due (key_of (c.servers a)) + 1) (failed_due (c.servers a));
        deaths = plus_none (death_due (key_of (failed_by (c.servers a)))) (death_due (key_of (c.servers a)) + 1) (failed_deaths (c.servers a));
        calls =
            subst (λ ss. CallFits (c.servers a).phase ((c.servers a).failed || is_in_mount (c.servers a).phase) (called script a ss)) (sym (nil_right saids))
            (fails_more (c.servers a).phase (c.servers a).failed (is_in_mount (c.servers a).phase) (called script a saids) (h a));
      })
    where
      plus_none : (m n : ℕ) → m ≤ n → m + 0 ≤ n
      plus_none m n h = omega (arith, h)

  failed_paid : (d : Core) (a : ℕ) → d.servers ≡ c.servers → (i : ℕ) → Paid [] i ((call_failed d a).servers i) (one_if (nat_eq a i))
  failed_paid d a same i = subst (λ x. Paid [] i ((call_failed (record d { servers = x }) a).servers i) (one_if (nat_eq a i))) (sym same) (go (nat_eq a host_party))
    where
      own : (i : ℕ) → Paid [] i (put c.servers a (failed_by (c.servers a)) i) (one_if (nat_eq a i))
      own = one_server [] a (failed_by (c.servers a)) (λ i. one_if (nat_eq a i)) (failed_own a) (λ i n. still_paid i (one_if (nat_eq a i)))

      go : (b : Bool) → Paid [] i ((if b then record d { servers = c.servers; over = true } else record d { servers = put c.servers a (failed_by (c.servers a)) }).servers i) (one_if (nat_eq a i))
      go true = still_paid i (one_if (nat_eq a i))
      go false = own i

  refused_own : (a : ℕ) → IsTrue (is_off (c.servers a).phase) → Paid [] a (with_under (c.servers a) refused_under) (one_if (nat_eq a a))
  refused_own a off =
      subst (λ b. Paid [] a (with_under (c.servers a) refused_under) (one_if b)) (sym (eq-eqb a a refl))
      (quiet_pays script saids a (key_of (c.servers a)) (key_of (with_under (c.servers a) refused_under)) 1 (off_awake (c.servers a).phase off)
      (refused_due (death_due (key_of (c.servers a))) (c.servers a).under) (one_more (death_due (key_of (c.servers a)))))
    where
      one_more : (n : ℕ) → n ≤ n + 1
      one_more n = omega arith

  fetch_fails : (a i : ℕ) → Paid [] i ((fetch_failed c a).servers i) (one_if (nat_eq a i))
  fetch_fails a i = go (is_off (c.servers a).phase) refl
    where
      go : (b : Bool) → is_off (c.servers a).phase ≡ b →
          Paid [] i ((if b then record c { servers = put c.servers a (with_under (c.servers a) refused_under) } else call_failed c a).servers i) (one_if (nat_eq a i))
      go true e =
          one_server [] a (with_under (c.servers a) refused_under) (λ i. one_if (nat_eq a i)) (refused_own a e) (λ i n. still_paid i (one_if (nat_eq a i))) i
      go false e = failed_paid c a refl i

  -- ---- effects by cases
  given_paid : (a : ℕ) (lock : LockId) (o : Option AskedFor) (i : ℕ) → Paid [] i ((given_for c a lock o).servers i) 0
  given_paid a lock None i = still_paid i 0
  given_paid a lock (Some Downgrade) i = still_paid i 0
  given_paid a lock (Some Release) i = steadily a (record (c.servers a) { cache = dropped (c.servers a).cache lock }) refl i

  issued_paid : (a sector : ℕ) (o : Option Write) (i : ℕ) → Paid [] i ((issued_as c a sector o).servers i) 0
  issued_paid a sector None i = still_paid i 0
  issued_paid a sector (Some write) i =
      steadily a (record (c.servers a) { ring = ring_after write.purpose (c.servers a).ring; arming = counted (c.servers a).arming })
      (issued_steady (c.servers a) (ring_after write.purpose (c.servers a).ring)) i

  taken_paid : (ticket : ℕ) (flight : Flight) (i : ℕ) → Paid [] i ((taken_in (landed c ticket) flight).servers i) 0
  taken_paid ticket flight i = go flight.present
    where
      go : (b : Bool) →
          Paid [] i
          ((if b then record (landed c ticket) { servers = put c.servers flight.server (acknowledged flight.sector flight.block flight.purpose (c.servers flight.server)) } else landed c ticket).servers i) 0
      go true =
          steadily flight.server (acknowledged flight.sector flight.block flight.purpose (c.servers flight.server))
          (acknowledged_steady flight.sector flight.block flight.purpose (c.servers flight.server)) i
      go false = still_paid i 0

  arrived_paid : (ticket : ℕ) (heard : Heard) (o : Option Flight) → value_at c.flights ticket ≡ o → (i : ℕ) →
      Paid [] i ((arrived_from c ticket heard o).servers i) (one_if (is_of i (failing c (Arrive ticket) heard)))
  arrived_paid ticket heard None e i = still_paid i (one_if (is_of i (failing c (Arrive ticket) heard)))
  arrived_paid ticket Nothing (Some flight) e i = still_paid i 0
  arrived_paid ticket (Got block) (Some flight) e i = still_paid i 0
  arrived_paid ticket GetFailed (Some flight) e i = still_paid i 0
  arrived_paid ticket Written (Some flight) e i = taken_paid ticket flight i
  arrived_paid ticket Late (Some flight) e i = still_paid i 0
  arrived_paid ticket (PutFailed new) (Some flight) e i =
      subst (λ o. Paid [] i ((call_failed (landed c ticket) flight.server).servers i) (one_if (is_of i (option_map (λ flight. flight.server) o)))) (sym e)
      (failed_paid (landed c ticket) flight.server refl i)

  closed_paid : (a i : ℕ) → Paid [] i ((closed c a).servers i) 0
  closed_paid a i = go (clean_at c a)
    where
      go : (b : Bool) →
          Paid [] i ((if b then record c { servers = put c.servers a (off_after (c.servers a)); locks = cleared c.locks a } else record c { servers = put c.servers a (wanting_all (c.servers a)) }).servers i) 0
      go true =
          quietly a (off_after (c.servers a))
          (quiet_pays script saids a (key_of (c.servers a)) (key_of (off_after (c.servers a))) 0 refl (none_least (io_due (key_of (c.servers a)))) (none_least (death_due (key_of (c.servers a))))) i
      go false = steadily a (wanting_all (c.servers a)) refl i

  -- ---- Doom, Resume, Die
  doomed_paid : (a : ℕ) → CanDoom c a → (i : ℕ) → Paid [] i ((doomed c a).servers i) 0
  doomed_paid a can = quietly a (record (c.servers a) { phase = Doomed (fate_of c a) }) own
    where
      mounted : IsTrue (is_up (c.servers a).phase || is_still (c.servers a).phase)
      mounted = doomed_mounted script f c saids g a can (lease a can.server)

      same : one_if (true && (c.servers a).failed) ≡ death_due (key_of (c.servers a))
      same = mount_same (c.servers a).phase (Doomed (fate_of c a)) (c.servers a).failed (mounted_in (c.servers a).phase mounted) refl

      own : Paid [] a (record (c.servers a) { phase = Doomed (fate_of c a) }) 0
      own = record {
        answers = said_none (one_if (true && (c.servers a).failed)) (death_due (key_of (c.servers a))) (asked_due (key_of (c.servers a)).asked) 0 same refl;
        deaths = same_said (one_if (true && (c.servers a).failed)) (death_due (key_of (c.servers a))) same;
        calls = subst (λ ss. IsTrue (called script a ss || (c.servers a).failed)) (sym (nil_right saids)) (doomed_calls script f c saids g a can (lease a can.server));
      }

  resumed_paid : (a : ℕ) → CanResume c a → (i : ℕ) → Paid (said.Renewed (id_of a) ∷ []) i (put c.servers a (up_again c.setting c.now (c.servers a)) i) 0
  resumed_paid a can =
      one_server (said.Renewed (id_of a) ∷ []) a (up_again c.setting c.now (c.servers a)) (λ i. 0)
      (said_pays script saids (said.Renewed (id_of a)) a (key_of (c.servers a)) (key_of (up_again c.setting c.now (c.servers a))) 0 refl
      (said_none (one_if (true && (c.servers a).failed)) (death_due (key_of (c.servers a))) (asked_due (key_of (c.servers a)).asked) 0 same refl) refl
      (keeps_same (one_if (true && (c.servers a).failed)) (death_due (key_of (c.servers a))) same))
      (λ i n. aside_paid i (said.Renewed (id_of a)) (numbers_turn i a n))
    where
      still : IsTrue (is_still (c.servers a).phase)
      still = (and_parts (is_still (c.servers a).phase) (nat_lt (c.servers a).expiry c.now) can.past).0

      same : one_if (true && (c.servers a).failed) ≡ death_due (key_of (c.servers a))
      same =
          mount_same (c.servers a).phase Up (c.servers a).failed (mounted_in (c.servers a).phase (or_right (is_up (c.servers a).phase) (is_still (c.servers a).phase) still)) refl

  module _ (a : ℕ) (fate : Fate) (is : (c.servers a).phase ≡ Doomed fate) where
    dead_paid : Paid (said.Dead (id_of a) ∷ []) a (died_with fate (c.servers a)) 0
    dead_paid = record {
      answers =
          subst (λ p. (0 + asked_due (key_of (died_with fate (c.servers a))).asked) + 0 ≤ (one_if (is_in_mount p && (c.servers a).failed) + asked_due (key_of (c.servers a)).asked) + 0) (sym is)
          (died_due (c.servers a).failed (c.servers a).under);
      deaths =
          subst (λ p. 0 + ((if is_unexplained script a saids (said.Dead (id_of a)) then 1 else 0) + 0) ≤ one_if (is_in_mount p && (c.servers a).failed) + 0) (sym is)
          (by_failure (c.servers a).failed (subst (λ p. CallFits p (c.servers a).failed (called script a saids)) is (h a)));
      calls = tt;
    }
      where
        calls_alone : (b : Bool) → IsTrue (b || false) → IsTrue b
        calls_alone true h = refl
        calls_alone false h = absurd (false≢true h)

        by_failure : (failed : Bool) → IsTrue (called script a saids || failed) →
            0 + ((if is_unexplained script a saids (said.Dead (id_of a)) then 1 else 0) + 0) ≤ one_if failed + 0
        by_failure true calls = one_said (is_unexplained script a saids (said.Dead (id_of a)))
        by_failure false calls =
            none_said (is_unexplained script a saids (said.Dead (id_of a))) 0 (death_explained script f c saids g a fate is (calls_alone (called script a saids) calls))

    died_paid : (i : ℕ) → Paid (said.Dead (id_of a) ∷ []) i ((died_in c a (Doomed fate)).servers i) 0
    died_paid =
        one_server (said.Dead (id_of a) ∷ []) a (died_with fate (c.servers a)) (λ i. 0) dead_paid (λ i n. aside_paid i (said.Dead (id_of a)) (numbers_turn i a n))

  dies_paid : (a : ℕ) (p : Phase) → (c.servers a).phase ≡ p → IsTrue (is_doomed p) → (i : ℕ) → Paid (said.Dead (id_of a) ∷ []) i ((died_in c a p).servers i) 0
  dies_paid a (Doomed fate) is doomed i = died_paid a fate is i
  dies_paid a Off is doomed i = absurd (false≢true doomed)
  dies_paid a Up is doomed i = absurd (false≢true doomed)
  dies_paid a Still is doomed i = absurd (false≢true doomed)
  dies_paid a Dead is doomed i = absurd (false≢true doomed)

  -- ---- Commit
  module _ (a : ℕ) (outcome : Outcome) (up : IsTrue (is_up (c.servers a).phase)) (plain : is_io outcome.reply ≡ false) where
    own_committed : (o : Option Under) → Paid (saids_of (says_answer a o (Some outcome.reply))) a (committed_by outcome (c.servers a)) 0
    own_committed None =
        quiet_pays script saids a (key_of (c.servers a)) (key_of (committed_by outcome (c.servers a))) 0 (up_awake (c.servers a).phase up)
        (idle_due (death_due (key_of (c.servers a))) (asked_due (key_of (c.servers a)).asked)) (keeps (death_due (key_of (c.servers a))))
    own_committed (Some u) =
        said_pays script saids (said.Answer (id_of a) u.line.number outcome.reply) a (key_of (c.servers a)) (key_of (committed_by outcome (c.servers a))) 0 (up_awake (c.servers a).phase up)
        (said_due (death_due (key_of (c.servers a))) (death_due (key_of (c.servers a))) (asked_due (key_of (c.servers a)).asked) (one_if (nat_eq a a && is_io outcome.reply))
        (le_refl (death_due (key_of (c.servers a))))
        (least_same (one_if (nat_eq a a && is_io outcome.reply)) 0 (asked_due (key_of (c.servers a)).asked) (own_answer_io a outcome.reply ∙ ap one_if plain) (zero_least (asked_due (key_of (c.servers a)).asked))))
        refl (keeps (death_due (key_of (c.servers a))))
      where
        zero_least : (n : ℕ) → 0 ≤ n
        zero_least n = omega arith

    committed_paid : (o : Option Under) (i : ℕ) → Paid (saids_of (says_answer a o (Some outcome.reply))) i (put c.servers a (committed_by outcome (c.servers a)) i) 0
    committed_paid o = one_server (saids_of (says_answer a o (Some outcome.reply))) a (committed_by outcome (c.servers a)) (λ i. 0) (own_committed o) (λ i n. others o i n)
      where
        others : (o : Option Under) (i : ℕ) → nat_eq i a ≡ false → Paid (saids_of (says_answer a o (Some outcome.reply))) i (c.servers i) 0
        others None i n = still_paid i 0
        others (Some u) i n = aside_paid i (said.Answer (id_of a) u.line.number outcome.reply) (numbers_turn i a n)

  commits_paid : (a : ℕ) → CanCommit c a → (i : ℕ) → Paid (saids_of (says_answer a (c.servers a).under (reply_by (stage c a)))) i ((committed_at c a (stage c a)).servers i) 0
  commits_paid a can i = by_stage (stage c a) refl can.done
    where
      by_stage : (x : Option Stage) → stage c a ≡ x → IsSome (done_by x) → Paid (saids_of (says_answer a (c.servers a).under (reply_by x))) i ((committed_at c a x).servers i) 0
      by_stage (Some (Finishing outcome)) e some =
          committed_paid a outcome (stage_up c a (Finishing outcome) e) (plain_io outcome.reply (subst PlainBy e (plain_stage c a))) (c.servers a).under i
      by_stage None e some = absurd (false≢true some)
      by_stage (Some (Asking need)) e some = absurd (false≢true some)
      by_stage (Some (Fetching needs)) e some = absurd (false≢true some)
      by_stage (Some Moving) e some = absurd (false≢true some)
      by_stage (Some Stopping) e some = absurd (false≢true some)
      by_stage (Some (Growing needs seen)) e some = absurd (false≢true some)
      by_stage (Some (Clearing block)) e some = absurd (false≢true some)

  -- ---- Answer
  module _ (a : ℕ) (u : Under) (under : (c.servers a).under ≡ Some u) (answers : IsTrue (is_answering (c.servers a).phase)) (r : Reply) where
    abbrev answer_line : Said
    answer_line = said.Answer (id_of a) u.line.number r

    due_is : (x : Option Reply) → u.fixed ≡ x → asked_due (key_of (c.servers a)).asked ≡ answer_due x u.get_failed
    due_is x e = ap (λ o. asked_due (option_map asked_of o)) under ∙ ap (λ x. answer_due x u.get_failed) e

    -- one that may be an `io` which is due
    own_answered : (v : Server) → v.under ≡ None → is_doomed v.phase ≡ false → death_due (key_of v) ≤ death_due (key_of (c.servers a)) → one_if (is_io r) ≤ asked_due (key_of (c.servers a)).asked →
        Paid (answer_line ∷ []) a v 0
    own_answered v idle awake deaths io =
        said_pays script saids answer_line a (key_of (c.servers a)) (key_of v) 0 awake
        (subst (λ o. (death_due (key_of v) + asked_due (option_map asked_of o)) + one_if (nat_eq a a && is_io r) ≤ io_due (key_of (c.servers a)) + 0) (sym idle)
        (said_due (death_due (key_of v)) (death_due (key_of (c.servers a))) (asked_due (key_of (c.servers a)).asked) (one_if (nat_eq a a && is_io r)) deaths
        (least_same (one_if (nat_eq a a && is_io r)) (one_if (is_io r)) (asked_due (key_of (c.servers a)).asked) (own_answer_io a r) io)))
        refl (plus_none (death_due (key_of v)) (death_due (key_of (c.servers a))) deaths)
      where
        plus_none : (m n : ℕ) → m ≤ n → m ≤ n + 0
        plus_none m n h = omega (arith, h)

    fixed_answered : (o : Op) → u.fixed ≡ Some r → Paid (answer_line ∷ []) a (record (answered_fixed (c.servers a) o r) { under = None }) 0
    fixed_answered o e = go (is_unmount o && is_ok r)
      where
        io : one_if (is_io r) ≤ asked_due (key_of (c.servers a)).asked
        io = at_most (one_if (is_io r)) (one_if (is_io r)) (asked_due (key_of (c.servers a)).asked) (le_refl (one_if (is_io r))) (due_is (Some r) e)

        go : (b : Bool) → Paid (answer_line ∷ []) a (record (if b then record (c.servers a) { owes = false } else c.servers a) { under = None }) 0
        go true =
            own_answered (record (c.servers a) { owes = false; under = None }) refl (answering_awake (c.servers a).phase answers) (le_refl (death_due (key_of (c.servers a)))) io
        go false = own_answered (record (c.servers a) { under = None }) refl (answering_awake (c.servers a).phase answers) (le_refl (death_due (key_of (c.servers a)))) io

    open_answered : (o : Op) → u.fixed ≡ None → IsOpenPaid (c.servers a) (answered_open c u (c.servers a) o r) u r →
        Paid (answer_line ∷ []) a (record (answered_open c u (c.servers a) o r) { under = None }) 0
    open_answered o e p =
        own_answered (record (answered_open c u (c.servers a) o r) { under = None }) refl p.awake p.deaths
        (at_most (one_if (is_io r)) (one_if u.get_failed) (asked_due (key_of (c.servers a)).asked) p.io (due_is None e))

    by_fixed : (o : Op) (x : Option Reply) → u.fixed ≡ x → answer_of x (own_answer_of c.setting.logs c.flights a (c.servers a) u (Some o)) ≡ Some r →
        Paid (answer_line ∷ []) a (record (if is_some x then answered_fixed (c.servers a) o r else answered_open c u (c.servers a) o r) { under = None }) 0
    by_fixed o (Some y) e due = fixed_answered o (e ∙ due)
    by_fixed o None e due = open_answered o e (open_paid c a u (c.servers a) o r due)

    by_operation : (o : Option Op) → AskFits (c.servers a).phase (c.servers a).owes (told_of script f saids c.answered a).state (told_of script f saids c.answered a).faulted o u.fixed u.get_failed →
        answer_of u.fixed (own_answer_of c.setting.logs c.flights a (c.servers a) u o) ≡ Some r → (i : ℕ) → Paid (answer_line ∷ []) i ((answered_with c a u r o).servers i) 0
    by_operation None asks due i = absurd asks
    by_operation (Some o) asks due i =
        one_server (answer_line ∷ []) a (answered_by c u (c.servers a) o r) (λ i. 0) (by_fixed o u.fixed refl due) (λ i n. aside_paid i answer_line (numbers_turn i a n)) i

  answers_paid : (a : ℕ) → CanAnswer c a → (i : ℕ) → Paid (saids_of (says_answer a (c.servers a).under (due_at c a))) i ((answered_under c a (c.servers a).under (due_at c a)).servers i) 0
  answers_paid a can i = by_answer (due_at c a) refl can.due
    where
      by_under : (r : Reply) → IsTrue (is_answering (c.servers a).phase) → (o : Option Under) → (c.servers a).under ≡ o → due_under c.setting.logs c.flights a (c.servers a) o ≡ Some r →
          Paid (saids_of (says_answer a o (Some r))) i ((answered_under c a o (Some r)).servers i) 0
      by_under r answers None under due = none_some r due
      by_under r answers (Some u) under due =
          by_operation a u under answers r (operation_of u.line.what)
          (is_under (c.servers a).phase (c.servers a).owes (told_of script f saids c.answered a) (c.servers a).under u under (g.servers a).under).line due i

      by_answer : (x : Option Reply) → due_at c a ≡ x → IsSome x → Paid (saids_of (says_answer a (c.servers a).under x)) i ((answered_under c a (c.servers a).under x).servers i) 0
      by_answer None e some = absurd (false≢true some)
      by_answer (Some r) e some =
          let d : IsTrue (is_answering (c.servers a).phase) × (due_under c.setting.logs c.flights a (c.servers a) (c.servers a).under ≡ Some r) =
          if_some (is_answering (c.servers a).phase) (due_under c.setting.logs c.flights a (c.servers a) (c.servers a).under) r e in
          by_under r d.0 (c.servers a).under refl d.1

  -- ---- Recover, Finish
  module _ (dead by : ℕ) (can : CanRecover c dead by) where
    abbrev recovering_line : Said
    recovering_line = said.Recovering (id_of dead) (id_of by)

    awake_dead : (p : Phase) → IsTrue (is_dead p) → is_doomed p ≡ false
    awake_dead Dead h = refl
    awake_dead Off h = absurd (false≢true h)
    awake_dead Up h = absurd (false≢true h)
    awake_dead Still h = absurd (false≢true h)
    awake_dead (Doomed f) h = absurd (false≢true h)

    dead_so : IsTrue (is_dead (c.servers dead).phase)
    dead_so =
        (and_parts (is_server dead) (is_dead (c.servers dead).phase)
        (and_parts (is_server dead && is_dead (c.servers dead).phase) (nat_lt (c.servers dead).expiry c.now)
        (and_parts (is_server dead && is_dead (c.servers dead).phase && nat_lt (c.servers dead).expiry c.now) (is_hold_over c.now (log_hold c.locks dead)) can.waits).0).0).1

    saved_paid : (i : ℕ) (v : Server) (saves : Option ℕ) → key_of v ≡ record (key_of (c.servers i)) { saves = saves } → Paid (recovering_line ∷ []) i v 0
    saved_paid i v saves e = go (nat_eq dead i) refl
      where
        go : (b : Bool) → nat_eq dead i ≡ b → Paid (recovering_line ∷ []) i v 0
        go true n =
            subst (λ k. Pays script saids (recovering_line ∷ []) i (key_of (c.servers i)) k 0) (sym e)
            (said_pays script saids recovering_line i (key_of (c.servers i)) (record (key_of (c.servers i)) { saves = saves }) 0
            (subst (λ j. is_doomed (c.servers j).phase ≡ false) (eqb-true dead i n) (awake_dead (c.servers dead).phase dead_so))
            (said_none (death_due (key_of (c.servers i))) (death_due (key_of (c.servers i))) (asked_due (key_of (c.servers i)).asked) 0 refl refl) refl (keeps (death_due (key_of (c.servers i)))))
        go false n = aside_pays script saids i (key_of (c.servers i)) (h i) recovering_line (key_of v) saves 0 e n

    recovers_paid : (i : ℕ) → Paid (recovering_line ∷ []) i (put c.servers by (record (c.servers by) { recovery = Some (recovery_of dead) }) i) 0
    recovers_paid =
        one_server (recovering_line ∷ []) by (record (c.servers by) { recovery = Some (recovery_of dead) }) (λ i. 0)
        (saved_paid by (record (c.servers by) { recovery = Some (recovery_of dead) }) (Some dead) refl) (λ i n. saved_paid i (c.servers i) (key_of (c.servers i)).saves refl)

  module _ (by : ℕ) (recovery : Recovery) where
    abbrev done_line : Said
    done_line = said.Recovered (id_of recovery.dead) (record { 0 = greatest_operation (redos c.setting.logs recovery) })

    own_recovered : Paid (done_line ∷ []) recovery.dead (recovered (c.servers recovery.dead)) 0
    own_recovered =
        said_pays script saids done_line recovery.dead (key_of (c.servers recovery.dead)) (key_of (recovered (c.servers recovery.dead))) 0 refl
        (off_said (death_due (key_of (c.servers recovery.dead))) (asked_due (key_of (c.servers recovery.dead)).asked) 0 refl) refl (none_least (death_due (key_of (c.servers recovery.dead))))

    taker_paid : (i : ℕ) → nat_eq recovery.dead i ≡ false → (b : Bool) → nat_eq i by ≡ b → Paid (done_line ∷ []) i (if b then record (c.servers by) { recovery = None } else c.servers i) 0
    taker_paid i n true e =
        aside_pays script saids i (key_of (c.servers i)) (h i) done_line (key_of (record (c.servers by) { recovery = None })) None 0
        (ap (λ j. record (key_of (c.servers j)) { saves = None }) (sym (eqb-true i by e))) n
    taker_paid i n false e = aside_paid i done_line n

    finished_paid : (i : ℕ) (b : Bool) → nat_eq i recovery.dead ≡ b →
        Paid (done_line ∷ []) i (if b then recovered (c.servers recovery.dead) else put c.servers by (record (c.servers by) { recovery = None }) i) 0
    finished_paid i true e = subst (λ j. Paid (done_line ∷ []) j (recovered (c.servers recovery.dead)) 0) (sym (eqb-true i recovery.dead e)) own_recovered
    finished_paid i false e = taker_paid i (numbers_turn i recovery.dead e) (nat_eq i by) refl

  finishes_paid : (by : ℕ) (o : Option Recovery) (i : ℕ) → Paid (saids_of (says_recovered c o)) i ((finished_from c by o).servers i) 0
  finishes_paid by None i = still_paid i 0
  finishes_paid by (Some recovery) i = finished_paid by recovery i (nat_eq i recovery.dead) refl

  -- ---- HostLine, Show
  host_paid : (number : ℕ) (o : Option Line) (i : ℕ) → Paid (said.Answer (id_of host_party) number reply.Ok ∷ []) i ((host_answered_line c o).servers i) 0
  host_paid number o i = by_line o
    where
      off_host : nat_eq host_party i ≡ true → is_doomed (c.servers i).phase ≡ false
      off_host e = subst (λ j. is_doomed (c.servers j).phase ≡ false) (eqb-true host_party i e) (off_awake (c.servers host_party).phase g.host)

      go : (b : Bool) → nat_eq host_party i ≡ b → Paid (said.Answer (id_of host_party) number reply.Ok ∷ []) i (c.servers i) 0
      go true e =
          said_pays script saids (said.Answer (id_of host_party) number reply.Ok) i (key_of (c.servers i)) (key_of (c.servers i)) 0 (off_host e)
          (said_none (death_due (key_of (c.servers i))) (death_due (key_of (c.servers i))) (asked_due (key_of (c.servers i)).asked) (one_if (nat_eq host_party i && false)) refl (no_answer (nat_eq host_party i)))
          refl (keeps (death_due (key_of (c.servers i))))
      go false e = aside_paid i (said.Answer (id_of host_party) number reply.Ok) e

      by_line : (o : Option Line) → Paid (said.Answer (id_of host_party) number reply.Ok ∷ []) i ((host_answered_line c o).servers i) 0
      by_line None = go (nat_eq host_party i) refl
      by_line (Some l) = go (nat_eq host_party i) refl

  node_aside : (i : ℕ) (x : Said) → is_node x ≡ true → IsAside i x
  node_aside i (said.Node path kind size links) n = tt
  node_aside i x n = absurd (false≢true n)

  shown_paid : (place : ℕ) (o : Option Said) → slice_get (tree_lines c) place ≡ o → (i : ℕ) → Paid (saids_of (says_node o)) i (c.servers i) 0
  shown_paid place None e i = still_paid i 0
  shown_paid place (Some x) e i = aside_paid i x (node_aside i x (tree_nodes c.setting.segments c.read x (got_in (tree_lines c) place x e)))

  -- ---- gets
  fetches_paid : (a sector : ℕ) (heard : Heard) (disk : Sectors) → MayHear c disk (Fetch a sector) heard → (i : ℕ) →
      Paid [] i ((after c (Fetch a sector) heard).servers i) (one_if (is_of i (failing c (Fetch a sector) heard)))
  fetches_paid a sector (Got block) disk hears i = steadily a (fetched_by a (stage c a) sector block (c.servers a)) (fetched_steady a (stage c a) sector block (c.servers a)) i
  fetches_paid a sector GetFailed disk hears i = fetch_fails a i
  fetches_paid a sector Nothing disk hears i = absurd hears
  fetches_paid a sector Written disk hears i = absurd hears
  fetches_paid a sector Late disk hears i = absurd hears
  fetches_paid a sector (PutFailed new) disk hears i = absurd hears

  loads_paid : (by slot : ℕ) (heard : Heard) (disk : Sectors) → MayHear c disk (Load by slot) heard → (i : ℕ) →
      Paid [] i ((after c (Load by slot) heard).servers i) (one_if (is_of i (failing c (Load by slot) heard)))
  loads_paid by slot (Got block) disk hears i =
      steadily by (record (c.servers by) { recovery = option_map (slot_loaded slot block) (c.servers by).recovery }) (recovery_steady (c.servers by) (slot_loaded slot block) (λ r. refl)) i
  loads_paid by slot GetFailed disk hears i = failed_paid c by refl i
  loads_paid by slot Nothing disk hears i = no_load slot disk Nothing (c.servers by).recovery tt hears
  loads_paid by slot Written disk hears i = no_load slot disk Written (c.servers by).recovery tt hears
  loads_paid by slot Late disk hears i = no_load slot disk Late (c.servers by).recovery tt hears
  loads_paid by slot (PutFailed new) disk hears i = no_load slot disk (PutFailed new) (c.servers by).recovery tt hears

  looks_paid : (by sector : ℕ) (heard : Heard) (disk : Sectors) → MayHear c disk (Look by sector) heard → (i : ℕ) →
      Paid [] i ((after c (Look by sector) heard).servers i) (one_if (is_of i (failing c (Look by sector) heard)))
  looks_paid by sector (Got block) disk hears i =
      steadily by (record (c.servers by) { recovery = option_map (look_made c sector block) (c.servers by).recovery }) (recovery_steady (c.servers by) (look_made c sector block) (λ r. refl)) i
  looks_paid by sector GetFailed disk hears i = failed_paid c by refl i
  looks_paid by sector Nothing disk hears i = absurd hears
  looks_paid by sector Written disk hears i = absurd hears
  looks_paid by sector Late disk hears i = absurd hears
  looks_paid by sector (PutFailed new) disk hears i = absurd hears

  reads_paid : (sector : ℕ) (heard : Heard) (disk : Sectors) → MayHear c disk (Read sector) heard → (i : ℕ) →
      Paid [] i ((after c (Read sector) heard).servers i) (one_if (is_of i (failing c (Read sector) heard)))
  reads_paid sector (Got block) disk hears i = still_paid i 0
  reads_paid sector GetFailed disk hears i = failed_paid c host_party refl i
  reads_paid sector Nothing disk hears i = absurd hears
  reads_paid sector Written disk hears i = absurd hears
  reads_paid sector Late disk hears i = absurd hears
  reads_paid sector (PutFailed new) disk hears i = absurd hears

  -- ---- each event
  pub event_pays : (event : Event) (heard : Heard) (disk : Sectors) → CanGoing c event → MayHear c disk event heard → (i : ℕ) →
      Paid (saids_of (deeds_of c event heard)) i ((after c event heard).servers i) (one_if (is_of i (failing c event heard)))
  event_pays (Begin a) heard disk can hears i = begun_paid a can i
  event_pays (Ask a lock mode) heard disk can hears i = still_paid i 0
  event_pays (Fetch a sector) heard disk can hears i = fetches_paid a sector heard disk hears i
  event_pays (Again a) heard disk can hears i = steadily a (again_by c.setting.logs (stage c a) (c.servers a)) (again_steady c.setting.logs (stage c a) (c.servers a)) i
  event_pays (Clear a block) heard disk can hears i = steadily a (cleared_at block (c.servers a)) refl i
  event_pays (Commit a) heard disk can hears i = commits_paid a can i
  event_pays (Answer a) heard disk can hears i = answers_paid a can i
  event_pays (Give a lock) heard disk can hears i = given_paid a lock (asked_for c.locks a lock) i
  event_pays (Issue a sector) heard disk can hears i = issued_paid a sector (value_at (writes c a) sector) i
  event_pays (Doom a) heard disk can hears i = doomed_paid a can i
  event_pays (Resume a) heard disk can hears i = resumed_paid a can i
  event_pays (Arrive ticket) heard disk can hears i =
      subst (λ more. Paid more i ((after c (Arrive ticket) heard).servers i) (one_if (is_of i (failing c (Arrive ticket) heard)))) (sym (arrival_says c.now heard (value_at c.flights ticket)))
      (arrived_paid ticket heard (value_at c.flights ticket) refl i)
  event_pays (Lose ticket) heard disk can hears i = still_paid i 0
  event_pays (Die a) heard disk can hears i = dies_paid a (c.servers a).phase refl can.doomed i
  event_pays (Renew a) heard disk can hears i = steadily a (record (c.servers a) { expiry = lease_to c.setting c.now }) refl i
  event_pays Tick heard disk can hears i = same_paid i (flushed_at c (c.now + 1) i) 0 (flushed_steady ((c.now + 1) % c.setting.flush_ticks == 0) (c.servers i))
  event_pays (Recover dead by) heard disk can hears i = recovers_paid dead by can i
  event_pays (Load by slot) heard disk can hears i = loads_paid by slot heard disk hears i
  event_pays (Look by sector) heard disk can hears i = looks_paid by sector heard disk hears i
  event_pays (Finish by) heard disk can hears i = finishes_paid by (c.servers by).recovery i
  event_pays (HostLine number) heard disk can hears i = host_paid number (next_of c host_party) i
  event_pays (Close a) heard disk can hears i = closed_paid a i
  event_pays (Read sector) heard disk can hears i = reads_paid sector heard disk hears i
  event_pays (Show place) heard disk can hears i = shown_paid place (slice_get (tree_lines c) place) refl i
  event_pays End heard disk can hears i = aside_paid i said.End tt
