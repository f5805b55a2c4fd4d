-- Event by event: who may have changed nothing since its mount, and began no recovery, has nothing to write.
use Rattle.std.proofs.Common.{ℕ, ◌≡◌, ◌+◌, ◌%◌, Bool, true, false, not, ◌&&◌, ◌||◌, ◌==◌, if◌then◌else◌, IsTrue, is_some, List, [], ◌∷◌, ◌++◌, Option, Some, None, nat_eq, nat_lt, refl, sym, ap, ◌∙◌, subst}
use Rattle.std.proofs.lemmas.Bool.{false≢true, and_from, or_left, or_right, eqb-true, eq-eqb, and_parts}
use Rattle.std.specs.List.{slice_get}
use Rattle.std.specs.Option.{IsSome, option_map}
use Rattle.std.proofs.lemmas.Option.{same_Some}
use Rattle.core_laws.proofs.Ashore.{fewer_lost, none_landed}
use Rattle.frang_base.specs.Functions.{put}
use Rattle.frang_base.specs.declared.lock.LockId.{LockId}
use Rattle.frang_base.specs.declared.op.Op.{Op}
use Rattle.frang_base.specs.declared.op.Op.TheVariants as op
use Rattle.frang_base.specs.declared.reply.Reply.{Reply}
use Rattle.frang_base.specs.declared.reply.Reply.TheVariants as reply
use Rattle.frang_base.specs.declared.said.Said.{Said}
use Rattle.frang_base.specs.declared.said.Said.TheVariants as said
use Rattle.frang_base.specs.declared.script.Line.{Line}
use Rattle.lock_definitions.specs.Calls.{asked_for, cleared}
use Rattle.lock_definitions.specs.declared.claim.AskedFor.{AskedFor}
use Rattle.lock_definitions.specs.declared.claim.AskedFor.TheVariants.{Release, Downgrade}
use Rattle.sector_bytes.specs.SectorMaps.{value_at}
use Rattle.tree_definitions.specs.Live.{line_of}
use Rattle.tree_definitions.specs.Touched.{is_mounted, is_ok, is_unmount}
use Rattle.tree_definitions.specs.Transcript.{Faults, dirty_after, dirty_from, is_already, is_change_line, is_halt, is_mount, is_node}
use Rattle.core_definitions.specs.Settings.{lease_to}
use Rattle.cache_definitions.specs.Caches.{dropped}
use Rattle.core_definitions.specs.Flights.{Flight, Flights, InPlace, OfLog, OfRecovery, Purpose, each_of_server, has_flights, left_behind, lost}
use Rattle.core_definitions.specs.Lines.{Stage, Asking, Fetching, Moving, Stopping, Growing, Clearing, Finishing, Under, operation_of}
use Rattle.core_definitions.specs.Logs.{end_of, is_read}
use Rattle.core_definitions.specs.Plans.{Outcome}
use Rattle.core_definitions.specs.Recoveries.{Recovery, recovery_of}
use Rattle.core_definitions.specs.Scripts.{host_party}
use Rattle.core_definitions.specs.Servers.{Phase, Off, Up, Still, Doomed, Dead, Server, answer_of, due_if, due_under, is_answering, is_off, is_still, is_synced, is_up, mount_answer, own_answer, own_answer_of, wanting_all, wanting_all_up}
use Rattle.core_definitions.specs.Writes.{Write, comes_clean}
use Rattle.core_definitions.specs.Cores.{Core, clean_at, due_at, next_of, stage, tree_lines, writes}
use Rattle.core_definitions.specs.Events.{Event, Begin, Ask, Fetch, Again, Clear, Commit, Answer, Give, Issue, Doom, Resume, Arrive, Lose, Die, Renew, Tick, Recover, Load, Look, Finish, HostLine, Close, Read, Show, End, Heard, Nothing, Got, GetFailed, Written, Late, PutFailed}
use Rattle.core_definitions.specs.LineGuards.{CanAnswer, CanCommit, done_by, is_server}
use Rattle.core_definitions.specs.WriteGuards.{CanResume}
use Rattle.core_definitions.specs.Guards.{CanGoing}
use Rattle.core_definitions.specs.LineEffects.{again_by, answered_by, answered_fixed, answered_open, answered_under, answered_with, begun_line, call_failed, cleared_at, committed_at, committed_by, failed_by, fetch_failed, fetched_by, flight_after, off_after, refused_under, up_after, with_under}
use Rattle.core_definitions.specs.WriteEffects.{acknowledged, arrived_from, clean_now, counted, died_in, died_with, fate_of, flight_of, flights_at_death, given_for, issued_as, landed, ring_after, taken_in, up_again}
use Rattle.core_definitions.specs.EndEffects.{closed, finished_from, host_answered_line, look_made, recovered, slot_loaded}
use Rattle.core_definitions.specs.Effects.{after, deeds_of, reply_by, says_answer, says_node, says_recovered}
use Rattle.core_definitions.specs.Runs.{saids_of}
use Rattle.core_transcripts.proofs.Answering.{HasOperation, is_under, operation_under, if_some}
use Rattle.core_transcripts.proofs.Blank.{IsBlank, IsSpotless, Keeps, changed_flights, dropped_blank, flies, is_changing, issued_stays, left_stays, looked_blank, looked_flights, mounted_reached, no_writes}
use Rattle.core_transcripts.proofs.Blanking.{HasStage, again_kept, begun_kept, cleared_kept, fetched_kept, gone, kept, looks_at, recovery_kept, said_clean, same_blank, stage_parts, under_kept, wanting_kept}
use Rattle.core_transcripts.proofs.Fits.{IsUnder, LineFits, Told, asked_of}
use Rattle.core_transcripts.proofs.Fitting.{told_of}
use Rattle.core_transcripts.proofs.Happening.{CoreFits}
use Rattle.core_transcripts.proofs.Numbering.{line_is, numbers_turn, of_next}
use Rattle.core_transcripts.proofs.Replies.{already_is, plain_is}
use Rattle.core_transcripts.proofs.Staging.{StageIsPlain, stage_plain}
use Rattle.core_transcripts.proofs.Telling.{got_in, tree_nodes}
use Rattle.core_transcripts.specs.Transcripts.{IsNumbered}
use Rattle.core_transcripts.proofs.Paying.{arrival_says}
use Rattle.core_transcripts.proofs.Owning.{due_is}

-- each server that may have changed nothing has nothing to write
abbrev pub Spotless : (ℕ → Bool) → (ℕ → Server) → Flights → Type 0
Spotless dirty servers flights = (i : ℕ) → Keeps (dirty i) (servers i) (has_flights flights i)

-- one server has changed, and what is told and what is in flight
changed_one : (dirty later : ℕ → Bool) (servers : ℕ → Server) (flights flying : Flights) (a : ℕ) (v : Server) → Keeps (later a) v (has_flights flying a) →
    ((i : ℕ) → nat_eq i a ≡ false → later i ≡ dirty i) → ((i : ℕ) → nat_eq i a ≡ false → has_flights flights i ≡ false → has_flights flying i ≡ false) → Spotless dirty servers flights →
    Spotless later (put servers a v) flying
changed_one dirty later servers flights flying a v own same fewer k = λ i. go i (nat_eq i a) refl
  where
    other : (i : ℕ) → nat_eq i a ≡ false → Keeps (dirty i) (servers i) (has_flights flights i) → Keeps (later i) (servers i) (has_flights flying i)
    other i n k s =
        let b : IsBlank (servers i) (has_flights flights i) = k (record { mounted = s.mounted; clean_ = ap (λ d. d || is_changing (servers i).under) (sym (same i n)) ∙ s.clean_ }) in
        record { cache = b.cache; waiting = b.waiting; reached = b.reached; recovery = b.recovery; landed = fewer i n b.landed }

    go : (i : ℕ) (b : Bool) → nat_eq i a ≡ b → Keeps (later i) (if b then v else servers i) (has_flights flying i)
    go i true e = subst (λ j. Keeps (later j) v (has_flights flying j)) (sym (eqb-true i a e)) own
    go i false e = other i e (k i)

module _ (f : Faults) (c : Core) (saids : List Said) (numbered : IsNumbered c.setting.script) (g : CoreFits c.setting.script f saids c)
    (ashore : (i : ℕ) → IsTrue (is_server i) → IsTrue (is_off (c.servers i).phase) → has_flights c.flights i ≡ false) (dirty : ℕ → Bool) (k : Spotless dirty c.servers c.flights) where
  abbrev Later : Core → (ℕ → Bool) → Type 0
  Later d later = Spotless later d.servers d.flights

  -- one server has changed, and nothing else
  one : (a : ℕ) (v : Server) → Keeps (dirty a) v (has_flights c.flights a) → Spotless dirty (put c.servers a v) c.flights
  one a v own = λ i. go i (nat_eq i a) refl
    where
      go : (i : ℕ) (b : Bool) → nat_eq i a ≡ b → Keeps (dirty i) (if b then v else c.servers i) (has_flights c.flights i)
      go i true e = subst (λ j. Keeps (dirty j) v (has_flights c.flights j)) (sym (eqb-true i a e)) own
      go i false e = k i

  -- fewer writes are in flight
  fewer : (flying : Flights) → ((i : ℕ) → has_flights c.flights i ≡ false → has_flights flying i ≡ false) → Spotless dirty c.servers flying
  fewer flying less = λ i s.
      let b : IsBlank (c.servers i) (has_flights c.flights i) = k i s in
      record { cache = b.cache; waiting = b.waiting; reached = b.reached; recovery = b.recovery; landed = less i b.landed }

  -- ---- answers

  -- the line under way and its number
  line_so : (a : ℕ) (u : Under) → (c.servers a).under ≡ Some u → line_of c.setting.script u.line.number ≡ Some u.line
  line_so a u under =
      let i : IsUnder (c.servers a).phase (c.servers a).owes (told_of c.setting.script f saids c.answered a) (asked_of u) =
      is_under (c.servers a).phase (c.servers a).owes (told_of c.setting.script f saids c.answered a) (c.servers a).under u under (g.servers a).under in
      line_is c.setting.script u.line numbered.apart (of_next c.setting.script c.answered a u.line i.next).there

  abbrev told_dirty : ℕ → Under → Reply → ℕ → Bool
  told_dirty a u r i = dirty_after c.setting.script i (dirty i) (said.Answer (record { 0 = a }) u.line.number r)

  told_other : (a : ℕ) (u : Under) (r : Reply) (i : ℕ) → nat_eq i a ≡ false → told_dirty a u r i ≡ dirty i
  told_other a u r i n =
      ap (λ b. if b then not (is_mounted r) && (dirty i || is_change_line (line_of c.setting.script u.line.number)) else dirty i) (numbers_turn i a n)

  -- one that has answered, and is the same in what it may have to write
  answered_kept : (a : ℕ) (u : Under) (r : Reply) (v : Server) → IsTrue (is_server a) → (c.servers a).under ≡ Some u → is_mounted r ≡ false → v.under ≡ None →
      (IsTrue (is_up v.phase || is_still v.phase) → IsTrue (is_up (c.servers a).phase || is_still (c.servers a).phase)) →
      (IsBlank (c.servers a) (has_flights c.flights a) → IsBlank v (has_flights c.flights a)) → Keeps (told_dirty a u r a) v (has_flights c.flights a)
  answered_kept a u r v server under m none mounted blank s =
      blank
      (k a
      (record {
        mounted = mounted s.mounted;
        clean_ =
            subst (λ o. (dirty a || is_changing o) ≡ false) (sym under)
            (said_clean c.setting.script a (dirty a) u r (line_so a u under) m (subst (λ o. (told_dirty a u r a || is_changing o) ≡ false) none s.clean_));
      }))

  -- an answer that is due
  module _ (a : ℕ) (server : IsTrue (is_server a)) (u : Under) (under : (c.servers a).under ≡ Some u) (answers : IsTrue (is_answering (c.servers a).phase)) where
    abbrev t : Told
    t = told_of c.setting.script f saids c.answered a

    h : HasOperation (c.servers a).phase (c.servers a).owes t u.line u.fixed u.get_failed
    h = operation_under (c.servers a).phase (c.servers a).owes t u (is_under (c.servers a).phase (c.servers a).owes t (c.servers a).under u under (g.servers a).under)

    -- fixed
    fixed_kept : (o : Op) (r : Reply) → LineFits (c.servers a).phase (c.servers a).owes t.state t.faulted o (Some r) u.get_failed →
        Keeps (told_dirty a u r a) (record (answered_fixed (c.servers a) o r) { under = None }) (has_flights c.flights a)
    fixed_kept o r fits = by_phase (c.servers a).phase refl (is_unmount o && is_ok r) fits
      where
        by_phase : (p : Phase) → (c.servers a).phase ≡ p → (b : Bool) → LineFits p (c.servers a).owes t.state t.faulted o (Some r) u.get_failed →
            Keeps (told_dirty a u r a) (record (if b then record (c.servers a) { owes = false } else c.servers a) { under = None }) (has_flights c.flights a)
        by_phase Off e true fits = gone (told_dirty a u r a) (record (c.servers a) { owes = false; under = None }) (has_flights c.flights a) (ap (λ p. is_up p || is_still p) e)
        by_phase Off e false fits = gone (told_dirty a u r a) (record (c.servers a) { under = None }) (has_flights c.flights a) (ap (λ p. is_up p || is_still p) e)
        by_phase Dead e true fits = gone (told_dirty a u r a) (record (c.servers a) { owes = false; under = None }) (has_flights c.flights a) (ap (λ p. is_up p || is_still p) e)
        by_phase Dead e false fits = gone (told_dirty a u r a) (record (c.servers a) { under = None }) (has_flights c.flights a) (ap (λ p. is_up p || is_still p) e)
        by_phase (Doomed fate) e true fits = gone (told_dirty a u r a) (record (c.servers a) { owes = false; under = None }) (has_flights c.flights a) (ap (λ p. is_up p || is_still p) e)
        by_phase (Doomed fate) e false fits = gone (told_dirty a u r a) (record (c.servers a) { under = None }) (has_flights c.flights a) (ap (λ p. is_up p || is_still p) e)
        by_phase Still e b fits = absurd fits
        by_phase Up e true fits =
            answered_kept a u r (record (c.servers a) { owes = false; under = None }) server under (already_is r (and_parts (is_mount o) (is_already r) fits).1).0 refl (λ m. m)
            (same_blank (c.servers a) (record (c.servers a) { owes = false; under = None }) (has_flights c.flights a) refl refl refl)
        by_phase Up e false fits =
            answered_kept a u r (record (c.servers a) { under = None }) server under (already_is r (and_parts (is_mount o) (is_already r) fits).1).0 refl (λ m. m)
            (same_blank (c.servers a) (record (c.servers a) { under = None }) (has_flights c.flights a) refl refl refl)

    -- of the line's own
    ok_kept : (o : Op) (v : Server) → (IsTrue (is_up v.phase || is_still v.phase) → IsTrue (is_up (c.servers a).phase || is_still (c.servers a).phase)) → v.under ≡ None → v.cache ≡ (c.servers a).cache →
        v.ring ≡ (c.servers a).ring → v.recovery ≡ (c.servers a).recovery → (r : Reply) → reply.Ok ≡ r → Keeps (told_dirty a u r a) v (has_flights c.flights a)
    ok_kept o v mounted none cache ring recovery r e =
        subst (λ r. Keeps (told_dirty a u r a) v (has_flights c.flights a)) e
        (answered_kept a u reply.Ok v server under refl none mounted (same_blank (c.servers a) v (has_flights c.flights a) cache ring recovery))

    off_gone : (p : Phase) → IsTrue (is_off p) → (is_up p || is_still p) ≡ false
    off_gone Off h = refl
    off_gone Up h = absurd (false≢true h)
    off_gone Still h = absurd (false≢true h)
    off_gone (Doomed f) h = absurd (false≢true h)
    off_gone Dead h = absurd (false≢true h)

    mounts_kept : (r : Reply) → own_answer c.setting.logs c.flights a (c.servers a) u op.Mount ≡ Some r → Keeps (told_dirty a u r a) (record (answered_open c u (c.servers a) op.Mount r) { under = None }) (has_flights c.flights a)
    mounts_kept r e = go (is_off (c.servers a).phase) refl e
      where
        with_mount : IsTrue (is_off (c.servers a).phase) → Keeps (told_dirty a u reply.Mounted a) (record (up_after c u) { under = None }) (has_flights c.flights a)
        with_mount off s = record { cache = refl; waiting = refl; reached = mounted_reached (end_of c.setting.logs u.slots); recovery = refl; landed = ashore a server off }

        by_get : (b : Bool) → IsTrue (is_off (c.servers a).phase) → (if b then Some reply.Io else due_if (is_read c.setting.logs u.slots) reply.Mounted) ≡ Some r →
            Keeps (told_dirty a u r a) (record (answered_open c u (c.servers a) op.Mount r) { under = None }) (has_flights c.flights a)
        by_get true off e =
            subst (λ r. Keeps (told_dirty a u r a) (record (answered_open c u (c.servers a) op.Mount r) { under = None }) (has_flights c.flights a)) (same_Some reply.Io r e)
            (gone (told_dirty a u reply.Io a) (record (c.servers a) { under = None }) (has_flights c.flights a) (off_gone (c.servers a).phase off))
        by_get false off e =
            subst (λ r. Keeps (told_dirty a u r a) (record (answered_open c u (c.servers a) op.Mount r) { under = None }) (has_flights c.flights a)) (due_is (is_read c.setting.logs u.slots) reply.Mounted r e).1 (with_mount off)

        go : (b : Bool) → is_off (c.servers a).phase ≡ b → (if b then mount_answer c.setting.logs u else None) ≡ Some r →
            Keeps (told_dirty a u r a) (record (answered_open c u (c.servers a) op.Mount r) { under = None }) (has_flights c.flights a)
        go true o e = by_get u.get_failed o e
        go false o e = absurd (cc)

    own_kept : (o : Op) (r : Reply) → own_answer c.setting.logs c.flights a (c.servers a) u o ≡ Some r → Keeps (told_dirty a u r a) (record (answered_open c u (c.servers a) o r) { under = None }) (has_flights c.flights a)
    own_kept op.Mount r e = mounts_kept r e
    own_kept op.Sync r e = ok_kept op.Sync (record (c.servers a) { under = None }) (λ m. m) refl refl refl refl r (due_is (is_up (c.servers a).phase && is_synced (c.servers a)) reply.Ok r e).1
    own_kept op.Unmount r e = gone (told_dirty a u r a) (record (off_after (c.servers a)) { under = None }) (has_flights c.flights a) refl
    own_kept (op.CrashAt n) r e =
        ok_kept (op.CrashAt n) (record (c.servers a) { arming = Some (record { k = n; cuts = false }); under = None }) (λ m. m) refl refl refl refl r (due_is (is_up (c.servers a).phase) reply.Ok r e).1
    own_kept (op.CutAt n) r e =
        ok_kept (op.CutAt n) (record (c.servers a) { arming = Some (record { k = n; cuts = true }); under = None }) (λ m. m) refl refl refl refl r (due_is (is_up (c.servers a).phase) reply.Ok r e).1
    own_kept op.Stall r e =
        ok_kept op.Stall (record (c.servers a) { phase = Still; under = None })
        (λ m. or_left (is_up (c.servers a).phase) (is_still (c.servers a).phase) (due_is (is_up (c.servers a).phase) reply.Ok r e).0) refl refl refl refl r
        (due_is (is_up (c.servers a).phase) reply.Ok r e).1
    own_kept o r e = absurd (cc)

    due_kept : (r : Reply) (fixed : Option Reply) → u.fixed ≡ fixed → answer_of fixed (own_answer_of c.setting.logs c.flights a (c.servers a) u (Some h.operation)) ≡ Some r →
        Keeps (told_dirty a u r a) (answered_by c u (c.servers a) h.operation r) (has_flights c.flights a)
    due_kept r (Some x) e due =
        subst (λ y. Keeps (told_dirty a u r a) (record (if is_some y then answered_fixed (c.servers a) h.operation r else answered_open c u (c.servers a) h.operation r) { under = None }) (has_flights c.flights a)) (sym (e ∙ due))
        (fixed_kept h.operation r (subst (λ y. LineFits (c.servers a).phase (c.servers a).owes t.state t.faulted h.operation y u.get_failed) (e ∙ due) h.fits))
    due_kept r None e due =
        subst (λ y. Keeps (told_dirty a u r a) (record (if is_some y then answered_fixed (c.servers a) h.operation r else answered_open c u (c.servers a) h.operation r) { under = None }) (has_flights c.flights a)) (sym e)
        (own_kept h.operation r due)

    answer_kept : (r : Reply) (o : Option Op) → operation_of u.line.what ≡ o → answer_of u.fixed (own_answer_of c.setting.logs c.flights a (c.servers a) u o) ≡ Some r →
        Later (answered_with c a u r o) (told_dirty a u r)
    answer_kept r None is due = absurd (no_op (operation_of u.line.what) is h.is)
      where
        no_op : (o : Option Op) → o ≡ None → o ≡ Some h.operation → ⊥
        no_op o e f = absurd (cc)
    answer_kept r (Some o) is due =
        let same : o ≡ h.operation = same_Some o h.operation (sym is ∙ h.is) in
        changed_one dirty (told_dirty a u r) c.servers c.flights c.flights a (answered_by c u (c.servers a) o r)
        (subst (λ o. Keeps (told_dirty a u r a) (answered_by c u (c.servers a) o r) (has_flights c.flights a)) (sym same)
        (due_kept r u.fixed refl (subst (λ o. answer_of u.fixed (own_answer_of c.setting.logs c.flights a (c.servers a) u (Some o)) ≡ Some r) same due)))
        (told_other a u r) (λ i n l. l) k

  abbrev AnswerGoal : ℕ → Option Under → Option Reply → Type 0
  AnswerGoal a o x = Later (answered_under c a o x) (λ i. dirty_from c.setting.script i (dirty i) (saids_of (says_answer a o x)))

  answered_so : (a : ℕ) → CanAnswer c a → Later (answered_under c a (c.servers a).under (due_at c a)) (λ i. dirty_from c.setting.script i (dirty i) (saids_of (says_answer a (c.servers a).under (due_at c a))))
  answered_so a can = by_answer (due_at c a) refl can.due
    where
      by_under : (r : Reply) → due_at c a ≡ Some r → IsTrue (is_answering (c.servers a).phase) → (o : Option Under) → (c.servers a).under ≡ o → due_under c.setting.logs c.flights a (c.servers a) o ≡ Some r →
          AnswerGoal a (c.servers a).under (due_at c a)
      by_under r e answers None under due = absurd (cc)
      by_under r e answers (Some u) under due =
          subst (λ o. AnswerGoal a o (due_at c a)) (sym under) (subst (λ x. AnswerGoal a (Some u) x) (sym e) (answer_kept a can.server u under answers r (operation_of u.line.what) refl due))

      by_answer : (x : Option Reply) → due_at c a ≡ x → IsSome x → AnswerGoal a (c.servers a).under (due_at c a)
      by_answer None e some = absurd (false≢true some)
      by_answer (Some r) e some =
          let d : IsTrue (is_answering (c.servers a).phase) × (due_under c.setting.logs c.flights a (c.servers a) (c.servers a).under ≡ Some r) =
          if_some (is_answering (c.servers a).phase) (due_under c.setting.logs c.flights a (c.servers a) (c.servers a).under) r e in
          by_under r e d.0 (c.servers a).under refl d.1

  -- ---- a commit
  abbrev CommitGoal : ℕ → Option Stage → Option Under → Type 0
  CommitGoal a at o = Spotless (λ i. dirty_from c.setting.script i (dirty i) (saids_of (says_answer a o (reply_by at)))) (committed_at c a at).servers (committed_at c a at).flights

  committed_so : (a : ℕ) → CanCommit c a → Later (committed_at c a (stage c a)) (λ i. dirty_from c.setting.script i (dirty i) (saids_of (says_answer a (c.servers a).under (reply_by (stage c a)))))
  committed_so a can = go (stage c a) refl can.done
    where
      finished : (outcome : Outcome) → HasStage c a (Finishing outcome) → CommitGoal a (Some (Finishing outcome)) (c.servers a).under
      finished outcome h =
          subst (λ o. CommitGoal a (Some (Finishing outcome)) o) (sym h.under)
          (changed_one dirty (told_dirty a h.u outcome.reply) c.servers c.flights (each_of_server a (flight_after outcome) c.flights) a (committed_by outcome (c.servers a)) own (told_other a h.u outcome.reply)
          (λ i n l. changed_flights a i (flight_after outcome) (looked_flights outcome i) c.flights ∙ l) k)
        where
          plain : is_mounted outcome.reply ≡ false
          plain = (plain_is outcome.reply (subst StageIsPlain h.stage_is (stage_plain c.setting c.locks a (c.servers a).cache h.u h.operation))).0

          own : Keeps (told_dirty a h.u outcome.reply a) (committed_by outcome (c.servers a)) (has_flights (each_of_server a (flight_after outcome) c.flights) a)
          own s =
              let clean : (dirty a || is_changing (Some h.u)) ≡ false = said_clean c.setting.script a (dirty a) h.u outcome.reply (line_so a h.u h.under) plain s.clean_ in
              let was : (dirty a || is_changing (c.servers a).under) ≡ false = subst (λ o. (dirty a || is_changing o) ≡ false) (sym h.under) clean in
              let b : IsBlank (c.servers a) (has_flights c.flights a) = k a (record { mounted = s.mounted; clean_ = was }) in
              looked_blank outcome (c.servers a) (has_flights c.flights a) (has_flights (each_of_server a (flight_after outcome) c.flights) a) (looks_at c a (Finishing outcome) (dirty a) h was)
              (changed_flights a a (flight_after outcome) (looked_flights outcome a) c.flights ∙ b.landed) b

      go : (at : Option Stage) → stage c a ≡ at → IsSome (done_by at) → CommitGoal a (stage c a) (c.servers a).under
      go None e some = absurd (false≢true some)
      go (Some (Asking need)) e some = absurd (false≢true some)
      go (Some (Fetching needs)) e some = absurd (false≢true some)
      go (Some Moving) e some = absurd (false≢true some)
      go (Some Stopping) e some = absurd (false≢true some)
      go (Some (Growing needs seen)) e some = absurd (false≢true some)
      go (Some (Clearing block)) e some = absurd (false≢true some)
      go (Some (Finishing outcome)) e some = subst (λ at. CommitGoal a at (c.servers a).under) (sym e) (finished outcome (stage_parts c a (Finishing outcome) e))

  -- ---- locks and writes
  given_so : (a : ℕ) (lock : LockId) (o : Option AskedFor) → Later (given_for c a lock o) dirty
  given_so a lock None = k
  given_so a lock (Some Downgrade) = k
  given_so a lock (Some Release) =
      one a (record (c.servers a) { cache = dropped (c.servers a).cache lock })
      (kept (dirty a) (c.servers a) (record (c.servers a) { cache = dropped (c.servers a).cache lock }) (has_flights c.flights a) refl refl
      (λ b. record { cache = dropped_blank (c.servers a).cache lock b.cache; waiting = b.waiting; reached = b.reached; recovery = b.recovery; landed = b.landed }) (k a))

  -- nothing of it is issued
  issued_so : (a sector : ℕ) (o : Option Write) → value_at (writes c a) sector ≡ o → Later (issued_as c a sector o) dirty
  issued_so a sector None e = k
  issued_so a sector (Some write) e =
      changed_one dirty dirty c.servers c.flights (c.flights ++ (c.tickets, flight_of c a sector write) ∷ []) a
      (record (c.servers a) { ring = ring_after write.purpose (c.servers a).ring; arming = counted (c.servers a).arming }) own (λ i n. refl)
      (λ i n l. issued_stays c.flights c.tickets i (flight_of c a sector write) (ap (λ b. b && true) (numbers_turn i a n)) l) k
    where
      no_some : None ≡ Some write → ⊥
      no_some e = absurd (cc)

      own : Keeps (dirty a) (record (c.servers a) { ring = ring_after write.purpose (c.servers a).ring; arming = counted (c.servers a).arming })
          (has_flights (c.flights ++ (c.tickets, flight_of c a sector write) ∷ []) a)
      own s =
          absurd
          (no_some
          (sym (ap (λ w. value_at w sector) (no_writes c.setting c.locks a (c.servers a) (stage c a) (has_flights c.flights a) (k a (record { mounted = s.mounted; clean_ = s.clean_ })))) ∙ e))

  -- nor is one of it in flight
  taken_so : (ticket : ℕ) (flight : Flight) → value_at c.flights ticket ≡ Some flight → Later (taken_in (landed c ticket) flight) dirty
  taken_so ticket flight e = go flight.present refl
    where
      v : Server
      v = acknowledged flight.sector flight.block flight.purpose (c.servers flight.server)

      it_flies : flight.present ≡ true → has_flights c.flights flight.server ≡ false → ⊥
      it_flies p l = false≢true (sym (flies c.flights ticket flight.server flight e l) ∙ and_from (nat_eq flight.server flight.server) flight.present (eq-eqb flight.server flight.server refl) p)

      back : (purpose : Purpose) → IsSpotless (dirty flight.server) (acknowledged flight.sector flight.block purpose (c.servers flight.server)) → IsSpotless (dirty flight.server) (c.servers flight.server)
      back (OfLog number) s = record { mounted = s.mounted; clean_ = s.clean_ }
      back (InPlace cover) s = by_block (comes_clean (c.servers flight.server) flight.sector flight.block) s
        where
          by_block : (b : Bool) → IsSpotless (dirty flight.server) (if b then clean_now flight.sector (c.servers flight.server) else c.servers flight.server) → IsSpotless (dirty flight.server) (c.servers flight.server)
          by_block true s = record { mounted = s.mounted; clean_ = s.clean_ }
          by_block false s = s
      back OfRecovery s = record { mounted = s.mounted; clean_ = s.clean_ }

      go : (b : Bool) → flight.present ≡ b → Spotless dirty (if b then record (landed c ticket) { servers = put c.servers flight.server v } else landed c ticket).servers
          (if b then record (landed c ticket) { servers = put c.servers flight.server v } else landed c ticket).flights
      go false p = fewer (landed c ticket).flights (λ i l. none_landed ticket i c.flights l)
      go true p =
          changed_one dirty dirty c.servers c.flights (landed c ticket).flights flight.server v (λ s. absurd (it_flies p (k flight.server (back flight.purpose s)).landed)) (λ i n. refl)
          (λ i n l. none_landed ticket i c.flights l) k

  -- ---- calls that fail
  failed_so : (d : Core) (a : ℕ) → Spotless dirty d.servers d.flights → Later (call_failed d a) dirty
  failed_so d a l = go (nat_eq a host_party)
    where
      own : Keeps (dirty a) (failed_by (d.servers a)) (has_flights d.flights a)
      own = kept (dirty a) (d.servers a) (failed_by (d.servers a)) (has_flights d.flights a) refl refl (same_blank (d.servers a) (failed_by (d.servers a)) (has_flights d.flights a) refl refl refl) (l a)

      go : (b : Bool) → Spotless dirty (if b then record d { over = true } else record d { servers = put d.servers a (failed_by (d.servers a)) }).servers
          (if b then record d { over = true } else record d { servers = put d.servers a (failed_by (d.servers a)) }).flights
      go true = l
      go false = changed_one dirty dirty d.servers d.flights d.flights a (failed_by (d.servers a)) own (λ i n. refl) (λ i n x. x) l

  fetch_fails_so : (a : ℕ) → Later (fetch_failed c a) dirty
  fetch_fails_so a = go (is_off (c.servers a).phase)
    where
      go : (b : Bool) → Spotless dirty (if b then record c { servers = put c.servers a (with_under (c.servers a) refused_under) } else call_failed c a).servers
          (if b then record c { servers = put c.servers a (with_under (c.servers a) refused_under) } else call_failed c a).flights
      go true = one a (with_under (c.servers a) refused_under) (under_kept (dirty a) (c.servers a) (has_flights c.flights a) refused_under (λ u. refl) (k a))
      go false = failed_so c a k

  arrived_so : (ticket : ℕ) (heard : Heard) (o : Option Flight) → value_at c.flights ticket ≡ o → Later (arrived_from c ticket heard o) dirty
  arrived_so ticket heard None e = k
  arrived_so ticket Nothing (Some flight) e = fewer (landed c ticket).flights (λ i l. none_landed ticket i c.flights l)
  arrived_so ticket (Got block) (Some flight) e = fewer (landed c ticket).flights (λ i l. none_landed ticket i c.flights l)
  arrived_so ticket GetFailed (Some flight) e = fewer (landed c ticket).flights (λ i l. none_landed ticket i c.flights l)
  arrived_so ticket Written (Some flight) e = taken_so ticket flight e
  arrived_so ticket Late (Some flight) e = fewer (landed c ticket).flights (λ i l. none_landed ticket i c.flights l)
  arrived_so ticket (PutFailed new) (Some flight) e = failed_so (landed c ticket) flight.server (fewer (landed c ticket).flights (λ i l. none_landed ticket i c.flights l))

  -- ---- lives
  died_so : (a : ℕ) (p : Phase) → Later (died_in c a p) dirty
  died_so a Off = k
  died_so a Up = k
  died_so a Still = k
  died_so a Dead = k
  died_so a (Doomed fate) =
      changed_one dirty dirty c.servers c.flights (flights_at_death fate a c.flights) a (died_with fate (c.servers a)) (gone (dirty a) (died_with fate (c.servers a)) (has_flights (flights_at_death fate a c.flights) a) refl)
      (λ i n. refl) (λ i n l. less i fate.loses l) k
    where
      less : (i : ℕ) (b : Bool) → has_flights c.flights i ≡ false → has_flights (if b then lost a c.flights else left_behind a c.flights) i ≡ false
      less i true l = fewer_lost a i c.flights l
      less i false l = left_stays a i c.flights l

  resumed_so : (a : ℕ) → CanResume c a → Spotless dirty (put c.servers a (up_again c.setting c.now (c.servers a))) c.flights
  resumed_so a can =
      one a (up_again c.setting c.now (c.servers a))
      (λ s.
      let b : IsBlank (c.servers a) (has_flights c.flights a) =
      k a (record { mounted = or_right (is_up (c.servers a).phase) (is_still (c.servers a).phase) (and_parts (is_still (c.servers a).phase) (nat_lt (c.servers a).expiry c.now) can.past).0; clean_ = s.clean_ }) in
      record { cache = refl; waiting = b.waiting; reached = b.reached; recovery = refl; landed = b.landed })

  recovering_so : (dead by : ℕ) → Spotless (λ i. dirty i || nat_eq by i) (put c.servers by (record (c.servers by) { recovery = Some (recovery_of dead) })) c.flights
  recovering_so dead by = λ i. go i (nat_eq i by) refl
    where
      or_none : (d b l : Bool) → ((d || b) || l) ≡ false → (d || l) ≡ false
      or_none true b l e = absurd (false≢true (sym e))
      or_none false true l e = absurd (false≢true (sym e))
      or_none false false l e = e

      or_not : (d b l : Bool) → b ≡ true → ((d || b) || l) ≡ false → ⊥
      or_not true b l t e = false≢true (sym e)
      or_not false true l t e = false≢true (sym e)
      or_not false false l t e = false≢true t

      other : (i : ℕ) → Keeps (dirty i) (c.servers i) (has_flights c.flights i) → Keeps (dirty i || nat_eq by i) (c.servers i) (has_flights c.flights i)
      other i k s = k (record { mounted = s.mounted; clean_ = or_none (dirty i) (nat_eq by i) (is_changing (c.servers i).under) s.clean_ })

      go : (i : ℕ) (b : Bool) → nat_eq i by ≡ b → Keeps (dirty i || nat_eq by i) (if b then record (c.servers by) { recovery = Some (recovery_of dead) } else c.servers i) (has_flights c.flights i)
      go i true e = λ s. absurd (or_not (dirty i) (nat_eq by i) (is_changing (c.servers by).under) (subst (λ j. nat_eq by j ≡ true) (sym (eqb-true i by e)) (eq-eqb by by refl)) s.clean_)
      go i false e = other i (k i)

  finished_so : (by : ℕ) (o : Option Recovery) → Later (finished_from c by o) (λ i. dirty_from c.setting.script i (dirty i) (saids_of (says_recovered c o)))
  finished_so by None = k
  finished_so by (Some recovery) =
      changed_one dirty dirty (put c.servers by (record (c.servers by) { recovery = None })) c.flights c.flights recovery.dead (recovered (c.servers recovery.dead))
      (gone (dirty recovery.dead) (recovered (c.servers recovery.dead)) (has_flights c.flights recovery.dead) refl) (λ i n. refl) (λ i n l. l)
      (one by (record (c.servers by) { recovery = None })
      (kept (dirty by) (c.servers by) (record (c.servers by) { recovery = None }) (has_flights c.flights by) refl refl
      (λ b. record { cache = b.cache; waiting = b.waiting; reached = b.reached; recovery = refl; landed = b.landed }) (k by)))

  -- ---- the host
  off_gone_so : (p : Phase) → IsTrue (is_off p) → (is_up p || is_still p) ≡ false
  off_gone_so Off h = refl
  off_gone_so Up h = absurd (false≢true h)
  off_gone_so Still h = absurd (false≢true h)
  off_gone_so (Doomed f) h = absurd (false≢true h)
  off_gone_so Dead h = absurd (false≢true h)

  host_one : (i : ℕ) (flying : Flights) → (has_flights c.flights i ≡ false → has_flights flying i ≡ false) → (number : ℕ) (b : Bool) → nat_eq host_party i ≡ b →
      Keeps (dirty_after c.setting.script i (dirty i) (said.Answer (record { 0 = host_party }) number reply.Ok)) (c.servers i) (has_flights flying i)
  host_one i flying less number true e =
      gone (dirty_after c.setting.script i (dirty i) (said.Answer (record { 0 = host_party }) number reply.Ok)) (c.servers i) (has_flights flying i)
      (subst (λ j. (is_up (c.servers j).phase || is_still (c.servers j).phase) ≡ false) (eqb-true host_party i e) (off_gone_so (c.servers host_party).phase g.host))
  host_one i flying less number false e = λ s.
      let same : dirty_after c.setting.script i (dirty i) (said.Answer (record { 0 = host_party }) number reply.Ok) ≡ dirty i =
      ap (λ b. if b then not (is_mounted reply.Ok) && (dirty i || is_change_line (line_of c.setting.script number)) else dirty i) e in
      let b : IsBlank (c.servers i) (has_flights c.flights i) = k i (record { mounted = s.mounted; clean_ = ap (λ d. d || is_changing (c.servers i).under) (sym same) ∙ s.clean_ }) in
      record { cache = b.cache; waiting = b.waiting; reached = b.reached; recovery = b.recovery; landed = less b.landed }

  host_so : (number : ℕ) (o : Option Line) → Later (host_answered_line c o) (λ i. dirty_after c.setting.script i (dirty i) (said.Answer (record { 0 = host_party }) number reply.Ok))
  host_so number None = λ i. host_one i c.flights (λ l. l) number (nat_eq host_party i) refl
  host_so number (Some line) = λ i. host_one i (if is_halt line.what then [] else c.flights) (λ l. none_or i (is_halt line.what) l) number (nat_eq host_party i) refl
    where
      none_or : (i : ℕ) (b : Bool) → has_flights c.flights i ≡ false → has_flights (if b then [] else c.flights) i ≡ false
      none_or i true l = refl
      none_or i false l = l

  closed_so : (a : ℕ) → Later (closed c a) dirty
  closed_so a = go (clean_at c a)
    where
      go : (b : Bool) → Spotless dirty (if b then record c { servers = put c.servers a (off_after (c.servers a)); locks = cleared c.locks a } else record c { servers = put c.servers a (wanting_all (c.servers a)) }).servers
          (if b then record c { servers = put c.servers a (off_after (c.servers a)); locks = cleared c.locks a } else record c { servers = put c.servers a (wanting_all (c.servers a)) }).flights
      go true = one a (off_after (c.servers a)) (gone (dirty a) (off_after (c.servers a)) (has_flights c.flights a) refl)
      go false =
          one a (wanting_all (c.servers a))
          (kept (dirty a) (c.servers a) (wanting_all (c.servers a)) (has_flights c.flights a) refl refl (same_blank (c.servers a) (wanting_all (c.servers a)) (has_flights c.flights a) refl refl refl) (k a))

  node_dirty : (script : List Line) (i : ℕ) (d : Bool) (x : Said) → is_node x ≡ true → dirty_after script i d x ≡ d
  node_dirty script i d (said.Node path kind size links) n = refl
  node_dirty script i d x n = absurd (false≢true n)

  shown_so : (place : ℕ) → Spotless (λ i. dirty_from c.setting.script i (dirty i) (saids_of (says_node (slice_get (tree_lines c) place)))) c.servers c.flights
  shown_so place = go (slice_get (tree_lines c) place) refl
    where
      go : (o : Option Said) → slice_get (tree_lines c) place ≡ o → Spotless (λ i. dirty_from c.setting.script i (dirty i) (saids_of (says_node (slice_get (tree_lines c) place)))) c.servers c.flights
      go None e = subst (λ o. Spotless (λ i. dirty_from c.setting.script i (dirty i) (saids_of (says_node o))) c.servers c.flights) (sym e) k
      go (Some x) e =
          subst (λ o. Spotless (λ i. dirty_from c.setting.script i (dirty i) (saids_of (says_node o))) c.servers c.flights) (sym e)
          (λ i. subst (λ d. Keeps d (c.servers i) (has_flights c.flights i)) (sym (node_dirty c.setting.script i (dirty i) x (tree_nodes c.setting.segments c.read x (got_in (tree_lines c) place x e)))) (k i))

  -- ---- each event
  fetch_so : (a sector : ℕ) (heard : Heard) → Later (after c (Fetch a sector) heard) dirty
  fetch_so a sector (Got block) = one a (fetched_by a (stage c a) sector block (c.servers a)) (fetched_kept (dirty a) a (stage c a) sector block (c.servers a) (has_flights c.flights a) (k a))
  fetch_so a sector Nothing = fetch_fails_so a
  fetch_so a sector GetFailed = fetch_fails_so a
  fetch_so a sector Written = fetch_fails_so a
  fetch_so a sector Late = fetch_fails_so a
  fetch_so a sector (PutFailed new) = fetch_fails_so a

  load_so : (by slot : ℕ) (heard : Heard) → Later (after c (Load by slot) heard) dirty
  load_so by slot (Got block) = one by (record (c.servers by) { recovery = option_map (slot_loaded slot block) (c.servers by).recovery }) (recovery_kept (dirty by) (c.servers by) (has_flights c.flights by) (slot_loaded slot block) (k by))
  load_so by slot Nothing = failed_so c by k
  load_so by slot GetFailed = failed_so c by k
  load_so by slot Written = failed_so c by k
  load_so by slot Late = failed_so c by k
  load_so by slot (PutFailed new) = failed_so c by k

  look_so : (by sector : ℕ) (heard : Heard) → Later (after c (Look by sector) heard) dirty
  look_so by sector (Got block) = one by (record (c.servers by) { recovery = option_map (look_made c sector block) (c.servers by).recovery }) (recovery_kept (dirty by) (c.servers by) (has_flights c.flights by) (look_made c sector block) (k by))
  look_so by sector Nothing = failed_so c by k
  look_so by sector GetFailed = failed_so c by k
  look_so by sector Written = failed_so c by k
  look_so by sector Late = failed_so c by k
  look_so by sector (PutFailed new) = failed_so c by k

  read_so : (sector : ℕ) (heard : Heard) → Later (after c (Read sector) heard) dirty
  read_so sector (Got block) = k
  read_so sector Nothing = failed_so c host_party k
  read_so sector GetFailed = failed_so c host_party k
  read_so sector Written = failed_so c host_party k
  read_so sector Late = failed_so c host_party k
  read_so sector (PutFailed new) = failed_so c host_party k

  ticked_so : Later (after c Tick Nothing) dirty
  ticked_so = λ i. go i ((c.now + 1) % c.setting.flush_ticks == 0)
    where
      go : (i : ℕ) (b : Bool) → Keeps (dirty i) (if b then wanting_all_up (c.servers i) else c.servers i) (has_flights c.flights i)
      go i true = wanting_kept (dirty i) (c.servers i) (has_flights c.flights i) (k i)
      go i false = k i

  pub event_so : (event : Event) (heard : Heard) → CanGoing c event → Later (after c event heard) (λ i. dirty_from c.setting.script i (dirty i) (saids_of (deeds_of c event heard)))
  event_so (Begin a) heard can = one a (begun_line (c.servers a) (next_of c a)) (begun_kept (dirty a) (c.servers a) (has_flights c.flights a) (next_of c a) can.idle (k a))
  event_so (Ask a lock mode) heard can = k
  event_so (Fetch a sector) heard can = fetch_so a sector heard
  event_so (Again a) heard can = one a (again_by c.setting.logs (stage c a) (c.servers a)) (again_kept c a (dirty a) (has_flights c.flights a) can (k a))
  event_so (Clear a block) heard can = one a (cleared_at block (c.servers a)) (cleared_kept c a block (dirty a) (has_flights c.flights a) can.clear)
  event_so (Commit a) heard can = committed_so a can
  event_so (Answer a) heard can = answered_so a can
  event_so (Give a lock) heard can = given_so a lock (asked_for c.locks a lock)
  event_so (Issue a sector) heard can = issued_so a sector (value_at (writes c a) sector) refl
  event_so (Doom a) heard can = one a (record (c.servers a) { phase = Doomed (fate_of c a) }) (gone (dirty a) (record (c.servers a) { phase = Doomed (fate_of c a) }) (has_flights c.flights a) refl)
  event_so (Resume a) heard can = resumed_so a can
  event_so (Arrive ticket) heard can =
      subst (λ ss. Later (arrived_from c ticket heard (value_at c.flights ticket)) (λ i. dirty_from c.setting.script i (dirty i) ss)) (sym (arrival_says c.now heard (value_at c.flights ticket)))
      (arrived_so ticket heard (value_at c.flights ticket) refl)
  event_so (Lose ticket) heard can = fewer (landed c ticket).flights (λ i l. none_landed ticket i c.flights l)
  event_so (Die a) heard can = died_so a (c.servers a).phase
  event_so (Renew a) heard can =
      one a (record (c.servers a) { expiry = lease_to c.setting c.now })
      (kept (dirty a) (c.servers a) (record (c.servers a) { expiry = lease_to c.setting c.now }) (has_flights c.flights a) refl refl
      (same_blank (c.servers a) (record (c.servers a) { expiry = lease_to c.setting c.now }) (has_flights c.flights a) refl refl refl) (k a))
  event_so Tick heard can = ticked_so
  event_so (Recover dead by) heard can = recovering_so dead by
  event_so (Load by slot) heard can = load_so by slot heard
  event_so (Look by sector) heard can = look_so by sector heard
  event_so (Finish by) heard can = finished_so by (c.servers by).recovery
  event_so (HostLine number) heard can = host_so number (next_of c host_party)
  event_so (Close a) heard can = closed_so a
  event_so (Read sector) heard can = read_so sector heard
  event_so (Show place) heard can = shown_so place
  event_so End heard can = k
