-- Where every line is answered, every server is off and nothing is in flight, nothing is under way, and only reading may happen.
use Rattle.std.proofs.Common.{◌≡◌, ℕ, ◌+◌, Bool, true, false, ◌&&◌, ◌||◌, ◌==◌, if◌then◌else◌, IsTrue, List, [], Option, Some, None, is_some, nat_lt, refl, sym, ap, ◌∙◌, subst}
use Rattle.std.proofs.lemmas.Bool.{and_parts, eqb-true, false≢true}
use Rattle.std.proofs.lemmas.Option.{none-some}
use Rattle.disk_definitions.proofs.Listed.{Among}
use Rattle.frang_base.specs.declared.script.Line.{Line}
use Rattle.sector_bytes.specs.SectorMaps.{value_at}
use Rattle.sector_bytes.specs.Sectors.{Sectors}
use Rattle.tree_definitions.specs.Apply.{is_path_op}
use Rattle.tree_definitions.specs.Transcript.{is_mount}
use Rattle.cache_definitions.specs.Caches.{CachedSector}
use Rattle.lock_definitions.specs.Locks.{log_hold}
use Rattle.ring_definitions.specs.Rings.{first_waiting, sent}
use Rattle.core_definitions.specs.Lines.{Asking, Clearing, Under}
use Rattle.core_definitions.specs.Recoveries.{Recovery}
use Rattle.core_definitions.specs.Scripts.{host_party}
use Rattle.core_definitions.specs.Settings.{Setting}
use Rattle.core_definitions.specs.Servers.{Arming, Phase, Off, Up, Still, Doomed, Dead, asks, due_under, is_answering, is_dead, is_doomed, is_off, is_open, is_still, is_up, stage_under}
use Rattle.core_definitions.specs.Cores.{Core, due_at, is_all_answered, next_of, stage, writes}
use Rattle.core_definitions.specs.Events.{Event, Begin, Ask, Fetch, Again, Clear, Commit, Answer, Give, Issue, Doom, Resume, Arrive, Lose, Die, Renew, Tick, Recover, Load, Look, Finish, HostLine, Close, Read, Show, End}
use Rattle.core_definitions.specs.LineGuards.{CanAgain, CanFetch, done_by, is_grown, is_line, is_moved, is_server, may_reclaim}
use Rattle.core_definitions.specs.WriteGuards.{CanDoom, CanIssue, CanResume, is_at_last, is_by_dead, is_flight, is_worker}
use Rattle.core_definitions.specs.EndGuards.{CanHost, CanRecover, is_hold_over, is_recovery, is_through, wants_look, wants_slot}
use Rattle.core_definitions.specs.Guards.{CanGoing}
use Rattle.core_definitions.specs.Writes.{Write}
use Rattle.core_definitions.specs.Runs.{State, Run, first_state}
use Rattle.core_laws.proofs.Guarding.{Of4, of_4}
use Rattle.core_laws.proofs.Memory.{dead_of}
use Rattle.core_laws.proofs.Resting.{good_of_run, nothing_at_rest}
use Rattle.core_facts.proofs.WriteKinds.{Wanted, Rescues, Places, NextOfLog, wanted_is}
use Rattle.core_transcripts.specs.Answers.{HaveOwnNumbers, LinesUnderWayAreNext}
use Rattle.core_transcripts.proofs.Numbering.{all_is_none}
use Rattle.core_tree_reads.specs.AtRest.{IsAtRest, is_of_reading}
use Rattle.core_tree_reads.proofs.Bare.{Bare, who_is_bare}

-- every line is answered, every server is off, and nothing is in flight
pub record Rests (c : Core) : Type 0 where
  pub answered : IsTrue (is_all_answered c)
  pub off : (a : ℕ) → IsTrue (is_server a) → IsTrue (is_off (c.servers a).phase)
  pub landed : c.flights ≡ []

-- ---- phases

off_only : (p : Phase) → IsTrue (is_off p) → p ≡ Off
off_only Off o = refl
off_only Up o = absurd (false≢true o)
off_only Still o = absurd (false≢true o)
off_only (Doomed fate) o = absurd (false≢true o)
off_only Dead o = absurd (false≢true o)

-- ---- guards of who is off

fetch_not : (p : Phase) (u : Option Under) (m n : Bool) → p ≡ Off → u ≡ None → IsTrue ((is_up p && m) || (is_off p && is_open is_mount u && n)) → ⊥
fetch_not Off None m n e f h = false≢true h
fetch_not Off (Some u) m n e f h = none-some u (sym f)
fetch_not Up u m n e f h = absurd (cc)
fetch_not Still u m n e f h = absurd (cc)
fetch_not (Doomed fate) u m n e f h = absurd (cc)
fetch_not Dead u m n e f h = absurd (cc)

doom_not : (p : Phase) (arming : Option Arming) (k x y z f : Bool) → p ≡ Off → arming ≡ None →
    IsTrue ((is_up p && k) || (is_at_last arming && x) || ((is_still p && y) && z) || ((is_up p || is_still p) && f)) → ⊥
doom_not Off None k x y z f e n h = false≢true h
doom_not Off (Some arming) k x y z f e n h = none-some arming (sym n)
doom_not Up arming k x y z f e n h = absurd (cc)
doom_not Still arming k x y z f e n h = absurd (cc)
doom_not (Doomed fate) arming k x y z f e n h = absurd (cc)
doom_not Dead arming k x y z f e n h = absurd (cc)

module _ (way : LinesUnderWayAreNext) (setting : Setting) (disk : Sectors) (s : State) (own : HaveOwnNumbers setting.script) (run : Run (first_state setting disk) s) (r : Rests s.core) where
  abbrev c : Core
  c = s.core

  phase_off : (a : ℕ) → IsTrue (is_server a) → (c.servers a).phase ≡ Off
  phase_off a server = off_only (c.servers a).phase (r.off a server)

  -- no test of phases passes that Off doesn't
  not_so : (test : Phase → Bool) → test Off ≡ false → (a : ℕ) → IsTrue (is_server a) → IsTrue (test (c.servers a).phase) → ⊥
  not_so test none a server h = false≢true (sym none ∙ ap test (sym (phase_off a server)) ∙ h)

  none_next : (who : ℕ) → next_of c who ≡ None
  none_next who = go (next_of c who) refl
    where
      go : (o : Option Line) → next_of c who ≡ o → o ≡ None
      go None e = refl
      go (Some line) e = absurd (all_is_none c.setting.script c.answered who line r.answered e)

  idle : (a : ℕ) → IsTrue (is_server a) → (c.servers a).under ≡ None
  idle a server = go (c.servers a).under refl
    where
      go : (o : Option Under) → (c.servers a).under ≡ o → o ≡ None
      go None e = refl
      go (Some under) e = absurd (none-some under.line (sym (none_next a) ∙ (way setting disk s own run a under server e).0))

  none_recovered : (by : ℕ) → IsTrue (is_worker c by) → (c.servers by).recovery ≡ None
  none_recovered by who = go (c.servers by).recovery refl
    where
      go : (o : Option Recovery) → (c.servers by).recovery ≡ o → o ≡ None
      go None e = refl
      go (Some recovery) e =
          let saved : IsTrue (is_dead (c.servers recovery.dead).phase) × IsTrue (is_server recovery.dead) = (good_of_run setting disk s run).saved by recovery.dead who (ap dead_of e) in
          absurd (not_so is_dead refl recovery.dead saved.1 saved.0)

  host_bare : Bare (c.servers host_party)
  host_bare = who_is_bare setting disk s run host_party refl

  all_off : (a : ℕ) → IsTrue (is_off (c.servers a).phase)
  all_off a = go (is_server a) refl
    where
      go : (t : Bool) → is_server a ≡ t → IsTrue (is_off (c.servers a).phase)
      go true e = r.off a e
      go false e = (who_is_bare setting disk s run a e).off

  host_has_none : (c.servers host_party).recovery ≡ None
  host_has_none = none_recovered host_party refl

  nobody_recovers : (a : ℕ) → IsTrue (is_server a || a == host_party) → (c.servers a).recovery ≡ None
  nobody_recovers a = go (is_server a) (a == host_party) refl refl
    where
      go : (t h : Bool) → is_server a ≡ t → (a == host_party) ≡ h → IsTrue (t || h) → (c.servers a).recovery ≡ None
      go true h e f w = (nothing_at_rest setting disk s run a e (ap (λ p. is_off p || is_dead p) (phase_off a e))).recovery
      go false true e f w = none_recovered a (ap (λ t. (t && is_up (c.servers a).phase) || a == host_party) e ∙ f)
      go false false e f w = absurd (false≢true w)

  pub is_at_rest : IsAtRest c
  is_at_rest = record { answered = r.answered; off = all_off; idle = idle; landed = r.landed; recoveries = nobody_recovers }

  -- ---- what may not happen

  none_staged : (a : ℕ) → IsTrue (is_server a) → stage c a ≡ None
  none_staged a server =
      ap (λ p. if is_up p && asks is_path_op (c.servers a) then stage_under c.setting c.locks a (c.servers a).cache (c.servers a).under else None) (phase_off a server)

  none_due : (a : ℕ) → IsTrue (is_server a) → due_at c a ≡ None
  none_due a server =
      ap (λ u. if is_answering (c.servers a).phase then due_under c.setting.logs c.flights a (c.servers a) u else None) (idle a server) ∙ both (is_answering (c.servers a).phase)
    where
      both : (b : Bool) → (if b then due_under c.setting.logs c.flights a (c.servers a) None else None) ≡ None
      both true = refl
      both false = refl

  no_begin : (a : ℕ) → IsTrue (is_some (next_of c a)) → ⊥
  no_begin a h = false≢true (sym (ap is_some (none_next a)) ∙ h)

  no_fetch : (a sector : ℕ) → CanFetch c a sector → ⊥
  no_fetch a sector can =
      fetch_not (c.servers a).phase (c.servers a).under _ _ (phase_off a can.server) (idle a can.server) can.lacks

  no_again : (a : ℕ) → CanAgain c a → ⊥
  no_again a can = false≢true (subst (λ at. IsTrue (is_moved at || is_grown at || may_reclaim c.setting.logs (c.servers a) at)) (none_staged a can.server) can.cause)

  no_commit : (a : ℕ) → IsTrue (is_server a) → IsTrue (is_some (done_by (stage c a))) → ⊥
  no_commit a server h = false≢true (sym (ap (λ at. is_some (done_by at)) (none_staged a server)) ∙ h)

  -- the host writes for its recovery alone, and has none
  host_writes_not : (sector : ℕ) (write : Write) → Wanted c.setting.logs c.setting.segments host_party (c.servers host_party) sector write → ⊥
  host_writes_not sector write (Rescues recovery block has there is) = none-some recovery (sym host_has_none ∙ has)
  host_writes_not sector write (Places cached dirt there is same) =
      subst (λ (cache : List (ℕ × CachedSector)). Among {X = ℕ × CachedSector} (sector, cached) cache) host_bare.cache there
  host_writes_not sector write (NextOfLog number block next at same) =
      none-some (number, block) (sym (ap (λ waiting. first_waiting (sent (c.servers host_party).ring + 1) waiting) host_bare.waiting) ∙ next)

  host_issues_not : (sector : ℕ) (write : Option Write) → value_at (writes c host_party) sector ≡ write → IsTrue (is_some write) → ⊥
  host_issues_not sector None e h = false≢true h
  host_issues_not sector (Some write) e h =
      host_writes_not sector write (wanted_is c.setting c.locks host_party (c.servers host_party) (stage c host_party) sector write e)

  no_host_issue : (a sector : ℕ) → CanIssue c a sector → (a == host_party) ≡ true → ⊥
  no_host_issue a sector can g =
      host_issues_not sector (value_at (writes c host_party) sector) refl (subst (λ k. IsTrue (is_some (value_at (writes c k) sector))) (eqb-true a host_party g) can.issuable.wanted)

  no_issue : (a sector : ℕ) → CanIssue c a sector → ⊥
  no_issue a sector can = go (is_server a) (is_up (c.servers a).phase) (a == host_party) refl refl refl can.issuable.who
    where
      go : (t u h : Bool) → is_server a ≡ t → is_up (c.servers a).phase ≡ u → (a == host_party) ≡ h → IsTrue ((t && u) || h) → ⊥
      go true true h e f g w = not_so is_up refl a e f
      go true false true e f g w = no_host_issue a sector can g
      go true false false e f g w = false≢true w
      go false u true e f g w = no_host_issue a sector can g
      go false u false e f g w = false≢true w

  no_doom : (a : ℕ) → CanDoom c a → ⊥
  no_doom a can =
      doom_not (c.servers a).phase (c.servers a).arming _ _ _ _ _ (phase_off a can.server)
      (nothing_at_rest setting disk s run a can.server (ap (λ p. is_off p || is_dead p) (phase_off a can.server))).arming can.cause

  no_resume : (a : ℕ) → CanResume c a → ⊥
  no_resume a can = not_so is_still refl a can.server (and_parts (is_still (c.servers a).phase) (nat_lt (c.servers a).expiry c.now) can.past).0

  none_flies : (ticket : ℕ) → value_at c.flights ticket ≡ None
  none_flies ticket = ap (λ flights. value_at flights ticket) r.landed

  no_recover : (dead by : ℕ) → CanRecover c dead by → ⊥
  no_recover dead by can =
      let parts : Of4 (is_server dead) (is_dead (c.servers dead).phase) (nat_lt (c.servers dead).expiry c.now) (is_hold_over c.now (log_hold c.locks dead)) =
      of_4 (is_server dead) (is_dead (c.servers dead).phase) (nat_lt (c.servers dead).expiry c.now) (is_hold_over c.now (log_hold c.locks dead)) can.waits in
      not_so is_dead refl dead parts.p0 parts.p1

  -- what a recovery is to pass isn't passed by none
  no_recovery : (by : ℕ) (passes : Recovery → Bool) → IsTrue (is_worker c by) → IsTrue (is_recovery passes (c.servers by).recovery) → ⊥
  no_recovery by passes who h = false≢true (sym (ap (is_recovery passes) (none_recovered by who)) ∙ h)

  no_host : (number : ℕ) → CanHost c number → ⊥
  no_host number can = false≢true (sym (ap (is_line (λ line. line.number == number)) (none_next host_party)) ∙ can.next)

  pub only_reading : (event : Event) → CanGoing c event → IsTrue (is_of_reading event)
  only_reading (Begin a) can = absurd (no_begin a can.next)
  only_reading (Ask a lock mode) can = absurd (none-some (Asking (lock, mode)) (sym (none_staged a can.server) ∙ can.least))
  only_reading (Fetch a sector) can = absurd (no_fetch a sector can)
  only_reading (Again a) can = absurd (no_again a can)
  only_reading (Clear a block) can = absurd (none-some (Clearing block) (sym (none_staged a can.server) ∙ can.clear))
  only_reading (Commit a) can = absurd (no_commit a can.server can.done)
  only_reading (Answer a) can = absurd (false≢true (sym (ap (λ o. is_some o) (none_due a can.server)) ∙ can.due))
  only_reading (Give a lock) can = absurd (not_so is_up refl a can.server can.up)
  only_reading (Issue a sector) can = absurd (no_issue a sector can)
  only_reading (Doom a) can = absurd (no_doom a can)
  only_reading (Resume a) can = absurd (no_resume a can)
  only_reading (Arrive ticket) can = absurd (false≢true (sym (ap (λ o. is_some o) (none_flies ticket)) ∙ can.flying))
  only_reading (Lose ticket) can = absurd (false≢true (sym (ap (is_flight (is_by_dead c)) (none_flies ticket)) ∙ can.dead))
  only_reading (Die a) can = absurd (not_so is_doomed refl a can.server can.doomed)
  only_reading (Renew a) can = absurd (not_so is_up refl a can.server can.up)
  only_reading Tick can = refl
  only_reading (Recover dead by) can = absurd (no_recover dead by can)
  only_reading (Load by slot) can = absurd (no_recovery by (wants_slot c slot) can.who can.wanted)
  only_reading (Look by sector) can = absurd (no_recovery by (wants_look c sector) can.who can.wanted)
  only_reading (Finish by) can = absurd (no_recovery by (is_through c) can.who can.ended)
  only_reading (HostLine number) can = absurd (no_host number can)
  only_reading (Close a) can = absurd (not_so is_up refl a can.server can.up)
  only_reading (Read sector) can = refl
  only_reading (Show place) can = refl
  only_reading End can = refl

  -- a line that is to pass the gate is a next one
  pub no_line_enters : (a : ℕ) (line : Line) → next_of c a ≡ Some line → ⊥
  no_line_enters a line next = none-some line (sym (none_next a) ∙ next)
