-- Each answer of a server may be given, and what counts of the server then: one that was fixed, and one of the line's own.
use Rattle.std.proofs.Common.{ℕ, ◌≡◌, Bool, true, false, not, ◌&&◌, ◌||◌, ◌==◌, if◌then◌else◌, IsTrue, is_some, Some, None, refl, sym, ap, ◌∙◌, subst}
use Rattle.std.proofs.lemmas.Bool.{false≢true, or_left, and_parts, not-true}
use Rattle.std.proofs.lemmas.Option.{same_Some, none-some}
use Rattle.frang_base.specs.declared.op.Op.{Op}
use Rattle.frang_base.specs.declared.op.Op.TheVariants as op
use Rattle.frang_base.specs.declared.reply.Reply.{Reply}
use Rattle.frang_base.specs.declared.reply.Reply.TheVariants as reply
use Rattle.tree_definitions.specs.Apply.{is_path_op}
use Rattle.tree_definitions.specs.History.{may_be_ok}
use Rattle.tree_definitions.specs.Touched.{is_mounted, is_ok, is_stall, is_unmount}
use Rattle.tree_definitions.specs.Transcript.{calls_death, is_already, is_expired, is_mount, is_own, is_up as is_told_up, may_answer, may_answer_by, may_owe}
use Rattle.core_definitions.specs.Lines.{Under}
use Rattle.core_definitions.specs.Logs.{is_read}
use Rattle.core_definitions.specs.Plans.{Outcome}
use Rattle.core_definitions.specs.Scripts.{host_party}
use Rattle.core_definitions.specs.Servers.{Phase, Off, Up, Still, Doomed, Dead, Server, due_if, is_answering, is_off, is_synced, is_up, mount_answer, own_answer}
use Rattle.core_definitions.specs.Cores.{Core, clean_at}
use Rattle.core_definitions.specs.LineGuards.{is_server}
use Rattle.core_definitions.specs.LineEffects.{answered_fixed, answered_open, committed_by}
use Rattle.core_transcripts.proofs.Fits.{Fits, LineFits, OwingFits, PhaseFits, Told, Waits, key_of}
use Rattle.core_transcripts.proofs.Fitting.{key_works}
use Rattle.core_transcripts.proofs.Replies.{Later, already_is, dead_told, given_io, given_mounted, given_up, last_none, middle_none, mounted_after, off_told, owed_after, plain_is, stalled_after, stays_after, three_none, unmounted_after, phase_is}
use Rattle.core_transcripts.proofs.Turns.{up_calm}
use Rattle.core_transcripts.proofs.Walking.{IsPlain}

-- ---- replies of a server's own

pub own_plain : (o : Op) (r : Reply) → IsTrue (is_path_op o) → IsPlain r → IsTrue (is_own o r)
own_plain o reply.Down h p = absurd p
own_plain o reply.Expired h p = absurd p
own_plain o reply.Io h p = absurd p
own_plain o reply.Already h p = absurd p
own_plain o reply.Mounted h p = absurd p
own_plain op.Crash r h p = absurd (false≢true h)
own_plain o r h p = or_left (is_path_op o) (may_be_ok o && is_ok r) h

-- an operation over paths is none of the others
pub record IsOverPaths (o : Op) : Type 0 where
  pub stall : is_stall o ≡ false
  pub unmount : is_unmount o ≡ false
  pub mount : is_mount o ≡ false

pub over_paths : (o : Op) → IsTrue (is_path_op o) → IsOverPaths o
over_paths op.Sync h = absurd (false≢true h)
over_paths op.Mount h = absurd (false≢true h)
over_paths op.Unmount h = absurd (false≢true h)
over_paths op.Crash h = absurd (false≢true h)
over_paths (op.CrashAt k) h = absurd (false≢true h)
over_paths (op.CutAt k) h = absurd (false≢true h)
over_paths op.Stall h = absurd (false≢true h)
over_paths o h = record { stall = refl; unmount = refl; mount = refl }

-- ---- phases

off_is : (p : Phase) → IsTrue (is_off p) → p ≡ Off
off_is Off h = refl
off_is Up h = absurd (false≢true h)
off_is Still h = absurd (false≢true h)
off_is (Doomed f) h = absurd (false≢true h)
off_is Dead h = absurd (false≢true h)

arms_more : (armed dies calls : Bool) → IsTrue (not armed || dies) → IsTrue (not armed || (dies || calls))
arms_more true true calls h = refl
arms_more true false calls h = absurd (false≢true h)
arms_more false dies calls h = refl

arms_called : (dies : Bool) → IsTrue (false || (dies || (true && true)))
arms_called true = refl
arms_called false = refl

-- ---- a fixed answer

module _ (server : Server) (t u : Told) (o : Op) (r : Reply) (g : Bool) (l : Later t o r u) (none : IsTrue t.all → ⊥) (fits : Fits (key_of server) t) where
  owed_key : (b : Bool) → server.owes ≡ true → key_of (record (if b then record server { owes = false } else server) { under = None }) ≡ record (key_of server) { owes = if b then false else true; asked = None }
  owed_key true e = refl
  owed_key false e = ap (λ w. record (key_of server) { owes = w; asked = None }) e

  free_key : (b : Bool) → server.owes ≡ false → key_of (record (if b then record server { owes = false } else server) { under = None }) ≡ record (key_of server) { asked = None }
  free_key true e = ap (λ w. record (key_of server) { owes = w; asked = None }) (sym e)
  free_key false e = refl

  stays : (is_told_up t.state.phase && is_ok r && is_stall o) ≡ false → (is_told_up t.state.phase && is_ok r && is_unmount o) ≡ false → IsTrue (is_answering server.phase) → server.owes ≡ false →
      is_mounted r ≡ false → is_expired r ≡ false → Fits (key_of (record (answered_fixed server o r) { under = None })) u
  stays s n answers free m x =
      subst (λ k. Fits k u) (sym (free_key (is_unmount o && is_ok r) free))
      (stays_after (key_of server) t u o r (is_some server.arming) l answers free m x s n (arms_more (is_some server.arming) t.state.may_die (calls_death o && is_ok r) fits.armed) fits)

  pays : IsTrue (is_answering server.phase) → server.owes ≡ true → IsTrue (may_owe o r) → is_told_up t.state.phase ≡ false → Fits (key_of (record (answered_fixed server o r) { under = None })) u
  pays answers owes h low = subst (λ k. Fits k u) (sym (owed_key (is_unmount o && is_ok r) owes)) (owed_after (key_of server) t u o r l answers owes h low fits)

  by_low : (p : Phase) (owes : Bool) → server.phase ≡ p → server.owes ≡ owes → is_told_up t.state.phase ≡ false → IsTrue (is_answering server.phase) → is_up p ≡ false →
      LineFits p owes t.state t.faulted o (Some r) g → Fits (key_of (record (answered_fixed server o r) { under = None })) u
  by_low Off true e f low answers n h = pays answers f h low
  by_low Off false e f low answers n h =
      stays (three_none (is_told_up t.state.phase) (is_ok r) (is_stall o) low) (three_none (is_told_up t.state.phase) (is_ok r) (is_unmount o) low) answers f
      (not-true (is_mounted r) (and_parts (not (is_expired r)) (not (is_mounted r)) (and_parts (may_answer_by t.state.phase t.state.just_died t.faulted o r) (not (is_expired r) && not (is_mounted r)) h).1).1)
      (not-true (is_expired r) (and_parts (not (is_expired r)) (not (is_mounted r)) (and_parts (may_answer_by t.state.phase t.state.just_died t.faulted o r) (not (is_expired r) && not (is_mounted r)) h).1).0)
  by_low Dead true e f low answers n h = pays answers f h low
  by_low Dead false e f low answers n h =
      stays (three_none (is_told_up t.state.phase) (is_ok r) (is_stall o) low) (three_none (is_told_up t.state.phase) (is_ok r) (is_unmount o) low) answers f
      (not-true (is_mounted r) (and_parts (not (is_expired r)) (not (is_mounted r)) (and_parts (may_answer_by t.state.phase t.state.just_died t.faulted o r) (not (is_expired r) && not (is_mounted r)) h).1).1)
      (not-true (is_expired r) (and_parts (not (is_expired r)) (not (is_mounted r)) (and_parts (may_answer_by t.state.phase t.state.just_died t.faulted o r) (not (is_expired r) && not (is_mounted r)) h).1).0)
  by_low Up owes e f low answers n h = absurd (false≢true (sym n))
  by_low Still owes e f low answers n h = absurd h
  by_low (Doomed fate) owes e f low answers n h = absurd (false≢true (sym (ap is_answering e) ∙ answers))

  by_phase : (p : Phase) → server.phase ≡ p → IsTrue (is_answering server.phase) → LineFits p server.owes t.state t.faulted o (Some r) g → Fits (key_of (record (answered_fixed server o r) { under = None })) u
  by_phase Off e answers h =
      by_low Off server.owes e refl (ap is_told_up (off_told t.state.phase t.all t.faulted (subst (λ p. PhaseFits p t.state.phase t.all t.faulted) e fits.phase) none)) answers refl h
  by_phase Dead e answers h =
      by_low Dead server.owes e refl (ap is_told_up (dead_told t.state.phase t.all t.faulted (subst (λ p. PhaseFits p t.state.phase t.all t.faulted) e fits.phase))) answers refl h
  by_phase Up e answers h =
      let a : (is_mounted r ≡ false) × (is_expired r ≡ false) × (is_ok r ≡ false) = already_is r (and_parts (is_mount o) (is_already r) h).1 in
      stays (middle_none (is_told_up t.state.phase) (is_ok r) (is_stall o) a.2) (middle_none (is_told_up t.state.phase) (is_ok r) (is_unmount o) a.2) answers
      (up_calm server.phase server.owes (ap is_up e) fits.calm) a.0 a.1
  by_phase Still e answers h = absurd h
  by_phase (Doomed fate) e answers h = absurd (false≢true (sym (ap is_answering e) ∙ answers))

  pub fixed_fits : IsTrue (is_answering server.phase) → LineFits server.phase server.owes t.state t.faulted o (Some r) g → Fits (key_of (record (answered_fixed server o r) { under = None })) u
  fixed_fits answers h = by_phase server.phase refl answers h

-- ---- an answer of the line's own

pub record IsOwned (c : Core) (a : ℕ) (under : Under) (server : Server) (t u : Told) (o : Op) (r : Reply) : Type 0 where
  pub fits : Fits (key_of (record (answered_open c under server o r) { under = None })) u
  pub given : IsTrue (may_answer t.state t.faulted o r)
  pub saves : (d : ℕ) → IsTrue (key_works a (key_of (record (answered_open c under server o r) { under = None }))) →
      (key_of (record (answered_open c under server o r) { under = None })).saves ≡ Some d → IsTrue (key_works a (key_of server)) × ((key_of server).saves ≡ Some d)

pub due_is : (b : Bool) (x r : Reply) → due_if b x ≡ Some r → IsTrue b × (x ≡ r)
due_is true x r e = (refl, same_Some x r e)
due_is false x r e = absurd (cc)

module _ (c : Core) (a : ℕ) (under : Under) (server : Server) (t u : Told) (is : IsTrue (is_server a)) (away : (a == host_party) ≡ false) (none : IsTrue t.all → ⊥) (g : Fits (key_of server) t)
    (answers : IsTrue (is_answering server.phase)) where
  module _ (up : IsTrue (is_up server.phase)) where
    free : server.owes ≡ false
    free = up_calm server.phase server.owes up g.calm

    phase_up : PhaseFits Up t.state.phase t.all t.faulted
    phase_up = subst (λ p. PhaseFits p t.state.phase t.all t.faulted) (phase_is server.phase up) g.phase

    owing_free : OwingFits false t.state.debt
    owing_free = subst (λ w. OwingFits w t.state.debt) free g.owing

    synced : Later t op.Sync reply.Ok u → IsOwned c a under server t u op.Sync reply.Ok
    synced l = record {
      fits =
          stays_after (key_of server) t u op.Sync reply.Ok (is_some server.arming) l answers free refl refl (last_none (is_told_up t.state.phase) true false refl)
          (last_none (is_told_up t.state.phase) true false refl) (arms_more (is_some server.arming) t.state.may_die (false && true) g.armed) g;
      given = given_up t.state t.all t.faulted op.Sync reply.Ok phase_up owing_free refl refl;
      saves = λ d w e. (w, e);
    }

    called : (k : ℕ) → Later t (op.CrashAt k) reply.Ok u → IsOwned c a under server t u (op.CrashAt k) reply.Ok
    called k l = record {
      fits =
          stays_after (key_of server) t u (op.CrashAt k) reply.Ok true l answers free refl refl (last_none (is_told_up t.state.phase) true false refl)
          (last_none (is_told_up t.state.phase) true false refl) (arms_called t.state.may_die) g;
      given = given_up t.state t.all t.faulted (op.CrashAt k) reply.Ok phase_up owing_free refl refl;
      saves = λ d w e. (w, e);
    }

    cut : (k : ℕ) → Later t (op.CutAt k) reply.Ok u → IsOwned c a under server t u (op.CutAt k) reply.Ok
    cut k l = record {
      fits =
          stays_after (key_of server) t u (op.CutAt k) reply.Ok true l answers free refl refl (last_none (is_told_up t.state.phase) true false refl)
          (last_none (is_told_up t.state.phase) true false refl) (arms_called t.state.may_die) g;
      given = given_up t.state t.all t.faulted (op.CutAt k) reply.Ok phase_up owing_free refl refl;
      saves = λ d w e. (w, e);
    }

    unmounted : Later t op.Unmount reply.Ok u → IsOwned c a under server t u op.Unmount reply.Ok
    unmounted l = record {
      fits = unmounted_after (key_of server) t u l up free g;
      given = given_up t.state t.all t.faulted op.Unmount reply.Ok phase_up owing_free refl refl;
      saves = λ d w e. absurd (none-some d e);
    }

    stalled : Later t op.Stall reply.Ok u → IsOwned c a under server t u op.Stall reply.Ok
    stalled l = record {
      fits = stalled_after (key_of server) t u l up free g;
      given = given_up t.state t.all t.faulted op.Stall reply.Ok phase_up owing_free refl refl;
      saves = λ d w e. absurd (works_not (is_server a) (a == host_party) away w);
    }
      where
        works_not : (s h : Bool) → h ≡ false → IsTrue ((s && false) || h) → ⊥
        works_not true true e w = false≢true (sym e)
        works_not true false e w = false≢true w
        works_not false true e w = false≢true (sym e)
        works_not false false e w = false≢true w

  mounts : LineFits server.phase server.owes t.state t.faulted op.Mount None under.get_failed → (r : Reply) → Later t op.Mount r u → own_answer c.setting.logs c.flights a server under op.Mount ≡ Some r →
      IsOwned c a under server t u op.Mount r
  mounts h r l e = go (is_off server.phase) refl e
    where
      with_io : Waits server.owes t.faulted op.Mount under.get_failed → PhaseFits Off t.state.phase t.all t.faulted → IsTrue under.get_failed → Later t op.Mount reply.Io u → IsOwned c a under server t u op.Mount reply.Io
      with_io w fits got l = record {
        fits =
            stays_after (key_of server) t u op.Mount reply.Io (is_some server.arming) l answers w.free refl refl (last_none (is_told_up t.state.phase) false false refl)
            (last_none (is_told_up t.state.phase) false false refl) (arms_more (is_some server.arming) t.state.may_die (false && false) g.armed) g;
        given = given_io t.state t.all t.faulted fits none (subst (λ w. OwingFits w t.state.debt) w.free g.owing) (subst (λ b. IsTrue (not b || t.faulted)) got w.got);
        saves = λ d w e. (w, e);
      }

      with_mount : Waits server.owes t.faulted op.Mount under.get_failed → PhaseFits Off t.state.phase t.all t.faulted → Later t op.Mount reply.Mounted u → IsOwned c a under server t u op.Mount reply.Mounted
      with_mount w fits l = record {
        fits = mounted_after (key_of server) t u l w.free g;
        given = given_mounted t.state t.all t.faulted fits none (subst (λ w. OwingFits w t.state.debt) w.free g.owing);
        saves = λ d w e. absurd (none-some d e);
      }

      by_get : (b : Bool) → under.get_failed ≡ b → Waits server.owes t.faulted op.Mount under.get_failed → PhaseFits Off t.state.phase t.all t.faulted →
          (if b then Some reply.Io else due_if (is_read c.setting.logs under.slots) reply.Mounted) ≡ Some r → IsOwned c a under server t u op.Mount r
      by_get true f w fits e =
          subst (λ r. Later t op.Mount r u → IsOwned c a under server t u op.Mount r) (same_Some reply.Io r e) (λ l. with_io w fits f l) l
      by_get false f w fits e =
          subst (λ r. Later t op.Mount r u → IsOwned c a under server t u op.Mount r) (due_is (is_read c.setting.logs under.slots) reply.Mounted r e).1 (λ l. with_mount w fits l) l

      go : (b : Bool) → is_off server.phase ≡ b → (if b then mount_answer c.setting.logs under else None) ≡ Some r → IsOwned c a under server t u op.Mount r
      go false o e = absurd (cc)
      go true o e =
          let p : server.phase ≡ Off = off_is server.phase o in
          by_get under.get_failed refl (subst (λ p. LineFits p server.owes t.state t.faulted op.Mount None under.get_failed) p h) (subst (λ p. PhaseFits p t.state.phase t.all t.faulted) p g.phase) e

  pub own_fits : (o : Op) (r : Reply) → LineFits server.phase server.owes t.state t.faulted o None under.get_failed → Later t o r u → own_answer c.setting.logs c.flights a server under o ≡ Some r →
      IsOwned c a under server t u o r
  own_fits op.Mount r h l e = mounts h r l e
  own_fits op.Sync r h l e =
      let d : IsTrue (is_up server.phase && is_synced server) × (reply.Ok ≡ r) = due_is (is_up server.phase && is_synced server) reply.Ok r e in
      subst (λ r. Later t op.Sync r u → IsOwned c a under server t u op.Sync r) d.1 (λ l. synced (and_parts (is_up server.phase) (is_synced server) d.0).0 l) l
  own_fits op.Unmount r h l e =
      let d : IsTrue (is_up server.phase && clean_at (record c { servers = λ i. server }) a) × (reply.Ok ≡ r) = due_is (is_up server.phase && clean_at (record c { servers = λ i. server }) a) reply.Ok r e in
      subst (λ r. Later t op.Unmount r u → IsOwned c a under server t u op.Unmount r) d.1 (λ l. unmounted (and_parts (is_up server.phase) (clean_at (record c { servers = λ i. server }) a) d.0).0 l) l
  own_fits (op.CrashAt k) r h l e =
      let d : IsTrue (is_up server.phase) × (reply.Ok ≡ r) = due_is (is_up server.phase) reply.Ok r e in
      subst (λ r. Later t (op.CrashAt k) r u → IsOwned c a under server t u (op.CrashAt k) r) d.1 (λ l. called d.0 k l) l
  own_fits (op.CutAt k) r h l e =
      let d : IsTrue (is_up server.phase) × (reply.Ok ≡ r) = due_is (is_up server.phase) reply.Ok r e in
      subst (λ r. Later t (op.CutAt k) r u → IsOwned c a under server t u (op.CutAt k) r) d.1 (λ l. cut d.0 k l) l
  own_fits op.Stall r h l e =
      let d : IsTrue (is_up server.phase) × (reply.Ok ≡ r) = due_is (is_up server.phase) reply.Ok r e in
      subst (λ r. Later t op.Stall r u → IsOwned c a under server t u op.Stall r) d.1 (λ l. stalled d.0 l) l
  own_fits o r h l e = absurd (cc)

  -- of a line over paths
  pub committed_fits : (o : Op) (outcome : Outcome) → IsTrue (is_up server.phase) → IsTrue (is_path_op o) → IsPlain outcome.reply → Later t o outcome.reply u →
      Fits (key_of (committed_by outcome server)) u × IsTrue (may_answer t.state t.faulted o outcome.reply)
  committed_fits o outcome up path plain l =
      let p : IsOverPaths o = over_paths o path in
      let r : (is_mounted outcome.reply ≡ false) × (is_expired outcome.reply ≡ false) = plain_is outcome.reply plain in (
        stays_after (key_of server) t u o outcome.reply (is_some server.arming) l answers (free up) r.0 r.1 (last_none (is_told_up t.state.phase) (is_ok outcome.reply) (is_stall o) p.stall)
            (last_none (is_told_up t.state.phase) (is_ok outcome.reply) (is_unmount o) p.unmount) (arms_more (is_some server.arming) t.state.may_die (calls_death o && is_ok outcome.reply) g.armed) g,
        given_up t.state t.all t.faulted o outcome.reply (phase_up up) (owing_free up) p.mount (own_plain o outcome.reply path plain),
      )
