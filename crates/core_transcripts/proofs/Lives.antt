-- What counts of a server at its death, and once it goes on: the tables.
use Rattle.std.proofs.Common.{ℕ, ◌≡◌, Bool, true, false, not, ◌&&◌, ◌||◌, if◌then◌else◌, IsTrue, is_some, Option, Some, None, refl, sym, ap, ◌∙◌, subst}
use Rattle.std.proofs.lemmas.Bool.{false≢true, and_from, and_parts}
use Rattle.std.specs.Option.{option_map}
use Rattle.frang_base.specs.declared.op.Op.{Op}
use Rattle.frang_base.specs.declared.reply.Reply.{Reply}
use Rattle.frang_base.specs.declared.reply.Reply.TheVariants as reply
use Rattle.frang_base.proofs.Tests.{or_more}
use Rattle.tree_definitions.specs.Touched.{is_mounted, is_ok}
use Rattle.tree_definitions.specs.Transcript.{ServerState, Phase as ToldPhase, after_death, after_renewal, debt_of_death, is_already, is_crash, is_expired, is_in_mount as is_told_in_mount, is_io, is_mount, may_answer_by, may_mount, may_refuse}
use Rattle.tree_definitions.specs.Transcript.Phase.{Off as ToldOff, Up as ToldUp, Stalled, Dead as ToldDead}
use Rattle.tree_definitions.specs.Transcript.Debt.{Free, Owes, MayOwe}
use Rattle.core_definitions.specs.Settings.{Setting}
use Rattle.core_definitions.specs.Lines.{Under, operation_of}
use Rattle.core_definitions.specs.Servers.{Fate, Phase, Off, Up, Still, Doomed, Dead, Server, answer_at_death, is_in_mount, is_still}
use Rattle.core_definitions.specs.WriteEffects.{died_with, fixed_for, under_at_death, up_again}
use Rattle.core_definitions.specs.EndEffects.{recovered}
use Rattle.core_transcripts.proofs.Blank.{is_changing}
use Rattle.core_transcripts.proofs.Fits.{Asked, AskFits, DoomFits, FixedFits, Fits, IsAwake, IsUnder, Key, LineFits, OwingFits, PhaseFits, Told, UnderFits, asked_of, key_of, mount_more, refuse_more}
use Rattle.core_transcripts.proofs.Replies.{already_is, dead_told}

more : (a b c : Bool) → IsTrue ((false || b) || c) → IsTrue ((a || b) || c)
more true b c h = refl
more false b c h = h

-- ---- a death

pub doomed_in_mount : (fate : Fate) (q : ToldPhase) (all e : Bool) → PhaseFits (Doomed fate) q all e → IsTrue (is_told_in_mount q)
doomed_in_mount fate ToldUp all e h = refl
doomed_in_mount fate Stalled all e h = refl
doomed_in_mount fate ToldOff all e h = absurd h
doomed_in_mount fate ToldDead all e h = absurd h

debt_fits : (owes e : Bool) → IsTrue (owes || e) → OwingFits owes (if e then MayOwe else Owes)
debt_fits true true h = tt
debt_fits true false h = tt
debt_fits false true h = tt
debt_fits false false h = absurd (false≢true h)

death_owes : (fate : Fate) (q : ToldPhase) (all e : Bool) → PhaseFits (Doomed fate) q all e → OwingFits fate.owes (debt_of_death q e)
death_owes fate ToldUp all e h = subst (λ w. OwingFits w Free) (sym h) tt
death_owes fate Stalled all e h = debt_fits fate.owes e h
death_owes fate ToldOff all e h = absurd h
death_owes fate ToldDead all e h = absurd h

awake_free : (fate : Fate) (q : ToldPhase) (all e : Bool) → PhaseFits (Doomed fate) q all e → IsAwake q → fate.owes ≡ false
awake_free fate ToldUp all e h w = h
awake_free fate Stalled all e h w = absurd w
awake_free fate ToldOff all e h w = absurd h
awake_free fate ToldDead all e h w = absurd h

-- an answer that was fixed as the line began
already_dead : (e : Bool) (o : Op) (r : Reply) → IsTrue (is_mount o && is_already r) → IsTrue (may_answer_by ToldDead true e o r && (not (is_expired r) && not (is_mounted r)))
already_dead e o r h = go (is_mount o) (is_already r) (is_expired r) (is_mounted r) h (already_is r (and_parts (is_mount o) (is_already r) h).1)
  where
    go : (m a x w : Bool) → IsTrue (m && a) → (w ≡ false) × (x ≡ false) × (is_ok r ≡ false) →
        IsTrue ((if m then (((false && w) || ((false || true) && a)) || (e && is_io r)) else may_refuse true e o r) && (not x && not w))
    go true true false false h p = refl
    go true true true w h p = absurd (false≢true (sym p.1))
    go true true false true h p = absurd (false≢true (sym p.0))
    go true false x w h p = absurd (false≢true h)
    go false a x w h p = absurd (false≢true h)

-- one that is fixed at the death
death_refuses : (e failed c : Bool) (o : Op) → is_crash o ≡ c → IsTrue (not failed || e) →
    IsTrue (may_refuse true e o (if c then reply.Ok else (if failed then reply.Io else reply.Down)) && (not (is_expired (if c then reply.Ok else (if failed then reply.Io else reply.Down))) && not (is_mounted (if c then reply.Ok else (if failed then reply.Io else reply.Down)))))
death_refuses e failed true o is h = subst (λ b. IsTrue ((false || (true && ((b && true) || (e && false)))) && (true && true))) (sym is) refl
death_refuses true true false o is h = go (is_crash o)
  where
    go : (b : Bool) → IsTrue ((false || (true && ((b && false) || (true && true)))) && (true && true))
    go true = refl
    go false = refl
death_refuses false true false o is h = absurd (false≢true h)
death_refuses e false false o is h = refl

death_given : (e failed : Bool) (o : Op) → is_mount o ≡ false → IsTrue (not failed || e) →
    IsTrue (may_answer_by ToldDead true e o (answer_at_death failed o) && (not (is_expired (answer_at_death failed o)) && not (is_mounted (answer_at_death failed o))))
death_given e failed o n h =
    subst (λ m. IsTrue ((if m then may_mount ToldDead true e (answer_at_death failed o) else may_refuse true e o (answer_at_death failed o)) && (not (is_expired (answer_at_death failed o)) && not (is_mounted (answer_at_death failed o)))))
    (sym n) (death_refuses e failed (is_crash o) o refl h)

dead_line : (fate : Fate) (owes : Bool) (t u : ServerState) (e e' failed g : Bool) (o : Op) (fixed : Option Reply) → fate.owes ≡ false → u.phase ≡ ToldDead → u.just_died ≡ true → IsTrue (not failed || e') →
    LineFits (Doomed fate) owes t e o fixed g → LineFits Dead fate.owes u e' o (if is_some fixed then fixed else fixed_for failed (Some o)) g
dead_line fate owes t u e e' failed g o (Some r) free p j f h =
    subst (λ w. FixedFits w u e' o r) (sym free)
    (subst (λ q. IsTrue (may_answer_by q u.just_died e' o r && (not (is_expired r) && not (is_mounted r)))) (sym p)
    (subst (λ x. IsTrue (may_answer_by ToldDead x e' o r && (not (is_expired r) && not (is_mounted r)))) (sym j) (already_dead e' o r h)))
dead_line fate owes t u e e' failed g o None free p j f h =
    subst (λ w. FixedFits w u e' o (answer_at_death failed o)) (sym free)
    (subst (λ q. IsTrue (may_answer_by q u.just_died e' o (answer_at_death failed o) && (not (is_expired (answer_at_death failed o)) && not (is_mounted (answer_at_death failed o))))) (sym p)
    (subst (λ x. IsTrue (may_answer_by ToldDead x e' o (answer_at_death failed o) && (not (is_expired (answer_at_death failed o)) && not (is_mounted (answer_at_death failed o))))) (sym j)
    (death_given e' failed o h f)))

dead_ask : (fate : Fate) (owes : Bool) (t u : ServerState) (e e' failed g : Bool) (o : Option Op) (fixed : Option Reply) → fate.owes ≡ false → u.phase ≡ ToldDead → u.just_died ≡ true →
    IsTrue (not failed || e') → AskFits (Doomed fate) owes t e o fixed g → AskFits Dead fate.owes u e' o (if is_some fixed then fixed else fixed_for failed o) g
dead_ask fate owes t u e e' failed g None fixed free p j f h = absurd h
dead_ask fate owes t u e e' failed g (Some o) fixed free p j f h = dead_line fate owes t u e e' failed g o fixed free p j f h

-- the line under way, with its answer fixed
kept_line : (b failed : Bool) (v : Under) → asked_of (if b then v else record v { fixed = fixed_for failed (operation_of v.line.what) })
    ≡ record { line = v.line; fixed = if b then v.fixed else fixed_for failed (operation_of v.line.what); get_failed = v.get_failed }
kept_line true failed v = refl
kept_line false failed v = refl

module _ (server : Server) (fate : Fate) (t u : Told) (is : server.phase ≡ Doomed fate) (state : u.state ≡ after_death t.state t.faulted) (faulted : IsTrue t.faulted → IsTrue u.faulted) (next : u.next ≡ t.next)
    (hosts : (n : ℕ) → IsTrue (t.hosts n) → IsTrue (u.hosts n)) (g : Fits (key_of server) t) where
  doomed : PhaseFits (Doomed fate) t.state.phase t.all t.faulted
  doomed = subst (λ p. PhaseFits p t.state.phase t.all t.faulted) is g.phase

  failed_then : IsTrue (not server.failed || u.faulted)
  failed_then = or_more (not server.failed) t.faulted u.faulted faulted g.failed

  under_then : (o : Option Under) → UnderFits server.phase server.owes t (option_map asked_of o) → UnderFits Dead fate.owes u (option_map asked_of (option_map (under_at_death server.failed) o))
  under_then None h = tt
  under_then (Some v) h =
      subst (λ a. IsUnder Dead fate.owes u a) (sym (kept_line (is_some v.fixed) server.failed v))
      (record {
        next = next ∙ h.next;
        hosts = hosts v.line.number h.hosts;
        awake = subst (λ s. IsAwake s.phase) (sym state) tt;
        line =
            dead_ask fate server.owes t.state u.state t.faulted u.faulted server.failed v.get_failed (operation_of v.line.what) v.fixed (awake_free fate t.state.phase t.all t.faulted doomed h.awake)
            (ap (λ s. s.phase) state) (ap (λ s. s.just_died) state) failed_then
            (subst (λ p. AskFits p server.owes t.state t.faulted (operation_of v.line.what) v.fixed v.get_failed) is h.line);
      })

  pub died_fits : Fits (key_of (died_with fate server)) u
  died_fits = record {
    phase = subst (λ s. PhaseFits Dead s.phase u.all u.faulted) (sym state) tt;
    owing = subst (λ s. OwingFits fate.owes s.debt) (sym state) (death_owes fate t.state.phase t.all t.faulted doomed);
    calm = refl;
    armed = refl;
    failed = failed_then;
    doomed = tt;
    under = under_then server.under g.under;
  }

-- ---- a stalled server goes on

still_is : (p : Phase) → IsTrue (is_still p) → p ≡ Still
still_is Still h = refl
still_is Off h = absurd (false≢true h)
still_is Up h = absurd (false≢true h)
still_is (Doomed f) h = absurd (false≢true h)
still_is Dead h = absurd (false≢true h)

pub still_told : (q : ToldPhase) (all e : Bool) → PhaseFits Still q all e → q ≡ Stalled
still_told Stalled all e h = refl
still_told ToldOff all e h = absurd h
still_told ToldUp all e h = absurd h
still_told ToldDead all e h = absurd h

pub phase_told : (server : Server) (t : Told) → IsTrue (is_still server.phase) → Fits (key_of server) t → t.state.phase ≡ Stalled
phase_told server t h g = still_told t.state.phase t.all t.faulted (subst (λ p. PhaseFits p t.state.phase t.all t.faulted) (still_is server.phase h) g.phase)

still_free : (p : Phase) (owes : Bool) → p ≡ Still → IsTrue (not (is_in_mount p && owes)) → owes ≡ false
still_free p true e c = absurd (false≢true (subst (λ p. IsTrue (not (is_in_mount p && true))) e c))
still_free p false e c = refl

pub resumed_fits : (setting : Setting) (server : Server) (now : ℕ) (t u : Told) → IsTrue (is_still server.phase) → u.state ≡ after_renewal t.state → (IsTrue t.faulted → IsTrue u.faulted) → Fits (key_of server) t →
    Fits (key_of (up_again setting now server)) u
resumed_fits setting server now t u still state faulted g = record {
  phase = subst (λ s. PhaseFits Up s.phase u.all u.faulted) (sym state) tt;
  owing = subst (λ s. OwingFits false s.debt) (sym state) (subst (λ w. OwingFits w t.state.debt) (still_free server.phase server.owes (still_is server.phase still) g.calm) g.owing);
  calm = refl;
  armed = subst (λ s. IsTrue (not (is_some server.arming) || s.may_die)) (sym state) g.armed;
  failed = or_more (not server.failed) t.faulted u.faulted faulted g.failed;
  doomed = tt;
  under = none server.under g.under;
}
  where
    none : (o : Option Under) → UnderFits server.phase server.owes t (option_map asked_of o) → UnderFits Up false u (option_map asked_of o)
    none None h = tt
    none (Some v) h = absurd (subst IsAwake (phase_told server t still g) h.awake)

-- ---- a dead server is recovered

off_line : (owes : Bool) (t u : ServerState) (e e' g : Bool) (o : Op) (fixed : Option Reply) → t.phase ≡ ToldDead → u.phase ≡ ToldOff → u.just_died ≡ t.just_died → (IsTrue e → IsTrue e') → LineFits Dead owes t e o fixed g →
    LineFits Off owes u e' o fixed g
off_line owes t u e e' g o None p q j m h = record { mount = h.mount; free = h.free; got = or_more (not g) e e' m h.got }
off_line true t u e e' g o (Some r) p q j m h = h
off_line false t u e e' g o (Some r) p q j m h =
    subst (λ k. IsTrue (may_answer_by k u.just_died e' o r && (not (is_expired r) && not (is_mounted r)))) (sym q)
    (subst (λ x. IsTrue (may_answer_by ToldOff x e' o r && (not (is_expired r) && not (is_mounted r)))) (sym j)
    (wider t.just_died (is_mount o) (not (is_expired r) && not (is_mounted r)) (subst (λ k. IsTrue (may_answer_by k t.just_died e o r && (not (is_expired r) && not (is_mounted r)))) p h)))
  where
    wider : (j b rest : Bool) → IsTrue ((if b then may_mount ToldDead j e r else may_refuse j e o r) && rest) → IsTrue ((if b then may_mount ToldOff j e' r else may_refuse j e' o r) && rest)
    wider j true rest h =
        and_from (may_mount ToldOff j e' r) rest (mount_more ToldOff j e e' r m (more (is_mounted r) (j && is_already r) (e && is_io r) (and_parts (may_mount ToldDead j e r) rest h).0))
        (and_parts (may_mount ToldDead j e r) rest h).1
    wider j false rest h = and_from (may_refuse j e' o r) rest (refuse_more j e e' o r m (and_parts (may_refuse j e o r) rest h).0) (and_parts (may_refuse j e o r) rest h).1

off_ask : (owes : Bool) (t u : ServerState) (e e' g : Bool) (o : Option Op) (fixed : Option Reply) → t.phase ≡ ToldDead → u.phase ≡ ToldOff → u.just_died ≡ t.just_died → (IsTrue e → IsTrue e') →
    AskFits Dead owes t e o fixed g → AskFits Off owes u e' o fixed g
off_ask owes t u e e' g None fixed p q j m h = absurd h
off_ask owes t u e e' g (Some o) fixed p q j m h = off_line owes t u e e' g o fixed p q j m h

pub recovered_fits : (server : Server) (t u : Told) → server.phase ≡ Dead → u.state ≡ record t.state { phase = ToldOff } → (IsTrue t.faulted → IsTrue u.faulted) → u.next ≡ t.next →
    ((n : ℕ) → IsTrue (t.hosts n) → IsTrue (u.hosts n)) → Fits (key_of server) t → Fits (key_of (recovered server)) u
recovered_fits server t u is state faulted next hosts g = record {
  phase = subst (λ s. PhaseFits Off s.phase u.all u.faulted) (sym state) tt;
  owing = subst (λ s. OwingFits server.owes s.debt) (sym state) g.owing;
  calm = refl;
  armed = subst (λ s. IsTrue (not (is_some server.arming) || s.may_die)) (sym state) g.armed;
  failed = or_more (not server.failed) t.faulted u.faulted faulted g.failed;
  doomed = tt;
  under = line server.under g.under;
}
  where
    dead : t.state.phase ≡ ToldDead
    dead = dead_told t.state.phase t.all t.faulted (subst (λ p. PhaseFits p t.state.phase t.all t.faulted) is g.phase)

    line : (o : Option Under) → UnderFits server.phase server.owes t (option_map asked_of o) → UnderFits Off server.owes u (option_map asked_of o)
    line None h = tt
    line (Some v) h = record {
      next = next ∙ h.next;
      hosts = hosts v.line.number h.hosts;
      awake = subst (λ s. IsAwake s.phase) (sym state) tt;
      line =
          off_ask server.owes t.state u.state t.faulted u.faulted v.get_failed (operation_of v.line.what) v.fixed dead (ap (λ s. s.phase) state) (ap (λ s. s.just_died) state) faulted
          (subst (λ p. AskFits p server.owes t.state t.faulted (operation_of v.line.what) v.fixed v.get_failed) is h.line);
    }

-- ---- a recovery of it begins: nothing else of it is told by that

abbrev pub recovering_state : ServerState → ServerState
recovering_state t = record t { under_recovery = true }

fixed_same : (owes : Bool) (t : ServerState) (e : Bool) (o : Op) (r : Reply) → FixedFits owes t e o r → FixedFits owes (recovering_state t) e o r
fixed_same true t e o r h = h
fixed_same false t e o r h = h

line_same : (p : Phase) (owes : Bool) (t : ServerState) (e : Bool) (o : Op) (fixed : Option Reply) (g : Bool) → LineFits p owes t e o fixed g → LineFits p owes (recovering_state t) e o fixed g
line_same Off owes t e o (Some r) g h = fixed_same owes t e o r h
line_same Dead owes t e o (Some r) g h = fixed_same owes t e o r h
line_same Up owes t e o (Some r) g h = h
line_same Still owes t e o (Some r) g h = h
line_same (Doomed fate) owes t e o (Some r) g h = h
line_same Off owes t e o None g h = h
line_same Dead owes t e o None g h = h
line_same Up owes t e o None g h = h
line_same Still owes t e o None g h = h
line_same (Doomed fate) owes t e o None g h = h

ask_same : (p : Phase) (owes : Bool) (t : ServerState) (e : Bool) (o : Option Op) (fixed : Option Reply) (g : Bool) → AskFits p owes t e o fixed g → AskFits p owes (recovering_state t) e o fixed g
ask_same p owes t e None fixed g h = h
ask_same p owes t e (Some o) fixed g h = line_same p owes t e o fixed g h

doom_same : (p : Phase) (t : Told) → DoomFits p t → DoomFits p (record t { state = recovering_state t.state })
doom_same Off t h = tt
doom_same Up t h = tt
doom_same Still t h = tt
doom_same (Doomed fate) t h = h
doom_same Dead t h = tt

under_same : (p : Phase) (owes : Bool) (t : Told) (asked : Option Asked) → UnderFits p owes t asked → UnderFits p owes (record t { state = recovering_state t.state }) asked
under_same p owes t None h = tt
under_same p owes t (Some a) h =
    record { next = h.next; hosts = h.hosts; awake = h.awake; line = ask_same p owes t.state t.faulted (operation_of a.line.what) a.fixed a.get_failed h.line }

pub recovering_fits : (k : Key) (t : Told) → Fits k t → Fits k (record t { state = recovering_state t.state })
recovering_fits k t g = record {
  phase = g.phase;
  owing = g.owing;
  calm = g.calm;
  armed = g.armed;
  failed = g.failed;
  doomed = doom_same k.phase t g.doomed;
  under = under_same k.phase k.owes t k.asked g.under;
}

-- a stalled server has no line under way
pub still_idle : (server : Server) (t : Told) → IsTrue (is_still server.phase) → Fits (key_of server) t → is_changing server.under ≡ false
still_idle server t still g = go server.under g.under
  where
    go : (o : Option Under) → UnderFits server.phase server.owes t (option_map asked_of o) → is_changing o ≡ false
    go None h = refl
    go (Some v) h = absurd (subst IsAwake (phase_told server t still g) h.awake)
