-- What counts of a server at events at which no line is said: a line begins, a call fails, a server is doomed or closed.
use Rattle.std.proofs.Common.{◌≡◌, Bool, true, false, not, ◌&&◌, ◌||◌, if◌then◌else◌, IsTrue, Option, Some, None, refl, sym, ap, subst}
use Rattle.std.proofs.lemmas.Bool.{false≢true, or_right}
use Rattle.std.specs.Option.{option_map}
use Rattle.frang_base.specs.declared.op.Op.{Op}
use Rattle.frang_base.specs.declared.reply.Reply.{Reply}
use Rattle.frang_base.specs.declared.reply.Reply.TheVariants as reply
use Rattle.frang_base.specs.declared.script.Line.{Line}
use Rattle.tree_definitions.specs.Touched.{is_ok, is_unmount}
use Rattle.tree_definitions.specs.Transcript.{Debt, ServerState, Phase as ToldPhase, is_called_for, is_expired, is_mount, may_answer_by, may_mount}
use Rattle.tree_definitions.specs.Transcript.Phase.{Off as ToldOff, Up as ToldUp, Stalled, Dead as ToldDead}
use Rattle.core_definitions.specs.Lines.{Under, operation_of}
use Rattle.core_definitions.specs.Servers.{Fate, Phase, Off, Up, Still, Doomed, Dead, Server, answer_at_first, is_answering, is_in_mount, is_still, is_up}
use Rattle.core_definitions.specs.LineEffects.{begun_with, failed_by, off_after, refused_under, with_under}
use Rattle.core_transcripts.proofs.Fits.{Asked, AskFits, Fits, IsAwake, LineFits, OwingFits, PhaseFits, Told, UnderFits, asked_of, key_of}

-- ---- a line begins

owed : (u : Bool) → IsTrue (if u then is_ok (if u then reply.Ok else reply.Expired) else is_expired (if u then reply.Ok else reply.Expired))
owed true = refl
owed false = refl

down_given : (q : ToldPhase) (all e j : Bool) (o : Op) → is_mount o ≡ false → PhaseFits Off q all e → (IsTrue all → ⊥) → IsTrue (may_answer_by q j e o reply.Down && (true && true))
down_given ToldOff all e j o n fits none = subst (λ m. IsTrue ((if m then may_mount ToldOff j e reply.Down else true) && (true && true))) (sym n) refl
down_given ToldUp all e j o n fits none = absurd (none fits)
down_given Stalled all e j o n fits none = absurd fits
down_given ToldDead all e j o n fits none = absurd fits

down_dead : (q : ToldPhase) (all e j : Bool) (o : Op) → is_mount o ≡ false → PhaseFits Dead q all e → IsTrue (may_answer_by q j e o reply.Down && (true && true))
down_dead ToldDead all e j o n fits = subst (λ m. IsTrue ((if m then may_mount ToldDead j e reply.Down else true) && (true && true))) (sym n) refl
down_dead ToldOff all e j o n fits = absurd fits
down_dead ToldUp all e j o n fits = absurd fits
down_dead Stalled all e j o n fits = absurd fits

-- the answer that is fixed as it begins
abbrev at_first : Phase → Bool → Op → Option Reply
at_first p owes o =
    if owes then Some (if is_unmount o then reply.Ok else reply.Expired)
    else (if is_mount o then (if is_up p then Some reply.Already else None) else (if is_up p then None else Some reply.Down))

first_fits : (p : Phase) (owes : Bool) (s : ServerState) (all e : Bool) (o : Op) → PhaseFits p s.phase all e → IsTrue (is_answering p) → IsTrue (not (is_in_mount p && owes)) → (IsTrue all → ⊥) →
    LineFits p owes s e o (at_first p owes o) false
first_fits Off true s all e o fits answers calm none = owed (is_unmount o)
first_fits Off false s all e o fits answers calm none = go (is_mount o) refl
  where
    go : (m : Bool) → is_mount o ≡ m → LineFits Off false s e o (if m then None else Some reply.Down) false
    go true i = record { mount = i; free = refl; got = refl }
    go false i = down_given s.phase all e s.just_died o i fits none
first_fits Up true s all e o fits answers calm none = absurd (false≢true calm)
first_fits Up false s all e o fits answers calm none = go (is_mount o) refl
  where
    go : (m : Bool) → is_mount o ≡ m → LineFits Up false s e o (if m then Some reply.Already else None) false
    go true i = ap (λ m. m && true) i
    go false i = i
first_fits Still owes s all e o fits answers calm none = absurd (false≢true answers)
first_fits (Doomed fate) owes s all e o fits answers calm none = absurd (false≢true answers)
first_fits Dead true s all e o fits answers calm none = owed (is_unmount o)
first_fits Dead false s all e o fits answers calm none = go (is_mount o) refl
  where
    go : (m : Bool) → is_mount o ≡ m → LineFits Dead false s e o (if m then None else Some reply.Down) false
    go true i = record { mount = i; free = refl; got = refl }
    go false i = down_dead s.phase all e s.just_died o i fits

awake_answering : (p : Phase) (q : ToldPhase) (all e : Bool) → PhaseFits p q all e → IsTrue (is_answering p) → IsAwake q
awake_answering p ToldOff all e fits h = tt
awake_answering p ToldUp all e fits h = tt
awake_answering p ToldDead all e fits h = tt
awake_answering Off Stalled all e fits h = absurd fits
awake_answering Up Stalled all e fits h = absurd fits
awake_answering Still Stalled all e fits h = absurd (false≢true h)
awake_answering (Doomed fate) Stalled all e fits h = absurd (false≢true h)
awake_answering Dead Stalled all e fits h = absurd fits

pub begun_fits : (server : Server) (t : Told) (line : Line) (o : Option Op) → operation_of line.what ≡ o → t.next ≡ Some line → IsTrue (t.hosts line.number) → IsTrue (is_answering server.phase) →
    (IsTrue t.all → ⊥) → Fits (key_of server) t → Fits (key_of (begun_with server line o)) t
begun_fits server t line None is next hosts answers none g = g
begun_fits server t line (Some o) is next hosts answers none g = record {
  phase = g.phase;
  owing = g.owing;
  calm = g.calm;
  armed = g.armed;
  failed = g.failed;
  doomed = g.doomed;
  under = record {
    next = next;
    hosts = hosts;
    awake = awake_answering server.phase t.state.phase t.all t.faulted g.phase answers;
    line =
        subst (λ x. AskFits server.phase server.owes t.state t.faulted x (answer_at_first server o) false) (sym is)
        (first_fits server.phase server.owes t.state t.all t.faulted o g.phase answers g.calm none);
  };
}

-- ---- a call fails

line_got : (p : Phase) (owes : Bool) (t : ServerState) (e : Bool) (o : Op) (fixed : Option Reply) (g : Bool) → IsTrue e → LineFits p owes t e o fixed g → LineFits p owes t e o fixed true
line_got Off owes t e o (Some r) g m h = h
line_got Dead owes t e o (Some r) g m h = h
line_got Up owes t e o (Some r) g m h = h
line_got Still owes t e o (Some r) g m h = h
line_got (Doomed fate) owes t e o (Some r) g m h = h
line_got Off owes t e o None g m h = record { mount = h.mount; free = h.free; got = m }
line_got Dead owes t e o None g m h = record { mount = h.mount; free = h.free; got = m }
line_got Up owes t e o None g m h = h
line_got Still owes t e o None g m h = h
line_got (Doomed fate) owes t e o None g m h = h

ask_got : (p : Phase) (owes : Bool) (t : ServerState) (e : Bool) (o : Option Op) (fixed : Option Reply) (g : Bool) → IsTrue e → AskFits p owes t e o fixed g → AskFits p owes t e o fixed true
ask_got p owes t e None fixed g m h = h
ask_got p owes t e (Some o) fixed g m h = line_got p owes t e o fixed g m h

under_got : (p : Phase) (owes : Bool) (t : Told) (o : Option Under) → IsTrue t.faulted → UnderFits p owes t (option_map asked_of o) → UnderFits p owes t (option_map asked_of (option_map refused_under o))
under_got p owes t None m h = tt
under_got p owes t (Some u) m h = record {
  next = h.next;
  hosts = h.hosts;
  awake = h.awake;
  line = ask_got p owes t.state t.faulted (operation_of u.line.what) u.fixed u.get_failed m h.line;
}

pub refused_fits : (server : Server) (t : Told) → IsTrue t.faulted → Fits (key_of server) t → Fits (key_of (with_under server refused_under)) t
refused_fits server t m g = record {
  phase = g.phase;
  owing = g.owing;
  calm = g.calm;
  armed = g.armed;
  failed = g.failed;
  doomed = g.doomed;
  under = under_got server.phase server.owes t server.under m g.under;
}

pub failed_fits : (server : Server) (t : Told) → IsTrue t.faulted → Fits (key_of server) t → Fits (key_of (failed_by server)) t
failed_fits server t m g = record {
  phase = g.phase;
  owing = g.owing;
  calm = g.calm;
  armed = g.armed;
  failed = or_right (not (server.failed || is_in_mount server.phase)) t.faulted m;
  doomed = g.doomed;
  under = g.under;
}

-- ---- a server is doomed

-- why: a crash is asked, it is armed and may be called for, its lease has ended while it is dirty, or a call failed
pub record IsDoomed (server : Server) (t : Told) (fate : Fate) : Type 0 where
  pub mount : IsTrue (is_up server.phase || is_still server.phase)
  pub up_fate : IsTrue (is_up server.phase) → fate.owes ≡ false
  pub still_fate : IsTrue (is_still server.phase) → IsTrue (fate.owes || t.faulted)
  pub cause : IsTrue (is_called_for t.state t.next t.dirty || t.faulted)

doomed_phase : (p : Phase) (q : ToldPhase) (all e : Bool) (fate : Fate) → PhaseFits p q all e → IsTrue (is_up p || is_still p) → (IsTrue (is_up p) → fate.owes ≡ false) →
    (IsTrue (is_still p) → IsTrue (fate.owes || e)) → PhaseFits (Doomed fate) q all e
doomed_phase Up ToldUp all e fate fits m u s = u refl
doomed_phase Up ToldOff all e fate fits m u s = absurd fits
doomed_phase Up Stalled all e fate fits m u s = absurd fits
doomed_phase Up ToldDead all e fate fits m u s = absurd fits
doomed_phase Still Stalled all e fate fits m u s = s refl
doomed_phase Still ToldOff all e fate fits m u s = absurd fits
doomed_phase Still ToldUp all e fate fits m u s = absurd fits
doomed_phase Still ToldDead all e fate fits m u s = absurd fits
doomed_phase Off q all e fate fits m u s = absurd (false≢true m)
doomed_phase (Doomed f) q all e fate fits m u s = absurd (false≢true m)
doomed_phase Dead q all e fate fits m u s = absurd (false≢true m)

doomed_calm : (p : Phase) (owes : Bool) → IsTrue (is_up p || is_still p) → IsTrue (not (is_in_mount p && owes)) → IsTrue (not owes)
doomed_calm Up owes m c = c
doomed_calm Still owes m c = c
doomed_calm Off owes m c = absurd (false≢true m)
doomed_calm (Doomed f) owes m c = absurd (false≢true m)
doomed_calm Dead owes m c = absurd (false≢true m)

doomed_line : (p : Phase) (fate : Fate) (owes : Bool) (t : ServerState) (e : Bool) (o : Op) (fixed : Option Reply) (g : Bool) → IsTrue (is_up p || is_still p) → LineFits p owes t e o fixed g →
    LineFits (Doomed fate) owes t e o fixed g
doomed_line Up fate owes t e o (Some r) g m h = h
doomed_line Up fate owes t e o None g m h = h
doomed_line Still fate owes t e o (Some r) g m h = absurd h
doomed_line Still fate owes t e o None g m h = absurd h
doomed_line Off fate owes t e o fixed g m h = absurd (false≢true m)
doomed_line (Doomed f) fate owes t e o fixed g m h = absurd (false≢true m)
doomed_line Dead fate owes t e o fixed g m h = absurd (false≢true m)

doomed_ask : (p : Phase) (fate : Fate) (owes : Bool) (t : ServerState) (e : Bool) (o : Option Op) (fixed : Option Reply) (g : Bool) → IsTrue (is_up p || is_still p) → AskFits p owes t e o fixed g →
    AskFits (Doomed fate) owes t e o fixed g
doomed_ask p fate owes t e None fixed g m h = h
doomed_ask p fate owes t e (Some o) fixed g m h = doomed_line p fate owes t e o fixed g m h

doomed_under : (p : Phase) (fate : Fate) (owes : Bool) (t : Told) (asked : Option Asked) → IsTrue (is_up p || is_still p) → UnderFits p owes t asked → UnderFits (Doomed fate) owes t asked
doomed_under p fate owes t None m h = tt
doomed_under p fate owes t (Some asked) m h = record {
  next = h.next;
  hosts = h.hosts;
  awake = h.awake;
  line = doomed_ask p fate owes t.state t.faulted (operation_of asked.line.what) asked.fixed asked.get_failed m h.line;
}

pub doomed_fits : (server : Server) (t : Told) (fate : Fate) → IsDoomed server t fate → Fits (key_of server) t → Fits (key_of (record server { phase = Doomed fate })) t
doomed_fits server t fate is g = record {
  phase = doomed_phase server.phase t.state.phase t.all t.faulted fate g.phase is.mount is.up_fate is.still_fate;
  owing = g.owing;
  calm = doomed_calm server.phase server.owes is.mount g.calm;
  armed = g.armed;
  failed = g.failed;
  doomed = is.cause;
  under = doomed_under server.phase fate server.owes t (option_map asked_of server.under) is.mount g.under;
}

-- ---- a server is closed at the end

closed_phase : (p : Phase) (q : ToldPhase) (all e : Bool) → PhaseFits p q all e → IsTrue (is_up p) → IsTrue all → PhaseFits Off q all e
closed_phase Up ToldUp all e fits u h = h
closed_phase Up ToldOff all e fits u h = absurd fits
closed_phase Up Stalled all e fits u h = absurd fits
closed_phase Up ToldDead all e fits u h = absurd fits
closed_phase Off q all e fits u h = absurd (false≢true u)
closed_phase Still q all e fits u h = absurd (false≢true u)
closed_phase (Doomed f) q all e fits u h = absurd (false≢true u)
closed_phase Dead q all e fits u h = absurd (false≢true u)

pub up_calm : (p : Phase) (owes : Bool) → IsTrue (is_up p) → IsTrue (not (is_in_mount p && owes)) → owes ≡ false
up_calm Up true u c = absurd (false≢true c)
up_calm Up false u c = refl
up_calm Off owes u c = absurd (false≢true u)
up_calm Still owes u c = absurd (false≢true u)
up_calm (Doomed f) owes u c = absurd (false≢true u)
up_calm Dead owes u c = absurd (false≢true u)

pub owing_none : (owes : Bool) (d : Debt) → owes ≡ false → OwingFits owes d → OwingFits false d
owing_none owes d e h = subst (λ x. OwingFits x d) e h

pub closed_fits : (server : Server) (t : Told) → IsTrue (is_up server.phase) → IsTrue t.all → Fits (key_of server) t → Fits (key_of (off_after server)) t
closed_fits server t u all g = record {
  phase = closed_phase server.phase t.state.phase t.all t.faulted g.phase u all;
  owing = owing_none server.owes t.state.debt (up_calm server.phase server.owes u g.calm) g.owing;
  calm = refl;
  armed = refl;
  failed = g.failed;
  doomed = tt;
  under = tt;
}
