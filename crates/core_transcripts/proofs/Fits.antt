-- What the lines said tell of a server, against the server itself: tables, and that they stay where more is told.
use Rattle.std.proofs.Common.{ℕ, ◌≡◌, Bool, true, false, not, ◌&&◌, ◌||◌, if◌then◌else◌, IsTrue, is_some, Option, Some, None, refl, sym, subst}
use Rattle.std.proofs.lemmas.Bool.{false≢true}
use Rattle.std.specs.Option.{option_map}
use Rattle.frang_base.specs.declared.op.Op.{Op}
use Rattle.frang_base.specs.declared.reply.Reply.{Reply}
use Rattle.frang_base.specs.declared.script.Line.{Line}
use Rattle.frang_base.proofs.Tests.{or_more}
use Rattle.tree_definitions.specs.Touched.{is_mounted, is_ok}
use Rattle.tree_definitions.specs.Transcript.{Debt, ServerState, Phase as ToldPhase, is_already, is_called_for, is_crash, is_crash_line, is_down, is_expired, is_io, is_mount, is_off as is_told_off, is_own, is_stalled, is_up as is_told_up, may_answer_by, may_mount, may_owe, may_refuse}
use Rattle.tree_definitions.specs.Transcript.Phase.{Off as ToldOff, Up as ToldUp, Stalled, Dead as ToldDead}
use Rattle.tree_definitions.specs.Transcript.Debt.{Free, Owes, MayOwe}
use Rattle.core_definitions.specs.Lines.{Under, operation_of}
use Rattle.core_definitions.specs.Servers.{Phase, Off, Up, Still, Doomed, Dead, Server, is_in_mount}

-- ---- what counts of a server

-- of its line under way: the line, the answer that is fixed for it if one is, and whether a get failed under it
pub record Asked : Type 0 where
  pub line : Line
  pub fixed : Option Reply
  pub get_failed : Bool

abbrev pub asked_of : Under → Asked
asked_of under = record { line = under.line; fixed = under.fixed; get_failed = under.get_failed }

pub record Key : Type 0 where
  pub phase : Phase
  pub owes : Bool
  pub failed : Bool
  pub armed : Bool
  pub asked : Option Asked
  pub saves : Option ℕ  -- whose log it recovers

abbrev pub key_of : Server → Key
key_of server = record {
  phase = server.phase;
  owes = server.owes;
  failed = server.failed;
  armed = is_some server.arming;
  asked = option_map asked_of server.under;
  saves = option_map (λ recovery. recovery.dead) server.recovery;
}

-- ---- what is told of it

-- its state by the lines said, whether it may be dirty and whether its count of faults has risen; its next line, whether the host's lines before a number are answered, and whether
-- all lines are
pub record Told : Type 0 where
  pub state : ServerState
  pub dirty : Bool
  pub faulted : Bool
  pub next : Option Line
  pub hosts : ℕ → Bool
  pub all : Bool

-- ---- tables

-- who was closed at the end is told to be up
abbrev pub PhaseFits : Phase → ToldPhase → Bool → Bool → Type 0
PhaseFits Off ToldOff all faulted = Unit {0}
PhaseFits Off ToldUp all faulted = IsTrue all
PhaseFits Up ToldUp all faulted = Unit {0}
PhaseFits Still Stalled all faulted = Unit {0}
PhaseFits (Doomed fate) ToldUp all faulted = fate.owes ≡ false
PhaseFits (Doomed fate) Stalled all faulted = IsTrue (fate.owes || faulted)
PhaseFits Dead ToldDead all faulted = Unit {0}
PhaseFits phase tells all faulted = ⊥

abbrev pub OwingFits : Bool → Debt → Type 0
OwingFits true Owes = Unit {0}
OwingFits true MayOwe = Unit {0}
OwingFits true Free = ⊥
OwingFits false Free = Unit {0}
OwingFits false MayOwe = Unit {0}
OwingFits false Owes = ⊥

-- who owes has the answer of his debt; else it is one that may be given, and neither shows a debt nor mounts
abbrev pub FixedFits : Bool → ServerState → Bool → Op → Reply → Type 0
FixedFits true t faulted o r = IsTrue (may_owe o r)
FixedFits false t faulted o r = IsTrue (may_answer_by t.phase t.just_died faulted o r && (not (is_expired r) && not (is_mounted r)))

-- a mount that waits
pub record Waits (owes faulted : Bool) (o : Op) (get_failed : Bool) : Type 0 where
  pub mount : IsTrue (is_mount o)
  pub free : owes ≡ false
  pub got : IsTrue (not get_failed || faulted)

abbrev pub LineFits : Phase → Bool → ServerState → Bool → Op → Option Reply → Bool → Type 0
LineFits Off owes t faulted o (Some r) get_failed = FixedFits owes t faulted o r
LineFits Dead owes t faulted o (Some r) get_failed = FixedFits owes t faulted o r
LineFits Up owes t faulted o (Some r) get_failed = IsTrue (is_mount o && is_already r)
LineFits Still owes t faulted o (Some r) get_failed = ⊥
LineFits (Doomed fate) owes t faulted o (Some r) get_failed = IsTrue (is_mount o && is_already r)
LineFits Off owes t faulted o None get_failed = Waits owes faulted o get_failed
LineFits Dead owes t faulted o None get_failed = Waits owes faulted o get_failed
LineFits Up owes t faulted o None get_failed = is_mount o ≡ false
LineFits Still owes t faulted o None get_failed = ⊥
LineFits (Doomed fate) owes t faulted o None get_failed = is_mount o ≡ false

-- only a server's lines
abbrev pub AskFits : Phase → Bool → ServerState → Bool → Option Op → Option Reply → Bool → Type 0
AskFits phase owes t faulted None fixed get_failed = ⊥
AskFits phase owes t faulted (Some o) fixed get_failed = LineFits phase owes t faulted o fixed get_failed

-- a stalled server has no line under way
abbrev pub IsAwake : ToldPhase → Type 0
IsAwake Stalled = ⊥
IsAwake phase = Unit {0}

-- its line is its next one, and the host's before it are answered
pub record IsUnder (phase : Phase) (owes : Bool) (t : Told) (asked : Asked) : Type 0 where
  pub next : t.next ≡ Some asked.line
  pub hosts : IsTrue (t.hosts asked.line.number)
  pub awake : IsAwake t.state.phase
  pub line : AskFits phase owes t.state t.faulted (operation_of asked.line.what) asked.fixed asked.get_failed

abbrev pub UnderFits : Phase → Bool → Told → Option Asked → Type 0
UnderFits phase owes t None = Unit {0}
UnderFits phase owes t (Some asked) = IsUnder phase owes t asked

abbrev pub DoomFits : Phase → Told → Type 0
DoomFits (Doomed fate) t = IsTrue (is_called_for t.state t.next t.dirty || t.faulted)
DoomFits phase t = Unit {0}

pub record Fits (k : Key) (t : Told) : Type 0 where
  pub phase : PhaseFits k.phase t.state.phase t.all t.faulted
  pub owing : OwingFits k.owes t.state.debt
  pub calm : IsTrue (not (is_in_mount k.phase && k.owes))
  pub armed : IsTrue (not k.armed || t.state.may_die)
  pub failed : IsTrue (not k.failed || t.faulted)
  pub doomed : DoomFits k.phase t
  pub under : UnderFits k.phase k.owes t k.asked

-- ---- more is told

pub record Rises (t u : Told) : Type 0 where
  pub state : u.state ≡ t.state
  pub dirty : IsTrue t.dirty → IsTrue u.dirty
  pub faulted : IsTrue t.faulted → IsTrue u.faulted
  pub next : u.next ≡ t.next
  pub hosts : (n : ℕ) → IsTrue (t.hosts n) → IsTrue (u.hosts n)
  pub all : IsTrue t.all → IsTrue u.all

and_more : (a b c : Bool) → (IsTrue b → IsTrue c) → IsTrue (a && b) → IsTrue (a && c)
and_more true b c more h = more h
and_more false b c more h = absurd (false≢true h)

first_more : (a b c : Bool) → (IsTrue a → IsTrue b) → IsTrue (a && c) → IsTrue (b && c)
first_more true b c more h = subst (λ x. IsTrue (x && c)) (sym (more refl)) h
first_more false b c more h = absurd (false≢true h)

or_first : (a b c : Bool) → (IsTrue a → IsTrue b) → IsTrue (a || c) → IsTrue (b || c)
or_first true b c more h = subst (λ x. IsTrue (x || c)) (sym (more refl)) refl
or_first false true c more h = refl
or_first false false c more h = h

phase_more : (p : Phase) (q : ToldPhase) (all all' e e' : Bool) → (IsTrue all → IsTrue all') → (IsTrue e → IsTrue e') → PhaseFits p q all e → PhaseFits p q all' e'
phase_more Off ToldOff all all' e e' m n h = tt
phase_more Off ToldUp all all' e e' m n h = m h
phase_more Off Stalled all all' e e' m n h = absurd h
phase_more Off ToldDead all all' e e' m n h = absurd h
phase_more Up ToldOff all all' e e' m n h = absurd h
phase_more Up ToldUp all all' e e' m n h = tt
phase_more Up Stalled all all' e e' m n h = absurd h
phase_more Up ToldDead all all' e e' m n h = absurd h
phase_more Still ToldOff all all' e e' m n h = absurd h
phase_more Still ToldUp all all' e e' m n h = absurd h
phase_more Still Stalled all all' e e' m n h = tt
phase_more Still ToldDead all all' e e' m n h = absurd h
phase_more (Doomed fate) ToldOff all all' e e' m n h = absurd h
phase_more (Doomed fate) ToldUp all all' e e' m n h = h
phase_more (Doomed fate) Stalled all all' e e' m n h = or_more fate.owes e e' n h
phase_more (Doomed fate) ToldDead all all' e e' m n h = absurd h
phase_more Dead ToldOff all all' e e' m n h = absurd h
phase_more Dead ToldUp all all' e e' m n h = absurd h
phase_more Dead Stalled all all' e e' m n h = absurd h
phase_more Dead ToldDead all all' e e' m n h = tt

pub mount_more : (q : ToldPhase) (j e e' : Bool) (r : Reply) → (IsTrue e → IsTrue e') → IsTrue (may_mount q j e r) → IsTrue (may_mount q j e' r)
mount_more q j e e' r m h =
    or_more ((is_told_off q && is_mounted r) || ((is_told_up q || j) && is_already r)) (e && is_io r) (e' && is_io r) (first_more e e' (is_io r) m) h

pub refuse_more : (j e e' : Bool) (o : Op) (r : Reply) → (IsTrue e → IsTrue e') → IsTrue (may_refuse j e o r) → IsTrue (may_refuse j e' o r)
refuse_more j e e' o r m h =
    or_more (is_down r) (j && ((is_crash o && is_ok r) || (e && is_io r))) (j && ((is_crash o && is_ok r) || (e' && is_io r)))
    (and_more j ((is_crash o && is_ok r) || (e && is_io r)) ((is_crash o && is_ok r) || (e' && is_io r)) (or_more (is_crash o && is_ok r) (e && is_io r) (e' && is_io r) (first_more e e' (is_io r) m))) h

pub either_more : (b x x' y y' : Bool) → (IsTrue x → IsTrue x') → (IsTrue y → IsTrue y') → IsTrue (if b then x else y) → IsTrue (if b then x' else y')
either_more true x x' y y' m n h = m h
either_more false x x' y y' m n h = n h

pub answer_more : (q : ToldPhase) (j e e' : Bool) (o : Op) (r : Reply) → (IsTrue e → IsTrue e') → IsTrue (may_answer_by q j e o r) → IsTrue (may_answer_by q j e' o r)
answer_more ToldOff j e e' o r m h =
    either_more (is_mount o) (may_mount ToldOff j e r) (may_mount ToldOff j e' r) (may_refuse j e o r) (may_refuse j e' o r) (mount_more ToldOff j e e' r m) (refuse_more j e e' o r m) h
answer_more ToldUp j e e' o r m h = either_more (is_mount o) (may_mount ToldUp j e r) (may_mount ToldUp j e' r) (is_own o r) (is_own o r) (mount_more ToldUp j e e' r m) (λ x. x) h
answer_more Stalled j e e' o r m h = h
answer_more ToldDead j e e' o r m h =
    either_more (is_mount o) (may_mount ToldDead j e r) (may_mount ToldDead j e' r) (may_refuse j e o r) (may_refuse j e' o r) (mount_more ToldDead j e e' r m) (refuse_more j e e' o r m) h

fixed_more : (owes : Bool) (t : ServerState) (e e' : Bool) (o : Op) (r : Reply) → (IsTrue e → IsTrue e') → FixedFits owes t e o r → FixedFits owes t e' o r
fixed_more true t e e' o r m h = h
fixed_more false t e e' o r m h =
    first_more (may_answer_by t.phase t.just_died e o r) (may_answer_by t.phase t.just_died e' o r) (not (is_expired r) && not (is_mounted r)) (answer_more t.phase t.just_died e e' o r m) h

waits_more : (owes e e' : Bool) (o : Op) (g : Bool) → (IsTrue e → IsTrue e') → Waits owes e o g → Waits owes e' o g
waits_more owes e e' o g m w = record { mount = w.mount; free = w.free; got = or_more (not g) e e' m w.got }

line_more : (p : Phase) (owes : Bool) (t : ServerState) (e e' : Bool) (o : Op) (fixed : Option Reply) (g : Bool) → (IsTrue e → IsTrue e') → LineFits p owes t e o fixed g → LineFits p owes t e' o fixed g
line_more Off owes t e e' o (Some r) g m h = fixed_more owes t e e' o r m h
line_more Dead owes t e e' o (Some r) g m h = fixed_more owes t e e' o r m h
line_more Up owes t e e' o (Some r) g m h = h
line_more Still owes t e e' o (Some r) g m h = absurd h
line_more (Doomed fate) owes t e e' o (Some r) g m h = h
line_more Off owes t e e' o None g m h = waits_more owes e e' o g m h
line_more Dead owes t e e' o None g m h = waits_more owes e e' o g m h
line_more Up owes t e e' o None g m h = h
line_more Still owes t e e' o None g m h = absurd h
line_more (Doomed fate) owes t e e' o None g m h = h

ask_more : (p : Phase) (owes : Bool) (t : ServerState) (e e' : Bool) (o : Option Op) (fixed : Option Reply) (g : Bool) → (IsTrue e → IsTrue e') → AskFits p owes t e o fixed g → AskFits p owes t e' o fixed g
ask_more p owes t e e' None fixed g m h = absurd h
ask_more p owes t e e' (Some o) fixed g m h = line_more p owes t e e' o fixed g m h

doom_more : (p : Phase) (t : Told) (d e all : Bool) (hosts : ℕ → Bool) → (IsTrue t.dirty → IsTrue d) → (IsTrue t.faulted → IsTrue e) → DoomFits p t →
    DoomFits p (record { state = t.state; dirty = d; faulted = e; next = t.next; hosts = hosts; all = all })
doom_more Off t d e all hosts m n h = tt
doom_more Up t d e all hosts m n h = tt
doom_more Still t d e all hosts m n h = tt
doom_more Dead t d e all hosts m n h = tt
doom_more (Doomed fate) t d e all hosts m n h =
    or_first (is_called_for t.state t.next t.dirty) (is_called_for t.state t.next d) e
    (or_more (t.state.may_die || is_crash_line t.next) (is_stalled t.state.phase && t.dirty) (is_stalled t.state.phase && d) (and_more (is_stalled t.state.phase) t.dirty d m))
    (or_more (is_called_for t.state t.next t.dirty) t.faulted e n h)

under_more : (p : Phase) (owes : Bool) (t : Told) (d e all : Bool) (hosts : ℕ → Bool) (asked : Option Asked) → (IsTrue t.faulted → IsTrue e) → ((n : ℕ) → IsTrue (t.hosts n) → IsTrue (hosts n)) →
    UnderFits p owes t asked → UnderFits p owes (record t { dirty = d; faulted = e; all = all; hosts = hosts }) asked
under_more p owes t d e all hosts None m n h = tt
under_more p owes t d e all hosts (Some asked) m n h = record {
  next = h.next;
  hosts = n asked.line.number h.hosts;
  awake = h.awake;
  line = ask_more p owes t.state t.faulted e (operation_of asked.line.what) asked.fixed asked.get_failed m h.line;
}

more_told : (k : Key) (t : Told) (d e all : Bool) (hosts : ℕ → Bool) → (IsTrue t.dirty → IsTrue d) → (IsTrue t.faulted → IsTrue e) → (IsTrue t.all → IsTrue all) →
    ((n : ℕ) → IsTrue (t.hosts n) → IsTrue (hosts n)) → Fits k t → Fits k (record { state = t.state; dirty = d; faulted = e; next = t.next; hosts = hosts; all = all })
more_told k t d e all hosts md me ma mh g = record {
  phase = phase_more k.phase t.state.phase t.all all t.faulted e ma me g.phase;
  owing = g.owing;
  calm = g.calm;
  armed = g.armed;
  failed = or_more (not k.failed) t.faulted e me g.failed;
  doomed = doom_more k.phase t d e all hosts md me g.doomed;
  under = under_more k.phase k.owes t d e all hosts k.asked me mh g.under;
}

pub rises : (k : Key) (t u : Told) → Rises t u → Fits k t → Fits k u
rises k t u r g =
    subst (λ s. Fits k (record { state = s; dirty = u.dirty; faulted = u.faulted; next = u.next; hosts = u.hosts; all = u.all })) (sym r.state)
    (subst (λ n. Fits k (record { state = t.state; dirty = u.dirty; faulted = u.faulted; next = n; hosts = u.hosts; all = u.all })) (sym r.next)
    (more_told k t u.dirty u.faulted u.all u.hosts r.dirty r.faulted r.all r.hosts g))
