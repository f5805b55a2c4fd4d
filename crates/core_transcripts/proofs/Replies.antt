-- What counts of a server once it has answered, and that the answer may be given.
use Rattle.std.proofs.Common.{◌≡◌, Bool, true, false, not, ◌&&◌, ◌||◌, if◌then◌else◌, IsTrue, Some, None, refl, sym, ap, ◌∙◌, subst}
use Rattle.std.proofs.lemmas.Bool.{false≢true, or_right, or_left, and_parts}
use Rattle.frang_base.specs.declared.op.Op.{Op}
use Rattle.frang_base.specs.declared.op.Op.TheVariants as op
use Rattle.frang_base.specs.declared.reply.Reply.{Reply}
use Rattle.frang_base.specs.declared.reply.Reply.TheVariants as reply
use Rattle.tree_definitions.specs.Touched.{is_mounted, is_ok, is_stall, is_unmount}
use Rattle.tree_definitions.specs.Transcript.{Debt, ServerState, Phase as ToldPhase, after_answer, calls_death, debt_after, is_already, is_expired, is_io, is_mount, is_own, is_up as is_told_up, may_answer, may_answer_by, may_answer_owing, may_mount, may_owe, phase_after}
use Rattle.tree_definitions.specs.Transcript.Phase.{Off as ToldOff, Up as ToldUp, Stalled, Dead as ToldDead}
use Rattle.tree_definitions.specs.Transcript.Debt.{Free, Owes, MayOwe}
use Rattle.core_definitions.specs.Servers.{Phase, Off, Up, Still, Doomed, Dead, is_answering, is_in_mount, is_off, is_up}
use Rattle.core_transcripts.proofs.Fits.{DoomFits, FixedFits, Fits, Key, LineFits, OwingFits, PhaseFits, Told}
use Rattle.core_transcripts.proofs.Walking.{IsPlain}

-- ---- replies

ok_mounts_not : (r : Reply) → IsTrue (is_ok r) → is_mounted r ≡ false
ok_mounts_not reply.Mounted h = absurd (false≢true h)
ok_mounts_not r h = refl

expired_mounts_not : (r : Reply) → IsTrue (is_expired r) → is_mounted r ≡ false
expired_mounts_not reply.Mounted h = absurd (false≢true h)
expired_mounts_not r h = refl

ok_expired_not : (r : Reply) → IsTrue (is_ok r) → is_expired r ≡ false
ok_expired_not reply.Expired h = absurd (false≢true h)
ok_expired_not r h = refl

pub already_is : (r : Reply) → IsTrue (is_already r) → (is_mounted r ≡ false) × (is_expired r ≡ false) × (is_ok r ≡ false)
already_is reply.Mounted h = absurd (false≢true h)
already_is reply.Expired h = absurd (false≢true h)
already_is reply.Ok h = absurd (false≢true h)
already_is r h = (refl, refl, refl)

pub plain_is : (r : Reply) → IsPlain r → (is_mounted r ≡ false) × (is_expired r ≡ false)
plain_is reply.Mounted h = absurd h
plain_is reply.Expired h = absurd h
plain_is r h = (refl, refl)

-- ---- what is told of its phase

pub up_told : (q : ToldPhase) (all e : Bool) → PhaseFits Up q all e → q ≡ ToldUp
up_told ToldUp all e h = refl
up_told ToldOff all e h = absurd h
up_told Stalled all e h = absurd h
up_told ToldDead all e h = absurd h

pub off_told : (q : ToldPhase) (all e : Bool) → PhaseFits Off q all e → (IsTrue all → ⊥) → q ≡ ToldOff
off_told ToldOff all e h none = refl
off_told ToldUp all e h none = absurd (none h)
off_told Stalled all e h none = absurd h
off_told ToldDead all e h none = absurd h

pub dead_told : (q : ToldPhase) (all e : Bool) → PhaseFits Dead q all e → q ≡ ToldDead
dead_told ToldDead all e h = refl
dead_told ToldOff all e h = absurd h
dead_told ToldUp all e h = absurd h
dead_told Stalled all e h = absurd h

pub phase_is : (p : Phase) → IsTrue (is_up p) → p ≡ Up
phase_is Up h = refl
phase_is Off h = absurd (false≢true h)
phase_is Still h = absurd (false≢true h)
phase_is (Doomed f) h = absurd (false≢true h)
phase_is Dead h = absurd (false≢true h)

-- ---- an answer that is fixed may be given

by_owing : (d : Debt) (t : ServerState) (e : Bool) (o : Op) (r : Reply) → OwingFits false d → IsTrue (may_answer_by t.phase t.just_died e o r) → IsTrue (may_answer_owing d t e o r)
by_owing Free t e o r f h = h
by_owing MayOwe t e o r f h = or_right (may_owe o r) (may_answer_by t.phase t.just_died e o r) h
by_owing Owes t e o r f h = absurd f

by_debt : (d : Debt) (t : ServerState) (e : Bool) (o : Op) (r : Reply) → OwingFits true d → IsTrue (may_owe o r) → IsTrue (may_answer_owing d t e o r)
by_debt Free t e o r f h = absurd f
by_debt MayOwe t e o r f h = or_left (may_owe o r) (may_answer_by t.phase t.just_died e o r) h
by_debt Owes t e o r f h = h

fixed_given : (owes : Bool) (t : ServerState) (e : Bool) (o : Op) (r : Reply) → OwingFits owes t.debt → FixedFits owes t e o r → IsTrue (may_answer t e o r)
fixed_given true t e o r f h = by_debt t.debt t e o r f h
fixed_given false t e o r f h = by_owing t.debt t e o r f (and_parts (may_answer_by t.phase t.just_died e o r) (not (is_expired r) && not (is_mounted r)) h).0

up_already : (j e : Bool) (o : Op) (r : Reply) → IsTrue (is_mount o && is_already r) → IsTrue (may_answer_by ToldUp j e o r)
up_already j e op.Mount r h = or_left (is_already r) (e && is_io r) h
up_already j e o r h = absurd (false≢true h)

pub given_fixed : (p : Phase) (owes : Bool) (t : ServerState) (all e : Bool) (o : Op) (r : Reply) (g : Bool) → IsTrue (is_answering p) → IsTrue (not (is_in_mount p && owes)) → PhaseFits p t.phase all e →
    OwingFits owes t.debt → LineFits p owes t e o (Some r) g → IsTrue (may_answer t e o r)
given_fixed Off owes t all e o r g answers calm fits f h = fixed_given owes t e o r f h
given_fixed Dead owes t all e o r g answers calm fits f h = fixed_given owes t e o r f h
given_fixed Up true t all e o r g answers calm fits f h = absurd (false≢true calm)
given_fixed Up false t all e o r g answers calm fits f h =
    by_owing t.debt t e o r f (subst (λ q. IsTrue (may_answer_by q t.just_died e o r)) (sym (up_told t.phase all e fits)) (up_already t.just_died e o r h))
given_fixed Still owes t all e o r g answers calm fits f h = absurd (false≢true answers)
given_fixed (Doomed fate) owes t all e o r g answers calm fits f h = absurd (false≢true answers)

-- one of a server that is up
pub given_up : (t : ServerState) (all e : Bool) (o : Op) (r : Reply) → PhaseFits Up t.phase all e → OwingFits false t.debt → is_mount o ≡ false → IsTrue (is_own o r) → IsTrue (may_answer t e o r)
given_up t all e o r fits f n h =
    by_owing t.debt t e o r f
    (subst (λ q. IsTrue (may_answer_by q t.just_died e o r)) (sym (up_told t.phase all e fits)) (subst (λ m. IsTrue (if m then may_mount ToldUp t.just_died e r else is_own o r)) (sym n) h))

-- a mount of one that is off
pub given_mounted : (t : ServerState) (all e : Bool) → PhaseFits Off t.phase all e → (IsTrue all → ⊥) → OwingFits false t.debt → IsTrue (may_answer t e op.Mount reply.Mounted)
given_mounted t all e fits none f =
    by_owing t.debt t e op.Mount reply.Mounted f (subst (λ q. IsTrue (may_answer_by q t.just_died e op.Mount reply.Mounted)) (sym (off_told t.phase all e fits none)) refl)

io_off : (j e : Bool) → IsTrue e → IsTrue (may_answer_by ToldOff j e op.Mount reply.Io)
io_off true true h = refl
io_off false true h = refl
io_off j false h = absurd (false≢true h)

pub given_io : (t : ServerState) (all e : Bool) → PhaseFits Off t.phase all e → (IsTrue all → ⊥) → OwingFits false t.debt → IsTrue e → IsTrue (may_answer t e op.Mount reply.Io)
given_io t all e fits none f m =
    by_owing t.debt t e op.Mount reply.Io f (subst (λ q. IsTrue (may_answer_by q t.just_died e op.Mount reply.Io)) (sym (off_told t.phase all e fits none)) (io_off t.just_died e m))

-- ---- what is told after it

pub three_none : (a b c : Bool) → a ≡ false → (a && b && c) ≡ false
three_none true b c e = absurd (false≢true (sym e))
three_none false b c e = refl

pub middle_none : (a b c : Bool) → b ≡ false → (a && b && c) ≡ false
middle_none a true c e = absurd (false≢true (sym e))
middle_none true false c e = refl
middle_none false false c e = refl

pub last_none : (a b c : Bool) → c ≡ false → (a && b && c) ≡ false
last_none a b true e = absurd (false≢true (sym e))
last_none true true false e = refl
last_none true false false e = refl
last_none false b false e = refl

phase_stays : (q : ToldPhase) (o : Op) (r : Reply) → is_mounted r ≡ false → (is_told_up q && is_ok r && is_stall o) ≡ false → (is_told_up q && is_ok r && is_unmount o) ≡ false → phase_after q o r ≡ q
phase_stays q o r m s u = go (is_mounted r) (is_told_up q && is_ok r && is_stall o) (is_told_up q && is_ok r && is_unmount o) m s u
  where
    go : (m s u : Bool) → m ≡ false → s ≡ false → u ≡ false → (if m then ToldUp else (if s then Stalled else (if u then ToldOff else q))) ≡ q
    go true s u e f g = absurd (false≢true (sym e))
    go false true u e f g = absurd (false≢true (sym f))
    go false false true e f g = absurd (false≢true (sym g))
    go false false false e f g = refl

debt_none : (d : Debt) (o : Op) (r : Reply) → is_expired r ≡ false → OwingFits false d → OwingFits false (debt_after d o r)
debt_none Free o r e f = tt
debt_none MayOwe o r e f = subst (λ x. OwingFits false (if x then Owes else Free)) (sym e) tt
debt_none Owes o r e f = absurd f

debt_owed : (d : Debt) (o : Op) (r : Reply) → IsTrue (may_owe o r) → OwingFits true d → OwingFits (if is_unmount o && is_ok r then false else true) (debt_after d o r)
debt_owed Free o r h f = absurd f
debt_owed Owes o r h f = go (is_unmount o) h
  where
    go : (u : Bool) → IsTrue (if u then is_ok r else is_expired r) → OwingFits (if u && is_ok r then false else true) (if u then Free else Owes)
    go true h = subst (λ k. OwingFits (if k then false else true) Free) (sym h) tt
    go false h = tt
debt_owed MayOwe o r h f = go (is_unmount o) h
  where
    go : (u : Bool) → IsTrue (if u then is_ok r else is_expired r) → OwingFits (if u && is_ok r then false else true) (if is_expired r then Owes else Free)
    go true h = subst (λ k. OwingFits (if k then false else true) (if is_expired r then Owes else Free)) (sym h) (subst (λ x. OwingFits false (if x then Owes else Free)) (sym (ok_expired_not r h)) tt)
    go false h = subst (λ x. OwingFits true (if x then Owes else Free)) (sym h) tt

die_stays : (armed m dies calls : Bool) → m ≡ false → IsTrue (not armed || dies) → IsTrue (not armed || (not m && (dies || calls)))
die_stays armed true dies calls e h = absurd (false≢true (sym e))
die_stays true false true calls e h = refl
die_stays true false false calls e h = absurd (false≢true h)
die_stays false false dies calls e h = refl

-- ---- what counts then

-- what a server is after an answer, by what is told of it
pub record Later (t : Told) (o : Op) (r : Reply) (u : Told) : Type 0 where
  pub state : u.state ≡ after_answer t.state o r
  pub faulted : IsTrue t.faulted → IsTrue u.faulted
  pub all : IsTrue t.all → IsTrue u.all

more_faults : (failed a b : Bool) → (IsTrue a → IsTrue b) → IsTrue (not failed || a) → IsTrue (not failed || b)
more_faults true a b m h = m h
more_faults false a b m h = refl

pub phase_then : (p : Phase) (q : ToldPhase) (all all' e e' : Bool) → IsTrue (is_answering p) → (IsTrue all → IsTrue all') → PhaseFits p q all e → PhaseFits p q all' e'
phase_then Off ToldOff all all' e e' a m h = tt
phase_then Off ToldUp all all' e e' a m h = m h
phase_then Off Stalled all all' e e' a m h = absurd h
phase_then Off ToldDead all all' e e' a m h = absurd h
phase_then Up q all all' e e' a m h = subst (λ q. PhaseFits Up q all' e') (sym (up_told q all e h)) tt
phase_then Dead q all all' e e' a m h = subst (λ q. PhaseFits Dead q all' e') (sym (dead_told q all e h)) tt
phase_then Still q all all' e e' a m h = absurd (false≢true a)
phase_then (Doomed f) q all all' e e' a m h = absurd (false≢true a)

doom_none : (p : Phase) (t : Told) → IsTrue (is_answering p) → DoomFits p t
doom_none Off t a = tt
doom_none Up t a = tt
doom_none Dead t a = tt
doom_none Still t a = absurd (false≢true a)
doom_none (Doomed f) t a = absurd (false≢true a)

-- an answer that leaves the phase and shows no debt
pub stays_after : (k : Key) (t u : Told) (o : Op) (r : Reply) (armed : Bool) → Later t o r u → IsTrue (is_answering k.phase) → k.owes ≡ false → is_mounted r ≡ false → is_expired r ≡ false →
    (is_told_up t.state.phase && is_ok r && is_stall o) ≡ false → (is_told_up t.state.phase && is_ok r && is_unmount o) ≡ false → IsTrue (not armed || (t.state.may_die || (calls_death o && is_ok r))) →
    Fits k t → Fits (record k { armed = armed; asked = None }) u
stays_after k t u o r armed l answers free m x s n arms g = record {
  phase =
      subst (λ q. PhaseFits k.phase q u.all u.faulted) (sym (ap (λ z. z.phase) l.state ∙ phase_stays t.state.phase o r m s n))
      (phase_then k.phase t.state.phase t.all u.all t.faulted u.faulted answers l.all g.phase);
  owing =
      subst (λ d. OwingFits k.owes d) (sym (ap (λ z. z.debt) l.state))
      (subst (λ w. OwingFits w (debt_after t.state.debt o r)) (sym free) (debt_none t.state.debt o r x (subst (λ w. OwingFits w t.state.debt) free g.owing)));
  calm = g.calm;
  armed = subst (λ w. IsTrue (not armed || w)) (sym (ap (λ z. z.may_die) l.state)) (die_stays_so armed (is_mounted r) (t.state.may_die || (calls_death o && is_ok r)) m arms);
  failed = more_faults k.failed t.faulted u.faulted l.faulted g.failed;
  doomed = doom_none k.phase u answers;
  under = tt;
}
  where
    die_stays_so : (armed m w : Bool) → m ≡ false → IsTrue (not armed || w) → IsTrue (not armed || (not m && w))
    die_stays_so armed true w e h = absurd (false≢true (sym e))
    die_stays_so armed false w e h = h

-- a fixed answer of one that owes
owed_calm : (p : Phase) (owes b : Bool) → IsTrue (not (is_in_mount p && owes)) → IsTrue (not (is_in_mount p && (if b then false else owes)))
owed_calm Off owes b h = refl
owed_calm Dead owes b h = refl
owed_calm Up owes true h = refl
owed_calm Up owes false h = h
owed_calm Still owes true h = refl
owed_calm Still owes false h = h
owed_calm (Doomed f) owes true h = refl
owed_calm (Doomed f) owes false h = h

owe_mounts_not : (o : Op) (r : Reply) → IsTrue (may_owe o r) → is_mounted r ≡ false
owe_mounts_not o r h = go (is_unmount o) h
  where
    go : (u : Bool) → IsTrue (if u then is_ok r else is_expired r) → is_mounted r ≡ false
    go true h = ok_mounts_not r h
    go false h = expired_mounts_not r h

pub owed_after : (k : Key) (t u : Told) (o : Op) (r : Reply) → Later t o r u → IsTrue (is_answering k.phase) → k.owes ≡ true → IsTrue (may_owe o r) → is_told_up t.state.phase ≡ false → Fits k t →
    Fits (record k { owes = if is_unmount o && is_ok r then false else true; asked = None }) u
owed_after k t u o r l answers owes h low g = record {
  phase =
      subst (λ q. PhaseFits k.phase q u.all u.faulted)
      (sym (ap (λ z. z.phase) l.state ∙ phase_stays t.state.phase o r (owe_mounts_not o r h) (three_none (is_told_up t.state.phase) (is_ok r) (is_stall o) low) (three_none (is_told_up t.state.phase) (is_ok r) (is_unmount o) low)))
      (phase_then k.phase t.state.phase t.all u.all t.faulted u.faulted answers l.all g.phase);
  owing =
      subst (λ d. OwingFits (if is_unmount o && is_ok r then false else true) d) (sym (ap (λ z. z.debt) l.state))
      (debt_owed t.state.debt o r h (subst (λ w. OwingFits w t.state.debt) owes g.owing));
  calm = owed_calm k.phase true (is_unmount o && is_ok r) (subst (λ w. IsTrue (not (is_in_mount k.phase && w))) owes g.calm);
  armed =
      subst (λ w. IsTrue (not k.armed || w)) (sym (ap (λ z. z.may_die) l.state)) (die_stays k.armed (is_mounted r) t.state.may_die (calls_death o && is_ok r) (owe_mounts_not o r h) g.armed);
  failed = more_faults k.failed t.faulted u.faulted l.faulted g.failed;
  doomed = doom_none k.phase u answers;
  under = tt;
}

-- a mount
pub mounted_after : (k : Key) (t u : Told) → Later t op.Mount reply.Mounted u → k.owes ≡ false → Fits k t →
    Fits (record { phase = Up; owes = false; failed = false; armed = false; asked = None; saves = None }) u
mounted_after k t u l free g = record {
  phase = subst (λ q. PhaseFits Up q u.all u.faulted) (sym (ap (λ z. z.phase) l.state)) tt;
  owing = subst (λ d. OwingFits false d) (sym (ap (λ z. z.debt) l.state)) (debt_none t.state.debt op.Mount reply.Mounted refl (subst (λ w. OwingFits w t.state.debt) free g.owing));
  calm = refl;
  armed = refl;
  failed = refl;
  doomed = tt;
  under = tt;
}

-- an unmount of one that is up, and a stall
pub unmounted_after : (k : Key) (t u : Told) → Later t op.Unmount reply.Ok u → IsTrue (is_up k.phase) → k.owes ≡ false → Fits k t →
    Fits (record { phase = Off; owes = false; failed = k.failed; armed = false; asked = None; saves = None }) u
unmounted_after k t u l up free g = record {
  phase = subst (λ q. PhaseFits Off q u.all u.faulted) (sym (ap (λ z. z.phase) l.state ∙ ap (λ q. phase_after q op.Unmount reply.Ok) (up_told t.state.phase t.all t.faulted (subst (λ p. PhaseFits p t.state.phase t.all t.faulted) (phase_is k.phase up) g.phase)))) tt;
  owing = subst (λ d. OwingFits false d) (sym (ap (λ z. z.debt) l.state)) (debt_none t.state.debt op.Unmount reply.Ok refl (subst (λ w. OwingFits w t.state.debt) free g.owing));
  calm = refl;
  armed = refl;
  failed = more_faults k.failed t.faulted u.faulted l.faulted g.failed;
  doomed = tt;
  under = tt;
}

pub stalled_after : (k : Key) (t u : Told) → Later t op.Stall reply.Ok u → IsTrue (is_up k.phase) → k.owes ≡ false → Fits k t → Fits (record k { phase = Still; asked = None }) u
stalled_after k t u l up free g = record {
  phase = subst (λ q. PhaseFits Still q u.all u.faulted) (sym (ap (λ z. z.phase) l.state ∙ ap (λ q. phase_after q op.Stall reply.Ok) (up_told t.state.phase t.all t.faulted (subst (λ p. PhaseFits p t.state.phase t.all t.faulted) (phase_is k.phase up) g.phase)))) tt;
  owing = subst (λ d. OwingFits k.owes d) (sym (ap (λ z. z.debt) l.state)) (subst (λ w. OwingFits w (debt_after t.state.debt op.Stall reply.Ok)) (sym free) (debt_none t.state.debt op.Stall reply.Ok refl (subst (λ w. OwingFits w t.state.debt) free g.owing)));
  calm = subst (λ w. IsTrue (not (true && w))) (sym free) refl;
  armed = subst (λ w. IsTrue (not k.armed || w)) (sym (ap (λ z. z.may_die) l.state)) (die_stays k.armed false t.state.may_die (calls_death op.Stall && true) refl g.armed);
  failed = more_faults k.failed t.faulted u.faulted l.faulted g.failed;
  doomed = tt;
  under = tt;
}
