-- An answer that is fixed refuses the line, or is `ok` to a crash, or to an unmount of a server that owes; one that isn't is that of a mount, or `ok` to a line that has no path.
use Rattle.std.proofs.Common.{ℕ, ◌≡◌, Bool, true, false, not, ◌&&◌, ◌||◌, if◌then◌else◌, IsTrue, Some, None, refl, sym, ap, ◌∙◌, subst, ⊎_elim}
use Rattle.std.proofs.lemmas.Bool.{and_parts, false≢true, not-true, or_cases}
use Rattle.std.proofs.lemmas.Option.{same_Some}
use Rattle.frang_base.specs.declared.op.Op.{Op}
use Rattle.frang_base.specs.declared.op.Op.TheVariants as op
use Rattle.frang_base.specs.declared.reply.Reply.{Reply}
use Rattle.frang_base.specs.declared.reply.Reply.TheVariants as reply
use Rattle.tree_definitions.specs.History.{leaves_tree}
use Rattle.tree_definitions.specs.Touched.{is_mounted, is_ok, is_sync, is_unmount}
use Rattle.tree_definitions.specs.Transcript.{ServerState, Phase as ToldPhase, is_already, is_crash, is_down, is_expired, is_io, is_mount, is_off as is_told_off, is_up as is_told_up, may_answer_by, may_mount, may_owe, may_refuse}
use Rattle.tree_definitions.specs.Transcript.Phase.{Off as ToldOff, Up as ToldUp, Stalled, Dead as ToldDead}
use Rattle.core_definitions.specs.Flights.{Flights}
use Rattle.core_definitions.specs.Lines.{Under}
use Rattle.core_definitions.specs.Logs.{is_read}
use Rattle.core_definitions.specs.Servers.{Phase, Off, Up, Still, Doomed, Dead, Server, due_if, is_off, is_synced, is_up, is_clean, mount_answer, own_answer}
use Rattle.core_definitions.specs.Settings.{LogRules}
use Rattle.core_lives.proofs.Answering.{unmount_is}
use Rattle.core_transcripts.proofs.Fits.{LineFits, PhaseFits}

-- ---- refusals

abbrev is_refusal : Reply → Bool
is_refusal reply.Down = true
is_refusal reply.Expired = true
is_refusal reply.Io = true
is_refusal reply.Already = true
is_refusal _ = false

down_refuses : (r : Reply) → is_down r ≡ true → is_refusal r ≡ true
down_refuses reply.Down h = refl
down_refuses r h = absurd (false≢true h)

expired_refuses : (r : Reply) → is_expired r ≡ true → is_refusal r ≡ true
expired_refuses reply.Expired h = refl
expired_refuses r h = absurd (false≢true h)

io_refuses : (r : Reply) → is_io r ≡ true → is_refusal r ≡ true
io_refuses reply.Io h = refl
io_refuses r h = absurd (false≢true h)

already_refuses : (r : Reply) → is_already r ≡ true → is_refusal r ≡ true
already_refuses reply.Already h = refl
already_refuses r h = absurd (false≢true h)

refusal_leaves : (o : Op) (r : Reply) → is_refusal r ≡ true → leaves_tree o r ≡ true
refusal_leaves o reply.Down h = refl
refusal_leaves o reply.Expired h = refl
refusal_leaves o reply.Io h = refl
refusal_leaves o reply.Already h = refl
refusal_leaves o r h = absurd (false≢true h)

refusal_mounts_none : (r : Reply) → is_refusal r ≡ true → is_mounted r ≡ false
refusal_mounts_none reply.Mounted h = absurd (false≢true h)
refusal_mounts_none r h = refl

refusal_is_not_ok : (r : Reply) → is_refusal r ≡ true → is_ok r ≡ true → ⊥
refusal_is_not_ok reply.Ok h k = false≢true h
refusal_is_not_ok r h k = false≢true k

ok_is : (r : Reply) → is_ok r ≡ true → r ≡ reply.Ok
ok_is reply.Ok h = refl
ok_is r h = absurd (false≢true h)

crash_is : (o : Op) → is_crash o ≡ true → o ≡ op.Crash
crash_is op.Crash h = refl
crash_is o h = absurd (false≢true h)

-- ---- an answer that was fixed

pub data IsFixed (owes : Bool) (o : Op) (r : Reply) : Type 0 where
  Refuses : is_refusal r ≡ true → IsFixed owes o r
  Crashes : is_crash o ≡ true → is_ok r ≡ true → IsFixed owes o r
  Pays : is_unmount o ≡ true → is_ok r ≡ true → owes ≡ true → IsFixed owes o r

owed : (o : Op) (r : Reply) → IsTrue (may_owe o r) → IsFixed true o r
owed o r h = go (is_unmount o) refl h
  where
    go : (b : Bool) → is_unmount o ≡ b → IsTrue (if b then is_ok r else is_expired r) → IsFixed true o r
    go true e k = Pays e k refl
    go false e k = Refuses (expired_refuses r k)

mounting : (owes : Bool) (q : ToldPhase) (j e : Bool) (o : Op) (r : Reply) → is_mounted r ≡ false → IsTrue (may_mount q j e r) → IsFixed owes o r
mounting owes q j e o r not_mounted h =
    ⊎_elim first (λ k. Refuses (io_refuses r (and_parts e (is_io r) k).1)) (or_cases ((is_told_off q && is_mounted r) || ((is_told_up q || j) && is_already r)) (e && is_io r) h)
  where
    first : ((is_told_off q && is_mounted r) || ((is_told_up q || j) && is_already r)) ≡ true → IsFixed owes o r
    first k =
        ⊎_elim (λ m. absurd (false≢true (sym not_mounted ∙ (and_parts (is_told_off q) (is_mounted r) m).1)))
        (λ m. Refuses (already_refuses r (and_parts (is_told_up q || j) (is_already r) m).1)) (or_cases (is_told_off q && is_mounted r) ((is_told_up q || j) && is_already r) k)

refusing : (owes : Bool) (j e : Bool) (o : Op) (r : Reply) → IsTrue (may_refuse j e o r) → IsFixed owes o r
refusing owes j e o r h =
    ⊎_elim (λ k. Refuses (down_refuses r k)) (λ k. inner (and_parts j ((is_crash o && is_ok r) || (e && is_io r)) k).1) (or_cases (is_down r) (j && ((is_crash o && is_ok r) || (e && is_io r))) h)
  where
    inner : ((is_crash o && is_ok r) || (e && is_io r)) ≡ true → IsFixed owes o r
    inner k =
        ⊎_elim (λ m. let p = and_parts (is_crash o) (is_ok r) m in Crashes p.0 p.1) (λ m. Refuses (io_refuses r (and_parts e (is_io r) m).1)) (or_cases (is_crash o && is_ok r) (e && is_io r) k)

-- of a server that is off or dead
either_way : (q : ToldPhase) (j e : Bool) (o : Op) (r : Reply) → is_mounted r ≡ false → IsTrue (if is_mount o then may_mount q j e r else may_refuse j e o r) → IsFixed false o r
either_way q j e o r not_mounted h = go (is_mount o) h
  where
    go : (b : Bool) → IsTrue (if b then may_mount q j e r else may_refuse j e o r) → IsFixed false o r
    go true k = mounting false q j e o r not_mounted k
    go false k = refusing false j e o r k

unowed : (p : ToldPhase) (j e : Bool) (o : Op) (r : Reply) → IsTrue (may_answer_by p j e o r && (not (is_expired r) && not (is_mounted r))) → IsTrue (may_answer_by p j e o r) × (is_mounted r ≡ false)
unowed p j e o r h =
    let a = and_parts (may_answer_by p j e o r) (not (is_expired r) && not (is_mounted r)) h in (a.0, not-true (is_mounted r) (and_parts (not (is_expired r)) (not (is_mounted r)) a.1).1)

off_free : (q : ToldPhase) (all faulted j : Bool) (o : Op) (r : Reply) → PhaseFits Off q all faulted → (IsTrue all → ⊥) →
    IsTrue (may_answer_by q j faulted o r && (not (is_expired r) && not (is_mounted r))) → IsFixed false o r
off_free ToldOff all faulted j o r fits none h = let a = unowed ToldOff j faulted o r h in either_way ToldOff j faulted o r a.1 a.0
off_free ToldUp all faulted j o r fits none h = absurd (none fits)
off_free Stalled all faulted j o r fits none h = absurd fits
off_free ToldDead all faulted j o r fits none h = absurd fits

dead_free : (q : ToldPhase) (all faulted j : Bool) (o : Op) (r : Reply) → PhaseFits Dead q all faulted → IsTrue (may_answer_by q j faulted o r && (not (is_expired r) && not (is_mounted r))) → IsFixed false o r
dead_free ToldDead all faulted j o r fits h = let a = unowed ToldDead j faulted o r h in either_way ToldDead j faulted o r a.1 a.0
dead_free ToldOff all faulted j o r fits h = absurd fits
dead_free ToldUp all faulted j o r fits h = absurd fits
dead_free Stalled all faulted j o r fits h = absurd fits

pub fixed_form : (p : Phase) (owes : Bool) (t : ServerState) (all faulted : Bool) (o : Op) (r : Reply) (got : Bool) → PhaseFits p t.phase all faulted → (IsTrue all → ⊥) →
    LineFits p owes t faulted o (Some r) got → IsFixed owes o r
fixed_form Off true t all faulted o r got fits none h = owed o r h
fixed_form Off false t all faulted o r got fits none h = off_free t.phase all faulted t.just_died o r fits none h
fixed_form Dead true t all faulted o r got fits none h = owed o r h
fixed_form Dead false t all faulted o r got fits none h = dead_free t.phase all faulted t.just_died o r fits h
fixed_form Up owes t all faulted o r got fits none h = Refuses (already_refuses r (and_parts (is_mount o) (is_already r) h).1)
fixed_form Still owes t all faulted o r got fits none h = absurd h
fixed_form (Doomed fate) owes t all faulted o r got fits none h = Refuses (already_refuses r (and_parts (is_mount o) (is_already r) h).1)

-- what it says

module _ (owes : Bool) (o : Op) (r : Reply) where
  pub fixed_leaves : IsFixed owes o r → leaves_tree o r ≡ true
  fixed_leaves (Refuses h) = refusal_leaves o r h
  fixed_leaves (Crashes c k) = ap (λ x. leaves_tree x r) (crash_is o c) ∙ ap (leaves_tree op.Crash) (ok_is r k)
  fixed_leaves (Pays u k w) = ap (λ x. leaves_tree x r) (unmount_is o u) ∙ ap (leaves_tree op.Unmount) (ok_is r k)

  pub fixed_mounts_none : IsFixed owes o r → is_mounted r ≡ false
  fixed_mounts_none (Refuses h) = refusal_mounts_none r h
  fixed_mounts_none (Crashes c k) = ap is_mounted (ok_is r k)
  fixed_mounts_none (Pays u k w) = ap is_mounted (ok_is r k)

  pub fixed_syncs_none : IsFixed owes o r → is_sync o ≡ true → is_ok r ≡ true → ⊥
  fixed_syncs_none (Refuses h) s k = refusal_is_not_ok r h k
  fixed_syncs_none (Crashes c j) s k = false≢true (sym (ap is_sync (crash_is o c)) ∙ s)
  fixed_syncs_none (Pays u j w) s k = false≢true (sym (ap is_sync (unmount_is o u)) ∙ s)

  pub fixed_pays : IsFixed owes o r → is_unmount o ≡ true → is_ok r ≡ true → owes ≡ true
  fixed_pays (Refuses h) u k = absurd (refusal_is_not_ok r h k)
  fixed_pays (Crashes c j) u k = absurd (false≢true (sym (ap is_unmount (crash_is o c)) ∙ u))
  fixed_pays (Pays v j w) u k = w

-- ---- an answer of a line's own

-- it leaves the tree, and is `mounted` only to a mount
pub record IsOwn (o : Op) (r : Reply) : Type 0 where
  pub leaves : leaves_tree o r ≡ true
  pub mounts : is_mounted r ≡ true → is_mount o ≡ true

said_if : (b : Bool) (x r : Reply) → due_if b x ≡ Some r → x ≡ r
said_if true x r e = same_Some x r e
said_if false x r e = absurd (cc)

own_ok : (o : Op) (r : Reply) (b : Bool) → leaves_tree o reply.Ok ≡ true → due_if b reply.Ok ≡ Some r → IsOwn o r
own_ok o r b h e = let same = said_if b reply.Ok r e in
    record { leaves = subst (λ x. leaves_tree o x ≡ true) same h; mounts = λ m. absurd (false≢true (subst (λ x. is_mounted x ≡ true) (sym same) m)) }

mount_leaves : (logs : LogRules) (under : Under) (r : Reply) → mount_answer logs under ≡ Some r → leaves_tree op.Mount r ≡ true
mount_leaves logs under r e = go under.get_failed (is_read logs under.slots) e
  where
    go : (a b : Bool) → (if a then Some reply.Io else due_if b reply.Mounted) ≡ Some r → leaves_tree op.Mount r ≡ true
    go true b k = ap (leaves_tree op.Mount) (sym (same_Some reply.Io r k))
    go false b k = ap (leaves_tree op.Mount) (sym (said_if b reply.Mounted r k))

module _ (logs : LogRules) (flights : Flights) (number : ℕ) (server : Server) (under : Under) (r : Reply) where
  off_mounts : (b : Bool) → (if b then mount_answer logs under else None) ≡ Some r → leaves_tree op.Mount r ≡ true
  off_mounts true e = mount_leaves logs under r e
  off_mounts false e = absurd (cc)

  pub own_form : (o : Op) → own_answer logs flights number server under o ≡ Some r → IsOwn o r
  own_form op.Mount e = record { leaves = off_mounts (is_off server.phase) e; mounts = λ m. refl }
  own_form op.Sync e = own_ok op.Sync r (is_up server.phase && is_synced server) refl e
  own_form op.Unmount e = own_ok op.Unmount r (is_up server.phase && is_clean flights number server) refl e
  own_form (op.CrashAt k) e = own_ok (op.CrashAt k) r (is_up server.phase) refl e
  own_form (op.CutAt k) e = own_ok (op.CutAt k) r (is_up server.phase) refl e
  own_form op.Stall e = own_ok op.Stall r (is_up server.phase) refl e
  own_form o e = absurd (cc)
