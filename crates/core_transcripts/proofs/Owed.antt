-- What is due of a server at each change of it: as a line begins or is answered, a call fails, and it is doomed, dies or goes on.
use Rattle.std.proofs.Common.{ℕ, ◌≡◌, ◌≤◌, ◌+◌, Bool, true, false, ◌&&◌, ◌||◌, if◌then◌else◌, IsTrue, Option, Some, None, refl, sym, ap, ◌∙◌, subst, arith}
use Rattle.std.proofs.lemmas.Bool.{false≢true, or_left, and_parts}
use Rattle.std.specs.Option.{option_map}
use Rattle.std.proofs.Math.Nat.{le_refl}
use Rattle.frang_base.specs.declared.op.Op.{Op}
use Rattle.frang_base.specs.declared.op.Op.TheVariants as op
use Rattle.frang_base.specs.declared.reply.Reply.{Reply}
use Rattle.frang_base.specs.declared.reply.Reply.TheVariants as reply
use Rattle.tree_definitions.specs.Touched.{is_unmount}
use Rattle.tree_definitions.specs.Transcript.{is_crash, is_io, is_mount}
use Rattle.core_definitions.specs.Lines.{Under, operation_of}
use Rattle.core_definitions.specs.Logs.{is_read}
use Rattle.core_definitions.specs.Servers.{Phase, Off, Up, Still, Doomed, Dead, Server, answer_at_first, due_if, is_answering, is_clean, is_doomed, is_in_mount, is_off, is_still, is_synced, is_up, mount_answer, own_answer}
use Rattle.core_definitions.specs.Cores.{Core}
use Rattle.core_definitions.specs.LineEffects.{answered_open, failed_by, refused_under}
use Rattle.core_definitions.specs.WriteEffects.{fixed_for, under_at_death}
use Rattle.core_transcripts.proofs.Fits.{asked_of, key_of}
use Rattle.core_transcripts.proofs.Walking.{IsPlain}
use Rattle.core_transcripts.proofs.Due.{answer_due, asked_due, at_most_one, death_due, io_due, one_if}

none_least : (n : ℕ) → 0 ≤ n
none_least n = omega arith

left_more : (m n : ℕ) → n ≤ m + n
left_more m n = omega arith

right_more : (m n k : ℕ) → k ≤ m → k ≤ m + n
right_more m n k h = omega (arith, h)

-- ---- phases

pub answering_awake : (p : Phase) → IsTrue (is_answering p) → is_doomed p ≡ false
answering_awake Off h = refl
answering_awake Up h = refl
answering_awake Dead h = refl
answering_awake Still h = absurd (false≢true h)
answering_awake (Doomed f) h = absurd (false≢true h)

pub up_awake : (p : Phase) → IsTrue (is_up p) → is_doomed p ≡ false
up_awake Up h = refl
up_awake Off h = absurd (false≢true h)
up_awake Still h = absurd (false≢true h)
up_awake (Doomed f) h = absurd (false≢true h)
up_awake Dead h = absurd (false≢true h)

pub off_awake : (p : Phase) → IsTrue (is_off p) → is_doomed p ≡ false
off_awake Off h = refl
off_awake Up h = absurd (false≢true h)
off_awake Still h = absurd (false≢true h)
off_awake (Doomed f) h = absurd (false≢true h)
off_awake Dead h = absurd (false≢true h)

pub mounted_in : (p : Phase) → IsTrue (is_up p || is_still p) → is_in_mount p ≡ true
mounted_in Up h = refl
mounted_in Still h = refl
mounted_in Off h = absurd (false≢true h)
mounted_in (Doomed f) h = refl
mounted_in Dead h = absurd (false≢true h)

-- from one phase of a mount to another
pub mount_same : (p q : Phase) (failed : Bool) → is_in_mount p ≡ true → is_in_mount q ≡ true → one_if (is_in_mount q && failed) ≡ one_if (is_in_mount p && failed)
mount_same p q failed e f = ap (λ b. one_if (b && failed)) (f ∙ sym e)

pub up_mounted : (p : Phase) → IsTrue (is_up p) → is_in_mount p ≡ true
up_mounted p h = mounted_in p (or_left (is_up p) (is_still p) h)

-- ---- a line begins

-- the answer that is fixed then is no `io`
pub first_due : (server : Server) (o : Op) → answer_due (answer_at_first server o) false ≡ 0
first_due server o = go server.owes (is_unmount o) (is_mount o) (is_up server.phase)
  where
    go : (w u m p : Bool) →
        answer_due (if w then Some (if u then reply.Ok else reply.Expired) else (if m then (if p then Some reply.Already else None) else (if p then None else Some reply.Down))) false ≡ 0
    go true true m p = refl
    go true false m p = refl
    go false u true true = refl
    go false u true false = refl
    go false u false true = refl
    go false u false false = refl

begins_with : (d n m : ℕ) → m ≡ 0 → d + m ≤ (d + n) + 0
begins_with d n m e = omega (arith, e)

pub begun_due : (server : Server) (o : Op) (d n : ℕ) → d + answer_due (answer_at_first server o) false ≤ (d + n) + 0
begun_due server o d n = begins_with d n (answer_due (answer_at_first server o) false) (first_due server o)

-- ---- a call fails

fails_with : (d e a : ℕ) → e ≤ 1 → e + a ≤ (d + a) + 1
fails_with d e a h = omega (arith, h)

pub failed_due : (server : Server) → io_due (key_of (failed_by server)) ≤ io_due (key_of server) + 1
failed_due server =
    fails_with (death_due (key_of server)) (death_due (key_of (failed_by server))) (asked_due (key_of server).asked)
    (at_most_one (is_in_mount server.phase && (server.failed || is_in_mount server.phase)))

less_one : (d e : ℕ) → e ≤ 1 → e ≤ d + 1
less_one d e h = omega (arith, h)

pub failed_deaths : (server : Server) → death_due (key_of (failed_by server)) ≤ death_due (key_of server) + 1
failed_deaths server =
    less_one (death_due (key_of server)) (death_due (key_of (failed_by server))) (at_most_one (is_in_mount server.phase && (server.failed || is_in_mount server.phase)))

-- a get under a mount
refused_answer : (fixed : Option Reply) (got : Bool) → answer_due fixed true ≤ answer_due fixed got + 1
refused_answer (Some r) got = right_more (one_if (is_io r)) 1 (one_if (is_io r)) (le_refl (one_if (is_io r)))
refused_answer None got = left_more (one_if got) 1

refused_asked : (o : Option Under) → asked_due (option_map asked_of (option_map refused_under o)) ≤ asked_due (option_map asked_of o) + 1
refused_asked None = none_least (0 + 1)
refused_asked (Some u) = refused_answer u.fixed u.get_failed

refuses_with : (d a b : ℕ) → b ≤ a + 1 → d + b ≤ (d + a) + 1
refuses_with d a b h = omega (arith, h)

pub refused_due : (d : ℕ) (o : Option Under) → d + asked_due (option_map asked_of (option_map refused_under o)) ≤ (d + asked_due (option_map asked_of o)) + 1
refused_due d o = refuses_with d (asked_due (option_map asked_of o)) (asked_due (option_map asked_of (option_map refused_under o))) (refused_asked o)

-- ---- a death

death_io : (failed crash : Bool) → one_if (is_io (if crash then reply.Ok else (if failed then reply.Io else reply.Down))) ≤ one_if failed
death_io failed true = none_least (one_if failed)
death_io true false = le_refl 1
death_io false false = le_refl 0

fixed_died : (failed got : Bool) (w : Option Op) → answer_due (fixed_for failed w) got ≤ one_if failed + one_if got
fixed_died failed got None = left_more (one_if failed) (one_if got)
fixed_died failed got (Some o) =
    right_more (one_if failed) (one_if got) (one_if (is_io (if is_crash o then reply.Ok else (if failed then reply.Io else reply.Down)))) (death_io failed (is_crash o))

under_died : (failed : Bool) (u : Under) (fixed : Option Reply) →
    answer_due (under_at_death failed (record u { fixed = fixed })).fixed (under_at_death failed (record u { fixed = fixed })).get_failed ≤ one_if failed + answer_due fixed u.get_failed
under_died failed u (Some r) = left_more (one_if failed) (one_if (is_io r))
under_died failed u None = fixed_died failed u.get_failed (operation_of u.line.what)

pub died_asked : (failed : Bool) (o : Option Under) → asked_due (option_map asked_of (option_map (under_at_death failed) o)) ≤ one_if failed + asked_due (option_map asked_of o)
died_asked failed None = none_least (one_if failed + 0)
died_asked failed (Some u) = under_died failed u u.fixed

dies_with : (f a b : ℕ) → b ≤ f + a → (0 + b) + 0 ≤ (f + a) + 0
dies_with f a b h = omega (arith, h)

pub died_due : (failed : Bool) (o : Option Under) →
    (0 + asked_due (option_map asked_of (option_map (under_at_death failed) o))) + 0 ≤ (one_if failed + asked_due (option_map asked_of o)) + 0
died_due failed o = dies_with (one_if failed) (asked_due (option_map asked_of o)) (asked_due (option_map asked_of (option_map (under_at_death failed) o))) (died_asked failed o)

-- ---- an answer that was open

-- its server isn't doomed then, no more of its deaths is due, and it is `io` only where a get failed under the line
pub record IsOpenPaid (server v : Server) (u : Under) (r : Reply) : Type 0 where
  pub awake : is_doomed v.phase ≡ false
  pub deaths : death_due (key_of v) ≤ death_due (key_of server)
  pub io : one_if (is_io r) ≤ one_if u.get_failed

none_some : {P : Type 0} (r : Reply) → None ≡ Some r → P
none_some r e = absurd (cc)

same_some : (x r : Reply) → Some x ≡ Some r → r ≡ x
same_some x r e = cc

if_due : (b : Bool) (x r : Reply) → due_if b x ≡ Some r → IsTrue b × (r ≡ x)
if_due true x r e = (refl, same_some x r e)
if_due false x r e = none_some r e

module _ (c : Core) (a : ℕ) (u : Under) (server : Server) where
  abbrev Paid : Op → Reply → Type 0
  Paid o r = IsOpenPaid server (answered_open c u server o r) u r

  mount_paid : (r : Reply) (b : Bool) → is_off server.phase ≡ b → (if b then mount_answer c.setting.logs u else None) ≡ Some r → Paid op.Mount r
  mount_paid r false e due = none_some r due
  mount_paid r true e due = go u.get_failed refl due
    where
      go : (g : Bool) → u.get_failed ≡ g → (if g then Some reply.Io else due_if (is_read c.setting.logs u.slots) reply.Mounted) ≡ Some r → Paid op.Mount r
      go true f d =
          subst (λ r. Paid op.Mount r) (sym (same_some reply.Io r d))
          (record { awake = off_awake server.phase e; deaths = le_refl (death_due (key_of server)); io = subst (λ g. 1 ≤ one_if g) (sym f) (le_refl 1) })
      go false f d =
          subst (λ r. Paid op.Mount r) (sym (if_due (is_read c.setting.logs u.slots) reply.Mounted r d).1)
          (record { awake = refl; deaths = none_least (death_due (key_of server)); io = none_least (one_if u.get_failed) })

  -- `ok` of one that is up
  ok_paid : (o : Op) (r : Reply) (b : Bool) → (IsTrue b → IsTrue (is_up server.phase)) → due_if b reply.Ok ≡ Some r → (IsTrue (is_up server.phase) → Paid o reply.Ok) → Paid o r
  ok_paid o r b up due paid = let d : IsTrue b × (r ≡ reply.Ok) = if_due b reply.Ok r due in subst (λ r. Paid o r) (sym d.1) (paid (up d.0))

  up_paid : (v : Server) → v.phase ≡ server.phase → v.failed ≡ server.failed → IsTrue (is_up server.phase) → IsOpenPaid server v u reply.Ok
  up_paid v p f up = record {
    awake = ap is_doomed p ∙ up_awake server.phase up;
    deaths = subst (λ n. n ≤ death_due (key_of server)) (sym (ap (λ q. one_if (is_in_mount q && v.failed)) p ∙ ap (λ q. one_if (is_in_mount server.phase && q)) f)) (le_refl (death_due (key_of server)));
    io = none_least (one_if u.get_failed);
  }

  pub open_paid : (o : Op) (r : Reply) → own_answer c.setting.logs c.flights a server u o ≡ Some r → IsOpenPaid server (answered_open c u server o r) u r
  open_paid op.Mount r due = mount_paid r (is_off server.phase) refl due
  open_paid op.Sync r due =
      ok_paid op.Sync r (is_up server.phase && is_synced server) (λ h. (and_parts (is_up server.phase) (is_synced server) h).0) due (up_paid server refl refl)
  open_paid op.Unmount r due =
      record { awake = refl; deaths = none_least (death_due (key_of server)); io = subst (λ r. one_if (is_io r) ≤ one_if u.get_failed) (sym ok) (none_least (one_if u.get_failed)) }
    where
      ok : r ≡ reply.Ok
      ok = (if_due (is_up server.phase && is_clean c.flights a server) reply.Ok r due).1
  open_paid (op.CrashAt k) r due =
      ok_paid (op.CrashAt k) r (is_up server.phase) (λ h. h) due (up_paid (answered_open c u server (op.CrashAt k) reply.Ok) refl refl)
  open_paid (op.CutAt k) r due =
      ok_paid (op.CutAt k) r (is_up server.phase) (λ h. h) due (up_paid (answered_open c u server (op.CutAt k) reply.Ok) refl refl)
  open_paid op.Stall r due =
      ok_paid op.Stall r (is_up server.phase) (λ h. h) due
      (λ up. record {
        awake = refl;
        deaths = subst (λ n. n ≤ death_due (key_of server)) (sym (mount_same server.phase Still server.failed (up_mounted server.phase up) refl)) (le_refl (death_due (key_of server)));
        io = none_least (one_if u.get_failed);
      })
  open_paid o r due = none_some r due

-- ---- a reply of a line's own is no `io`

pub plain_io : (r : Reply) → IsPlain r → is_io r ≡ false
plain_io reply.Down p = absurd p
plain_io reply.Expired p = absurd p
plain_io reply.Io p = absurd p
plain_io reply.Already p = absurd p
plain_io reply.Mounted p = absurd p
plain_io r p = refl
