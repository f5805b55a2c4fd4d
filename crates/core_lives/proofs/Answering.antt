-- An open line whose answer is due: what it asks, and what the core is once it is answered.
use Rattle.std.proofs.Common.{◌≡◌, ℕ, Bool, true, false, not, ◌&&◌, if◌then◌else◌, IsTrue, IsSome, is_some, Option, Some, None, refl, sym, ap, ◌∙◌, subst}
use Rattle.std.proofs.lemmas.Bool.{and_parts, false≢true, not-true}
use Rattle.frang_base.specs.Functions.{put}
use Rattle.frang_base.specs.declared.op.Op.{Op}
use Rattle.frang_base.specs.declared.op.Op.TheVariants as op
use Rattle.frang_base.specs.declared.reply.Reply.{Reply}
use Rattle.lock_definitions.specs.Calls.{cleared}
use Rattle.tree_definitions.specs.Touched.{is_sync, is_unmount}
use Rattle.tree_definitions.specs.Transcript.{is_mount}
use Rattle.core_definitions.specs.Cores.{Core, due_at}
use Rattle.core_definitions.specs.LineEffects.{answered, answered_fixed, answered_open, answered_under, answered_with}
use Rattle.core_definitions.specs.Lines.{Under, operation_of}
use Rattle.core_definitions.specs.Servers.{asked_by, asks, due_under, is_answering, is_open, own_answer, own_answer_of}
use Rattle.core_laws.proofs.Memory.{opened}

-- ---- which operation

data Form (o : Op) : Type 0 where
  IsMount : o ≡ op.Mount → Form o
  IsUnmount : o ≡ op.Unmount → Form o
  IsSync : o ≡ op.Sync → Form o
  IsOther : is_mount o ≡ false → is_unmount o ≡ false → is_sync o ≡ false → Form o

form_of : (o : Op) → Form o
form_of (op.Create path) = IsOther refl refl refl
form_of (op.Mkdir path) = IsOther refl refl refl
form_of (op.Link path to) = IsOther refl refl refl
form_of (op.Symlink path target) = IsOther refl refl refl
form_of (op.Unlink path) = IsOther refl refl refl
form_of (op.Rmdir path) = IsOther refl refl refl
form_of (op.Rename path to) = IsOther refl refl refl
form_of (op.Write path off bytes) = IsOther refl refl refl
form_of (op.Fill path off len byte) = IsOther refl refl refl
form_of (op.Truncate path len) = IsOther refl refl refl
form_of (op.Read path off len) = IsOther refl refl refl
form_of (op.Stat path) = IsOther refl refl refl
form_of (op.List path) = IsOther refl refl refl
form_of (op.Readlink path) = IsOther refl refl refl
form_of (op.Time path) = IsOther refl refl refl
form_of op.Sync = IsSync refl
form_of op.Mount = IsMount refl
form_of op.Unmount = IsUnmount refl
form_of op.Crash = IsOther refl refl refl
form_of (op.CrashAt k) = IsOther refl refl refl
form_of (op.CutAt k) = IsOther refl refl refl
form_of op.Stall = IsOther refl refl refl

pub mount_is : (o : Op) → IsTrue (is_mount o) → o ≡ op.Mount
mount_is o h = go (form_of o)
  where
    go : Form o → o ≡ op.Mount
    go (IsMount e) = e
    go (IsUnmount e) = absurd (false≢true (subst (λ x. IsTrue (is_mount x)) e h))
    go (IsSync e) = absurd (false≢true (subst (λ x. IsTrue (is_mount x)) e h))
    go (IsOther m u s) = absurd (false≢true (sym m ∙ h))

pub unmount_is : (o : Op) → IsTrue (is_unmount o) → o ≡ op.Unmount
unmount_is o h = go (form_of o)
  where
    go : Form o → o ≡ op.Unmount
    go (IsMount e) = absurd (false≢true (subst (λ x. IsTrue (is_unmount x)) e h))
    go (IsUnmount e) = e
    go (IsSync e) = absurd (false≢true (subst (λ x. IsTrue (is_unmount x)) e h))
    go (IsOther m u s) = absurd (false≢true (sym u ∙ h))

pub sync_is : (o : Op) → IsTrue (is_sync o) → o ≡ op.Sync
sync_is o h = go (form_of o)
  where
    go : Form o → o ≡ op.Sync
    go (IsMount e) = absurd (false≢true (subst (λ x. IsTrue (is_sync x)) e h))
    go (IsUnmount e) = absurd (false≢true (subst (λ x. IsTrue (is_sync x)) e h))
    go (IsSync e) = e
    go (IsOther m u s) = absurd (false≢true (sym s ∙ h))

-- ---- the line

-- an open line of this operation, with the answer that is due
pub record IsOpenOf (c : Core) (a : ℕ) (operation : Op) : Type 0 where
  pub under : Under
  pub is : (c.servers a).under ≡ Some under
  pub of : operation_of under.line.what ≡ Some operation
  pub unfixed : is_some under.fixed ≡ false
  pub answer : Reply
  pub due : due_at c a ≡ Some answer
  pub own : own_answer c.setting.logs c.flights a (c.servers a) under operation ≡ Some answer

pub open_of : (c : Core) (a : ℕ) (test : Op → Bool) (operation : Op) → ((o : Op) → IsTrue (test o) → o ≡ operation) → IsTrue (asks test (c.servers a)) → IsSome (due_at c a) →
    IsOpenOf c a operation
open_of c a test operation only asked due = by (c.servers a).under refl asked
  where
    answered_as : (under : Under) → (c.servers a).under ≡ Some under → operation_of under.line.what ≡ Some operation → is_some under.fixed ≡ false → (o : Option Reply) →
        due_at c a ≡ o → IsSome o → IsOpenOf c a operation
    answered_as under u of unfixed None e h = absurd (false≢true h)
    answered_as under u of unfixed (Some answer) e h = record {
      under = under;
      is = u;
      of = of;
      unfixed = unfixed;
      answer = answer;
      due = e;
      own = subst (λ o. own_answer_of c.setting.logs c.flights a (c.servers a) under o ≡ Some answer) of
          (opened (is_answering (c.servers a).phase) under.fixed (own_answer_of c.setting.logs c.flights a (c.servers a) under (operation_of under.line.what)) answer
          (sym (ap (λ o. if is_answering (c.servers a).phase then due_under c.setting.logs c.flights a (c.servers a) o else None) u) ∙ e) unfixed);
    }

    by : (u : Option Under) → (c.servers a).under ≡ u → IsTrue (is_open test u) → IsOpenOf c a operation
    by None e h = absurd (false≢true h)
    by (Some under) e h = go (operation_of under.line.what) refl (and_parts (not (is_some under.fixed)) (asked_by test (operation_of under.line.what)) h).1
      where
        go : (o : Option Op) → operation_of under.line.what ≡ o → IsTrue (asked_by test o) → IsOpenOf c a operation
        go None f g = absurd (false≢true g)
        go (Some x) f g =
            answered_as under e (f ∙ ap Some (only x g)) (not-true _ (and_parts (not (is_some under.fixed)) (asked_by test (operation_of under.line.what)) h).0) (due_at c a) refl due

-- the core once it is answered
abbrev pub answered_so : (c : Core) (a : ℕ) → Under → Op → Reply → Bool → Core
answered_so c a under operation answer fixed = record c {
  servers = put c.servers a (record (if fixed then answered_fixed (c.servers a) operation answer else answered_open c under (c.servers a) operation answer) { under = None });
  locks = if is_unmount operation && not fixed then cleared c.locks a else c.locks;
  answered = put c.answered under.line.number true;
}

pub answered_is : (c : Core) (a : ℕ) (operation : Op) (x : IsOpenOf c a operation) → answered c a ≡ answered_so c a x.under operation x.answer false
answered_is c a operation x =
    ap (λ u. answered_under c a u (due_at c a)) x.is ∙ ap (λ d. answered_under c a (Some x.under) d) x.due ∙ ap (λ o. answered_with c a x.under x.answer o) x.of
    ∙ ap (λ b. answered_so c a x.under operation x.answer b) x.unfixed
