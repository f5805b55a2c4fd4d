-- What holds of an operation over whatever paths holds of what it comes to once links are followed.
use Rattle.std.proofs.Common.{ℕ, ◌≡◌, Bool, true, false, List, [], ◌∷◌, refl}
use Rattle.frang_base.specs.declared.op.Op.{Op}
use Rattle.frang_base.specs.declared.op.Op.TheVariants as op
use Rattle.tree_definitions.specs.Tree.{FileTree}
use Rattle.tree_definitions.specs.Resolve.{WalkEnd, At, Refused, Resolution, resolve}
use Rattle.tree_definitions.specs.Perform.{Step, Goes, Stops, step_of, is_found, by_second, by_first, resolved, perform, perform_step}
use Rattle.tree_laws.specs.Refusals.{is_look, says_ok}
use Rattle.tree_laws.proofs.Refusals.{refusals_leave, looks_leave}

-- where an operation goes on, this holds of it
abbrev pub IsOf : (Op → Type 0) → Step → Type 0
IsOf P (Goes o) = P o
IsOf P (Stops reply) = Unit {0}

-- this holds of an operation over whatever paths
abbrev pub Shaped : (Op → Type 0) → Op → Type 0
Shaped P (op.Create path) = (p : List (List ℕ)) → P (op.Create p)
Shaped P (op.Mkdir path) = (p : List (List ℕ)) → P (op.Mkdir p)
Shaped P (op.Symlink path target) = (p : List (List ℕ)) → P (op.Symlink p target)
Shaped P (op.Link path to) = (p q : List (List ℕ)) → P (op.Link p q)
Shaped P (op.Unlink path) = (p : List (List ℕ)) → P (op.Unlink p)
Shaped P (op.Rmdir path) = (p : List (List ℕ)) → P (op.Rmdir p)
Shaped P (op.Rename path to) = (p q : List (List ℕ)) → P (op.Rename p q)
Shaped P (op.Write path off bytes) = (p : List (List ℕ)) → P (op.Write p off bytes)
Shaped P (op.Fill path off len byte) = (p : List (List ℕ)) → P (op.Fill p off len byte)
Shaped P (op.Truncate path len) = (p : List (List ℕ)) → P (op.Truncate p len)
Shaped P (op.Read path off len) = (p : List (List ℕ)) → P (op.Read p off len)
Shaped P (op.Stat path) = (p : List (List ℕ)) → P (op.Stat p)
Shaped P (op.List path) = (p : List (List ℕ)) → P (op.List p)
Shaped P (op.Readlink path) = (p : List (List ℕ)) → P (op.Readlink p)
Shaped P (op.Time path) = (p : List (List ℕ)) → P (op.Time p)
Shaped P op.Sync = P op.Sync
Shaped P op.Mount = P op.Mount
Shaped P op.Unmount = P op.Unmount
Shaped P op.Crash = P op.Crash
Shaped P (op.CrashAt k) = P (op.CrashAt k)
Shaped P (op.CutAt k) = P (op.CutAt k)
Shaped P op.Stall = P op.Stall

module _ (P : Op → Type 0) where
  step_is : (end : WalkEnd) (make : List (List ℕ) → Op) → ((p : List (List ℕ)) → P (make p)) → IsOf P (step_of end make)
  step_is (At path found) make h = h path
  step_is (Refused reply) make h = tt

  second_is : (b : Bool) (trail : List ℕ) (walk : Resolution) (to : List (List ℕ)) (make : List (List ℕ) → Op) → ((p : List (List ℕ)) → P (make p)) → IsOf P (by_second b trail walk to make).step
  second_is true trail walk to make h = step_is walk.end make h
  second_is false trail walk to make h = h to

  first_is : (t : FileTree) (dirs : Bool) (end : WalkEnd) (trail : List ℕ) (walk : Resolution) (to : List (List ℕ)) (make : List (List ℕ) → List (List ℕ) → Op) → ((p q : List (List ℕ)) → P (make p q)) → IsOf P (by_first t dirs end trail walk to make).step
  first_is t dirs (At path found) trail walk to make h = second_is (is_found t dirs found) trail walk to (make path) (h path)
  first_is t dirs (Refused reply) trail walk to make h = tt

  -- what holds of an operation over whatever paths holds of what it comes to
  pub resolved_is : (t : FileTree) (o : Op) → Shaped P o → IsOf P (resolved t o).step
  resolved_is t (op.Create path) h = step_is (resolve t false path).end (λ p. op.Create p) h
  resolved_is t (op.Mkdir path) h = step_is (resolve t false path).end (λ p. op.Mkdir p) h
  resolved_is t (op.Symlink path target) h = step_is (resolve t false path).end (λ p. op.Symlink p target) h
  resolved_is t (op.Link path to) h = first_is t false (resolve t false path).end (resolve t false path).trail (resolve t false to) to (λ p q. op.Link p q) h
  resolved_is t (op.Unlink path) h = step_is (resolve t false path).end (λ p. op.Unlink p) h
  resolved_is t (op.Rmdir path) h = step_is (resolve t false path).end (λ p. op.Rmdir p) h
  resolved_is t (op.Rename [] to) h = h [] to
  resolved_is t (op.Rename (n ∷ ns) []) h = h (n ∷ ns) []
  resolved_is t (op.Rename (n ∷ ns) (m ∷ ms)) h = first_is t true (resolve t false (n ∷ ns)).end (resolve t false (n ∷ ns)).trail (resolve t false (m ∷ ms)) (m ∷ ms) (λ p q. op.Rename p q) h
  resolved_is t (op.Write path off bytes) h = step_is (resolve t true path).end (λ p. op.Write p off bytes) h
  resolved_is t (op.Fill path off len byte) h = step_is (resolve t true path).end (λ p. op.Fill p off len byte) h
  resolved_is t (op.Truncate path len) h = step_is (resolve t true path).end (λ p. op.Truncate p len) h
  resolved_is t (op.Read path off len) h = step_is (resolve t true path).end (λ p. op.Read p off len) h
  resolved_is t (op.Stat path) h = step_is (resolve t false path).end (λ p. op.Stat p) h
  resolved_is t (op.List path) h = step_is (resolve t true path).end (λ p. op.List p) h
  resolved_is t (op.Readlink path) h = step_is (resolve t false path).end (λ p. op.Readlink p) h
  resolved_is t (op.Time path) h = step_is (resolve t true path).end (λ p. op.Time p) h
  resolved_is t op.Sync h = h
  resolved_is t op.Mount h = h
  resolved_is t op.Unmount h = h
  resolved_is t op.Crash h = h
  resolved_is t (op.CrashAt k) h = h
  resolved_is t (op.CutAt k) h = h
  resolved_is t op.Stall h = h

-- a look
abbrev pub Looks : Op → Type 0
Looks o = is_look o ≡ true

looks_shaped : (o : Op) → Looks o → Shaped Looks o
looks_shaped (op.Read path off len) h = λ p. refl
looks_shaped (op.Stat path) h = λ p. refl
looks_shaped (op.List path) h = λ p. refl
looks_shaped (op.Readlink path) h = λ p. refl
looks_shaped (op.Time path) h = λ p. refl
looks_shaped _ h = absurd (cc)

pub resolved_looks : (t : FileTree) (o : Op) → Looks o → IsOf Looks (resolved t o).step
resolved_looks t o h = resolved_is Looks t o (looks_shaped o h)

pub step_looks_leave : (t : FileTree) (s : Step) (b when m : ℕ) → IsOf Looks s → (perform_step t s b when m).tree ≡ t
step_looks_leave t (Goes o) b when m h = looks_leave t o b when m h
step_looks_leave t (Stops reply) b when m h = refl

-- a look leaves the tree, whatever it is answered
pub performed_looks_leave : (t : FileTree) (o : Op) (b when m : ℕ) → Looks o → (perform t o b when m).tree ≡ t
performed_looks_leave t o b when m h = step_looks_leave t (resolved t o).step b when m (resolved_looks t o h)

step_refusals_leave : (t : FileTree) (s : Step) (b when m : ℕ) → says_ok (perform_step t s b when m).answer ≡ false → (perform_step t s b when m).tree ≡ t
step_refusals_leave t (Goes o) b when m h = refusals_leave t o b when m h
step_refusals_leave t (Stops reply) b when m h = refl

-- an answer other than `ok` leaves the tree
pub performed_refusals_leave : (t : FileTree) (o : Op) (b when m : ℕ) → says_ok (perform t o b when m).answer ≡ false → (perform t o b when m).tree ≡ t
performed_refusals_leave t o b when m h = step_refusals_leave t (resolved t o).step b when m h
