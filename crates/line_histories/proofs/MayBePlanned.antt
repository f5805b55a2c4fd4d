-- The test of what may be planned says what may be asked of a plan and has a path.
use Rattle.std.proofs.Common.{ℕ, ◌≡◌, ◌<◌, ◌≤◌, ◌&&◌, Bool, true, false, nat_lt, nat_le, List, [], ◌∷◌, length, refl, arith}
use Rattle.std.proofs.lemmas.Bool.{and_parts, and_from}
use Rattle.std.proofs.lemmas.Bool.Decides.{nat_tests}
use Rattle.std.specs.List.{AllByRecursion, list_all}
use Rattle.frang_base.specs.Name.{is_name, is_target, is_target_byte}
use Rattle.frang_base.specs.declared.op.Op.{Op}
use Rattle.frang_base.specs.declared.op.Op.TheVariants as op
use Rattle.disk_definitions.specs.Allowed.{AreNames, IsTarget, AreBytes, IsAllowed}
use Rattle.line_laws.specs.Laws.{HasPath}
use Rattle.line_histories.specs.LinePlans.{are_names, may_be_planned}
use Rattle.line_histories.specs.Outcomes.{TestSaysWhatIsAllowed}

all_pass : {X : Type 0} (f : X → Bool) (xs : List X) → AllByRecursion (λ x. f x ≡ true) xs → list_all f xs ≡ true
all_pass f [] a = refl
all_pass f (x ∷ xs) a = rw (a.0, all_pass f xs a.1) refl

pass_all : {X : Type 0} (f : X → Bool) (xs : List X) → list_all f xs ≡ true → AllByRecursion (λ x. f x ≡ true) xs
pass_all f [] e = tt
pass_all f (x ∷ xs) e = let p = and_parts (f x) (list_all f xs) e in (p.0, pass_all f xs p.1)

small : (b : ℕ) → b < 256 → nat_lt b 256 ≡ true
small b l = grind (arith, nat_tests)

is_small : (b : ℕ) → nat_lt b 256 ≡ true → b < 256
is_small b e = grind (arith, nat_tests)

bytes_pass : (xs : List ℕ) → AreBytes xs → list_all (λ b. nat_lt b 256) xs ≡ true
bytes_pass [] a = refl
bytes_pass (x ∷ xs) a = rw (small x a.0, bytes_pass xs a.1) refl

pass_bytes : (xs : List ℕ) → list_all (λ b. nat_lt b 256) xs ≡ true → AreBytes xs
pass_bytes [] e = tt
pass_bytes (x ∷ xs) e = let p = and_parts (nat_lt x 256) (list_all (λ b. nat_lt b 256) xs) e in (is_small x p.0, pass_bytes xs p.1)

target_passes : (target : List ℕ) → IsTarget target → is_target target ≡ true
target_passes target t =
    let some : 1 ≤ length target = t.some in
    let few : length target ≤ 384 = t.few in
    let a : nat_lt 0 (length target) ≡ true = grind (arith, nat_tests) in
    let b : nat_le (length target) 384 ≡ true = grind (arith, nat_tests) in
    rw (a, b, t.bytes) refl

passes_target : (target : List ℕ) → is_target target ≡ true → IsTarget target
passes_target target e = go (nat_lt 0 (length target)) refl (nat_le (length target) 384) refl (list_all is_target_byte target) refl e
  where
    go : (a : Bool) → nat_lt 0 (length target) ≡ a → (b : Bool) → nat_le (length target) 384 ≡ b → (c : Bool) → list_all is_target_byte target ≡ c → (a && b && c) ≡ true → IsTarget target
    go true p true q true r e = record { some = grind (arith, nat_tests); few = grind (arith, nat_tests); bytes = r }
    go true p true q false r e = absurd (cc)
    go true p false q c r e = absurd (cc)
    go false p b q c r e = absurd (cc)

names_pass : (path : List (List ℕ)) → AreNames path → are_names path ≡ true
names_pass path a = all_pass is_name path a

pass_names : (path : List (List ℕ)) → are_names path ≡ true → AreNames path
pass_names path e = pass_all is_name path e

pub may : (o : Op) → IsAllowed o → HasPath o → may_be_planned o ≡ true
may (op.Create path) a p = names_pass path a
may (op.Mkdir path) a p = names_pass path a
may (op.Symlink path target) a p = and_from (are_names path) (is_target target) (names_pass path a.0) (target_passes target a.1)
may (op.Link path to) a p = and_from (are_names path) (are_names to) (names_pass path a.0) (names_pass to a.1)
may (op.Unlink path) a p = names_pass path a
may (op.Rmdir path) a p = names_pass path a
may (op.Rename path to) a p = and_from (are_names path) (are_names to) (names_pass path a.0) (names_pass to a.1)
may (op.Write path off bytes) a p = and_from (are_names path) (list_all (λ b. nat_lt b 256) bytes) (names_pass path a.0) (bytes_pass bytes a.1)
may (op.Fill path off len byte) a p = and_from (are_names path) (nat_lt byte 256) (names_pass path a.0) (small byte a.1)
may (op.Truncate path len) a p = names_pass path a
may (op.Read path off len) a p = names_pass path a
may (op.Stat path) a p = names_pass path a
may (op.List path) a p = names_pass path a
may (op.Readlink path) a p = names_pass path a
may (op.Time path) a p = names_pass path a
may _ a p = absurd p

pub allowed : (o : Op) → may_be_planned o ≡ true → IsAllowed o × HasPath o
allowed (op.Create path) e = (pass_names path e, tt)
allowed (op.Mkdir path) e = (pass_names path e, tt)
allowed (op.Symlink path target) e = let p = and_parts (are_names path) (is_target target) e in ((pass_names path p.0, passes_target target p.1), tt)
allowed (op.Link path to) e = let p = and_parts (are_names path) (are_names to) e in ((pass_names path p.0, pass_names to p.1), tt)
allowed (op.Unlink path) e = (pass_names path e, tt)
allowed (op.Rmdir path) e = (pass_names path e, tt)
allowed (op.Rename path to) e = let p = and_parts (are_names path) (are_names to) e in ((pass_names path p.0, pass_names to p.1), tt)
allowed (op.Write path off bytes) e = let p = and_parts (are_names path) (list_all (λ b. nat_lt b 256) bytes) e in ((pass_names path p.0, pass_bytes bytes p.1), tt)
allowed (op.Fill path off len byte) e = let p = and_parts (are_names path) (nat_lt byte 256) e in ((pass_names path p.0, is_small byte p.1), tt)
allowed (op.Truncate path len) e = (pass_names path e, tt)
allowed (op.Read path off len) e = (pass_names path e, tt)
allowed (op.Stat path) e = (pass_names path e, tt)
allowed (op.List path) e = (pass_names path e, tt)
allowed (op.Readlink path) e = (pass_names path e, tt)
allowed (op.Time path) e = (pass_names path e, tt)
allowed _ e = absurd (cc)

pub test_says : TestSaysWhatIsAllowed
test_says o = (allowed o, λ a. may o a.0 a.1)
