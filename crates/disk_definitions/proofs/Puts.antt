-- Functions that are changed at one place, and lists of edits.
use Rattle.std.proofs.Common.{ℕ, ◌/◌, ◌%◌, ◌≡◌, ◌≢◌, [], ◌∷◌, nat_eq, if◌then◌else◌, refl, arith}
use Rattle.std.proofs.Math.Path.{fun_ext}
use Rattle.std.proofs.lemmas.Bool.Decides.{nat_tests}
use Rattle.std.proofs.lemmas.Bool.{eqb-true}
use Rattle.frang_base.specs.Functions.{put, put2}
use Rattle.frang_base.proofs.Basics.{by_test}
use Rattle.disk_definitions.specs.ChangeLaws.{EditsGoOn}
use Rattle.disk_definitions.specs.Edits.{put_part, edited}

pub put_twice : {X : Type 0} (f : ℕ → X) (k : ℕ) (v w : X) → put (put f k v) k w ≡ put f k w
put_twice f k v w = fun_ext (λ i. grind (arith, nat_tests))

-- two places apart
pub put_apart : {X : Type 0} (f : ℕ → X) (i k : ℕ) (v w : X) → i ≢ k → put (put f i v) k w ≡ put (put f k w) i v
put_apart f i k v w n = fun_ext (λ j. grind (arith, nat_tests))

-- what was there
pub put_back : {X : Type 0} (f : ℕ → X) (k : ℕ) (v : X) → f k ≡ v → put f k v ≡ f
put_back f k v e = fun_ext (λ j. grind (arith, nat_tests))

pub put2_same : {X : Type 0} (f : ℕ → ℕ → X) (k j : ℕ) (v : X) → put2 f k j v k j ≡ v
put2_same f k j v = grind (arith, nat_tests)

pub put2_other : {X : Type 0} (f : ℕ → ℕ → X) (k j : ℕ) (v : X) (i l : ℕ) → ((i ≡ k) → (l ≡ j) → ⊥) → put2 f k j v i l ≡ f i l
put2_other f k j v i l n =
    by_test (λ x. x ≡ f i l) (if nat_eq l j then v else f i l) (f i l) (nat_eq i k)
    (λ e. by_test (λ x. x ≡ f i l) v (f i l) (nat_eq l j) (λ t. absurd (n (eqb-true i k e) (eqb-true l j t))) (λ t. refl))
    (λ e. refl)

pub put2_twice : {X : Type 0} (f : ℕ → ℕ → X) (k j : ℕ) (v w : X) → put2 (put2 f k j v) k j w ≡ put2 f k j w
put2_twice f k j v w = fun_ext (λ i. fun_ext (λ l. grind (arith, nat_tests)))

pub put_part_same : (f : ℕ → ℕ → ℕ) (k part : ℕ) (bytes : ℕ → ℕ) (j : ℕ) → j / 512 ≡ part → put_part f k part bytes k j ≡ bytes (j % 512)
put_part_same f k part bytes j e = grind (arith, nat_tests)

pub put_part_other : (f : ℕ → ℕ → ℕ) (k part : ℕ) (bytes : ℕ → ℕ) (i j : ℕ) → ((i ≡ k) → (j / 512 ≡ part) → ⊥) → put_part f k part bytes i j ≡ f i j
put_part_other f k part bytes i j n =
    by_test (λ x. x ≡ f i j) (if nat_eq (j / 512) part then bytes (j % 512) else f i j) (f i j) (nat_eq i k)
    (λ e. by_test (λ x. x ≡ f i j) (bytes (j % 512)) (f i j) (nat_eq (j / 512) part) (λ t. absurd (n (eqb-true i k e) (eqb-true (j / 512) part t))) (λ t. refl))
    (λ e. refl)

pub edited_append : EditsGoOn
edited_append s [] fs = refl
edited_append s (e ∷ es) fs = edited_append (edited s e) es fs
