-- Keys of maps and members of lists of numbers.
use Rattle.std.proofs.Common.{ℕ, ◌≡◌, inl, inr, Bool, true, false, if◌then◌else◌, cond, List, [], ◌∷◌, Some, IsTrue, is_some, nat_eq, refl, sym, ◌∙◌, arith}
use Rattle.std.proofs.lemmas.Bool.{false≢true, eq-eqb, eqb-true}
use Rattle.std.proofs.lemmas.Bool.Decides.{nat_tests}
use Rattle.std.specs.BTreeMap.{is_at}
use Rattle.std.specs.Map.{keys_of, lookup}
use Rattle.std.specs.Option.{unwrap_or}
use Rattle.std.specs.Ordering.{nat_cmp}
use Rattle.disk_definitions.proofs.Listed.{Among}
use Rattle.frang_base.specs.Functions.{member}
use Rattle.frang_base.specs.declared.lock.LockId.{LockId}
use Rattle.lock_definitions.specs.declared.claim.Claim.{Claim}
use Rattle.lock_definitions.specs.Order.{is_lock}
use Rattle.lock_definitions.specs.Locks.{Claims, claim_in, no_claim}
use Rattle.lock_definitions.specs.Calls.{asked_of}
use Rattle.lock_definitions.proofs.LockOrder.{found_lock}
use Rattle.sector_bytes.specs.SectorMaps.{value_at}
use Rattle.sector_bytes.proofs.MapLaws.{found}

-- ---- numbers

member_by : (b : Bool) (x y : ℕ) (ys : List ℕ) → nat_eq y x ≡ b → (IsTrue (member x ys) → Among x ys) → IsTrue (if b then true else member x ys) → Among x (y ∷ ys)
member_by true x y ys e rest h = inl (sym (eqb-true y x e))
member_by false x y ys e rest h = inr (rest h)

pub member_in : (x : ℕ) (xs : List ℕ) → IsTrue (member x xs) → Among x xs
member_in x [] h = absurd (cc)
member_in x (y ∷ ys) h = member_by (nat_eq y x) x y ys refl (member_in x ys) h

in_by : (b : Bool) (x y : ℕ) (ys : List ℕ) → nat_eq y x ≡ b → (Among x ys → IsTrue (member x ys)) → Among x (y ∷ ys) → IsTrue (if b then true else member x ys)
in_by true x y ys e rest i = refl
in_by false x y ys e rest (inl s) = absurd (false≢true (sym e ∙ eq-eqb y x (sym s)))
in_by false x y ys e rest (inr j) = rest j

pub in_member : (x : ℕ) (xs : List ℕ) → Among x xs → IsTrue (member x xs)
in_member x [] i = absurd i
in_member x (y ∷ ys) i = in_by (nat_eq y x) x y ys refl (in_member x ys) i

-- ---- maps by number

key_at : (s k : ℕ) → k ≡ s → is_at (nat_cmp s) k ≡ true
key_at s k e = grind (arith, nat_tests, e)

module _ {V : Type 0} where
  found_by : (b : Bool) (e : ℕ × V) (es : List (ℕ × V)) (s : ℕ) → is_at (nat_cmp s) e.0 ≡ b → (IsTrue (is_some (value_at es s)) → Among s (keys_of es)) →
      IsTrue (is_some (cond b (Some e.1) (value_at es s))) → Among s (e.0 ∷ keys_of es)
  found_by true e es s k rest h = inl (sym (found s e.0 k))
  found_by false e es s k rest h = inr (rest h)

  pub value_key : (xs : List (ℕ × V)) (s : ℕ) → IsTrue (is_some (value_at xs s)) → Among s (keys_of xs)
  value_key [] s h = absurd (cc)
  value_key (e ∷ es) s h = found_by (is_at (nat_cmp s) e.0) e es s refl (value_key es s) h

  there_by : (b : Bool) (e : ℕ × V) (es : List (ℕ × V)) (s : ℕ) → is_at (nat_cmp s) e.0 ≡ b → (Among s (keys_of es) → IsTrue (is_some (value_at es s))) →
      Among s (e.0 ∷ keys_of es) → IsTrue (is_some (cond b (Some e.1) (value_at es s)))
  there_by true e es s k rest i = refl
  there_by false e es s k rest (inl same) = absurd (false≢true (sym k ∙ key_at s e.0 (sym same)))
  there_by false e es s k rest (inr j) = rest j

  pub key_value : (xs : List (ℕ × V)) (s : ℕ) → Among s (keys_of xs) → IsTrue (is_some (value_at xs s))
  key_value [] s i = absurd i
  key_value (e ∷ es) s i = there_by (is_at (nat_cmp s) e.0) e es s refl (key_value es s) i

-- ---- claims by lock

claimed_by : (b : Bool) (e : LockId × Claim) (es : Claims) (lock : LockId) (shared sole : Bool) → is_lock lock e.0 ≡ b →
    (IsTrue (is_some (asked_of (claim_in es lock).held shared sole)) → Among lock (keys_of es)) →
    IsTrue (is_some (asked_of (unwrap_or (cond b (Some e.1) (lookup (is_lock lock) es)) no_claim).held shared sole)) → Among lock (e.0 ∷ keys_of es)
claimed_by true e es lock shared sole k rest h = inl (sym (found_lock lock e.0 k))
claimed_by false e es lock shared sole k rest h = inr (rest h)

-- a lock that is asked for is claimed
pub claimed : (claims : Claims) (lock : LockId) (shared sole : Bool) → IsTrue (is_some (asked_of (claim_in claims lock).held shared sole)) → Among lock (keys_of claims)
claimed [] lock shared sole h = absurd (cc)
claimed (e ∷ es) lock shared sole h = claimed_by (is_lock lock e.0) e es lock shared sole refl (claimed es lock shared sole) h
