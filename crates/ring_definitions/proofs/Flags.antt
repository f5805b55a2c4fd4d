-- Which of the numbers above the acknowledged ones are acknowledged: none of these is on its way, and passing them keeps that.
use Rattle.std.proofs.Common.{◌≡◌, ℕ, zero, suc, ◌+◌, ◌<◌, ◌≤◌, ◌⊎◌, inl, inr, Bool, true, false, List, [], ◌∷◌, ◌++◌, length, slice_set, refl, ap, ◌∙◌, arith}
use Rattle.ring_definitions.specs.Rings.{Ring, passed}

-- of each number from this one on whether it is acknowledged, which none is that flies
abbrev pub AreFlags : (ℕ → Bool) → ℕ → List Bool → Type 0
AreFlags flies from [] = Unit {0}
AreFlags flies from (b ∷ bs) = (b ≡ true → flies (from + 1) ≡ false) × AreFlags flies (from + 1) bs

pub flags_kept : (f g : ℕ → Bool) (from : ℕ) (bs : List Bool) → ((n : ℕ) → from < n → n ≤ from + length bs → f n ≡ false → g n ≡ false) → AreFlags f from bs → AreFlags g from bs
flags_kept f g from [] keep h = tt
flags_kept f g from (b ∷ bs) keep h = (λ t. keep (from + 1) (omega arith) (omega arith) (h.0 t), flags_kept f g (from + 1) bs (λ n l u. keep n (omega arith) (omega arith)) h.1)

pub flags_push : (f : ℕ → Bool) (from : ℕ) (bs : List Bool) → AreFlags f from bs → AreFlags f from (bs ++ false ∷ [])
flags_push f from [] h = (λ t. absurd (cc), tt)
flags_push f from (b ∷ bs) h = (h.0, flags_push f (from + 1) bs h.1)

pub flags_set : (f : ℕ → Bool) (from k : ℕ) (bs : List Bool) → AreFlags f from bs → f (from + 1 + k) ≡ false → AreFlags f from (slice_set bs k true)
flags_set f from k [] h e = tt
flags_set f from zero (b ∷ bs) h e = let z : from + 1 ≡ from + 1 + 0 = omega arith in (λ t. ap f z ∙ e, h.1)
flags_set f from (suc k) (b ∷ bs) h e = let z : from + 1 + 1 + k ≡ from + 1 + suc k = omega arith in (h.0, flags_set f (from + 1) k bs h.1 (ap f z ∙ e))

-- a ring that has passed the acknowledged numbers, from one on
pub record IsPassed (flies : ℕ → Bool) (r : Ring) (from end : ℕ) (q : Ring) : Type 0 where
  pub low : from ≤ q.reached
  pub sent : q.reached + length q.above ≡ end
  pub none : (n : ℕ) → from < n → n ≤ q.reached → flies n ≡ false
  pub flags : AreFlags flies q.reached q.above
  pub given_up : q.given_up ≡ r.given_up
  pub waiting : q.waiting ≡ r.waiting
  pub named : q.named ≡ r.named

further : (flies : ℕ → Bool) (r : Ring) (from sent : ℕ) (q : Ring) → flies (from + 1) ≡ false → IsPassed flies r (from + 1) sent q → IsPassed flies r from sent q
further flies r from sent q here p = record {
  low = low q.reached p.low;
  sent = p.sent;
  none = λ n l h. none n h (first_or_later n l);
  flags = p.flags;
  given_up = p.given_up;
  waiting = p.waiting;
  named = p.named;
}
  where
    low : (n : ℕ) → from + 1 ≤ n → from ≤ n
    low n h = omega arith

    first_or_later : (n : ℕ) → from < n → (n ≡ from + 1) ⊎ (from + 1 < n)
    first_or_later n l = grind arith

    none : (n : ℕ) → n ≤ q.reached → (n ≡ from + 1) ⊎ (from + 1 < n) → flies n ≡ false
    none n h (inl e) = ap flies e ∙ here
    none n h (inr l) = p.none n l h

pub passed_is : (flies : ℕ → Bool) (r : Ring) (from sent : ℕ) (bs : List Bool) → from + length bs ≡ sent → AreFlags flies from bs → IsPassed flies r from sent (passed r from bs)
passed_is flies r from sent [] e h = record { low = omega arith; sent = e; none = λ n l u. absurd (omega arith); flags = tt; given_up = refl; waiting = refl; named = refl }
passed_is flies r from sent (true ∷ bs) e h = further flies r from sent (passed r (from + 1) bs) (h.0 refl) (passed_is flies r (from + 1) sent bs (omega arith) h.1)
passed_is flies r from sent (false ∷ bs) e h = record { low = omega arith; sent = e; none = λ n l u. absurd (omega arith); flags = h; given_up = refl; waiting = refl; named = refl }
