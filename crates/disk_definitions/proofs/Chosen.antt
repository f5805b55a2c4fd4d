-- A choice by a place, case by case.
use Rattle.std.proofs.Common.{◌≡◌, ◌≢◌, ℕ, ◌==◌, if◌then◌else◌, inl, inr, refl}
use Rattle.std.proofs.lemmas.Bool.{cases_eq, eq-eqb, ne_eqb}

pub chosen : {X : Type 0} (k j : ℕ) (r a b : X) → (k ≡ j → r ≡ a) → (k ≢ j → r ≡ b) → r ≡ (if k == j then a else b)
chosen k j r a b same other = elim (cases_eq k j) [ inl e ↦ rw (eq-eqb k j e) (same e) | inr n ↦ rw (ne_eqb k j n) (other n) ]

pub chosen_same : {X : Type 0} (k j : ℕ) (a b : X) → k ≡ j → (if k == j then a else b) ≡ a
chosen_same k j a b e = rw (eq-eqb k j e) refl

pub chosen_other : {X : Type 0} (k j : ℕ) (a b : X) → k ≢ j → (if k == j then a else b) ≡ b
chosen_other k j a b n = rw (ne_eqb k j n) refl
