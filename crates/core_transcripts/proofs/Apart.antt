-- That no two lines have one number, by a test, is that each has its own.
use Rattle.std.proofs.Common.{ℕ, ◌≡◌, ◌↔◌, inl, inr, Bool, true, false, not, ◌||◌, ◌==◌, IsTrue, List, [], ◌∷◌, nat_eq, refl, ap, subst, sym}
use Rattle.std.proofs.lemmas.Bool.{false≢true, and_from, or_right, eqb-true, eq-eqb, and_parts}
use Rattle.std.specs.List.{list_any}
use Rattle.disk_definitions.proofs.Listed.{Among}
use Rattle.frang_base.specs.declared.script.Line.{Line}
use Rattle.core_laws.proofs.Membership.{contains_in, in_contains}
use Rattle.core_laws.proofs.Resting.{negated}
use Rattle.core_transcripts.specs.Answers.{HaveOwnNumbers, numbers_of}
use Rattle.core_transcripts.specs.Transcripts.{are_apart}

abbrev has_number : ℕ → List Line → Bool
has_number n lines = list_any (λ other. other.number == n) lines

-- a number is among those of the lines where the test finds it
among : (n : ℕ) (lines : List Line) → Among n (numbers_of lines) → has_number n lines ≡ true
among n [] i = absurd i
among n (line ∷ lines) (inl e) = subst (λ m. (nat_eq line.number m || has_number m lines) ≡ true) (sym e) (ap (λ b. b || has_number line.number lines) (eq-eqb line.number line.number refl))
among n (line ∷ lines) (inr i) = or_right (nat_eq line.number n) (has_number n lines) (among n lines i)

found : (n : ℕ) (lines : List Line) → has_number n lines ≡ true → Among n (numbers_of lines)
found n [] e = absurd (false≢true e)
found n (line ∷ lines) e = go (nat_eq line.number n) refl (λ f. found n lines f) e
  where
    go : (b : Bool) → nat_eq line.number n ≡ b → (has_number n lines ≡ true → Among n (numbers_of lines)) → (b || has_number n lines) ≡ true → Among n (numbers_of (line ∷ lines))
    go true f behind e = inl (sym (eqb-true line.number n f))
    go false f behind e = inr (behind e)

not_so : (b : Bool) → (b ≡ true → ⊥) → IsTrue (not b)
not_so true h = absurd (h refl)
not_so false h = refl

own_of_apart : (script : List Line) → IsTrue (are_apart script) → HaveOwnNumbers script
own_of_apart [] h = tt
own_of_apart (line ∷ lines) h = (
  (λ c. negated (has_number line.number lines) (and_parts (not (has_number line.number lines)) (are_apart lines) h).0
      (among line.number lines (contains_in (numbers_of lines) line.number c))),
  own_of_apart lines (and_parts (not (has_number line.number lines)) (are_apart lines) h).1,
)

pub apart_of_own : (script : List Line) → HaveOwnNumbers script → IsTrue (are_apart script)
apart_of_own [] h = refl
apart_of_own (line ∷ lines) h =
    and_from (not (has_number line.number lines)) (are_apart lines)
    (not_so (has_number line.number lines) (λ e. h.0 (in_contains (numbers_of lines) line.number (found line.number lines e)))) (apart_of_own lines h.1)

pub apart_is_own : (script : List Line) → IsTrue (are_apart script) ↔ HaveOwnNumbers script
apart_is_own script = (own_of_apart script, apart_of_own script)
