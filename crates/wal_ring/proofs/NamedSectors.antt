-- A test that each sector listed passes is one that each sector named passes.
use Rattle.std.proofs.Common.{◌≡◌, ℕ, Bool, true, false, ◌&&◌, List, [], ◌∷◌, fold, Result, Ok, Err, IfOk, refl, sym, ap, ◌∙◌}
use Rattle.std.specs.List.{list_all}
use Rattle.std.specs.BTreeMap.{insert_entry}
use Rattle.std.specs.Ordering.{nat_cmp, match_ordering}
use Rattle.std.specs.declared.cmp.Ordering.{Ordering}
use Rattle.std.specs.declared.cmp.Ordering.TheVariants.{Less, Equal, Greater}
use Rattle.std.proofs.lemmas.Map.Lookups.{exact_unsigned}
use Rattle.sector_bytes.specs.SectorMaps.{with_value}
use Rattle.ring_definitions.specs.declared.ring.Named.{Named}
use Rattle.ring_definitions.specs.Rings.{with_named}

swapped : (a b c : Bool) → (a && (b && c)) ≡ (b && (a && c))
swapped true b c = refl
swapped false true c = refl
swapped false false c = refl

twice : (a b : Bool) → (a && b) ≡ (a && (a && b))
twice true b = refl
twice false b = refl

and_true : (a : Bool) → a ≡ (a && true)
and_true true = refl
and_true false = refl

moved_over : (a b c : Bool) → ((a && b) && c) ≡ (b && (a && c))
moved_over true b c = refl
moved_over false true c = refl
moved_over false false c = refl

module _ (test : ℕ → Bool) where
  -- all listed sectors pass
  abbrev pub all_listed : List (ℕ × ℕ) → Bool
  all_listed entries = list_all (λ entry. test entry.0) entries

  -- all named sectors pass
  abbrev pub all_named : List Named → Bool
  all_named named = list_all (λ x. test x.sector.0) named

  with_one : (sector version : ℕ) (entries : List (ℕ × ℕ)) → all_listed (with_value entries sector version) ≡ (test sector && all_listed entries)
  with_one sector version [] = refl
  with_one sector version (entry ∷ entries) = go (nat_cmp sector entry.0) refl (with_one sector version entries)
    where
      go : (o : Ordering) → nat_cmp sector entry.0 ≡ o → all_listed (insert_entry nat_cmp entries sector version) ≡ (test sector && all_listed entries)
          → all_listed (match_ordering o ((sector, version) ∷ entry ∷ entries) ((entry.0, version) ∷ entries) (entry ∷ insert_entry nat_cmp entries sector version)) ≡ (test sector && (test entry.0 && all_listed entries))
      go Less is rest = refl
      go Equal is rest = twice (test entry.0) (all_listed entries) ∙ ap (λ s. test s && (test entry.0 && all_listed entries)) (sym (exact_unsigned sector entry.0 is))
      go Greater is rest = ap (λ b. test entry.0 && b) rest ∙ swapped (test entry.0) (test sector) (all_listed entries)

  with_all : (named : List Named) (entries : List (ℕ × ℕ)) → all_listed (fold with_named entries named) ≡ (all_listed entries && all_named named)
  with_all [] entries = and_true (all_listed entries)
  with_all (x ∷ named) entries = with_all named (with_named entries x) ∙ ap (λ b. b && all_named named) (with_one x.sector.0 _ entries) ∙ moved_over (test x.sector.0) (all_listed entries) (all_named named)

  pub listed_are_named : (named : List Named) → all_listed (fold with_named [] named) ≡ all_named named
  listed_are_named named = with_all named []

-- what follows from what holds of a value
pub if_ok : {T E : Type 0} (r : Result T E) (P Q : T → Type 0) → ((t : T) → P t → Q t) → IfOk r P → IfOk r Q
if_ok (Ok t) P Q follows holds = follows t holds
if_ok (Err e) P Q follows holds = tt
