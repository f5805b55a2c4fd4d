-- What is wanted at a sector: of the writes that aren't acknowledged, of looks, and of what waits and what is issued.
use Rattle.std.proofs.Common.{◌≡◌, ◌≢◌, ⊎_elim, ℕ, Bool, true, false, not, if◌then◌else◌, cond, List, [], ◌∷◌, Option, Some, None, is_some, refl, sym, ap, ◌∙◌, subst}
use Rattle.std.proofs.lemmas.Bool.{cases_eq}
use Rattle.std.proofs.lemmas.Map.Entries.{lookup-filter-keys}
use Rattle.std.specs.BTreeMap.{is_at}
use Rattle.std.specs.List.{cons_option}
use Rattle.std.specs.List.Sorted.{IsStrictlySortedBy}
use Rattle.std.specs.Option.{option_and_then}
use Rattle.std.specs.Ordering.{nat_cmp}
use Rattle.frang_base.specs.Functions.{member}
use Rattle.sector_bytes.specs.Blocks.{Block}
use Rattle.sector_bytes.specs.SectorMaps.{Ascend, value_at}
use Rattle.sector_bytes.proofs.MapLaws.{AllAbove, absent, found}
use Rattle.core_definitions.specs.Logs.{is_none}
use Rattle.recovery_demon.specs.Replays.{left_of, look_write, looked_writes}
use Rattle.log_slots.proofs.Maps.{member_here, member_other, nothing_at}

pub nil_of : {X : Type 0} (xs : List X) → is_none xs ≡ true → xs ≡ []
nil_of [] e = refl
nil_of (x ∷ xs) e = cc e

-- ---- the writes that aren't acknowledged

pub left_at : (xs : List (ℕ × Block)) (written : List ℕ) (s : ℕ) → value_at (left_of xs written) s ≡ (if member s written then None else value_at xs s)
left_at xs written s =
    lookup-filter-keys (is_at (nat_cmp s)) (λ k. not (member k written)) (not (member s written)) (λ k h. ap (λ n. not (member n written)) (found s k h)) xs ∙ turned (member s written) (value_at xs s)
  where
    turned : (b : Bool) (o : Option Block) → cond (not b) o None ≡ (if b then None else o)
    turned true o = refl
    turned false o = refl

-- none are left, and none of them once one more is acknowledged
pub none_left : (xs : List (ℕ × Block)) (written : List ℕ) (s : ℕ) → left_of xs written ≡ [] → left_of xs (s ∷ written) ≡ []
none_left xs written s e = nothing_at (left_of xs (s ∷ written)) (λ x. left_at xs (s ∷ written) x ∙ ⊎_elim (λ h. at x h) (λ h. other x h) (cases_eq x s))
  where
    at : (x : ℕ) → x ≡ s → (if member x (s ∷ written) then None else value_at xs x) ≡ None
    at x h = ap (λ b. if b then None else value_at xs x) (subst (λ n. member x (n ∷ written) ≡ true) h (member_here x written))

    other : (x : ℕ) → x ≢ s → (if member x (s ∷ written) then None else value_at xs x) ≡ None
    other x h = ap (λ b. if b then None else value_at xs x) (member_other x s written h) ∙ sym (left_at xs written x) ∙ ap (λ ws. value_at ws x) e

-- ---- what looks want

join : Option (Option Block) → Option Block
join o = option_and_then (λ wanted. wanted) o

pub looked_at : (looked : List (ℕ × Option Block)) (s : ℕ) → Ascend looked → value_at (looked_writes looked) s ≡ option_and_then (λ wanted. wanted) (value_at looked s)
unfolding IsStrictlySortedBy
looked_at [] s sorted = refl
looked_at (look ∷ looked) s sorted = go look.1 (is_at (nat_cmp s) look.0) refl (looked_at looked s sorted.1)
  where
    go : (wanted : Option Block) (b : Bool) → is_at (nat_cmp s) look.0 ≡ b → value_at (looked_writes looked) s ≡ option_and_then (λ wanted. wanted) (value_at looked s) →
        value_at (cons_option (look_write (look.0, wanted)) (looked_writes looked)) s ≡ option_and_then (λ wanted. wanted) (if b then Some wanted else value_at looked s)
    go (Some block) true is rest = ap (λ b. if b then Some block else value_at (looked_writes looked) s) is
    go (Some block) false is rest = ap (λ b. if b then Some block else value_at (looked_writes looked) s) is ∙ rest
    go None true is rest =
        rest ∙ ap (option_and_then (λ wanted. wanted)) (absent s looked (subst (λ n. AllAbove n looked) (found s look.0 is) sorted.0))
    go None false is rest = rest

-- ---- what waits and what is issued

module _ (want : ℕ → Option Block) (waiting flying all : List (ℕ × Block)) where
  -- nothing waits and nothing is issued: nothing is wanted
  pub nothing_wanted : ((s : ℕ) → value_at all s ≡ want s) → ((s : ℕ) → value_at waiting s ≡ (if is_some (value_at flying s) then None else want s)) → waiting ≡ [] → flying ≡ [] → all ≡ []
  nothing_wanted is waits w f =
      nothing_at all (λ s. is s ∙ sym (ap (λ fs. if is_some (value_at fs s) then None else want s) f) ∙ sym (waits s) ∙ ap (λ ws. value_at ws s) w)

  -- nothing is wanted: nothing waits and nothing is issued
  pub nothing_flies : ((s : ℕ) → value_at all s ≡ want s) → ((s : ℕ) (block : Block) → value_at flying s ≡ Some block → want s ≡ Some block) → all ≡ [] → flying ≡ []
  nothing_flies is flies e = nothing_at flying (λ s. go s (value_at flying s) refl)
    where
      go : (s : ℕ) (o : Option Block) → value_at flying s ≡ o → o ≡ None
      go s None h = refl
      go s (Some block) h = let none : want s ≡ None = sym (is s) ∙ ap (λ ws. value_at ws s) e in let some : want s ≡ Some block = flies s block h in cc (sym some ∙ none)

  pub nothing_waits : ((s : ℕ) → value_at all s ≡ want s) → ((s : ℕ) → value_at waiting s ≡ (if is_some (value_at flying s) then None else want s)) → all ≡ [] → waiting ≡ []
  nothing_waits is waits e = nothing_at waiting (λ s. waits s ∙ ap (λ o. if is_some (value_at flying s) then None else o) (sym (is s) ∙ ap (λ ws. value_at ws s) e) ∙ both (is_some (value_at flying s)) None refl)
    where
      both : (b : Bool) (o : Option Block) → o ≡ None → (if b then None else o) ≡ None
      both true o e = refl
      both false o e = e
