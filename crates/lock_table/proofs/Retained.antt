-- What is left of a list by a closure that makes the same of the same, whenever it is called.
use Rattle.std.proofs.Common.{◌≡◌, Bool, true, false, if◌then◌else◌, List, [], ◌∷◌, map, filter, refl, ap, ◌∙◌, subst}
use Rattle.std.specs.Map.Calls.{RetainsPairs}

kept_step : {K X : Type 0} (made : X → X) (test : K × X → Bool) (e : K × X) (w : X) (b : Bool) (zs rest kept : List (K × X)) → w ≡ made e.1 → b ≡ test (e.0, made e.1) → zs ≡ rest → kept ≡ (if b then (e.0, w) ∷ zs else zs)
    → (c : Bool) → test (e.0, made e.1) ≡ c → kept ≡ (if c then (e.0, made e.1) ∷ rest else rest)
kept_step made test e w b zs rest kept writes tests same is true passes = is ∙ ap (λ c. if c then (e.0, w) ∷ zs else zs) (tests ∙ passes) ∙ (λ i. (e.0, writes i) ∷ same i)
kept_step made test e w b zs rest kept writes tests same is false fails = is ∙ ap (λ c. if c then (e.0, w) ∷ zs else zs) (tests ∙ fails) ∙ same

-- a closure that writes what `made` makes of a value, and answers a test of that
pub kept_in_turn : {F K X : Type 0} (T : F → K → X → Bool → X → F → Type 0) (made : X → X) (test : K × X → Bool) (f : F) → ((k : K) (v : X) (b : Bool) (w : X) (g : F) → T f k v b w g → (w ≡ made v) × (b ≡ test (k, made v)) × (g ≡ f)) → (es kept : List (K × X)) → RetainsPairs T f es kept
    → kept ≡ filter test (map (λ e. (e.0, made e.1)) es)
kept_in_turn T made test f same [] kept is = is
kept_in_turn {F} {K} {X} T made test f same (e ∷ es) kept is =
    let step = same e.0 e.1 is.0 is.1 is.2 is.4 in
    kept_step made test e is.1 is.0 is.3 (filter test (map (λ x. (x.0, made x.1)) es)) kept step.0 step.1 (kept_in_turn T made test f same es is.3 (subst (λ g. RetainsPairs T g es is.3) step.2 is.5)) is.6 (test (e.0, made e.1)) refl
