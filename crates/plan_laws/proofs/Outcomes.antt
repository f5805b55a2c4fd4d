-- What a plan comes to by what its operation takes, and what that says of each end of a plan.
use Rattle.std.proofs.Common.{ℕ, ◌≡◌, ◌↔◌, ◌⊎◌, inl, inr, Bool, true, false, if◌then◌else◌, Option, Some, None, List, [], ◌++◌, refl, sym, ◌∙◌, ap, subst}
use Rattle.std.specs.Map.{keys_of}
use Rattle.std.proofs.lemmas.Option.{same_Some}
use Rattle.frang_base.specs.declared.reply.Reply.{Reply}
use Rattle.disk_definitions.specs.Store.{Store}
use Rattle.disk_definitions.specs.Picks.{picked_directory}
use Rattle.disk_definitions.specs.Ask.{run}
use Rattle.disk_definitions.specs.Plans.{Hand, Lock, Plan, Finish, none_left, must_clear, shared_nodes, sole_segments, says_full}
use Rattle.disk_definitions.specs.Plans.Plan.{Lacks, Clears, Finishes}
use Rattle.plan_laws.specs.Wants.{Wants}
use Rattle.plan_laws.specs.Exact.{FindsNothing}

-- finished, and not for want of space
abbrev pub IsPlain : Plan → Type 0
IsPlain Lacks = ⊥
IsPlain (Clears k locks) = ⊥
IsPlain (Finishes f) = says_full f.reply ≡ false

-- an allocation found nothing
abbrev pub IsEmpty : Hand → Plan → Type 0
IsEmpty h Lacks = h.all ≡ false
IsEmpty h (Clears k locks) = ⊥
IsEmpty h (Finishes f) = (h.all ≡ true) × (says_full f.reply ≡ true)

-- each allocation found something
abbrev pub IsFound : Hand → Wants → Plan → Type 0
IsFound h w Lacks = ⊥
IsFound h w (Clears k locks) = (w.grows ≡ true) × (picked_directory h.held ≡ Some k) × (must_clear h k ≡ true)
IsFound h w (Finishes f) = (says_full f.reply ≡ false) × ((k : ℕ) → w.grows ≡ true → picked_directory h.held ≡ Some k → must_clear h k ≡ false)

-- what the plan comes to
abbrev pub Outcome : Hand → Option Wants → Plan → Type 0
Outcome h None p = IsPlain p
Outcome h (Some w) p = (FindsNothing h.held w × IsEmpty h p) ⊎ ((FindsNothing h.held w → ⊥) × IsFound h w p)

-- ---- an allocation that found nothing

pub none_outcome : (h : Hand) (s : Store) (w : Wants) (r : Reply) (touched : List ℕ) → says_full r ≡ true → FindsNothing h.held w → Outcome h (Some w) (run (none_left h r touched) s)
none_outcome h s w r touched full nothing = inl (nothing, go h.all refl)
  where
    go : (b : Bool) → h.all ≡ b → IsEmpty h (if b then Finishes (record { reply = r; edits = []; locks = shared_nodes touched ++ sole_segments (keys_of h.held) }) else Lacks)
    go true e = (e, full)
    go false e = e

-- ---- the ends

pub not_both : {b : Bool} → b ≡ true → b ≡ false → ⊥
not_both t f = cc

module _ (h : Hand) where
  -- what is wanted is the one thing
  same_nothing : (w v : Wants) → Some w ≡ Some v → FindsNothing h.held w → FindsNothing h.held v
  same_nothing w v e nothing = subst (FindsNothing h.held) (same_Some w v e) nothing

  pub lacks_by : (o : Option Wants) (p : Plan) → Outcome h o p → (p ≡ Lacks) ↔ ((h.all ≡ false) × (w : Wants) × (o ≡ Some w) × FindsNothing h.held w)
  lacks_by None Lacks c = absurd c
  lacks_by None (Clears j locks) c = absurd c
  lacks_by None (Finishes f) c = (λ e. absurd (cc), λ r. absurd (let z : None ≡ Some r.1 = r.2 in cc))
  lacks_by (Some w) Lacks (inl c) = (λ e. (c.1, w, refl, c.0), λ r. refl)
  lacks_by (Some w) Lacks (inr c) = absurd c.1
  lacks_by (Some w) (Clears j locks) (inl c) = absurd c.1
  lacks_by (Some w) (Clears j locks) (inr c) = (λ e. absurd (cc), λ r. absurd (c.0 (same_nothing r.1 w (sym r.2) r.3)))
  lacks_by (Some w) (Finishes f) (inl c) = (λ e. absurd (cc), λ r. absurd (not_both c.1.0 r.0))
  lacks_by (Some w) (Finishes f) (inr c) = (λ e. absurd (cc), λ r. absurd (c.0 (same_nothing r.1 w (sym r.2) r.3)))

  pub full_by : (o : Option Wants) (p : Plan) → Outcome h o p → ((f : Finish) × (p ≡ Finishes f) × (says_full f.reply ≡ true)) ↔ ((h.all ≡ true) × (w : Wants) × (o ≡ Some w) × FindsNothing h.held w)
  full_by None Lacks c = absurd c
  full_by None (Clears j locks) c = absurd c
  full_by None (Finishes f) c = (λ e. absurd (let z : Finishes f ≡ Finishes e.0 = e.1 in let y : says_full e.0.reply ≡ true = e.2 in cc), λ r. absurd (let z : None ≡ Some r.1 = r.2 in cc))
  full_by (Some w) Lacks (inl c) = (λ e. absurd (let z : Lacks ≡ Finishes e.0 = e.1 in cc), λ r. absurd (not_both r.0 c.1))
  full_by (Some w) Lacks (inr c) = absurd c.1
  full_by (Some w) (Clears j locks) (inl c) = absurd c.1
  full_by (Some w) (Clears j locks) (inr c) = (λ e. absurd (let z : Clears j locks ≡ Finishes e.0 = e.1 in cc), λ r. absurd (c.0 (same_nothing r.1 w (sym r.2) r.3)))
  full_by (Some w) (Finishes f) (inl c) = (λ e. (c.1.0, w, refl, c.0), λ r. (f, refl, c.1.1))
  full_by (Some w) (Finishes f) (inr c) = (λ e. absurd (let z : Finishes f ≡ Finishes e.0 = e.1 in let y : says_full e.0.reply ≡ true = e.2 in let x : says_full f.reply ≡ false = c.1.0 in cc), λ r. absurd (c.0 (same_nothing r.1 w (sym r.2) r.3)))

  module _ (k : ℕ) where
    abbrev Cleared : Option Wants → Type 0
    Cleared o = (w : Wants) × (o ≡ Some w) × (w.grows ≡ true) × (FindsNothing h.held w → ⊥) × (picked_directory h.held ≡ Some k) × (must_clear h k ≡ true)

    there : (w : Wants) (j : ℕ) (locks : List Lock) → (FindsNothing h.held w → ⊥) → IsFound h w (Clears j locks) → j ≡ k → Cleared (Some w)
    there w j locks some c e = rw (sym e) (w, refl, c.0, some, c.1, c.2)

    pub clears_by : (o : Option Wants) (p : Plan) → Outcome h o p → ((locks : List Lock) × (p ≡ Clears k locks)) ↔ Cleared o
    clears_by None Lacks c = absurd c
    clears_by None (Clears j locks) c = absurd c
    clears_by None (Finishes f) c = (λ e. absurd (let z : Finishes f ≡ Clears k e.0 = e.1 in cc), λ r. absurd (let z : None ≡ Some r.0 = r.1 in cc))
    clears_by (Some w) Lacks (inl c) = (λ e. absurd (let z : Lacks ≡ Clears k e.0 = e.1 in cc), λ r. absurd (r.3 (same_nothing w r.0 r.1 c.0)))
    clears_by (Some w) Lacks (inr c) = absurd c.1
    clears_by (Some w) (Clears j locks) (inl c) = absurd c.1
    clears_by (Some w) (Clears j locks) (inr c) = (
      λ e. let i : j ≡ k = (let z : Clears j locks ≡ Clears k e.0 = e.1 in cc) in there w j locks c.0 c.1 i,
      λ r. let i : j ≡ k = same_Some j k (sym c.1.1 ∙ r.4) in (locks, ap (λ i. Clears i locks) i),
    )
    clears_by (Some w) (Finishes f) (inl c) = (λ e. absurd (let z : Finishes f ≡ Clears k e.0 = e.1 in cc), λ r. absurd (r.3 (same_nothing w r.0 r.1 c.0)))
    clears_by (Some w) (Finishes f) (inr c) = (
      λ e. absurd (let z : Finishes f ≡ Clears k e.0 = e.1 in cc),
      λ r. let i : w ≡ r.0 = same_Some w r.0 r.1 in absurd (not_both r.5 (c.1.1 k (ap (λ (v : Wants). v.grows) i ∙ r.2) r.4)),
    )
