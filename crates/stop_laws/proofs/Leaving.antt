-- What a recovery leaves of a list with one step more: from the first lost entry after the server's last mount on, none of the server's entries.
use Rattle.std.proofs.Common.{ℕ, ◌≡◌, ◌&&◌, ◌||◌, not, Bool, true, false, if◌then◌else◌, List, [], ◌∷◌, ◌++◌, filter, refl, sym, ◌∙◌, ap}
use Rattle.std.specs.List.{list_any}
use Rattle.std.proofs.lemmas.List.Elements.{filter-append}
use Rattle.std.proofs.lemmas.Bool.{or_parts}
use mathlib.Core.Bool.{and-true, or-false, or-true}
use Rattle.tree_definitions.specs.History.{Settled, after, after_all}
use Rattle.tree_definitions.specs.Removal.{begins_removal, is_lost, is_of, left, mounts}
use Rattle.tree_definitions.specs.Tree.{FileTree}

any_more : (test : Settled → Bool) (list : List Settled) (s : Settled) → list_any test (list ++ s ∷ []) ≡ list_any test list || test s
any_more test [] s = or-false (test s)
any_more test (x ∷ list) s = go (test x) (any_more test list s)
  where
    go : (b : Bool) → list_any test (list ++ s ∷ []) ≡ list_any test list || test s → b || list_any test (list ++ s ∷ []) ≡ (b || list_any test list) || test s
    go true e = refl
    go false e = e

module _ (server keeps : ℕ) where
  -- the removal begins somewhere in the list
  abbrev pub is_cut : FileTree → List Settled → Bool
  is_cut t [] = false
  is_cut t (x ∷ rest) = begins_removal server keeps t x rest || is_cut (after t x) rest

  -- the steps that aren't the server's
  abbrev pub others : List Settled → List Settled
  others list = filter (λ s. not (is_of server s)) list

  -- a step that doesn't mount the server doesn't change where the removal begins
  begins_alike : (t : FileTree) (x : Settled) (rest : List Settled) (s : Settled) → mounts server s ≡ false →
      begins_removal server keeps t x (rest ++ s ∷ []) ≡ begins_removal server keeps t x rest
  begins_alike t x rest s none =
      ap (λ b. is_lost server keeps t x && not b) (any_more (mounts server) rest s ∙ ap (λ b. list_any (mounts server) rest || b) none ∙ or-false (list_any (mounts server) rest))

  -- where it doesn't begin it doesn't with one step more
  begins_later : (t : FileTree) (x : Settled) (rest : List Settled) (s : Settled) → begins_removal server keeps t x rest ≡ false →
      begins_removal server keeps t x (rest ++ s ∷ []) ≡ false
  begins_later t x rest s none =
      ap (λ b. is_lost server keeps t x && not b) (any_more (mounts server) rest s)
      ∙ go (is_lost server keeps t x) (list_any (mounts server) rest) (mounts server s) none
    where
      go : (lost mounted more : Bool) → lost && not mounted ≡ false → lost && not (mounted || more) ≡ false
      go true true more e = refl
      go true false more e = absurd (cc)
      go false mounted more e = refl

  -- ---- the removal has begun

  pub record IsCutAfter (t : FileTree) (list : List Settled) (s : Settled) : Type 0 where
    pub cut : is_cut t (list ++ s ∷ []) ≡ true
    pub leaves : left server keeps t (list ++ s ∷ []) ≡ left server keeps t list ++ others (s ∷ [])

  pub cut_after : (t : FileTree) (list : List Settled) (s : Settled) → is_cut t list ≡ true → mounts server s ≡ false → IsCutAfter t list s
  cut_after t [] s cut none = absurd (cc)
  cut_after t (x ∷ list) s cut none = go (begins_removal server keeps t x list) refl cut (λ c. cut_after (after t x) list s c none)
    where
      same : begins_removal server keeps t x (list ++ s ∷ []) ≡ begins_removal server keeps t x list
      same = begins_alike t x list s none

      go : (b : Bool) → begins_removal server keeps t x list ≡ b → b || is_cut (after t x) list ≡ true → (is_cut (after t x) list ≡ true → IsCutAfter (after t x) list s) →
          IsCutAfter t (x ∷ list) s
      go true e c later = record {
        cut = ap (λ b. b || is_cut (after t x) (list ++ s ∷ [])) (same ∙ e);
        leaves =
            ap (λ (b : Bool). if b then others (list ++ s ∷ []) else x ∷ left server keeps (after t x) (list ++ s ∷ [])) (same ∙ e)
            ∙ filter-append (λ s. not (is_of server s)) list (s ∷ [])
            ∙ sym (ap (λ (b : Bool). (if b then others list else x ∷ left server keeps (after t x) list) ++ others (s ∷ [])) e);
      }
      go false e c later =
          let r = later c in
          record {
            cut = ap (λ b. b || is_cut (after t x) (list ++ s ∷ [])) (same ∙ e) ∙ r.cut;
            leaves =
                ap (λ (b : Bool). if b then others (list ++ s ∷ []) else x ∷ left server keeps (after t x) (list ++ s ∷ [])) (same ∙ e) ∙ ap (λ l. x ∷ l) r.leaves
                ∙ sym (ap (λ (b : Bool). (if b then others list else x ∷ left server keeps (after t x) list) ++ others (s ∷ [])) e);
          }

  -- ---- it hasn't

  pub whole : (t : FileTree) (list : List Settled) → is_cut t list ≡ false → left server keeps t list ≡ list
  whole t [] cut = refl
  whole t (x ∷ list) cut =
      let p = or_parts (begins_removal server keeps t x list) (is_cut (after t x) list) cut in
      ap (λ (b : Bool). if b then others list else x ∷ left server keeps (after t x) list) p.0 ∙ ap (λ l. x ∷ l) (whole (after t x) list p.1)

  -- it begins at the next step exactly where this is lost
  pub record IsWholeUpTo (t : FileTree) (list : List Settled) (s : Settled) (lost : Bool) : Type 0 where
    pub cut : is_cut t (list ++ s ∷ []) ≡ lost
    pub leaves : left server keeps t (list ++ s ∷ []) ≡ (if lost then list else list ++ s ∷ [])

  pub whole_up_to : (t : FileTree) (list : List Settled) (s : Settled) (lost : Bool) → is_cut t list ≡ false → is_lost server keeps (after_all t list) s ≡ lost →
      IsWholeUpTo t list s lost
  whole_up_to t [] s lost cut is = record { cut = or-false (begins_removal server keeps t s []) ∙ here; leaves = ap (λ (b : Bool). if b then [] else s ∷ []) here }
    where
      here : begins_removal server keeps t s [] ≡ lost
      here = and-true (is_lost server keeps t s) ∙ is
  whole_up_to t (x ∷ list) s lost cut is =
      let p = or_parts (begins_removal server keeps t x list) (is_cut (after t x) list) cut in
      let later = begins_later t x list s p.0 in
      let r = whole_up_to (after t x) list s lost p.1 is in
      record {
        cut = ap (λ b. b || is_cut (after t x) (list ++ s ∷ [])) later ∙ r.cut;
        leaves = ap (λ (b : Bool). if b then others (list ++ s ∷ []) else x ∷ left server keeps (after t x) (list ++ s ∷ [])) later ∙ ap (λ l. x ∷ l) r.leaves ∙ inside lost;
      }
    where
      inside : (b : Bool) → x ∷ (if b then list else list ++ s ∷ []) ≡ (if b then x ∷ list else x ∷ (list ++ s ∷ []))
      inside true = refl
      inside false = refl

  -- ---- a mount of the server: nothing before it is removed

  and_not_true : (b : Bool) → b && not true ≡ false
  and_not_true true = refl
  and_not_true false = refl

  begins_never : (t : FileTree) (x : Settled) (rest : List Settled) (s : Settled) → mounts server s ≡ true → begins_removal server keeps t x (rest ++ s ∷ []) ≡ false
  begins_never t x rest s is =
      ap (λ b. is_lost server keeps t x && not b) (any_more (mounts server) rest s ∙ ap (λ b. list_any (mounts server) rest || b) is ∙ or-true (list_any (mounts server) rest))
      ∙ and_not_true (is_lost server keeps t x)

  -- where it isn't lost itself
  pub mounted_whole : (t : FileTree) (list : List Settled) (s : Settled) → mounts server s ≡ true → is_lost server keeps (after_all t list) s ≡ false → is_cut t (list ++ s ∷ []) ≡ false
  mounted_whole t [] s is none = or-false (begins_removal server keeps t s []) ∙ and-true (is_lost server keeps t s) ∙ none
  mounted_whole t (x ∷ list) s is none = ap (λ b. b || is_cut (after t x) (list ++ s ∷ [])) (begins_never t x list s is) ∙ mounted_whole (after t x) list s is none
