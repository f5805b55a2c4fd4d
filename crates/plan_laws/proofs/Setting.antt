-- The store after some blocks get one use, some large blocks are taken or given back, and an inode is another.
use Rattle.std.proofs.Common.{ℕ, ◌≡◌, Bool, nat_eq, if◌then◌else◌, Some, List, [], ◌∷◌, ◌++◌, map, refl, sym, ◌∙◌, ap, subst}
use Rattle.frang_base.specs.Functions.{put}
use Rattle.disk_definitions.specs.Store.{Store, StoredNode, Use}
use Rattle.disk_definitions.specs.Edits.{Edit, edited, edited_all}
use Rattle.disk_definitions.specs.Edits.Edit.{SetUse, SetLarge}
use Rattle.disk_definitions.proofs.Puts.{edited_append}
use Rattle.disk_definitions.specs.FilePlans.{file_dated}
use Rattle.plan_laws.proofs.Among.{is_among}
use Rattle.plan_laws.proofs.Changes.{set_or}

-- a store is another in all but uses, large blocks and inodes
pub record IsElse (s t : Store) : Type 0 where
  pub bit : t.bit ≡ s.bit
  pub place : t.place ≡ s.place
  pub byte : t.byte ≡ s.byte
  pub large_byte : t.large_byte ≡ s.large_byte

abbrev uses_to : Use → List ℕ → List Edit
uses_to u ks = map (λ k. SetUse k u) ks

abbrev larges_to : Bool → List ℕ → List Edit
larges_to v gs = map (λ g. SetLarge g v) gs

module _ (u : Use) where
  uses_set : (ks : List ℕ) (s : Store) (k : ℕ) → (edited_all s (uses_to u ks)).use_of k ≡ (if is_among k ks then u else s.use_of k)
  uses_set [] s k = refl
  uses_set (c ∷ cs) s k = uses_set cs (edited s (SetUse c u)) k ∙ set_or (nat_eq k c) (is_among k cs) u (s.use_of k)

  uses_else : (ks : List ℕ) (s : Store) → IsElse s (edited_all s (uses_to u ks)) × ((edited_all s (uses_to u ks)).inode ≡ s.inode) × ((edited_all s (uses_to u ks)).large_bit ≡ s.large_bit)
  uses_else [] s = (record { bit = refl; place = refl; byte = refl; large_byte = refl }, refl, refl)
  uses_else (c ∷ cs) s = let r = uses_else cs (edited s (SetUse c u)) in (record { bit = r.0.bit; place = r.0.place; byte = r.0.byte; large_byte = r.0.large_byte }, r.1, r.2)

module _ (v : Bool) where
  larges_set : (gs : List ℕ) (s : Store) (g : ℕ) → (edited_all s (larges_to v gs)).large_bit g ≡ (if is_among g gs then v else s.large_bit g)
  larges_set [] s g = refl
  larges_set (c ∷ cs) s g = larges_set cs (edited s (SetLarge c v)) g ∙ set_or (nat_eq g c) (is_among g cs) v (s.large_bit g)

  larges_else : (gs : List ℕ) (s : Store) → IsElse s (edited_all s (larges_to v gs)) × ((edited_all s (larges_to v gs)).inode ≡ s.inode) × ((edited_all s (larges_to v gs)).use_of ≡ s.use_of)
  larges_else [] s = (record { bit = refl; place = refl; byte = refl; large_byte = refl }, refl, refl)
  larges_else (c ∷ cs) s = let r = larges_else cs (edited s (SetLarge c v)) in (record { bit = r.0.bit; place = r.0.place; byte = r.0.byte; large_byte = r.0.large_byte }, r.1, r.2)

-- what stands where
pub record IsSet (s t : Store) (u : Use) (ks : List ℕ) (v : Bool) (gs : List ℕ) (i : ℕ) (y : StoredNode) : Type 0 where
  pub inode : (j : ℕ) → t.inode j ≡ put s.inode i (Some y) j
  pub uses : (k : ℕ) → t.use_of k ≡ (if is_among k ks then u else s.use_of k)
  pub larges : (g : ℕ) → t.large_bit g ≡ (if is_among g gs then v else s.large_bit g)
  pub bit : t.bit ≡ s.bit
  pub place : t.place ≡ s.place
  pub byte : t.byte ≡ s.byte
  pub large_byte : t.large_byte ≡ s.large_byte

abbrev pub set_edits : Use → List ℕ → Bool → List ℕ → ℕ → StoredNode → List Edit
set_edits u ks v gs i y = map (λ k. SetUse k u) ks ++ map (λ g. SetLarge g v) gs ++ file_dated i y

pub all_set : (s : Store) (u : Use) (ks : List ℕ) (v : Bool) (gs : List ℕ) (i : ℕ) (y : StoredNode) → IsSet s (edited_all s (set_edits u ks v gs i y)) u ks v gs i y
all_set s u ks v gs i y =
    let mid = edited_all s (uses_to u ks) in
    let late = edited_all mid (larges_to v gs) in
    let last = edited_all late (file_dated i y) in
    let first = uses_else u ks s in
    let second = larges_else v gs mid in
    let e : edited_all s (set_edits u ks v gs i y) ≡ last =
    edited_append s (uses_to u ks ++ larges_to v gs) (file_dated i y) ∙ ap (λ z. edited_all z (file_dated i y)) (edited_append s (uses_to u ks) (larges_to v gs)) in
    let inodes : late.inode ≡ s.inode = second.1 ∙ first.1 in
    subst (λ t. IsSet s t u ks v gs i y) (sym e) (record {
      inode = λ j. ap (λ f. put f i (Some y) j) inodes;
      uses = λ k. ap (λ f. f k) second.2 ∙ uses_set u ks s k;
      larges = λ g. larges_set v gs mid g ∙ ap (λ f. if is_among g gs then v else f g) first.2;
      bit = second.0.bit ∙ first.0.bit;
      place = second.0.place ∙ first.0.place;
      byte = second.0.byte ∙ first.0.byte;
      large_byte = second.0.large_byte ∙ first.0.large_byte;
    })
