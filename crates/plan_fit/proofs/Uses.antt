-- Which blocks are or were a directory's at the end of edits.
use Rattle.std.proofs.Common.{◌≡◌, ℕ, zero, suc, ◌-◌, ◌<◌, Bool, true, false, ◌==◌, if◌then◌else◌, None, [], ◌∷◌, ◌++◌, refl, sym, ◌∙◌, ap, arith}
use Rattle.frang_base.proofs.Basics.{at_put}
use Rattle.disk_definitions.specs.Store.{Store, StoredNode, Use}
use Rattle.disk_definitions.specs.Store.Use.{Fresh, Bytes, Empty, Entries}
use Rattle.disk_definitions.specs.Standing.{IsMetadata}
use Rattle.disk_definitions.specs.Edits.{edited, edited_all}
use Rattle.disk_definitions.specs.Edits.Edit.{SetInode, SetBit, SetUse, SetLarge}
use Rattle.disk_definitions.specs.Changes.{freed, uses_to, large_gone, drop_node, relink}
use Rattle.disk_definitions.proofs.Puts.{edited_append}
use Rattle.disk_definitions.specs.NamePlans.{is_last, fewer}
use Rattle.disk_definitions.specs.Meets.{is_directory_use}

pub metadata_is : (u : Use) → is_directory_use u ≡ true → IsMetadata u
metadata_is Fresh e = absurd (cc)
metadata_is Bytes e = absurd (cc)
metadata_is Empty e = tt
metadata_is Entries e = tt

pub is_metadata : (u : Use) → IsMetadata u → is_directory_use u ≡ true
is_metadata Fresh m = absurd m
is_metadata Bytes m = absurd m
is_metadata Empty m = refl
is_metadata Entries m = refl

-- no block becomes a directory's that wasn't, and none stops having been one
abbrev pub KeepsDirectories : Store → Store → Type 0
KeepsDirectories s t = (k : ℕ) → is_directory_use (t.use_of k) ≡ is_directory_use (s.use_of k)

pub keeps_both : (r s t : Store) → KeepsDirectories r s → KeepsDirectories s t → KeepsDirectories r t
keeps_both r s t a b k = b k ∙ a k

one_use : (s : Store) (c : ℕ) (u : Use) → is_directory_use u ≡ is_directory_use (s.use_of c) → KeepsDirectories s (edited s (SetUse c u))
one_use s c u e k = at_put (λ v. is_directory_use v ≡ is_directory_use (s.use_of k)) s.use_of c u k (λ i. e ∙ ap (λ j. is_directory_use (s.use_of j)) (sym i)) (λ d. refl)

keeps_uses : (small : ℕ → ℕ) (u : Use) (m : ℕ) (s : Store) → ((j : ℕ) → j < m → is_directory_use u ≡ is_directory_use (s.use_of (small j))) → KeepsDirectories s (edited_all s (uses_to small u m))
keeps_uses small u zero s h = λ k. refl
keeps_uses small u (suc m) s h =
    let t = edited s (SetUse (small m) u) in
    let one = one_use s (small m) u (h m (omega arith)) in
    keeps_both s t (edited_all t (uses_to small u m)) one (keeps_uses small u m t (λ j l. h j (omega arith) ∙ sym (one (small j))))

keeps_rest : (s : Store) (large i : ℕ) → KeepsDirectories s (edited_all s (large_gone large ++ (SetInode i None false ∷ SetBit i false ∷ [])))
keeps_rest s large i = go (large == 0)
  where
    go : (b : Bool) → KeepsDirectories s (edited_all s ((if b then [] else SetLarge (large - 1) false ∷ []) ++ (SetInode i None false ∷ SetBit i false ∷ [])))
    go true = λ k. refl
    go false = λ k. refl

module _ (s : Store) (i : ℕ) (x : StoredNode) (h : (j : ℕ) → j < x.blocks → is_directory_use (freed x.kind) ≡ is_directory_use (s.use_of (x.small j))) where
  keeps_dropped : KeepsDirectories s (edited_all s (drop_node i x))
  keeps_dropped k =
      let uses = uses_to x.small (freed x.kind) x.blocks in
      let rest = large_gone x.large ++ (SetInode i None false ∷ SetBit i false ∷ []) in
      let t = edited_all s uses in
      ap (λ (z : Store). is_directory_use (z.use_of k)) (edited_append s uses rest) ∙ keeps_both s t (edited_all t rest) (keeps_uses x.small (freed x.kind) x.blocks s h) (keeps_rest t x.large i) k

  pub keeps_fewer : KeepsDirectories s (edited_all s (fewer i x))
  keeps_fewer = go (is_last x)
    where
      go : (b : Bool) → KeepsDirectories s (edited_all s (if b then drop_node i x else relink i x (x.links - 1)))
      go true = keeps_dropped
      go false = λ k. refl
