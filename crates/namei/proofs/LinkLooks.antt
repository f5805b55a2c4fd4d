-- What a walk through links looked at, by what each name comes to, and at a link that is followed.
use Rattle.std.proofs.Common.{◌≡◌, ◌-◌, ◌<◌, ◌≤◌, ℕ, zero, suc, Bool, true, false, Option, Some, None, Result, Ok, Err, OnOk, List, [], ◌∷◌, ◌++◌, append_assoc, append-nil, refl, sym, ap, subst, ◌∙◌, arith}
use Rattle.frang_base.specs.PathText.{path_of}
use Rattle.frang_base.specs.declared.fault.PathFault.{PathFault}
use Rattle.frang_base.specs.declared.limits.TheConstants.{LINKS_FOLLOWED_MAX}
use Rattle.tree_definitions.specs.Resolve.{is_absolute, target_text}
use Rattle.disk_definitions.specs.Store.{StoredNode}
use Rattle.disk_definitions.specs.Held.{Segments}
use Rattle.disk_definitions.specs.Ask.{Ask, Got, ReadInode}
use Rattle.disk_definitions.specs.Written.{Cached}
use Rattle.disk_definitions.specs.Resolving.{Resolution, at_target, with_target, below_inode, resolve_from, resolve}
use Rattle.dir_lookup.specs.Looked.{Adds}
use Rattle.dir_lookup.specs.Reading.{Read, Lacks, Gives, reading}
use Rattle.dir_lookup.proofs.Looking.{adds_as, adds_then}
use Rattle.namei.specs.declared.onward.Next.{Next}
use Rattle.namei.specs.declared.onward.Next.TheVariants as next
use Rattle.namei.specs.declared.targets.Way.{Way}
use Rattle.namei.specs.Looks.{LooksOn, next_looks, way_looks}
use Rattle.namei.specs.Walks.{way_from}
use Rattle.namei.proofs.LinkSteps.{by_target, followed}
use Rattle.namei.proofs.NameLooks.{rest_of, looks_bind, passes_looks, seen}

-- ---- what is left

-- nothing is
pub ends_looks : (old new : Option (List ℕ)) (all : List ℕ) → LooksOn old new all [] → Adds old new all
ends_looks old new all r = adds_as old new r.0 all (sym (r.2 ∙ append-nil r.0)) r.1

-- the others are looked at next
pub on_looks : (old new last : Option (List ℕ)) (all others : List ℕ) → LooksOn old new all others → Adds new last others → Adds old last all
on_looks old new last all others r f = adds_as old last (r.0 ++ others) all (sym r.2) (adds_then old new last r.0 others r.1 f)

-- some of the others are
pub then_looks : (old new last : Option (List ℕ)) (all others more : List ℕ) → LooksOn old new all others → LooksOn new last others more → LooksOn old last all more
then_looks old new last all others more r q =
    (r.0 ++ q.0, adds_then old new last r.0 q.0 r.1 q.1, r.2 ∙ ap (λ l. r.0 ++ l) q.2 ∙ sym (append_assoc r.0 q.0 more))

pub left_as : (old new : Option (List ℕ)) (all others more : List ℕ) → others ≡ more → LooksOn old new all others → LooksOn old new all more
left_as old new all others more e = subst (LooksOn old new all) e

pub on_ok_then : {A E : Type 0} {P Q : Type 0} (r : Result A E) → OnOk r P → (P → Q) → OnOk r Q
on_ok_then (Ok a) p f = f p
on_ok_then (Err e) p f = tt

module _ (cached : Cached) (held : Segments) where
  abbrev Seen : Ask Resolution → List ℕ
  Seen ask = seen cached held ask

  -- ---- names

  -- what is looked at behind a name
  abbrev pub behind_name : ℕ → Bool → ℕ → List (List ℕ) → List ℕ → List (List ℕ) → Next → List ℕ
  behind_name left last dir above name rest n = next_looks n (λ link. Seen (followed left last dir above rest link)) (λ i. Seen (resolve_from left last i (above ++ name ∷ []) rest))

  -- so it is whatever is done where the name goes into a directory or follows a link
  abbrev pub LooksSo : Option (List ℕ) → Option (List ℕ) → Bool → ℕ → List ℕ → List (List ℕ) → Next → Type 0
  LooksSo old new last dir name rest n =
      (follow into : ℕ → Ask Resolution) (here : List (List ℕ)) →
      LooksOn old new (seen cached held (ReadInode dir (below_inode last follow into here dir name rest))) (next_looks n (λ i. Seen (follow i)) (λ i. Seen (into i)))

  step_looks : (old new : Option (List ℕ)) (left : ℕ) (last : Bool) (dir : ℕ) (above : List (List ℕ)) (name : List ℕ) (rest : List (List ℕ)) (n : Next) → LooksSo old new last dir name rest n →
      LooksOn old new (Seen (resolve_from left last dir above (name ∷ rest))) (behind_name left last dir above name rest n)
  step_looks old new zero last dir above name rest n so = so (followed zero last dir above rest) (λ i. resolve_from zero last i (above ++ name ∷ []) rest) (above ++ name ∷ [])
  step_looks old new (suc left) last dir above name rest n so = so (followed (suc left) last dir above rest) (λ i. resolve_from (suc left) last i (above ++ name ∷ []) rest) (above ++ name ∷ [])

  pub goes_looks : (old new : Option (List ℕ)) (left : ℕ) (last : Bool) (dir : ℕ) (above names : List (List ℕ)) (name : List ℕ) (rest : List (List ℕ)) → names ≡ name ∷ rest → (n : Next) → LooksSo old new last dir name rest n →
      LooksOn old new (Seen (resolve_from left last dir above names)) (behind_name left last dir above name rest n)
  goes_looks old new left last dir above names name rest split n so =
      subst (λ l. LooksOn old new (Seen (resolve_from left last dir above l)) (behind_name left last dir above name rest n)) (sym split) (step_looks old new left last dir above name rest n so)

  -- no names are left
  pub end_looks : (left : ℕ) (last : Bool) (dir : ℕ) (above names : List (List ℕ)) → names ≡ [] → [] ≡ Seen (resolve_from left last dir above names)
  end_looks zero last dir above names none = rw none refl
  end_looks (suc left) last dir above names none = rw none refl

  -- ---- links

  pub no_link_looks : (left : ℕ) (last : Bool) (dir : ℕ) (above rest : List (List ℕ)) (link : ℕ) → left ≡ 0 → Seen (followed left last dir above rest link) ≡ []
  no_link_looks zero last dir above rest link none = refl
  no_link_looks (suc left) last dir above rest link none = absurd (omega arith)

  pub link_looks : (left : ℕ) (last : Bool) (dir : ℕ) (above rest : List (List ℕ)) (link : ℕ) → 0 < left →
      Seen (followed left last dir above rest link) ≡ Seen (ReadInode link (with_target (by_target (resolve_from (left - 1) last) dir above rest)))
  link_looks zero last dir above rest link some = absurd (omega arith)
  link_looks (suc left) last dir above rest link some =
      let less : suc left - 1 ≡ left = omega arith in
      passes_looks cached held link (ReadInode link (with_target (by_target (resolve_from left last) dir above rest)))
      ∙ ap (λ l. Seen (ReadInode link (with_target (by_target (resolve_from l last) dir above rest)))) (sym less)

  -- ---- targets
  module _ (next : ℕ → List (List ℕ) → List (List ℕ) → Ask Resolution) (dir : ℕ) (above names : List (List ℕ)) where
    abbrev pub by_way : Way → List ℕ
    by_way w = way_looks w (λ names. Seen (next 0 [] names)) (λ names. Seen (next dir above names))

    target_looks : (absolute : Bool) (target : Result (List (List ℕ)) PathFault) → Seen (at_target next absolute target dir above names) ≡ by_way (way_from absolute target names)
    target_looks absolute (Err fault) = refl
    target_looks true (Ok inner) = refl
    target_looks false (Ok inner) = refl

    -- by what is read of the link's inode
    abbrev pub read_way : Read (Option StoredNode) → List ℕ
    read_way (Lacks sector) = []
    read_way (Gives None) = []
    read_way (Gives (Some node)) = by_way (way_from (is_absolute node.target) (path_of (target_text node.target)) names)

    read_target : (r : Read (Option StoredNode)) → rest_of r (λ o. Seen (with_target (by_target next dir above names) o)) ≡ read_way r
    read_target (Lacks sector) = refl
    read_target (Gives None) = refl
    read_target (Gives (Some node)) = target_looks (is_absolute node.target) (path_of (target_text node.target))

    pub way_looked : (link : ℕ) (r : Read (Option StoredNode)) → r ≡ reading (ReadInode link Got) cached held →
        Seen (ReadInode link (with_target (by_target next dir above names))) ≡ seen cached held (ReadInode link Got) ++ read_way r
    way_looked link r e =
        looks_bind (ReadInode link Got) (with_target (by_target next dir above names)) cached held r e ∙ ap (λ l. seen cached held (ReadInode link Got) ++ l) (read_target r)

  -- a whole path
  pub root_looks : (last : Bool) (dir : ℕ) (above names path : List (List ℕ)) → dir ≡ 0 → above ≡ [] → names ≡ path → Seen (resolve_from LINKS_FOLLOWED_MAX last dir above names) ≡ Seen (resolve last path)
  unfolding resolve
  root_looks last dir above names path root top same = rw (root, top, same) refl
