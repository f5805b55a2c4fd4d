-- A directory has as many entries in its places as in the tree, so that a free place is found exactly where its entries don't fill its blocks.
use Rattle.std.proofs.Common.{ℕ, ◌≡◌, ◌<◌, ◌*◌, Bool, true, false, Option, Some, None, length, List, refl, sym, ◌∙◌, ap, subst, arith, is_some}
use Rattle.std.specs.Ordering.{nat_cmp}
use Rattle.std.specs.Cmp.Lexicographic.{slice_cmp}
use Rattle.std.specs.List.Sorted.{IsStrictlySortedBy}
use Rattle.std.specs.Map.{keys_of}
use Rattle.std.proofs.lemmas.Bool.{lt-leb, le-leb}
use Rattle.frang_base.proofs.Tests.{some_there}
use Rattle.tree_definitions.specs.declared.node.Node.TheVariants.{Dir}
use Rattle.tree_definitions.specs.Entries.{Entries, entry_at}
use Rattle.tree_definitions.specs.Tree.{must_grow}
use Rattle.tree_definitions.proofs.Pairs.{name_exact}
use Rattle.disk_definitions.specs.Store.{Store, StoredEntry}
use Rattle.disk_definitions.specs.Naming.{Naming, Nodes, Pictures, find_in, room_in, first_blocks, entry_of, place_of, dir_place}
use Rattle.disk_definitions.specs.Least.{least, count}
use Rattle.disk_definitions.proofs.LeastLaws.{least_some, least_nothing}
use Rattle.disk_definitions.specs.ChangeLaws.{IsFreePlace}
use Rattle.disk_definitions.specs.Walks.{is_vacant}
use Rattle.plan_laws.proofs.Counting.{count_all, count_less, count_keys}
use Rattle.plan_laws.proofs.Spots.{as_inode}

module _ (s : Store) (at : Nodes) (n : Naming) (g : Pictures s at n) (d blocks : ℕ) (entries : Entries) (is : at d ≡ Some (Dir entries blocks)) (sorted : IsStrictlySortedBy (slice_cmp nat_cmp) (keys_of entries)) where
  abbrev filled : ℕ → Bool
  filled q = is_some (dir_place s n d q)

  named : (m : List ℕ) (b : ℕ) → entry_at entries m ≡ Some b → (n.spot d m < 56 * blocks) × (dir_place s n d (n.spot d m) ≡ Some (entry_of n m b))
  named m b e = subst (λ y. (n.spot d m < 56 * room_in y) × (dir_place s n d (n.spot d m) ≡ Some (entry_of n m b))) is (g.names d b m (rw is e))

  placed : (q : ℕ) (e : StoredEntry) → q < 56 * blocks → dir_place s n d q ≡ Some e → (n.spot d e.name ≡ q) × (is_some (entry_at entries e.name) ≡ true)
  placed q e l h = subst (λ y. (n.spot d e.name ≡ q) × (is_some (find_in y e.name) ≡ true)) is (g.places d q e (rw is l) h)

  pub places_counted : count filled (56 * blocks) ≡ length entries
  places_counted = count_keys (slice_cmp nat_cmp) name_exact (n.spot d) (56 * blocks) entries filled sorted
      (λ m h. let b = some_there (entry_at entries m) h in let r = named m b.0 b.1 in (r.0, ap is_some r.1))
      (λ m w h i e. let b = some_there (entry_at entries m) h in let c = some_there (entry_at entries w) i in
      let z : Some (entry_of n m b.0) ≡ Some (entry_of n w c.0) = sym (named m b.0 b.1).1 ∙ ap (dir_place s n d) e ∙ (named w c.0 c.1).1 in
      let v : entry_of n m b.0 ≡ entry_of n w c.0 = cc in ap (λ u. u.name) v)
      (λ q l h. let e = some_there (dir_place s n d q) h in let r = placed q e.0 l e.1 in (e.0.name, r.1, r.0))

  abbrev vacant : ℕ → Bool
  vacant q = is_vacant (place_of s.place (first_blocks blocks (n.block d)) q)

  unvacant : (o : Option StoredEntry) → is_vacant o ≡ false → is_some o ≡ true
  unvacant None e = absurd (cc)
  unvacant (Some y) e = refl

  is_none : (o : Option StoredEntry) → is_vacant o ≡ true → o ≡ None
  is_none None e = refl
  is_none (Some y) e = absurd (cc)

  pub free_place : (q : ℕ) → least vacant (56 * blocks) ≡ Some q → IsFreePlace s n d blocks q
  free_place q e = let r = least_some vacant (56 * blocks) q e in
      record { inside = r.1; vacant = sym (as_inode s at n g d blocks q r.1) ∙ is_none (place_of s.place (first_blocks blocks (n.block d)) q) r.0 }

  pub place_some : (q : ℕ) → least vacant (56 * blocks) ≡ Some q → must_grow entries blocks ≡ false
  place_some q e =
      let r = free_place q e in
      let c : count filled (56 * blocks) < 56 * blocks = count_less filled (56 * blocks) q r.inside (ap is_some r.vacant) in
      lt-leb (56 * blocks) (length entries) (subst (λ z. z < 56 * blocks) places_counted c)

  pub place_none : least vacant (56 * blocks) ≡ None → must_grow entries blocks ≡ true
  place_none e =
      let c : count filled (56 * blocks) ≡ 56 * blocks = count_all filled (56 * blocks) (λ q l.
      ap is_some (sym (as_inode s at n g d blocks q l)) ∙ unvacant (place_of s.place (first_blocks blocks (n.block d)) q) (least_nothing vacant (56 * blocks) e q l)) in
      let t : count filled (56 * blocks) ≡ length entries = places_counted in
      le-leb (56 * blocks) (length entries) (omega arith)
