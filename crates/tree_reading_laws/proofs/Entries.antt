-- The entries that are read off the places of a directory are its entries, with the inodes of their births.
use Rattle.std.proofs.Common.{ℕ, zero, suc, ◌≡◌, ◌<◌, ◌*◌, Bool, true, false, if◌then◌else◌, Option, Some, None, is_some, List, [], ◌∷◌, map, refl, sym, ◌∙◌, ap, subst}
use Rattle.std.specs.Prelude.{fold}
use Rattle.std.specs.BTreeMap.{is_at}
use Rattle.std.specs.Cmp.Lexicographic.{slice_cmp}
use Rattle.std.specs.List.{filter_map}
use Rattle.std.specs.List.Sorted.{IsStrictlySortedBy}
use Rattle.std.specs.Map.{keys_of}
use Rattle.std.specs.Option.{option_map}
use Rattle.std.specs.Ordering.{nat_cmp, ordering_reverse}
use Rattle.std.specs.declared.cmp.Ordering.{Ordering}
use Rattle.std.specs.declared.cmp.Ordering.TheVariants.{Equal, Greater, Less}
use Rattle.std.proofs.lemmas.List.Elements.{filter_map-append}
use Rattle.std.proofs.lemmas.List.Sums.{fold-append}
use Rattle.std.proofs.lemmas.Map.Made.{keys_of-map_values, lookup-map_values}
use Rattle.tree_definitions.specs.declared.node.Node.TheVariants.{Dir}
use Rattle.tree_definitions.specs.Entries.{Entries, entry_at, with_entry}
use Rattle.tree_definitions.specs.Numbers.{below}
use Rattle.tree_definitions.proofs.Pairs.{below_all, name_exact, none_below, self, tie}
use Rattle.disk_definitions.specs.Naming.{Naming, Nodes, Pictures, dir_place, entry_of, find_in, room_in}
use Rattle.disk_definitions.specs.Store.{Store, StoredEntry}
use Rattle.standing_laws.specs.ReadTree.{entries_to, with_place}
use Rattle.standing_laws.proofs.Entered.{StandsAt, at_found, found_at, sorted_to}
use Rattle.core_definitions.specs.Trees.{sorted_entries}

-- ---- place by place

one_placed : (entries : Entries) (place : ℕ → Option StoredEntry) (n : ℕ) (o : Option StoredEntry) → place n ≡ o →
    fold (λ sorted entry. with_entry sorted entry.name entry.inode) entries (filter_map place (n ∷ [])) ≡ with_place entries o
one_placed entries place n None e = rw e refl
one_placed entries place n (Some x) e = rw e refl

pub sorted_is : (place : ℕ → Option StoredEntry) (n : ℕ) → entries_to place n ≡ sorted_entries (filter_map place (below n))
sorted_is place zero = refl
sorted_is place (suc n) =
    ap (λ es. with_place es (place n)) (sorted_is place n) ∙ sym (one_placed (sorted_entries (filter_map place (below n))) place n (place n) refl)
    ∙ sym (fold-append (λ sorted entry. with_entry sorted entry.name entry.inode) [] (filter_map place (below n)) (filter_map place (n ∷ [])))
    ∙ sym (ap sorted_entries (filter_map-append place (below n) (n ∷ [])))

-- ---- entries in order that find the same

abbrev IsSorted : Entries → Type 0
IsSorted entries = IsStrictlySortedBy (slice_cmp nat_cmp) (keys_of entries)

found_first : (e : List ℕ × ℕ) (entries : Entries) → entry_at (e ∷ entries) e.0 ≡ Some e.1
found_first e entries = rw (self (slice_cmp nat_cmp) name_exact e.0) refl

pub same_entries : (xs ys : Entries) → IsSorted xs → IsSorted ys → ((name : List ℕ) → entry_at xs name ≡ entry_at ys name) → xs ≡ ys
unfolding IsStrictlySortedBy
same_entries [] [] sorted too same = refl
same_entries [] (y ∷ ys) sorted too same = absurd (let z : None ≡ Some y.1 = same y.0 ∙ found_first y ys in cc)
same_entries (x ∷ xs) [] sorted too same = absurd (let z : None ≡ Some x.1 = sym (same x.0) ∙ found_first x xs in cc)
same_entries (x ∷ xs) (y ∷ ys) sorted too same = go (slice_cmp nat_cmp x.0 y.0) refl (λ alike. same_entries xs ys sorted.1 too.1 alike)
  where
    none_in : (e : List ℕ × ℕ) (entries : Entries) (name : List ℕ) → slice_cmp nat_cmp name e.0 ≡ Less → IsSorted (e ∷ entries) → entry_at (e ∷ entries) name ≡ None
    none_in e entries name less in_order = none_below (slice_cmp nat_cmp) name_exact (e ∷ entries) name (less, below_all (slice_cmp nat_cmp) name_exact name e.0 (keys_of entries) less in_order.0)

    go : (o : Ordering) → slice_cmp nat_cmp x.0 y.0 ≡ o → (((name : List ℕ) → entry_at xs name ≡ entry_at ys name) → xs ≡ ys) → x ∷ xs ≡ y ∷ ys
    go Less is later = absurd (let z : Some x.1 ≡ None = sym (found_first x xs) ∙ same x.0 ∙ none_in y ys x.0 is too in cc)
    go Greater is later =
        let less : slice_cmp nat_cmp y.0 x.0 ≡ Less = name_exact.total.antisymm y.0 x.0 ∙ ap ordering_reverse is in
        absurd (let z : None ≡ Some y.1 = sym (none_in x xs y.0 less sorted) ∙ same y.0 ∙ found_first y ys in cc)
    go Equal is later =
        let key : x.0 ≡ y.0 = name_exact.ties x.0 y.0 is in
        let value : Some x.1 ≡ Some y.1 = sym (found_first x xs) ∙ same x.0 ∙ ap (entry_at (y ∷ ys)) key ∙ found_first y ys in
        let number : x.1 ≡ y.1 = cc in
        ap (λ (k : List ℕ). (k, x.1) ∷ xs) key ∙ ap (λ (v : ℕ). (y.0, v) ∷ xs) number ∙ ap (λ (l : Entries). y ∷ l) (later (λ name. rest name key (is_at (slice_cmp nat_cmp name) x.0) refl))
      where
        rest : (name : List ℕ) → x.0 ≡ y.0 → (b : Bool) → is_at (slice_cmp nat_cmp name) x.0 ≡ b → entry_at xs name ≡ entry_at ys name
        rest name key true at =
            let here : name ≡ x.0 = tie (slice_cmp nat_cmp) name_exact name x.0 at in
            ap (entry_at xs) here ∙ none_below (slice_cmp nat_cmp) name_exact xs x.0 sorted.0
            ∙ sym (ap (entry_at ys) (here ∙ key) ∙ none_below (slice_cmp nat_cmp) name_exact ys y.0 too.0)
        rest name key false at =
            sym (ap (λ (b : Bool). if b then Some x.1 else entry_at xs name) at) ∙ same name
            ∙ ap (λ (b : Bool). if b then Some y.1 else entry_at ys name) (sym (ap (is_at (slice_cmp nat_cmp name)) key) ∙ at)

-- ---- of one directory

module _ (s : Store) (at : Nodes) (n : Naming) (g : Pictures s at n) (d blocks : ℕ) (entries : Entries) (is : at d ≡ Some (Dir entries blocks))
    (sorted : IsSorted entries) (place : ℕ → Option StoredEntry) (same : (q : ℕ) → q < 56 * blocks → place q ≡ dir_place s n d q) where
  abbrev listed : Entries
  listed = entries_to place (56 * blocks)

  room : (q : ℕ) → q < 56 * blocks → q < 56 * room_in (at d)
  room q l = subst (λ o. q < 56 * room_in o) (sym is) l

  less : (q : ℕ) → q < 56 * room_in (at d) → q < 56 * blocks
  less q l = subst (λ o. q < 56 * room_in o) is l

  -- a name that is read there stands in its place
  read_is : (name : List ℕ) (b i : ℕ) → entry_at entries name ≡ Some b → StandsAt place (56 * blocks) name i → i ≡ n.inode b
  read_is name b i found stands =
      let r = g.names d b name (ap (λ o. find_in o name) is ∙ found) in
      let there : dir_place s n d stands.spot ≡ Some stands.entry = sym (same stands.spot stands.within) ∙ stands.is in
      let spot : n.spot d stands.entry.name ≡ stands.spot = (g.places d stands.spot stands.entry (room stands.spot stands.within) there).0 in
      let one : n.spot d name ≡ stands.spot = sym (ap (n.spot d) stands.named) ∙ spot in
      let both : Some stands.entry ≡ Some (entry_of n name b) = sym there ∙ sym (ap (dir_place s n d) one) ∙ r.1 in
      let entry : stands.entry ≡ entry_of n name b = cc in
      sym stands.inode ∙ ap (λ (x : StoredEntry). x.inode) entry

  found_alike : (name : List ℕ) → entry_at listed name ≡ option_map n.inode (entry_at entries name)
  found_alike name = go (entry_at entries name) refl (entry_at listed name) refl
    where
      go : (o : Option ℕ) → entry_at entries name ≡ o → (p : Option ℕ) → entry_at listed name ≡ p → p ≡ option_map n.inode o
      go None e None f = refl
      go (Some b) e (Some i) f = ap Some (read_is name b i e (found_at place (56 * blocks) name i f))
      go (Some b) e None f =
          let r = g.names d b name (ap (λ o. find_in o name) is ∙ e) in
          let q = n.spot d name in
          let some : is_some (entry_at listed name) ≡ true = at_found place (56 * blocks) q (entry_of n name b) (less q r.0) (same q (less q r.0) ∙ r.1) in
          absurd (let z : true ≡ false = sym some ∙ ap is_some f in cc)
      go None e (Some i) f =
          let stands = found_at place (56 * blocks) name i f in
          let there : dir_place s n d stands.spot ≡ Some stands.entry = sym (same stands.spot stands.within) ∙ stands.is in
          let some : is_some (find_in (at d) stands.entry.name) ≡ true = (g.places d stands.spot stands.entry (room stands.spot stands.within) there).1 in
          let none : find_in (at d) stands.entry.name ≡ None = ap (find_in (at d)) stands.named ∙ ap (λ o. find_in o name) is ∙ e in
          absurd (let z : true ≡ false = sym some ∙ ap is_some none in cc)

  pub listed_is : sorted_entries (filter_map place (below (56 * blocks))) ≡ map (λ e. (e.0, n.inode e.1)) entries
  listed_is =
      sym (sorted_is place (56 * blocks))
      ∙ same_entries listed (map (λ e. (e.0, n.inode e.1)) entries) (sorted_to place (56 * blocks)) (subst (IsStrictlySortedBy (slice_cmp nat_cmp)) (sym (keys_of-map_values n.inode entries)) sorted)
      (λ name. found_alike name ∙ sym (lookup-map_values n.inode (is_at (slice_cmp nat_cmp name)) entries))
