-- The entries of a directory, place by place and sector by sector.
use Rattle.std.proofs.Common.{◌≡◌, ℕ, zero, suc, ◌+◌, ◌*◌, ◌<◌, ◌≤◌, Option, Some, None, List, [], ◌∷◌, fold, length, refl, sym, ap, ap₂, ◌∙◌, arith, add-one}
use Rattle.std.specs.List.{filter_map}
use Rattle.std.specs.Ordering.{nat_cmp, match_ordering}
use Rattle.std.specs.declared.cmp.Ordering.{Ordering}
use Rattle.std.specs.declared.cmp.Ordering.TheVariants.{Less, Equal, Greater}
use Rattle.std.specs.Cmp.Lexicographic.{slice_cmp}
use Rattle.std.proofs.lemmas.List.Elements.{filter_map-append}
use Rattle.std.proofs.lemmas.List.Sums.{fold-append}
use Rattle.tree_definitions.specs.Entries.{Entries, with_entry}
use Rattle.tree_definitions.specs.Numbers.{below}
use Rattle.disk_definitions.specs.Naming.{place_of}
use Rattle.disk_definitions.specs.Store.{Store, StoredEntry, StoredNode}
use Rattle.core_definitions.specs.Trees.{entries_from, sorted_entries}
use Rattle.host_tree.specs.Listing.{placed, with_place}

-- ---- place by place

pub no_places : (entries : Entries) (n : ℕ) → placed entries (λ place. None) n ≡ entries
no_places entries zero = refl
no_places entries (suc n) = no_places entries n

one_placed : (entries : Entries) (place : ℕ → Option StoredEntry) (n : ℕ) (o : Option StoredEntry) → place n ≡ o → fold (λ sorted entry. with_entry sorted entry.name entry.inode) entries (filter_map place (n ∷ [])) ≡ with_place entries o
one_placed entries place n None e = rw e refl
one_placed entries place n (Some x) e = rw e refl

-- all places, in order, are the list of those in use
pub placed_is : (place : ℕ → Option StoredEntry) (n : ℕ) → placed [] place n ≡ sorted_entries (filter_map place (below n))
placed_is place zero = refl
placed_is place (suc n) =
    ap (λ es. with_place es (place n)) (placed_is place n) ∙ sym (one_placed (sorted_entries (filter_map place (below n))) place n (place n) refl)
    ∙ sym (fold-append (λ sorted entry. with_entry sorted entry.name entry.inode) [] (filter_map place (below n)) (filter_map place (n ∷ [])))
    ∙ sym (ap sorted_entries (filter_map-append place (below n) (n ∷ [])))

pub entries_are : (s : Store) (x : StoredNode) (n : ℕ) (entries : Entries) → n ≡ 56 * x.blocks → entries ≡ placed [] (place_of s.place x.small) n → entries ≡ sorted_entries (entries_from s x)
entries_are s x n entries e are = are ∙ ap (placed [] (place_of s.place x.small)) e ∙ placed_is (place_of s.place x.small) (56 * x.blocks)

-- ---- sector by sector

pub one_more : (entries before new : Entries) (place : ℕ → Option StoredEntry) (n : ℕ) (o : Option StoredEntry) → entries ≡ placed before place n → o ≡ place n → new ≡ with_place entries o → new ≡ placed before place (n + 1)
one_more entries before new place n o are is e = e ∙ ap₂ with_place are is ∙ sym (ap (placed before place) (add-one n))

-- so many places more from one on
pub more_placed : (place part : ℕ → Option StoredEntry) (from n : ℕ) → ((k : ℕ) → k < n → part k ≡ place (from + k)) → placed (placed [] place from) part n ≡ placed [] place (from + n)
more_placed place part from zero same = ap (placed [] place) (let e : from ≡ from + 0 = omega arith in e)
more_placed place part from (suc n) same =
    ap₂ with_place (more_placed place part from n (λ k l. same k (omega (arith, l)))) (same n (omega arith)) ∙ sym (ap (placed [] place) (let e : from + suc n ≡ suc (from + n) = omega arith in e))

pub part_more : (place part : ℕ → Option StoredEntry) (j : ℕ) (entries new : Entries) → ((k : ℕ) → k < 7 → part k ≡ place (7 * j + k)) → entries ≡ placed [] place (7 * j) → new ≡ placed entries part 7 → new ≡ placed [] place (7 * (j + 1))
part_more place part j entries new same are e =
    e ∙ ap (λ es. placed es part 7) are ∙ more_placed place part (7 * j) 7 same ∙ ap (placed [] place) (let e : 7 * j + 7 ≡ 7 * (j + 1) = omega arith in e)

-- ---- how many there are

length-insert : (entries : Entries) (name : List ℕ) (inode : ℕ) → length (with_entry entries name inode) ≤ length entries + 1
length-insert [] name inode = omega arith
length-insert (e ∷ es) name inode = go (slice_cmp nat_cmp name e.0) (length-insert es name inode)
  where
    go : (o : Ordering) → length (with_entry es name inode) ≤ length es + 1 → length (match_ordering o ((name, inode) ∷ e ∷ es) ((e.0, inode) ∷ es) (e ∷ with_entry es name inode)) ≤ length (e ∷ es) + 1
    go Less rest = omega arith
    go Equal rest = omega arith
    go Greater rest = omega arith

pub few_more : (entries new : Entries) (o : Option StoredEntry) → new ≡ with_place entries o → length new ≤ length entries + 1
few_more entries new None e = let l : length new ≡ length entries = ap length e in omega arith
few_more entries new (Some x) e = let l : length new ≡ length (with_entry entries x.name x.inode) = ap length e in let m = length-insert entries x.name x.inode in omega (arith, m)
