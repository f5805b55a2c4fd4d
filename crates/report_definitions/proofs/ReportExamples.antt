-- What the rules say of small stores, by computation: each kind of fault with its neighbour that is none.
use Rattle.std.proofs.Common.{◌==◌, ◌≡◌, ℕ, zero, suc, true, false, Option, Some, None, List, [], ◌∷◌, cond, refl, nat_lt}
use Rattle.std.specs.Prelude.{codes}
use Rattle.disk_definitions.specs.Store.{Store, StoredNode, StoredEntry}
use Rattle.disk_definitions.specs.Store.Use.{Fresh, Bytes, Empty, Entries as OfEntries}
use Rattle.report_definitions.specs.Sums.{first_below, gathered}
use Rattle.report_definitions.specs.View.{View, entry_of, named_by, names, leads}
use Rattle.report_definitions.specs.Rules.{is_root_fine, is_new_name, names_well, entries_of, names_by, is_first_within, is_bit_fine, is_use_fine_by, are_parts_fine}
use Rattle.report_definitions.specs.Report.{fault_unless, is_nothing}

abbrev node : ℕ → ℕ → ℕ → ℕ → StoredNode
node kind links size blocks = record { kind = kind; links = links; size = size; birth = 0; blocks = blocks; small = λ j. j; large = 0; when = 0; target = [] }

abbrev entry : List ℕ → ℕ → ℕ → StoredEntry
entry name inode kind = record { name = name; inode = inode; kind = kind }

-- the root has one block, with these entries in its first places; inode 1 is a file, inode 2 a directory without blocks
abbrev inodes : ℕ → Option StoredNode
inodes zero = Some (node 2 1 2 1)
inodes (suc zero) = Some (node 1 1 0 0)
inodes (suc (suc zero)) = Some (node 2 1 0 0)
inodes _ = None

abbrev place : List (Option StoredEntry) → ℕ → Option StoredEntry
place [] q = None
place (e ∷ es) zero = e
place (e ∷ es) (suc q) = place es q

abbrev store : List (Option StoredEntry) → Store
store es = record {
  inode = inodes;
  bit = λ i. nat_lt i 3;
  use_of = λ k. cond (k == 0) OfEntries (cond (k == 1) Bytes (cond (k == 2) Empty Fresh));
  place = λ k q. cond (k == 0) (place es q) None;
  large_bit = λ g. false;
  byte = λ k j. 0;
  large_byte = λ g j. 0;
}

-- the versions of last parts are too great
abbrev view : List (Option StoredEntry) → View
view es = record { segments = 1; store = store es; segment_fits = λ k. true; inode_fits = λ i. true; is_directory = λ b p. true; is_recent = λ b p. nat_lt p 7 }

abbrev two : List (Option StoredEntry)
two = Some (entry (codes "a") 1 1) ∷ None ∷ Some (entry (codes "d") 2 2) ∷ []

abbrev twice : List (Option StoredEntry)
twice = Some (entry (codes "a") 1 1) ∷ Some (entry (codes "a") 1 1) ∷ []

abbrev wrong : List (Option StoredEntry)
wrong = Some (entry (codes "a") 1 2) ∷ Some (entry (codes "b") 3 1) ∷ Some (entry (codes "c") 64 1) ∷ []

-- ---- what is named, and what is reached

root_names_the_file : names (store two) 0 1 ≡ true
root_names_the_file = refl

root_does_not_name_itself : names (store two) 0 0 ≡ false
root_does_not_name_itself = refl

a_file_names_nothing : names (store two) 1 2 ≡ false
a_file_names_nothing = refl

a_path_leads_on : leads (store two) 0 (2 ∷ []) 2 ≡ true
a_path_leads_on = refl

no_path_goes_back : leads (store two) 0 (2 ∷ 0 ∷ []) 0 ≡ false
no_path_goes_back = refl

another_kind_is_not_named : named_by (store wrong) (entry_of (store wrong) 0 0) ≡ None
another_kind_is_not_named = refl

-- ---- kind 1

the_root_is_a_directory : is_root_fine (view two) 0 ≡ true
the_root_is_a_directory = refl

-- ---- kinds 2 and 3

names_that_differ : is_new_name (store two) 0 2 ≡ true
names_that_differ = refl

the_first_of_two_names : is_new_name (store twice) 0 0 ≡ true
the_first_of_two_names = refl

the_later_of_two_names : is_new_name (store twice) 0 1 ≡ false
the_later_of_two_names = refl

an_entry_of_its_kind : names_well (store two) (entry_of (store two) 0 2) ≡ true
an_entry_of_its_kind = refl

an_entry_of_another_kind : names_well (store wrong) (entry_of (store wrong) 0 0) ≡ false
an_entry_of_another_kind = refl

an_entry_of_a_free_inode : names_well (store wrong) (entry_of (store wrong) 0 1) ≡ false
an_entry_of_a_free_inode = refl

an_entry_past_the_inodes : names_well (store wrong) (entry_of (store wrong) 0 2) ≡ false
an_entry_past_the_inodes = refl

-- ---- kinds 4 and 5: entries count whatever they name, names only where they name well

two_entries : entries_of (store two) 0 ≡ 2
two_entries = refl

three_entries : entries_of (store wrong) 0 ≡ 3
three_entries = refl

named_twice : names_by (store twice) 0 1 ≡ 2
named_twice = refl

not_named_by_another_kind : names_by (store wrong) 0 1 ≡ 0
not_named_by_another_kind = refl

-- ---- kind 6

abbrev blocks : ℕ → Option ℕ
blocks zero = Some 5
blocks (suc zero) = Some 7
blocks (suc (suc zero)) = Some 5
blocks (suc (suc (suc zero))) = Some 1024
blocks _ = None

first_use_of_a_block : is_first_within 1024 blocks 0 ≡ true
first_use_of_a_block = refl

second_use_of_a_block : is_first_within 1024 blocks 2 ≡ false
second_use_of_a_block = refl

past_the_blocks : is_first_within 1024 blocks 3 ≡ false
past_the_blocks = refl

last_of_two_segments : is_first_within 2048 blocks 3 ≡ true
last_of_two_segments = refl

the_first_that_passes : first_below 10 (λ t. nat_lt 3 t) ≡ Some 4
the_first_that_passes = refl

-- ---- kind 7

a_reached_bit : is_bit_fine (view two) (λ i. true) 1 ≡ true
a_reached_bit = refl

a_reached_inode_without_its_bit : is_bit_fine (view two) (λ i. true) 3 ≡ false
a_reached_inode_without_its_bit = refl

an_inode_in_use_that_is_not_reached : is_bit_fine (view two) (λ i. false) 1 ≡ false
an_inode_in_use_that_is_not_reached = refl

a_free_inode : is_bit_fine (view two) (λ i. false) 3 ≡ true
a_free_inode = refl

-- ---- kind 8

a_directory_in_a_directorys_block : is_use_fine_by (store two) 0 (Some 0) ≡ true
a_directory_in_a_directorys_block = refl

a_file_in_a_directorys_block : is_use_fine_by (store two) 0 (Some 16) ≡ false
a_file_in_a_directorys_block = refl

a_file_in_a_block_of_bytes : is_use_fine_by (store two) 1 (Some 16) ≡ true
a_file_in_a_block_of_bytes = refl

a_block_of_bytes_without_user : is_use_fine_by (store two) 1 None ≡ false
a_block_of_bytes_without_user = refl

a_former_directorys_block_without_user : is_use_fine_by (store two) 2 None ≡ true
a_former_directorys_block_without_user = refl

a_version_too_great : are_parts_fine (view two) 0 OfEntries ≡ false
a_version_too_great = refl

-- of a sector that isn't in its grammar no version is judged
no_version_outside_the_grammar : are_parts_fine (record (view two) { is_directory = λ b p. nat_lt p 7 }) 0 OfEntries ≡ true
no_version_outside_the_grammar = refl

-- ---- the list

in_order_of_sectors : gathered 3 (λ i. fault_unless (i == 1) i 4) ≡ (0, 4) ∷ (2, 4) ∷ []
in_order_of_sectors = refl

nothing_stands : is_nothing [] ≡ true
nothing_stands = refl

a_fault_does_not : is_nothing ((0, 4) ∷ []) ≡ false
a_fault_does_not = refl
