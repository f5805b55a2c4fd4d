-- The entries of a node, place by place.
use Rattle.std.specs.Prelude.{ℕ, zero, suc, ◌==◌, if◌then◌else◌, Option, Some, None, []}
use Rattle.frang_base.specs.declared.limits.TheConstants.{KIND_DIRECTORY}
use Rattle.tree_definitions.specs.Entries.{Entries, with_entry}
use Rattle.disk_definitions.specs.Store.{Store, StoredEntry, StoredNode}
use Rattle.core_definitions.specs.Trees.{entries_from, sorted_entries}

-- the entries of a node in use, none where it is no directory
abbrev pub listed : Store → StoredNode → Entries
listed store node = if node.kind == KIND_DIRECTORY then sorted_entries (entries_from store node) else []

-- entries with that of a place, and with those of the first n places
abbrev pub with_place : Entries → Option StoredEntry → Entries
with_place entries None = entries
with_place entries (Some entry) = with_entry entries entry.name entry.inode

abbrev pub placed : Entries → (ℕ → Option StoredEntry) → ℕ → Entries
placed entries place zero = entries
placed entries place (suc n) = with_place (placed entries place n) (place n)
