-- Which sectors come into doubt: those with a last write of the server, after which nothing made them sure.
use Rattle.std.specs.Prelude.{◌≡◌, ℕ, Bool, true, false, not, ◌&&◌, ◌==◌, if◌then◌else◌, List, [], ◌∷◌, ◌++◌}
use Rattle.std.specs.List.{list_any}
use Rattle.tree_definitions.specs.declared.history.Entry.{Entry}
use Rattle.tree_definitions.specs.Tree.{FileTree}
use Rattle.tree_definitions.specs.Perform.{resolved}
use Rattle.tree_definitions.specs.History.{Settled, Stays, InDoubt, after, after_all}
use Rattle.tree_definitions.specs.Touched.{touches, is_ok, is_sync}
use Rattle.tree_definitions.specs.Removal.{mounts, step_writes, is_doubtful}

-- an entry writes into a sector of a file
abbrev pub entry_writes : FileTree → Entry → ℕ → ℕ → Bool
entry_writes tree e birth sector = step_writes tree (resolved tree e.op).step e.reply birth sector

-- an entry doesn't make a sector sure: it doesn't write into it, is no sync of the server that was answered `ok`, and no touch of the file by another
abbrev pub keeps_doubt : ℕ → ℕ → ℕ → FileTree → Entry → Bool
keeps_doubt server birth sector tree e = not (entry_writes tree e birth sector) && (if e.server.0 == server then not (is_sync e.op && is_ok e.reply) else not (touches tree e birth))

-- no entry of a list does
abbrev pub all_keep_doubt : ℕ → ℕ → ℕ → FileTree → List Settled → Bool
all_keep_doubt server birth sector tree [] = true
all_keep_doubt server birth sector tree (InDoubt runs ∷ rest) = all_keep_doubt server birth sector (after tree (InDoubt runs)) rest
all_keep_doubt server birth sector tree (Stays e ∷ rest) = keeps_doubt server birth sector tree e && all_keep_doubt server birth sector (after tree (Stays e)) rest

-- a last write into a sector, by the server since its last mount, with no later sync of it and no later touch of the file by another
pub record LastWrite (server birth sector : ℕ) (tree : FileTree) (list : List Settled) : Type 0 where
  pub before : List Settled
  pub entry : Entry
  pub rest : List Settled
  pub splits : list ≡ before ++ Stays entry ∷ rest
  pub own : entry.server.0 == server ≡ true
  pub writes : entry_writes (after_all tree before) entry birth sector ≡ true
  pub mounted : list_any (mounts server) rest ≡ false
  pub later : all_keep_doubt server birth sector (after (after_all tree before) (Stays entry)) rest ≡ true

-- a sector in doubt has one
abbrev pub DoubtHasALastWrite : Type 0
DoubtHasALastWrite = (server birth sector : ℕ) (tree : FileTree) (list : List Settled) → is_doubtful server birth sector false tree list ≡ true → LastWrite server birth sector tree list

-- a sector that has one is in doubt
abbrev pub ALastWriteLeavesDoubt : Type 0
ALastWriteLeavesDoubt = (server birth sector : ℕ) (tree : FileTree) (list : List Settled) → LastWrite server birth sector tree list → is_doubtful server birth sector false tree list ≡ true
