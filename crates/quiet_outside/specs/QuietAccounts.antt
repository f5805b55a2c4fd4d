-- A record with lines accounts for the sectors where the record without them does.
use Rattle.std.specs.Prelude.{◌≡◌, ℕ, ◌-◌, List, [], ◌∷◌, ◌++◌, take, drop, Option, Some, None, option_map}
use Rattle.std.specs.Option.{unwrap_or}
use Rattle.std.proofs.Common.{refl, sym, ap, ◌∙◌, take-append-drop}
use Rattle.std.proofs.lemmas.Option.{none-some}
use Rattle.frang_outside.specs.declared.act.Act.{Act}
use Rattle.frang_outside.specs.declared.act.Act.TheVariants.{Said}
use Rattle.frang_outside.specs.Disk.{bytes_after, bytes_after_all, disk_after}
use Rattle.frang_outside.specs.Outside.{State, Accounts}
use Rattle.sector_bytes.specs.Blocks.{zero_block}
use Rattle.sector_bytes.specs.Sectors.{Sectors, SameSectors}
use Rattle.quiet_outside.specs.KeptLines.{Quieted, quiet_state, woven}

-- the disk of acts, and of more behind them
pub bytes_after_all-append : (s : ℕ) (bytes : List ℕ) (xs ys : List Act) → bytes_after_all s bytes (xs ++ ys) ≡ bytes_after_all s (bytes_after_all s bytes xs) ys
bytes_after_all-append s bytes [] ys = refl
bytes_after_all-append s bytes (x ∷ xs) ys = bytes_after_all-append s (bytes_after s bytes x) xs ys

-- lines write no sector
pub woven_disk : (s : ℕ) (bytes : List ℕ) (behind : ℕ) (befores : List ℕ) (lines : List (List ℕ)) (acts : List Act) → bytes_after_all s bytes (woven behind befores lines acts) ≡ bytes_after_all s bytes acts
woven_disk s bytes behind [] lines acts = refl
woven_disk s bytes behind (n ∷ ns) [] acts = refl
woven_disk s bytes behind (n ∷ ns) (l ∷ ls) acts =
    bytes_after_all-append s bytes (take (n - behind) acts) (Said l ∷ woven n ns ls (drop (n - behind) acts))
    ∙ woven_disk s (bytes_after_all s bytes (take (n - behind) acts)) n ns ls (drop (n - behind) acts)
    ∙ sym (bytes_after_all-append s bytes (take (n - behind) acts) (drop (n - behind) acts))
    ∙ ap (bytes_after_all s bytes) (take-append-drop (n - behind) acts)

-- a record with lines accounts for the sectors where that without them does
accounts_over : (befores : List ℕ) (lines : List (List ℕ)) (sectors : Sectors) (below : Option (List Act)) → ((acts : List Act) → below ≡ Some acts → SameSectors sectors (disk_after acts)) → (acts : List Act) → option_map (woven 0 befores lines) below ≡ Some acts → SameSectors sectors (disk_after acts)
accounts_over befores lines sectors None accounts acts told s = absurd (none-some acts told)
accounts_over befores lines sectors (Some inner) accounts acts told s =
    accounts inner refl s
    ∙ sym (woven_disk s zero_block 0 befores lines inner)
    ∙ ap (λ told. bytes_after_all s zero_block (unwrap_or told [])) told

pub quiet_accounts : {O : Type 0} → (state : O → State) → ((o : O) → Accounts (state o)) → (q : Quieted O) → Accounts (quiet_state state q)
quiet_accounts state accounts q = accounts_over q.befores q.lines (state q.out).sectors (state q.out).acts (accounts q.out)
