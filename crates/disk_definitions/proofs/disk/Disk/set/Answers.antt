use Rattle.std.proofs.Common.{rules, ◌≡◌, ◌<◌, ◌^◌, ℕ, List, length, subst}
use Rattle.std.specs.List.{All}
use Rattle.std.specs.Map.{keys_of, values_of}
use Rattle.std.specs.BTreeMap.{insert_entry}
use Rattle.std.specs.Ordering.{nat_cmp}
use Rattle.std.proofs.lemmas.Map.Views.{All-keys-insert_entry, All-values-insert_entry}
use Rattle.disk_definitions.proofs.disk.Disk.set.Goals as goal

-- numbers and blocks stay so with one more
kept : (es new : List (ℕ × List ℕ)) (sector : ℕ) (block : List ℕ) → new ≡ insert_entry nat_cmp es sector block → All (λ s. s < 2 ^ 64) (keys_of es) → All (λ b. length b ≡ 512) (values_of es)
    → sector < 2 ^ 64 → length block ≡ 512 → All (λ s. s < 2 ^ 64) (keys_of new) × All (λ b. length b ≡ 512) (values_of new)
kept es new sector block e k v s b =
    rw e (All-keys-insert_entry nat_cmp sector block (λ s. s < 2 ^ 64) es k s, All-values-insert_entry nat_cmp sector block (λ b. length b ≡ 512) es v b)

pub invariant_of-self-2 : goal.invariant_of-self-2
invariant_of-self-2 c =
    kept c.self.inside.blocks.entries c.insert.new.self.entries c.args.sector.0 c.args.block (search rules) c.self.invariant.0 c.self.invariant.1 (search rules) (search rules)
