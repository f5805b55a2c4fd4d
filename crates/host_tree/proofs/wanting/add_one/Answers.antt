-- A sector that isn't read is wanted afterwards; one that is read changes nothing.
use Rattle.std.proofs.Common.{◌≡◌, false, is_some, [], ◌∷◌, sym, ap, ◌∙◌, subst, arith, rules}
use Rattle.std.proofs.lemmas.Grind.{common_steps}
use Rattle.sector_bytes.specs.SectorMaps.{value_at}
use Rattle.host_tree.specs.Wanting.{Adds}
use Rattle.host_tree.proofs.AddedSectors.{added_one}
use Rattle.host_tree.proofs.wanting.add_one.Goals as goal

pub returns-then-is_none-clause-added : goal.returns-then-is_none-clause-added
returns-then-is_none-clause-added c =
    let read = c.args.read.now.entries in
    let s = c.args.sector.0 in
    let unread : is_some (value_at read s) ≡ false = sym (ap is_some c.get.ensures) ∙ first_of (search rules, cc, grind (arith, common_steps)) in
    subst (Adds read (s ∷ []) c.args.wanted.now.entries) (sym c.put.ensures.entries) (added_one read s c.args.wanted.now.entries unread)
