-- A sector that isn't dirty doesn't stay wanted.
use Rattle.std.proofs.Common.{◌≡◌, Bool, true, false, refl, sym, ◌∙◌}
use Rattle.std.proofs.lemmas.Bool.{false≢true}
use Rattle.frang_base.specs.Functions.{member}
use Rattle.clerk_cache.proofs.Flagging.{but_absent}
use Rattle.server_core.proofs.effects.set_clean.Goals as goal

pub returns-clause-staying : goal.returns-clause-staying
returns-clause-staying c =
    c.set_clean.ensures.staying ∙ but_absent c.args.sector.0 c.args.cache.now.staying (go (member c.args.sector.0 c.args.cache.now.staying) refl)
  where
    go : (b : Bool) → member c.args.sector.0 c.args.cache.now.staying ≡ b → member c.args.sector.0 c.args.cache.now.staying ≡ false
    go true is = absurd (false≢true (sym c.requires.clean ∙ c.stays-stays.ensures.dirty (c.stays-stays.ensures.stays ∙ is)))
    go false is = is
