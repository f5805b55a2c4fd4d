-- By the sectors of the list, each with its greatest version.
use Rattle.std.proofs.Common.{map, ℕ, List, ap, ◌∙◌}
use Rattle.std.specs.List.{list_all}
use Rattle.frang_base.specs.declared.sector.Sector.{Sector}
use Rattle.line_stages.proofs.NamedSectors.{all_named}
use Rattle.line_stages.proofs.oldest.oldest_in.Goals as goal

pub returns : goal.returns
returns c test =
    ap (λ (sectors : List ℕ). list_all test sectors) (c.in_ok-sectors.ensures ∙ ap (λ (entries : List (Sector × ℕ)). map (λ (entry : Sector × ℕ). entry.0.0) entries) c.as_slice.ensures.value)
    ∙ all_named test c.in_ok-oldest.oldest.items ∙ c.in_ok-oldest.ensures.named test
