-- The law.
use Rattle.kept_laws.proofs.Hiding.{unmet_hidden}
use Rattle.kept_laws.proofs.Keeping.{hidden_kept}
use Rattle.kept_laws.proofs.laws.deeds_hide_what_is_removed.Goals as goal

pub returns : goal.returns
returns c = record { hidden = unmet_hidden; kept = hidden_kept }
