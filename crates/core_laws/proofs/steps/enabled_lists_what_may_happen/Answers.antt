-- Row by row.
use Rattle.core_definitions.specs.Enabled.{enabled}
use Rattle.core_laws.proofs.Membership.{contains_in, in_contains}
use Rattle.core_laws.proofs.Exact.{enabled_listed, enabled_only}
use Rattle.core_laws.proofs.steps.enabled_lists_what_may_happen.Goals as goal

pub returns : goal.returns
returns u = record { exact = λ c e. (λ h. enabled_only c e (contains_in (enabled c) e h), λ can. in_contains (enabled c) e (enabled_listed c e can)) }
