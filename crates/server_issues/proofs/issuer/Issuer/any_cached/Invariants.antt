-- Of the sectors that are left one may be issued exactly where one of all may.
use Rattle.std.proofs.Common.{◌≡◌, drop}
use Rattle.std.specs.List.{list_any}
use Rattle.core_definitions.specs.Cores.{Core, writes}
use Rattle.core_definitions.specs.WriteGuards.{is_issuable}
use Rattle.server_issues.specs.Issuing.{IsIssuing}
use Rattle.server_issues.proofs.issuer.Issuer.any_cached.Given as goal

abbrev pub invariant-loop-i : goal.invariant-loop-i
invariant-loop-i l = (c : Core) → IsIssuing c l.self → list_any (λ e. is_issuable c l.self.server.id e.0 (writes c l.self.server.id)) (drop l.i l.self.server.server.cache)
    ≡ list_any (λ e. is_issuable c l.self.server.id e.0 (writes c l.self.server.id)) l.self.server.server.cache
