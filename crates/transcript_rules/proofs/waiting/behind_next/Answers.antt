-- The line at the place, if any, is the first of those from there on.
use Rattle.std.proofs.Common.{◌≡◌, ◌+◌, cond, nat_lt, length, slice_get, drop, refl, ◌∙◌, ap, rules}
use Rattle.tree_definitions.specs.Transcript.{lines_for}
use Rattle.transcript_rules.proofs.Waits.{behind_next}
use Rattle.transcript_rules.proofs.waiting.behind_next.Goals as goal

pub returns : goal.returns
returns c =
    let script = c.args.script.now in
    let own = c.next_own-own.result in
    let is : c.behind.result ≡ cond (nat_lt own (length script)) (own + 1) own = first_of (search rules, cc) in
    ap (λ n. lines_for c.args.who.0 (drop n script)) is ∙ behind_next c.args.who.0 own script (slice_get script own) refl c.next_own-own.ensures.own ∙ ap (drop 1) c.next_own-own.ensures.lines
