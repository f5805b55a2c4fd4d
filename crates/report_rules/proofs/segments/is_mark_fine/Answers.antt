-- A block has a first user exactly where the row lists it.
use Rattle.std.proofs.Common.{◌≡◌, ◌*◌, true, false, not, is_some, Option, ℕ, sym, ◌∙◌, ap}
use Rattle.standing_laws.specs.Below.{lists}
use Rattle.standing_laws.specs.Soundness.{agree}
use Rattle.disk_reading.specs.Marks.{flag_at}
use Rattle.disk_reading.specs.Seen.{store_in}
use Rattle.report_definitions.specs.Rules.{used_large}
use Rattle.report_rules.specs.Seen.{stored}
use Rattle.report_rules.proofs.FirstUsers.{user_listed}
use Rattle.report_rules.proofs.segments.is_mark_fine.Goals as goal

pub returns-then-is_some : goal.returns-then-is_some
returns-then-is_some c =
    let s = store_in c.args.segments c.args.disk.now in
    let t = c.args.tables.now in
    let f = used_large (stored c.args.segments s) (flag_at t.reached) in
    let l : lists f (64 * c.args.segments) c.args.k ≡ true =
    sym (user_listed f c.args.segments (64 * c.args.segments) t.large.first.items t.large.fine c.requires.tables.large c.args.k c.requires.within) ∙ sym (ap (λ (o : Option ℕ). is_some o) c.first.ensures) ∙ sym c.is_some.ensures ∙ c.if-is_some.true in
    c.large_bit-marked.ensures ∙ sym (ap (λ b. agree b (s.large_bit c.args.k)) l)

pub returns-else-is_some : goal.returns-else-is_some
returns-else-is_some c =
    let s = store_in c.args.segments c.args.disk.now in
    let t = c.args.tables.now in
    let f = used_large (stored c.args.segments s) (flag_at t.reached) in
    let l : lists f (64 * c.args.segments) c.args.k ≡ false =
    sym (user_listed f c.args.segments (64 * c.args.segments) t.large.first.items t.large.fine c.requires.tables.large c.args.k c.requires.within) ∙ sym (ap (λ (o : Option ℕ). is_some o) c.first.ensures) ∙ sym c.is_some.ensures ∙ c.if-is_some.false in
    ap not c.large_bit-marked.ensures ∙ sym (ap (λ b. agree b (s.large_bit c.args.k)) l)
