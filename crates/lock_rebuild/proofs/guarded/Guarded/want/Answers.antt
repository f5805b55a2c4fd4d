-- Where the table alone would grant the want no holder conflicts, so the bits are those of the silent servers.
use Rattle.std.proofs.Common.{◌≡◌, ℕ, ◌==◌, true, false, ◌&&◌, if◌then◌else◌, rules, sym, ap, ◌∙◌, arith}
use Rattle.std.specs.Prelude.{bit_or}
use Rattle.std.specs.Int.Bits.{or_zero_l}
use Rattle.std.proofs.lemmas.Bool.Decides.{nat_tests}
use Rattle.frang_base.specs.declared.lock.LockId.{LockId}
use Rattle.frang_base.specs.declared.lock.Mode.{Mode}
use Rattle.lock_definitions.specs.declared.claim.Wanted.TheVariants.{Granted, Wait}
use Rattle.lock_definitions.specs.Servers.{server_bits}
use Rattle.lock_definitions.specs.Calls.{is_free, holders}
use Rattle.lock_definitions.proofs.Answers.{free-holders}
use Rattle.lock_rebuild.specs.Guard.{Guard, is_silent, may_grant, guarded_answer}
use Rattle.lock_rebuild.proofs.guarded.Guarded.want.Goals as goal

waits : (guard : Guard) (s : ℕ) (lock : LockId) (mode : Mode) (bits : ℕ) → bits ≡ server_bits (is_silent guard) → is_free guard.locks s lock mode ≡ true → may_grant guard s lock mode ≡ false → Wait bits ≡ guarded_answer guard s lock mode
waits guard s lock mode bits is free refused =
    ap Wait (is ∙ sym (or_zero (server_bits (is_silent guard))) ∙ ap (λ n. bit_or n (server_bits (is_silent guard))) (sym none))
    ∙ ap (λ b. if b then Granted else Wait (bit_or (holders guard.locks s lock mode) (server_bits (is_silent guard)))) (sym (λ i. free i && refused i))
  where
    or_zero : (n : ℕ) → bit_or 0 n ≡ n
    or_zero n = or_zero_l n

    zero : (n : ℕ) → (n == 0) ≡ true → n ≡ 0
    zero n e = grind (arith, nat_tests)

    none : holders guard.locks s lock mode ≡ 0
    none = zero (holders guard.locks s lock mode) (free-holders guard.locks s lock mode ∙ free)

pub returns-then-not-may_grant-clause-answer : goal.returns-then-not-may_grant-clause-answer
returns-then-not-may_grant-clause-answer c =
    let free : is_free c.args.self.now.locks c.args.server.0 c.args.lock c.args.mode ≡ true = search rules in
    let refused : may_grant c.args.self.now c.args.server.0 c.args.lock c.args.mode ≡ false = search rules in
    waits c.args.self.now c.args.server.0 c.args.lock c.args.mode c.silent_bits-bits.result c.silent_bits-bits.ensures free refused
