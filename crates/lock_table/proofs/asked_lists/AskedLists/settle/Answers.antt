-- Where the wishes stay only one list may change.
use Rattle.std.proofs.Common.{◌≡◌, ◌∙◌, sym, ap}
use Rattle.lock_table.specs.Asked.{claim_by}
use Rattle.lock_table.proofs.Keeping.{settled_own}
use Rattle.lock_table.proofs.asked_lists.AskedLists.settle.Goals as goal

pub returns-then-wish_alike-clause-asked : goal.returns-then-wish_alike-clause-asked
returns-then-wish_alike-clause-asked c =
    let s = c.args.server.0 in
    let alike = c.wish_alike.ensures in
    let shared : (claim_by s c.args.now.now).wishes_shared ≡ (claim_by s c.args.before.now).wishes_shared
    = ap (λ claim. claim.wishes_shared) (sym c.claim-2.ensures.claim) ∙ sym (alike.shared c.if-wish_alike.true) ∙ ap (λ claim. claim.wishes_shared) c.claim.ensures.claim in
    let sole : (claim_by s c.args.now.now).wishes_sole ≡ (claim_by s c.args.before.now).wishes_sole
    = ap (λ claim. claim.wishes_sole) (sym c.claim-2.ensures.claim) ∙ sym (alike.sole c.if-wish_alike.true) ∙ ap (λ claim. claim.wishes_sole) c.claim.ensures.claim in
    c.settle_one.ensures.asked ∙ settled_own c.args.self.now.asked s c.args.lock c.args.before.now c.args.now.now c.requires.long c.requires.server c.requires.listed c.requires.others shared sole
