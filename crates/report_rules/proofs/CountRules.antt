-- The counts of an inode agree exactly where what was counted says so.
use Rattle.std.proofs.Common.{◌==◌, ◌≡◌, ◌≢◌, ℕ, ◌*◌, ◌<◌, Bool, cond, Option, Some, List, get_or, eq-eqb, ne_eqb, sym, ◌∙◌, ap}
use Rattle.disk_definitions.specs.Store.{Store, StoredNode}
use Rattle.disk_reading.specs.Names.{counted}
use Rattle.report_definitions.specs.Rules.{counts_agree, entries_of, names_to}
use Rattle.report_rules.specs.Seen.{stored}
use Rattle.report_rules.specs.Entries.{entries_in}
use Rattle.report_rules.specs.Names.{AreNames}
use Rattle.report_rules.proofs.Counted.{capped}

pub entries_agree : (segments : ℕ) (s : Store) (reached : ℕ → Bool) (i : ℕ) (o : Option StoredNode) (x : StoredNode) (count : ℕ) → o ≡ s.inode i → o ≡ Some x → x.kind ≡ 2 → count ≡ entries_in s o → (count == x.size) ≡ counts_agree (stored segments s) reached i (s.inode i)
unfolding entries_in
entries_agree segments s reached i o x count same found kind e =
    ap (λ n. n == x.size) (e ∙ ap (entries_in s) same)
    ∙ sym (ap (λ b. cond b (entries_of s i == x.size) (names_to (stored segments s) reached i == x.links)) (eq-eqb x.kind 2 kind))
    ∙ sym (ap (λ (o : Option StoredNode). counts_agree (stored segments s) reached i o) (sym same ∙ found))

pub names_agree : (segments : ℕ) (s : Store) (reached : ℕ → Bool) (i : ℕ) (o : Option StoredNode) (x : StoredNode) (counts : List ℕ) (count : ℕ) → o ≡ s.inode i → o ≡ Some x → x.kind ≢ 2 → AreNames segments s reached counts → i < 64 * segments → count ≡ get_or counts i 0 → count < 18446744073709551616 → x.links < 4294967296 → (count == x.links) ≡ counts_agree (stored segments s) reached i (s.inode i)
names_agree segments s reached i o x counts count same found kind are within e few low =
    capped (names_to (stored segments s) reached i) count x.links (ap counted e ∙ are.each i within) few low
    ∙ sym (ap (λ b. cond b (entries_of s i == x.size) (names_to (stored segments s) reached i == x.links)) (ne_eqb x.kind 2 kind))
    ∙ sym (ap (λ (o : Option StoredNode). counts_agree (stored segments s) reached i o) (sym same ∙ found))
