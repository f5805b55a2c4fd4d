-- What listing a directory looks at, sector after sector.
use Rattle.std.proofs.Common.{◌≡◌, ℕ, suc, ◌+◌, ◌-◌, ◌*◌, ◌/◌, ◌%◌, ◌<◌, ◌≤◌, Option, List, [], ◌++◌, sym, ap, ◌∙◌, arith}
use Rattle.std.proofs.Math.Path.{fun_ext}
use Rattle.std.specs.List.{fold}
use Rattle.std.specs.Map.{keys_of}
use Rattle.std.proofs.lemmas.List.Sums.{fold-append}
use Rattle.frang_base.specs.declared.reply.Reply.TheVariants as reply
use Rattle.tree_definitions.specs.Entries.{Entries}
use Rattle.disk_definitions.specs.Store.{StoredNode, StoredEntry}
use Rattle.disk_definitions.specs.Held.{Segments}
use Rattle.disk_definitions.specs.Ask.{Ask, Got, ReadDirectory, bind}
use Rattle.disk_definitions.specs.Plans.{Plan, refused}
use Rattle.disk_definitions.specs.LookPlans.{entries_of, read_entries, listing}
use Rattle.disk_definitions.specs.Written.{Cached}
use Rattle.disk_definitions.specs.LookedAt.{examined}
use Rattle.plan_steps.specs.Looking.{Looks, LooksTo}
use Rattle.dir_lookup.specs.Reading.{Lacks, Gives, reading}
use Rattle.plan_steps.proofs.Looking.{bind_end, bind_to, looks_as, none_more, stays, then_looks, then_to, to_as, as_to}
use Rattle.op_look.specs.Looks.{with_name}
use Rattle.op_look.proofs.Listed.{listed}

pub looks_begin : (x : StoredNode) (cached : Cached) (held : Segments) (touched : List ℕ) (m : Entries) (kept : Option (List ℕ)) → m ≡ []
    → LooksTo cached held kept kept (listing touched x) (read_entries x.small 0 (8 * x.blocks - 0) (listed touched m))
looks_begin x cached held touched m kept e =
    let z : 8 * x.blocks ≡ 8 * x.blocks - 0 = omega arith in
    stays cached held (listing touched x) (read_entries x.small 0 (8 * x.blocks - 0) (listed touched m)) kept
    (ap (λ m. examined (read_entries x.small 0 (8 * x.blocks) (listed touched m)) cached held) (sym e) ∙ ap (λ n. examined (read_entries x.small 0 n (listed touched m)) cached held) z)

module _ (small : ℕ → ℕ) (cached : Cached) (held : Segments) (touched : List ℕ) (j end : ℕ) (m : Entries) (p : Ask Plan) (old mid : Option (List ℕ)) where
  abbrev here : Ask (ℕ → Option StoredEntry)
  here = ReadDirectory (small (j / 8)) (j % 8) Got

  abbrev on : (ℕ → Option StoredEntry) → Ask Plan
  on f = read_entries small (j + 1) (end - (j + 1)) (λ more. listed touched m (entries_of f ++ more))

  opened : j < end → examined (read_entries small j (end - j) (listed touched m)) cached held ≡ examined (bind here on) cached held
  opened l = let n : end - j ≡ suc (end - (j + 1)) = omega arith in ap (λ n. examined (read_entries small j n (listed touched m)) cached held) n

  pub looks_lack : (s : ℕ) (new : Option (List ℕ)) → j < end → Lacks s ≡ reading (ReadDirectory (small (j / 8)) (j % 8) Got) cached held
      → LooksTo cached held old mid p (read_entries small j (end - j) (listed touched m)) → Looks cached held mid new (ReadDirectory (small (j / 8)) (j % 8) Got) → Looks cached held old new p
  looks_lack s new l e t f =
      then_looks cached held p (read_entries small j (end - j) (listed touched m)) old mid new t
      (looks_as cached held (read_entries small j (end - j) (listed touched m)) (bind here on) mid new (opened l) (bind_end cached held here on s mid new e f))

  pub looks_more : (f : ℕ → Option StoredEntry) (after : Entries) (new : Option (List ℕ)) → j < end → Gives f ≡ reading (ReadDirectory (small (j / 8)) (j % 8) Got) cached held
      → after ≡ fold with_name m (entries_of f) → LooksTo cached held old mid p (read_entries small j (end - j) (listed touched m)) → Looks cached held mid new (ReadDirectory (small (j / 8)) (j % 8) Got)
      → LooksTo cached held old new p (read_entries small (j + 1) (end - (j + 1)) (listed touched after))
  looks_more f after new l e a t g =
      let same : (λ more. listed touched m (entries_of f ++ more)) ≡ listed touched after =
      sym (fun_ext (λ more. ap (λ a. listed touched a more) a ∙ ap (λ es. refused (reply.Names (keys_of es)) touched) (sym (fold-append with_name m (entries_of f) more)))) in
      let q : Ask Plan = read_entries small j (end - j) (listed touched m) in
      let r : Ask Plan = read_entries small (j + 1) (end - (j + 1)) (listed touched after) in
      then_to cached held p q r old mid new t
      (as_to cached held q (bind here on) r mid new (opened l)
      (to_as cached held (bind here on) (on f) r mid new (bind_to cached held here on f mid new e g) (ap (λ next. examined (read_entries small (j + 1) (end - (j + 1)) next) cached held) same)))

  pub looks_all : end ≤ j → LooksTo cached held old mid p (read_entries small j (end - j) (listed touched m)) → Looks cached held old mid p
  looks_all l t =
      let z : end - j ≡ 0 = omega arith in
      then_looks cached held p (read_entries small j (end - j) (listed touched m)) old mid mid t
      (none_more cached held (read_entries small j (end - j) (listed touched m)) mid (ap (λ n. examined (read_entries small j n (listed touched m)) cached held) z))
