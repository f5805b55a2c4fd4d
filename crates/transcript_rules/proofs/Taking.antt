-- The next line is taken: what the code has then of a script and of the lines said.
use Rattle.std.proofs.Common.{◌≡◌, ◌⊎◌, inl, inr, ℕ, zero, suc, ◌+◌, ◌<◌, ◌≤◌, Bool, true, false, not, ◌&&◌, ◌||◌, ◌==◌, cond, Option, Some, None, List, [], ◌∷◌, ◌++◌, length, filter, take, drop, refl, sym, ◌∙◌, ap, subst, arith}
use Rattle.std.specs.List.{list_any, list_all, slice_get, slice_set}
use Rattle.std.specs.Ordering.{nat_cmp}
use Rattle.std.specs.BTreeSet.{BTreeSet, contains}
use Rattle.std.proofs.lemmas.Bool.Decides.{nat_tests}
use Rattle.std.proofs.lemmas.List.{length-set, length-take}
use Rattle.std.proofs.lemmas.List.Sums.{count_by-le-length, length-filter}
use Rattle.std.proofs.lemmas.Option.{slice_get_within}
use mathlib.Core.Bool.{or-false, or-true}
use Rattle.frang_base.specs.declared.said.Said.{Said}
use Rattle.frang_base.specs.declared.said.Said.TheVariants as said
use Rattle.frang_base.specs.declared.script.Line.{Line}
use Rattle.tree_definitions.specs.Transcript.{answers, halts, is_end, is_node, is_over, nodes_said}
use Rattle.transcript_rules.specs.declared.phases.Party.{Party}
use Rattle.transcript_rules.specs.Tells.{IsNode, IsParty, IsPlain, Tells, TellsNobody, TellsNode, TellsOf, TellsOnly, passed}
use Rattle.transcript_rules.proofs.Telling.{Each, Spares, each_set, each_spared, spares_backup, spares_dead, spares_end, spares_locks, spares_node, spares_recovered, spares_renewed, tells_more}

take_next : (saids : List Said) (place : ℕ) (x : Said) → slice_get saids place ≡ Some x → take (suc place) saids ≡ take place saids ++ x ∷ []
take_next [] place x is = cc
take_next (y ∷ ys) zero x is = let same : y ≡ x = cc in ap (λ (z : Said). z ∷ []) same
take_next (y ∷ ys) (suc p) x is = ap (λ r. y ∷ r) (take_next ys p x is)

pub take_one : (saids : List Said) (place : ℕ) (x : Said) → slice_get saids place ≡ Some x → take (place + 1) saids ≡ take place saids ++ x ∷ []
take_one saids place x is = let next : place + 1 ≡ suc place = omega arith in ap (λ n. take n saids) next ∙ take_next saids place x is

-- what the code has, with what the next line tells
pub tells_next : (script : List Line) (granted : Bool) (saids : List Said) (place : ℕ) (parties more : List Party) (answered marks : BTreeSet ℕ) (hosts all : ℕ) (over ends begun begins : Bool) (nodes count : ℕ) (x : Said)
    → slice_get saids place ≡ Some x → Tells script granted (take place saids) parties answered hosts all over begun nodes → length more ≡ 256
    → Each script granted (take place saids ++ x ∷ []) more → ((n : ℕ) → contains nat_cmp marks n ≡ (contains nat_cmp answered n || answers n x))
    → ends ≡ (over || (halts script x || is_end x)) → begins ≡ (begun || is_node x) → count ≡ nodes + cond (is_node x) 1 0
    → Tells script granted (take (place + 1) saids) more marks hosts all ends begins count
tells_next script granted saids place parties more answered marks hosts all over ends begun begins nodes count x is t long each marked end begin counted =
    subst (λ b. Tells script granted b more marks hosts all ends begins count) (sym (take_one saids place x is))
    (subst (λ o. Tells script granted (take place saids ++ x ∷ []) more marks hosts all o begins count) (sym end)
    (subst (λ o. Tells script granted (take place saids ++ x ∷ []) more marks hosts all (over || (halts script x || is_end x)) o count) (sym begin)
    (subst (λ n. Tells script granted (take place saids ++ x ∷ []) more marks hosts all (over || (halts script x || is_end x)) (begun || is_node x) n) (sym counted)
    (tells_more script granted (take place saids) parties more answered marks hosts all over begun nodes x t long each marked))))

-- a line that answers nothing, ends nothing and is none of the tree
pub record IsQuiet (script : List Line) (x : Said) : Type 0 where
  pub halts : halts script x ≡ false
  pub ends : is_end x ≡ false
  pub node : is_node x ≡ false
  pub answers : (n : ℕ) → answers n x ≡ false

no_more : (b : Bool) (a : Bool) → a ≡ false → b ≡ (b || a)
no_more b a isnt = sym (ap (λ c. b || c) isnt ∙ or-false b)

neither : (b a c : Bool) → a ≡ false → c ≡ false → b ≡ (b || (a || c))
neither b a c isnt none = sym (ap (λ d. b || (d || c)) isnt ∙ ap (λ d. b || d) none ∙ or-false b)

none_counted : (n : ℕ) (b : Bool) → b ≡ false → n ≡ n + cond b 1 0
none_counted n b isnt = let z : cond b 1 0 ≡ 0 = ap (λ c. cond {A = ℕ} c 1 0) isnt in omega (arith, z)

pub tells_quiet : (script : List Line) (granted : Bool) (saids : List Said) (place : ℕ) (parties more : List Party) (answered : BTreeSet ℕ) (hosts all : ℕ) (over begun : Bool) (nodes : ℕ) (x : Said)
    → slice_get saids place ≡ Some x → Tells script granted (take place saids) parties answered hosts all over begun nodes → length more ≡ 256
    → Each script granted (take place saids ++ x ∷ []) more → IsQuiet script x → Tells script granted (take (place + 1) saids) more answered hosts all over begun nodes
tells_quiet script granted saids place parties more answered hosts all over begun nodes x is t long each quiet =
    tells_next script granted saids place parties more answered answered hosts all over over begun begun nodes nodes x is t long each
    (λ n. no_more (contains nat_cmp answered n) (answers n x) (quiet.answers n)) (neither over (halts script x) (is_end x) quiet.halts quiet.ends)
    (no_more begun (is_node x) quiet.node) (none_counted nodes (is_node x) quiet.node)

-- ---- of which one party learns

-- what a line says of one party alone
pub record IsOf (script : List Line) (granted : Bool) (before : List Said) (parties : List Party) (who : ℕ) (p : Party) (x : Said) : Type 0 where
  pub each : Each script granted (before ++ x ∷ []) (slice_set parties who p)
  pub quiet : IsQuiet script x

only_of : (script : List Line) (granted : Bool) (saids : List Said) (place : ℕ) (parties : List Party) (who : ℕ) (p : Party) (x : Said) → Each script granted (take place saids) parties
    → TellsOnly (record { script = script; granted = granted; saids = saids; place = place }) who p x → IsOf script granted (take place saids) parties who p x
only_of script granted saids place parties who p (said.Dead s) each (same, is) =
    record { each = each_set script granted (take place saids) parties who p (said.Dead s) each is (λ w isnt. spares_dead script w s (ap (λ k. k == w) same ∙ isnt)); quiet = record { halts = refl; ends = refl; node = refl; answers = λ n. refl } }
only_of script granted saids place parties who p (said.Recovered s kept) each (same, is) =
    record { each = each_set script granted (take place saids) parties who p (said.Recovered s kept) each is (λ w isnt. spares_recovered script w s kept (ap (λ k. k == w) same ∙ isnt)); quiet = record { halts = refl; ends = refl; node = refl; answers = λ n. refl } }
only_of script granted saids place parties who p (said.Renewed s) each (same, is) =
    record { each = each_set script granted (take place saids) parties who p (said.Renewed s) each is (λ w isnt. spares_renewed script w s (ap (λ k. k == w) same ∙ isnt)); quiet = record { halts = refl; ends = refl; node = refl; answers = λ n. refl } }
only_of script granted saids place parties who p (said.Answer s line r) each h = absurd h
only_of script granted saids place parties who p (said.Recovering s by) each h = absurd h
only_of script granted saids place parties who p (said.Node path kind size links) each h = absurd h
only_of script granted saids place parties who p (said.Redo number) each h = absurd h
only_of script granted saids place parties who p (said.Backup line) each h = absurd h
only_of script granted saids place parties who p (said.Locks line) each h = absurd h
only_of script granted saids place parties who p (said.Shown text) each h = absurd h
only_of script granted saids place parties who p said.End each h = absurd h

pub tells_of : (script : List Line) (granted : Bool) (saids : List Said) (place : ℕ) (parties : List Party) (answered : BTreeSet ℕ) (hosts all : ℕ) (over begun : Bool) (nodes who : ℕ) (p : Party) (o : Option Said)
    → slice_get saids place ≡ o → Tells script granted (take place saids) parties answered hosts all over begun nodes
    → TellsOf (record { script = script; granted = granted; saids = saids; place = place }) who p o → Tells script granted (take (place + 1) saids) (slice_set parties who p) answered hosts all over begun nodes
tells_of script granted saids place parties answered hosts all over begun nodes who p None is t h = absurd h
tells_of script granted saids place parties answered hosts all over begun nodes who p (Some x) is t h =
    let of = only_of script granted saids place parties who p x t.each h in
    tells_quiet script granted saids place parties (slice_set parties who p) answered hosts all over begun nodes x is t (length-set parties who p ∙ t.count) of.each of.quiet

-- ---- of which nobody learns

plain : (script : List Line) (granted : Bool) (before : List Said) (parties : List Party) (x : Said) → Each script granted before parties → IsPlain x → (Each script granted (before ++ x ∷ []) parties) × IsQuiet script x
plain script granted before parties (said.Backup line) each h = (each_spared script granted before parties (said.Backup line) each (λ w. spares_backup script w line), record { halts = refl; ends = refl; node = refl; answers = λ n. refl })
plain script granted before parties (said.Locks line) each h = (each_spared script granted before parties (said.Locks line) each (λ w. spares_locks script w line), record { halts = refl; ends = refl; node = refl; answers = λ n. refl })
plain script granted before parties (said.Answer s line r) each h = absurd h
plain script granted before parties (said.Dead s) each h = absurd h
plain script granted before parties (said.Recovering s by) each h = absurd h
plain script granted before parties (said.Recovered s kept) each h = absurd h
plain script granted before parties (said.Renewed s) each h = absurd h
plain script granted before parties (said.Node path kind size links) each h = absurd h
plain script granted before parties (said.Redo number) each h = absurd h
plain script granted before parties (said.Shown text) each h = absurd h
plain script granted before parties said.End each h = absurd h

pub tells_plain : (script : List Line) (granted : Bool) (saids : List Said) (place : ℕ) (parties : List Party) (answered : BTreeSet ℕ) (hosts all : ℕ) (over begun : Bool) (nodes : ℕ) (o : Option Said)
    → slice_get saids place ≡ o → Tells script granted (take place saids) parties answered hosts all over begun nodes → TellsNobody o
    → Tells script granted (take (place + 1) saids) parties answered hosts all over begun nodes
tells_plain script granted saids place parties answered hosts all over begun nodes None is t h = absurd h
tells_plain script granted saids place parties answered hosts all over begun nodes (Some x) is t h =
    let of = plain script granted (take place saids) parties x t.each h in
    tells_quiet script granted saids place parties parties answered hosts all over begun nodes x is t t.count of.0 of.1

pub tells_end : (script : List Line) (granted : Bool) (saids : List Said) (place : ℕ) (parties : List Party) (answered : BTreeSet ℕ) (hosts all : ℕ) (over begun : Bool) (nodes : ℕ)
    → slice_get saids place ≡ Some said.End → Tells script granted (take place saids) parties answered hosts all over begun nodes
    → Tells script granted (take (place + 1) saids) parties answered hosts all true begun nodes
tells_end script granted saids place parties answered hosts all over begun nodes is t =
    tells_next script granted saids place parties parties answered answered hosts all over true begun begun nodes nodes said.End is t t.count
    (each_spared script granted (take place saids) parties said.End t.each (λ w. spares_end script w))
    (λ n. sym (or-false (contains nat_cmp answered n))) (sym (or-true over)) (sym (or-false begun)) (none_counted nodes false refl)

node : (script : List Line) (granted : Bool) (saids : List Said) (place : ℕ) (parties : List Party) (answered : BTreeSet ℕ) (hosts all : ℕ) (over begun : Bool) (nodes : ℕ) (x : Said)
    → slice_get saids place ≡ Some x → Tells script granted (take place saids) parties answered hosts all over begun nodes → IsNode x
    → Tells script granted (take (place + 1) saids) parties answered hosts all over true (nodes + 1)
node script granted saids place parties answered hosts all over begun nodes (said.Node path kind size links) is t h =
    tells_next script granted saids place parties parties answered answered hosts all over over begun true nodes (nodes + 1) (said.Node path kind size links) is t t.count
    (each_spared script granted (take place saids) parties (said.Node path kind size links) t.each (λ w. spares_node script w path kind size links))
    (λ n. sym (or-false (contains nat_cmp answered n))) (sym (or-false over)) (sym (or-true begun)) refl
node script granted saids place parties answered hosts all over begun nodes (said.Answer s line r) is t h = absurd h
node script granted saids place parties answered hosts all over begun nodes (said.Dead s) is t h = absurd h
node script granted saids place parties answered hosts all over begun nodes (said.Recovering s by) is t h = absurd h
node script granted saids place parties answered hosts all over begun nodes (said.Recovered s kept) is t h = absurd h
node script granted saids place parties answered hosts all over begun nodes (said.Renewed s) is t h = absurd h
node script granted saids place parties answered hosts all over begun nodes (said.Redo number) is t h = absurd h
node script granted saids place parties answered hosts all over begun nodes (said.Backup line) is t h = absurd h
node script granted saids place parties answered hosts all over begun nodes (said.Locks line) is t h = absurd h
node script granted saids place parties answered hosts all over begun nodes (said.Shown text) is t h = absurd h
node script granted saids place parties answered hosts all over begun nodes said.End is t h = absurd h

pub tells_node : (script : List Line) (granted : Bool) (saids : List Said) (place : ℕ) (parties : List Party) (answered : BTreeSet ℕ) (hosts all : ℕ) (over begun : Bool) (nodes : ℕ) (o : Option Said)
    → slice_get saids place ≡ o → Tells script granted (take place saids) parties answered hosts all over begun nodes → TellsNode o
    → Tells script granted (take (place + 1) saids) parties answered hosts all over true (nodes + 1)
tells_node script granted saids place parties answered hosts all over begun nodes None is t h = absurd h
tells_node script granted saids place parties answered hosts all over begun nodes (Some x) is t h = node script granted saids place parties answered hosts all over begun nodes x is t h

-- as many lines of the tree as lines were said, at most
pub nodes_few : (saids : List Said) (place : ℕ) → nodes_said (take place saids) ≤ length saids
nodes_few saids place = omega (arith, length-filter is_node (take place saids), count_by-le-length is_node (take place saids), length-take place saids)

pub node_within : (saids : List Said) (place : ℕ) (o : Option Said) → slice_get saids place ≡ o → TellsNode o → place < length saids
node_within saids place None is h = absurd h
node_within saids place (Some x) is h = slice_get_within saids place x is
