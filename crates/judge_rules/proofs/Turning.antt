-- One line more: where each rule breaks first, by what the code found of the line.
use Rattle.std.proofs.Common.{◌≡◌, ℕ, ◌+◌, ◌<◌, ◌≤◌, Bool, true, false, ◌&&◌, is_none, Option, Some, None, List, [], ◌∷◌, ◌++◌, length, take, slice_get, refl, sym, ◌∙◌, ap, subst, arith, take_all, append-nil}
use Rattle.std.proofs.lemmas.List.{length-take}
use Rattle.std.proofs.lemmas.Option.{slice_get_within}
use Rattle.frang_base.specs.declared.said.Said.{Said}
use Rattle.frang_base.specs.declared.said.Said.TheVariants as said
use Rattle.frang_base.specs.declared.script.Line.{Line}
use Rattle.tree_definitions.specs.History.{after_all, legal_from, fresh_opening}
use Rattle.tree_definitions.specs.Live.{item_of, live_history}
use Rattle.tree_definitions.specs.Removal.{kept_from, settled, settled_from}
use Rattle.tree_definitions.specs.Transcript.{MaySay, live_tree}
use Rattle.tree_definitions.specs.Tree.{FileTree, fresh}
use Rattle.tree_definitions.specs.TreeLines.{tree_lines}
use Rattle.tree_laws.proofs.HistoryLaws.{kept-append, settled-append}
use Rattle.tree_laws.proofs.TranscriptLaws.{live-push, may_all-append, may_all-back}
use Rattle.history_rules.specs.Settled.{SoFar}
use Rattle.transcript_rules.specs.Tells.{SoFar as ToldSoFar, granted_faults}
use Rattle.transcript_rules.proofs.Taking.{take_one}
use Rattle.judge_rules.specs.Judging.{AreAtHand, Hears, IsHistory, Takes, Weighs, at_hand, first_of, tree_for}
use Rattle.judge_rules.specs.Verdicts.{AreKept, AreLegal, AreTranscript, BreaksAt}
use Rattle.judge_rules.proofs.Breaking.{breaks_here, holds_on, stays_broken}

-- ---- any rule

pub rule_turn : (Rule : List Said → Type 0) (before : List Said) (x : Said) (first : Option ℕ) (holds : Bool) (number : ℕ) → number ≡ length before + 1 → BreaksAt Rule before first
    → (first ≡ None → holds ≡ true → Rule (before ++ x ∷ [])) → (first ≡ None → holds ≡ false → ¬ Rule (before ++ x ∷ [])) → BreaksAt Rule (before ++ x ∷ []) (first_of first holds number)
rule_turn Rule before x None true number is at on off = holds_on Rule before x at (on refl refl)
rule_turn Rule before x None false number is at on off = subst (λ n. BreaksAt Rule (before ++ x ∷ []) (Some n)) (sym is) (breaks_here Rule before x at (off refl refl))
rule_turn Rule before x (Some n) true number is at on off = stays_broken Rule before x n at
rule_turn Rule before x (Some n) false number is at on off = stays_broken Rule before x n at

-- where a rule holds at every beginning, it holds of all
pub whole : (Rule : List Said → Type 0) (before : List Said) → BreaksAt Rule before None → Rule before
whole Rule before all = subst Rule (take_all (length before) before (omega arith)) (all (length before))

-- the lines heard are as many as their place tells
pub heard_count : (saids : List Said) (place : ℕ) (x : Said) → slice_get saids place ≡ Some x → length (take place saids) ≡ place
heard_count saids place x is = omega (arith, length-take place saids, slice_get_within saids place x is)

-- ---- the history

pub history_turn : (script : List Line) (segments : ℕ) (before : List Said) (x : Said) (old new : SoFar) → IsHistory script segments before old → Takes old (item_of script 1 x) new → IsHistory script segments (before ++ x ∷ []) new
history_turn script segments before x old new is takes = record {
  opening = takes.opening ∙ is.opening;
  steps = takes.steps ∙ ap (λ t. settled_from t old.steps (item_of script 1 x)) is.opening ∙ ap (λ list. settled_from (fresh segments) list (item_of script 1 x)) is.steps
      ∙ sym (settled-append (fresh segments) [] (live_history script 1 before) (item_of script 1 x)) ∙ ap (settled (fresh segments)) (sym (live-push script 1 before x));
}

-- legal, while it has been
legal_is : (script : List Line) (segments : ℕ) (before : List Said) (now : SoFar) → IsHistory script segments before now
    → legal_from now.opening 0 now.steps ≡ legal_from (fresh segments) 0 (settled (fresh segments) (live_history script 1 before))
legal_is script segments before now is = ap (λ t. legal_from t 0 now.steps) is.opening ∙ ap (legal_from (fresh segments) 0) is.steps

legal_goes : (script : List Line) (segments : ℕ) (before : List Said) (x : Said) (old new : SoFar) → IsHistory script segments before old → Takes old (item_of script 1 x) new → BreaksAt (AreLegal script segments) before None
    → old.legal ≡ true → new.legal ≡ legal_from (fresh segments) 0 (settled (fresh segments) (live_history script 1 (before ++ x ∷ [])))
legal_goes script segments before x old new is takes at was =
    takes.goes was (legal_is script segments before old is ∙ whole (AreLegal script segments) before at)
    ∙ legal_is script segments (before ++ x ∷ []) new (history_turn script segments before x old new is takes)

legal_turn : (script : List Line) (segments : ℕ) (before : List Said) (x : Said) (old new : SoFar) (first : Option ℕ) (number : ℕ) → number ≡ length before + 1 → IsHistory script segments before old
    → Takes old (item_of script 1 x) new → BreaksAt (AreLegal script segments) before first → old.legal ≡ is_none first
    → BreaksAt (AreLegal script segments) (before ++ x ∷ []) (first_of first new.legal number) × (new.legal ≡ is_none (first_of first new.legal number))
legal_turn script segments before x old new None number count is takes at was =
    let goes = legal_goes script segments before x old new is takes at was in
    (rule_turn (AreLegal script segments) before x None new.legal number count at (λ none yes_it. sym goes ∙ yes_it) (λ none isnt. λ rule. (let z : false ≡ true = sym isnt ∙ goes ∙ rule in cc)), by new.legal)
  where
    by : (b : Bool) → b ≡ is_none (first_of None b number)
    by true = refl
    by false = refl
legal_turn script segments before x old new (Some n) number count is takes at was =
    (rule_turn (AreLegal script segments) before x (Some n) new.legal number count at (λ none. cc) (λ none. cc), takes.stays was ∙ by new.legal)
  where
    by : (b : Bool) → false ≡ is_none (first_of (Some n) b number)
    by true = refl
    by false = refl

kept_goes : (script : List Line) (segments : ℕ) (before : List Said) (x : Said) (old new : SoFar) → IsHistory script segments before old → Takes old (item_of script 1 x) new → BreaksAt (AreKept script segments) before None
    → old.kept ≡ true → new.kept ≡ kept_from (fresh segments) [] (live_history script 1 (before ++ x ∷ []))
kept_goes script segments before x old new is takes at was =
    takes.kept ∙ ap (λ b. b && kept_from old.opening old.steps (item_of script 1 x)) was
    ∙ ap (λ t. kept_from t old.steps (item_of script 1 x)) is.opening ∙ ap (λ list. kept_from (fresh segments) list (item_of script 1 x)) is.steps
    ∙ ap (λ b. b && kept_from (fresh segments) (settled (fresh segments) (live_history script 1 before)) (item_of script 1 x)) (sym (whole (AreKept script segments) before at))
    ∙ sym (kept-append (fresh segments) [] (live_history script 1 before) (item_of script 1 x)) ∙ ap (kept_from (fresh segments) []) (sym (live-push script 1 before x))

kept_turn : (script : List Line) (segments : ℕ) (before : List Said) (x : Said) (old new : SoFar) (first : Option ℕ) (number : ℕ) → number ≡ length before + 1 → IsHistory script segments before old
    → Takes old (item_of script 1 x) new → BreaksAt (AreKept script segments) before first → old.kept ≡ is_none first
    → BreaksAt (AreKept script segments) (before ++ x ∷ []) (first_of first new.kept number) × (new.kept ≡ is_none (first_of first new.kept number))
kept_turn script segments before x old new None number count is takes at was =
    let goes = kept_goes script segments before x old new is takes at was in
    (rule_turn (AreKept script segments) before x None new.kept number count at (λ none yes_it. sym goes ∙ yes_it) (λ none isnt. λ rule. (let z : false ≡ true = sym isnt ∙ goes ∙ rule in cc)), by new.kept)
  where
    by : (b : Bool) → b ≡ is_none (first_of None b number)
    by true = refl
    by false = refl
kept_turn script segments before x old new (Some n) number count is takes at was =
    (rule_turn (AreKept script segments) before x (Some n) new.kept number count at (λ none. cc) (λ none. cc), takes.kept ∙ ap (λ b. b && kept_from old.opening old.steps (item_of script 1 x)) was ∙ by new.kept)
  where
    by : (b : Bool) → false ≡ is_none (first_of (Some n) b number)
    by true = refl
    by false = refl

pub weighs_turn : (script : List Line) (segments : ℕ) (saids : List Said) (place : ℕ) (x : Said) (old new : SoFar) (legal kept : Option ℕ) → slice_get saids place ≡ Some x
    → Weighs script segments saids place old legal kept → Takes old (item_of script 1 x) new
    → Weighs script segments saids (place + 1) new (first_of legal new.legal (place + 1)) (first_of kept new.kept (place + 1))
weighs_turn script segments saids place x old new legal kept at w takes =
    let one = take_one saids place x at in
    let count : place + 1 ≡ length (take place saids) + 1 = ap (λ n. n + 1) (sym (heard_count saids place x at)) in
    let l = legal_turn script segments (take place saids) x old new legal (place + 1) count w.history takes w.legality w.is_legal in
    let k = kept_turn script segments (take place saids) x old new kept (place + 1) count w.history takes w.keeping w.is_kept in
    record {
      history = subst (λ b. IsHistory script segments b new) (sym one) (history_turn script segments (take place saids) x old new w.history takes);
      legality = subst (λ b. BreaksAt (AreLegal script segments) b (first_of legal new.legal (place + 1))) (sym one) l.0;
      keeping = subst (λ b. BreaksAt (AreKept script segments) b (first_of kept new.kept (place + 1))) (sym one) k.0;
      is_legal = l.1;
      is_kept = k.1;
    }

-- ---- the lines of the tree at hand

tree_lines_are : (script : List Line) (segments : ℕ) (before : List Said) (now : SoFar) → IsHistory script segments before now → tree_lines (after_all now.opening now.steps) ≡ live_tree script (fresh_opening segments) before
tree_lines_are script segments before now is = ap (λ t. tree_lines (after_all t now.steps)) is.opening ∙ ap (λ list. tree_lines (after_all (fresh segments) list)) is.steps

pub hand_is : (script : List Line) (segments : ℕ) (before : List Said) (now : SoFar) (found : List Said) → IsHistory script segments before now → AreAtHand script segments before found
    → at_hand now found ≡ live_tree script (fresh_opening segments) before
hand_is script segments before now [] is at = tree_lines_are script segments before now is
hand_is script segments before now (line ∷ found) is at = at

-- lines that were found are at hand
pub hand_kept : (now : SoFar) (found : List Said) → 0 < length found → at_hand now found ≡ found
hand_kept now [] some = absurd (omega arith)
hand_kept now (line ∷ found) some = refl

are_at_hand : (script : List Line) (segments : ℕ) (before lines : List Said) → lines ≡ live_tree script (fresh_opening segments) before → AreAtHand script segments before lines
are_at_hand script segments before [] is = tt
are_at_hand script segments before (line ∷ lines) is = is

-- a line that adds nothing to the history leaves its tree
same_tree : (script : List Line) (segments : ℕ) (before : List Said) (x : Said) → item_of script 1 x ≡ [] → live_tree script (fresh_opening segments) before ≡ live_tree script (fresh_opening segments) (before ++ x ∷ [])
same_tree script segments before x adds =
    ap (λ history. tree_lines (after_all (fresh segments) (settled (fresh segments) history)))
    (sym (live-push script 1 before x ∙ ap (λ items. live_history script 1 before ++ items) adds ∙ append-nil (live_history script 1 before)))

pub hand_turn : (script : List Line) (segments : ℕ) (before : List Said) (x : Said) (now : SoFar) (found : List Said) → IsHistory script segments before now → AreAtHand script segments before found
    → AreAtHand script segments (before ++ x ∷ []) (tree_for now found x)
hand_turn script segments before (said.Node path kind size links) now found is at =
    are_at_hand script segments (before ++ said.Node path kind size links ∷ []) (at_hand now found) (hand_is script segments before now found is at ∙ same_tree script segments before (said.Node path kind size links) refl)
hand_turn script segments before said.End now found is at =
    are_at_hand script segments (before ++ said.End ∷ []) (at_hand now found) (hand_is script segments before now found is at ∙ same_tree script segments before said.End refl)
hand_turn script segments before (said.Answer s line r) now found is at = tt
hand_turn script segments before (said.Dead s) now found is at = tt
hand_turn script segments before (said.Recovering s by) now found is at = tt
hand_turn script segments before (said.Recovered s kept) now found is at = tt
hand_turn script segments before (said.Renewed s) now found is at = tt
hand_turn script segments before (said.Redo number) now found is at = tt
hand_turn script segments before (said.Backup line) now found is at = tt
hand_turn script segments before (said.Locks line) now found is at = tt
hand_turn script segments before (said.Shown text) now found is at = tt

-- ---- the transcript

pub transcript_more : (script : List Line) (segments : ℕ) (granted : Bool) (before : List Said) (x : Said) → AreTranscript script segments granted before
    → MaySay script (fresh_opening segments) (granted_faults granted) before x → AreTranscript script segments granted (before ++ x ∷ [])
transcript_more script segments granted before x all may = may_all-append script (fresh_opening segments) (granted_faults granted) [] before (x ∷ []) all (may, tt)

pub transcript_last : (script : List Line) (segments : ℕ) (granted : Bool) (before : List Said) (x : Said) → AreTranscript script segments granted (before ++ x ∷ [])
    → MaySay script (fresh_opening segments) (granted_faults granted) before x
transcript_last script segments granted before x all = (may_all-back script (fresh_opening segments) (granted_faults granted) [] before (x ∷ []) all).0

-- ---- before the first line

starts : (Rule : List Said → Type 0) (saids : List Said) → Rule [] → BreaksAt Rule (take 0 saids) None
starts Rule saids rule k = subst Rule (sym (take_all k [] (omega arith))) rule

pub hears_first : (script : List Line) (segments : ℕ) (granted : Bool) (saids : List Said) (told : ToldSoFar) (tree : List Said) → told ≡ record { script = script; granted = granted; saids = saids; place = 0 } → tree ≡ []
    → Hears script segments granted saids 0 told tree None
hears_first script segments granted saids told tree is none = record {
  breaks = starts (AreTranscript script segments granted) saids tt;
  told_is = λ first. is;
  tree_is = λ first. subst (AreAtHand script segments (take 0 saids)) (sym none) tt;
}

pub weighs_first : (script : List Line) (segments : ℕ) (saids : List Said) (tree : FileTree) (now : SoFar) → tree ≡ fresh segments → now ≡ record { opening = tree; steps = []; legal = true; kept = true }
    → Weighs script segments saids 0 now None None
weighs_first script segments saids tree now is_fresh is = record {
  history = record { opening = ap (λ (s : SoFar). s.opening) is ∙ is_fresh; steps = ap (λ (s : SoFar). s.steps) is };
  legality = starts (AreLegal script segments) saids refl;
  keeping = starts (AreKept script segments) saids refl;
  is_legal = ap (λ (s : SoFar). s.legal) is;
  is_kept = ap (λ (s : SoFar). s.kept) is;
}

-- ---- behind the last line

pub all_heard : (Rule : List Said → Type 0) (saids : List Said) (i : ℕ) (first : Option ℕ) → length saids ≤ i → BreaksAt Rule (take i saids) first → BreaksAt Rule saids first
all_heard Rule saids i first past breaks = subst (λ b. BreaksAt Rule b first) (take_all i saids past) breaks
