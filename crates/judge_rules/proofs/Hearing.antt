-- A line that is heard while the transcript holds: it goes on, or breaks here.
use Rattle.std.proofs.Common.{◌≡◌, ℕ, ◌+◌, Bool, true, false, Some, None, List, take, slice_get, refl, sym, ap, subst, not, is_none, is_some, Option}
use Rattle.frang_base.specs.declared.said.Said.{Said}
use Rattle.frang_base.specs.declared.said.Said.TheVariants as said
use Rattle.frang_base.specs.declared.script.Line.{Line}
use Rattle.tree_definitions.specs.History.{fresh_opening}
use Rattle.history_rules.specs.Settled.{SoFar}
use Rattle.transcript_rules.specs.Tells.{SoFar as ToldSoFar, HasTree, HasTreeAt, MayGoOn}
use Rattle.transcript_rules.proofs.Taking.{take_one}
use Rattle.judge_rules.specs.Judging.{AreAtHand, Hears, IsHistory, Tests, first_of, tree_for}
use Rattle.judge_rules.specs.Verdicts.{AreTranscript, BreaksAt}
use Rattle.judge_rules.proofs.Breaking.{stays_broken}
use Rattle.judge_rules.proofs.Turning.{hand_is, hand_turn, heard_count, rule_turn, transcript_last, transcript_more, whole}

-- a script and its lines, of which so many are told
abbrev pub told_at : List Line → Bool → List Said → ℕ → ToldSoFar
told_at script granted saids place = record { script = script; granted = granted; saids = saids; place = place }

has_tree : (script : List Line) (segments : ℕ) (granted : Bool) (saids : List Said) (place : ℕ) (now : SoFar) (found : List Said) (x : Said) → IsHistory script segments (take place saids) now
    → AreAtHand script segments (take place saids) found → HasTree (told_at script granted saids place) (fresh_opening segments) (tree_for now found x) x
has_tree script segments granted saids place now found (said.Node path kind size links) is at = hand_is script segments (take place saids) now found is at
has_tree script segments granted saids place now found said.End is at = hand_is script segments (take place saids) now found is at
has_tree script segments granted saids place now found (said.Answer s line r) is at = tt
has_tree script segments granted saids place now found (said.Dead s) is at = tt
has_tree script segments granted saids place now found (said.Recovering s by) is at = tt
has_tree script segments granted saids place now found (said.Recovered s kept) is at = tt
has_tree script segments granted saids place now found (said.Renewed s) is at = tt
has_tree script segments granted saids place now found (said.Redo number) is at = tt
has_tree script segments granted saids place now found (said.Backup line) is at = tt
has_tree script segments granted saids place now found (said.Locks line) is at = tt
has_tree script segments granted saids place now found (said.Shown text) is at = tt

-- what is none isn't some
pub none_is : {T : Type 0} (o : Option T) (r : Bool) → is_some o ≡ not r → r ≡ is_none o
none_is (Some x) true is = cc
none_is (Some x) false is = refl
none_is None true is = refl
none_is None false is = cc

heard_turn : (script : List Line) (segments : ℕ) (granted : Bool) (saids : List Said) (place : ℕ) (x : Said) (now : SoFar) (found : List Said) (new : ToldSoFar) (holds : Bool) → slice_get saids place ≡ Some x
    → IsHistory script segments (take place saids) now → BreaksAt (AreTranscript script segments granted) (take place saids) None → AreAtHand script segments (take place saids) found
    → Tests (told_at script granted saids place) new (tree_for now found x) holds → Hears script segments granted saids (place + 1) new (tree_for now found x) (first_of None holds (place + 1))
heard_turn script segments granted saids place x now found new holds at is all hand tests =
    let told = told_at script granted saids place in
    let opening = fresh_opening segments in
    let tree = subst (λ o. HasTreeAt told opening (tree_for now found x) o) (sym at) (has_tree script segments granted saids place now found x is hand) in
    record {
      breaks = subst (λ b. BreaksAt (AreTranscript script segments granted) b (first_of None holds (place + 1))) (sym (take_one saids place x at))
          (rule_turn (AreTranscript script segments granted) (take place saids) x None holds (place + 1) (ap (λ n. n + 1) (sym (heard_count saids place x at))) all
          (λ none good. transcript_more script segments granted (take place saids) x (whole (AreTranscript script segments granted) (take place saids) all) (subst (λ o. MayGoOn told opening o) at (tests.may opening tree good)))
          (λ none bad. λ rule. tests.never opening tree bad (subst (λ o. MayGoOn told opening o) (sym at) (transcript_last script segments granted (take place saids) x rule))));
      told_is = λ none. tests.goes (sound holds none);
      tree_is = λ none. subst (λ b. AreAtHand script segments b (tree_for now found x)) (sym (take_one saids place x at)) (hand_turn script segments (take place saids) x now found is hand);
    }
  where
    sound : (b : Bool) → first_of None b (place + 1) ≡ None → b ≡ true
    sound true none = refl
    sound false none = cc

pub next_heard : (script : List Line) (segments : ℕ) (granted : Bool) (saids : List Said) (place : ℕ) (x : Said) (now : SoFar) (old new : ToldSoFar) (found : List Said) (holds : Bool) (number : ℕ) → slice_get saids place ≡ Some x
    → number ≡ place + 1 → IsHistory script segments (take place saids) now → Hears script segments granted saids place old found None → Tests old new (tree_for now found x) holds
    → Hears script segments granted saids (place + 1) new (tree_for now found x) (first_of None holds number)
next_heard script segments granted saids place x now old new found holds number at count is hears tests =
    subst (λ n. Hears script segments granted saids (place + 1) new (tree_for now found x) (first_of None holds n)) (sym count)
    (heard_turn script segments granted saids place x now found new holds at is hears.breaks (hears.tree_is refl)
    (subst (λ (t : ToldSoFar). Tests t new (tree_for now found x) holds) (hears.told_is refl) tests))

-- once it is broken it stays so
pub still_broken : (script : List Line) (segments : ℕ) (granted : Bool) (saids : List Said) (place : ℕ) (x : Said) (told : ToldSoFar) (tree : List Said) (n : ℕ) → slice_get saids place ≡ Some x
    → Hears script segments granted saids place told tree (Some n) → Hears script segments granted saids (place + 1) told tree (Some n)
still_broken script segments granted saids place x told tree n at hears = record {
  breaks = subst (λ b. BreaksAt (AreTranscript script segments granted) b (Some n)) (sym (take_one saids place x at)) (stays_broken (AreTranscript script segments granted) (take place saids) x n hears.breaks);
  told_is = λ none. cc;
  tree_is = λ none. cc;
}
