-- Names are told apart, and the entries of a directory change at one name.
use Rattle.std.proofs.Common.{ℕ, ◌≡◌, ◌≢◌, true, Some, None, List, refl, sym, ◌∙◌, ap, subst}
use Rattle.std.specs.Ordering.{nat_cmp}
use Rattle.std.specs.Cmp.Lexicographic.{slice_cmp}
use Rattle.std.specs.BTreeMap.{is_at}
use Rattle.std.proofs.lemmas.Bool.{both_ways}
use Rattle.tree_definitions.specs.Entries.{entry_at, without_entry}
use Rattle.frang_base.proofs.Basics.{by_test}
use Rattle.frang_base.proofs.Tests.{some_there}
use Rattle.tree_definitions.proofs.Pairs.{tie, self, name_exact, found_put, found_other, found_left, found_removed, length_put, length_kept, length_removed}
use Rattle.disk_definitions.specs.Namings.{put_name}
use Rattle.disk_definitions.specs.ChangeLaws.{NamesCome, NamesGo, NamesMove, NamesAreTaken}

pub at_name : {X : Type 0} (P : X → Type 0) (f : List ℕ → X) (k : List ℕ) (v : X) (i : List ℕ) → (i ≡ k → P v) → (i ≢ k → P (f i)) → P (put_name f k v i)
at_name P f k v i same other = by_test P v (f i) (is_at (slice_cmp nat_cmp k) i)
    (λ e. same (sym (tie (slice_cmp nat_cmp) name_exact k i e)))
    (λ e. other (λ q. both_ways (is_at (slice_cmp nat_cmp k) i) e (subst (λ x. is_at (slice_cmp nat_cmp k) x ≡ true) (sym q) (self (slice_cmp nat_cmp) name_exact k))))

pub name_same : {X : Type 0} (f : List ℕ → X) (k : List ℕ) (v : X) → put_name f k v k ≡ v
name_same f k v = at_name (λ x. x ≡ v) f k v k (λ e. refl) (λ n. absurd (n refl))

pub name_other : {X : Type 0} (f : List ℕ → X) (k : List ℕ) (v : X) (i : List ℕ) → i ≢ k → put_name f k v i ≡ f i
name_other f k v i n = at_name (λ x. x ≡ f i) f k v i (λ e. absurd (n e)) (λ m. refl)

pub names_come : NamesCome
names_come entries name b absent = record {
  absent = absent;
  has = found_put (slice_cmp nat_cmp) name_exact entries name b;
  others = λ m f. found_other (slice_cmp nat_cmp) name_exact entries name b m f;
  one = length_put (slice_cmp nat_cmp) name_exact entries name b absent;
}

pub names_go : NamesGo
names_go entries name differ had = let a = some_there (entry_at entries name) had in record {
  had = had;
  gone = found_removed (slice_cmp nat_cmp) name_exact entries name differ;
  others = λ m f. found_left (slice_cmp nat_cmp) name_exact entries name m f;
  one = length_removed (slice_cmp nat_cmp) name_exact entries name a.0 a.1;
}

pub names_move : NamesMove
names_move entries name to b differ had none =
    let a = some_there (entry_at entries name) had in
    let apart : to ≢ name = λ i. let z : Some a.0 ≡ None = sym a.1 ∙ ap (entry_at entries) (sym i) ∙ none in cc in
    let new : entry_at (without_entry entries name) to ≡ None = found_left (slice_cmp nat_cmp) name_exact entries name to apart ∙ none in
    record {
      had = had;
      has = found_put (slice_cmp nat_cmp) name_exact (without_entry entries name) to b;
      absent = λ f. none;
      gone = λ f. found_other (slice_cmp nat_cmp) name_exact (without_entry entries name) to b name f ∙ found_removed (slice_cmp nat_cmp) name_exact entries name differ;
      others = λ m f e. found_other (slice_cmp nat_cmp) name_exact (without_entry entries name) to b m e ∙ found_left (slice_cmp nat_cmp) name_exact entries name m f;
      same = length_put (slice_cmp nat_cmp) name_exact (without_entry entries name) to b new ∙ sym (length_removed (slice_cmp nat_cmp) name_exact entries name a.0 a.1);
    }

pub names_are_taken : NamesAreTaken
names_are_taken entries name b differ had = let a = some_there (entry_at entries name) had in record {
  had = had;
  has = found_put (slice_cmp nat_cmp) name_exact entries name b;
  absent = λ f. absurd (f refl);
  gone = λ f. absurd (f refl);
  others = λ m f e. found_other (slice_cmp nat_cmp) name_exact entries name b m f;
  same = length_kept (slice_cmp nat_cmp) name_exact entries name b a.0 differ a.1;
}
