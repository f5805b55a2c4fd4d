-- What a plan has examined once it goes on, and once it ends.
use Rattle.std.proofs.Common.{◌≡◌, ℕ, Option, List, [], ◌++◌, append_assoc, sym, ap, ◌∙◌}
use Rattle.disk_definitions.specs.Held.{Segments}
use Rattle.disk_definitions.specs.Ask.{Ask, bind}
use Rattle.disk_definitions.specs.Written.{Cached}
use Rattle.dir_lookup.specs.Reading.{Lacks, Gives, reading}
use Rattle.dir_lookup.proofs.Looking.{adds_as, adds_none, adds_then}
use Rattle.disk_definitions.specs.LookedAt.{examined}
use Rattle.plan_steps.specs.Looking.{Looks, LooksTo}
use Rattle.plan_steps.proofs.Examining.{examined_end, examined_on}

module _ (cached : Cached) (held : Segments) where
  -- no look more
  pub none_more : {A : Type 0} (p : Ask A) (kept : Option (List ℕ)) → examined p cached held ≡ [] → Looks cached held kept kept p
  none_more p kept e = adds_as kept kept [] (examined p cached held) (sym e) (adds_none kept)

  pub looks_as : {A B : Type 0} (p : Ask A) (q : Ask B) (old new : Option (List ℕ)) → examined p cached held ≡ examined q cached held → Looks cached held old new q → Looks cached held old new p
  looks_as p q old new e f = adds_as old new (examined q cached held) (examined p cached held) (sym e) f

  -- the looks before it goes on, and those behind
  pub then_looks : {A B : Type 0} (p : Ask A) (q : Ask B) (old mid new : Option (List ℕ)) → LooksTo cached held old mid p q → Looks cached held mid new q → Looks cached held old new p
  then_looks p q old mid new t f = adds_as old new (t.0 ++ examined q cached held) (examined p cached held) (sym t.2) (adds_then old mid new t.0 (examined q cached held) t.1 f)

  pub then_to : {A B C : Type 0} (p : Ask A) (q : Ask B) (r : Ask C) (old mid new : Option (List ℕ)) → LooksTo cached held old mid p q → LooksTo cached held mid new q r → LooksTo cached held old new p r
  then_to p q r old mid new t u =
      (t.0 ++ u.0, adds_then old mid new t.0 u.0 t.1 u.1, t.2 ∙ ap (λ l. t.0 ++ l) u.2 ∙ sym (append_assoc t.0 u.0 (examined r cached held)))

  pub as_to : {A B C : Type 0} (p : Ask A) (q : Ask B) (r : Ask C) (old new : Option (List ℕ)) → examined p cached held ≡ examined q cached held → LooksTo cached held old new q r → LooksTo cached held old new p r
  as_to p q r old new e t = (t.0, t.1, e ∙ t.2)

  pub to_as : {A B C : Type 0} (p : Ask A) (q : Ask B) (r : Ask C) (old new : Option (List ℕ)) → LooksTo cached held old new p q → examined q cached held ≡ examined r cached held → LooksTo cached held old new p r
  to_as p q r old new t e = (t.0, t.1, t.2 ∙ ap (λ l. t.0 ++ l) e)

  pub stays : {A B : Type 0} (p : Ask A) (q : Ask B) (kept : Option (List ℕ)) → examined p cached held ≡ examined q cached held → LooksTo cached held kept kept p q
  stays p q kept e = ([], adds_none kept, e)

  -- one program, and then another by its value
  pub bind_to : {A B : Type 0} (p : Ask A) (f : A → Ask B) (a : A) (old new : Option (List ℕ)) → Gives a ≡ reading p cached held → Looks cached held old new p → LooksTo cached held old new (bind p f) (f a)
  bind_to p f a old new e l = (examined p cached held, l, examined_on p f cached held a e)

  pub bind_end : {A B : Type 0} (p : Ask A) (f : A → Ask B) (s : ℕ) (old new : Option (List ℕ)) → Lacks s ≡ reading p cached held → Looks cached held old new p → Looks cached held old new (bind p f)
  bind_end p f s old new e l = adds_as old new (examined p cached held) (examined (bind p f) cached held) (sym (examined_end p f cached held s e)) l
