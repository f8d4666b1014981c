-- Packages one by one.
use Rattle.std.proofs.Common.{◌≡◌, ℕ, suc, ◌+◌, Bool, true, false, List, [], ◌∷◌, ◌++◌, Some, None, Option, Err, IfErr, sym, subst, ap, ◌∙◌, drop, append_assoc, add-one}
use Rattle.std.proofs.lemmas.List.{append-nil, drop_more}
use Rattle.std.proofs.lemmas.Option.{slice_get_within, get_or_from_slice_get}
use Rattle.std.specs.Prelude.{slice_get, if◌then◌else◌}
use Rattle.wit_types.specs.declared.«package».Package.{Package}
use Rattle.wit_types.specs.declared.«package».PackageName.{PackageName}
use Rattle.std.specs.declared.result.Result.{Result}
use Rattle.wit_words.specs.Outcome.{AnswersText}
use Rattle.wit_words.specs.declared.fault.SyntaxFault.{SyntaxFault}
use Rattle.wit_words.specs.declared.fault.SyntaxFault.TheVariants as faults
use Rattle.wit_productions.specs.NameTree.{UsePathTree}
use Rattle.wit_productions.specs.NameView as view
use Rattle.wit_productions.specs.WholeText.{IsUsePath}
use Rattle.wit_selection.specs.declared.selection.SelectFault.{SelectFault}
use Rattle.wit_selection.specs.Selection.{ids_where, selected, found, refusal_of, IsSelectCause}

module _ (test : PackageName → Bool) where
  left_from : (xs : List Package) (k : ℕ) (x : Package) → slice_get xs k ≡ Some x → drop k xs ≡ x ∷ drop (k + 1) xs
  left_from xs k x e = drop_more xs k x (slice_get_within xs k x e) ∙ ap (λ (z : Package). z ∷ drop (k + 1) xs) (get_or_from_slice_get xs k x x e)

  -- with one more
  pub one_more : (ids after : List ℕ) (xs : List Package) (i : ℕ) (p : Package) → slice_get xs i ≡ Some p → after ≡ ids ++ (if test p.name then i ∷ [] else [])
      → after ++ ids_where test (i + 1) (drop (i + 1) xs) ≡ ids ++ ids_where test i (drop i xs)
  one_more ids after xs i p at is =
      ap (λ (ks : List ℕ). ks ++ ids_where test (i + 1) (drop (i + 1) xs)) is ∙ ap (λ (n : ℕ). (ids ++ (if test p.name then i ∷ [] else [])) ++ ids_where test n (drop (i + 1) xs)) (add-one i)
      ∙ by_cases (test p.name) ∙ ap (λ (ps : List Package). ids ++ ids_where test i ps) (sym (left_from xs i p at))
    where
      rest : List ℕ
      rest = ids_where test (suc i) (drop (i + 1) xs)

      by_cases : (b : Bool) → (ids ++ (if b then i ∷ [] else [])) ++ rest ≡ ids ++ (if b then i ∷ rest else rest)
      by_cases true = append_assoc ids (i ∷ []) rest
      by_cases false = ap (λ (ks : List ℕ). ks ++ rest) (append-nil ids)

-- ---- worlds

-- what isn't a path
pub text_refused : (packages : List Package) (main : List ℕ) (text : List ℕ) (fault : SyntaxFault) → ((d : UsePathTree) → IsUsePath text d → AnswersText view.use_path (Err fault) d)
    → IsSelectCause packages main (Some text) (refusal_of fault)
text_refused packages main text faults.OutOfMemory never = tt
text_refused packages main text faults.TooLarge never = λ w s. never s.0 s.1
text_refused packages main text (faults.Broken rule at) never = λ w s. never s.0 s.1

-- a path that names no world
pub path_refused : (packages : List Package) (main : List ℕ) (text : List ℕ) (tree : UsePathTree) (o : Option ℕ) (r : Result ℕ SelectFault) → r ≡ found o → o ≡ selected packages main tree
    → ((d : UsePathTree) → IsUsePath text d → tree ≡ d) → IfErr r (IsSelectCause packages main (Some text))
path_refused packages main text tree (Some w) r re oe one = subst (λ (q : Result ℕ SelectFault). IfErr q (IsSelectCause packages main (Some text))) (sym re) tt
path_refused packages main text tree None r re oe one =
    subst (λ (q : Result ℕ SelectFault). IfErr q (IsSelectCause packages main (Some text))) (sym re) (λ w s.
    let same : tree ≡ s.0 = one s.0 s.1 in
    let none : None ≡ Some w = oe ∙ ap (selected packages main) same ∙ s.2 in
    cc)
