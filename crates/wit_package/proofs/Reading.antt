-- Texts of which one more is read, and files of which one more is resolved.
use Rattle.std.proofs.Common.{◌≡◌, ℕ, ◌+◌, ◌<◌, ◌≤◌, List, [], ◌∷◌, ◌++◌, ◌⊎◌, inl, inr, length, get_or, take, Some, refl, sym, subst, ap, ◌∙◌, arith}
use Rattle.std.proofs.Math.Seq.{take-length}
use Rattle.std.proofs.lemmas.List.{take-append-le, take_all, length_push, length-map}
use Rattle.std.proofs.lemmas.Option.{slice_get_within, slice_get-map, slice_get-get_or}
use Rattle.std.specs.Borrow.{Bor}
use Rattle.std.specs.Prelude.{slice_get, option_map}
use Rattle.wit_words.specs.Sources.{SourceText, total}
use Rattle.wit_productions.specs.Broken.{IsSyntaxFault}
use Rattle.wit_syntax.specs.Ast.{FileTree}
use Rattle.wit_syntax.specs.FileGrammar.{file}
use Rattle.wit_syntax.specs.WholeText.{IsText}
use Rattle.wit_types.specs.declared.«package».UnresolvedPackage.{UnresolvedPackage}
use Rattle.wit_rules.specs.declared.fault.PackageFault.{PackageFault}
use Rattle.wit_rules.specs.declared.fault.PackageFault.TheVariants.{OutOfMemory, Syntax, Broken}
use Rattle.wit_rules.proofs.Places.{taken}
use Rattle.wit_arena.proofs.Lists.{get_more, has_none}
use Rattle.wit_package.specs.Steps.{Resolves}
use Rattle.wit_words.specs.declared.fault.SyntaxFault.{SyntaxFault}
use Rattle.wit_package.specs.Group.{AreRead, AreResolved, AreRefused, by_main, by_nested, no_memory, by_file, IsTextFault, IsReadFault, IsBeginning, IsTextLeft, AreLeft, of_nowhere, as_read, all}
use Rattle.wit_package.specs.GroupView as seen

-- what holds of both at each place holds so with one more
both_more : {X Y : Type 0} (P : ℕ → X → Y → Type 0) (xs : List X) (ys : List Y) (x : X) (y : Y) → length ys ≡ length xs
    → ((k : ℕ) (a : X) (b : Y) → slice_get xs k ≡ Some a → slice_get ys k ≡ Some b → P k a b) → P (length xs) x y
    → (k : ℕ) (a : X) (b : Y) → slice_get (xs ++ x ∷ []) k ≡ Some a → slice_get (ys ++ y ∷ []) k ≡ Some b → P k a b
both_more {X} {Y} P xs ys x y size each here k a b at_a at_b =
    elim (get_more xs x a k at_a) as (λ _. P k a b) [
      | inl first ↦ elim (get_more ys y b k at_b) as (λ _. P k a b) [
        | inl second ↦ each k a b first second
        | inr last ↦ (let within : k < length xs = slice_get_within xs k a first in let end : k ≡ length ys = last.0 in absurd (omega arith))
      ]
      | inr last ↦ elim (get_more ys y b k at_b) as (λ _. P k a b) [
        | inl second ↦ (let within : k < length ys = slice_get_within ys k b second in let end : k ≡ length xs = last.0 in absurd (omega arith))
        | inr end ↦ subst (λ (n : ℕ). P n a b) (sym last.0) (subst (λ (z : X). P (length xs) z b) (sym last.1) (subst (λ (z : Y). P (length xs) x z) (sym end.1) here))
      ]
    ]

-- ---- texts

front_total : (texts : List SourceText) (t : SourceText) (k : ℕ) → k ≤ length texts → total (take k (texts ++ t ∷ [])) ≡ total (take k texts)
front_total texts t k within = ap total (take-append-le k texts (t ∷ []) within)

pub read_more : (texts : List SourceText) (files : List FileTree) (t : SourceText) (f : FileTree) → AreRead texts files → IsText (total texts) t.contents f → AreRead (texts ++ t ∷ []) (files ++ f ∷ [])
read_more texts files t f read here = record {
  so_many = (length_push files f ∙ ap (λ (n : ℕ). n + 1) read.so_many ∙ sym (length_push texts t));
  each = both_more (λ (k : ℕ) (a : SourceText) (b : FileTree). IsText (total (take k (texts ++ t ∷ []))) a.contents b) texts files t f read.so_many
      (λ k a b at_a at_b.
      let within : k < length texts = slice_get_within texts k a at_a in
      subst (λ (n : ℕ). IsText n a.contents b) (sym (front_total texts t k (omega arith))) (read.each k a b at_a at_b))
      (subst (λ (n : ℕ). IsText n t.contents f) (sym (front_total texts t (length texts) (omega arith) ∙ ap total (take-length texts))) here);
}

-- no text is read to no tree
pub none_read : AreRead [] []
none_read = record { so_many = refl; each = λ k t f at there. absurd (has_none t (k, at)) }

-- the text at that place, behind those in front of it
pub text_breaks : (texts : List SourceText) (k : ℕ) (t : SourceText) → slice_get texts k ≡ Some t → (offset : ℕ) → offset ≡ total (take k texts) → (fault : PackageFault) → IsTextFault offset t.contents fault → IsReadFault texts fault
text_breaks texts k t at offset is OutOfMemory h = tt
text_breaks texts k t at offset is (Syntax f) h = record { place = k; text = t; there = at; cause = subst (λ (n : ℕ). IsSyntaxFault file n t.contents f) is h }
text_breaks texts k t at offset is (Broken rule place) h = absurd h

-- ---- packages

pub resolved_more : (files : List FileTree) (ps : List UnresolvedPackage) (f : FileTree) (p : UnresolvedPackage) → AreResolved files ps → Resolves (f ∷ []) p → AreResolved (files ++ f ∷ []) (ps ++ p ∷ [])
resolved_more files ps f p are here = record {
  so_many = (length_push ps p ∙ ap (λ (n : ℕ). n + 1) are.so_many ∙ sym (length_push files f));
  each = both_more (λ (k : ℕ) (a : FileTree) (b : UnresolvedPackage). Resolves (a ∷ []) b) files ps f p are.so_many are.each here;
}

pub none_resolved : AreResolved [] []
none_resolved = record { so_many = refl; each = λ k f p at there. absurd (has_none f (k, at)) }

-- ---- a loop over texts

abbrev Written : Type 0
Written = Bor (List ℕ) × Bor (List ℕ)

module _ (ts : List Written) (k : ℕ) (d : Written) (within : k < length ts) where
  text_at : slice_get (seen.texts ts) k ≡ Some (seen.text (get_or ts k d))
  text_at = slice_get-map seen.text ts k ∙ ap (option_map seen.text) (slice_get-get_or ts k d within)

  pub next_map : (old new : List SourceText) → old ≡ take k (seen.texts ts) → new ≡ old ++ seen.text (get_or ts k d) ∷ [] → new ≡ take (k + 1) (seen.texts ts)
  next_map old new so_far more = more ∙ ap (λ (xs : List SourceText). xs ++ seen.text (get_or ts k d) ∷ []) so_far ∙ sym (taken (seen.texts ts) k (seen.text (get_or ts k d)) text_at)

  pub next_beginning : (old new : List SourceText) → old ≡ take k (seen.texts ts) → (fault : PackageFault) → IsTextLeft old (seen.text (get_or ts k d)) fault new → IsBeginning (seen.texts ts) new
  next_beginning old new so_far fault left =
      elim left as (λ _. IsBeginning (seen.texts ts) new) [
        | inl more ↦ (k + 1, next_map old new so_far more)
        | inr none ↦ (k, none.1 ∙ so_far)
      ]

  left_up_to : (old new : List SourceText) → old ≡ take k (seen.texts ts) → new ≡ take (k + 1) (seen.texts ts) → (fault : PackageFault) → IsTextFault (total old) (seen.text (get_or ts k d)).contents fault → AreLeft (seen.texts ts) new fault
  left_up_to old new so_far now OutOfMemory cause = of_nowhere tt (k + 1, now)
  left_up_to old new so_far now (Syntax f) cause = as_read f (record { place = k; text = seen.text (get_or ts k d); there = text_at; cause = subst (λ (n : ℕ). IsSyntaxFault file n (seen.text (get_or ts k d)).contents f) (ap total so_far) cause }) refl now
  left_up_to old new so_far now (Broken rule at) cause = absurd cause

  pub left_at : (old new : List SourceText) → old ≡ take k (seen.texts ts) → (fault : PackageFault) → IsTextFault (total old) (seen.text (get_or ts k d)).contents fault → IsTextLeft old (seen.text (get_or ts k d)) fault new → AreLeft (seen.texts ts) new fault
  left_at old new so_far fault cause left = elim left as (λ _. AreLeft (seen.texts ts) new fault) [
    | inl more ↦ left_up_to old new so_far (next_map old new so_far more) fault cause
    | inr none ↦ of_nowhere none.0 (k, none.1 ∙ so_far)
  ]

  pub read_fault : (old : List SourceText) → old ≡ take k (seen.texts ts) → (fault : PackageFault) → IsTextFault (total old) (seen.text (get_or ts k d)).contents fault → IsReadFault (seen.texts ts) fault
  read_fault old so_far = text_breaks (seen.texts ts) k (seen.text (get_or ts k d)) text_at (total old) (ap total so_far)

-- of files that are refused all texts are left
no_syntax : (files : List FileTree) (f : SyntaxFault) → AreRefused files (Syntax f) → ⊥
no_syntax files f (by_main r) = r.cause
no_syntax files f (by_nested (no_memory e)) = cc
no_syntax files f (by_nested (by_file g has r)) = r.cause

pub all_left : (texts left : List SourceText) (files : List FileTree) (fault : PackageFault) → left ≡ texts → AreRefused files fault → AreLeft texts left fault
all_left texts left files OutOfMemory are h = of_nowhere tt (length texts, are ∙ sym (take-length texts))
all_left texts left files (Syntax f) are h = absurd (no_syntax files f h)
all_left texts left files (Broken rule at) are h = all rule at refl are

-- behind the last text all are taken
pub all_taken : (ts : List Written) (k : ℕ) (now : List SourceText) → length ts ≤ k → now ≡ take k (seen.texts ts) → now ≡ seen.texts ts
all_taken ts k now past so_far =
    let size : length (seen.texts ts) ≡ length ts = length-map ts seen.text in
    so_far ∙ take_all k (seen.texts ts) (omega (arith, past, size))
