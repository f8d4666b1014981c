-- Texts that are read and resolved have no fault.
use Rattle.std.proofs.Common.{◌≡◌, ℕ, zero, suc, List, [], ◌∷◌, ◌⊎◌, inl, inr, Some, refl, sym, ap, ap₂, subst, ◌∙◌, arith, length, take}
use Rattle.std.specs.Prelude.{slice_get}
use Rattle.wit_words.specs.Sources.{SourceText, total}
use Rattle.wit_words.specs.declared.source_map.Span.{Span}
use Rattle.wit_words.specs.declared.fault.SyntaxFault.{SyntaxFault}
use Rattle.wit_words.specs.declared.fault.SyntaxFault.TheVariants as faults
use Rattle.wit_productions.proofs.Causes.{memory_alone}
use Rattle.wit_productions.proofs.Texts.{one_tree}
use Rattle.wit_syntax.specs.Ast.{FileTree}
use Rattle.wit_syntax.specs.FileGrammar.{file}
use Rattle.wit_syntax.proofs.FileLaws.{file_law}
use Rattle.wit_types.specs.declared.«package».UnresolvedPackage.{UnresolvedPackage}
use Rattle.wit_rules.specs.declared.fault.PackageRule.{PackageRule}
use Rattle.wit_rules.specs.declared.fault.PackageFault.{PackageFault}
use Rattle.wit_rules.specs.declared.fault.PackageFault.TheVariants.{OutOfMemory, Syntax, Broken}
use Rattle.wit_nested.specs.Nested.{nested_files}
use Rattle.wit_push_causes.specs.Passed.wit_package-Group.{AreRead, OneTextBreaks, AreResolved, AreResolvedTo, OneIsRefused, no_memory, by_file, AreRefused, by_main, by_nested, AreParsed, IsTextsFault}
use Rattle.wit_resolution.specs.Passed.wit_resolve_errors-Errors.{IsOfTexts}
use Rattle.wit_resolution.specs.Passed.wit_resolve_errors-declared-error-ResolveErrorKind.{ResolveErrorKind}
use Rattle.wit_resolution.specs.Passed.wit_resolve_errors-declared-error-ResolveErrorKind-TheVariants as kinds

-- ---- trees

-- a list that has as many elements has one there
also_there : {X Y : Type 0} (xs : List X) (ys : List Y) (k : ℕ) (x : X) → length ys ≡ length xs → slice_get xs k ≡ Some x → (y : Y) × (slice_get ys k ≡ Some y)
also_there [] ys k x size at = absurd cc
also_there (z ∷ xs) [] k x size at = absurd (omega (arith, size))
also_there (z ∷ xs) (y ∷ ys) zero x size at = (y, refl)
also_there (z ∷ xs) (y ∷ ys) (suc k) x size at = also_there xs ys k x (omega (arith, size)) at

-- lists are one that have the same at each place
same_all : {X : Type 0} (xs ys : List X) → length xs ≡ length ys → ((k : ℕ) (x y : X) → slice_get xs k ≡ Some x → slice_get ys k ≡ Some y → x ≡ y) → xs ≡ ys
same_all [] [] size each = refl
same_all [] (y ∷ ys) size each = absurd (omega (arith, size))
same_all (x ∷ xs) [] size each = absurd (omega (arith, size))
same_all {X} (x ∷ xs) (y ∷ ys) size each = ap₂ (λ (z : X) (zs : List X). z ∷ zs) (each 0 x y refl refl) (same_all xs ys (omega (arith, size)) (λ k a b. each (suc k) a b))

-- texts are read to the same trees
one_reading : (texts : List SourceText) (fs gs : List FileTree) → AreRead texts fs → AreRead texts gs → fs ≡ gs
one_reading texts fs gs a b =
    same_all fs gs (a.so_many ∙ sym b.so_many) (λ k f g at there.
    let t = also_there fs texts k f (sym a.so_many) at in
    one_tree file file_law (total (take k texts)) t.0.contents f g (a.each k t.0 f t.1 at) (b.each k t.0 g t.1 there))

-- of texts that are read, nothing but want of memory is a fault
none_breaks : (texts : List SourceText) (files : List FileTree) (fault : SyntaxFault) → AreRead texts files → OneTextBreaks texts fault → fault ≡ faults.OutOfMemory
none_breaks texts files fault read one =
    let f = also_there texts files one.place one.text read.so_many one.there in
    memory_alone file (total (take one.place texts)) one.text.contents f.0 (read.each one.place one.text f.0 one.there f.1) fault one.cause

-- ---- files

none_of_them : (files : List FileTree) (ps : List UnresolvedPackage) (rule : PackageRule) (at : Span) → AreResolved files ps → OneIsRefused files (Broken rule at) → ⊥
none_of_them files ps rule at are (no_memory is) = absurd cc
none_of_them files ps rule at are (by_file f has refused) =
    let p = also_there files ps has.0 f are.so_many has.1 in
    (are.each has.0 f p.0 has.1 p.1).kept rule at refused.cause

none_refused : (files : List FileTree) (main : UnresolvedPackage) (nested : List UnresolvedPackage) (rule : PackageRule) (at : Span) → AreResolvedTo files main nested → AreRefused files (Broken rule at) → ⊥
none_refused files main nested rule at are (by_main refused) = are.main_is.kept rule at refused.cause
none_refused files main nested rule at are (by_nested one) = none_of_them (nested_files files) nested rule at are.nested_are one

-- ---- texts

-- what is refused for want of memory is an error for that
memory_only : (n : ℕ) (fault : PackageFault) (kind : ResolveErrorKind) → (fault ≡ OutOfMemory) ⊎ (fault ≡ Syntax faults.OutOfMemory) → IsOfTexts n fault kind → kind ≡ kinds.OutOfMemory
memory_only n fault kind (inl same) of_texts = elim (subst (λ (f : PackageFault). IsOfTexts n f kind) same of_texts) as (λ _. kind ≡ kinds.OutOfMemory) [
  | inl is ↦ is
  | inr far ↦ absurd far.0
]
memory_only n fault kind (inr same) of_texts = elim (subst (λ (f : PackageFault). IsOfTexts n f kind) same of_texts) as (λ _. kind ≡ kinds.OutOfMemory) [
  | inl is ↦ is
  | inr far ↦ absurd far.0
]

pub none_unread : (texts : List SourceText) (main : UnresolvedPackage) (nested : List UnresolvedPackage) (n : ℕ) (fault : PackageFault) (kind : ResolveErrorKind) → AreParsed texts main nested → IsTextsFault texts fault → IsOfTexts n fault kind → kind ≡ kinds.OutOfMemory
none_unread texts main nested n OutOfMemory kind are cause of_texts = memory_only n OutOfMemory kind (inl refl) of_texts
none_unread texts main nested n (Syntax fault) kind are cause of_texts = memory_only n (Syntax fault) kind (inr (ap Syntax (none_breaks texts are.files fault are.read cause))) of_texts
none_unread texts main nested n (Broken rule at) kind are cause of_texts =
    absurd (none_refused are.files main nested rule at are.resolved (subst (λ (fs : List FileTree). AreRefused fs (Broken rule at)) (one_reading texts cause.0 are.files cause.1 are.read) cause.2))
