-- Packages by their texts (WIT, Packages, Nested Packages).
use Rattle.std.specs.Prelude.{◌≡◌, ◌⊎◌, ◌+◌, ◌++◌, ℕ, List, [], ◌∷◌, length, take, slice_get, Some}
use Rattle.wit_words.specs.Sources.{SourceText, total}
use Rattle.wit_words.specs.declared.source_map.SourceFault.{SourceFault}
use Rattle.wit_words.specs.declared.source_map.SourceFault.TheVariants as sources
use Rattle.wit_words.specs.declared.source_map.Span.{Span}
use Rattle.wit_words.specs.declared.fault.SyntaxFault.{SyntaxFault}
use Rattle.wit_words.specs.declared.fault.SyntaxFault.TheVariants as faults
use Rattle.wit_productions.specs.Broken.{IsSyntaxFault}
use Rattle.wit_syntax.specs.Ast.{FileTree}
use Rattle.wit_syntax.specs.FileGrammar.{file}
use Rattle.wit_syntax.specs.WholeText.{IsText}
use Rattle.wit_types.specs.declared.«package».UnresolvedPackage.{UnresolvedPackage}
use Rattle.wit_rules.specs.declared.fault.PackageRule.{PackageRule}
use Rattle.wit_rules.specs.declared.fault.PackageFault.{PackageFault}
use Rattle.wit_rules.specs.declared.fault.PackageFault.TheVariants.{OutOfMemory, Syntax, Broken}
use Rattle.wit_arena.specs.Meaning.{Has}
use Rattle.wit_nested.specs.Nested.{own_files, nested_files}
use Rattle.wit_package.specs.Steps.{Resolves, Refuses}

-- texts that stand one behind the other, and their trees
pub record AreRead (texts : List SourceText) (files : List FileTree) : Type 0 where
  pub so_many : length files ≡ length texts
  pub each : (k : ℕ) (t : SourceText) (f : FileTree) → slice_get texts k ≡ Some t → slice_get files k ≡ Some f → IsText (total (take k texts)) t.contents f

-- one of them has no tree, or ends too far behind the first
pub record OneTextBreaks (texts : List SourceText) (fault : SyntaxFault) : Type 0 where
  pub place : ℕ
  pub text : SourceText
  pub there : slice_get texts place ≡ Some text
  pub cause : IsSyntaxFault file (total (take place texts)) text.contents fault

-- each file is resolved by itself
pub record AreResolved (files : List FileTree) (ps : List UnresolvedPackage) : Type 0 where
  pub so_many : length ps ≡ length files
  pub each : (k : ℕ) (f : FileTree) (p : UnresolvedPackage) → slice_get files k ≡ Some f → slice_get ps k ≡ Some p → Resolves (f ∷ []) p

-- the files without the packages nested in them are resolved to one package, and each of these by itself
pub record AreResolvedTo (files : List FileTree) (main : UnresolvedPackage) (nested : List UnresolvedPackage) : Type 0 where
  pub main_is : Resolves (own_files files) main
  pub nested_are : AreResolved (nested_files files) nested

-- one of the files is refused by itself, or memory is wanting
pub data OneIsRefused (files : List FileTree) (fault : PackageFault) : Type 0 where
  no_memory : fault ≡ OutOfMemory → OneIsRefused files fault
  by_file : (f : FileTree) → Has files f → Refuses (f ∷ []) fault → OneIsRefused files fault

-- the files without them are refused, or one of them is
pub data AreRefused (files : List FileTree) (fault : PackageFault) : Type 0 where
  by_main : Refuses (own_files files) fault → AreRefused files fault
  by_nested : OneIsRefused (nested_files files) fault → AreRefused files fault

-- all texts are read, and their files are resolved
pub record AreParsed (texts : List SourceText) (main : UnresolvedPackage) (nested : List UnresolvedPackage) : Type 0 where
  pub files : List FileTree
  pub read : AreRead texts files
  pub resolved : AreResolvedTo files main nested

-- the fault of a package for one of the texts together
abbrev pub IsSourceFault : SourceFault → PackageFault → Type 0
IsSourceFault sources.OutOfMemory fault = fault ≡ OutOfMemory
IsSourceFault sources.TooLarge fault = fault ≡ Syntax faults.TooLarge

-- why a text that begins at a place isn't read
abbrev pub IsTextFault : ℕ → List ℕ → PackageFault → Type 0
IsTextFault offset text OutOfMemory = Unit {0}
IsTextFault offset text (Syntax fault) = IsSyntaxFault file offset text fault
IsTextFault offset text (Broken rule at) = ⊥

-- why one of the texts isn't
abbrev pub IsReadFault : List SourceText → PackageFault → Type 0
IsReadFault texts OutOfMemory = Unit {0}
IsReadFault texts (Syntax fault) = OneTextBreaks texts fault
IsReadFault texts (Broken rule at) = ⊥

-- why texts aren't taken
abbrev pub IsTextsFault : List SourceText → PackageFault → Type 0
IsTextsFault texts OutOfMemory = Unit {0}
IsTextsFault texts (Syntax fault) = OneTextBreaks texts fault
IsTextsFault texts (Broken rule at) = (files : List FileTree) × AreRead texts files × AreRefused files (Broken rule at)

-- the first of them
abbrev pub IsBeginning : List SourceText → List SourceText → Type 0
IsBeginning texts first = (k : ℕ) × (first ≡ take k texts)

-- a fault that stands at no place of a text
abbrev pub IsNowhere : SyntaxFault → Type 0
IsNowhere faults.TooLarge = Unit {0}
IsNowhere faults.OutOfMemory = Unit {0}
IsNowhere _ = ⊥

abbrev pub StandsNowhere : PackageFault → Type 0
StandsNowhere OutOfMemory = Unit {0}
StandsNowhere (Syntax fault) = IsNowhere fault
StandsNowhere (Broken rule at) = ⊥

-- what is left of a text that isn't taken: it stands behind the others, or maybe not, where the fault stands nowhere
abbrev pub IsTextLeft : List SourceText → SourceText → PackageFault → List SourceText → Type 0
IsTextLeft was text fault now = (now ≡ was ++ text ∷ []) ⊎ (StandsNowhere fault × (now ≡ was))

-- and of texts: those up to the one that isn't read, all where a rule is broken, or some of the first, where the fault stands nowhere
pub data AreLeft (texts left : List SourceText) (fault : PackageFault) : Type 0 where
  of_nowhere : StandsNowhere fault → IsBeginning texts left → AreLeft texts left fault
  as_read : (f : SyntaxFault) (one : OneTextBreaks texts f) → fault ≡ Syntax f → left ≡ take (one.place + 1) texts → AreLeft texts left fault
  all : (rule : PackageRule) (at : Span) → fault ≡ Broken rule at → left ≡ texts → AreLeft texts left fault
