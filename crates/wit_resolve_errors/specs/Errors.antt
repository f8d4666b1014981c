-- Why calls are refused.
use Rattle.std.specs.Prelude.{◌≡◌, ◌⊎◌, ℕ, List, Option, Some, None, IfSome, codes}
use Rattle.std.specs.Borrow.{Lends, MutBor, Fml}
use Rattle.wit_words.specs.declared.source_map.Span.{Span}
use Rattle.wit_words.specs.declared.source_map.SourceFault.{SourceFault}
use Rattle.wit_words.specs.declared.source_map.SourceFault.TheVariants as source
use Rattle.wit_words.specs.declared.fault.SyntaxFault.TheVariants as syntax
use Rattle.wit_words.specs.Sources.{SourceText, IsLineOf}
use Rattle.wit_words.specs.Codes as words
use Rattle.wit_rules.specs.Codes as rules
use Rattle.wit_rules.specs.declared.fault.PackageFault.{PackageFault}
use Rattle.wit_rules.specs.declared.fault.PackageFault.TheVariants as text
use Rattle.wit_offsets.specs.Offsets.{span_at, SpanFits}
use Rattle.wit_groups.specs.Passed.wit_graph_parts-declared-fault-PushFault.{PushFault}
use Rattle.wit_groups.specs.Passed.wit_graph_parts-declared-fault-PushFault-TheVariants as push
use Rattle.wit_groups.specs.declared.fault.GroupFault.{GroupFault}
use Rattle.wit_groups.specs.declared.fault.GroupFault.TheVariants as group
use Rattle.wit_selection.specs.declared.selection.SelectFault.{SelectFault}
use Rattle.wit_selection.specs.declared.selection.SelectFault.TheVariants as selection
pub use Rattle.wit_resolve_errors.specs.declared.error.ResolveErrorKind.{ResolveErrorKind}
use Rattle.wit_resolve_errors.specs.declared.error.ResolveErrorKind.TheVariants.{Syntax, Package, TooLarge, PackageNotFound, ItemNotFound, PackageCycle, DuplicatePackage, IncludeClash, ExportConflict, GateVersion, WorldNotFound, ForeignShape, OutOfMemory}
use Rattle.wit_resolve_errors.specs.contracts.error.ResolveError.{the_row as error_row}
use Rattle.wit_resolve_errors.specs.contracts.error.ResolveErrorKind.{the_row as kind_row}

-- the kind of an error is lent, and what is written there is its kind from then on
abbrev pub LendsKind : MutBor ResolveErrorKind → MutBor ResolveErrorKind → Fml
LendsKind e kind = Lends error_row kind_row e kind (λ k. k)

-- where
abbrev pub span_of : ResolveErrorKind → Option Span
span_of (Syntax rule at) = Some at
span_of (Package rule at) = Some at
span_of TooLarge = None
span_of (PackageNotFound at) = Some at
span_of (ItemNotFound at) = Some at
span_of (PackageCycle at) = Some at
span_of (DuplicatePackage at) = Some at
span_of (IncludeClash at) = Some at
span_of (ExportConflict at) = Some at
span_of (GateVersion at) = Some at
span_of WorldNotFound = None
span_of (ForeignShape at) = Some at
span_of OutOfMemory = None

-- it is the line of a refusal, which begins with its place, if that has one
abbrev pub IsErrorLine : List SourceText → ResolveErrorKind → List ℕ → Type 0
IsErrorLine texts kind line = IfSome (span_of kind) (λ at. IsLineOf texts at line)

-- ---- codes and names, which are part of what is printed

-- want of memory has no code
abbrev pub code : ResolveErrorKind → Option (List ℕ)
code (Syntax rule at) = Some (words.code rule)
code (Package rule at) = Some (rules.code rule)
code TooLarge = Some (codes "S8")
code (PackageNotFound at) = Some (codes "G1")
code (ItemNotFound at) = Some (codes "G2")
code (PackageCycle at) = Some (codes "G3")
code (DuplicatePackage at) = Some (codes "G4")
code (IncludeClash at) = Some (codes "G5")
code (ExportConflict at) = Some (codes "G6")
code (GateVersion at) = Some (codes "G7")
code WorldNotFound = Some (codes "G8")
code (ForeignShape at) = Some (codes "G10")
code OutOfMemory = None

abbrev pub name : ResolveErrorKind → List ℕ
name (Syntax rule at) = words.name rule
name (Package rule at) = rules.name rule
name TooLarge = codes "TooLarge"
name (PackageNotFound at) = codes "PackageNotFound"
name (ItemNotFound at) = codes "ItemNotFound"
name (PackageCycle at) = codes "PackageCycle"
name (DuplicatePackage at) = codes "DuplicatePackage"
name (IncludeClash at) = codes "IncludeClash"
name (ExportConflict at) = codes "ExportConflict"
name (GateVersion at) = codes "GateVersion"
name WorldNotFound = codes "WorldNotFound"
name (ForeignShape at) = codes "ForeignShape"
name OutOfMemory = codes "OutOfMemory"

-- ---- what is refused elsewhere, under its name here

abbrev pub of_push : PushFault → ResolveErrorKind
of_push (push.GateVersion at) = GateVersion at
of_push (push.DuplicatePackage at) = DuplicatePackage at
of_push (push.PackageNotFound at) = PackageNotFound at
of_push (push.ItemNotFound at) = ItemNotFound at
of_push (push.IncludeClash at) = IncludeClash at
of_push (push.ExportConflict i at) = ExportConflict at
of_push (push.ForeignShape at) = ForeignShape at
of_push push.OutOfMemory = OutOfMemory

abbrev pub of_group : GroupFault → ResolveErrorKind
of_group (group.PackageCycle at) = PackageCycle at
of_group (group.ComesTwice at) = DuplicatePackage at
of_group (group.Push fault) = of_push fault

abbrev pub of_selection : SelectFault → ResolveErrorKind
of_selection selection.WorldNotFound = WorldNotFound
of_selection selection.OutOfMemory = OutOfMemory

abbrev pub of_source : SourceFault → ResolveErrorKind
of_source source.TooLarge = TooLarge
of_source source.OutOfMemory = OutOfMemory

-- of texts that begin there
abbrev pub of_text : ℕ → PackageFault → ResolveErrorKind
of_text n text.OutOfMemory = OutOfMemory
of_text n (text.Syntax syntax.OutOfMemory) = OutOfMemory
of_text n (text.Syntax syntax.TooLarge) = TooLarge
of_text n (text.Syntax (syntax.Broken rule at)) = Syntax rule (span_at n at)
of_text n (text.Broken rule at) = Package rule (span_at n at)

-- its place lies behind 4,294,967,295 bytes there
abbrev pub PlacePasses : ℕ → PackageFault → Type 0
PlacePasses n text.OutOfMemory = ⊥
PlacePasses n (text.Syntax syntax.OutOfMemory) = ⊥
PlacePasses n (text.Syntax syntax.TooLarge) = ⊥
PlacePasses n (text.Syntax (syntax.Broken rule at)) = SpanFits n at → ⊥
PlacePasses n (text.Broken rule at) = SpanFits n at → ⊥

abbrev pub IsOfTexts : ℕ → PackageFault → ResolveErrorKind → Type 0
IsOfTexts n fault kind = (kind ≡ of_text n fault) ⊎ (PlacePasses n fault × (kind ≡ TooLarge))

-- it is want of memory, or that it is too large where that is so
abbrev pub IsSizeError : Type 0 → ResolveErrorKind → Type 0
IsSizeError Large kind = (kind ≡ OutOfMemory) ⊎ (Large × (kind ≡ TooLarge))
