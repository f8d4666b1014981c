-- Handles that name no resource, results that hold what is lent, and results that constructors may not declare (WIT, Types, Item:
-- `resource`). Of what another package has nothing is known: its types are taken for resources.
use Rattle.std.specs.Prelude.{◌≡◌, true, false, List, Option, Some, None}
use Rattle.wit_words.specs.declared.source_map.Span.{Span}
use Rattle.wit_words.specs.Slice.{Slice}
use Rattle.wit_rules.specs.Passed.wit_productions-TypeTree.{TypeTree, standing}
use Rattle.wit_rules.specs.Passed.wit_scopes-Members.{MemberKind, MemberTree, used, defined, function, method, static, constructor}
use Rattle.wit_rules.specs.Passed.wit_scopes-Scopes.{ItemScope}
use Rattle.wit_arena.specs.Passed.wit_type_names-TypeNames.{handles_in_member}
use Rattle.wit_rules.specs.declared.fault.PackageRule.{PackageRule}
use Rattle.wit_rules.specs.declared.fault.PackageRule.TheVariants.{BorrowInResult, BadConstructor, BadHandle}
use Rattle.wit_rules.specs.Breaks.{Breaks, AnyBreaks}
use Rattle.wit_arena.specs.Tree.{PackageText, Place, Tree, resource_leaf, is_resource}
use Rattle.wit_arena.specs.Meaning.{Means, MeansName}
use Rattle.wit_resources.specs.Holding.{holds_borrow}
use Rattle.wit_resources.specs.Results.{is_constructed}

abbrev pub type_span : TypeTree → Span
type_span (standing s sh) = s

-- own<x> or borrow<x>, where x means no resource: a break at the name
pub record HandleBreaks (me : PackageText) (scopes : List ItemScope) (o : Place) (x : Slice) (rule : PackageRule) (at : Span) : Type 0 where
  pub rule_is : rule ≡ BadHandle
  pub tree : Tree
  pub means : MeansName me scopes resource_leaf o x.text tree
  pub other : is_resource tree ≡ false
  pub stands : x.span ≡ at

-- the type that a function declares as its result
abbrev pub declared_result : MemberKind → Option TypeTree
declared_result (used t n) = None
declared_result (defined k) = None
declared_result (function f) = f.result
declared_result (method r f) = f.result
declared_result (static r f) = f.result
declared_result (constructor r ps t) = t

-- of a part, where it is there
abbrev pub PartBreaks : (TypeTree → Breaks) → Option TypeTree → Breaks
PartBreaks breaks None = λ rule at. ⊥
PartBreaks breaks (Some e) = breaks e

-- a result means something in which a `borrow` stands: a break at the result
pub record ResultBreaks (me : PackageText) (scopes : List ItemScope) (o : Place) (e : TypeTree) (rule : PackageRule) (at : Span) : Type 0 where
  pub rule_is : rule ≡ BorrowInResult
  pub tree : Tree
  pub means : Means me scopes resource_leaf o e tree
  pub holds : holds_borrow tree ≡ true
  pub stands : type_span e ≡ at

-- a constructor of a resource of a scope with these types declares another result than it may: a break at the result
pub record ConstructorBreaks (types : List MemberTree) (r : Slice) (e : TypeTree) (rule : PackageRule) (at : Span) : Type 0 where
  pub rule_is : rule ≡ BadConstructor
  pub other : is_constructed types r.text e ≡ false
  pub stands : type_span e ≡ at

abbrev pub DeclaresOther : List MemberTree → MemberKind → Breaks
DeclaresOther types (used t n) = λ rule at. ⊥
DeclaresOther types (defined k) = λ rule at. ⊥
DeclaresOther types (function f) = λ rule at. ⊥
DeclaresOther types (method r f) = λ rule at. ⊥
DeclaresOther types (static r f) = λ rule at. ⊥
DeclaresOther types (constructor r ps t) = PartBreaks (ConstructorBreaks types r) t

-- a member of a scope at a place
pub data MemberBreaks (me : PackageText) (scopes : List ItemScope) (o : Place) (types : List MemberTree) (k : MemberKind) (rule : PackageRule) (at : Span) : Type 0 where
  by_handle : AnyBreaks (HandleBreaks me scopes o) (handles_in_member k) rule at → MemberBreaks me scopes o types k rule at
  by_result : PartBreaks (ResultBreaks me scopes o) (declared_result k) rule at → MemberBreaks me scopes o types k rule at
  by_constructor : DeclaresOther types k rule at → MemberBreaks me scopes o types k rule at
