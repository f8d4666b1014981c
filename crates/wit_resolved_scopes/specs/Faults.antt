-- What a scope breaks over the meaning of its names: circles of types, handles, results (WIT, Items, Types).
use Rattle.std.specs.Prelude.{List, map}
use Rattle.wit_words.specs.declared.source_map.Span.{Span}
use Rattle.wit_types.specs.declared.interface.TypeDef.{TypeDef}
use Rattle.wit_types.specs.declared.interface.TypeOwner.{TypeOwner}
use Rattle.wit_lookups.specs.Passed.wit_scopes-Members.{MemberKind, MemberTree}
use Rattle.wit_lookups.specs.Passed.wit_scopes-Scopes.{ItemScope}
use Rattle.wit_lookups.specs.Passed.wit_rules-declared-fault-PackageRule.{PackageRule}
use Rattle.wit_lookups.specs.Passed.wit_rules-Breaks.{Breaks, AnyBreaks}
use Rattle.wit_orders.specs.Needs.{type_entry, CircleBreaks}
use Rattle.wit_resources.specs.Passed.wit_arena-Tree.{PackageText, Place, resource_leaf}
use Rattle.wit_resources.specs.Passed.wit_arena-Table.{Entries}
use Rattle.wit_resources.specs.Passed.wit_arena-Unfold.{Owners, IsWhole}
use Rattle.wit_resources.specs.Passed.wit_arena-Standing.{AreStanding, AreFunctional}
use Rattle.wit_functions.specs.Passed.wit_package_types-Known.{KnownTypes}
use Rattle.wit_functions.specs.Passed.wit_package_types-Standing.{AreKnownStanding, AreOfScope}
use Rattle.wit_lookups.specs.Passed.wit_type_names-TypeNames.{handles_in_member}
use Rattle.wit_resources.specs.declared.natures.Nature.{Nature}
use Rattle.wit_resources.specs.Failing.{HandleFails}
use Rattle.wit_resources.specs.Rules.{declared_result, PartBreaks, ResultBreaks, DeclaresOther, MemberBreaks}

-- a scope with these types and members at a place
pub data ScopeBreaks (me : PackageText) (scopes : List ItemScope) (o : Place) (types ms : List MemberTree) (rule : PackageRule) (at : Span) : Type 0 where
  by_circle : CircleBreaks (map type_entry types) rule at → ScopeBreaks me scopes o types ms rule at
  by_member : AnyBreaks (λ m. MemberBreaks me scopes o types m.kind) ms rule at → ScopeBreaks me scopes o types ms rule at

-- the results that members declare
abbrev pub ResultsBreak : PackageText → List ItemScope → Place → List MemberTree → Breaks
ResultsBreak me scopes o ms = AnyBreaks (λ m. PartBreaks (ResultBreaks me scopes o) (declared_result m.kind)) ms

-- ---- where names mean what the arena has

-- a member of a scope with these types, over an arena of whose types this is known
pub data MemberFails (ns : List Nature) (table : Entries) (types : List MemberTree) (k : MemberKind) (rule : PackageRule) (at : Span) : Type 0 where
  by_handle : AnyBreaks (HandleFails ns table) (handles_in_member k) rule at → MemberFails ns table types k rule at
  by_constructor : DeclaresOther types k rule at → MemberFails ns table types k rule at

abbrev pub MembersFail : List Nature → Entries → List MemberTree → List MemberTree → Breaks
MembersFail ns table types ms = AnyBreaks (λ m. MemberFails ns table types m.kind) ms

-- what has been filled stands for what it means, where types of other packages are taken for resources
pub record StandsSoFar (me : PackageText) (scopes : List ItemScope) (owners : Owners) (o : Place) (table : Entries) (a : List TypeDef) : Type 0 where
  pub functional : AreFunctional scopes
  pub whole : IsWhole owners resource_leaf a
  pub right : AreStanding me scopes resource_leaf owners o table a

-- before a scope is filled
pub record MayBeFilled (me : PackageText) (scopes : List ItemScope) (owners : Owners) (o : Place) (whose : TypeOwner) (k : KnownTypes) (types : List MemberTree) (a : List TypeDef) : Type 0 where
  pub functional : AreFunctional scopes
  pub of_scope : AreOfScope me scopes owners o whose types
  pub whole : IsWhole owners resource_leaf a
  pub known : AreKnownStanding me scopes resource_leaf owners k a
