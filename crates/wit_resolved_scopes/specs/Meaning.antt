-- What stands in an arena for a scope is what it means (WIT, Items, Use).
use Rattle.std.specs.Prelude.{◌≡◌, List, [], ◌∷◌, ◌++◌, Option, Some, map}
use Rattle.wit_types.specs.declared.kind.«Type».{«Type» as Ref}
use Rattle.wit_types.specs.declared.function.Function.{Function}
use Rattle.wit_types.specs.declared.interface.TypeDef.{TypeDef}
use Rattle.wit_types.specs.declared.interface.TypeOwner.{TypeOwner}
use Rattle.wit_lookups.specs.Passed.wit_productions-TypeTree.{TypeOption}
use Rattle.wit_lookups.specs.Passed.wit_scopes-Members.{MemberTree}
use Rattle.wit_lookups.specs.Passed.wit_scopes-Scopes.{ItemScope}
use Rattle.wit_lookups.specs.Passed.wit_type_names-TypeNames.{signature_parts}
use Rattle.wit_resources.specs.Passed.wit_arena-Tree.{Name, PackageText, Place, Owner, Tree, Trees}
use Rattle.wit_resources.specs.Passed.wit_arena-Table.{Entries}
use Rattle.wit_resources.specs.Passed.wit_arena-Meaning.{MeansParts}
use Rattle.wit_resources.specs.Passed.wit_arena-Unfold.{Owners, part_trees, trees, IsWhole}
use Rattle.wit_resources.specs.Passed.wit_arena-Standing.{AreStanding, Grows}
use Rattle.wit_functions.specs.Passed.wit_package_types-Known.{KnownTypes}
use Rattle.wit_functions.specs.Passed.wit_package_types-Standing.{AreKnownStanding, AreOfScope}
use Rattle.wit_functions.specs.Signature.{all_params, all_result}
use Rattle.wit_resolved_scopes.specs.Each.{Each}
use Rattle.wit_resolved_scopes.specs.Scope.{functions_among, ResolvesScope}

-- a function's parameters and its result: as they are written, and in the arena
abbrev pub written_parts : MemberTree → List TypeOption
written_parts m = signature_parts (all_params m) (all_result m)

abbrev pub function_refs : Function → List (Option Ref)
function_refs f = map (λ q. Some q.ty) f.params.items ++ f.result ∷ []

-- they stand for what they mean
pub record StandsForFunction (me : PackageText) (scopes : List ItemScope) (given : Owner → Name → Tree) (owners : Owners) (o : Place) (b : List TypeDef) (m : MemberTree) (f : Function) : Type 0 where
  pub parts : Trees
  pub unfolds : part_trees (trees owners given b) (function_refs f) ≡ Some parts
  pub mean : MeansParts me scopes given o (written_parts m) parts

-- functions do, one for each function among the members
abbrev pub StandForFunctions : PackageText → List ItemScope → (Owner → Name → Tree) → Owners → Place → List TypeDef → List MemberTree → List Function → Type 0
StandForFunctions me scopes given owners o b ms fs = Each (StandsForFunction me scopes given owners o b) (functions_among ms) fs

-- a scope that is brought into a whole arena, where what it uses stands for what it means: the arena stays whole, what stood there stays, and the scope's types and
-- functions stand for what they mean
abbrev pub ResolvedScopesStandForTheirMeaning : Type 0
ResolvedScopesStandForTheirMeaning =
    (me : PackageText) (scopes : List ItemScope) (given : Owner → Name → Tree) (owners : Owners) (o : Place) (whose : TypeOwner) (k : KnownTypes) (a b : List TypeDef) (types ms : List MemberTree) (table : Entries) (fs : List Function)
    → AreOfScope me scopes owners o whose types → IsWhole owners given a → AreKnownStanding me scopes given owners k a → ResolvesScope k whose a types ms b table fs
    → Grows owners given a b × AreStanding me scopes given owners o table b × StandForFunctions me scopes given owners o b ms fs
