-- The types that are brought in with a scope stand in it (WIT, Items).
use Rattle.std.specs.Prelude.{◌≡◌, ◌⊎◌, ℕ, List, Some, slice_get}
use Rattle.wit_types.specs.declared.function.Function.{Function}
use Rattle.wit_types.specs.declared.interface.TypeDef.{TypeDef}
use Rattle.wit_types.specs.declared.interface.TypeOwner.{TypeOwner}
use Rattle.wit_lookups.specs.Passed.wit_scopes-Members.{MemberTree}
use Rattle.wit_orders.specs.Needs.{types_of}
use Rattle.wit_resources.specs.Passed.wit_arena-Tree.{Name, Place}
use Rattle.wit_resources.specs.Passed.wit_arena-Table.{Entries}
use Rattle.wit_resources.specs.Passed.wit_arena-Meaning.{Has}
use Rattle.wit_functions.specs.Passed.wit_package_types-Known.{KnownTypes}
use Rattle.wit_functions.specs.Passed.wit_package_types-Standing.{AreOfScope}
use Rattle.wit_resolved_scopes.specs.Scope.{ResolvesScope}
use Rattle.wit_resolved_scopes.specs.InArena.{Context, IsBuilt}
use Rattle.wit_resolved_scopes.specs.WrittenTypes.{IsFormIn}

-- each type of an arena stood there before, or is as a new one at its place may be
abbrev pub NewTypesBelong : (ℕ → TypeDef → Type 0) → List TypeDef → List TypeDef → Type 0
NewTypesBelong May a b = (i : ℕ) (d : TypeDef) → slice_get b i ≡ Some d → (slice_get a i ≡ Some d) ⊎ May i d

-- a type of a scope with this table is a form that stands where it is written there, or belongs to the scope, and then the table has it
abbrev pub IsListedIn : Context → Place → List MemberTree → TypeOwner → List TypeDef → Entries → ℕ → TypeDef → Type 0
IsListedIn c o ms whose a table i d = IsFormIn c o ms a i d ⊎ ((x : Name) × Has table (x, i) × (d.owner ≡ whose))

-- so does each that is brought in with the scope
abbrev pub ResolvedScopesListTheirTypes : Type 0
ResolvedScopesListTheirTypes =
    (c : Context) (o : Place) (whose : TypeOwner) (k : KnownTypes) (a b : List TypeDef) (ms : List MemberTree) (table : Entries) (fs : List Function)
    → AreOfScope c.me c.scopes c.owners o whose (types_of ms) → IsBuilt c k a → ResolvesScope k whose a (types_of ms) ms b table fs → NewTypesBelong (IsListedIn c o ms whose b table) a b
