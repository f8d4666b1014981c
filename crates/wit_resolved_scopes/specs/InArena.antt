-- What stands in an arena for a scope: its types and functions as the text has them, each standing for what it means (WIT, Item: `interface`, Use).
use Rattle.std.specs.Prelude.{◌≡◌, ℕ, List, [], map, Some, length, slice_get, string_bytes}
use Rattle.wit_types.specs.declared.function.Function.{Function}
use Rattle.wit_types.specs.declared.interface.TypeDef.{TypeDef}
use Rattle.wit_types.specs.declared.interface.TypeOwner.{TypeOwner}
use Rattle.wit_lookups.specs.Passed.wit_scopes-Members.{MemberKind, MemberTree, defined}
use Rattle.wit_lookups.specs.Passed.wit_scopes-Scopes.{ItemScope}
use Rattle.wit_lookups.specs.Passed.wit_rules-Labels.{full_name, name_place}
use Rattle.wit_orders.specs.Needs.{types_of, AreSorted}
use Rattle.wit_resources.specs.Passed.wit_arena-Tree.{Name, PackageText, Place, Owner, Tree}
use Rattle.wit_resources.specs.Passed.wit_arena-Table.{Entries}
use Rattle.wit_resources.specs.Passed.wit_arena-Docs.{said, contents_of}
use Rattle.wit_resources.specs.Passed.wit_arena-LowerKind.{Label, written_labels, labels_of}
use Rattle.wit_resources.specs.Passed.wit_arena-LowerParams.{written_param, param_label}
use Rattle.wit_resources.specs.Passed.wit_arena-Unfold.{Owners, IsWhole}
use Rattle.wit_resources.specs.Passed.wit_arena-Standing.{Stands, AreStanding, Grows, AreFunctional}
use Rattle.wit_resources.specs.Passed.wit_arena-Lower.{LowersParts}
use Rattle.wit_functions.specs.Passed.wit_package_types-Stability.{IsStabilityOf}
use Rattle.wit_functions.specs.Passed.wit_package_types-Known.{KnownTypes}
use Rattle.wit_functions.specs.Passed.wit_package_types-Fill.{IsTypeOf}
use Rattle.wit_functions.specs.Passed.wit_package_types-Standing.{AreKnownStanding, AreOfScope}
use Rattle.wit_functions.specs.Signature.{all_params, IsKindOf}
use Rattle.wit_resolved_scopes.specs.Each.{Each}
use Rattle.wit_resolved_scopes.specs.Texts.{InterfaceText}
use Rattle.wit_resolved_scopes.specs.Scope.{functions_among, ResolvesScope}
use Rattle.wit_resolved_scopes.specs.Meaning.{written_parts, function_refs, StandsForFunction}
use Rattle.wit_resolved_scopes.specs.Brought.{IsBroughtAs}

-- a package: its name, its scopes, and whose its interfaces and worlds are, by their ids
pub record Context : Type 0 where
  pub me : PackageText
  pub scopes : List ItemScope
  pub owners : Owners

abbrev pub own_owner : Context → Place → Owner
own_owner c o = record { package_text = c.me; place = o }

-- the id is that of an interface that belongs to the place of the text
abbrev pub IsIdOf : Context → InterfaceText → ℕ → Type 0
IsIdOf c t id = slice_get c.owners.interfaces id ≡ Some (own_owner c t.place)

-- ---- what stands for them

-- the labels that a type of a scope is written with, which a definition has
abbrev pub labels_written : MemberKind → List Label
labels_written (defined t) = written_labels t
labels_written _ = []

-- a type under its name, of which the arena says what the text does, and of its fields, flags or cases; it stands for what the name means, whatever is
-- given for names of other packages
pub record IsTypeIn (c : Context) (o : Place) (whose : TypeOwner) (a : List TypeDef) (m : MemberTree) (e : Name × ℕ) : Type 0 where
  pub name : e.0 ≡ m.name.text
  pub def : TypeDef
  pub there : slice_get a e.1 ≡ Some def
  pub is : IsTypeOf whose m def.kind def
  pub labels : labels_of def.kind ≡ labels_written m.kind
  -- by what names stand for in the scope
  pub names : Entries
  pub known : (given : Owner → Name → Tree) → AreStanding c.me c.scopes given c.owners o names a
  pub brought : IsBroughtAs names a m.kind def.kind
  pub means : (given : Owner → Name → Tree) → Stands c.me c.scopes given c.owners a o m.name.text e.1

-- a function of a scope with these types, of which the same is said as in the text
pub record IsFunctionOf (table : Entries) (m : MemberTree) (f : Function) : Type 0 where
  pub name : string_bytes f.name ≡ full_name m.kind m.name
  pub kind : IsKindOf table m.kind f.kind
  pub labels : map param_label f.params.items ≡ map written_param (all_params m)
  pub docs : contents_of f.docs ≡ said m.docs
  pub stability : IsStabilityOf m.attributes f.stability
  pub span : f.span ≡ name_place m.kind m.name m.span

-- its parameters and its result are those that are written, brought in by the names of the scope, and stand for what they mean
pub record IsFunctionIn (c : Context) (o : Place) (a : List TypeDef) (table : Entries) (m : MemberTree) (f : Function) : Type 0 where
  pub is : IsFunctionOf table m f
  pub refs : LowersParts table a (written_parts m) a (function_refs f)
  pub means : (given : Owner → Name → Tree) → StandsForFunction c.me c.scopes given c.owners o a m f

-- a scope at a place: its types, each behind those that it names and in the least of such orders, and its functions in that of the text
pub record IsScopeIn (c : Context) (o : Place) (whose : TypeOwner) (a : List TypeDef) (ms : List MemberTree) (table : Entries) (fs : List Function) : Type 0 where
  pub sorted : List MemberTree
  pub are_sorted : AreSorted (types_of ms) sorted
  pub types_are : Each (IsTypeIn c o whose a) sorted table
  pub functions_are : Each (IsFunctionIn c o a table) (functions_among ms) fs

-- ---- arenas that grow

-- the arena begins with the other, and is whole, whatever is given
abbrev pub GrowsFor : Context → List TypeDef → List TypeDef → Type 0
GrowsFor c a b = (given : Owner → Name → Tree) → Grows c.owners given a b

-- an arena under construction: it is whole, and what `use` finds stands for what it means
pub record IsBuilt (c : Context) (k : KnownTypes) (a : List TypeDef) : Type 0 where
  pub functional : AreFunctional c.scopes
  pub even : length k.names ≡ length k.tables
  pub whole : (given : Owner → Name → Tree) → IsWhole c.owners given a
  pub known : (given : Owner → Name → Tree) → AreKnownStanding c.me c.scopes given c.owners k a

-- a scope that is brought into such an arena stands in it, and what stood there stays
abbrev pub ResolvedScopesAreIn : Type 0
ResolvedScopesAreIn =
    (c : Context) (o : Place) (whose : TypeOwner) (k : KnownTypes) (a b : List TypeDef) (ms : List MemberTree) (table : Entries) (fs : List Function)
    → AreOfScope c.me c.scopes c.owners o whose (types_of ms) → IsBuilt c k a → ResolvesScope k whose a (types_of ms) ms b table fs
    → GrowsFor c a b × IsBuilt c k b × IsScopeIn c o whose b ms table fs
