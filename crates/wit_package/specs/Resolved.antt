-- A package of which the names from other packages are not looked up yet (WIT, Packages).
use Rattle.std.specs.Prelude.{◌≡◌, ℕ, List, [], ◌∷◌, ◌++◌, map, flat_map, Some, length}
use Rattle.wit_words.specs.declared.source_map.Span.{Span}
use Rattle.wit_words.specs.Slice.{Slice}
use Rattle.wit_syntax.specs.Ast.{PackageNameTree, FileTree}
use Rattle.wit_types.specs.declared.interface.Interface.{Interface}
use Rattle.wit_types.specs.declared.interface.TypeDef.{TypeDef}
use Rattle.wit_types.specs.declared.world.World.{World}
use Rattle.wit_types.specs.declared.«package».AstItem.{AstItem}
use Rattle.wit_types.specs.declared.«package».AstItem.TheVariants as ids
use Rattle.wit_types.specs.declared.«package».UnresolvedPackage.{UnresolvedPackage}
use Rattle.wit_scopes.specs.Scopes.{ItemScope, package_scopes, package_docs}
use Rattle.wit_rules.specs.Facts.{package_name, name_span}
use Rattle.wit_arena.specs.Tree.{Name, PackageText, Place, in_world, Owner, Tree}
use Rattle.wit_arena.specs.Arena.{IsUnique}
use Rattle.wit_arena.specs.Docs.{said, contents_of}
use Rattle.wit_arena.specs.Meaning.{package_text}
use Rattle.wit_arena.specs.Unfold.{Owners, IsWhole}
use Rattle.wit_placeholders.specs.Passed.wit_package_types-Foreign.{ForeignName}
use Rattle.wit_placeholders.specs.Passed.wit_foreign-Needs.{NeedTree}
use Rattle.wit_placeholders.specs.Passed.wit_foreign-Items.{Items, AreItemsOf}
use Rattle.wit_placeholders.specs.Passed.wit_foreign-Unknown.{AreUnknown}
use Rattle.wit_placeholders.specs.Passed.wit_foreign-Deps.{IsPackageName, AreDeps, package_entries}
use Rattle.wit_package.specs.TopUses.{files_need}
use Rattle.wit_built_worlds.specs.Passed.wit_resolved_scopes-InArena.{Context}
use Rattle.wit_built_worlds.specs.Passed.wit_resolved_scopes-Texts.{AreItemsSorted, worlds_of, interface_texts}
use Rattle.wit_built_worlds.specs.Passed.wit_interfaces-Interfaces.{AreInterfacesIn}
use Rattle.wit_built_worlds.specs.Passed.wit_interfaces-Listed.{ScopeTexts, NewTypesAreListed}
use Rattle.wit_built_worlds.specs.Worlds.{AreWorldsIn}
use Rattle.wit_placeholders.specs.Placeholders.{ArePlaceholders}

-- ---- whose interfaces and worlds are

-- those of other packages by their ids
abbrev pub interface_asked : Owner × AstItem → List Owner
interface_asked (w, ids.Interface k) = w ∷ []
interface_asked (w, ids.World k) = []

abbrev pub world_asked : Owner × AstItem → List Owner
world_asked (w, ids.Interface k) = []
world_asked (w, ids.World k) = w ∷ []

abbrev pub foreign_owners : Items → Owners
foreign_owners items = record { interfaces = flat_map interface_asked items; worlds = flat_map world_asked items }

abbrev pub owner_in : PackageText → Place → Owner
owner_in me o = record { package_text = me; place = o }

-- and behind them those of the package in its order, interfaces that stand in worlds behind all that have names
abbrev pub owners_of : PackageText → Items → List ItemScope → Owners
owners_of me items sorted = record {
  interfaces = (foreign_owners items).interfaces ++ map (λ t. owner_in me t.place) (interface_texts sorted);
  worlds = (foreign_owners items).worlds ++ map (λ w. owner_in me (in_world w.name.text)) (worlds_of sorted);
}

abbrev pub context_of : PackageNameTree → List FileTree → Items → List ItemScope → Context
context_of me files items sorted = record { me = package_text me; scopes = package_scopes me files; owners = owners_of (package_text me) items sorted }

-- all scopes of a package
abbrev pub own_texts : List ItemScope → ScopeTexts
own_texts sorted = record { interfaces = interface_texts sorted; worlds = worlds_of sorted }

-- ---- the package

-- a package made of these types, interfaces and worlds, and of what it asks of others
pub record IsMade (me : PackageNameTree) (comments : List Slice) (items : Items) (needs : List NeedTree) (a : List TypeDef) (interfaces : List Interface) (worlds : List World) (spans : List Span) (p : UnresolvedPackage) : Type 0 where
  pub name : IsPackageName me p.name
  pub name_stands : p.name_span ≡ name_span me
  pub docs : contents_of p.docs ≡ said comments
  pub types : p.types ≡ a
  pub unique : IsUnique p.types
  pub interfaces_are : p.interfaces ≡ interfaces
  pub worlds_are : p.worlds ≡ worlds
  pub deps_are : AreDeps items needs (package_entries p.foreign_deps.entries) p.foreign_dep_spans.items
  pub spans_are : p.unknown_type_spans.items ≡ spans

-- what the files of a package are resolved to: names of other packages first, then its interfaces and worlds in their order, each as the text has it, in one arena
pub record IsResolved (files : List FileTree) (p : UnresolvedPackage) : Type 0 where
  pub me : PackageNameTree
  pub named : package_name files ≡ Some me
  pub sorted : List ItemScope
  pub are_sorted : AreItemsSorted (package_scopes me files) sorted
  pub items : Items
  pub items_are : AreItemsOf (files_need me files) items
  pub name : IsPackageName me p.name
  pub name_stands : p.name_span ≡ name_span me
  pub docs : contents_of p.docs ≡ said (package_docs files)
  -- types refer backwards alone, whatever is given for names of other packages, and types without a name that are made of the same are one
  pub whole : (given : Owner → Name → Tree) → IsWhole (owners_of (package_text me) items sorted) given p.types
  pub unique : IsUnique p.types
  -- the unknown types come first
  pub unknown : List TypeDef
  pub others : List TypeDef
  pub types_are : p.types ≡ unknown ++ others
  pub names : List (ForeignName × ℕ)
  pub unknown_are : AreUnknown items (files_need me files) unknown names p.unknown_type_spans.items
  pub foreign_interfaces : List Interface
  pub own_interfaces : List Interface
  pub interfaces_are : p.interfaces ≡ foreign_interfaces ++ own_interfaces
  pub own_interfaces_are : AreInterfacesIn (context_of me files items sorted) p.types (length foreign_interfaces) (interface_texts sorted) own_interfaces
  pub foreign_worlds : List World
  pub own_worlds : List World
  pub worlds_are : p.worlds ≡ foreign_worlds ++ own_worlds
  pub own_worlds_are : AreWorldsIn (context_of me files items sorted) p.types (length foreign_worlds) (worlds_of sorted) own_worlds
  -- each of its own types belongs to one of these, in which it stands, or nowhere: then it is a form without a name, and is said to stand where it is written
  pub listed : NewTypesAreListed (context_of me files items sorted) (own_texts sorted) p.interfaces p.worlds unknown p.types
  -- of interfaces and worlds of other packages nothing is known but their names and where they are first asked for
  pub foreign_are : ArePlaceholders (files_need me files) items foreign_interfaces foreign_worlds
  pub deps_are : AreDeps items (files_need me files) (package_entries p.foreign_deps.entries) p.foreign_dep_spans.items
