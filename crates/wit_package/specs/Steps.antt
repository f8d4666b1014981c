-- What stands between the files of a package and what they are resolved to (WIT, Packages).
use Rattle.std.specs.Prelude.{◌≡◌, ℕ, List, ◌∷◌, map, Result, Ok, Err}
use Rattle.wit_syntax.specs.Ast.{PackageNameTree, FileTree}
use Rattle.wit_syntax.specs.AstView as view
use Rattle.wit_words.specs.declared.source_map.Span.{Span}
use Rattle.wit_types.specs.declared.interface.Interface.{Interface}
use Rattle.wit_types.specs.declared.interface.TypeDef.{TypeDef}
use Rattle.wit_types.specs.declared.world.World.{World}
use Rattle.wit_types.specs.declared.«package».UnresolvedPackage.{UnresolvedPackage}
use Rattle.wit_scopes.specs.Paths.{file_uses}
use Rattle.wit_scopes.specs.Scopes.{ItemScope, package_scopes}
use Rattle.wit_rules.specs.declared.files.Declared.{Declared}
use Rattle.wit_rules.specs.declared.fault.PackageFault.{PackageFault}
use Rattle.wit_rules.specs.Breaks.{IsKept, IsFaultOf}
use Rattle.wit_rules.specs.Facts.{FilesBreak}
use Rattle.wit_rules.specs.DeclaredView.{IsDeclaredOf}
use Rattle.wit_checked_lookups.specs.Passed.wit_lookups-Lookups.{LookupsBreak}
use Rattle.wit_built_worlds.specs.Passed.wit_orders-Needs.{item_entry, IsOrderOf}
use Rattle.wit_arena.specs.Tree.{Name}
use Rattle.wit_arena.specs.Meaning.{package_text}
use Rattle.wit_placeholders.specs.Passed.wit_package_types-Known.{KnownTypes}
use Rattle.wit_built_worlds.specs.Passed.wit_resources-declared-natures-Nature.{Nature}
use Rattle.wit_placeholders.specs.Passed.wit_foreign-Needs.{NeedTree, AreUses}
use Rattle.wit_placeholders.specs.Passed.wit_foreign-Items.{Items, AreItemsOf}
use Rattle.wit_package.specs.TopUses.{files_need}
use Rattle.wit_package.specs.Faults.{VersionsBreak, packages_in, OneScopeBreaks, PackageBreaks, MissingComesFirst}
use Rattle.wit_package.specs.Places.{AreAt, ArePlacesOf}
use Rattle.wit_package.specs.Resolved.{IsResolved}
use Rattle.wit_package.specs.Start.{IsStart}

-- what files declare, or why they break a rule by themselves
abbrev pub IsDeclaredIf : List FileTree → Result Declared PackageFault → Type 0
IsDeclaredIf files (Ok d) = IsDeclaredOf files d
IsDeclaredIf files (Err fault) = IsFaultOf (FilesBreak files) fault

-- what files declare, all whose names are found, with what they ask of other packages and the order of their interfaces and worlds
pub record AreChecked (files : List FileTree) (me : PackageNameTree) (d : Declared) (scopes : List ItemScope) (needs : List NeedTree) (order : List ℕ) : Type 0 where
  pub name_is : view.package_name d.name ≡ me
  pub declared : IsDeclaredOf files d
  pub scopes_are : scopes ≡ package_scopes me files
  pub found : IsKept (LookupsBreak me (file_uses files) (package_scopes me files))
  pub needs_are : needs ≡ files_need me files
  pub uses : AreUses needs
  pub versions : IsKept (VersionsBreak (me ∷ packages_in needs))
  pub order_is : IsOrderOf (map item_entry (package_scopes me files)) order

-- besides, what is there before anything of the package's own is brought in, and where its interfaces and worlds stand
pub record AreSet (files : List FileTree) (me : PackageNameTree) (d : Declared) (scopes : List ItemScope) (needs : List NeedTree) (items : Items) (k : KnownTypes) (a : List TypeDef) (ns : List Nature) (interfaces : List Interface) (names : List Name) (worlds : List World) (spans : List Span) (is ws : List ℕ) : Type 0 where
  pub order : List ℕ
  pub checked : AreChecked files me d scopes needs order
  pub sorted : List ItemScope
  pub stands : AreAt scopes order sorted
  pub items_are : AreItemsOf needs items
  pub start : IsStart needs items k a ns interfaces names worlds spans
  pub places : ArePlacesOf scopes sorted is ws

-- they are resolved to that package, and no scope of it breaks a rule
pub record IsResolvedIn (files : List FileTree) (me : PackageNameTree) (p : UnresolvedPackage) : Type 0 where
  pub resolved : IsResolved files p
  pub kept : IsKept (OneScopeBreaks (package_text me) (package_scopes me files))

-- ---- the whole

-- files break no rule, and are resolved to that package
pub record Resolves (files : List FileTree) (p : UnresolvedPackage) : Type 0 where
  pub resolved : IsResolved files p
  pub kept : IsKept (PackageBreaks files)

-- files break a rule, a missing name before a circle, or memory is wanting
pub record Refuses (files : List FileTree) (fault : PackageFault) : Type 0 where
  pub cause : IsFaultOf (PackageBreaks files) fault
  pub order : MissingComesFirst files fault
