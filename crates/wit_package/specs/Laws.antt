-- What is built of the files of a package is what they are resolved to (WIT, Packages).
use Rattle.std.specs.Prelude.{◌≡◌, ◌+◌, ◌≤◌, List, Some, length}
use Rattle.wit_words.specs.declared.source_map.Span.{Span}
use Rattle.wit_syntax.specs.Ast.{PackageNameTree, ToplevelUseTree, FileTree}
use Rattle.wit_types.specs.declared.interface.Interface.{Interface}
use Rattle.wit_types.specs.declared.interface.TypeDef.{TypeDef}
use Rattle.wit_types.specs.declared.world.World.{World}
use Rattle.wit_types.specs.declared.«package».UnresolvedPackage.{UnresolvedPackage}
use Rattle.wit_scopes.specs.Paths.{file_uses}
use Rattle.wit_scopes.specs.Scopes.{ItemScope, InterfaceScope, WorldScope, package_scopes, package_docs}
use Rattle.wit_rules.specs.declared.fault.PackageRule.{PackageRule}
use Rattle.wit_rules.specs.declared.fault.PackageFault.{PackageFault}
use Rattle.wit_rules.specs.Breaks.{IsKept, IsFaultOf}
use Rattle.wit_rules.specs.Facts.{package_name, IsDeclared, FilesBreak}
use Rattle.wit_checked_lookups.specs.Passed.wit_lookups-Lookups.{LookupsBreak}
use Rattle.wit_arena.specs.Tree.{Name}
use Rattle.wit_placeholders.specs.Passed.wit_package_types-Known.{KnownTypes}
use Rattle.wit_built_worlds.specs.Passed.wit_resources-declared-natures-Nature.{Nature}
use Rattle.wit_placeholders.specs.Passed.wit_foreign-Items.{Items, AreItemsOf, interfaces_in}
use Rattle.wit_package.specs.TopUses.{files_need}
use Rattle.wit_built_worlds.specs.Passed.wit_resolved_scopes-InArena.{Context}
use Rattle.wit_built_worlds.specs.Passed.wit_resolved_scopes-Fit.{KnowsInterfaces}
use Rattle.wit_built_worlds.specs.Passed.wit_resolved_scopes-Texts.{AreItemsSorted, interfaces_of, worlds_of}
use Rattle.wit_built_worlds.specs.Passed.wit_interfaces-Adding.{InterfacesBreak, MayAdd, AddsInterfaces}
use Rattle.wit_built_worlds.specs.Adding.{WorldsBreak, AreReadyBehind, MayAddWorlds, AddsWorlds}
use Rattle.wit_package.specs.Start.{IsStart}
use Rattle.wit_package.specs.Built.{AreReadyTogether, MayBuild, Builds, ItemsBreak}
use Rattle.wit_package.specs.Faults.{OneScopeBreaks, MissingComesFirst}
use Rattle.wit_package.specs.Resolved.{context_of, IsMade, IsResolved}

-- a package by its files, of which all names are found, its order and what it asks of others, before anything of its own is brought in
pub record IsBegun (files : List FileTree) (me : PackageNameTree) (sorted : List ItemScope) (items : Items) (k : KnownTypes) (a : List TypeDef) (ns : List Nature) (interfaces : List Interface) (names : List Name) (worlds : List World) (spans : List Span) : Type 0 where
  pub declared : IsDeclared files me (package_scopes me files)
  pub found : IsKept (LookupsBreak me (file_uses files) (package_scopes me files))
  pub are_sorted : AreItemsSorted (package_scopes me files) sorted
  pub items_are : AreItemsOf (files_need me files) items
  pub start : IsStart (files_need me files) items k a ns interfaces names worlds spans

-- its interfaces and worlds may be brought in
abbrev pub KeptPackagesMayBeBuilt : Type 0
KeptPackagesMayBeBuilt =
    (files : List FileTree) (me : PackageNameTree) (sorted : List ItemScope) (items : Items) (k : KnownTypes) (a : List TypeDef) (ns : List Nature) (interfaces : List Interface) (names : List Name) (worlds : List World) (spans : List Span)
    → IsBegun files me sorted items k a ns interfaces names worlds spans
    → AreReadyTogether k items (interfaces_of sorted) (worlds_of sorted) × MayBuild (context_of me files items sorted) k a interfaces items worlds (interfaces_of sorted) (worlds_of sorted)

-- the interfaces are brought in, and behind them the worlds, which builds both; none of them breaks a rule where neither step does
pub record AreBuiltInTwoSteps (c : Context) (k : KnownTypes) (a : List TypeDef) (interfaces : List Interface) (items : Items) (worlds : List World) (is : List InterfaceScope) (ws : List WorldScope) : Type 0 where
  pub may_add : MayAdd c k a (length interfaces) is
  pub may_add_worlds : (k2 : KnownTypes) (b : List TypeDef) (interfaces2 : List Interface) → KnowsInterfaces k2 is → AddsInterfaces c a interfaces is k2 b interfaces2 → MayAddWorlds c k2 b interfaces2 items worlds ws
  pub numbered : (k2 : KnownTypes) (b : List TypeDef) (interfaces2 : List Interface) → KnowsInterfaces k2 is → AddsInterfaces c a interfaces is k2 b interfaces2 → interfaces_in items + length k2.names ≤ length interfaces2
  pub ready : (k2 : KnownTypes) → KnowsInterfaces k2 is → k2.foreign ≡ k.foreign → AreReadyBehind k2 items ws
  pub builds : (k2 k3 : KnownTypes) (b d : List TypeDef) (interfaces2 interfaces3 : List Interface) (worlds2 : List World)
      → KnowsInterfaces k2 is → AddsInterfaces c a interfaces is k2 b interfaces2 → AddsWorlds c k3 b interfaces2 worlds ws d interfaces3 worlds2
      → Builds c a interfaces worlds is ws d interfaces3 worlds2
  pub kept : IsKept (InterfacesBreak c is) → IsKept (WorldsBreak c ws) → IsKept (ItemsBreak c is ws)
  pub by_interfaces : (fault : PackageFault) → IsFaultOf (InterfacesBreak c is) fault → IsFaultOf (ItemsBreak c is ws) fault
  pub by_worlds : (fault : PackageFault) → IsFaultOf (WorldsBreak c ws) fault → IsFaultOf (ItemsBreak c is ws) fault

abbrev pub PackagesAreBuiltInTwoSteps : Type 0
PackagesAreBuiltInTwoSteps =
    (c : Context) (k : KnownTypes) (a : List TypeDef) (interfaces : List Interface) (items : Items) (worlds : List World) (is : List InterfaceScope) (ws : List WorldScope)
    → length interfaces ≡ interfaces_in items → AreReadyTogether k items is ws → MayBuild c k a interfaces items worlds is ws → AreBuiltInTwoSteps c k a interfaces items worlds is ws

-- where they are, and a package is made of that, it is what the files are resolved to
abbrev pub BuiltPackagesAreResolved : Type 0
BuiltPackagesAreResolved =
    (files : List FileTree) (me : PackageNameTree) (sorted : List ItemScope) (items : Items) (k : KnownTypes) (a b : List TypeDef) (ns : List Nature) (interfaces interfaces2 : List Interface) (names : List Name) (worlds worlds2 : List World) (spans : List Span) (p : UnresolvedPackage)
    → IsBegun files me sorted items k a ns interfaces names worlds spans → Builds (context_of me files items sorted) a interfaces worlds (interfaces_of sorted) (worlds_of sorted) b interfaces2 worlds2
    → IsMade me (package_docs files) items (files_need me files) b interfaces2 worlds2 spans p → IsResolved files p

-- the interfaces and worlds in their order break the rules that the package's scopes do, at the same places
pub record BreakAlike (c : Context) (sorted : List ItemScope) : Type 0 where
  pub by_items : (rule : PackageRule) (at : Span) → ItemsBreak c (interfaces_of sorted) (worlds_of sorted) rule at → OneScopeBreaks c.me c.scopes rule at
  pub by_scopes : (rule : PackageRule) (at : Span) → OneScopeBreaks c.me c.scopes rule at → ItemsBreak c (interfaces_of sorted) (worlds_of sorted) rule at

abbrev pub ItemsBreakAsScopesDo : Type 0
ItemsBreakAsScopesDo = (c : Context) (sorted : List ItemScope) → AreItemsSorted c.scopes sorted → BreakAlike c sorted

-- a name that isn't there is told before a circle: what the files break by themselves and where names are looked up is no circle, and where names are found none is missing
pub record MissingNamesComeFirst (files : List FileTree) : Type 0 where
  pub by_files : (fault : PackageFault) → IsFaultOf (FilesBreak files) fault → MissingComesFirst files fault
  pub by_lookups : (me : PackageNameTree) (uses : List (List ToplevelUseTree)) (scopes : List ItemScope) (fault : PackageFault) → IsFaultOf (LookupsBreak me uses scopes) fault → MissingComesFirst files fault
  pub behind : (me : PackageNameTree) → package_name files ≡ Some me → IsKept (LookupsBreak me (file_uses files) (package_scopes me files)) → (fault : PackageFault) → MissingComesFirst files fault
