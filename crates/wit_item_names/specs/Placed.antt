-- What a package brings to a graph is named there as it was (WIT, Packages, Package Names).
use Rattle.std.specs.Prelude.{◌≡◌, ℕ, ◌+◌, List, [], ◌∷◌, ◌++◌, Some, length, map, slice_get, string_bytes}
use Rattle.wit_types.specs.Package.{package_text}
use Rattle.wit_types.specs.declared.interface.Interface.{Interface}
use Rattle.wit_types.specs.declared.interface.TypeDef.{TypeDef}
use Rattle.wit_types.specs.declared.interface.TypeOwner.TheVariants as belongs
use Rattle.wit_types.specs.declared.world.World.{World}
use Rattle.wit_types.specs.declared.«package».Package.{Package}
use Rattle.wit_order.specs.Order.{Has}
use Rattle.wit_features.specs.Features.{FeatureSet}
use Rattle.wit_names.specs.Names.{ArePackagesKnown}
use Rattle.wit_moves.specs.Breaks.{AnyOf, IsKept}
use Rattle.wit_moves.specs.Moved.{Places, place_of}
use Rattle.wit_moves.specs.Plan.{OwnerPlaces}
use Rattle.wit_labels.specs.Passed.wit_finding-Types.{type_found}
use Rattle.wit_labels.specs.Passed.wit_plans-Checks.{Standing, WorldBreaks}
use Rattle.wit_labels.specs.Passed.wit_plans-Moves.{AreMovedInterfaces, AreMovedWorlds}
use Rattle.wit_labels.specs.Passed.wit_plans-declared-moves-MovedWorld.{MovedWorld}
use Rattle.wit_reach.specs.Deps.{IsInterfaceDep}
use Rattle.wit_reach.specs.Holding.{HoldTheirTypes}
use Rattle.wit_reach.specs.Lists.{type_items}
use Rattle.wit_reach.specs.Types.{IsOfItem}
use Rattle.wit_labels.specs.Passed.wit_placed-There.{IsInterfaceThere}
use Rattle.wit_labels.specs.Passed.wit_placed-Order.{AreBehind}
use Rattle.wit_graph_worlds.specs.Passed.wit_uses-Uses.{TakesByUse}
use Rattle.wit_labels.specs.Passed.wit_plain_texts-Plain.{IsPlain}
use Rattle.wit_item_names.specs.Apart.{AreNamedApart, AreOwnNamedApart}
use Rattle.wit_item_names.specs.Added.{IsPlainWorld}
use Rattle.wit_item_names.specs.Plain.{AreUnderPlainNames, ArePlainIncludes}
use Rattle.wit_item_names.specs.Used.{IsNamed, SidesUseNamed, AreOwnUsedNamed}

-- no package has the text of this one, of which parts have no marks
pub record IsNewName (packages : List Package) (q : Package) : Type 0 where
  pub fresh : (p : ℕ) (a : Package) → slice_get packages p ≡ Some a → package_text a.name ≡ package_text q.name → ⊥
  pub namespace : IsPlain (string_bytes q.name.namespace)
  pub name : IsPlain (string_bytes q.name.name)

-- where names tell packages and interfaces of a graph apart, and interfaces of a package, they do so in the graph with the package
abbrev pub PlacedAreNamedApart : Type 0
PlacedAreNamedApart =
    (features : FeatureSet) (s : Standing) (packages : List Package) (q : Package) (interfaces own new : List Interface)
    → AreMovedInterfaces features s (length packages) own new → ArePackagesKnown packages interfaces → IsNewName packages q
    → AreNamedApart packages interfaces → AreOwnNamedApart own → AreNamedApart (packages ++ q ∷ []) (interfaces ++ new)

-- interfaces of which types are used have names, and so do those that worlds use and import
pub record UseNamed (packages : List Package) (types : List TypeDef) (interfaces : List Interface) (ms : List MovedWorld) : Type 0 where
  pub in_interfaces : (k j : ℕ) (d : Interface) → slice_get interfaces k ≡ Some d → IsInterfaceDep types d j → IsNamed packages interfaces j
  pub in_worlds : (m : MovedWorld) → Has ms m → SidesUseNamed packages types interfaces m.imports.items m.exports.items

-- where those of which a graph uses types have names, and those that are found of others, and so it is in a package, so it is of what stays of it there
abbrev pub PlacedUseNamed : Type 0
PlacedUseNamed =
    (features : FeatureSet) (owners : OwnerPlaces) (s : Standing) (packages : List Package) (q : Package) (foreign own graph moved : List TypeDef) (others : Places) (own_interfaces new_interfaces interfaces : List Interface) (others_interfaces : Places)
    → AreBehind features owners s (length packages) foreign own graph moved others own_interfaces new_interfaces others_interfaces (length interfaces)
    → others ≡ map (type_found interfaces others_interfaces) foreign → s.interfaces ≡ owners.interfaces → HoldTheirTypes 0 graph interfaces → ((d : Interface) → Has interfaces d → IsInterfaceThere graph d)
    → (own_worlds : List World) (ms : List MovedWorld) → AreMovedWorlds features s own_worlds ms → IsKept (AnyOf (WorldBreaks features s) own_worlds)
    → ((i j : ℕ) → place_of others_interfaces i ≡ Some j → IsNamed packages interfaces j)
    → ((k j : ℕ) (d : Interface) → slice_get interfaces k ≡ Some d → IsInterfaceDep graph d j → IsNamed packages interfaces j)
    → AreOwnUsedNamed (length others_interfaces) (foreign ++ own) own_interfaces own_worlds
    → UseNamed (packages ++ q ∷ []) (graph ++ moved) (interfaces ++ new_interfaces) ms

-- where worlds of a package take types by use, behind so many others, and import what has plain names, so does what stays of each where it stands
abbrev pub PlacedWorldsArePlain : Type 0
PlacedWorldsArePlain =
    (features : FeatureSet) (owners : OwnerPlaces) (s : Standing) (owner : ℕ) (foreign own graph moved : List TypeDef) (others : Places) (own_interfaces new_interfaces interfaces : List Interface) (others_interfaces : Places)
    → AreBehind features owners s owner foreign own graph moved others own_interfaces new_interfaces others_interfaces (length interfaces)
    → others ≡ map (type_found interfaces others_interfaces) foreign → HoldTheirTypes 0 graph interfaces
    → (others_worlds : ℕ) (own_worlds : List World) (ms : List MovedWorld) → AreMovedWorlds features s own_worlds ms
    → ((k : ℕ) (w : World) → slice_get own_worlds k ≡ Some w → TakesByUse (foreign ++ own) (belongs.World (others_worlds + k)) (Has (type_items w.imports.entries)) (IsOfItem w))
    → ((w : World) → Has own_worlds w → AreUnderPlainNames (foreign ++ own) w.imports.entries) → ((w : World) → Has own_worlds w → ArePlainIncludes w.includes.items)
    → (m : MovedWorld) → Has ms m → IsPlainWorld (graph ++ moved) m
