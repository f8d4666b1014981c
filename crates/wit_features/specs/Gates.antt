-- Gates of versions that a package hasn't reached (WIT, Feature Gates).
use Rattle.std.specs.Prelude.{◌≡◌, true, false, ◌⊎◌, List, [], ◌∷◌, Option, String, map}
use Rattle.std.specs.declared.alloc.Global.{Global}
use Rattle.semver.specs.declared.Version.{Version}
use Rattle.wit_types.specs.Passed.wit_words-declared-source_map-Span.{Span}
use Rattle.wit_types.specs.declared.stability.Stability.{Stability}
use Rattle.wit_types.specs.declared.function.Function.{Function}
use Rattle.wit_types.specs.declared.interface.Interface.{Interface}
use Rattle.wit_types.specs.declared.interface.TypeDef.{TypeDef}
use Rattle.wit_types.specs.declared.world.World.{World}
use Rattle.wit_types.specs.declared.world.WorldInclude.{WorldInclude}
use Rattle.wit_types.specs.declared.world.WorldItem.{WorldItem}
use Rattle.wit_types.specs.declared.world.WorldItem.TheVariants as item
use Rattle.wit_types.specs.declared.world_key.WorldKey.{WorldKey}
use Rattle.wit_types.specs.declared.«package».UnresolvedPackage.{UnresolvedPackage}
use Rattle.wit_features.specs.Features.{breaks_gate}

-- gates, each with the place of its item
abbrev pub Gates : Type 1
Gates = Stability → Span → Type 0

abbrev pub gated : Stability → Span → Gates
gated stability span s at = (s ≡ stability) × (at ≡ span)

-- those of one of a list
abbrev pub IsOf : {X : Type 0} → (X → Gates) → List X → Gates
IsOf gates [] s at = ⊥
IsOf gates (x ∷ xs) s at = gates x s at ⊎ IsOf gates xs s at

abbrev pub of_type : TypeDef → Gates
of_type d = gated d.stability d.span

abbrev pub of_function : Function → Gates
of_function f = gated f.stability f.span

abbrev pub are_of_functions : List (String Global × Function) → Gates
are_of_functions es = IsOf of_function (map (λ (e : String Global × Function). e.1) es)

-- an interface, and its functions; its types stand among those of the package
abbrev pub of_interface : Interface → Gates
of_interface i s at = gated i.stability i.span s at ⊎ are_of_functions i.functions.entries s at

-- what a world imports or exports; its types stand among those of the package
abbrev pub of_item : WorldItem → Gates
of_item (item.Interface id stability span) s at = gated stability span s at
of_item (item.Function f) s at = gated f.stability f.span s at
of_item (item.TypeItem id span) s at = ⊥

abbrev pub are_of_side : List (WorldKey × WorldItem) → Gates
are_of_side es = IsOf of_item (map (λ (e : WorldKey × WorldItem). e.1) es)

abbrev pub of_include : WorldInclude → Gates
of_include n = gated n.stability n.span

-- a world, what it imports, exports and includes
abbrev pub of_world : World → Gates
of_world w s at = gated w.stability w.span s at ⊎ are_of_side w.imports.entries s at ⊎ are_of_side w.exports.entries s at ⊎ IsOf of_include w.includes.items s at

-- all that stands in a package
abbrev pub of_package : UnresolvedPackage → Gates
of_package p s at = IsOf of_type p.types s at ⊎ IsOf of_interface p.interfaces s at ⊎ IsOf of_world p.worlds s at

abbrev pub AreOnTime : Option Version → Gates → Type 0
AreOnTime version gates = (s : Stability) (at : Span) → gates s at → breaks_gate version s ≡ false

-- those of the item at a place are of a version that isn't reached
abbrev pub IsLate : Option Version → Gates → Span → Type 0
IsLate version gates at = (s : Stability) × gates s at × (breaks_gate version s ≡ true)
