-- Where a world has what core modules import.
use Rattle.std.specs.Prelude.{ℕ, List, [], ◌∷◌, Option, Some, None, option_map, flat_map, string_bytes, slice_get}
use Rattle.wit_types.specs.declared.function.Function.{Function}
use Rattle.wit_types.specs.declared.world.World.{World}
use Rattle.wit_types.specs.declared.world.WorldItem.{WorldItem}
use Rattle.wit_types.specs.declared.world_key.WorldKey.{WorldKey}
use Rattle.wit_core_names.specs.Items.{CoreImport}
use Rattle.wit_core_names.specs.Texts.{Known}
use Rattle.wit_core_names.specs.declared.items.ResourceIntrinsic.TheVariants.{ImportedDrop, ExportedDrop, ExportedNew, ExportedRep}
use Rattle.wit_core_items.specs.World.{of_import, of_exported}
use Rattle.wit_core_items.specs.Places.{Entry, own_function, function_in}
use Rattle.wit_core_items.specs.declared.import_places.ImportPlace.{ImportPlace}
use Rattle.wit_core_items.specs.declared.import_places.ImportPlace.TheVariants.{OwnFunction, InterfaceFunction, OwnDrop, InterfaceDrop, ExportedIntrinsic}

-- ---- what stands at a place

abbrev pub import_of_function : Option WorldKey → Option Function → Option CoreImport
import_of_function key f = option_map (λ (g : Function). CoreImport.func key g) f

abbrev pub own_import : Option Entry → Option CoreImport
own_import None = None
own_import (Some e) = import_of_function None (own_function e.1)

abbrev pub interface_import : Known → ℕ → Option Entry → Option CoreImport
interface_import k j None = None
interface_import k j (Some e) = import_of_function (Some e.0) (function_in k e.1 j)

abbrev pub import_at : Known → World → ImportPlace → Option CoreImport
import_at k w (OwnFunction entry) = own_import (slice_get w.imports.entries entry)
import_at k w (InterfaceFunction entry j) = interface_import k j (slice_get w.imports.entries entry)
import_at k w (OwnDrop r) = Some (CoreImport.intrinsic None r ImportedDrop)
import_at k w (InterfaceDrop entry r) = option_map (λ (e : Entry). CoreImport.intrinsic (Some e.0) r ImportedDrop) (slice_get w.imports.entries entry)
import_at k w (ExportedIntrinsic entry r what) = option_map (λ (e : Entry). CoreImport.intrinsic (Some e.0) r what) (slice_get w.exports.entries entry)

-- what is done with a resource of an exported interface
abbrev pub exported_places : ℕ → ℕ → List ImportPlace
exported_places entry r = ExportedIntrinsic entry r ExportedNew ∷ ExportedIntrinsic entry r ExportedRep ∷ ExportedIntrinsic entry r ExportedDrop ∷ []

-- what modules may import of a world's imports and of its exports
abbrev pub imported : Known → List Entry → List CoreImport
imported k es = flat_map (λ (e : WorldKey × WorldItem). of_import k e.0 e.1) es

abbrev pub exported : Known → List Entry → List CoreImport
exported k es = flat_map (λ (e : WorldKey × WorldItem). of_exported k e.0 e.1) es
