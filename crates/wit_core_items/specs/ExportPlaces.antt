-- Where a world has what core modules export.
use Rattle.std.specs.Prelude.{ℕ, List, [], ◌∷◌, Option, Some, None, option_map, flat_map, string_bytes, slice_get}
use Rattle.wit_types.specs.declared.function.Function.{Function}
use Rattle.wit_types.specs.declared.world.World.{World}
use Rattle.wit_types.specs.declared.world.WorldItem.{WorldItem}
use Rattle.wit_types.specs.declared.world_key.WorldKey.{WorldKey}
use Rattle.wit_core_names.specs.Items.{CoreExport}
use Rattle.wit_core_names.specs.Texts.{Known}
use Rattle.wit_core_names.specs.declared.items.WasmExportKind.{WasmExportKind}
use Rattle.wit_core_names.specs.declared.items.WasmExportKind.TheVariants.{Normal, PostReturn}
use Rattle.wit_core_items.specs.World.{of_export}
use Rattle.wit_core_items.specs.Places.{Entry, own_function, function_in}
use Rattle.wit_core_items.specs.declared.export_places.ExportPlace.{ExportPlace}
use Rattle.wit_core_items.specs.declared.export_places.ExportPlace.TheVariants as place

-- ---- what stands at a place

abbrev pub export_of_function : Option WorldKey → WasmExportKind → Option Function → Option CoreExport
export_of_function key kind f = option_map (λ (g : Function). CoreExport.func key g kind) f

abbrev pub own_export : WasmExportKind → Option Entry → Option CoreExport
own_export kind None = None
own_export kind (Some e) = export_of_function None kind (own_function e.1)

abbrev pub interface_export : Known → ℕ → WasmExportKind → Option Entry → Option CoreExport
interface_export k j kind None = None
interface_export k j kind (Some e) = export_of_function (Some e.0) kind (function_in k e.1 j)

abbrev pub export_at : Known → World → ExportPlace → Option CoreExport
export_at k w place.Memory = Some CoreExport.memory
export_at k w place.Initialize = Some CoreExport.initialize
export_at k w place.Realloc = Some CoreExport.realloc
export_at k w (place.OwnFunction entry kind) = own_export kind (slice_get w.exports.entries entry)
export_at k w (place.InterfaceFunction entry j kind) = interface_export k j kind (slice_get w.exports.entries entry)
export_at k w (place.Destructor entry r) = option_map (λ (e : Entry). CoreExport.destructor e.0 r) (slice_get w.exports.entries entry)

-- ---- places that come together

-- a function, and the one that is called when its results are read
abbrev pub own_places : ℕ → List ExportPlace
own_places entry = place.OwnFunction entry Normal ∷ place.OwnFunction entry PostReturn ∷ []

abbrev pub function_places : ℕ → ℕ → List ExportPlace
function_places entry j = place.InterfaceFunction entry j Normal ∷ place.InterfaceFunction entry j PostReturn ∷ []

-- what modules may export of a world's exports
abbrev pub of_exports : Known → List Entry → List CoreExport
of_exports k es = flat_map (λ (e : WorldKey × WorldItem). of_export k e.0 e.1) es
