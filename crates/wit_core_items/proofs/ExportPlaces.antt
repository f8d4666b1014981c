-- What stands at the places that are put in for what core modules export.
use Rattle.std.proofs.Common.{◌≡◌, ℕ, List, [], ◌∷◌, ◌++◌, Option, Some, String, refl, sym, ap, subst, map, option_map, length, slice_get, string_bytes, ◌∙◌}
use Rattle.std.specs.declared.alloc.Global.{Global}
use Rattle.wit_types.specs.declared.function.Function.{Function}
use Rattle.wit_types.specs.declared.interface.Interface.{Interface}
use Rattle.wit_types.specs.declared.stability.Stability.{Stability}
use Rattle.wit_types.specs.declared.world.World.{World}
use Rattle.wit_types.specs.declared.world.WorldItem.TheVariants as item
use Rattle.wit_types.specs.declared.world_key.WorldKey.{WorldKey}
use Rattle.wit_words.specs.declared.source_map.Span.{Span}
use Rattle.wit_core_names.specs.Items.{CoreExport}
use Rattle.wit_core_names.specs.Texts.{Known}
use Rattle.wit_core_names.specs.declared.items.WasmExportKind.{WasmExportKind}
use Rattle.wit_core_names.specs.declared.items.WasmExportKind.TheVariants.{Normal, PostReturn}
use Rattle.wit_core_items.specs.World.{of_export, of_interface_export, export_functions, resources}
use Rattle.wit_core_items.specs.Places.{AreAt, Adds, Entry, counted, function_of}
use Rattle.wit_core_items.specs.ExportPlaces.{export_at, interface_export, export_of_function, function_places}
use Rattle.wit_core_items.specs.declared.export_places.ExportPlace.{ExportPlace}
use Rattle.wit_core_items.specs.declared.export_places.ExportPlace.TheVariants.{InterfaceFunction, Destructor}
use Rattle.wit_core_items.proofs.Placing.{adds_put, adds_then, are_append, are_counted}

module _ (k : Known) (w : World) (entry : ℕ) (key : WorldKey) (id : ℕ) (stability : Stability) (span : Span) (d : Interface) (known : slice_get k.interfaces id ≡ Some d) (there : slice_get w.exports.entries entry ≡ Some (key, item.Interface id stability span)) where
  kind_there : (j : ℕ) (e : String Global × Function) → slice_get d.functions.entries j ≡ Some e → (kind : WasmExportKind) → AreAt (export_at k w) (InterfaceFunction entry j kind ∷ []) (CoreExport.func (Some key) e.1 kind ∷ [])
  kind_there j e at kind =
      ap (λ (o : Option CoreExport). o ∷ [])
      (ap (λ (o : Option Entry). interface_export k j kind o) there ∙ ap (λ (o : Option Interface). export_of_function (Some key) kind (function_of o j)) known
      ∙ ap (λ (o : Option (String Global × Function)). export_of_function (Some key) kind (option_map (λ (e : String Global × Function). e.1) o)) at)

  function_there : (j : ℕ) (e : String Global × Function) → slice_get d.functions.entries j ≡ Some e → AreAt (export_at k w) (function_places entry j) (export_functions k (Some key) e.1)
  function_there j e at =
      are_append (export_at k w) (InterfaceFunction entry j Normal ∷ []) (InterfaceFunction entry j PostReturn ∷ []) (CoreExport.func (Some key) e.1 Normal ∷ []) (CoreExport.func (Some key) e.1 PostReturn ∷ [])
      (kind_there j e at Normal) (kind_there j e at PostReturn)

  destructors_there : (rs : List ℕ) → AreAt (export_at k w) (map (λ r. Destructor entry r) rs) (map (λ (r : ℕ). CoreExport.destructor key r) rs)
  destructors_there [] = refl
  destructors_there (r ∷ rs) =
      ap (λ (l : List (Option CoreExport)). export_at k w (Destructor entry r) ∷ l) (destructors_there rs)
      ∙ ap (λ (o : Option Entry). option_map (λ (e : Entry). CoreExport.destructor e.0 r) o ∷ map (λ x. Some x) (map (λ (r : ℕ). CoreExport.destructor key r) rs)) there

  pub interface_put : (old mid new : List ExportPlace) (found : List ℕ) (count : ℕ) → count ≡ length d.functions.entries → found ≡ resources k d.types.entries
      → mid ≡ old ++ counted (function_places entry) count → new ≡ mid ++ map (λ r. Destructor entry r) found
      → Adds (export_at k w) old new (of_export k key (item.Interface id stability span))
  interface_put old mid new found count size are one two =
      subst (λ (o : Option Interface). Adds (export_at k w) old new (of_interface_export k key o)) (sym known)
      (adds_then (export_at k w) old mid new _ _
      (adds_put (export_at k w) old mid _ _ (one ∙ ap (λ n. old ++ counted (function_places entry) n) size) (are_counted (export_at k w) (function_places entry) (λ (e : String Global × Function). export_functions k (Some key) e.1) d.functions.entries function_there))
      (adds_put (export_at k w) mid new _ _ (two ∙ ap (λ l. mid ++ map (λ r. Destructor entry r) l) are) (destructors_there (resources k d.types.entries))))
