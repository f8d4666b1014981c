-- What stands at the places that are put in for what core modules import.
use Rattle.std.proofs.Common.{◌≡◌, ℕ, List, [], ◌∷◌, ◌++◌, Option, Some, String, refl, sym, ap, subst, map, option_map, length, ◌∙◌}
use Rattle.std.proofs.lemmas.List.Concat.{flat_map_single}
use Rattle.std.specs.Prelude.{flat_map, slice_get, string_bytes}
use Rattle.std.specs.declared.alloc.Global.{Global}
use Rattle.wit_types.specs.declared.function.Function.{Function}
use Rattle.wit_types.specs.declared.interface.Interface.{Interface}
use Rattle.wit_types.specs.declared.stability.Stability.{Stability}
use Rattle.wit_types.specs.declared.world.World.{World}
use Rattle.wit_types.specs.declared.world.WorldItem.{WorldItem}
use Rattle.wit_types.specs.declared.world.WorldItem.TheVariants as item
use Rattle.wit_types.specs.declared.world_key.WorldKey.{WorldKey}
use Rattle.wit_words.specs.declared.source_map.Span.{Span}
use Rattle.wit_core_names.specs.Items.{CoreImport}
use Rattle.wit_core_names.specs.Texts.{Known}
use Rattle.wit_core_names.specs.declared.items.ResourceIntrinsic.TheVariants.{ImportedDrop}
use Rattle.wit_core_items.specs.World.{of_import, of_imported_interface, of_exported, of_exported_interface, resources, functions_of, drops_of, intrinsics_of}
use Rattle.wit_core_items.specs.Places.{AreAt, Adds, Entry, counted, function_of}
use Rattle.wit_core_items.specs.ImportPlaces.{import_at, interface_import, import_of_function, exported_places}
use Rattle.wit_core_items.specs.declared.import_places.ImportPlace.{ImportPlace}
use Rattle.wit_core_items.specs.declared.import_places.ImportPlace.TheVariants.{InterfaceFunction, InterfaceDrop}
use Rattle.wit_core_items.proofs.Placing.{adds_put, adds_then, are_counted, are_each}

module _ (k : Known) (w : World) (entry : ℕ) (key : WorldKey) (id : ℕ) (stability : Stability) (span : Span) (d : Interface) (known : slice_get k.interfaces id ≡ Some d) where
  abbrev it : WorldItem
  it = item.Interface id stability span

  function_there : slice_get w.imports.entries entry ≡ Some (key, it) → (j : ℕ) (e : String Global × Function) → slice_get d.functions.entries j ≡ Some e → AreAt (import_at k w) (InterfaceFunction entry j ∷ []) (CoreImport.func (Some key) e.1 ∷ [])
  function_there there j e at =
      ap (λ (o : Option CoreImport). o ∷ [])
      (ap (λ (o : Option Entry). interface_import k j o) there ∙ ap (λ (o : Option Interface). import_of_function (Some key) (function_of o j)) known
      ∙ ap (λ (o : Option (String Global × Function)). import_of_function (Some key) (option_map (λ (e : String Global × Function). e.1) o)) at)

  drops_there : slice_get w.imports.entries entry ≡ Some (key, it) → (rs : List ℕ) → AreAt (import_at k w) (map (λ r. InterfaceDrop entry r) rs) (drops_of k (Some key) rs)
  drops_there there [] = refl
  drops_there there (r ∷ rs) =
      ap (λ (l : List (Option CoreImport)). import_at k w (InterfaceDrop entry r) ∷ l) (drops_there there rs)
      ∙ ap (λ (o : Option Entry). option_map (λ (e : Entry). CoreImport.intrinsic (Some e.0) r ImportedDrop) o ∷ map (λ x. Some x) (drops_of k (Some key) rs)) there

  pub interface_put : (old mid new : List ImportPlace) (found : List ℕ) (count : ℕ) → slice_get w.imports.entries entry ≡ Some (key, it)
      → count ≡ length d.functions.entries → found ≡ resources k d.types.entries → mid ≡ old ++ counted (λ j. InterfaceFunction entry j ∷ []) count → new ≡ mid ++ map (λ r. InterfaceDrop entry r) found
      → Adds (import_at k w) old new (of_import k key it)
  interface_put old mid new found count there size are one two =
      let functions : AreAt (import_at k w) (counted (λ j. InterfaceFunction entry j ∷ []) (length d.functions.entries)) (functions_of k (Some key) d.functions.entries) =
      subst (AreAt (import_at k w) (counted (λ j. InterfaceFunction entry j ∷ []) (length d.functions.entries))) (flat_map_single (λ (e : String Global × Function). CoreImport.func (Some key) e.1) d.functions.entries)
      (are_counted (import_at k w) (λ j. InterfaceFunction entry j ∷ []) (λ (e : String Global × Function). CoreImport.func (Some key) e.1 ∷ []) d.functions.entries (function_there there)) in
      subst (λ (o : Option Interface). Adds (import_at k w) old new (of_imported_interface k key o)) (sym known)
      (adds_then (import_at k w) old mid new (functions_of k (Some key) d.functions.entries) (drops_of k (Some key) (resources k d.types.entries))
      (adds_put (import_at k w) old mid _ _ (one ∙ ap (λ n. old ++ counted (λ j. InterfaceFunction entry j ∷ []) n) size) functions)
      (adds_put (import_at k w) mid new _ _ (two ∙ ap (λ l. mid ++ map (λ r. InterfaceDrop entry r) l) are) (drops_there there (resources k d.types.entries))))

  intrinsics_there : slice_get w.exports.entries entry ≡ Some (key, it) → (r : ℕ) → AreAt (import_at k w) (exported_places entry r) (intrinsics_of k key r)
  intrinsics_there there r = simp there

  pub exported_put : (old new : List ImportPlace) (found : List ℕ) → slice_get w.exports.entries entry ≡ Some (key, it)
      → found ≡ resources k d.types.entries → new ≡ old ++ flat_map (exported_places entry) found
      → Adds (import_at k w) old new (of_exported k key it)
  exported_put old new found there are put =
      subst (λ (o : Option Interface). Adds (import_at k w) old new (of_exported_interface k key o)) (sym known)
      (adds_put (import_at k w) old new _ _ (put ∙ ap (λ l. old ++ flat_map (exported_places entry) l) are) (are_each (import_at k w) (exported_places entry) (intrinsics_of k key) (resources k d.types.entries) (intrinsics_there there)))
