-- Only an interface has exported resources of which modules import something.
use Rattle.std.proofs.Common.{inl, inr, ℕ, List, [], ◌∷◌, ◌++◌, Option, Some, None, String, refl, sym, subst, filter}
use Rattle.std.specs.Prelude.{flat_map, slice_get, string_bytes}
use Rattle.std.specs.declared.alloc.Global.{Global}
use Rattle.wit_types.specs.Passed.wit_order-Order.{Has}
use Rattle.wit_types.specs.declared.function.Function.{Function}
use Rattle.wit_types.specs.declared.interface.Interface.{Interface}
use Rattle.wit_types.specs.declared.world.World.{World}
use Rattle.wit_types.specs.declared.world.WorldItem.{WorldItem}
use Rattle.wit_types.specs.declared.world.WorldItem.TheVariants as item
use Rattle.wit_types.specs.declared.world_key.WorldKey.{WorldKey}
use Rattle.wit_core_names.specs.Items.{CoreImport}
use Rattle.wit_core_names.specs.Texts.{Known}
use Rattle.wit_core_names.specs.declared.items.ResourceIntrinsic.TheVariants.{ImportedDrop}
use Rattle.wit_core_items.specs.Named.{IsImportOnSide}
use Rattle.wit_core_items.specs.World.{resources, is_resource, of_import, of_exported, of_imported_interface, of_exported_interface, functions_of, drops_of, intrinsics_of, core_imports}
use Rattle.wit_core_items.proofs.Lists.{has_map}

-- ---- what is so of all of a list

abbrev Each : {X : Type 0} → (X → Type 0) → List X → Type 0
Each {X} P xs = (x : X) → Has xs x → P x

each_append : {X : Type 0} (P : X → Type 0) (xs ys : List X) → Each P xs → Each P ys → Each P (xs ++ ys)
each_append P [] ys one two x h = two x h
each_append P (y ∷ xs) ys one two x h = elim h as (λ _. P x) [ inl here ↦ one x (inl here) | inr later ↦ each_append P xs ys (λ z i. one z (inr i)) two x later ]

each_flat : {E X : Type 0} (P : X → Type 0) (f : E → List X) (es : List E) → Each (λ e. Each P (f e)) es → Each P (flat_map f es)
each_flat P f [] all x h = absurd h
each_flat P f (e ∷ es) all x h = each_append P (f e) (flat_map f es) (all e (inl refl)) (each_flat P f es (λ d i. all d (inr i))) x h

module _ (k : Known) where
  imported_on_side : (key : WorldKey) (o : Option Interface) → Each IsImportOnSide (of_imported_interface k key o)
  imported_on_side key None x h = absurd h
  imported_on_side key (Some d) x h =
      each_append IsImportOnSide (functions_of k (Some key) d.functions.entries) (drops_of k (Some key) (resources k d.types.entries))
      (has_map (λ (e : String Global × Function). CoreImport.func (Some key) e.1) IsImportOnSide d.functions.entries (λ e i. tt))
      (has_map (λ (r : ℕ). CoreImport.intrinsic (Some key) r ImportedDrop) IsImportOnSide (resources k d.types.entries) (λ r i. tt)) x h

  import_on_side : (key : WorldKey) (it : WorldItem) → Each IsImportOnSide (of_import k key it)
  import_on_side key (item.Interface id stability span) x h = imported_on_side key (slice_get k.interfaces id) x h
  import_on_side key (item.Function f) x h = elim h as (λ _. IsImportOnSide x) [ inl here ↦ subst IsImportOnSide (sym here) tt | inr none ↦ absurd none ]
  import_on_side key (item.TypeItem id span) x h = has_map (λ (r : ℕ). CoreImport.intrinsic None r ImportedDrop) IsImportOnSide (filter (is_resource k) (id ∷ [])) (λ r i. tt) x h

  intrinsics_on_side : (key : WorldKey) (r : ℕ) → Each IsImportOnSide (intrinsics_of k key r)
  intrinsics_on_side key r y i = elim i as (λ _. IsImportOnSide y) [
    | inl a ↦ subst IsImportOnSide (sym a) (key, refl)
    | inr h2 ↦ elim h2 as (λ _. IsImportOnSide y) [
      | inl b ↦ subst IsImportOnSide (sym b) (key, refl)
      | inr h3 ↦ elim h3 as (λ _. IsImportOnSide y) [ inl c ↦ subst IsImportOnSide (sym c) (key, refl) | inr none ↦ absurd none ]
    ]
  ]

  exported_interface_on_side : (key : WorldKey) (o : Option Interface) → Each IsImportOnSide (of_exported_interface k key o)
  exported_interface_on_side key None x h = absurd h
  exported_interface_on_side key (Some d) x h = each_flat IsImportOnSide (intrinsics_of k key) (resources k d.types.entries) (λ r i. intrinsics_on_side key r) x h

  exported_on_side : (key : WorldKey) (it : WorldItem) → Each IsImportOnSide (of_exported k key it)
  exported_on_side key (item.Interface id stability span) x h = exported_interface_on_side key (slice_get k.interfaces id) x h
  exported_on_side key (item.Function f) x h = absurd h
  exported_on_side key (item.TypeItem id span) x h = absurd h

  pub imports_on_side : (w : World) → Each IsImportOnSide (core_imports k w)
  imports_on_side w =
      each_append IsImportOnSide (flat_map (λ (e : WorldKey × WorldItem). of_import k e.0 e.1) w.imports.entries) (flat_map (λ (e : WorldKey × WorldItem). of_exported k e.0 e.1) w.exports.entries)
      (each_flat IsImportOnSide (λ (e : WorldKey × WorldItem). of_import k e.0 e.1) w.imports.entries (λ e h. import_on_side e.0 e.1))
      (each_flat IsImportOnSide (λ (e : WorldKey × WorldItem). of_exported k e.0 e.1) w.exports.entries (λ e h. exported_on_side e.0 e.1))
