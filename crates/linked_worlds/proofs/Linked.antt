-- Functions that modules may import of a world of a graph, and those that it exports, are over types of the graph.
use Rattle.std.proofs.Common.{◌≡◌, ℕ, ◌<◌, List, [], ◌∷◌, ◌++◌, inl, inr, Option, Some, None, String, map, length, refl, sym, subst, arith}
use Rattle.std.proofs.lemmas.Option.{slice_get_within}
use Rattle.std.specs.Prelude.{slice_get, filter, flat_map, option_to_list}
use Rattle.std.specs.declared.alloc.Global.{Global}
use Rattle.wit_order.specs.Order.{Has}
use Rattle.wit_types.specs.declared.function.Function.{Function}
use Rattle.wit_types.specs.declared.interface.Interface.{Interface}
use Rattle.wit_types.specs.declared.interface.TypeDef.{TypeDef}
use Rattle.wit_types.specs.declared.world.World.{World}
use Rattle.wit_types.specs.declared.world.WorldItem.{WorldItem}
use Rattle.wit_types.specs.declared.world.WorldItem.TheVariants as item
use Rattle.wit_types.specs.declared.world_key.WorldKey.{WorldKey}
use Rattle.wit_types.specs.declared.«package».Package.{Package}
use Rattle.wit_reach.specs.Ids.{function_ids, item_ids, side_ids}
use Rattle.wit_reach.specs.Types.{AreTypesBackward, AreTypesThere, AreSidesThere}
use Rattle.wit_reach.proofs.Holding.{mapped_has, flat_has}
use Rattle.wit_names.specs.Names.{ArePackagesKnown}
use Rattle.wit_core_names.specs.Items.{CoreImport}
use Rattle.wit_core_names.specs.Texts.{Known}
use Rattle.wit_core_names.specs.declared.items.ResourceIntrinsic.TheVariants.{ImportedDrop}
use Rattle.wit_core_items.specs.World.{resources, functions_of, drops_of, of_imported_interface, of_import, intrinsics_of, of_exported_interface, of_exported, core_imports, is_resource}
use Rattle.wit_elaborated.specs.Staying.{ElaboratedWorldsAreThere}
use Rattle.linked_interfaces.specs.Passed.wit_placed-There.{IsInterfaceThere}
use Rattle.right_components.specs.Passed.core_links-Names.{Names}
use Rattle.linked_types.proofs.Walks.{has_at}
use Rattle.right_components.specs.Passed.link_table-Linking.{exported_functions, function_at}
use Rattle.wit_graph.specs.Graph.{AreWhole}
use Rattle.wit_graph.specs.declared.tables.Tables.{Tables}
use Rattle.wit_graph.proofs.Depending.{world_there}
use Rattle.linked_worlds.specs.Linked.{AreNamesOf, FunctionsAreThere}

-- ---- what holds of all in a list

pub all_parts : {X : Type 0} (P : X → Type 0) (xs ys : List X) → ((x : X) → Has xs x → P x) → ((x : X) → Has ys x → P x) → (x : X) → Has (xs ++ ys) x → P x
all_parts P [] ys a b x h = b x h
all_parts P (z ∷ xs) ys a b x (inl here) = a x (inl here)
all_parts P (z ∷ xs) ys a b x (inr later) = all_parts P xs ys (λ y g. a y (inr g)) b x later

all_mapped : {X Y : Type 0} (P : Y → Type 0) (f : X → Y) (xs : List X) → ((x : X) → Has xs x → P (f x)) → (y : Y) → Has (map f xs) y → P y
all_mapped P f [] a y h = absurd h
all_mapped P f (x ∷ xs) a y (inl here) = subst P (sym here) (a x (inl refl))
all_mapped P f (x ∷ xs) a y (inr later) = all_mapped P f xs (λ z g. a z (inr g)) y later

pub all_flat : {X Y : Type 0} (P : Y → Type 0) (f : X → List Y) (xs : List X) → ((x : X) → Has xs x → (y : Y) → Has (f x) y → P y) → (y : Y) → Has (flat_map f xs) y → P y
all_flat P f [] a y h = absurd h
all_flat P f (x ∷ xs) a y h = all_parts P (f x) (flat_map f xs) (a x (inl refl)) (all_flat P f xs (λ z g. a z (inr g))) y h

-- ---- items of a side

item_there : (types : List TypeDef) (es : List (WorldKey × WorldItem)) → AreTypesThere types (side_ids es) → (e : WorldKey × WorldItem) → Has es e → AreTypesThere types (item_ids e.1)
item_there types es there e has i h = there i (flat_has item_ids (map (λ (x : WorldKey × WorldItem). x.1) es) e.1 i (mapped_has (λ (x : WorldKey × WorldItem). x.1) es e has) h)

function_there : (types : List TypeDef) (x : WorldItem) → AreTypesThere types (item_ids x) → (f : Function) → Has (option_to_list (function_at x)) f → AreTypesThere types (function_ids f)
function_there types (item.Interface id stability span) there f h = absurd h
function_there types (item.Function g) there f (inl here) = subst (λ (z : Function). AreTypesThere types (function_ids z)) (sym here) there
function_there types (item.Function g) there f (inr none) = absurd none
function_there types (item.TypeItem id span) there f h = absurd h

exported_there : (types : List TypeDef) (w : World) → AreTypesThere types (side_ids w.exports.entries) → (f : Function) → Has (exported_functions w) f → AreTypesThere types (function_ids f)
exported_there types w there =
    all_flat (λ (f : Function). AreTypesThere types (function_ids f)) (λ (e : WorldKey × WorldItem). option_to_list (function_at e.1)) w.exports.entries (λ e has. function_there types e.1 (item_there types w.exports.entries there e has))

-- ---- what modules may import

module _ (k : Known) (interfaces_there : (d : Interface) → Has k.interfaces d → IsInterfaceThere k.types d) where
  -- if it's a function, types that it's made of are there
  abbrev IsThere : CoreImport → Type 0
  IsThere (CoreImport.func key f) = AreTypesThere k.types (function_ids f)
  IsThere (CoreImport.intrinsic key resource what) = Unit {0}

  drops_there : (key : Option WorldKey) (ids : List ℕ) (x : CoreImport) → Has (drops_of k key ids) x → IsThere x
  drops_there key ids = all_mapped IsThere (λ (r : ℕ). CoreImport.intrinsic key r ImportedDrop) ids (λ r has. tt)

  imported_interface_there : (key : WorldKey) (id : ℕ) (o : Option Interface) → slice_get k.interfaces id ≡ o → (x : CoreImport) → Has (of_imported_interface k key o) x → IsThere x
  imported_interface_there key id None at x h = absurd h
  imported_interface_there key id (Some d) at x h =
      all_parts IsThere (functions_of k (Some key) d.functions.entries) (drops_of k (Some key) (resources k d.types.entries))
      (all_mapped IsThere (λ (e : String Global × Function). CoreImport.func (Some key) e.1) d.functions.entries
      (λ e has. (interfaces_there d (has_at k.interfaces id d at)).functions e.1 (mapped_has (λ (z : String Global × Function). z.1) d.functions.entries e has)))
      (drops_there (Some key) (resources k d.types.entries)) x h

  imported_item_there : (key : WorldKey) (y : WorldItem) → AreTypesThere k.types (item_ids y) → (x : CoreImport) → Has (of_import k key y) x → IsThere x
  imported_item_there key (item.Interface id stability span) there x h = imported_interface_there key id (slice_get k.interfaces id) refl x h
  imported_item_there key (item.Function f) there x (inl here) = subst IsThere (sym here) there
  imported_item_there key (item.Function f) there x (inr none) = absurd none
  imported_item_there key (item.TypeItem id span) there x h = drops_there None (filter (is_resource k) (id ∷ [])) x h

  intrinsics_there : (key : WorldKey) (r : ℕ) (x : CoreImport) → Has (intrinsics_of k key r) x → IsThere x
  intrinsics_there key r x (inl here) = subst IsThere (sym here) tt
  intrinsics_there key r x (inr (inl here)) = subst IsThere (sym here) tt
  intrinsics_there key r x (inr (inr (inl here))) = subst IsThere (sym here) tt
  intrinsics_there key r x (inr (inr (inr none))) = absurd none

  exported_interface_there : (key : WorldKey) (o : Option Interface) (x : CoreImport) → Has (of_exported_interface k key o) x → IsThere x
  exported_interface_there key None x h = absurd h
  exported_interface_there key (Some d) x h = all_flat IsThere (intrinsics_of k key) (resources k d.types.entries) (λ r has. intrinsics_there key r) x h

  exported_item_there : (key : WorldKey) (y : WorldItem) (x : CoreImport) → Has (of_exported k key y) x → IsThere x
  exported_item_there key (item.Interface id stability span) x h = exported_interface_there key (slice_get k.interfaces id) x h
  exported_item_there key (item.Function f) x h = absurd h
  exported_item_there key (item.TypeItem id span) x h = absurd h

  imports_there : (w : World) → AreTypesThere k.types (side_ids w.imports.entries) → (x : CoreImport) → Has (core_imports k w) x → IsThere x
  imports_there w there =
      all_parts IsThere (flat_map (λ (e : WorldKey × WorldItem). of_import k e.0 e.1) w.imports.entries) (flat_map (λ (e : WorldKey × WorldItem). of_exported k e.0 e.1) w.exports.entries)
      (all_flat IsThere (λ (e : WorldKey × WorldItem). of_import k e.0 e.1) w.imports.entries (λ e has. imported_item_there e.0 e.1 (item_there k.types w.imports.entries there e has)))
      (all_flat IsThere (λ (e : WorldKey × WorldItem). of_exported k e.0 e.1) w.exports.entries (λ e has. exported_item_there e.0 e.1))

-- ---- names of a graph

module _ (t : Tables) (i : ℕ) (n : Names) (whole : AreWhole t) (are : AreNamesOf t i n) where
  packages_known : ArePackagesKnown n.known.packages n.known.interfaces
  packages_known =
      subst (λ (ps : List Package). ArePackagesKnown ps n.known.interfaces) (sym are.packages_are)
      (subst (λ (is : List Interface). ArePackagesKnown t.packages is) (sym are.interfaces_are) whole.owners_are)

  interfaces_there : (d : Interface) → Has n.known.interfaces d → IsInterfaceThere n.known.types d
  interfaces_there d has =
      subst (λ (ds : List TypeDef). IsInterfaceThere ds d) (sym are.types_are)
      (whole.whole.interfaces_are d (subst (λ (is : List Interface). Has is d) are.interfaces_are has))

  sides_there : ElaboratedWorldsAreThere → AreSidesThere n.known.types n.world
  sides_there law =
      let within : i < length t.worlds.elaborated = slice_get_within t.worlds.elaborated i n.world are.world_is in
      let many : length t.worlds.elaborated ≡ length t.worlds.listed = whole.whole.sound.so_many in
      let found = world_there t whole law i n.world are.world_is (omega (arith, within, many)) in
      subst (λ (ds : List TypeDef). AreSidesThere ds n.world) (sym are.types_are) found.0

pub functions_are_there : ElaboratedWorldsAreThere → FunctionsAreThere
functions_are_there law t i n whole are =
    let sides : AreSidesThere n.known.types n.world = sides_there t i n whole are law in
    record {
      packages = packages_known t i n whole are;
      backward = subst AreTypesBackward (sym are.types_are) whole.whole.sound.backward;
      there = record {
        imported = λ key f has. imports_there n.known (interfaces_there t i n whole are) n.world sides.0 (CoreImport.func key f) has;
        exported = exported_there n.known.types n.world sides.1;
      };
    }
