-- What core imports need is imported.
use Rattle.std.proofs.Common.{◌≡◌, ℕ, ◌<◌, true, List, [], ◌∷◌, ◌++◌, length, get_or, Option, Some, None, Vec, inl, inr, refl, sym, subst, ap, ◌∙◌, arith}
use Rattle.std.proofs.lemmas.List.{length-map}
use Rattle.std.proofs.lemmas.Option.{slice_get_within}
use Rattle.std.specs.Borrow.{Bor}
use Rattle.std.specs.List.{AllByRecursion as Each, flat_map}
use Rattle.std.specs.Prelude.{slice_get, string_bytes}
use Rattle.std.specs.declared.alloc.Global.{Global}
use Rattle.wit_order.specs.Order.{Has}
use Rattle.wit_order.proofs.Lists.{has_was}
use Rattle.wit_types.specs.declared.function.Function.{Function}
use Rattle.wit_types.specs.declared.interface.TypeDef.{TypeDef}
use Rattle.wit_types.specs.declared.world_key.WorldKey.{WorldKey}
use Rattle.wit_reach.specs.Ids.{function_ids}
use Rattle.wit_reach.specs.Lists.{AreOwnersThere}
use Rattle.wit_reach.specs.Needed.{AreNeeded as AreNeededTypes}
use Rattle.wit_reach.specs.Types.{AreTypesThere}
use Rattle.wit_reach.proofs.Holding.{got, has_flat}
use Rattle.wit_reach.proofs.Lists.{has_append, has_parts}
use Rattle.linked_types.proofs.Walks.{has_at}
use Rattle.wit_core_items.specs.World.{core_imports}
use Rattle.wit_core_names.specs.Items.{CoreImport}
use Rattle.type_writing.specs.Passed.type_meaning-Words.{imported}
use Rattle.type_writing.specs.Passed.type_meaning-Items.{an_instance, item_at}
use Rattle.type_writing.specs.Writing.{HasItsName, name_of, names_of_types, IsRemembered}
use Rattle.component_imports.specs.Passed.type_sinks-Kept.{index_of}
use Rattle.component_imports.specs.Passed.type_sinks-Root.{InterfaceNames, imported_names, IsHome}
use Rattle.component_imports.specs.Passed.type_sinks-Views.{entry_values, root_scope, root_names, root_setting, setting_over, interface_names, InstanceHasFunction}
use Rattle.component_imports.specs.Passed.type_sinks-declared-root-Root.{Root}
use Rattle.component_imports.proofs.Passed.type_sinks-Keeping.{each_keeps}
use Rattle.component_imports.specs.Functions.{function_names}
use Rattle.component_imports.specs.Interface.{interface_name}
use Rattle.component_imports.specs.Interfaces.{ids_of, linked_of, asked, is_needed, names_from, HasInterfaceAt, AreNeededImported}
use Rattle.component_imports.specs.World.{AreFunctionsAt, AreWorldItemsImported}
use Rattle.core_links.specs.Needed.{IsNeeded, AreLinkedNeeded}
use Rattle.right_components.specs.Passed.link_table-Linking.{Linking, types_of, exported_functions, AreFunctionsThere}
use Rattle.right_components.proofs.Passed.link_table-Pairwise.{placed}
use Rattle.linked_imports.specs.Imports.{AreNeeded, own_types}
use Rattle.linked_imports.specs.Roots.{HasImports, HoldsImports, IsThere, AreThere}
use Rattle.linked_imports.specs.declared.imports.Imported.{Imported}
use Rattle.linked_imports.proofs.Taken.{instance_keeps}

-- ---- lists

pub each_has : {X : Type 0} (P : X → Type 0) (xs : List X) (x : X) → Each P xs → Has xs x → P x
each_has P [] x all h = absurd h
each_has P (y ∷ xs) x all (inl is) = subst P (sym is) all.0
each_has P (y ∷ xs) x all (inr h) = each_has P xs x all.1 h

-- ---- types are there

pub front_there : (types : List TypeDef) (own others : List ℕ) (linked : List (List Function)) → AreTypesThere types (asked (own ++ others) linked) → AreTypesThere types own
front_there types own others linked there i h = there i (has_was (own ++ others) (flat_map ids_of linked) i (has_was own others i h))

pub others_there : (types : List TypeDef) (own others : List ℕ) (linked : List (List Function)) → AreTypesThere types (asked (own ++ others) linked) → AreTypesThere types others
others_there types own others linked there i h = there i (has_was (own ++ others) (flat_map ids_of linked) i (has_append own others i h))

module _ (l : Linking) (own : List Function) (linked : List (List Function)) (there : AreFunctionsThere l.names) (needed : AreNeeded l own linked) where
  function_there : (key : Option WorldKey) (f : Function) (i : ℕ) → IsNeeded l.names l.main.imports key f → Has (function_ids f) i → i < length (types_of l)
  function_there key f i n h = there.imported key f (has_at (core_imports l.names.known l.names.world) n.2.place (CoreImport.func key f) n.2.is) i h

  pub types_there : AreTypesThere (types_of l) (asked (own_types l own) linked)
  types_there i h = elim (has_parts (own_types l own) (flat_map ids_of linked) i h) as (λ _. i < length (types_of l)) [
    | inl first ↦ elim (has_parts (ids_of own) (ids_of (exported_functions l.names.world)) i first) as (λ _. i < length (types_of l)) [
      | inl mine ↦ (let f = has_flat function_ids own i mine in function_there None f.0 i (needed.own_are.each f.0 f.1) f.2)
      | inr given ↦ (let f = has_flat function_ids (exported_functions l.names.world) i given in there.exported f.0 f.1 i f.2)
    ]
    | inr second ↦
        (let fs = has_flat ids_of linked i second in
        let f = has_flat function_ids fs.0 i fs.2 in
        let p = placed linked fs.0 fs.1 in
        let k = needed.linked_are.each p.0 fs.0 f.0 p.1 f.1 in
        function_there (Some k.0) f.0 i k.2 f.2)
  ]

pub owners_there : (l : Linking) (vs : List (Vec (Bor Function) Global)) → AreLinkedNeeded l.names l.main.imports (linked_of vs) → AreOwnersThere (length l.names.known.interfaces) (types_of l) → AreOwnersThere (length vs) (types_of l)
owners_there l vs needed owners i j d at is =
    let lt = owners i j d at is in
    let size = needed.so_many in
    let count : length (linked_of vs) ≡ length vs = length-map vs _ in
    omega (arith, lt, size, count)

-- ---- interfaces stay

pub interface_keeps : (old new : Root) (types : List TypeDef) (instances : List (Option ℕ)) (i : ℕ) (ids : List ℕ) (fs : List Function) → interface_names new ≡ interface_names old → (root_scope new).instances ≡ (root_scope old).instances
    → HasInterfaceAt old types instances i ids fs → HasInterfaceAt new types instances i ids fs
interface_keeps old new types instances i ids fs names same (h, at) =
    let k = h.instance in
    let home : (id : ℕ) → IsHome (interface_names old) types (root_scope old).instances id k → IsHome (interface_names new) types (root_scope new).instances id k =
    λ id was. subst (λ n. IsHome n types (root_scope new).instances id k) (sym names) (subst (λ m. IsHome (interface_names old) types m id k) (sym same) was) in (
      record {
        instance = k;
        items = record {
          items = h.items.items;
          is = ap (λ m. item_at m k) same ∙ h.items.is ∙ ap (λ (ns : InterfaceNames). an_instance (imported (get_or ns i [])) h.items.items) (sym names);
          named = h.items.named;
        };
        homes = each_keeps (HasItsName (setting_over old i) types (λ id. IsHome (interface_names old) types (root_scope old).instances id k)) (HasItsName (setting_over new i) types (λ id. IsHome (interface_names new) types (root_scope new).instances id k)) ids
            (λ id g d x there named its. home id (g d x there named its)) h.homes;
        has = each_keeps (λ f. InstanceHasFunction old k (imported (interface_name old i)) types (string_bytes f.name) f.params.items f.result) (λ f. InstanceHasFunction new k (imported (interface_name new i)) types (string_bytes f.name) f.params.items f.result) fs
            (λ f g. instance_keeps old new types k i f names same g) h.has;
      },
      at,
    )

-- ---- names

pub bare_names : (r : Root) → entry_values r ≡ [] → root_names r ≡ []
unfolding imported_names
bare_names r e = ap imported_names e

-- the world's own names are its own at each root
pub world_names : (a b : Root) (types : List TypeDef) (ids : List ℕ) → names_of_types (root_setting a) types ids ≡ names_of_types (root_setting b) types ids
world_names a b types [] = refl
world_names a b types (id ∷ ids) = (λ i. one (slice_get types id) i ++ world_names a b types ids i)
  where
    one : (x : Option TypeDef) → name_of (root_setting a) x ≡ name_of (root_setting b) x
    one None = refl
    one (Some d) = refl

pub interface_name_same : (old new : Root) → interface_names new ≡ interface_names old → interface_name old ≡ interface_name new
interface_name_same old new e = let of : InterfaceNames → ℕ → List ℕ = λ ns i. get_or ns i [] in ap of (sym e)

-- ---- all is imported

module _ (start mid last : Root) (types : List TypeDef) (world : ℕ) (instances : List (Option ℕ)) (others ids : List ℕ) (own : List Function) (linked : List (List Function))
    (bare : root_names start ≡ []) (are : ids ≡ ids_of own ++ others) (first : AreNeededImported start mid types instances ids linked) (second : AreWorldItemsImported mid last types world others own) where
  pub all_imported : (index : ℕ) → index ≡ length (root_scope mid).functions → HasImports last types world instances index others own linked
  all_imported index at = record {
    good = second.good;
    needed = first.needed;
    needed_are = subst (λ (l : List ℕ). AreNeededTypes (length linked) types (asked l linked) first.needed) are first.are;
    has_interfaces = λ i js fs a b is. interface_keeps mid last types instances i js fs second.interfaces second.instances_stay (first.imported.has i js fs a b is);
    ids = second.ids;
    ids_are = second.are;
    has_types = λ id h. (let r = second.remembered id h in (r.0, second.good.ids id r.0 r.1));
    has_functions = subst (λ (n : ℕ). AreFunctionsAt last n types own) (sym at) second.has;
    names = second.names ∙ ap (λ l. l ++ (names_of_types (root_setting mid) types second.ids ++ function_names own)) (first.imported.names ∙ ap (λ l. l ++ names_from (interface_name start) 0 first.needed linked) bare)
        ∙ ap (λ (name : ℕ → List ℕ). names_from name 0 first.needed linked ++ (names_of_types (root_setting mid) types second.ids ++ function_names own)) (interface_name_same start last (second.interfaces ∙ first.imported.stays.interfaces))
        ∙ ap (λ l. names_from (interface_name last) 0 first.needed linked ++ (l ++ function_names own)) (world_names mid last types second.ids);
  }

  pub others_remembered : (id : ℕ) → Has others id → IsRemembered (index_of last.known) id
  others_remembered id h = second.remembered id (second.are.all id id (has_was others (ids_of own) id h) ([], refl))

-- ---- then functions may be taken

needed_by : (ids : List ℕ) (fs : List Function) (f : Function) → Has fs f → is_needed ids fs ≡ true
needed_by ids [] f h = absurd h
needed_by [] (g ∷ fs) f h = refl
needed_by (i ∷ ids) (g ∷ fs) f h = refl

linked_there : (i : Imported) (types : List TypeDef) (world : ℕ) (others : List ℕ) (own : List Function) (linked : List (List Function)) (id : ℕ) (fs : List Function) (f : Function)
    → HasImports i.root types world i.instances.items i.first others own linked → slice_get linked id ≡ Some fs → Has fs f → IsThere i types (Some id) f
linked_there i types world others own linked id fs f has at h =
    let lt = slice_get_within linked id fs at in
    let size = has.needed_are.size in
    let ids = got has.needed id (omega (arith, lt, size)) in
    let there = has.has_interfaces id ids.0 fs ids.1 at (needed_by ids.0 fs f h) in
    (there.0.instance, there.1, each_has (λ g. InstanceHasFunction i.root there.0.instance (imported (interface_name i.root id)) types (string_bytes g.name) g.params.items g.result) fs f there.0.has h)

pub all_may_be_taken : (l : Linking) (i : Imported) (names : InterfaceNames) (world : ℕ) (others : List ℕ) (own : List Function) (linked : List (List Function)) → AreNeeded l own linked → HoldsImports i names (types_of l) world others own linked → AreThere l i
all_may_be_taken l i names world others own linked needed held None f None n is = (own, needed.own_are.all f n, held.own_names, held.has.has_functions)
all_may_be_taken l i names world others own linked needed held None f (Some id) n is = absurd is
all_may_be_taken l i names world others own linked needed held (Some key) f None n is = absurd is
all_may_be_taken l i names world others own linked needed held (Some key) f (Some id) n is =
    let r = needed.linked_are.all key f n in
    let same : r.0 ≡ id = is.1 r.0 r.2 in
    linked_there i (types_of l) world others own linked id r.1 f held.has (ap (slice_get linked) (sym same) ∙ r.3) r.4
