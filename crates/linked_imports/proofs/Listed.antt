-- All that is imported is listed by the world.
use Rattle.std.proofs.Common.{◌≡◌, ℕ, ◌+◌, true, false, List, [], ◌∷◌, ◌++◌, length, Option, Some, None, String, inl, inr, refl, sym, subst, ap, ◌∙◌, arith, zero-add}
use Rattle.std.proofs.lemmas.Bool.{eq-eqb}
use Rattle.std.proofs.lemmas.Option.{same_Some, slice_get_within}
use Rattle.std.specs.List.{AllByRecursion as Each}
use Rattle.std.specs.Prelude.{slice_get, option_to_list, string_bytes}
use Rattle.std.specs.declared.alloc.Global.{Global}
use Rattle.component_value_types.specs.declared.values.ValueType.TheVariants.{Index}
use Rattle.wit_order.specs.Order.{Has}
use Rattle.wit_order.proofs.Lists.{has_was}
use Rattle.wit_types.specs.declared.function.Function.{Function}
use Rattle.wit_types.specs.declared.interface.Interface.{Interface}
use Rattle.wit_types.specs.declared.interface.TypeDef.{TypeDef}
use Rattle.wit_types.specs.declared.interface.TypeOwner.{TypeOwner}
use Rattle.wit_types.specs.declared.interface.TypeOwner.TheVariants as belongs
use Rattle.wit_types.specs.declared.kind.«Type».{«Type» as Ref}
use Rattle.wit_types.specs.declared.kind.«Type».TheVariants.{Id}
use Rattle.wit_types.specs.declared.world.WorldItem.{WorldItem}
use Rattle.wit_types.specs.declared.world.WorldItem.TheVariants as item
use Rattle.wit_types.specs.declared.world_key.WorldKey.{WorldKey}
use Rattle.wit_reach.specs.Deps.{interface_of}
use Rattle.wit_reach.specs.Lists.{AreOwnersThere}
use Rattle.wit_reach.specs.Made.{IsMadeOfWithin}
use Rattle.wit_reach.specs.Needed.{BelongsTo}
use Rattle.wit_reach.specs.Paths.{AreEnds}
use Rattle.wit_reach.proofs.Holding.{got, mapped_has}
use Rattle.wit_reach.proofs.Lists.{has_append, has_parts}
use Rattle.wit_core_items.specs.Places.{own_function}
use Rattle.type_writing.specs.Passed.type_meaning-Tree.{named}
use Rattle.type_writing.specs.Passed.type_meaning-Words.{root_import, imported, Label, BinaryTree}
use Rattle.type_writing.specs.Passed.type_meaning-Items.{from_import, Item, Items, a_type, a_function, an_instance, item_named, Entry}
use Rattle.type_writing.specs.Passed.type_meaning-Scope.{import_label}
use Rattle.type_writing.specs.Unfolding.{OwnName, WitTree, under_name, Unfolds, unfolds_primitive, unfolds_type, primitive_of}
use Rattle.type_writing.specs.Writing.{written, HasItsName, names_of_types}
use Rattle.type_writing.proofs.Standing.{stands_keeps, value_inside}
use Rattle.component_imports.specs.Passed.type_sinks-Imports.{entries_of}
use Rattle.component_imports.specs.Passed.type_sinks-Inside.{is_of}
use Rattle.component_imports.specs.Passed.type_sinks-Root.{InterfaceNames, site_of, root_label, is_of_world, IsHome}
use Rattle.component_imports.specs.Passed.type_sinks-Views.{entry_values, root_scope, root_names, root_setting, setting_over, interface_names, InstanceHasFunction}
use Rattle.component_imports.specs.Passed.type_sinks-declared-root-Root.{Root}
use Rattle.component_imports.proofs.Passed.type_sinks-Names.{entries_apart, items_found}
use Rattle.component_imports.proofs.Passed.type_sinks-RootImports.{imports_named}
use Rattle.component_imports.specs.Functions.{function_names}
use Rattle.component_imports.specs.Interface.{interface_name}
use Rattle.component_imports.specs.Interfaces.{ids_of, is_needed, names_from, owned_names, HasInterface}
use Rattle.component_imports.specs.Ready.{IsInterfaceAsked}
use Rattle.component_imports.proofs.Needing.{some_needed}
use Rattle.component_imports.proofs.Worldly.{functions_at_stay}
use Rattle.core_links.specs.Needed.{own_functions, functions_of}
use Rattle.right_components.specs.Passed.link_table-Linking.{Linking, types_of, exported_functions}
use Rattle.right_components.proofs.Passed.link_table-Pairwise.{placed}
use Rattle.right_components.specs.Needed.{IsFunctionNeeded, IsTypeNeeded}
use Rattle.right_components.specs.Outside.{AreKeyTexts, IsFunction, IsType, IsOfInterface, its_function as function_inside, its_type as type_inside, IsListed, an_interface, its_function, its_type, AreTypesHeld}
use Rattle.linked_imports.specs.Imports.{AreNeeded, own_types, AreListed, AreNamed, AreImportsListed}
use Rattle.linked_imports.specs.Roots.{HasImports, HoldsImports, Keeps}
use Rattle.linked_imports.specs.declared.imports.Imported.{Imported}
use Rattle.linked_imports.proofs.Names.{each_from, has_split, has_mapped, part_has, has_item_name, IsNameOfOne, type_name, own_type_name, owner_is}
use Rattle.linked_imports.proofs.Needed.{each_has, interface_keeps, interface_name_same, world_names}
use Rattle.linked_imports.proofs.Order.{ids_needed, names_needed, IsNeededFrom, needed_by_name, needed_rise, seen_is_needed, type_needed, interface_needed, row_needed, each_needed, all_needed, linked_needed}
use Rattle.linked_imports.proofs.Taken.{function_at_place}

-- ---- what is imported stays

pub imports_keep : (old new : Root) (types : List TypeDef) (world : ℕ) (instances : List (Option ℕ)) (first : ℕ) (others : List ℕ) (own : List Function) (linked : List (List Function)) → Keeps old new types
    → HasImports old types world instances first others own linked → HasImports new types world instances first others own linked
imports_keep old new types world instances first others own linked t h =
    let label : InterfaceNames → OwnName → Label = λ ns. root_label ns in
    record {
      good = t.good;
      needed = h.needed;
      needed_are = h.needed_are;
      has_interfaces = λ i ids fs a b is. interface_keeps old new types instances i ids fs t.interfaces t.instances_stay (h.has_interfaces i ids fs a b is);
      ids = h.ids;
      ids_are = h.ids_are;
      has_types = λ id among. (let r = h.has_types id among in
          (r.0, stands_keeps (root_label (interface_names old)) (root_label (interface_names new)) types (root_scope old).types (root_scope new).types (Id id) (Index r.0) (ap label t.interfaces) t.types_stay r.1));
      has_functions = functions_at_stay old new first types own t.interfaces t.functions_stay h.has_functions;
      names = t.names ∙ h.names ∙ ap (λ (name : ℕ → List ℕ). names_from name 0 h.needed linked ++ (names_of_types (root_setting old) types h.ids ++ function_names own)) (interface_name_same old new t.interfaces)
          ∙ ap (λ l. names_from (interface_name new) 0 h.needed linked ++ (l ++ function_names own)) (world_names old new types h.ids);
    }

-- ---- trees of types

unfolded : (types : List TypeDef) (r : Ref) (t : WitTree) (id : ℕ) (d : TypeDef) (x : String Global) → Unfolds types r t → r ≡ Id id → slice_get types id ≡ Some d → d.name ≡ Some x → (u : WitTree) × (t ≡ named (record { owner = d.owner; name = string_bytes x }) u)
unfolded types r t id d x (unfolds_primitive s k h) is at name = absurd (let none : None ≡ Some k = sym (ap primitive_of is) ∙ h in cc)
unfolded types r t id d x (unfolds_type i e u there k) is at name =
    let same : i ≡ id = cc in
    let defs : e ≡ d = same_Some e d (sym there ∙ ap (slice_get types) same ∙ at) in
    (u, ap (λ (f : TypeDef). under_name f.owner f.name u) defs ∙ ap (λ (n : Option (String Global)). under_name d.owner n u) name)

own_site : (names : InterfaceNames) (o : TypeOwner) → is_of_world o ≡ true → site_of names o ≡ root_import
own_site names (belongs.World w) h = refl
own_site names (belongs.Interface i) h = absurd cc
own_site names belongs.None h = refl

no_interface : (o : TypeOwner) (j : ℕ) → is_of_world o ≡ true → o ≡ belongs.Interface j → ⊥
no_interface o j own is = absurd (let bad : true ≡ false = sym own ∙ ap is_of_world is in cc)

-- ---- entries of the world

own_item : (i : WorldItem) (f : Function) → own_function i ≡ Some f → i ≡ item.Function f
own_item (item.Interface id stability span) f h = absurd cc
own_item (item.Function g) f h = ap (λ (x : Function). item.Function x) (same_Some g f h)
own_item (item.TypeItem id span) f h = absurd cc

own_entry : (es : List (WorldKey × WorldItem)) (f : Function) → Has (own_functions es) f → (key : WorldKey) × Has es (key, item.Function f)
own_entry [] f h = absurd h
own_entry (e ∷ es) f h = elim (has_split (option_to_list (own_function e.1)) (own_functions es) f h) as (λ _. (key : WorldKey) × Has (e ∷ es) (key, item.Function f)) [
  | inl here ↦ (e.0, inl (ap (λ (i : WorldItem). (e.0, i)) (sym (own_item e.1 f (one (own_function e.1) here)))))
  | inr later ↦ (let r = own_entry es f later in (r.0, inr r.1))
]
  where
    one : (o : Option Function) → Has (option_to_list o) f → o ≡ Some f
    one None k = absurd k
    one (Some g) (inl is) = ap (λ (x : Function). Some x) (sym is)
    one (Some g) (inr k) = absurd k

-- ---- what is imported, name by name

-- the others are the types of functions that the world exports
module _ (l : Linking) (world : ℕ) (r : Root) (instances : List (Option ℕ)) (first : ℕ) (own : List Function) (linked : List (List Function)) (has : HasImports r (types_of l) world instances first (ids_of (exported_functions l.names.world)) own linked)
    (needed : AreNeeded l own linked) (all : AreListed l world own linked) (called : AreNamed l.names) (under : AreKeyTexts l.names (interface_names r)) where
  abbrev names : InterfaceNames
  names = interface_names r

  abbrev types : List TypeDef
  types = types_of l

  abbrev imports : List Entry
  imports = (root_scope r).imports

  abbrev IsOne : List ℕ → Type 0
  IsOne n = (a : Entry) × Has imports a × (a.name ≡ n) × IsListed l names a

  -- ---- functions

  function_listed : (f : Function) → Has own f → IsOne (string_bytes f.name)
  function_listed f h =
      let p = placed own f h in
      let at = function_at_place r first types own p.0 f has.has_functions p.1 in
      let tree = written (root_label names) at.tree in
      let n = string_bytes f.name in
      let e = own_entry l.names.world.imports.entries f (part_has own (own_functions l.names.world.imports.entries) f needed.own_are.part h) in
      (record { name = n; item = a_function (from_import (import_label n)) tree }, has.good.imports.functions (first + p.0) n tree at.is, refl, its_function e.0 f e.1 (needed.own_are.each f h) refl (record { tree = at.tree; unfolds = at.unfolds; binary = tree; is = refl; same = refl }))

  -- ---- types of the world

  ends_are : AreEnds (IsMadeOfWithin (belongs.World world) types) (Has (own_types l own)) has.ids
  ends_are =
      let given = ids_of (exported_functions l.names.world) in
      let swap : (xs ys : List ℕ) (i : ℕ) → Has (xs ++ ys) i → Has (ys ++ xs) i = λ xs ys i h.
      elim (has_parts xs ys i h) as (λ _. Has (ys ++ xs) i) [ inl a ↦ has_append ys xs i a | inr b ↦ has_was ys xs i b ] in
      record {
        all = λ i s start reaches. has.ids_are.all i s (swap (ids_of own) given s start) reaches;
        only = λ i h. (let k = has.ids_are.only i h in (k.0, swap given (ids_of own) k.0 k.1, k.2));
        rising = has.ids_are.rising;
      }

  type_listed : (n : List ℕ) → IsNameOfOne types has.ids is_of_world n → IsOne n
  type_listed n one =
      let there = has.has_types one.id one.among in
      let stands = there.1 in
      let at = value_inside (root_scope r).types there.0 (written (root_label names) stands.0) stands.2 in
      let u = unfolded types (Id one.id) stands.0 one.id one.def one.name stands.1 refl one.there one.named in
      let x = string_bytes one.name in
      let tree = written (root_label names) stands.0 in
      let body = written (root_label names) u.0 in
      let label : root_label names (record { owner = one.def.owner; name = x }) ≡ import_label x = ap (λ s. record { site = s; name = x }) (own_site names one.def.owner one.its) in
      let is : tree ≡ named (import_label x) body = ap (written (root_label names)) u.1 ∙ ap (λ (k : Label). named k body) label in
      let entry : BinaryTree → Entry = λ t. record { name = x; item = a_type t } in
      let imported_there = has.good.imports.types there.0 x body (at.0 ∙ ap (λ (t : BinaryTree). a_type t) is) in
      let e = all.types has.ids one.id one.def x ends_are one.among one.there (one.def, one.name, one.there, one.named, refl) (λ j. no_interface one.def.owner j one.its) in (
        entry tree,
        subst (λ (t : BinaryTree). Has imports (entry t)) (sym is) imported_there,
        sym one.is,
        its_type e.0 one.id e.1 e.2 (let from = ends_are.only one.id one.among in seen_is_needed l own linked needed (belongs.World world) from.0 one.id from.1 from.2) (one.def, one.name, one.there, one.named, refl) (record { tree = stands.0; unfolds = stands.1; binary = tree; is = refl; same = refl }),
      )

  -- ---- interfaces

  asked_of : (i : ℕ) (ids : List ℕ) (fs : List Function) → slice_get has.needed i ≡ Some ids → slice_get linked i ≡ Some fs → is_needed ids fs ≡ true → IsInterfaceAsked types (own_types l own) linked i
  asked_of i [] [] a b is = absurd cc
  asked_of i [] (f ∷ fs) a b is = inr (f ∷ fs, f, b, inl refl)
  asked_of i (j ∷ ids) fs a b is = let k = (has.needed_are.needed i (j ∷ ids) a j).0 (inl refl) in inl (j, k.0, k.1)

  module _ (i : ℕ) (ids : List ℕ) (fs : List Function) (needed_at : slice_get has.needed i ≡ Some ids) (linked_at : slice_get linked i ≡ Some fs) (h : HasInterface r types i ids fs) (d : Interface) (d_at : slice_get l.names.known.interfaces i ≡ Some d) where
    abbrev items : Items
    items = h.items.items

    abbrev name : List ℕ
    name = interface_name r i

    function_is : (x : Entry) (f : Function) → item_named x.name items ≡ x.item → x.name ≡ string_bytes f.name → Has fs f → IsOfInterface l names (imported name) i d x
    function_is x f found is among =
        let at = each_has (λ g. InstanceHasFunction r h.instance (imported name) types (string_bytes g.name) g.params.items g.result) fs f h.has among in
        let same_instance : an_instance (imported name) at.items ≡ an_instance (imported name) items = sym at.is ∙ h.items.is in
        let same : at.items ≡ items = cc in
        let tree = written (root_label names) at.tree in
        let item : List ℕ → Item = λ n. a_function (from_import (record { site = imported name; name = n })) tree in
        let there = has_mapped (λ (e : String Global × Function). e.1) d.functions.entries f (part_has fs (functions_of d) f (needed.linked_are.part i d fs d_at linked_at) among) in
        let key : x.name ≡ string_bytes there.0.0 = is ∙ ap (λ (g : Function). string_bytes g.name) there.2 ∙ sym (called.functions i d there.0 d_at there.1) in
        let of : x.item ≡ item x.name = sym found ∙ ap (λ n. item_named n items) is ∙ ap (item_named (string_bytes f.name)) (sym same) ∙ at.has ∙ ap item (sym is) in
        let its : IsFunction types names f (from_import (record { site = imported name; name = x.name })) x.item = record { tree = at.tree; unfolds = at.unfolds; binary = tree; is = of; same = refl } in
        function_inside there.0 there.1 (subst (IsFunctionNeeded l i) there.2 (needed.linked_are.each i fs f linked_at among)) key (subst (λ (g : Function). IsFunction types names g (from_import (record { site = imported name; name = x.name })) x.item) there.2 its)

    type_is : (x : Entry) → item_named x.name items ≡ x.item → IsNameOfOne types ids (is_of i) x.name → IsOfInterface l names (imported name) i d x
    type_is x found one =
        let home = each_has (HasItsName (setting_over r i) types (λ id. IsHome names types (root_scope r).instances id h.instance)) ids one.id h.homes one.among one.def one.name one.there one.named one.its in
        let same_instance : an_instance home.site home.items ≡ an_instance (imported name) items = sym home.is ∙ h.items.is in
        let same : home.items ≡ items = cc in
        let defs : home.def ≡ one.def = same_Some home.def one.def (sym home.there ∙ one.there) in
        let texts : string_bytes home.name ≡ string_bytes one.name = ap string_bytes (same_Some home.name one.name (sym home.named ∙ ap (λ (e : TypeDef). e.name) defs ∙ one.named)) in
        let tree = written (root_label names) home.tree in
        let of : x.item ≡ a_type tree = sym found ∙ ap (λ n. item_named n items) (one.is ∙ sym texts) ∙ ap (item_named (string_bytes home.name)) (sym same) ∙ home.has in
        let owner = owner_is i one.def.owner one.its in
        let belongs_there : BelongsTo types one.id (0 + i) = (one.def, one.there, ap interface_of owner ∙ ap (λ (j : ℕ). Some j) (sym (zero-add i))) in
        let there = has_mapped (λ (e : String Global × ℕ). e.1) d.types.entries one.id (called.all_types one.id i d d_at belongs_there) in
        let listed_as = called.types i d there.0 d_at there.1 in
        let defs_too : listed_as.type_def ≡ one.def = same_Some listed_as.type_def one.def (sym listed_as.there ∙ ap (slice_get types) (sym there.2) ∙ one.there) in
        let texts_too : listed_as.own_name ≡ one.name = same_Some listed_as.own_name one.name (sym listed_as.named ∙ ap (λ (e : TypeDef). e.name) defs_too ∙ one.named) in
        let key : x.name ≡ string_bytes there.0.0 = one.is ∙ ap string_bytes (sym texts_too) ∙ listed_as.is in
        let its : IsType types names one.id x.item = record { tree = home.tree; unfolds = home.unfolds; binary = tree; is = of; same = refl } in
        type_inside there.0 there.1 (subst (IsTypeNeeded l) there.2 (type_needed l own linked needed has.needed has.needed_are i one.id ids needed_at one.among)) key (subst (λ (id : ℕ). IsType types names id x.item) there.2 its)

    item_listed : (x : Entry) → Has (entries_of items) x → IsOfInterface l names (imported name) i d x
    item_listed x among =
        let distinct = (has.good.imports.instances h.instance (imported name) items h.items.is).distinct in
        let found = items_found items x distinct among in
        let n = subst (λ (ns : List (List ℕ)). Has ns x.name) h.items.named (has_item_name items x among) in
        elim (has_split (owned_names i types ids) (function_names fs) x.name n) as (λ _. IsOfInterface l names (imported name) i d x) [
          | inl of_type ↦ type_is x found (own_type_name i types ids x.name of_type)
          | inr of_function ↦ (let f = has_mapped (λ (g : Function). string_bytes g.name) fs x.name of_function in function_is x f.0 found f.2 f.1)
        ]

    inside_listed : Each (IsOfInterface l names (imported name) i d) (entries_of items)
    inside_listed = each_from (IsOfInterface l names (imported name) i d) (entries_of items) item_listed

  interface_listed : (n : List ℕ) (id : ℕ) → IsNeededFrom 0 has.needed linked id → n ≡ interface_name r id → IsOne n
  interface_listed n id one called_so =
      let i = one.index in
      let at = has.has_interfaces i one.ids one.fs one.needed_there one.linked_there one.counts in
      let h = at.0 in
      let name = interface_name r i in
      let made = has.good.imports.instances h.instance (imported name) h.items.items h.items.is in
      let sites : imported name ≡ imported made.name = made.at in
      let same : name ≡ made.name = cc in
      let entry : List ℕ → Entry = λ m. record { name = m; item = an_instance (imported name) h.items.items } in
      let lt = slice_get_within linked i one.fs one.linked_there in
      let size = needed.linked_are.so_many in
      let d = got l.names.known.interfaces i (omega (arith, lt, size)) in
      let key = all.interfaces i (asked_of i one.ids one.fs one.needed_there one.linked_there one.counts) in
      let text = called.keys key.0 i key.1 in
      let its = under i text.0 (record { key = key.0; is_key = key.1; is = text.1 }) in (
        entry name,
        subst (λ (m : List ℕ). Has imports (entry m)) (sym same) made.has,
        sym (called_so ∙ ap (interface_name r) (one.is ∙ zero-add i)),
        an_interface its.key i its.is_key.0 its.is_key.1 d.0 h.items.items its.is_key.2 d.1 (interface_needed l own linked needed has.needed has.needed_are i one.ids one.fs one.needed_there one.linked_there one.counts) its.is refl (inside_listed i one.ids one.fs one.needed_there one.linked_there h d.0 d.1),
      )

  -- a type of an interface that is needed is there, where its owner is
  type_held : AreOwnersThere (length l.names.known.interfaces) types → AreTypesHeld l names imports
  type_held owners id i d x at owner called_so needed_is =
      let below = owners id i d at (ap interface_of owner) in
      let many = needed.linked_are.so_many in
      let size = has.needed_are.size in
      let row = got has.needed i (omega (arith, below, many, size)) in
      let fs = got linked i (omega (arith, below, many)) in
      let here = row_needed l own linked needed has.needed has.needed_are i id row.0 row.1 (d, at, ap interface_of owner) needed_is in
      let h = (has.has_interfaces i row.0 fs.0 row.1 fs.1 (some_needed row.0 fs.0 id here)).0 in
      let name = interface_name r i in
      let home = each_has (HasItsName (setting_over r i) types (λ k. IsHome names types (root_scope r).instances k h.instance)) row.0 id h.homes here d x at called_so (ap (is_of i) owner ∙ eq-eqb i i refl) in
      let made = has.good.imports.instances h.instance (imported name) h.items.items h.items.is in
      let sites : imported name ≡ imported made.name = made.at in
      let same : name ≡ made.name = cc in
      let same_instance : an_instance home.site home.items ≡ an_instance (imported name) h.items.items = sym home.is ∙ h.items.is in
      let same_items : home.items ≡ h.items.items = cc in
      let defs : home.def ≡ d = same_Some home.def d (sym home.there ∙ at) in
      let texts : string_bytes home.name ≡ string_bytes x = ap string_bytes (same_Some home.name x (sym home.named ∙ ap (λ (e : TypeDef). e.name) defs ∙ called_so)) in
      let tree = written (root_label names) home.tree in
      let of : item_named (string_bytes x) h.items.items ≡ a_type tree = ap (λ n. item_named n h.items.items) (sym texts) ∙ ap (item_named (string_bytes home.name)) (sym same_items) ∙ home.has in
      let entry : List ℕ → Entry = λ m. record { name = m; item = an_instance (imported name) h.items.items } in
      record {
        entry = entry name;
        there = subst (λ (m : List ℕ). Has imports (entry m)) (sym same) made.has;
        named = refl;
        items = h.items.items;
        is = refl;
        type_is = record { tree = home.tree; unfolds = home.unfolds; binary = tree; is = of; same = refl };
      }

  -- ---- all

  named_listed : (n : List ℕ) → Has (root_names r) n → IsOne n
  named_listed n h = elim (has_split (names_from (interface_name r) 0 has.needed linked) (names_of_types (root_setting r) types has.ids ++ function_names own) n (subst (λ (ns : List (List ℕ)). Has ns n) has.names h)) as (λ _. IsOne n) [
    | inl of_interface ↦ (let one = needed_by_name (interface_name r) has.needed linked n of_interface in interface_listed n one.0 one.1 one.2)
    | inr others ↦ elim (has_split (names_of_types (root_setting r) types has.ids) (function_names own) n others) as (λ _. IsOne n) [
      | inl of_type ↦ type_listed n (type_name (root_setting r) types has.ids n of_type)
      | inr of_function ↦
          (let f = has_mapped (λ (g : Function). string_bytes g.name) own n of_function in
          subst IsOne (sym f.2) (function_listed f.0 f.1))
    ]
  ]

  entry_listed : (x : Entry) → Has imports x → IsListed l names x
  entry_listed x h =
      let n : Has (root_names r) x.name = subst (λ (ns : List (List ℕ)). Has ns x.name) (sym (imports_named (entry_values r))) (mapped_has (λ (e : Entry). e.name) imports x h) in
      let a = named_listed x.name n in
      subst (IsListed l names) (entries_apart imports a.0 x has.good.imports.distinct a.1 h a.2) a.3

  pub all_listed : AreOwnersThere (length l.names.known.interfaces) types → AreImportsListed l names (root_scope r)
  all_listed owners = record {
    each = each_from (IsListed l names) imports entry_listed;
    types = type_held owners;
    order = record {
      interfaces = ids_needed 0 has.needed linked;
      others = names_of_types (root_setting r) types has.ids ++ function_names own;
      are = sym (imports_named (entry_values r)) ∙ has.names ∙ ap (λ ns. ns ++ (names_of_types (root_setting r) types has.ids ++ function_names own)) (sym (names_needed (interface_name r) 0 has.needed linked));
      rising = needed_rise 0 has.needed linked;
      each = each_needed l own linked needed has.needed has.needed_are;
      all = all_needed l own linked needed has.needed has.needed_are owners;
      linked = linked_needed l own linked needed has.needed has.needed_are;
    };
  }

pub imports_listed : (l : Linking) (world : ℕ) (names : InterfaceNames) (i : Imported) (r : Root) (others : List ℕ) (own : List Function) (linked : List (List Function)) → HoldsImports i names (types_of l) world others own linked
    → others ≡ ids_of (exported_functions l.names.world) → Keeps i.root r (types_of l) → AreNeeded l own linked → AreListed l world own linked → AreNamed l.names → AreKeyTexts l.names names
    → AreOwnersThere (length l.names.known.interfaces) (types_of l) → AreImportsListed l names (root_scope r)
imports_listed l world names i r others own linked held are keeps needed all called under owners =
    let given = ids_of (exported_functions l.names.world) in
    let before = subst (λ (ids : List ℕ). HasImports i.root (types_of l) world i.instances.items i.first ids own linked) are held.has in
    let has = imports_keep i.root r (types_of l) world i.instances.items i.first given own linked keeps before in
    let same : interface_names r ≡ names = keeps.interfaces ∙ held.interfaces in
    subst (λ (ns : InterfaceNames). AreImportsListed l ns (root_scope r)) same (all_listed l world r i.instances.items i.first own linked has needed all called (subst (AreKeyTexts l.names) (sym same) under) owners)
