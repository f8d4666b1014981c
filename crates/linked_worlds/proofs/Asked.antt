-- Interfaces of which something is asked for are imported by the world.
use Rattle.std.proofs.Common.{◌≡◌, ℕ, zero, suc, ◌+◌, ◌<◌, List, ◌++◌, inl, inr, Some, String, length, get_or, refl, sym, subst, ap, ◌∙◌, arith}
use Rattle.std.proofs.lemmas.Option.{same_Some, slice_get-get_or, slice_get_within}
use Rattle.std.specs.Prelude.{slice_get, map, flat_map, option_to_list, Option}
use Rattle.std.specs.declared.alloc.Global.{Global}
use Rattle.wasm_types.specs.Entries.{ImportValue}
use Rattle.wit_order.specs.Order.{Has}
use Rattle.wit_order.specs.Places.{Rows, row}
use Rattle.wit_order.proofs.Lists.{has_was}
use Rattle.wit_words.specs.declared.source_map.Span.{Span}
use Rattle.wit_types.specs.declared.function.Function.{Function}
use Rattle.wit_types.specs.declared.interface.Interface.{Interface}
use Rattle.wit_types.specs.declared.interface.TypeDef.{TypeDef}
use Rattle.wit_types.specs.declared.interface.TypeOwner.TheVariants as belongs
use Rattle.wit_types.specs.declared.world.World.{World}
use Rattle.wit_types.specs.declared.world.WorldItem.{WorldItem}
use Rattle.wit_types.specs.declared.world.WorldItem.TheVariants as item
use Rattle.wit_types.specs.declared.world_key.WorldKey.{WorldKey}
use Rattle.wit_types.specs.declared.world_key.WorldKey.TheVariants as key
use Rattle.wit_reach.specs.Deps.{AreUsed, IsInterfaceDep}
use Rattle.wit_reach.specs.Holding.{listed_types, functions_ids}
use Rattle.wit_reach.specs.Ids.{function_ids, item_ids, side_ids}
use Rattle.wit_reach.specs.Lists.{item_type, item_types, type_items}
use Rattle.wit_reach.specs.Needed.{BelongsTo}
use Rattle.wit_reach.specs.Paths.{Reaches}
use Rattle.wit_reach.specs.Types.{IsMadeOf, IsOfItem}
use Rattle.wit_reach.proofs.Holding.{has_mapped, mapped_has, has_flat, flat_has}
use Rattle.wit_reach.proofs.Lists.{has_parts}
use Rattle.wit_core_items.specs.Places.{own_function}
use Rattle.wit_graph.specs.Passed.wit_graph_parts-Interfaces.{AreRows, no_rows, rows_and}
use Rattle.wit_item_names.specs.Passed.wit_graph_worlds-Sound.{IsElaborationOf}
use Rattle.linked_interfaces.proofs.Passed.wit_placed-Members.{has_at}
use Rattle.right_components.specs.Passed.core_links-Names.{Names}
use Rattle.right_components.specs.Passed.core_links-Needed.{own_functions, IsKeyOf, AreOwnNeeded, AreLinkedNeeded}
use Rattle.right_components.specs.Passed.link_table-Linking.{function_at, exported_functions}
use Rattle.linked_types.specs.Reached.{ids_of}
use Rattle.linked_interfaces.specs.Passed.component_imports-Ready.{IsInterfaceAsked}
use Rattle.wit_graph.specs.Graph.{AreWhole}
use Rattle.wit_graph.specs.declared.tables.Tables.{Tables}
use Rattle.wit_item_names.specs.Passed.wit_uses-Uses.{TakesByUse, SeesByUse, IsOfInterface, TakeByUse}
use Rattle.wit_item_names.proofs.Passed.wit_uses-Using.{sees}
use Rattle.linked_worlds.specs.Asked.{AskedAreImported}
use Rattle.linked_worlds.specs.Linked.{AreNamesOf}
use Rattle.wit_item_names.proofs.Passed.wit_graph_worlds-Alike.{items_alike, item_alike, type_alike}
use Rattle.linked_worlds.proofs.Linked.{all_parts, all_flat}
use Rattle.linked_worlds.proofs.Listing as listing
use Rattle.linked_worlds.proofs.Needed.{part_has, needed_are_linked}
use Rattle.linked_worlds.proofs.Seeing.{world_shows, interface_shows}

-- ---- rows

row_has : (types : List TypeDef) (is : List Interface) (rs : Rows) → AreRows types is rs → (k j : ℕ) (d : Interface) → slice_get is k ≡ Some d → IsInterfaceDep types d j → Has (row rs k) j
row_has types _ _ no_rows k j d at dep = absurd cc
row_has types _ _ (rows_and x r is rs row rest) zero j d at dep = (row j).1 (subst (λ (y : Interface). IsInterfaceDep types y j) (sym (same_Some x d at)) dep)
row_has types _ _ (rows_and x r is rs row rest) (suc k) j d at dep = row_has types is rs rest k j d at dep

pub row_of : (types : List TypeDef) (is : List Interface) (rs : Rows) → AreRows types is rs → (i j : ℕ) → Has (row rs i) j → (d : Interface) × (slice_get is i ≡ Some d) × IsInterfaceDep types d j
row_of types _ _ no_rows i j h = absurd h
row_of types _ _ (rows_and d r is rs row rest) zero j h = (d, refl, (row j).0 h)
row_of types _ _ (rows_and d r is rs row rest) (suc i) j h = row_of types is rs rest i j h

-- ---- functions among items

functions_of_items : (of : WorldItem → Option Function) → ((x : WorldItem) (f : Function) → Has (option_to_list (of x)) f → x ≡ item.Function f) → (es : List (WorldKey × WorldItem)) (f : Function) (i : ℕ)
    → Has (flat_map (λ (e : WorldKey × WorldItem). option_to_list (of e.1)) es) f → Has (function_ids f) i → Has (side_ids es) i
functions_of_items of is es f i has h =
    all_flat (λ (g : Function). (j : ℕ) → Has (function_ids g) j → Has (side_ids es) j) (λ (e : WorldKey × WorldItem). option_to_list (of e.1)) es
    (λ e there g one j k. flat_has item_ids (map (λ (x : WorldKey × WorldItem). x.1) es) e.1 j (mapped_has (λ (x : WorldKey × WorldItem). x.1) es e there) (subst (λ (x : WorldItem). Has (item_ids x) j) (sym (is e.1 g one)) k)) f has i h

own_is : (x : WorldItem) (f : Function) → Has (option_to_list (own_function x)) f → x ≡ item.Function f
own_is (item.Interface id stability span) f h = absurd h
own_is (item.Function g) f (inl here) = ap (λ (z : Function). item.Function z) (sym here)
own_is (item.Function g) f (inr none) = absurd none
own_is (item.TypeItem id span) f h = absurd h

exported_is : (x : WorldItem) (f : Function) → Has (option_to_list (function_at x)) f → x ≡ item.Function f
exported_is (item.Interface id stability span) f h = absurd h
exported_is (item.Function g) f (inl here) = ap (λ (z : Function). item.Function z) (sym here)
exported_is (item.Function g) f (inr none) = absurd none
exported_is (item.TypeItem id span) f h = absurd h

-- ---- a world of a graph

module _ (t : Tables) (i : ℕ) (n : Names) (whole : AreWhole t) (are : AreNamesOf t i n) where
  pub listed : World
  listed = get_or t.worlds.listed i n.world

  pub listed_at : slice_get t.worlds.listed i ≡ Some listed
  unfolding listed
  listed_at =
      let within : i < length t.worlds.elaborated = slice_get_within t.worlds.elaborated i n.world are.world_is in
      let many : length t.worlds.elaborated ≡ length t.worlds.listed = whole.whole.sound.so_many in
      slice_get-get_or t.worlds.listed i n.world (omega (arith, within, many))

  pub is : IsElaborationOf t.types t.interfaces.all t.interfaces.uses listed n.world
  is = whole.whole.elaborated i listed n.world listed_at are.world_is

  abbrev pub Shown : ℕ → Type 0
  Shown j = listing.IsShown t.types t.interfaces.all t.interfaces.uses is.world n.world is.there.keys is.is_elaborated j

  closed : (k j : ℕ) (d : Interface) → Shown k → slice_get t.interfaces.all k ≡ Some d → IsInterfaceDep t.types d j → Shown j
  closed k j d shown at dep =
      inl (listing.shown_uses t.types t.interfaces.all t.interfaces.uses is.world n.world is.there.keys is.is_elaborated k j shown (row_has t.types t.interfaces.all t.interfaces.uses whole.whole.rows k j d at dep))

  pub types_are : item_types listed ≡ item_types is.world
  types_are =
      let imports : type_items listed.imports.entries ≡ type_items is.world.imports.entries = items_alike item_type type_alike is.world.imports.entries listed.imports.entries is.is_listed.imports in
      let exports : type_items listed.exports.entries ≡ type_items is.world.exports.entries = items_alike item_type type_alike is.world.exports.entries listed.exports.entries is.is_listed.exports in
      ap (λ (l : List ℕ). l ++ type_items listed.exports.entries) imports ∙ ap (λ (l : List ℕ). type_items is.world.imports.entries ++ l) exports

  used_shown : (j : ℕ) → AreUsed t.types (type_items listed.imports.entries) j → Shown j
  used_shown j (k, first, dep) =
      let has : Has (item_types listed) k = has_was (type_items listed.imports.entries) (type_items listed.exports.entries) k first in
      inl (listing.used_shown t.types t.interfaces.all t.interfaces.uses is.world n.world is.there.keys is.is_elaborated j (k, subst (λ (l : List ℕ). Has l k) types_are has, dep))

  pub item_listed : (s : ℕ) → IsOfItem n.world s → IsOfItem listed s
  item_listed s h = elim (listing.of_item t.types t.interfaces.all t.interfaces.uses is.world n.world is.there.keys is.is_elaborated s h) as (λ _. IsOfItem listed s) [
    | inl a ↦ inl (subst (λ (l : List ℕ). Has l s) (sym (items_alike item_ids item_alike is.world.imports.entries listed.imports.entries is.is_listed.imports)) a)
    | inr b ↦ inr (subst (λ (l : List ℕ). Has l s) (sym (items_alike item_ids item_alike is.world.exports.entries listed.exports.entries is.is_listed.exports)) b)
  ]

  pub type_imported : (k : ℕ) → Has (type_items listed.imports.entries) k → (y : String Global) × (span : Span) × Has n.world.imports.entries (key.Name y, item.TypeItem k span)
  type_imported k h =
      listing.type_found t.types t.interfaces.all t.interfaces.uses is.world n.world is.there.keys is.is_elaborated k
      (subst (λ (l : List ℕ). Has l k) (items_alike item_type type_alike is.world.imports.entries listed.imports.entries is.is_listed.imports) h)

  key_shown : (k : WorldKey) (j : ℕ) → IsKeyOf n k j → Shown j
  key_shown k j (stability, span, has) = listing.shows t.types t.interfaces.all t.interfaces.uses is.world n.world is.there.keys is.is_elaborated k j stability span has

  shown_key : (j : ℕ) → Shown j → (k : WorldKey) × IsKeyOf n k j
  shown_key j shown = (let k = listing.shown t.types t.interfaces.all t.interfaces.uses is.world n.world is.there.keys is.is_elaborated j shown in (k.0, (k.1, k.2, k.3)))

  -- ---- what functions of the world are made of

  module _ (imports : List ImportValue) (own : List Function) (own_are : AreOwnNeeded n imports own) where
    pub other_of_item : (s : ℕ) → Has (ids_of (own ++ exported_functions n.world)) s → IsOfItem n.world s
    other_of_item s h =
        let f = has_flat function_ids (own ++ exported_functions n.world) s h in
        all_parts (λ (g : Function). Has (function_ids g) s → IsOfItem n.world s) own (exported_functions n.world)
        (λ g has k. inl (functions_of_items own_function own_is n.world.imports.entries g s (part_has own (own_functions n.world.imports.entries) g own_are.part has) k))
        (λ g has k. inr (functions_of_items function_at exported_is n.world.exports.entries g s has k)) f.0 f.1 f.2

  -- ---- what the world is made of, and what is of an interface that it imports

  module _ (taken : TakeByUse t.types t.interfaces.all t.worlds.listed) where
    interface_sees : (k : ℕ) (d : Interface) → slice_get t.interfaces.all k ≡ Some d → SeesByUse t.types (belongs.Interface k) (IsInterfaceDep t.types d) (IsOfInterface d)
    interface_sees k d at =
        let z : 0 + k ≡ k = omega arith in
        sees t.types (belongs.Interface k) (listed_types d) (IsOfInterface d) (subst (λ (m : ℕ). TakesByUse t.types (belongs.Interface m) (Has (listed_types d)) (IsOfInterface d)) z (taken.interfaces_take k d at))

    pub world_sees : SeesByUse t.types (belongs.World i) (AreUsed t.types (type_items listed.imports.entries)) (IsOfItem listed)
    world_sees = sees t.types (belongs.World i) (type_items listed.imports.entries) (IsOfItem listed) (taken.worlds_take i listed listed_at)

    of_world : (s k j : ℕ) → IsOfItem n.world s → Reaches (IsMadeOf t.types) s k → BelongsTo t.types k j → Shown j
    of_world s k j starts reach of =
        world_shows t.types t.interfaces.all Shown interface_sees whole.whole.listed whole.whole.sound.owners closed i (AreUsed t.types (type_items listed.imports.entries)) (IsOfItem listed) world_sees used_shown s k j (item_listed s starts) reach of

    of_interface : (a : ℕ) (d : Interface) (s k j : ℕ) → Shown a → slice_get t.interfaces.all a ≡ Some d → IsOfInterface d s → Reaches (IsMadeOf t.types) s k → BelongsTo t.types k j → Shown j
    of_interface a d s k j shown at starts reach of =
        interface_shows t.types t.interfaces.all Shown interface_sees whole.whole.listed whole.whole.sound.owners closed i (AreUsed t.types (type_items listed.imports.entries)) (IsOfItem listed) world_sees used_shown a d s k j shown at starts reach of

    -- ---- what is asked for

    module _ (imports : List ImportValue) (own : List Function) (linked : List (List Function)) (own_are : AreOwnNeeded n imports own) (linked_are : AreLinkedNeeded n imports linked) where
      linked_shown : (k : ℕ) (fs : List Function) (f : Function) → slice_get linked k ≡ Some fs → Has fs f → Shown k
      linked_shown k fs f at has = (let e = linked_are.each k fs f at has in key_shown e.0 k e.1)

      linked_shows : (s k j : ℕ) → Has (flat_map ids_of linked) s → Reaches (IsMadeOf t.types) s k → BelongsTo t.types k j → Shown j
      linked_shows s k j h reach of =
          let fs = has_flat ids_of linked s h in
          let place = has_at linked fs.0 fs.1 in
          let f = has_flat function_ids fs.0 s fs.2 in
          let d = (needed_are_linked t i n imports linked whole are linked_are).own place.0 fs.0 f.0 place.1 f.1 in
          let e = has_mapped (λ (x : String Global × Function). x.1) d.0.functions.entries f.0 d.2 in
          let starts : Has (functions_ids d.0) s = flat_has (λ (x : String Global × Function). function_ids x.1) d.0.functions.entries e.0 s e.1 (subst (λ (g : Function). Has (function_ids g) s) (sym e.2) f.2) in
          of_interface place.0 d.0 s k j (linked_shown place.0 fs.0 f.0 place.1 f.1) d.1 (inr starts) reach of

      asked_shown : (j : ℕ) → IsInterfaceAsked t.types (ids_of (own ++ exported_functions n.world)) linked j → Shown j
      asked_shown j (inl (k, of, (s, has, reach))) =
          elim (has_parts (ids_of (own ++ exported_functions n.world)) (flat_map ids_of linked) s has) as (λ _. Shown j) [
            | inl other ↦ of_world s k j (other_of_item imports own own_are s other) reach of
            | inr is_linked ↦ linked_shows s k j is_linked reach of
          ]
      asked_shown j (inr (fs, f, at, has)) = linked_shown j fs f at has

pub asked_are_imported : AskedAreImported
asked_are_imported t i n imports own linked whole taken are own_are linked_are j asked =
    shown_key t i n whole are j
    (asked_shown t i n whole are taken imports own linked own_are linked_are j (subst (λ (ds : List TypeDef). IsInterfaceAsked ds (ids_of (own ++ exported_functions n.world)) linked j) are.types_are asked))
