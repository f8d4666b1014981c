-- What is resolved is well formed.
use Rattle.std.proofs.Common.{◌≡◌, ℕ, ◌+◌, ◌<◌, List, [], inl, inr, length, length-append, Some, map, take, refl, sym, subst, ap, ◌∙◌, arith}
use Rattle.std.proofs.lemmas.Option.{slice_get_within}
use Rattle.std.specs.Prelude.{slice_get, flat_map, String}
use Rattle.std.specs.declared.alloc.Global.{Global}
use Rattle.wit_order.specs.Order as order
use Rattle.wit_types.specs.declared.interface.Interface.{Interface}
use Rattle.wit_types.specs.declared.function.Function.{Function}
use Rattle.wit_types.specs.declared.world.World.{World}
use Rattle.wit_types.specs.declared.«package».AstItem.TheVariants as ids
use Rattle.wit_types.specs.declared.«package».UnresolvedPackage.{UnresolvedPackage}
use Rattle.wit_package.specs.Passed.wit_syntax-Ast.{FileTree}
use Rattle.wit_package.specs.Passed.wit_scopes-Paths.{file_uses}
use Rattle.wit_package.specs.Passed.wit_scopes-Scopes.{WorldScope, package_scopes}
use Rattle.wit_package.specs.Passed.wit_rules-Breaks.{IsKept}
use Rattle.wit_package.specs.Passed.wit_rules-Facts.{IsDeclared, WorldBreaks}
use Rattle.wit_package.specs.Passed.wit_lookups-Lookups.{LookupsBreak}
use Rattle.wit_package.specs.Passed.wit_arena-Meaning.{Has, package_text}
use Rattle.wit_package.specs.Passed.wit_arena-Tree.{Name, Place, in_interface, in_world, in_listed, Owner}
use Rattle.wit_package.proofs.Passed.wit_arena-Lists.{has_right, map_has}
use Rattle.wit_package.specs.Passed.wit_foreign-Needs.{NeedTree, needs_in}
use Rattle.wit_package.specs.Passed.wit_foreign-Items.{interfaces_in, worlds_in, IsNumbered}
use Rattle.wit_package.specs.Passed.wit_interfaces-Interfaces.{AreInterfacesIn}
use Rattle.wit_package.proofs.Passed.wit_interfaces-Behind.{get_either}
use Rattle.wit_package.specs.Passed.wit_resolved_scopes-Texts.{worlds_of, interface_texts}
use Rattle.wit_package.proofs.Passed.wit_resolved_scopes-Orders.{placed}
use Rattle.wit_package.specs.Passed.wit_readiness-Readiness.{AreReadyInOrder}
use Rattle.wit_package.proofs.Passed.wit_readiness-Ready.{packages_are_ready}
use Rattle.wit_package.proofs.Passed.wit_readiness-Parts.{declared_kept, world_keeps}
use Rattle.wit_reach.specs.Holding.{IsMadeUpTo, listed_types, functions_ids, IsTypeUnder, HoldTheirTypes}
use Rattle.wit_reach.specs.Ids.{function_ids}
use Rattle.wit_elaborated.specs.Worlds.{AreKeysOfItems}
use Rattle.wit_package.specs.TopUses.{files_top_needs, files_need}
use Rattle.wit_package.specs.Faults.{by_files, by_lookups}
use Rattle.wit_package.specs.Resolved.{foreign_owners, owner_in, owners_of, context_of, IsResolved}
use Rattle.wit_package.specs.Steps.{Resolves}
use Rattle.wit_graph_parts.specs.Own.{asked, asked_types}
use Rattle.wit_package.proofs.Owning.{interface_owners_length, are_owners}
use Rattle.wit_package.proofs.Finding.{others_of, finds}
use Rattle.wit_package.proofs.Scoping.{world_there}
use Rattle.wit_well_formed.specs.Law.{SpansAreCounted, UnknownTypesAreThere, AskedItemsAreThere, NamelessTypesAreFree, InterfacesHoldTheirTypes, KeysAreOfItems, ResolvedPackagesAreWellFormed}
use Rattle.wit_reach.proofs.Holding.{got}
use Rattle.wit_well_formed.proofs.Lists.{get_drop, has_drop}
use Rattle.wit_well_formed.proofs.Nameless.{by_name, nameless_free}
use Rattle.wit_well_formed.proofs.Counted.{spans_counted, unknown_counted, interface_item, world_item, asks_there}
use Rattle.wit_well_formed.proofs.Keys.{world_keys}
use Rattle.wit_well_formed.proofs.Apart.{texts_apart}
use Rattle.wit_well_formed.proofs.Earlier.{AreOfWorlds, parts_up_to, name_up_to}
use Rattle.wit_well_formed.proofs.Holding.{hold_their_types}
use Rattle.wit_well_formed.proofs.Belonging.{own_types_owned, types_are_listed}
use Rattle.wit_well_formed.proofs.Names.{names_apart}

pub spans : SpansAreCounted
spans files p r = (let s = r.resolved in spans_counted s.items (files_need s.me files) p.foreign_deps.entries p.foreign_dep_spans.items s.deps_are)

pub unknown_types : UnknownTypesAreThere
unknown_types files p r = (let s = r.resolved in unknown_counted s.items (files_need s.me files) s.unknown s.others p.types s.names p.unknown_type_spans.items s.unknown_are s.types_are)

pub asked_items : AskedItemsAreThere
asked_items files p r =
    let s = r.resolved in
    let interfaces : length p.interfaces ≡ length s.foreign_interfaces + length s.own_interfaces = ap length s.interfaces_are ∙ length-append s.foreign_interfaces s.own_interfaces in
    let worlds : length p.worlds ≡ length s.foreign_worlds + length s.own_worlds = ap length s.worlds_are ∙ length-append s.foreign_worlds s.own_worlds in
    let so_many : length s.foreign_interfaces ≡ interfaces_in s.items = s.foreign_are.so_many_interfaces in
    let so_many_worlds : length s.foreign_worlds ≡ worlds_in s.items = s.foreign_are.so_many_worlds in
    asks_there (files_need s.me files) s.items s.items_are p.interfaces p.worlds (omega (arith, interfaces, so_many)) (omega (arith, worlds, so_many_worlds)) p.foreign_deps.entries p.foreign_dep_spans.items s.deps_are

pub nameless_types : NamelessTypesAreFree
nameless_types files p others r k d at none = (let s = r.resolved in nameless_free _ p.types (s.whole by_name) (others + k) d (get_drop others p.types k d at) none)

-- ---- worlds

module _ (files : List FileTree) (p : UnresolvedPackage) (s : IsResolved files p) where
  world_keys_are : (k : ℕ) (w : World) → slice_get p.worlds k ≡ Some w → AreKeysOfItems w.imports.entries
  world_keys_are k w at = elim (get_either s.foreign_worlds s.own_worlds k w (subst (λ (ws : List World). slice_get ws k ≡ Some w) s.worlds_are at)) as (λ _. AreKeysOfItems w.imports.entries) [
    | inl other ↦
        let within : k < length s.foreign_worlds = slice_get_within s.foreign_worlds k w other in
        let so_many : length s.foreign_worlds ≡ worlds_in s.items = s.foreign_are.so_many_worlds in
        let item = world_item (files_need s.me files) s.items s.items_are k (omega (arith, within, so_many)) in
        subst AreKeysOfItems (sym (s.foreign_are.worlds item.0 k w item.1 other).imports) tt
    | inr o ↦
        let within : o.0 < length s.own_worlds = slice_get_within s.own_worlds o.0 w o.2 in
        let so_many : length s.own_worlds ≡ length (worlds_of s.sorted) = s.own_worlds_are.so_many in
        let t = got (worlds_of s.sorted) o.0 (omega (arith, within, so_many)) in
        world_keys (context_of s.me files s.items s.sorted) p.types t.0 (length s.foreign_worlds + o.0) w (s.own_worlds_are.each o.0 t.0 w t.1 o.2)
  ]

pub keys : KeysAreOfItems
keys files p others r w has =
    let h = placed p.worlds w (has_drop others p.worlds w has) in
    world_keys_are files p r.resolved h.0 w h.1

-- ---- interfaces

world_place : (n m : ℕ) (o : Place) (k : ℕ) → IsNumbered n m o (ids.World k) → (x : Name) × (o ≡ in_world x)
world_place n m (in_interface x) k e = absurd cc
world_place n m (in_world x) k e = (x, refl)
world_place n m (in_listed w s x) k e = absurd e

module _ (files : List FileTree) (p : UnresolvedPackage) (r : Resolves files p) where
  declared : IsDeclared files r.resolved.me (package_scopes r.resolved.me files)
  declared = record { named = r.resolved.named; scopes_are = refl; kept = λ rule at b. r.kept rule at (by_files b) }

  looked_up : IsKept (LookupsBreak r.resolved.me (file_uses files) (package_scopes r.resolved.me files))
  looked_up rule at b = r.kept rule at (by_lookups r.resolved.me r.resolved.named b)

  all_needed : (n : NeedTree) → Has (needs_in (package_scopes r.resolved.me files)) n → Has (files_need r.resolved.me files) n
  all_needed n has = has_right (files_top_needs r.resolved.me (needs_in (package_scopes r.resolved.me files)) (file_uses files)) (needs_in (package_scopes r.resolved.me files)) n has

  pub ready : AreReadyInOrder (package_scopes r.resolved.me files) r.resolved.sorted (others_of r.resolved.items r.resolved.names)
  ready =
      let s = r.resolved in
      packages_are_ready files s.me (package_scopes s.me files) s.sorted (others_of s.items s.names) declared looked_up s.are_sorted
      (finds (package_scopes s.me files) (files_need s.me files) all_needed s.items s.items_are s.unknown s.names p.unknown_type_spans.items s.unknown_are)

  pub world_kept : (w : WorldScope) → Has (worlds_of r.resolved.sorted) w → IsKept (WorldBreaks w.members)
  world_kept w has =
      let s = r.resolved in
      world_keeps (package_scopes s.me files) (declared_kept files s.me (package_scopes s.me files) declared) w (world_there (package_scopes s.me files) s.sorted s.are_sorted w has)

  -- worlds stand at places of worlds
  of_worlds : AreOfWorlds (owners_of (package_text r.resolved.me) r.resolved.items r.resolved.sorted).worlds
  of_worlds v w at =
      let s = r.resolved in
      elim (get_either (foreign_owners s.items).worlds (map (λ (x : WorldScope). owner_in (package_text s.me) (in_world x.name.text)) (worlds_of s.sorted)) v w at) as (λ _. (x : Name) × (w.place ≡ in_world x)) [
        | inl other ↦ (let h = (are_owners s.items).worlds w (v, other) in world_place (interfaces_in (take h.1.0 s.items)) (worlds_in (take h.1.0 s.items)) w.place h.0 (s.items_are.numbered h.1.0 w (ids.World h.0) h.1.1))
        | inr o ↦
            let x = map_has (λ (x : WorldScope). owner_in (package_text s.me) (in_world x.name.text)) (worlds_of s.sorted) w (o.0, o.2) in
            (x.0.name.text, ap (λ (v : Owner). v.place) x.2)
      ]

  own_hold : HoldTheirTypes (length r.resolved.foreign_interfaces) p.types r.resolved.own_interfaces
  own_hold =
      let s = r.resolved in
      let c = context_of s.me files s.items s.sorted in
      let others = (foreign_owners s.items).interfaces in
      let all_worlds = (owners_of (package_text s.me) s.items s.sorted).worlds in
      let apart = texts_apart s.sorted world_kept ready.interfaces.apart ready.worlds.apart in
      let so_many : length s.foreign_interfaces ≡ length others = s.foreign_are.so_many_interfaces ∙ sym (interface_owners_length s.items) in
      subst (λ (n : ℕ). HoldTheirTypes n p.types s.own_interfaces) (sym so_many)
      (hold_their_types c p.types (s.whole by_name) (length others) (interface_texts s.sorted)
      (λ m t at x u d w h. name_up_to s.me files s.sorted s.are_sorted (others_of s.items s.names) ready.interfaces ready.worlds apart others all_worlds of_worlds m t at t.place refl x u d w h)
      (λ m t at es us d w h. parts_up_to s.me files s.sorted s.are_sorted (others_of s.items s.names) ready.interfaces ready.worlds apart others all_worlds of_worlds m t at t.place refl es us d w h)
      s.own_interfaces (subst (λ (n : ℕ). AreInterfacesIn c p.types n (interface_texts s.sorted) s.own_interfaces) so_many s.own_interfaces_are))

  -- an interface of another package is empty, others are the package's own
  of_each : (P : ℕ → Interface → Type 0) → ((n : ℕ) (d : Interface) → d.types.entries ≡ [] → d.functions.entries ≡ [] → P n d)
      → ((k : ℕ) (d : Interface) → slice_get r.resolved.own_interfaces k ≡ Some d → P (length r.resolved.foreign_interfaces + k) d) → (n : ℕ) (d : Interface) → slice_get p.interfaces n ≡ Some d → P n d
  of_each P empty own n d at =
      let s = r.resolved in
      elim (get_either s.foreign_interfaces s.own_interfaces n d (subst (λ (ds : List Interface). slice_get ds n ≡ Some d) s.interfaces_are at)) as (λ _. P n d) [
        | inl other ↦
            let within : n < length s.foreign_interfaces = slice_get_within s.foreign_interfaces n d other in
            let so_many : length s.foreign_interfaces ≡ interfaces_in s.items = s.foreign_are.so_many_interfaces in
            let item = interface_item (files_need s.me files) s.items s.items_are n (omega (arith, within, so_many)) in
            let is = s.foreign_are.interfaces item.0 n d item.1 other in
            empty n d is.types is.functions
        | inr o ↦ subst (λ (m : ℕ). P m d) (sym o.1) (own o.0 d o.2)
      ]

  types_are_theirs : (n : ℕ) (d : Interface) → slice_get p.interfaces n ≡ Some d → (e : String Global × ℕ) → order.Has d.types.entries e → IsTypeUnder p.types n e
  types_are_theirs = of_each (λ n d. (e : String Global × ℕ) → order.Has d.types.entries e → IsTypeUnder p.types n e)
      (λ n d none _ e h. absurd (subst (λ (es : List (String Global × ℕ)). order.Has es e) none h))
      (λ k d at e h. own_hold.theirs k d e at h)

  types_are_up_to : (n : ℕ) (d : Interface) → slice_get p.interfaces n ≡ Some d → (i : ℕ) → order.Has (listed_types d) i → IsMadeUpTo p.types n i
  types_are_up_to = of_each (λ n d. (i : ℕ) → order.Has (listed_types d) i → IsMadeUpTo p.types n i)
      (λ n d none _ i h. absurd (subst (λ (es : List (String Global × ℕ)). order.Has (map (λ (e : String Global × ℕ). e.1) es) i) none h))
      (λ k d at i h. own_hold.types_use k i d at h)

  functions_are_up_to : (n : ℕ) (d : Interface) → slice_get p.interfaces n ≡ Some d → (i : ℕ) → order.Has (functions_ids d) i → IsMadeUpTo p.types n i
  functions_are_up_to = of_each (λ n d. (i : ℕ) → order.Has (functions_ids d) i → IsMadeUpTo p.types n i)
      (λ n d _ none i h. absurd (subst (λ (es : List (String Global × Function)). order.Has (flat_map (λ (e : String Global × Function). function_ids e.1) es) i) none h))
      (λ k d at i h. own_hold.functions_use k i d at h)

pub held : InterfacesHoldTheirTypes
held files p others r = record {
  named = (own_hold files p r).named;
  theirs = λ k d e at h. types_are_theirs files p r (others + k) d (get_drop others p.interfaces k d at) e h;
  types_use = λ k i d at h. types_are_up_to files p r (others + k) d (get_drop others p.interfaces k d at) i h;
  functions_use = λ k i d at h. functions_are_up_to files p r (others + k) d (get_drop others p.interfaces k d at) i h;
}

-- ---- the whole

pub well_formed : ResolvedPackagesAreWellFormed
well_formed files p r = record {
  spans = spans files p r;
  deps = asked_items files p r;
  unknown = unknown_types files p r;
  nameless = nameless_types files p (asked_types p) r;
  owned = own_types_owned files p r;
  holds = held files p (asked p).interfaces r;
  listed = types_are_listed files p r;
  names = λ d has. names_apart files p r d (has_drop (asked p).interfaces p.interfaces d has);
  keys = keys files p (asked p).worlds r;
}
