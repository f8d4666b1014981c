-- What a world of a graph imports in the end is there.
use Rattle.std.proofs.Common.{◌≡◌, ℕ, ◌<◌, List, [], ◌∷◌, inl, inr, length, get_or, map, refl, sym, subst, ◌∙◌, arith}
use Rattle.std.proofs.lemmas.Option.{slice_get-get_or, slice_get_within}
use Rattle.wit_order.specs.Order.{Has}
use Rattle.wit_words.specs.declared.source_map.Span.{Span}
use Rattle.wit_types.specs.declared.interface.Interface.{Interface}
use Rattle.wit_types.specs.declared.stability.Stability.{Stability}
use Rattle.wit_types.specs.declared.world.World.{World}
use Rattle.wit_types.specs.declared.world.WorldItem.TheVariants as item
use Rattle.wit_types.specs.declared.world_key.WorldKey.{WorldKey}
use Rattle.wit_types.specs.declared.world_key.WorldKey.TheVariants as key
use Rattle.wit_types.specs.declared.«package».Package.{Package}
use Rattle.wit_names.specs.Names.{ArePackagesKnown, IsKeyThere}
use Rattle.wit_reach.specs.Lists.{item_interface, AreInterfacesThere}
use Rattle.wit_reach.proofs.Holding.{mapped_has, flat_has}
use Rattle.wit_elaborated.specs.Staying.{ElaboratedWorldsAreThere}
use Rattle.wit_elaborated.specs.Worlds.{IsKeyOfItem, AreKeysOfItems}
use Rattle.wit_core_items.specs.Places.{Entry}
use Rattle.core_links.specs.Names.{Names}
use Rattle.linked_worlds.specs.Passed.wit_graph_worlds-Sound.{IsElaborationOf}
use Rattle.linked_worlds.specs.Passed.wit_graph-Graph.{AreWhole}
use Rattle.linked_worlds.specs.Passed.wit_graph-declared-tables-Tables.{Tables}
use Rattle.linked_worlds.proofs.Passed.wit_graph-Depending.{world_there}
use Rattle.linked_worlds.specs.Linked.{AreNamesOf}
use Rattle.linked_worlds.proofs.Listing.{found_keys}
use Rattle.interface_names.specs.Names.{ArePackagesThere}
use Rattle.interface_names.specs.Graphs.{ImportsAreThere, TwoNamesAreNotListed}

key_of_item : (es : List Entry) → AreKeysOfItems es → (e : Entry) → Has es e → IsKeyOfItem e
key_of_item [] ks e h = absurd h
key_of_item (x ∷ es) ks e (inl here) = subst IsKeyOfItem (sym here) ks.0
key_of_item (x ∷ es) ks e (inr later) = key_of_item es ks.1 e later

key_there : (is : List Interface) (k : WorldKey) (id : ℕ) (s : Stability) (at : Span) → IsKeyOfItem (k, item.Interface id s at) → id < length is → IsKeyThere is k
key_there is (key.Name name) id s at of within = tt
key_there is (key.Interface j) id s at of within = (let same : id ≡ j = cc in subst (λ (i : ℕ). i < length is) same within)

module _ (law : ElaboratedWorldsAreThere) (t : Tables) (i : ℕ) (n : Names) (whole : AreWhole t) (are : AreNamesOf t i n) where
  listed_there : i < length t.worlds.listed
  listed_there =
      let within : i < length t.worlds.elaborated = slice_get_within t.worlds.elaborated i n.world are.world_is in
      let many : length t.worlds.elaborated ≡ length t.worlds.listed = whole.whole.sound.so_many in
      omega (arith, within, many)

  interfaces_there : AreInterfacesThere (length n.known.interfaces) n.world
  interfaces_there = subst (λ (is : List Interface). AreInterfacesThere (length is) n.world) (sym are.interfaces_are) (world_there t whole law i n.world are.world_is listed_there).1

  keys : AreKeysOfItems n.world.imports.entries
  keys =
      let listed : World = get_or t.worlds.listed i n.world in
      let is : IsElaborationOf t.types t.interfaces.all t.interfaces.uses listed n.world = whole.whole.elaborated i listed n.world (slice_get-get_or t.worlds.listed i n.world listed_there) are.world_is in
      found_keys t.types t.interfaces.all t.interfaces.uses is.world n.world is.there.keys is.is_elaborated

  id_there : (e : Entry) (id : ℕ) → Has n.world.imports.entries e → Has (item_interface e.1) id → id < length n.known.interfaces
  id_there e id has of =
      interfaces_there.imports id (flat_has item_interface (map (λ (x : Entry). x.1) n.world.imports.entries) e.1 id (mapped_has (λ (x : Entry). x.1) n.world.imports.entries e has) of)

  packages_there : ArePackagesThere n
  packages_there =
      subst (λ (ps : List Package). ArePackagesKnown ps n.known.interfaces) (sym are.packages_are)
      (subst (λ (is : List Interface). ArePackagesKnown t.packages is) (sym are.interfaces_are) whole.owners_are)

pub imports_are_there : ElaboratedWorldsAreThere → ImportsAreThere
imports_are_there law t i n whole are = record {
  packages = packages_there law t i n whole are;
  interfaces = λ k id s at has.
      (let within = id_there law t i n whole are (k, item.Interface id s at) id has (inl refl) in
      (key_there n.known.interfaces k id s at (key_of_item n.world.imports.entries (keys law t i n whole are) (k, item.Interface id s at) has) within, within));
}

pub two_names_not_listed : TwoNamesAreNotListed
two_names_not_listed n is names two are =
    let one = two.under_one in
    let other = two.under_other in
    two.apart (sym (are.needed one.key two.id one.function two.one one.is_key one.needed one.text_is) ∙ are.needed other.key two.id other.function two.other other.is_key other.needed other.text_is)
