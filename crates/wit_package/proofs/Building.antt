-- Interfaces and worlds of a package that are brought in behind what it asks of others.
use Rattle.std.proofs.Common.{◌≡◌, ℕ, ◌+◌, ◌≤◌, List, [], ◌++◌, length, length-append, Some, None, Option, map, refl, sym, subst, ap, ◌∙◌, append_assoc, arith}
use Rattle.std.proofs.lemmas.Option.{same_Some, slice_get-map}
use Rattle.std.proofs.lemmas.List.{length-map}
use Rattle.std.specs.Prelude.{slice_get, flat_map, option_map}
use Rattle.name_places.specs.FirstPlaces.{place_of}
use Rattle.name_places.proofs.Places.{place_names}
use Rattle.wit_types.specs.declared.interface.Interface.{Interface}
use Rattle.wit_types.specs.declared.interface.TypeDef.{TypeDef}
use Rattle.wit_types.specs.declared.world.World.{World}
use Rattle.wit_scopes.specs.Scopes.{InterfaceScope, WorldScope}
use Rattle.wit_rules.specs.declared.fault.PackageFault.{PackageFault}
use Rattle.wit_rules.specs.Breaks.{IsKept, IsFaultOf}
use Rattle.wit_rules.proofs.Breaking.{widened}
use Rattle.wit_arena.specs.Tree.{Name, in_interface}
use Rattle.wit_arena.proofs.Lists.{get_kept}
use Rattle.wit_placeholders.specs.Passed.wit_package_types-Known.{KnownTypes}
use Rattle.wit_placeholders.specs.Passed.wit_foreign-Items.{Items, interfaces_in}
use Rattle.wit_built_worlds.specs.Passed.wit_resolved_scopes-InArena.{Context, own_owner, IsIdOf}
use Rattle.wit_built_worlds.specs.Passed.wit_resolved_scopes-Texts.{interface_text, labelled_texts}
use Rattle.wit_built_worlds.specs.Passed.wit_resolved_scopes-Fit.{KnowsInterfaces}
use Rattle.wit_built_worlds.specs.Passed.wit_interfaces-Interfaces.{AreInterfacesIn}
use Rattle.wit_built_worlds.specs.Passed.wit_interfaces-Adding.{InterfacesBreak, MayAdd, AddsInterfaces}
use Rattle.wit_built_worlds.proofs.Passed.wit_interfaces-Behind.{get_right}
use Rattle.wit_built_worlds.proofs.Passed.wit_interfaces-Growing.{grows_for_through, interfaces_grown}
use Rattle.wit_built_worlds.proofs.Passed.wit_interfaces-Labelling.{interfaces_behind}
use Rattle.wit_built_worlds.proofs.Passed.wit_interfaces-Listing.{listed_through}
use Rattle.wit_built_worlds.specs.Adding.{WorldsBreak, AreReadyBehind, MayAddWorlds, AddsWorlds}
use Rattle.wit_package.specs.Built.{AreReadyTogether, MayBuild, Builds, ItemsBreak, by_interfaces, by_worlds}

module _ (c : Context) (k : KnownTypes) (a : List TypeDef) (interfaces : List Interface) (items : Items) (worlds : List World) (is : List InterfaceScope) (ws : List WorldScope) (may : MayBuild c k a interfaces items worlds is ws) where
  pub may_add : MayAdd c k a (length interfaces) is
  may_add = record {
    built = may.built;
    there = may.interfaces_there;
    owners = λ n i at. may.interface_owners n (interface_text i) (get_kept (map interface_text is) (flat_map labelled_texts ws) n (interface_text i) (slice_get-map interface_text is n ∙ ap (option_map interface_text) at));
  }

  module _ (numbered : length interfaces ≡ interfaces_in items) (k2 : KnownTypes) (b : List TypeDef) (interfaces2 : List Interface) (knows : KnowsInterfaces k2 is) (adds : AddsInterfaces c a interfaces is k2 b interfaces2) where
    so_many : length interfaces2 ≡ length interfaces + length (map interface_text is)
    so_many = ap length adds.behind ∙ length-append interfaces adds.more ∙ ap (λ (n : ℕ). length interfaces + n) adds.are_in.so_many

    pub are_numbered : interfaces_in items + length k2.names ≤ length interfaces2
    are_numbered =
        let size : length interfaces2 ≡ length interfaces + length (map interface_text is) = so_many in
        let texts : length (map interface_text is) ≡ length is = length-map is interface_text in
        let names : length k2.names ≡ length is = ap length knows.names ∙ length-map is (λ (i : InterfaceScope). i.name.text) in
        omega (arith, size, texts, names, numbered)

    own_interface : (x : Name) (p : ℕ) → place_of x k2.names ≡ Some p → slice_get c.owners.interfaces (interfaces_in items + p) ≡ Some (own_owner c (in_interface x))
    own_interface x p at = by (slice_get is p) refl
      where
        named : option_map (λ (i : InterfaceScope). i.name.text) (slice_get is p) ≡ Some x
        named = sym (slice_get-map (λ (i : InterfaceScope). i.name.text) is p) ∙ ap (λ (ns : List Name). slice_get ns p) (sym knows.names) ∙ place_names x k2.names p at

        by : (o : Option InterfaceScope) → slice_get is p ≡ o → slice_get c.owners.interfaces (interfaces_in items + p) ≡ Some (own_owner c (in_interface x))
        by None e = absurd (let f : None ≡ Some x = sym (ap (option_map (λ (i : InterfaceScope). i.name.text)) e) ∙ named in cc)
        by (Some i) e =
            let same : i.name.text ≡ x = same_Some i.name.text x (sym (ap (option_map (λ (z : InterfaceScope). z.name.text)) e) ∙ named) in
            ap (λ (m : ℕ). slice_get c.owners.interfaces (m + p)) (sym numbered) ∙ may_add.owners p i e ∙ ap (λ (y : Name). Some (own_owner c (in_interface y))) same

    pub may_add_worlds : MayAddWorlds c k2 b interfaces2 items worlds ws
    may_add_worlds = record {
      built = adds.built;
      there = may.worlds_there;
      owners = may.world_owners;
      labelled = λ n t at.
          (let size : length interfaces2 ≡ length interfaces + length (map interface_text is) = so_many in
          let place : length interfaces + (length (map interface_text is) + n) ≡ length interfaces2 + n = omega (arith, size) in
          subst (IsIdOf c t) place (may.interface_owners (length (map interface_text is) + n) t (get_right (map interface_text is) (flat_map labelled_texts ws) n t at)));
      own_interfaces = own_interface;
      foreign_interfaces = may.foreign_interfaces;
      foreign_worlds = may.foreign_worlds;
    }

    pub builds : (k3 : KnownTypes) (d : List TypeDef) (interfaces3 : List Interface) (worlds2 : List World) → AddsWorlds c k3 b interfaces2 worlds ws d interfaces3 worlds2 → Builds c a interfaces worlds is ws d interfaces3 worlds2
    builds k3 d interfaces3 worlds2 more =
        let at : length interfaces2 ≡ length interfaces + length adds.more = ap length adds.behind ∙ length-append interfaces adds.more in
        record {
          grows = grows_for_through c a b d adds.grows more.grows;
          more = adds.more ++ more.labelled;
          behind = more.interfaces_behind ∙ ap (λ (ds : List Interface). ds ++ more.labelled) adds.behind ∙ append_assoc interfaces adds.more more.labelled;
          are_in =
              interfaces_behind c d (length interfaces) (map interface_text is) (flat_map labelled_texts ws) adds.more more.labelled (interfaces_grown c b d more.grows (length interfaces) (map interface_text is) adds.more adds.are_in)
              (subst (λ (m : ℕ). AreInterfacesIn c d m (flat_map labelled_texts ws) more.labelled) at more.labelled_are);
          more_worlds = more.more;
          worlds_behind = more.behind;
          worlds_are_in = more.are_in;
          listed =
              listed_through c interfaces2 interfaces3 more.labelled more.interfaces_behind [] worlds2 worlds2 refl (record { interfaces = map interface_text is; worlds = [] }) (record { interfaces = flat_map labelled_texts ws; worlds = ws }) a b d
              more.grows adds.listed more.listed;
        }

-- worlds are ready where these interfaces are known
pub ready_behind : (k k2 : KnownTypes) (items : Items) (is : List InterfaceScope) (ws : List WorldScope) → AreReadyTogether k items is ws → KnowsInterfaces k2 is → k2.foreign ≡ k.foreign → AreReadyBehind k2 items ws
ready_behind k k2 items is ws together knows foreign = record { interfaces = is; others = together.others; ready = together.worlds; knows = knows; types = foreign ∙ together.types; owners = together.owners }

-- ---- what they break

module _ (c : Context) (is : List InterfaceScope) (ws : List WorldScope) where
  pub both_kept : IsKept (InterfacesBreak c is) → IsKept (WorldsBreak c ws) → IsKept (ItemsBreak c is ws)
  both_kept interfaces worlds rule at (by_interfaces b) = interfaces rule at b
  both_kept interfaces worlds rule at (by_worlds b) = worlds rule at b

  pub interfaces_break : (fault : PackageFault) → IsFaultOf (InterfacesBreak c is) fault → IsFaultOf (ItemsBreak c is ws) fault
  interfaces_break = widened (InterfacesBreak c is) (ItemsBreak c is ws) (λ rule at b. by_interfaces b)

  pub worlds_break : (fault : PackageFault) → IsFaultOf (WorldsBreak c ws) fault → IsFaultOf (ItemsBreak c is ws) fault
  worlds_break = widened (WorldsBreak c ws) (ItemsBreak c is ws) (λ rule at b. by_worlds b)
