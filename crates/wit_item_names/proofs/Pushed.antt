-- A graph with a package that came to it: interfaces of which types are used have names.
use Rattle.std.proofs.Common.{◌≡◌, ℕ, List, [], ◌∷◌, ◌++◌, inl, inr, Some, String, subst, length, map}
use Rattle.std.specs.Prelude.{slice_get}
use Rattle.std.specs.declared.alloc.Global.{Global}
use Rattle.wit_order.specs.Order.{Has}
use Rattle.wit_types.specs.declared.interface.Interface.{Interface}
use Rattle.wit_types.specs.declared.interface.TypeDef.{TypeDef}
use Rattle.wit_types.specs.declared.world.World.{World}
use Rattle.wit_types.specs.declared.«package».Package.{Package}
use Rattle.wit_reach.specs.Deps.{IsInterfaceDep}
use Rattle.wit_reach.specs.Lists.{item_types}
use Rattle.wit_reach.specs.Types.{AreTypesBackward, AreTypesThere, AreSidesThere}
use Rattle.wit_reach.proofs.Growing.{used_was}
use Rattle.wit_labels.proofs.Passed.wit_arena-Lists.{get_kept}
use Rattle.wit_labels.specs.Passed.wit_copied_trees-There.{IncludedTypesAreBackward, IncludedSidesAreThere}
use Rattle.wit_labels.proofs.Passed.wit_placed-Members.{has_at, has_get}
use Rattle.wit_graph_worlds.specs.Passed.wit_uses-Included.{BroughtTakesByUse}
use Rattle.wit_graph_worlds.proofs.Passed.wit_uses-Moving.{get_either}
use Rattle.wit_graph_worlds.specs.Worlds.{state}
use Rattle.wit_graph_worlds.proofs.Adding.{types_more}
use Rattle.wit_graph_worlds.proofs.Taking.{all_go}
use Rattle.wit_item_names.specs.Added.{AddedWorldsUseNamed, WorldsUseNamed}
use Rattle.wit_item_names.specs.Placed.{PlacedUseNamed}
use Rattle.wit_item_names.specs.Pushed.{PushedAreUsedNamed}
use Rattle.wit_item_names.specs.Used.{AreUsedNamed}
use Rattle.wit_item_names.proofs.Included.{types_there}
use Rattle.wit_item_names.proofs.Named.{named_more}

-- worlds that were there still do
worlds_still : (packages : List Package) (q : Package) (types more : List TypeDef) (interfaces new : List Interface) (worlds : List World) → AreTypesBackward types → ((w : World) → Has worlds w → AreSidesThere types w)
    → AreUsedNamed packages types interfaces worlds → WorldsUseNamed (packages ++ q ∷ []) (types ++ more) (interfaces ++ new) worlds
worlds_still packages q types more interfaces new worlds back there named w h =
    let at = has_at worlds w h in
    record {
      used = λ j u. named_more packages (q ∷ []) interfaces new j
          (named.in_worlds at.0 j w at.1 (used_was types more back (item_types w) j (types_there types w.imports.entries w.exports.entries (there w h).0 (there w h).1) u));
      imported = λ j has. named_more packages (q ∷ []) interfaces new j (named.imported at.0 j w at.1 has);
    }

pub pushed_used_named : IncludedTypesAreBackward → IncludedSidesAreThere → BroughtTakesByUse → PlacedUseNamed → AddedWorldsUseNamed → PushedAreUsedNamed
pushed_used_named backward sides_there brought_takes placed added features owners s packages q foreign own graph fs others own_interfaces new_interfaces interfaces others_interfaces b others_are same hold are_there new_there own_worlds ms moved kept n uses old t come
    worlds_there found_named named own_named =
    let first = placed features owners s packages q foreign own graph fs others own_interfaces new_interfaces interfaces others_interfaces b others_are same hold are_there own_worlds ms moved kept found_named named.in_interfaces own_named in
    let now = state (graph ++ fs) old in
    let graph_backward : AreTypesBackward graph = λ i j e. b.backward i j (e.0, get_kept graph fs i e.0 e.1, e.2) in
    let worlds = added n (packages ++ q ∷ []) (interfaces ++ new_interfaces) uses (length packages) ms now t come (worlds_still packages q graph fs interfaces new_interfaces old.listed graph_backward worlds_there named) first.in_worlds in
    let r = all_go backward sides_there brought_takes n (interfaces ++ new_interfaces) uses (length packages) ms now t come.added come.sound come.own come.take come.own_take in
    let all_there : (k : ℕ) (d : Interface) → slice_get (interfaces ++ new_interfaces) k ≡ Some d → AreTypesThere (graph ++ fs) (map (λ (e : String Global × ℕ). e.1) d.types.entries) =
    λ k d at. elim (get_either interfaces new_interfaces k d at) as (λ _. AreTypesThere (graph ++ fs) (map (λ (e : String Global × ℕ). e.1) d.types.entries)) [
      | inl was ↦ types_more graph fs (map (λ (e : String Global × ℕ). e.1) d.types.entries) (are_there d (has_get interfaces k d was)).names
      | inr new ↦ (new_there d (has_get new_interfaces new.0 d new.2)).names
    ]
    in
    record {
      in_interfaces = λ k j d at dep.
          first.in_interfaces k j d at (used_was (graph ++ fs) r.grown.0 b.backward (map (λ (e : String Global × ℕ). e.1) d.types.entries) j (all_there k d at) (subst (λ (ts : List TypeDef). IsInterfaceDep ts d j) r.grown.1 dep));
      in_worlds = λ i j w at uses_j. (worlds w (has_get t.worlds.listed i w at)).used j uses_j;
      imported = λ i j w at has. (worlds w (has_get t.worlds.listed i w at)).imported j has;
    }
