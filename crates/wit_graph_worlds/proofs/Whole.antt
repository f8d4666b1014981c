-- Each world imports in the end what it and its exports depend on.
use Rattle.std.proofs.Common.{◌≡◌, ℕ, ◌<◌, ◌+◌, List, [], ◌++◌, inl, inr, Some, sym, subst, arith, length, length-append}
use Rattle.std.proofs.lemmas.List.{append-nil}
use Rattle.std.proofs.lemmas.Option.{slice_get_within}
use Rattle.std.specs.Prelude.{slice_get}
use Rattle.wit_types.specs.Passed.wit_order-Places.{Rows}
use Rattle.wit_types.specs.declared.interface.Interface.{Interface}
use Rattle.wit_types.specs.declared.interface.TypeDef.{TypeDef}
use Rattle.wit_types.specs.declared.world.World.{World}
use Rattle.wit_reach.specs.Lists.{AreInterfacesThere}
use Rattle.wit_reach.specs.Paths.{AreBackward}
use Rattle.wit_reach.specs.Reach.{Uses}
use Rattle.wit_elaborated.specs.Staying.{ElaboratedWorldsStay}
use Rattle.wit_uses.proofs.Passed.wit_arena-Lists.{get_more}
use Rattle.wit_graph_worlds.specs.Added.{IsPut}
use Rattle.wit_graph_worlds.specs.Sound.{AreSound, IsWorldThere, IsElaborationOf, AreElaborated}
use Rattle.wit_graph_worlds.specs.Worlds.{Worlds}
use Rattle.wit_graph_worlds.proofs.Adding.{types_more}

-- ---- more behind

interfaces_more : (n m : ℕ) (w : World) → AreInterfacesThere n w → AreInterfacesThere (n + m) w
interfaces_more n m w there = record {
  imports = λ i h. (let l : i < n = there.imports i h in omega arith);
  exports = λ i h. (let l : i < n = there.exports i h in omega arith);
}

module _ (stay : ElaboratedWorldsStay) (types more : List TypeDef) (interfaces others : List Interface) (uses rows : Rows) (w : Worlds) (sound : AreSound (length uses) types w) (backward : AreBackward (Uses uses))
    (same : length uses ≡ length interfaces)
  where
    elaboration_stays : (listed elaborated : World) → IsElaborationOf types interfaces uses listed elaborated → IsElaborationOf (types ++ more) (interfaces ++ others) (uses ++ rows) listed elaborated
    elaboration_stays listed elaborated is = record {
      world = is.world;
      there = record {
        sides = (types_more types more _ is.there.sides.0, types_more types more _ is.there.sides.1);
        interfaces = subst (λ (n : ℕ). AreInterfacesThere n is.world) (sym (length-append uses rows)) (interfaces_more (length uses) (length rows) is.world is.there.interfaces);
        keys = is.there.keys;
      };
      is_listed = is.is_listed;
      is_elaborated = stay types more interfaces others uses rows is.world elaborated sound.backward backward sound.owners same is.there.sides is.there.interfaces is.is_elaborated;
    }

    pub elaborated_stay : AreElaborated types interfaces uses w → AreElaborated (types ++ more) (interfaces ++ others) (uses ++ rows) w
    elaborated_stay are i listed elaborated at there = elaboration_stays listed elaborated (are i listed elaborated at there)

-- with more types alone
types_stay : ElaboratedWorldsStay → (types more : List TypeDef) (interfaces : List Interface) (uses : Rows) (w : Worlds) → AreSound (length uses) types w → AreBackward (Uses uses) → length uses ≡ length interfaces
    → AreElaborated types interfaces uses w → AreElaborated (types ++ more) interfaces uses w
types_stay stay types more interfaces uses w sound backward same are =
    subst (λ (ds : List Interface). AreElaborated (types ++ more) ds uses w) (append-nil interfaces)
    (subst (λ (rs : Rows). AreElaborated (types ++ more) (interfaces ++ []) rs w) (append-nil uses) (elaborated_stay stay types more interfaces [] uses [] w sound backward same are))

-- ---- one world more

pub elaborated_more : (interfaces : List Interface) (uses : Rows) (types more new : List TypeDef) (old w : Worlds) (world : World) → ElaboratedWorldsStay → new ≡ types ++ more → length uses ≡ length interfaces → AreBackward (Uses uses)
    → AreSound (length uses) types old → AreElaborated types interfaces uses old → IsWorldThere (length uses) new world → IsPut interfaces uses new world old w → AreElaborated new interfaces uses w
elaborated_more interfaces uses types more new old w world stay grown same backward sound are there put i listed elaborated at found =
    let were : AreElaborated new interfaces uses old = subst (λ (ds : List TypeDef). AreElaborated ds interfaces uses old) (sym grown) (types_stay stay types more interfaces uses old sound backward same are) in
    let many : length old.elaborated ≡ length old.listed = sound.so_many in
    elim (get_more old.listed put.listed listed i (subst (λ (ws : List World). slice_get ws i ≡ Some listed) put.listed_are at)) as (λ _. IsElaborationOf new interfaces uses listed elaborated) [
      | inl was ↦ elim (get_more old.elaborated put.elaborated elaborated i (subst (λ (ws : List World). slice_get ws i ≡ Some elaborated) put.elaborated_are found)) as (λ _. IsElaborationOf new interfaces uses listed elaborated) [
        | inl so ↦ were i listed elaborated was so
        | inr last ↦ absurd (let a : i ≡ length old.elaborated = last.0 in let b : i < length old.listed = slice_get_within old.listed i listed was in omega (arith, a, b, many))
      ]
      | inr one ↦ elim (get_more old.elaborated put.elaborated elaborated i (subst (λ (ws : List World). slice_get ws i ≡ Some elaborated) put.elaborated_are found)) as (λ _. IsElaborationOf new interfaces uses listed elaborated) [
        | inl so ↦ absurd (let a : i ≡ length old.listed = one.0 in let b : i < length old.elaborated = slice_get_within old.elaborated i elaborated so in omega (arith, a, b, many))
        | inr last ↦ subst (λ (v : World). IsElaborationOf new interfaces uses v elaborated) (sym one.1)
            (subst (IsElaborationOf new interfaces uses put.listed) (sym last.1) (record { world = world; there = there; is_listed = put.is_listed; is_elaborated = put.is_elaborated }))
      ]
    ]
