-- Functions of the worlds of a graph stand under their names when a package came to it.
use Rattle.std.proofs.Common.{ℕ, List, [], ◌∷◌, length, sym, subst, ap}
use Rattle.std.specs.List.{AllByRecursion as Each}
use Rattle.wit_order.specs.Places.{Rows}
use Rattle.wit_types.specs.declared.interface.Interface.{Interface}
use Rattle.wit_types.specs.declared.interface.TypeDef.{TypeDef}
use Rattle.wit_types.specs.declared.world.World.{World}
use Rattle.wit_features.specs.Features.{FeatureSet}
use Rattle.wit_plans.specs.Checks.{Standing}
use Rattle.wit_plans.specs.Moves.{AreMovedWorlds, no_worlds, world_goes, world_stays}
use Rattle.wit_plans.specs.Plans.{standing}
use Rattle.wit_plans.specs.declared.moves.MovedWorld.{MovedWorld}
use Rattle.wit_labels.proofs.Passed.wit_placed-Members.{has_get}
use Rattle.wit_labels.specs.Passed.wit_joined-Joined.{IsJoinedWorld}
use Rattle.wit_labels.specs.Named.{AreSidesPlain, IsWorldNamed, IsSideNamed, MovedWorldsAreNamed, ElaboratedSidesAreNamed, JoinedSidesAreNamed}
use Rattle.wit_labels.proofs.Every.{each_join, each_front, each_behind, each_of}
use Rattle.wit_graph.specs.Passed.wit_graph_worlds-Added.{IsAdded, AreAdded, none_added, one_added}
use Rattle.wit_graph.specs.Passed.wit_graph_worlds-Worlds.{State, state}
use Rattle.wit_graph.specs.Passed.wit_graph_parts-Own.{asked, own_parts}
use Rattle.wit_labelled_graphs.specs.Named.{AreFunctionsUnderNames, IsNamedPlainly, IsNamedApart, IsOwnWorldNamed, EmptyGraphsHaveNamedWorlds, PushedGraphsHaveNamedWorlds}
use Rattle.wit_labelled_graphs.proofs.Labelled.{each_drop}
use Rattle.wit_labelled_graphs.proofs.Same.{world_plain}
use Rattle.wit_labelled_graphs.proofs.Under.{moved_under, joined_under}

pub empty_named : EmptyGraphsHaveNamedWorlds
empty_named = record { listed = tt; elaborated = tt }

-- ---- what stays of a package's worlds

record IsMovedNamed (m : MovedWorld) : Type 0 where
  named : IsWorldNamed m.imports.items m.exports.items m.includes.items
  under : AreFunctionsUnderNames m.exports.items

module _ (moved : MovedWorldsAreNamed) (features : FeatureSet) (s : Standing) where
  moved_named : (ws : List World) (ms : List MovedWorld) → AreMovedWorlds features s ws ms → Each IsOwnWorldNamed ws → Each IsMovedNamed ms
  moved_named _ _ no_worlds h = tt
  moved_named _ _ (world_goes w ws ms goes more) h = moved_named ws ms more h.1
  moved_named _ _ (world_stays w m ws ms stays is more) h = (
    record { named = moved features s w m is h.0.named; under = moved_under features s.types s.interfaces w.exports.entries m.exports.items is.exports h.0.under },
    moved_named ws ms more h.1,
  )

-- ---- a world with all that it includes

sides_plain : (ws : List World) → Each IsNamedPlainly ws → Each (λ (v : World). AreSidesPlain v.imports.entries v.exports.entries) ws
sides_plain [] hs = tt
sides_plain (v ∷ ws) hs = (hs.0.plain, sides_plain ws hs.1)

sides_under : (ws : List World) → Each IsNamedPlainly ws → Each (λ (v : World). AreFunctionsUnderNames v.exports.entries) ws
sides_under [] hs = tt
sides_under (v ∷ ws) hs = (hs.0.under, sides_under ws hs.1)

module _ (worlds : List World) (plain : Each IsNamedPlainly worlds) (id : ℕ) where
  joined_named : JoinedSidesAreNamed → (owner : ℕ) (m : MovedWorld) (old new : List TypeDef) (w : World) → IsJoinedWorld worlds id owner m old new w → IsMovedNamed m → IsNamedApart w
  joined_named joined owner m old new w is h =
      record {
        named = joined worlds id owner m old new w is h.named.changes (sides_plain worlds plain)
            (record { imports_plain = h.named.imports_named.plain; exports_plain = h.named.exports_named.plain });
        under = joined_under worlds (sides_under worlds plain) id owner m old new w is h.under;
      }

plain_of : (w : World) → IsNamedApart w → IsNamedPlainly w
plain_of w h = record { plain = record { imports_plain = h.named.imports_named.plain; exports_plain = h.named.exports_named.plain }; under = h.under }

-- ---- worlds, one behind the other

record AreSoNamed (s : State) : Type 0 where
  listed : Each IsNamedPlainly s.worlds.listed
  elaborated : Each IsNamedApart s.worlds.elaborated

module _ (joined : JoinedSidesAreNamed) (elaborate : ElaboratedSidesAreNamed) (interfaces : List Interface) (uses : Rows) (owner : ℕ) where
  step : (m : MovedWorld) (s t : State) → IsAdded interfaces uses owner m s t → AreSoNamed s → IsMovedNamed m → AreSoNamed t
  step m s t a h own =
      let j = joined_named s.worlds.listed h.listed (length s.worlds.listed) joined owner m s.types t.types a.joined a.is_joined own in
      let exports = ap (λ (w : World). w.exports.entries) a.is_elaborated.rest in
      let whole : IsNamedApart a.elaborated = record {
        named = record {
          imports_named = elaborate t.types interfaces uses a.joined a.elaborated a.is_elaborated j.named.imports_named;
          exports_named = subst IsSideNamed (sym exports) j.named.exports_named;
        };
        under = subst AreFunctionsUnderNames (sym exports) j.under;
      } in
      record {
        listed = subst (λ (ws : List World). Each IsNamedPlainly ws) (sym a.listed_are) (each_join IsNamedPlainly s.worlds.listed (a.listed ∷ []) h.listed (world_plain a.joined a.listed a.is_listed (plain_of a.joined j), tt));
        elaborated = subst (λ (ws : List World). Each IsNamedApart ws) (sym a.elaborated_are) (each_join IsNamedApart s.worlds.elaborated (a.elaborated ∷ []) h.elaborated (whole, tt));
      }

  all_named : (ms : List MovedWorld) (s t : State) → AreAdded interfaces uses owner ms s t → AreSoNamed s → Each IsMovedNamed ms → AreSoNamed t
  all_named _ s _ (none_added _) h own = h
  all_named _ s u (one_added ms m _ t _ before is) h own =
      step m t u is (all_named ms s t before h (each_front IsMovedNamed ms (m ∷ []) own)) (each_behind IsMovedNamed ms (m ∷ []) own).0

-- ---- a push

pub pushed_named : MovedWorldsAreNamed → JoinedSidesAreNamed → ElaboratedSidesAreNamed → PushedGraphsHaveNamedWorlds
pushed_named moved joined elaborate eq features old p new id own h was =
    let parts = h.put.added.parts in
    let s = standing h.owners h.places in
    let ws = parts.own_worlds in
    let mine : Each IsOwnWorldNamed p.worlds = each_of IsOwnWorldNamed p.worlds (λ k w at. own w (has_get p.worlds k w at)) in
    let worlds = moved_named moved features s (own_parts p).worlds ws.moved ws.are_moved (each_drop IsOwnWorldNamed (asked p).worlds p.worlds mine) in
    let far = all_named joined elaborate new.tables.interfaces.all new.tables.interfaces.uses (length old.tables.packages) ws.moved (state parts.types old.tables.worlds) (state new.tables.types new.tables.worlds) ws.added
    (record { listed = was.listed; elaborated = was.elaborated }) worlds in
    record { listed = far.listed; elaborated = far.elaborated }
