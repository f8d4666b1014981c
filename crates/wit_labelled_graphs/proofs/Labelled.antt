-- Labels of types and names of parameters differ in a graph when a package came to it.
use Rattle.std.proofs.Common.{ℕ, List, [], ◌∷◌, length, take, drop, sym, subst}
use Rattle.std.proofs.lemmas.List.{take-append-drop}
use Rattle.std.specs.List.{AllByRecursion as Each}
use Rattle.wit_order.specs.Places.{Rows}
use Rattle.wit_types.specs.declared.interface.Interface.{Interface}
use Rattle.wit_types.specs.declared.interface.TypeDef.{TypeDef}
use Rattle.wit_types.specs.declared.world.World.{World}
use Rattle.wit_plans.specs.Plans.{standing}
use Rattle.wit_plans.specs.declared.moves.MovedWorld.{MovedWorld}
use Rattle.wit_labels.specs.Labels.{HasLabelsApart, AreLabelsApart, IsInterfaceApart, IsWorldApart}
use Rattle.wit_labels.specs.Moved.{IsMovedWorldApart, MovedTypesHaveLabelsApart, MovedInterfacesAreApart, MovedWorldsAreApart, ElaboratedWorldsAreApart}
use Rattle.wit_labels.specs.Included.{JoinedWorldsAreApart}
use Rattle.wit_labels.proofs.Every.{each_join, each_front, each_behind}
use Rattle.wit_graph.specs.Passed.wit_graph_worlds-Added.{IsAdded, AreAdded, none_added, one_added}
use Rattle.wit_graph.specs.Passed.wit_graph_worlds-Worlds.{State, state}
use Rattle.wit_graph.specs.Passed.wit_graph_parts-Own.{asked, asked_types, own_parts}
use Rattle.wit_labelled_graphs.specs.Labelled.{EmptyGraphsAreLabelled, PushedGraphsAreLabelled}
use Rattle.wit_labelled_graphs.proofs.Same.{world_apart}

pub empty_labelled : EmptyGraphsAreLabelled
empty_labelled = record { elaborated = record { labels = tt; interfaces_apart = tt; worlds_apart = tt }; listed = tt }

-- behind the first so many
pub each_drop : {X : Type 0} (P : X → Type 0) (n : ℕ) (xs : List X) → Each P xs → Each P (drop n xs)
each_drop {X} P n xs all = each_behind P (take n xs) (drop n xs) (subst (λ (ys : List X). Each P ys) (sym (take-append-drop n xs)) all)

-- ---- worlds, one behind the other

record IsStateApart (s : State) : Type 0 where
  types : AreLabelsApart s.types
  listed : Each IsWorldApart s.worlds.listed
  elaborated : Each IsWorldApart s.worlds.elaborated

module _ (joined : JoinedWorldsAreApart) (elaborate : ElaboratedWorldsAreApart) (interfaces : List Interface) (uses : Rows) (owner : ℕ) where
  step : (m : MovedWorld) (s t : State) → IsAdded interfaces uses owner m s t → IsStateApart s → IsMovedWorldApart m → IsStateApart t
  step m s t a h own =
      let j = joined s.worlds.listed (length s.worlds.listed) owner m s.types t.types a.joined a.is_joined h.types h.listed own in
      record {
        types = j.types_apart;
        listed = subst (λ (ws : List World). Each IsWorldApart ws) (sym a.listed_are) (each_join IsWorldApart s.worlds.listed (a.listed ∷ []) h.listed (world_apart a.joined a.listed a.is_listed j.world_apart, tt));
        elaborated = subst (λ (ws : List World). Each IsWorldApart ws) (sym a.elaborated_are) (each_join IsWorldApart s.worlds.elaborated (a.elaborated ∷ []) h.elaborated (elaborate t.types interfaces uses a.joined a.elaborated a.is_elaborated j.world_apart, tt));
      }

  all_apart : (ms : List MovedWorld) (s t : State) → AreAdded interfaces uses owner ms s t → IsStateApart s → Each IsMovedWorldApart ms → IsStateApart t
  all_apart _ s _ (none_added _) h own = h
  all_apart _ s u (one_added ms m _ t _ before is) h own =
      step m t u is (all_apart ms s t before h (each_front IsMovedWorldApart ms (m ∷ []) own)) (each_behind IsMovedWorldApart ms (m ∷ []) own).0

-- ---- a push

pub pushed_labelled : MovedTypesHaveLabelsApart → MovedInterfacesAreApart → MovedWorldsAreApart → JoinedWorldsAreApart → ElaboratedWorldsAreApart → PushedGraphsAreLabelled
pushed_labelled moved_types moved_interfaces moved_worlds joined elaborate eq features old p new id own h was =
    let parts = h.put.added.parts in
    let s = standing h.owners h.places in
    let owner = length old.tables.packages in
    let ts = parts.own_types in
    let is = parts.own_interfaces in
    let ws = parts.own_worlds in
    let mine = own_parts p in
    let types : AreLabelsApart ts.defs = moved_types h.owners h.places (length mine.unknown) mine.types ts.defs ts.are_moved (each_drop (λ (d : TypeDef). HasLabelsApart d.kind) (asked_types p) p.types own.labels) in
    let interfaces : Each IsInterfaceApart is.moved = moved_interfaces features s owner mine.interfaces is.moved is.are_moved (each_drop IsInterfaceApart (asked p).interfaces p.interfaces own.interfaces_apart) in
    let worlds : Each IsMovedWorldApart ws.moved = moved_worlds features s mine.worlds ws.moved ws.are_moved (each_drop IsWorldApart (asked p).worlds p.worlds own.worlds_apart) in
    let all_types : AreLabelsApart parts.types = subst AreLabelsApart (sym ts.types_are) (each_join (λ (d : TypeDef). HasLabelsApart d.kind) old.tables.types ts.defs was.elaborated.labels types) in
    let far = all_apart joined elaborate new.tables.interfaces.all new.tables.interfaces.uses owner ws.moved (state parts.types old.tables.worlds) (state new.tables.types new.tables.worlds) ws.added
    (record { types = all_types; listed = was.listed; elaborated = was.elaborated.worlds_apart }) worlds in
    record {
      elaborated = record {
        labels = far.types;
        interfaces_apart = subst (λ (ds : List Interface). Each IsInterfaceApart ds) (sym is.added.all_are) (each_join IsInterfaceApart old.tables.interfaces.all is.moved was.elaborated.interfaces_apart interfaces);
        worlds_apart = far.elaborated;
      };
      listed = far.listed;
    }
