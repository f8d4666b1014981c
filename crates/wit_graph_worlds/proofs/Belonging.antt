-- With worlds more types belong where they do, and are listed there.
use Rattle.std.proofs.Common.{List, ℕ, ◌++◌, sym, subst}
use Rattle.wit_types.specs.Passed.wit_order-Places.{Rows}
use Rattle.wit_types.specs.declared.interface.Interface.{Interface}
use Rattle.wit_types.specs.declared.interface.TypeDef.{TypeDef}
use Rattle.wit_types.specs.declared.world.IncludeName.{IncludeName}
use Rattle.wit_types.specs.declared.world.World.{World}
use Rattle.wit_types.specs.declared.world.WorldInclude.{WorldInclude}
use Rattle.wit_reach.specs.Holding.{AreNamedOwned, AreListed}
use Rattle.wit_reach.specs.Types.{AreWorldTypes}
use Rattle.wit_uses.specs.Passed.wit_includes-Included.{AreIncludedTypes}
use Rattle.wit_uses.specs.Passed.wit_plans-declared-moves-MovedWorld.{MovedWorld}
use Rattle.wit_uses.specs.Passed.wit_placed-Order.{AreNamelessFree}
use Rattle.wit_uses.specs.Passed.wit_joined-Joined as joined
use Rattle.wit_uses.specs.Passed.wit_joined-Joined.{Includes, includes_none, includes_one}
use Rattle.wit_graph_worlds.specs.Added.{AreAdded, none_added, one_added}
use Rattle.wit_graph_worlds.specs.Worlds.{State}
use Rattle.wit_graph_worlds.proofs.Owners.{included_named, included_listed, included_nameless}

module _ (P : List TypeDef → Type 0)
    (keeps : (names : List IncludeName) (from into : ℕ) (types : List TypeDef) (world : World) (own : List ℕ) (new : List TypeDef) → AreWorldTypes from types world own → AreIncludedTypes names from into types own new → P types → P (types ++ new))
  where
    includes_keep : (worlds : List World) (id : ℕ) (ns : List WorldInclude) (s t : joined.State) → Includes worlds id ns s t → P s.types → P t.types
    includes_keep worlds id _ s _ (includes_none _) there = there
    includes_keep worlds id _ s u (includes_one ns n _ t _ before (w, b, at, is, same)) there =
        subst (λ (v : joined.State). P v.types) (sym same) (keeps n.names.items n.id id t.types w is.own b.types.items is.are_own is.brings.types_are (includes_keep worlds id ns s t before there))

    added_keep : (interfaces : List Interface) (uses : Rows) (owner : ℕ) (ms : List MovedWorld) (s t : State) → AreAdded interfaces uses owner ms s t → P s.types → P t.types
    added_keep interfaces uses owner _ s _ (none_added _) there = there
    added_keep interfaces uses owner _ s u (one_added ms m _ t _ before one) there =
        let sides = one.is_joined.sides in
        subst P (sym sides.types_are)
        (includes_keep t.worlds.listed _ m.includes.items (joined.own_state t.types m) sides.joined sides.includes (added_keep interfaces uses owner ms s t before there))

-- types with names belong somewhere still
pub includes_named : (worlds : List World) (id : ℕ) (ns : List WorldInclude) (s t : joined.State) → Includes worlds id ns s t → AreNamedOwned s.types → AreNamedOwned t.types
includes_named = includes_keep AreNamedOwned (λ names from into types world own new are h named. included_named names from into types own new named h)

pub added_named : (interfaces : List Interface) (uses : Rows) (owner : ℕ) (ms : List MovedWorld) (s t : State) → AreAdded interfaces uses owner ms s t → AreNamedOwned s.types → AreNamedOwned t.types
added_named = added_keep AreNamedOwned (λ names from into types world own new are h named. included_named names from into types own new named h)

-- each type that belongs to an interface stands there still
pub added_listed : (all : List Interface) (interfaces : List Interface) (uses : Rows) (owner : ℕ) (ms : List MovedWorld) (s t : State) → AreAdded interfaces uses owner ms s t → AreListed 0 s.types all → AreListed 0 t.types all
added_listed all = added_keep (λ (types : List TypeDef). AreListed 0 types all) (included_listed all)

-- types without names belong nowhere still
pub added_nameless : (interfaces : List Interface) (uses : Rows) (owner : ℕ) (ms : List MovedWorld) (s t : State) → AreAdded interfaces uses owner ms s t → AreNamelessFree s.types → AreNamelessFree t.types
added_nameless = added_keep AreNamelessFree (λ names from into types world own new are h free. included_nameless names from into types own new free h)
