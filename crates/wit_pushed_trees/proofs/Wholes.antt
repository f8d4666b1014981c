-- Each type of a graph has a tree when a package came to it.
use Rattle.std.proofs.Common.{◌≡◌, ◌<◌, ◌≤◌, ℕ, ◌+◌, Bool, true, false, List, ◌∷◌, ◌++◌, [], length, length-append, Some, sym, subst, ap, ◌∙◌, arith}
use Rattle.std.specs.Prelude.{slice_get, nat_eq}
use Rattle.std.proofs.lemmas.Option.{slice_get_within}
use Rattle.std.proofs.lemmas.Bool.{eq-eqb}
use Rattle.wit_order.specs.Places.{Rows}
use Rattle.wit_types.specs.declared.interface.Interface.{Interface}
use Rattle.wit_types.specs.declared.interface.TypeDef.{TypeDef}
use Rattle.wit_types.specs.declared.interface.TypeOwner.{TypeOwner}
use Rattle.wit_types.specs.declared.interface.TypeOwner.TheVariants as belongs
use Rattle.wit_types.specs.declared.«package».Package.{Package}
use Rattle.wit_types.specs.declared.«package».PackageName.{PackageName}
use Rattle.wit_types.specs.declared.«package».UnresolvedPackage.{UnresolvedPackage}
use Rattle.wit_types.specs.declared.world.World.{World}
use Rattle.wit_types.specs.declared.world.WorldInclude.{WorldInclude}
use Rattle.wit_features.specs.Features.{FeatureSet}
use Rattle.wit_reach.specs.Types.{is_local}
use Rattle.wit_reach.proofs.Holding.{got}
use Rattle.wit_arena.specs.Tree as tree
use Rattle.wit_arena.specs.Tree.{Name, Owner, Tree}
use Rattle.wit_arena.specs.Unfold.{Owners, owner_of, IsWhole}
use Rattle.wit_copied_trees.specs.Law.{IncludedTypesStandForTheSame}
use Rattle.wit_moved_trees.specs.Law.{MovedTypesStandForTheSame}
use Rattle.wit_graph.specs.Passed.wit_joined-Joined as joined
use Rattle.wit_graph.specs.Passed.wit_joined-Joined.{Includes, includes_none, includes_one, own_state}
use Rattle.wit_plans.specs.declared.moves.MovedWorld.{MovedWorld}
use Rattle.wit_graph.specs.Passed.wit_graph_worlds-Added.{AreAdded, none_added, one_added}
use Rattle.wit_graph.specs.Passed.wit_graph_worlds-Worlds.{State}
use Rattle.wit_graph.specs.Graph.{Graph, AreWhole}
use Rattle.wit_graph.specs.Push.{IsPushed}
use Rattle.wit_pushed_trees.specs.Apart.{AreWorldsApart}
use Rattle.wit_pushed_trees.specs.Found.{TellsNamesApart, NamesOfGraphStand}
use Rattle.wit_pushed_trees.specs.Giving.{Gives}
use Rattle.wit_pushed_trees.specs.Known.{AreTypesKnown, AreOwnTypesKnown}
use Rattle.wit_pushed_trees.specs.Owned.{AreOwnersOf, AreOwned, AreOwnedWith}
use Rattle.wit_pushed_trees.specs.Pushed.{AreAgreed}
use Rattle.wit_pushed_trees.specs.Whole.{HasTrees, PushedGraphsHaveTrees}
use Rattle.wit_pushed_trees.proofs.Agreeing.{pushed_agreed}
use Rattle.wit_pushed_trees.proofs.Giving.{graphs_give, known_alone}
use Rattle.wit_pushed_trees.proofs.Types.{whole_moved}
use Rattle.wit_pushed_trees.proofs.Knowing.{included_known, added_known, there_known, pushed_known}

-- ---- types that come with what worlds include

module _ (law : IncludedTypesStandForTheSame) (owners : Owners) (packages : List Package) (apart : AreWorldsApart owners packages) (given : Owner → Name → Tree) where
  -- what belongs to another owner is another's
  pub others : (from : ℕ) (w : Owner) → slice_get owners.worlds from ≡ Some w → (o : TypeOwner) (u : Owner) → is_local from o ≡ false → owner_of owners o ≡ Some u → u ≡ w → ⊥
  others from w at (belongs.World v) u other is same =
      let one : v ≡ from = apart.apart v from w (is ∙ ap (λ (x : Owner). Some x) same) at in
      let yes : nat_eq v from ≡ true = eq-eqb v from one in
      let bad : true ≡ false = sym yes ∙ other in cc
  others from w at (belongs.Interface i) u other is same =
      let whose = apart.worlds_are from w at in
      apart.interfaces_are i u whose.name is (ap (λ (x : Owner). x.place) same ∙ whose.place_is)
  others from w at belongs.None u other is same = (let bad : true ≡ false = other in cc)

  pub included_whole : (worlds : List World) (id : ℕ) → length worlds ≤ id → id < length owners.worlds → (ns : List WorldInclude) (s t : joined.State) → Includes worlds id ns s t → AreTypesKnown s.types → IsWhole owners given s.types → IsWhole owners given t.types
  included_whole worlds id few there _ s _ (includes_none _) known whole = whole
  included_whole worlds id few there _ s u (includes_one ns n _ t _ before at) known whole =
      let so_far = included_whole worlds id few there ns s t before known whole in
      let so_known = included_known worlds id ns s t before known in
      let within : n.id < length worlds = slice_get_within worlds n.id at.0 at.2 in
      let from = got owners.worlds n.id (omega (arith, within, few, there)) in
      let into = got owners.worlds id there in
      let copies = law n.names.items owners given n.id id from.0 into.0 at.0 t.types at.3.own at.1.types.items (record {
        whole = so_far;
        known = so_known;
        from_is = from.1;
        into_is = into.1;
        apart = others n.id from.0 from.1;
        are_own = at.3.are_own;
        included = at.3.brings.types_are;
      }) in
      subst (IsWhole owners given) (sym (ap (λ (x : joined.State). x.types) at.4)) copies.0

  pub added_whole : (interfaces : List Interface) (uses : Rows) (owner : ℕ) (ms : List MovedWorld) (s t : State) → AreAdded interfaces uses owner ms s t → length t.worlds.listed ≤ length owners.worlds → AreTypesKnown s.types → IsWhole owners given s.types
      → IsWhole owners given t.types
  added_whole interfaces uses owner _ s _ (none_added _) few known whole = whole
  added_whole interfaces uses owner _ s u (one_added ms m _ t _ before a) few known whole =
      let sides = a.is_joined.sides in
      let one : length u.worlds.listed ≡ length t.worlds.listed + 1 = ap length a.listed_are ∙ length-append t.worlds.listed (a.listed ∷ []) in
      let so_far = added_whole interfaces uses owner ms s t before (omega (arith, few, one)) known whole in
      subst (IsWhole owners given) (sym sides.types_are)
      (included_whole t.worlds.listed (length t.worlds.listed) (omega arith) (omega (arith, few, one)) m.includes.items (own_state t.types m) sides.joined sides.includes (added_known interfaces uses owner ms s t before known) so_far)

-- ---- a graph to which a package came

module _ (moved : MovedTypesStandForTheSame) (law : IncludedTypesStandForTheSame) (package_owners owners : Owners) (eq : PackageName → PackageName → Bool) (features : FeatureSet) (old : Graph) (p : UnresolvedPackage) (new : Graph) (id : ℕ)
    (tells : TellsNamesApart eq) (stand : NamesOfGraphStand old) (owned : AreOwned owners old.tables) (whole : AreWhole old.tables) (known : AreTypesKnown old.tables.types) (have : HasTrees owners old.tables)
    (are : AreOwnersOf package_owners p) (own_known : AreOwnTypesKnown p) (package_whole : (given : Owner → Name → Tree) → IsWhole package_owners given p.types)
    (h : IsPushed eq features old p new id) (o : AreOwnedWith package_owners owners eq features old p new id h) (any : Owner → Name → Tree)
  where
    abbrev gives : Gives owners old.tables
    gives = graphs_give owners old.tables any owned whole known (have any)

    agreed : AreAgreed gives.given package_owners o.all old.tables h.foreign h.owners p
    agreed = pushed_agreed gives.given package_owners owners eq features old p new id tells stand owned (have gives.given) gives.by_graph are (package_whole gives.given) h o

    abbrev there : List TypeDef
    there = old.tables.types ++ h.put.added.parts.own_types.defs

    whole_there : IsWhole o.all gives.given there
    whole_there = whole_moved moved gives.given package_owners o.all eq features old p new id h (package_whole gives.given) agreed

    known_there : AreTypesKnown there
    known_there = there_known eq features old p new id h known own_known

    whole_then : IsWhole o.all gives.given new.tables.types
    whole_then =
        let a = h.put.added.parts in
        let few : length new.tables.worlds.listed ≤ length o.all.worlds = (let all = o.owned.so_many_worlds in omega (arith, all)) in
        added_whole law o.all new.tables.packages o.owned.apart gives.given _ _ _ _ _ _ a.own_worlds.added few (subst AreTypesKnown (sym a.own_types.types_are) known_there) (subst (IsWhole o.all gives.given) (sym a.own_types.types_are) whole_there)

pub pushed_trees : MovedTypesStandForTheSame → IncludedTypesStandForTheSame → PushedGraphsHaveTrees
pushed_trees moved law package_owners owners eq features old p new id tells stand owned whole known have are own_known package_whole h o given =
    let any : Owner → Name → Tree = λ w x. tree.primitive tree.bool in
    let g = gives moved law package_owners owners eq features old p new id tells stand owned whole known have are own_known package_whole h o any in
    known_alone o.all new.tables g.given given (pushed_known eq features old p new id h known own_known) (whole_then moved law package_owners owners eq features old p new id tells stand owned whole known have are own_known package_whole h o any)
