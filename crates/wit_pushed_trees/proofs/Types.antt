-- Types of a package that was pushed stand where they were put, with more behind.
use Rattle.std.proofs.Common.{◌≡◌, ℕ, Bool, List, [], ◌++◌, length, refl, sym, subst, ap, ◌∙◌, append_assoc}
use Rattle.std.proofs.lemmas.List.{append-nil, length-map, take-append-drop}
use Rattle.wit_types.specs.declared.kind.«Type».TheVariants as ref
use Rattle.wit_types.specs.declared.interface.Interface.{Interface}
use Rattle.wit_types.specs.declared.interface.TypeDef.{TypeDef}
use Rattle.wit_types.specs.declared.world.World.{World}
use Rattle.wit_types.specs.declared.world.WorldInclude.{WorldInclude}
use Rattle.wit_types.specs.declared.«package».PackageName.{PackageName}
use Rattle.wit_types.specs.declared.«package».UnresolvedPackage.{UnresolvedPackage}
use Rattle.wit_order.specs.Places.{Rows}
use Rattle.wit_features.specs.Features.{FeatureSet}
use Rattle.wit_arena.specs.Tree.{Name, Owner, Tree}
use Rattle.wit_arena.specs.Unfold.{Owners, IsWhole}
use Rattle.wit_arena.proofs.Unfolding.{ref_kept}
use Rattle.wit_moves.specs.Moved.{Places}
use Rattle.wit_moved_trees.specs.Law.{StandForTheSame, MovedTypesStandForTheSame}
use Rattle.wit_plans.specs.Plans.{Parts, found_of}
use Rattle.wit_plans.specs.declared.moves.MovedWorld.{MovedWorld}
use Rattle.wit_finding.specs.Types.{type_found}
use Rattle.wit_graph.specs.Passed.wit_joined-Joined as joined
use Rattle.wit_graph.specs.Passed.wit_joined-Joined.{Includes, includes_none, includes_one, own_state}
use Rattle.wit_graph.specs.Passed.wit_graph_worlds-Added.{AreAdded, none_added, one_added}
use Rattle.wit_graph.specs.Passed.wit_graph_worlds-Worlds.{State}
use Rattle.wit_graph.specs.Passed.wit_graph_parts-Own.{asked_types, own_parts}
use Rattle.wit_graph.specs.Graph.{Graph}
use Rattle.wit_graph.specs.Push.{IsPushed}
use Rattle.wit_pushed_trees.specs.Pushed.{AreAgreed, PushedTypesStandForTheSame}

-- ---- types that come with what worlds include

grown_more : (a b c : List TypeDef) → (more : List TypeDef) × (b ≡ a ++ more) → (more : List TypeDef) × (c ≡ b ++ more) → (more : List TypeDef) × (c ≡ a ++ more)
grown_more a b c (m, e) (n, f) = (m ++ n, f ∙ ap (λ (xs : List TypeDef). xs ++ n) e ∙ append_assoc a m n)

pub included_grow : (worlds : List World) (id : ℕ) (ns : List WorldInclude) (s t : joined.State) → Includes worlds id ns s t → (more : List TypeDef) × (t.types ≡ s.types ++ more)
included_grow worlds id _ s _ (includes_none _) = ([], sym (append-nil s.types))
included_grow worlds id _ s u (includes_one ns n _ t _ before at) =
    grown_more s.types t.types u.types (included_grow worlds id ns s t before) (at.1.types.items, ap (λ (x : joined.State). x.types) at.4)

pub added_grow : (interfaces : List Interface) (uses : Rows) (owner : ℕ) (ms : List MovedWorld) (s t : State) → AreAdded interfaces uses owner ms s t → (more : List TypeDef) × (t.types ≡ s.types ++ more)
added_grow interfaces uses owner _ s _ (none_added _) = ([], sym (append-nil s.types))
added_grow interfaces uses owner _ s u (one_added ms m _ t _ before a) =
    let sides = a.is_joined.sides in
    let more = included_grow t.worlds.listed (length t.worlds.listed) m.includes.items (own_state t.types m) sides.joined sides.includes in
    grown_more s.types t.types u.types (added_grow interfaces uses owner ms s t before) (more.0, sides.types_are ∙ more.1)

-- ---- all that were pushed

-- the types of a graph stay, with more behind
pub all_grow : (eq : PackageName → PackageName → Bool) (features : FeatureSet) (old : Graph) (p : UnresolvedPackage) (new : Graph) (id : ℕ) → IsPushed eq features old p new id → (more : List TypeDef) × (new.tables.types ≡ old.tables.types ++ more)
all_grow eq features old p new id h =
    let a = h.put.added.parts in
    let there : List TypeDef = old.tables.types ++ a.own_types.defs in
    let more = added_grow _ _ _ _ _ _ a.own_worlds.added in
    grown_more old.tables.types there new.tables.types (a.own_types.defs, refl) (more.0, more.1 ∙ ap (λ (b : List TypeDef). b ++ more.0) a.own_types.types_are)

-- what stands for the same does with more types behind
stand_kept : (given : Owner → Name → Tree) (places : Places) (package_owners graph_owners : Owners) (a b more : List TypeDef) → StandForTheSame given places package_owners a graph_owners b → StandForTheSame given places package_owners a graph_owners (b ++ more)
stand_kept given places package_owners graph_owners a b more stand i j t at h = ref_kept graph_owners given b more (ref.Id j) t (stand i j t at h)

module _ (moved : MovedTypesStandForTheSame) (given : Owner → Name → Tree) (package_owners graph_owners : Owners) (eq : PackageName → PackageName → Bool) (features : FeatureSet) (old : Graph) (p : UnresolvedPackage) (new : Graph) (id : ℕ)
    (h : IsPushed eq features old p new id) (whole : IsWhole package_owners given p.types) (agreed : AreAgreed given package_owners graph_owners old.tables h.foreign h.owners p)
  where
    abbrev parts : Parts
    parts = own_parts p

    abbrev own : List TypeDef
    own = parts.unknown ++ parts.types

    all_are : own ≡ p.types
    all_are = take-append-drop (asked_types p) p.types

    abbrev there : List TypeDef
    there = old.tables.types ++ h.put.added.parts.own_types.defs

    both_there : IsWhole graph_owners given there × StandForTheSame given h.places package_owners own graph_owners there
    both_there =
        moved given package_owners graph_owners features h.owners (found_of old.tables.interfaces.all h.foreign parts) h.places parts.unknown parts.types old.tables.types h.put.added.parts.own_types.defs record {
          package_whole = subst (IsWhole package_owners given) (sym all_are) whole;
          graph_whole = agreed.whole;
          so_many = length-map parts.unknown (type_found old.tables.interfaces.all h.foreign.interfaces);
          others_stand = subst (λ (a : List TypeDef). StandForTheSame given (found_of old.tables.interfaces.all h.foreign parts) package_owners a graph_owners old.tables.types) (sym all_are) agreed.found;
          owners_are = agreed.owners_are;
          placed = h.are_places.planned.types_are;
          are_moved = h.put.added.parts.own_types.are_moved;
        }

    pub whole_moved : IsWhole graph_owners given there
    whole_moved = both_there.0

    stand_there : StandForTheSame given h.places package_owners own graph_owners there
    stand_there = both_there.1

    pub stand_then : StandForTheSame given h.places package_owners p.types graph_owners there
    stand_then = subst (λ (a : List TypeDef). StandForTheSame given h.places package_owners a graph_owners there) all_are stand_there

    pub stand : StandForTheSame given h.places package_owners p.types graph_owners new.tables.types
    stand =
        let a = h.put.added.parts in
        let more = added_grow _ _ _ _ _ _ a.own_worlds.added in
        subst (λ (b : List TypeDef). StandForTheSame given h.places package_owners p.types graph_owners b) (sym (more.1 ∙ ap (λ (b : List TypeDef). b ++ more.0) a.own_types.types_are))
        (stand_kept given h.places package_owners graph_owners p.types there more.0 (subst (λ (a : List TypeDef). StandForTheSame given h.places package_owners a graph_owners there) all_are stand_there))

pub pushed_stand : MovedTypesStandForTheSame → PushedTypesStandForTheSame
pushed_stand moved given package_owners graph_owners eq features old p new id h whole agreed = stand moved given package_owners graph_owners eq features old p new id h whole agreed
