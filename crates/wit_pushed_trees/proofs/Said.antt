-- Worlds of a graph import and export what texts say.
use Rattle.std.proofs.Common.{◌≡◌, ◌<◌, ◌≤◌, ℕ, ◌+◌, Bool, true, false, List, [], ◌∷◌, ◌++◌, length, length-append, map, Option, Some, None, inl, inr, refl, sym, subst, ap, ◌∙◌, arith}
use Rattle.std.proofs.lemmas.List.{append-nil}
use Rattle.std.proofs.lemmas.Option.{same_Some, slice_get_within}
use Rattle.std.proofs.lemmas.Bool.{cases_Bool}
use Rattle.std.specs.Prelude.{String, option_map, is_some, slice_get, string_bytes}
use Rattle.std.specs.Option.{unwrap_or}
use Rattle.std.specs.List.{AllZip}
use Rattle.std.specs.declared.alloc.Global.{Global}
use Rattle.wit_words.specs.declared.source_map.Span.{Span}
use Rattle.wit_order.specs.Order as order
use Rattle.wit_order.specs.Places.{Rows}
use Rattle.wit_types.specs.WorldKey.{key_eq, known}
use Rattle.wit_types.specs.declared.kind.TypeDefKind.{TypeDefKind}
use Rattle.wit_types.specs.declared.kind.TypeDefKind.TheVariants as kind
use Rattle.wit_types.specs.declared.kind.«Type».TheVariants as ref
use Rattle.wit_types.specs.declared.interface.TypeOwner.{TypeOwner}
use Rattle.wit_types.specs.declared.kind.«Type».{«Type» as Ref}
use Rattle.wit_types.specs.declared.function.Function.{Function}
use Rattle.wit_types.specs.declared.function.FunctionKind.{FunctionKind}
use Rattle.wit_types.specs.declared.function.FunctionKind.TheVariants as function_kind
use Rattle.wit_types.specs.declared.function.Param.{Param}
use Rattle.wit_types.specs.declared.interface.Interface.{Interface}
use Rattle.wit_types.specs.declared.interface.TypeDef.{TypeDef}
use Rattle.wit_types.specs.declared.interface.TypeOwner.TheVariants as belongs
use Rattle.wit_types.specs.declared.stability.Stability.{Stability}
use Rattle.wit_types.specs.declared.world.IncludeName.{IncludeName}
use Rattle.wit_types.specs.declared.world.World.{World}
use Rattle.wit_types.specs.declared.world.WorldInclude.{WorldInclude}
use Rattle.wit_types.specs.declared.world.WorldItem.{WorldItem}
use Rattle.wit_types.specs.declared.world.WorldItem.TheVariants as item
use Rattle.wit_types.specs.declared.world_key.WorldKey.{WorldKey}
use Rattle.wit_types.specs.declared.«package».Package.{Package}
use Rattle.wit_types.specs.declared.«package».PackageName.{PackageName}
use Rattle.wit_types.specs.declared.«package».UnresolvedPackage.{UnresolvedPackage}
use Rattle.wit_features.specs.Features.{FeatureSet, stays}
use Rattle.wit_rules.specs.Labels.{full_name}
use Rattle.wit_scopes.specs.Scopes.{WorldScope, IncludedTree}
use Rattle.wit_scopes.specs.declared.worlds.Side.{Side}
use Rattle.wit_scopes.specs.declared.worlds.Side.TheVariants.{Import, Export}
use Rattle.wit_sides.specs.Renames.{IsRenamed}
use Rattle.wit_sides.specs.Sides.{AreUnited, no_entries, first_of_its_key, key_again}
use Rattle.wit_copies.specs.Copies.{goes}
use Rattle.wit_copies.specs.Same.{IsSameKey, IsSameParam, IsSameFunction, IsSameItem}
use Rattle.wit_moves.specs.Moved.{moved_function_kind, place_of, resource_of, to}
use Rattle.wit_moves.specs.Plan.{OwnerPlaces}
use Rattle.wit_moved_trees.specs.Law.{StandForTheSame, MovedTypesStandForTheSame, MovedFunctionsStandForTheSame}
use Rattle.wit_graph.proofs.Passed.wit_placed-Own.{worlds_take_places_alone}
use Rattle.wit_plans.specs.Plans.{standing}
use Rattle.wit_graph.specs.Passed.wit_graph_parts-Own.{asked, own_parts}
use Rattle.wit_graph.specs.Graph.{Graph, AreWhole}
use Rattle.wit_graph.specs.Push.{IsPushed}
use Rattle.wit_includes.specs.Included.{AreIncludedEntries, copies_behind}
use Rattle.wit_reach.specs.Ids.{signature_ids, resource_ids, item_ids, side_ids}
use Rattle.wit_reach.specs.Types.{is_local, IsLocalAt, IsOfItem}
use Rattle.wit_order.proofs.Lists.{has_was}
use Rattle.wit_reach.proofs.Lists.{has_append}
use Rattle.wit_reach.proofs.Holding.{got}
use Rattle.wit_well_formed.proofs.Passed.wit_interfaces-Behind.{get_either}
use Rattle.wit_arena.specs.Tree.{Name, PackageText, Place, in_world, Owner, Tree, TreeOption, Trees, named_tree, resource_leaf}
use Rattle.wit_arena.specs.Unfold.{Owners, and_then, part_tree, part_trees, owner_of, kind_tree, named_kind_tree, def_tree, def_tree_of, trees_from, trees, IsWhole}
use Rattle.wit_arena.specs.Standing.{HasTree, Stands}
use Rattle.wit_arena.specs.Meaning.{Has, MeansParts}
use Rattle.wit_arena.proofs.Lists.{has_none, has_here, has_later, has_cases, has_right, get_kept, get_last, get_more}
use Rattle.wit_arena.proofs.Unfolding.{part_kept, ref_kept, flat_some, def_at}
use Rattle.wit_well_formed.specs.Passed.wit_resolved_scopes-Meaning.{written_parts}
use Rattle.wit_well_formed.specs.Passed.wit_resolved_scopes-Texts.{own_members}
use Rattle.wit_graph.specs.Passed.wit_joined-Joined as joined
use Rattle.wit_graph.specs.Passed.wit_joined-Joined.{Includes, includes_none, includes_one, own_state}
use Rattle.wit_plans.specs.declared.moves.MovedWorld.{MovedWorld}
use Rattle.wit_graph.specs.Passed.wit_graph_worlds-Added.{AreAdded, none_added, one_added}
use Rattle.wit_graph.specs.Passed.wit_graph_worlds-Copies.{AreSameEntries}
use Rattle.wit_graph.specs.Passed.wit_graph_worlds-Worlds.{State}
use Rattle.wit_copied_trees.proofs.Members.{has_place, goes_own}
use Rattle.wit_copied_trees.specs.Law.{IsOfTrees, AreIncludedBehind, IncludedTypesStandForTheSame, IncludedFunctionsStandForTheSame}
use Rattle.wit_pushed_trees.specs.Apart.{AreWorldsApart}
use Rattle.wit_pushed_trees.specs.Found.{TellsNamesApart, NamesOfGraphStand, AreFoundByName, IsGivenBy}
use Rattle.wit_pushed_trees.specs.Known.{AreTypesKnown, AreOwnTypesKnown}
use Rattle.wit_pushed_trees.specs.Pushed.{AreAgreed}
use Rattle.wit_pushed_trees.specs.Whole.{HasTrees}
use Rattle.wit_pushed_trees.specs.Meaning.{FunctionSort, sort_of, written_sort, param_names, written_names}
use Rattle.wit_pushed_trees.specs.Meant.{PackageTexts, IsOfTexts}
use Rattle.wit_pushed_trees.specs.Owned.{AreOwnersOf, AreOwned, AreOwnedWith, HaveMoreOwners}
use Rattle.wit_pushed_trees.specs.Said.{world_owner, included_owner, IsIncludeWritten, SaysFunction, says_function, includes_function, SaysType, says_type, includes_type, SaysInterface, says_interface, includes_interface, IsFunctionSaid, IsInterfaceSaid, IsTypeSaid, IsSideSaid, IsWorldSaid, AreSaid, AreWorldsSaid, EmptyWorldsAreSaid, PushedWorldsAreSaid, IsRenamedResource, IsResourceSaid, HasResourceSaid}
use Rattle.wit_pushed_trees.specs.Worlds.{IsTypeMeant, IsOwnFunctionMeant, IsInterfaceListed, IsIncludeMeant, IsWorldMeant}
use Rattle.wit_pushed_trees.proofs.Agreeing.{same_trees}
use Rattle.wit_pushed_trees.proofs.Finding.{asked_found}
use Rattle.wit_pushed_trees.proofs.Gates.{written_goes}
use Rattle.wit_pushed_trees.proofs.Graphs.{sort_moved, worlds_go_at}
use Rattle.wit_pushed_trees.proofs.Knowing.{included_known, added_known, there_known}
use Rattle.wit_pushed_trees.proofs.Meant.{tree_still, parts_more, by_old, agreed}
use Rattle.wit_pushed_trees.proofs.Parts.{parts_split}
use Rattle.wit_pushed_trees.proofs.MeantWorlds.{world_still}
use Rattle.wit_pushed_trees.proofs.Owned.{worlds_added}
use Rattle.wit_pushed_trees.proofs.Types.{included_grow, added_grow, stand_then, whole_moved}
use Rattle.wit_pushed_trees.proofs.Wholes.{others, included_whole, added_whole}
use Rattle.wit_pushed_trees.proofs.Texts.{sort_is}
use Rattle.wit_pushed_trees.specs.Staying.{resource_text}
use Rattle.wit_pushed_trees.proofs.SaidResources.{IsOf, of_saying, own_is, own_meaning, own_renamed, kind_resource, resource_so, meant_resource, text_remains, type_remains, function_remains}
use Rattle.wit_pushed_trees.proofs.SaidItems.{came, same_from, came_function, same_type_from, came_type, key_came, key_same, same_interface_from, came_interface}

-- ---- more texts

module _ (all more : List PackageTexts) (given : Owner → Name → Tree) (side : Side) where
  among_more : (one : PackageTexts) → Has all one → Has (all ++ more) one
  among_more one (k, at) = (k, get_kept all more k one at)

  written_more : (one : PackageTexts) (w : WorldScope) (i : IncludedTree) (names : List IncludeName) → IsIncludeWritten all one w i names → IsIncludeWritten (all ++ more) one w i names
  written_more one w i names is = record { among = among_more one is.among; text = is.text; there = is.there; names_are = is.names_are; remains = is.remains }

  function_more : (w : Owner) (x : Name) (b : FunctionSort) (o : Option Name) (xs : List Name) (ps : Trees) (r : TreeOption) → SaysFunction all given side w x b o xs ps r → SaysFunction (all ++ more) given side w x b o xs ps r
  function_more _ _ _ _ _ _ _ (says_function one w x m ps r among text on gives remains means) = says_function one w x m ps r (among_more one among) text on gives remains means
  function_more _ _ _ _ _ _ _ (includes_function one w i names x y b o p xs ps qs r q is says renamed of trees part) =
      includes_function one w i names x y b o p xs ps qs r q (written_more one w i names is) (function_more (included_owner one i) x b o xs ps r says) renamed of trees part

  type_more : (w : Owner) (x : Name) (t : Tree) → SaysType all given w x t → SaysType (all ++ more) given w x t
  type_more _ _ _ (says_type one w x t among text remains means) = says_type one w x t (among_more one among) text remains means
  type_more _ _ _ (includes_type one w i names x y t u is says renamed tree) = includes_type one w i names x y t u (written_more one w i names is) (type_more (included_owner one i) x t says) renamed tree

  interface_more : (w whose : Owner) → SaysInterface all side w whose → SaysInterface (all ++ more) side w whose
  interface_more _ _ (says_interface one w l whose among text there on remains is) = says_interface one w l whose (among_more one among) text there on remains is
  interface_more _ _ (includes_interface one w i names whose is says) = includes_interface one w i names whose (written_more one w i names is) (interface_more (included_owner one i) whose says)

-- ---- more types and owners

module _ (given : Owner → Name → Tree) (owners : Owners) (a more : List TypeDef) where
  parts_behind : (ps : List (Option Ref)) (ts : Trees) → part_trees (trees owners given a) ps ≡ Some ts → part_trees (trees owners given (a ++ more)) ps ≡ Some ts
  parts_behind = parts_more given owners owners a more refl

  of_trees_behind : (f : Function) (xs : List Name) (ps : Trees) (r : TreeOption) → IsOfTrees owners given a f xs ps r → IsOfTrees owners given (a ++ more) f xs ps r
  of_trees_behind f xs ps r is = record {
    names_are = is.names_are;
    params_are = parts_behind (map (λ (p : Param). Some p.ty) f.params.items) ps is.params_are;
    result_is = part_kept owners given a more f.result r is.result_is;
  }

  side_behind : (all : List PackageTexts) (side : Side) (w : Owner) (es : List (WorldKey × WorldItem)) → IsSideSaid all given owners a side w es → IsSideSaid all given owners (a ++ more) side w es
  side_behind all side w es is = record {
    functions = λ k f has. (let s = is.functions k f has in record {
      params = s.params;
      result = s.result;
      trees = of_trees_behind f (param_names f) s.params s.result s.trees;
      of = s.of;
      resource = resource_so all all given owners owners a (a ++ more) w (λ i x r. record { tree = r.tree; stands = ref_kept owners given a more (ref.Id i) r.tree r.stands; own = r.own; says = r.says }) (resource_of f.kind) s.of s.resource;
      says = s.says;
    });
    interfaces = is.interfaces;
    types = λ k i span has. (let s = is.types k i span has in record { spelling = s.spelling; known_by = s.known_by; tree = s.tree; stands = ref_kept owners given a more (ref.Id i) s.tree s.stands; says = s.says });
  }

  said_behind : (all : List PackageTexts) (worlds : List World) → AreSaid all given owners a worlds → AreSaid all given owners (a ++ more) worlds
  said_behind all worlds said place d w at whose = (let s = said place d w at whose in record { imports = side_behind all Import w d.imports.entries s.imports; exports = side_behind all Export w d.exports.entries s.exports })

-- ---- what a world has itself

owner_is : (one : PackageTexts) (w : Owner) (name : Name) → w.package_text ≡ one.context.me → w.place ≡ in_world name → (t : WorldScope) → name ≡ t.name.text → world_owner one t ≡ w
owner_is one w name me_is place_is t named =
    ap (λ (x : PackageText). record { package_text = x; place = in_world t.name.text }) (sym me_is)
    ∙ ap (λ (x : Name). record { package_text = w.package_text; place = in_world x }) (sym named)
    ∙ ap (λ (x : Place). record { package_text = w.package_text; place = x }) (sym place_is)

module _ (all : List PackageTexts) (one : PackageTexts) (among : Has all one) (given : Owner → Name → Tree) (owners : Owners) (types : List TypeDef) (m : MovedWorld) (w : Owner)
    (me_is : w.package_text ≡ one.context.me) (place_is : w.place ≡ in_world (string_bytes m.name))
    (means : IsWorldMeant (stays one.features) given one.context owners types one.worlds m.name m.stability m.imports.items m.exports.items m.includes.items)
  where
    own_function : (side : Side) (f : Function) → IsOwnFunctionMeant (stays one.features) given one.context owners types one.worlds m.name m.stability side f → IsFunctionSaid all given owners types side w f
    own_function side f is =
        let split = parts_split (trees owners given types) (map (λ (q : Param). Some q.ty) f.params.items) f.result is.is.means.parts is.is.means.unfolds in
        let of : Option Name = resource_text is.is.member.kind in
        let remains = function_remains one.features types (own_members is.text.members) is.is.member f is.gates is.resource in
        let says : SaysFunction all given side (world_owner one is.text) (full_name is.is.member.kind is.is.member.name) (written_sort is.is.member.kind) of (written_names is.is.member) split.front split.last =
        says_function one is.text is.giver is.is.member split.front split.last among (text_remains one m.name m.stability is.text is.is_text) is.on_side is.gives remains
        (subst (MeansParts one.context.me one.context.scopes given (in_world is.text.name.text) (written_parts is.is.member)) split.are is.is.means.mean) in
        record {
          params = split.front;
          result = split.last;
          trees = record { names_are = refl; params_are = split.front_is; result_is = split.last_is };
          of = of;
          resource = subst (λ (v : Owner). HasResourceSaid all given owners types v (resource_of f.kind) of) (owner_is one w (string_bytes m.name) me_is place_is is.text is.is_text.named)
              (meant_resource all given owners types (world_owner one is.text) (λ (x : Name) (i : ℕ). Stands one.context.me one.context.scopes given owners types (in_world is.text.name.text) x i)
              (resource_of f.kind) of
              (λ i x named s. record { tree = s.0; stands = s.1; own = own_meaning one.context.me one.context.scopes given (in_world is.text.name.text) x s.0 s.2; says = says_type one is.text x s.0 among (text_remains one m.name m.stability is.text is.is_text) (remains.resource x named) s.2 })
              (kind_resource (λ (x : Name) (i : ℕ). Stands one.context.me one.context.scopes given owners types (in_world is.text.name.text) x i) is.is.member.kind f.kind is.is.kind));
          says = subst (λ (v : Owner). SaysFunction all given side v (string_bytes f.name) (sort_of f.kind) of (param_names f) split.front split.last) (owner_is one w (string_bytes m.name) me_is place_is is.text is.is_text.named)
              (subst (λ (x : Name). SaysFunction all given side (world_owner one is.text) x (sort_of f.kind) of (param_names f) split.front split.last) (sym is.is.named)
              (subst (λ (b : FunctionSort). SaysFunction all given side (world_owner one is.text) (full_name is.is.member.kind is.is.member.name) b of (param_names f) split.front split.last) (sym (sort_is _ is.is.member.kind f.kind is.is.kind))
              (subst (λ (xs : List Name). SaysFunction all given side (world_owner one is.text) (full_name is.is.member.kind is.is.member.name) (written_sort is.is.member.kind) of xs split.front split.last) (sym is.is.params_named) says)));
        }

    own_interface : (side : Side) (k : WorldKey) (i : ℕ) (gate : Stability) → IsInterfaceListed (stays one.features) one.context owners one.worlds m.name m.stability side k i gate → IsInterfaceSaid all owners side w i
    own_interface side k i gate is = record {
      whose = is.whose;
      owner = is.owner;
      says = subst (λ (v : Owner). SaysInterface all side v is.whose) (owner_is one w (string_bytes m.name) me_is place_is is.text is.is_text.named) (says_interface one is.text is.listed is.whose among (text_remains one m.name m.stability is.text is.is_text) is.there is.side_is (gate, is.gates.0, is.gates.1) is.listed_as);
    }

    own_type : (k : WorldKey) (i : ℕ) → IsTypeMeant (stays one.features) given one.context owners types one.worlds m.name m.stability k i → IsTypeSaid all given owners types w k i
    own_type k i is = record {
      spelling = is.spelling;
      known_by = is.known_by;
      tree = is.means.0;
      stands = is.means.1;
      says = subst (λ (v : Owner). SaysType all given v is.spelling is.means.0) (owner_is one w (string_bytes m.name) me_is place_is is.text is.is_text.named) (says_type one is.text is.spelling is.means.0 among (text_remains one m.name m.stability is.text is.is_text) (type_remains one.features types (own_members is.text.members) is.spelling i is.written) is.means.2);
    }

    own_imports : IsSideSaid all given owners types Import w m.imports.items
    own_imports = record {
      functions = λ k f has. own_function Import f (means.imported_functions k f has);
      interfaces = λ k i gate span has. own_interface Import k i gate (means.imported k i gate span has);
      types = λ k i span has. own_type k i (means.own_types k i span has);
    }

    own_exports : IsSideSaid all given owners types Export w m.exports.items
    own_exports = record {
      functions = λ k f has. own_function Export f (means.exported_functions k f has);
      interfaces = λ k i gate span has. own_interface Export k i gate (means.exported k i gate span has);
      types = λ k i span has. absurd (means.no_exported_types k i span has);
    }

-- ---- types of one owner

module _ (given : Owner → Name → Tree) (done : List (Option Tree)) (v w : Owner) (x : Name) (t : Tree) (is : IsOf v t) where
  named_whose : (o : Option Tree) → option_map (named_tree w x) o ≡ Some t → w ≡ v
  named_whose None e = absurd (let bad : None ≡ Some t = e in cc)
  named_whose (Some u) e = subst (IsOf v) (sym (same_Some (named_tree w x u) t e)) is

  kind_whose : (k : TypeDefKind) → (k ≡ kind.Unknown → ⊥) → named_kind_tree given done w x k ≡ Some t → w ≡ v
  kind_whose (kind.Record r) known e = named_whose (kind_tree done (kind.Record r)) e
  kind_whose kind.Resource known e = subst (IsOf v) (sym (same_Some (resource_leaf w x) t e)) is
  kind_whose (kind.Handle h) known e = named_whose (kind_tree done (kind.Handle h)) e
  kind_whose (kind.Flags f) known e = named_whose (kind_tree done (kind.Flags f)) e
  kind_whose (kind.Tuple r) known e = named_whose (kind_tree done (kind.Tuple r)) e
  kind_whose (kind.Variant r) known e = named_whose (kind_tree done (kind.Variant r)) e
  kind_whose (kind.Enum r) known e = named_whose (kind_tree done (kind.Enum r)) e
  kind_whose (kind.Option r) known e = named_whose (kind_tree done (kind.Option r)) e
  kind_whose (kind.Result r) known e = named_whose (kind_tree done (kind.Result r)) e
  kind_whose (kind.List r) known e = named_whose (kind_tree done (kind.List r)) e
  kind_whose (kind.FixedLengthList r n) known e = named_whose (kind_tree done (kind.FixedLengthList r n)) e
  kind_whose (kind.Future r) known e = named_whose (kind_tree done (kind.Future r)) e
  kind_whose (kind.Stream r) known e = named_whose (kind_tree done (kind.Stream r)) e
  kind_whose (kind.Alias r) known e = named_whose (kind_tree done (kind.Alias r)) e
  kind_whose kind.Unknown known e = absurd (known refl)

-- what stands for a type of a world belongs to it, or nowhere
module _ (owners : Owners) (given : Owner → Name → Tree) (from : ℕ) (v : Owner) (theirs : (o : TypeOwner) (u : Owner) → is_local from o ≡ false → owner_of owners o ≡ Some u → u ≡ v → ⊥) where
  local_of : (done : List (Option Tree)) (n : Option (String Global)) (o : TypeOwner) (k : TypeDefKind) (t : Tree) (w : Option Owner) → owner_of owners o ≡ w → (k ≡ kind.Unknown → ⊥) → IsOf v t → def_tree_of owners given done n o k ≡ Some t → is_local from o ≡ true
  local_of done None belongs.None k t w whose known is e = refl
  local_of done None (belongs.World j) k t w whose known is e = absurd (let bad : None ≡ Some t = e in cc)
  local_of done None (belongs.Interface j) k t w whose known is e = absurd (let bad : None ≡ Some t = e in cc)
  local_of done (Some x) o k t None whose known is e =
      absurd (let bad : and_then (λ (u : Owner). named_kind_tree given done u (string_bytes x) k) None ≡ Some t = ap (and_then (λ (u : Owner). named_kind_tree given done u (string_bytes x) k)) (sym whose) ∙ e in cc)
  local_of done (Some x) o k t (Some u) whose known is e =
      let one : named_kind_tree given done u (string_bytes x) k ≡ Some t = ap (and_then (λ (u : Owner). named_kind_tree given done u (string_bytes x) k)) (sym whose) ∙ e in
      let mine : u ≡ v = kind_whose given done v u (string_bytes x) t is k known one in
      elim (cases_Bool (is_local from o)) as (λ _. is_local from o ≡ true) [ inl local ↦ local | inr distant ↦ absurd (theirs o u distant whose mine) ]

  size : (done : List (Option Tree)) (xs : List TypeDef) → length (trees_from owners given done xs) ≡ length done + length xs
  size done [] = omega arith
  size done (x ∷ xs) = (let e = size (done ++ def_tree owners given done x ∷ []) xs in let l = length-append done (def_tree owners given done x ∷ []) in omega (arith, e, l))

  local_at : (a : List TypeDef) → IsWhole owners given a → AreTypesKnown a → (i : ℕ) (t : Tree) → HasTree owners given a i t → IsOf v t → IsLocalAt from a i
  local_at a whole known i t has is =
      let within : i < length a = (let l : i < length (trees owners given a) = slice_get_within (trees owners given a) i (Some t) (flat_some (slice_get (trees owners given a) i) t has) in let e = size [] a in omega (arith, l, e)) in
      let d = got a i within in
      let def = def_at owners given a i d.0 whole d.1 in
      let same : def.0 ≡ t = same_Some def.0 t (sym def.1 ∙ has) in
      (d.0, d.1, local_of (trees owners given a) d.0.name d.0.owner d.0.kind t (owner_of owners d.0.owner) refl (known i d.0 d.1) is (def.2 ∙ ap (λ (u : Tree). Some u) same))

-- ---- an include

-- of what is moved the resource is
resource_moved : (goes : ℕ → ℕ) (k : FunctionKind) → resource_of (moved_function_kind goes k) ≡ option_map goes (resource_of k)
resource_moved goes function_kind.Freestanding = refl
resource_moved goes function_kind.AsyncFreestanding = refl
resource_moved goes (function_kind.Method r) = refl
resource_moved goes (function_kind.AsyncMethod r) = refl
resource_moved goes (function_kind.Static r) = refl
resource_moved goes (function_kind.AsyncStatic r) = refl
resource_moved goes (function_kind.Constructor r) = refl

-- it is among the types of the function
resource_among : (k : FunctionKind) (i : ℕ) → resource_of k ≡ Some i → order.Has (resource_ids k) i
resource_among function_kind.Freestanding i e = absurd cc
resource_among function_kind.AsyncFreestanding i e = absurd cc
resource_among (function_kind.Method r) i e = inl (sym (same_Some r i e))
resource_among (function_kind.AsyncMethod r) i e = inl (sym (same_Some r i e))
resource_among (function_kind.Static r) i e = inl (sym (same_Some r i e))
resource_among (function_kind.AsyncStatic r) i e = inl (sym (same_Some r i e))
resource_among (function_kind.Constructor r) i e = inl (sym (same_Some r i e))

side_has : (es : List (WorldKey × WorldItem)) (k : WorldKey) (x : WorldItem) (i : ℕ) → Has es (k, x) → order.Has (item_ids x) i → order.Has (side_ids es) i
side_has [] k x i has of = absurd (has_none (k, x) has)
side_has (e ∷ es) k x i has of = elim (has_cases e es (k, x) has) as (λ _. order.Has (side_ids (e ∷ es)) i) [
  | inl here ↦ has_was (item_ids e.1) (side_ids es) i (subst (λ (y : WorldItem). order.Has (item_ids y) i) (ap (λ (z : WorldKey × WorldItem). z.1) here) of)
  | inr later ↦ has_append (item_ids e.1) (side_ids es) i (side_has es k x i later of)
]

module _ (law_types : IncludedTypesStandForTheSame) (law : IncludedFunctionsStandForTheSame) (all : List PackageTexts) (one : PackageTexts) (among : Has all one) (given : Owner → Name → Tree) (owners : Owners) (m : MovedWorld) (w : Owner)
    (me_is : w.package_text ≡ one.context.me) (place_is : w.place ≡ in_world (string_bytes m.name))
    (n : WorldInclude) (is : IsIncludeMeant (stays one.features) one.context owners one.worlds m.name m.stability n) (into : ℕ) (d : World) (a : List TypeDef) (own : List ℕ) (new : List TypeDef)
    (behind : AreIncludedBehind n.names.items owners given n.id into (included_owner one is.written) (world_owner one is.text) d a own new)
  where
    written : IsIncludeWritten all one is.text is.written n.names.items
    written = record { among = among; text = text_remains one m.name m.stability is.text is.is_text; there = is.there; names_are = is.names; remains = (n.stability, is.gates.0, is.gates.1) }

    module _ (side : Side) (es fs : List (WorldKey × WorldItem)) (of_world : (i : ℕ) → order.Has (side_ids es) i → IsOfItem d i) (entries : AreIncludedEntries n.names.items (copies_behind a own) es fs)
        (said : IsSideSaid all given owners a side (included_owner one is.written) es)
      where
        -- the resource that a function is of comes with it
        brought_resource : (k l : FunctionKind) → resource_of l ≡ option_map (goes (copies_behind a own)) (resource_of k) → (x : Option Name) → HasResourceSaid all given owners a (included_owner one is.written) (resource_of k) x
            → ((i : ℕ) → resource_of k ≡ Some i → IsOfItem d i)
            → (y : Option Name) × IsRenamedResource n.names.items x y × HasResourceSaid all given owners (a ++ new) (world_owner one is.text) (resource_of l) y
        brought_resource k l goes_with x has listed = by (resource_of k) refl x has
          where
            by : (o : Option ℕ) → resource_of k ≡ o → (z : Option Name) → HasResourceSaid all given owners a (included_owner one is.written) o z
                → (y : Option Name) × IsRenamedResource n.names.items z y × HasResourceSaid all given owners (a ++ new) (world_owner one is.text) (resource_of l) y
            by None none None has = (None, tt, subst (λ (o : Option ℕ). HasResourceSaid all given owners (a ++ new) (world_owner one is.text) o None) (sym (goes_with ∙ ap (option_map (goes (copies_behind a own))) none)) tt)
            by None none (Some z) has = absurd has
            by (Some i) some None has = absurd has
            by (Some i) some (Some z) has =
                let local : IsLocalAt n.id a i = local_at owners given n.id (included_owner one is.written) behind.apart a behind.whole behind.known i has.tree has.stands (own_is (included_owner one is.written) z has.tree has.own) in
                let mine : order.Has own i = behind.are_own.all i i (listed i some, local) ([], refl) in
                let at = has_place own i mine in
                let stands = (law_types n.names.items owners given n.id into (included_owner one is.written) (world_owner one is.text) d a own new behind).1 at.0 i has.tree at.1 has.stands in
                let place : goes (copies_behind a own) i ≡ length a + at.0 = goes_own a own at.0 i behind.are_own.rising at.1 in
                let y = own_renamed n.names.items (included_owner one is.written) (world_owner one is.text) z has.tree stands.0 stands.1 has.own in
                let there : IsResourceSaid all given owners (a ++ new) (world_owner one is.text) (goes (copies_behind a own) i) y.0 = record {
                  tree = stands.0;
                  stands = subst (λ (j : ℕ). HasTree owners given (a ++ new) j stands.0) (sym place) stands.2;
                  own = y.2;
                  says = includes_type one is.text is.written n.names.items z y.0 has.tree stands.0 written has.says y.1 stands.1;
                } in
                (Some y.0, y.1, subst (λ (o : Option ℕ). HasResourceSaid all given owners (a ++ new) (world_owner one is.text) o (Some y.0)) (sym (goes_with ∙ ap (option_map (goes (copies_behind a own))) some)) there)

        brought_function : (k : WorldKey) (h : Function) → Has fs (k, item.Function h) → IsFunctionSaid all given owners (a ++ new) side (world_owner one is.text) h
        brought_function k h has =
            let c = came_function n.names.items (copies_behind a own) es k h (came n.names.items (copies_behind a own) es fs entries k (item.Function h) has) in
            let was = said.functions c.key c.f c.there in
            let within : (i : ℕ) → order.Has (signature_ids c.f) i → IsLocalAt n.id a i → order.Has own i =
            λ i here local. behind.are_own.all i i (of_world i (side_has es c.key (item.Function c.f) i c.there (has_append (resource_ids c.f.kind) (signature_ids c.f) i here)), local) ([], refl) in
            let r = law n.names.items owners given n.id into (included_owner one is.written) (world_owner one is.text) d a own new c.f c.g c.between (param_names c.f) was.params was.result behind within c.is_same c.is_moved was.trees in
            let kind_is : sort_of c.between.kind ≡ sort_of c.f.kind = ap sort_of c.is_moved.kind ∙ sort_moved (goes (copies_behind a own)) c.g.kind ∙ ap sort_of c.is_same.kind in
            let name_is : string_bytes c.between.name ≡ string_bytes c.f.name = ap (λ (x : String Global). string_bytes x) c.is_moved.name ∙ c.is_same.name in
            let o = brought_resource c.f.kind c.between.kind (ap resource_of c.is_moved.kind ∙ resource_moved (goes (copies_behind a own)) c.g.kind ∙ ap (λ (k : FunctionKind). option_map (goes (copies_behind a own)) (resource_of k)) c.is_same.kind) was.of was.resource
            (λ i here. of_world i (side_has es c.key (item.Function c.f) i c.there (has_was (resource_ids c.f.kind) (signature_ids c.f) i (resource_among c.f.kind i here)))) in
            let says : SaysFunction all given side (world_owner one is.text) (string_bytes c.to) (sort_of c.f.kind) o.0 (param_names c.f) r.0 r.1 =
            includes_function one is.text is.written n.names.items (string_bytes c.f.name) (string_bytes c.to) (sort_of c.f.kind) was.of o.0 (param_names c.f) was.params r.0 was.result r.1 written was.says
            (subst (λ (x : Name). IsRenamed n.names.items x (string_bytes c.to)) name_is c.renamed) o.1 r.2 r.3 in
            let there : IsFunctionSaid all given owners (a ++ new) side (world_owner one is.text) (record c.between { name = c.to }) = record {
              params = r.0;
              result = r.1;
              trees = record { names_are = refl; params_are = r.4.params_are; result_is = r.4.result_is };
              of = o.0;
              resource = o.2;
              says = subst (λ (b : FunctionSort). SaysFunction all given side (world_owner one is.text) (string_bytes c.to) b o.0 (param_names c.between) r.0 r.1) (sym kind_is)
                  (subst (λ (xs : List Name). SaysFunction all given side (world_owner one is.text) (string_bytes c.to) (sort_of c.f.kind) o.0 xs r.0 r.1) (sym r.4.names_are) says);
            } in
            subst (IsFunctionSaid all given owners (a ++ new) side (world_owner one is.text)) (sym c.is) there

        brought_interface : (k : WorldKey) (i : ℕ) (gate : Stability) (span : Span) → Has fs (k, item.Interface i gate span) → IsInterfaceSaid all owners side (world_owner one is.text) i
        brought_interface k i gate span has =
            let c = came_interface n.names.items (copies_behind a own) es k i gate span (came n.names.items (copies_behind a own) es fs entries k (item.Interface i gate span) has) in
            let was = said.interfaces c.0 i c.1 c.2 c.3 in
            record { whose = was.whose; owner = was.owner; says = includes_interface one is.text is.written n.names.items was.whose written was.says }

        brought_type : (k : WorldKey) (i : ℕ) (span : Span) → Has fs (k, item.TypeItem i span) → IsTypeSaid all given owners (a ++ new) (world_owner one is.text) k i
        brought_type k i span has =
            let r = came n.names.items (copies_behind a own) es fs entries k (item.TypeItem i span) has in
            let c = came_type n.names.items (copies_behind a own) es k i span r in
            let was = said.types r.first c.0 c.1 c.2 in
            let key = key_came n.names.items r.first r.between k was.spelling r.same_key r.renamed_key was.known_by in
            let local : IsLocalAt n.id a c.0 = local_at owners given n.id (included_owner one is.written) behind.apart a behind.whole behind.known c.0 was.tree was.stands (of_saying all given (included_owner one is.written) was.spelling was.tree was.says) in
            let mine : order.Has own c.0 = behind.are_own.all c.0 c.0 ((of_world c.0 (side_has es r.first (item.TypeItem c.0 c.1) c.0 c.2 (inl refl))), local) ([], refl) in
            let at = has_place own c.0 mine in
            let stands = (law_types n.names.items owners given n.id into (included_owner one is.written) (world_owner one is.text) d a own new behind).1 at.0 c.0 was.tree at.1 was.stands in
            let place : i ≡ length a + at.0 = c.3 ∙ goes_own a own at.0 c.0 behind.are_own.rising at.1 in
            record {
              spelling = key.0;
              known_by = key.1;
              tree = stands.0;
              stands = subst (λ (j : ℕ). HasTree owners given (a ++ new) j stands.0) (sym place) stands.2;
              says = includes_type one is.text is.written n.names.items was.spelling key.0 was.tree stands.0 written was.says key.2 stands.1;
            }

        brought : IsSideSaid all given owners (a ++ new) side w fs
        brought = subst (λ (v : Owner). IsSideSaid all given owners (a ++ new) side v fs) (owner_is one w (string_bytes m.name) me_is place_is is.text is.is_text.named)
            (record { functions = brought_function; interfaces = brought_interface; types = brought_type })

-- two rows of entries
both_said : (all : List PackageTexts) (given : Owner → Name → Tree) (owners : Owners) (types : List TypeDef) (side : Side) (w : Owner) (es fs : List (WorldKey × WorldItem)) → IsSideSaid all given owners types side w es → IsSideSaid all given owners types side w fs
    → IsSideSaid all given owners types side w (es ++ fs)
both_said all given owners types side w es fs first second = record {
  functions = λ k f has. elim (get_either es fs has.0 (k, item.Function f) has.1) as (λ _. IsFunctionSaid all given owners types side w f) [ inl here ↦ first.functions k f (has.0, here) | inr there ↦ second.functions k f (there.0, there.2) ];
  interfaces = λ k i gate span has. elim (get_either es fs has.0 (k, item.Interface i gate span) has.1) as (λ _. IsInterfaceSaid all owners side w i) [ inl here ↦ first.interfaces k i gate span (has.0, here) | inr there ↦ second.interfaces k i gate span (there.0, there.2) ];
  types = λ k i span has. elim (get_either es fs has.0 (k, item.TypeItem i span) has.1) as (λ _. IsTypeSaid all given owners types w k i) [ inl here ↦ first.types k i span (has.0, here) | inr there ↦ second.types k i span (there.0, there.2) ];
}

-- ---- what is joined, and copied

united_was : {K V : Type 0} (eq : K → K → Bool) (es side : List (K × V)) → AreUnited eq es side → (e : K × V) → Has side e → Has es e
united_was eq _ _ no_entries e has = absurd (has_none e has)
united_was eq _ _ (first_of_its_key es side x rest new) e has = elim (get_more side x e has.0 has.1) as (λ _. Has (es ++ x ∷ []) e) [
  | inl was ↦ (let r = united_was eq es side rest e (has.0, was) in (r.0, get_kept es (x ∷ []) r.0 e r.1))
  | inr last ↦ subst (Has (es ++ x ∷ [])) (sym last.1) (has_right es (x ∷ []) x (has_here x []))
]
united_was eq _ _ (key_again es side x rest known) e has = (let r = united_was eq es side rest e has in (r.0, get_kept es (x ∷ []) r.0 e r.1))

zip_was : (es fs : List (WorldKey × WorldItem)) → AreSameEntries es fs → (k : WorldKey) (x : WorldItem) → Has fs (k, x) → (l : WorldKey) × (y : WorldItem) × Has es (l, y) × IsSameItem y x × IsSameKey l k
zip_was [] [] zip k x has = absurd (has_none (k, x) has)
zip_was [] (f ∷ fs) zip k x has = absurd zip
zip_was (e ∷ es) [] zip k x has = absurd zip
zip_was (e ∷ es) (f ∷ fs) zip k x has = elim (has_cases f fs (k, x) has) as (λ _. (l : WorldKey) × (y : WorldItem) × Has (e ∷ es) (l, y) × IsSameItem y x × IsSameKey l k) [
  | inl here ↦ (e.0, e.1, has_here e es, subst (IsSameItem e.1) (sym (ap (λ (z : WorldKey × WorldItem). z.1) here)) zip.0.1, subst (IsSameKey e.0) (sym (ap (λ (z : WorldKey × WorldItem). z.0) here)) zip.0.0)
  | inr later ↦ (let r = zip_was es fs zip.1 k x later in (r.0, r.1, has_later e es (r.0, r.1) r.2, r.3, r.4))
]

zip_map : {X Y : Type 0} (R : X → X → Type 0) (g : X → Y) → ((x y : X) → R x y → g y ≡ g x) → (xs ys : List X) → AllZip R xs ys → map g ys ≡ map g xs
zip_map R g same [] [] zip = refl
zip_map R g same [] (y ∷ ys) zip = absurd zip
zip_map R g same (x ∷ xs) [] zip = absurd zip
zip_map {X} {Y} R g same (x ∷ xs) (y ∷ ys) zip = ap (λ (z : Y). z ∷ map g ys) (same x y zip.0) ∙ ap (λ (zs : List Y). g x ∷ zs) (zip_map R g same xs ys zip.1)

module _ (all : List PackageTexts) (given : Owner → Name → Tree) (owners : Owners) (types : List TypeDef) (side : Side) (w : Owner) where
  same_said : (f g : Function) → IsSameFunction f g → IsFunctionSaid all given owners types side w f → IsFunctionSaid all given owners types side w g
  same_said f g same said =
      let names : param_names g ≡ param_names f = zip_map IsSameParam (λ (p : Param). string_bytes p.name) (λ x y s. s.name) f.params.items g.params.items same.params in
      let refs : map (λ (p : Param). Some p.ty) g.params.items ≡ map (λ (p : Param). Some p.ty) f.params.items = zip_map IsSameParam (λ (p : Param). Some p.ty) (λ x y s. ap (λ (r : Ref). Some r) s.ty) f.params.items g.params.items same.params in
      record {
        params = said.params;
        result = said.result;
        trees = record { names_are = refl; params_are = ap (part_trees (trees owners given types)) refs ∙ said.trees.params_are; result_is = ap (part_tree (trees owners given types)) same.result ∙ said.trees.result_is };
        of = said.of;
        resource = subst (λ (o : Option ℕ). HasResourceSaid all given owners types w o said.of) (sym (ap resource_of same.kind)) said.resource;
        says = subst (λ (x : Name). SaysFunction all given side w x (sort_of g.kind) said.of (param_names g) said.params said.result) (sym same.name)
            (subst (λ (b : FunctionSort). SaysFunction all given side w (string_bytes f.name) b said.of (param_names g) said.params said.result) (sym (ap sort_of same.kind))
            (subst (λ (xs : List Name). SaysFunction all given side w (string_bytes f.name) (sort_of f.kind) said.of xs said.params said.result) (sym names) said.says));
      }

  united_said : (es fs : List (WorldKey × WorldItem)) → AreUnited key_eq es fs → IsSideSaid all given owners types side w es → IsSideSaid all given owners types side w fs
  united_said es fs united said = record {
    functions = λ k f has. said.functions k f (united_was key_eq es fs united (k, item.Function f) has);
    interfaces = λ k i gate span has. said.interfaces k i gate span (united_was key_eq es fs united (k, item.Interface i gate span) has);
    types = λ k i span has. said.types k i span (united_was key_eq es fs united (k, item.TypeItem i span) has);
  }

  copy_said : (es fs : List (WorldKey × WorldItem)) → AreSameEntries es fs → IsSideSaid all given owners types side w es → IsSideSaid all given owners types side w fs
  copy_said es fs zip said = record {
    functions = λ k g has. (
        let r = zip_was es fs zip k (item.Function g) has in
        let from = same_from r.1 g r.3 in
        same_said from.0 g from.2 (said.functions r.0 from.0 (subst (λ (x : WorldItem). Has es (r.0, x)) from.1 r.2)));
    interfaces = λ k i gate span has. (
        let r = zip_was es fs zip k (item.Interface i gate span) has in
        let from = same_interface_from r.1 i gate span r.3 in
        said.interfaces r.0 i from.0 span (subst (λ (x : WorldItem). Has es (r.0, x)) from.1 r.2));
    types = λ k i span has. (
        let r = zip_was es fs zip k (item.TypeItem i span) has in
        let t = said.types r.0 i span (subst (λ (x : WorldItem). Has es (r.0, x)) (same_type_from r.1 i span r.3) r.2) in
        record { spelling = t.spelling; known_by = key_same r.0 k t.spelling r.4 t.known_by; tree = t.tree; stands = t.stands; says = t.says });
  }

-- ---- all that a world includes

module _ (law_types : IncludedTypesStandForTheSame) (law : IncludedFunctionsStandForTheSame) (all : List PackageTexts) (given : Owner → Name → Tree) (owners : Owners) (packages : List Package) (apart : AreWorldsApart owners packages) where
  -- both sides so far
  record AreStateSaid (w : Owner) (s : joined.State) : Type 0 where
    imports : IsSideSaid all given owners s.types Import w s.imports
    exports : IsSideSaid all given owners s.types Export w s.exports

  module _ (one : PackageTexts) (among : Has all one) (m : MovedWorld) (w : Owner) (me_is : w.package_text ≡ one.context.me) (place_is : w.place ≡ in_world (string_bytes m.name)) (worlds : List World) (id : ℕ) (few : length worlds ≤ id) (whose : slice_get owners.worlds id ≡ Some w) where
    includes_said : (ns : List WorldInclude) (s t : joined.State) → Includes worlds id ns s t → ((n : WorldInclude) → Has ns n → IsIncludeMeant (stays one.features) one.context owners one.worlds m.name m.stability n) → AreTypesKnown s.types → IsWhole owners given s.types
        → AreSaid all given owners s.types worlds → AreStateSaid w s → AreStateSaid w t
    includes_said _ s _ (includes_none _) meant known whole said own = own
    includes_said _ s u (includes_one ns n _ t _ before at) meant known whole said own =
        let so_far = includes_said ns s t before (λ n has. meant n (has.0, get_kept ns _ has.0 n has.1)) known whole said own in
        let t_known = included_known worlds id ns s t before known in
        let there : id < length owners.worlds = slice_get_within owners.worlds id w whose in
        let t_whole = included_whole law_types owners packages apart given worlds id few there ns s t before known whole in
        let grown = included_grow worlds id ns s t before in
        let t_said : AreSaid all given owners t.types worlds = subst (λ (ts : List TypeDef). AreSaid all given owners ts worlds) (sym grown.1) (said_behind given owners s.types grown.0 all worlds said) in
        let is : IsIncludeMeant (stays one.features) one.context owners one.worlds m.name m.stability n = meant n (has_right ns (n ∷ []) n (has_here n [])) in
        let from = t_said n.id at.0 (included_owner one is.written) at.2 is.owner in
        let into : slice_get owners.worlds id ≡ Some (world_owner one is.text) = whose ∙ ap (λ (v : Owner). Some v) (sym (owner_is one w (string_bytes m.name) me_is place_is is.text is.is_text.named)) in
        let behind : AreIncludedBehind n.names.items owners given n.id id (included_owner one is.written) (world_owner one is.text) at.0 t.types at.3.own at.1.types.items = record {
          whole = t_whole;
          known = t_known;
          from_is = is.owner;
          into_is = into;
          apart = others law_types owners packages apart given n.id (included_owner one is.written) is.owner;
          are_own = at.3.are_own;
          included = at.3.brings.types_are;
        } in
        let imports = brought law_types law all one among given owners m w me_is place_is n is id at.0 t.types at.3.own at.1.types.items behind Import at.0.imports.entries at.1.imports.items (λ i h. inl h) at.3.brings.imports_are from.imports in
        let exports = brought law_types law all one among given owners m w me_is place_is n is id at.0 t.types at.3.own at.1.types.items behind Export at.0.exports.entries at.1.exports.items (λ i h. inr h) at.3.brings.exports_are from.exports in
        subst (AreStateSaid w) (sym at.4) (record {
          imports = both_said all given owners (t.types ++ at.1.types.items) Import w t.imports at.1.imports.items (side_behind given owners t.types at.1.types.items all Import w t.imports so_far.imports) imports;
          exports = both_said all given owners (t.types ++ at.1.types.items) Export w t.exports at.1.exports.items (side_behind given owners t.types at.1.types.items all Export w t.exports so_far.exports) exports;
        })

-- ---- worlds that come

same_owners : (owners : Owners) → HaveMoreOwners owners owners
same_owners owners = record { interfaces = []; interfaces_are = sym (append-nil owners.interfaces); worlds = []; worlds_are = sym (append-nil owners.worlds) }

-- so it is of worlds that came to a graph of texts
record AreOfTexts (given : Owner → Name → Tree) (owners : Owners) (one : PackageTexts) (types : List TypeDef) (first : ℕ) (ms : List MovedWorld) : Type 0 where
  whose : (k : ℕ) (m : MovedWorld) → slice_get ms k ≡ Some m → slice_get owners.worlds (first + k) ≡ Some (record { package_text = one.context.me; place = in_world (string_bytes m.name) })
  means : (k : ℕ) (m : MovedWorld) → slice_get ms k ≡ Some m → IsWorldMeant (stays one.features) given one.context owners types one.worlds m.name m.stability m.imports.items m.exports.items m.includes.items

module _ (law_types : IncludedTypesStandForTheSame) (law : IncludedFunctionsStandForTheSame) (all : List PackageTexts) (given : Owner → Name → Tree) (owners : Owners) (packages : List Package) (apart : AreWorldsApart owners packages) (one : PackageTexts) (among : Has all one) where
  added_said : (interfaces : List Interface) (uses : Rows) (owner : ℕ) (ms : List MovedWorld) (s t : State) → AreAdded interfaces uses owner ms s t → AreOfTexts given owners one s.types (length s.worlds.listed) ms
      → length t.worlds.listed ≤ length owners.worlds → AreTypesKnown s.types → IsWhole owners given s.types → AreSaid all given owners s.types s.worlds.listed → AreSaid all given owners t.types t.worlds.listed
  added_said interfaces uses owner _ s _ (none_added _) of_texts few known whole said = said
  added_said interfaces uses owner _ s u (one_added ms m _ t _ before a) of_texts few known whole said =
      let one_more : length u.worlds.listed ≡ length t.worlds.listed + 1 = ap length a.listed_are ∙ length-append t.worlds.listed (a.listed ∷ []) in
      let so_many : length t.worlds.listed ≡ length s.worlds.listed + length ms = worlds_added interfaces uses owner ms s t before in
      let fewer : length t.worlds.listed ≤ length owners.worlds = omega (arith, few, one_more) in
      let first_ones : AreOfTexts given owners one s.types (length s.worlds.listed) ms = record {
        whose = λ k n at. of_texts.whose k n (get_kept ms (m ∷ []) k n at);
        means = λ k n at. of_texts.means k n (get_kept ms (m ∷ []) k n at);
      } in
      let so_far = added_said interfaces uses owner ms s t before first_ones fewer known whole said in
      let t_known = added_known interfaces uses owner ms s t before known in
      let t_whole = added_whole law_types owners packages apart given interfaces uses owner ms s t before fewer known whole in
      let to_t = added_grow interfaces uses owner ms s t before in
      let w : Owner = record { package_text = one.context.me; place = in_world (string_bytes m.name) } in
      let whose : slice_get owners.worlds (length t.worlds.listed) ≡ Some w = ap (slice_get owners.worlds) so_many ∙ of_texts.whose (length ms) m (get_last ms m) in
      let means : IsWorldMeant (stays one.features) given one.context owners t.types one.worlds m.name m.stability m.imports.items m.exports.items m.includes.items =
      subst (λ (ts : List TypeDef). IsWorldMeant (stays one.features) given one.context owners ts one.worlds m.name m.stability m.imports.items m.exports.items m.includes.items) (sym to_t.1)
      (world_still (stays one.features) given owners owners (same_owners owners) s.types to_t.0 refl one.context one.worlds m.name m.stability m.imports.items m.exports.items m.includes.items (of_texts.means (length ms) m (get_last ms m))) in
      let sides = a.is_joined.sides in
      let own : AreStateSaid law_types law all given owners packages apart w (own_state t.types m) = record { imports = own_imports all one among given owners t.types m w refl refl means; exports = own_exports all one among given owners t.types m w refl refl means } in
      let state = includes_said law_types law all given owners packages apart one among m w refl refl t.worlds.listed (length t.worlds.listed) (omega arith) whose m.includes.items (own_state t.types m) sides.joined sides.includes means.included t_known t_whole so_far own in
      let to_u = included_grow t.worlds.listed (length t.worlds.listed) m.includes.items (own_state t.types m) sides.joined sides.includes in
      let types_are : u.types ≡ t.types ++ to_u.0 = sides.types_are ∙ to_u.1 in
      let new : IsWorldSaid all given owners u.types w a.listed = subst (λ (ts : List TypeDef). IsWorldSaid all given owners ts w a.listed) (sym sides.types_are) (record {
        imports = copy_said all given owners sides.joined.types Import w a.joined.imports.entries a.listed.imports.entries a.is_listed.imports (united_said all given owners sides.joined.types Import w sides.joined.imports a.joined.imports.entries sides.imports_are.entries state.imports);
        exports = copy_said all given owners sides.joined.types Export w a.joined.exports.entries a.listed.exports.entries a.is_listed.exports (united_said all given owners sides.joined.types Export w sides.joined.exports a.joined.exports.entries sides.exports_are.entries state.exports);
      }) in
      let kept : AreSaid all given owners u.types t.worlds.listed = subst (λ (ts : List TypeDef). AreSaid all given owners ts t.worlds.listed) (sym types_are) (said_behind given owners t.types to_u.0 all t.worlds.listed so_far) in
      λ place d v at v_is. elim (get_more t.worlds.listed a.listed d place (subst (λ (ws : List World). slice_get ws place ≡ Some d) a.listed_are at)) as (λ _. IsWorldSaid all given owners u.types v d) [
        | inl was ↦ kept place d v was v_is
        | inr last ↦ subst (λ (x : World). IsWorldSaid all given owners u.types v x) (sym last.1) (subst (λ (o : Owner). IsWorldSaid all given owners u.types o a.listed) (same_Some w v (sym whose ∙ ap (slice_get owners.worlds) (sym last.0) ∙ v_is)) new)
      ]

-- ---- graphs

pub empty_worlds_said : EmptyWorldsAreSaid
empty_worlds_said given by k d w at whose = absurd cc

module _ (given : Owner → Name → Tree) (old new : Owners) (more_owners : HaveMoreOwners old new) (a more : List TypeDef) (same : trees old given a ≡ trees new given a) (all added : List PackageTexts) where
  function_still_said : (side : Side) (w : Owner) (f : Function) → IsFunctionSaid all given old a side w f → IsFunctionSaid (all ++ added) given new (a ++ more) side w f
  function_still_said side w f s = record {
    params = s.params;
    result = s.result;
    trees = record {
      names_are = refl;
      params_are = parts_more given new new a more refl (map (λ (p : Param). Some p.ty) f.params.items) s.params (subst (λ (ts : List (Option Tree)). part_trees ts (map (λ (p : Param). Some p.ty) f.params.items) ≡ Some s.params) same s.trees.params_are);
      result_is = part_kept new given a more f.result s.result (subst (λ (ts : List (Option Tree)). part_tree ts f.result ≡ Some s.result) same s.trees.result_is);
    };
    of = s.of;
    resource = resource_so all (all ++ added) given old new a (a ++ more) w (λ i x r. record { tree = r.tree; stands = tree_still given old new a more same i r.tree r.stands; own = r.own; says = type_more all added given side w x r.tree r.says }) (resource_of f.kind) s.of s.resource;
    says = function_more all added given side w (string_bytes f.name) (sort_of f.kind) s.of (param_names f) s.params s.result s.says;
  }

  side_still_said : (side : Side) (w : Owner) (es : List (WorldKey × WorldItem)) → IsSideSaid all given old a side w es → IsSideSaid (all ++ added) given new (a ++ more) side w es
  side_still_said side w es said = record {
    functions = λ k f has. function_still_said side w f (said.functions k f has);
    interfaces = λ k i gate span has. (
        let s = said.interfaces k i gate span has in
        record { whose = s.whose; owner = ap (λ (os : List Owner). slice_get os i) more_owners.interfaces_are ∙ get_kept old.interfaces more_owners.interfaces i s.whose s.owner; says = interface_more all added given side w s.whose s.says });
    types = λ k i span has. (
        let s = said.types k i span has in
        record { spelling = s.spelling; known_by = s.known_by; tree = s.tree; stands = tree_still given old new a more same i s.tree s.stands; says = type_more all added given side w s.spelling s.tree s.says });
  }

module _ (moved : MovedTypesStandForTheSame) (functions_stand : MovedFunctionsStandForTheSame) (law_types : IncludedTypesStandForTheSame) (law : IncludedFunctionsStandForTheSame)
    (texts : PackageTexts) (owners : Owners) (eq : PackageName → PackageName → Bool) (features : FeatureSet) (old : Graph) (p : UnresolvedPackage) (new : Graph) (id : ℕ) (tells : TellsNamesApart eq) (stand : NamesOfGraphStand old)
    (owned : AreOwned owners old.tables) (whole : AreWhole old.tables) (known : AreTypesKnown old.tables.types) (have : HasTrees owners old.tables) (are : AreOwnersOf texts.context.owners p) (own_known : AreOwnTypesKnown p) (of_texts : IsOfTexts texts p) (active : texts.features ≡ features)
    (h : IsPushed eq features old p new id) (o : AreOwnedWith texts.context.owners owners eq features old p new id h) (given : Owner → Name → Tree) (by : IsGivenBy given o.all new.tables)
    (all : List PackageTexts) (said : AreWorldsSaid all owners old.tables)
  where
    before : IsGivenBy given owners old.tables
    before = by_old texts owners eq features old p new id tells stand owned whole have are of_texts h o given by

    agreed_here : AreAgreed given texts.context.owners o.all old.tables h.foreign h.owners p
    agreed_here = agreed texts owners eq features old p new id tells stand owned whole have are of_texts h o given by

    abbrev there : List TypeDef
    there = old.tables.types ++ h.put.added.parts.own_types.defs

    stand_here : StandForTheSame given h.places texts.context.owners p.types o.all there
    stand_here = stand_then moved given texts.context.owners o.all eq features old p new id h (of_texts.meant.whole given) agreed_here

    -- worlds that were there
    old_said : AreSaid (all ++ texts ∷ []) given o.all there old.tables.worlds.listed
    old_said place d w at whose =
        let within : place < length owners.worlds = (let l : place < length old.tables.worlds.listed = slice_get_within old.tables.worlds.listed place d at in let e = owned.so_many_worlds in omega (arith, l, e)) in
        let v = got owners.worlds place within in
        let now : slice_get o.all.worlds place ≡ Some v.0 = ap (λ (os : List Owner). slice_get os place) o.more.worlds_are ∙ get_kept owners.worlds o.more.worlds place v.0 v.1 in
        let was = said given before place d w at (v.1 ∙ sym now ∙ whose) in
        let same = same_trees owners o.all o.more given old.tables.types (have given) in
        record {
          imports = side_still_said given owners o.all o.more old.tables.types h.put.added.parts.own_types.defs same all (texts ∷ []) Import w d.imports.entries was.imports;
          exports = side_still_said given owners o.all o.more old.tables.types h.put.added.parts.own_types.defs same all (texts ∷ []) Export w d.exports.entries was.exports;
        }

    found : AreFoundByName old.tables.packages texts.context.owners h.foreign.interfaces h.foreign.worlds
    found = asked_found eq features old.names old.tables.packages texts.context.owners p h.foreign.interfaces h.foreign.worlds tells stand are.asks h.are_places.found

    asked_worlds : length h.foreign.worlds ≡ (asked p).worlds
    asked_worlds = h.are_places.found.worlds_are.all

    -- whose one is that came
    new_whose : (k : ℕ) (m : MovedWorld) → slice_get h.put.added.parts.own_worlds.moved k ≡ Some m → slice_get o.all.worlds (length old.tables.worlds.listed + k) ≡ Some (record { package_text = texts.context.me; place = in_world (string_bytes m.name) })
    new_whose k m at =
        let a = h.put.added.parts.own_worlds in
        let from = worlds_take_places_alone features (standing h.owners h.places) h.foreign.worlds (length old.tables.worlds.listed) (own_parts p).worlds a.moved
        (λ i j is. (let f = found.worlds_are i j is in let w = owned.worlds_are f.0 j f.2 in let l : j < length owners.worlds = slice_get_within owners.worlds j f.0 w in let e = owned.so_many_worlds in omega (arith, l, e))) a.are_moved k m at in
        let i : ℕ = length h.foreign.worlds + from.place in
        let stands : place_of h.owners.worlds i ≡ Some (length old.tables.worlds.listed + k) = subst (λ (os : OwnerPlaces). place_of os.worlds i ≡ Some (length old.tables.worlds.listed + k)) (sym h.are_places.planned.owners_are) from.stands in
        let goes_there : to h.owners.worlds i ≡ length old.tables.worlds.listed + k = ap (λ (q : Option ℕ). unwrap_or q i) stands in
        let whose : slice_get o.all.worlds (to h.owners.worlds i) ≡ slice_get texts.context.owners.worlds i = o.owners_are (belongs.World i) (ap (λ (q : Option ℕ). is_some q) stands) in
        let own = are.worlds_are from.place from.old from.was in
        ap (slice_get o.all.worlds) (sym goes_there) ∙ whose ∙ ap (λ (n : ℕ). slice_get texts.context.owners.worlds (n + from.place)) asked_worlds ∙ own
        ∙ ap (λ (t : PackageText). Some (record { package_text = t; place = in_world (string_bytes from.old.name) })) of_texts.named
        ∙ ap (λ (x : String Global). Some (record { package_text = texts.context.me; place = in_world (string_bytes x) })) (sym from.moved.name)

    came_of_texts : AreOfTexts given o.all texts there (length old.tables.worlds.listed) h.put.added.parts.own_worlds.moved
    came_of_texts = record {
      whose = new_whose;
      means = λ k m at. subst (λ (set : FeatureSet). IsWorldMeant (stays set) given texts.context o.all there texts.worlds m.name m.stability m.imports.items m.exports.items m.includes.items) (sym active)
          (worlds_go_at functions_stand given texts.context texts.interfaces texts.worlds o.all eq features old p new id of_texts.meant h agreed_here there stand_here (written_goes eq features old p new id h texts.context.owners given (of_texts.meant.whole given)) k m at);
    }

    there_whole : IsWhole o.all given there
    there_whole =
        whole_moved moved given texts.context.owners o.all eq features old p new id h (of_texts.meant.whole given) agreed_here

    all_said : AreSaid (all ++ texts ∷ []) given o.all new.tables.types new.tables.worlds.listed
    all_said =
        let a = h.put.added.parts in
        let few : length new.tables.worlds.listed ≤ length o.all.worlds = (let e = o.owned.so_many_worlds in omega (arith, e)) in
        added_said law_types law (all ++ texts ∷ []) given o.all new.tables.packages o.owned.apart texts (has_right all (texts ∷ []) texts (has_here texts [])) _ _ _ _ _ _ a.own_worlds.added
        (subst (λ (ts : List TypeDef). AreOfTexts given o.all texts ts (length old.tables.worlds.listed) a.own_worlds.moved) (sym a.own_types.types_are) came_of_texts) few
        (subst AreTypesKnown (sym a.own_types.types_are) (there_known eq features old p new id h known own_known)) (subst (IsWhole o.all given) (sym a.own_types.types_are) there_whole)
        (subst (λ (ts : List TypeDef). AreSaid (all ++ texts ∷ []) given o.all ts old.tables.worlds.listed) (sym a.own_types.types_are) old_said)

pub pushed_worlds_said : MovedTypesStandForTheSame → MovedFunctionsStandForTheSame → IncludedTypesStandForTheSame → IncludedFunctionsStandForTheSame → PushedWorldsAreSaid
pushed_worlds_said moved functions_stand law_types law all texts owners eq features old p new id tells stand owned whole known have are own_known of_texts active h o said given by =
    all_said moved functions_stand law_types law texts owners eq features old p new id tells stand owned whole known have are own_known of_texts active h o given by all said
