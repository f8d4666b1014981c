-- Worlds of a graph still mean what they did when a package came to it, and those that came mean what its texts do.
use Rattle.std.proofs.Common.{◌≡◌, ◌<◌, ◌≤◌, ℕ, ◌+◌, Bool, List, [], ◌∷◌, ◌++◌, length, take, Some, inl, inr, refl, sym, subst, ap, ◌∙◌, arith, append_assoc, is_some, Option, String}
use Rattle.std.proofs.lemmas.List.{take-append-le, append-nil}
use Rattle.std.proofs.lemmas.Option.{slice_get_within}
use Rattle.std.specs.Prelude.{slice_get, unwrap_or, string_bytes}
use Rattle.wit_order.specs.Places.{Rows}
use Rattle.wit_types.specs.declared.function.Function.{Function}
use Rattle.wit_types.specs.declared.interface.Interface.{Interface}
use Rattle.wit_types.specs.declared.interface.TypeDef.{TypeDef}
use Rattle.wit_types.specs.declared.interface.TypeOwner.TheVariants as belongs
use Rattle.wit_types.specs.declared.«package».PackageName.{PackageName}
use Rattle.wit_types.specs.declared.«package».UnresolvedPackage.{UnresolvedPackage}
use Rattle.wit_types.specs.declared.world.World.{World}
use Rattle.wit_types.specs.declared.world.WorldInclude.{WorldInclude}
use Rattle.wit_types.specs.declared.world.WorldItem.{WorldItem}
use Rattle.wit_types.specs.declared.world_key.WorldKey.{WorldKey}
use Rattle.wit_types.specs.declared.stability.Stability.{Stability}
use Rattle.wit_features.specs.Features.{FeatureSet, stays}
use Rattle.wit_scopes.specs.Scopes.{WorldScope}
use Rattle.wit_scopes.specs.declared.worlds.Side.{Side}
use Rattle.wit_arena.specs.Tree.{Name, in_world, Owner, Tree, PackageText}
use Rattle.wit_arena.specs.Unfold.{Owners, trees}
use Rattle.wit_arena.specs.Standing.{HasTree}
use Rattle.wit_arena.proofs.Lists.{has_here, has_right, get_kept, get_last, get_more}
use Rattle.wit_well_formed.proofs.Passed.wit_interfaces-Behind.{get_either}
use Rattle.wit_well_formed.specs.Passed.wit_resolved_scopes-InArena.{Context, own_owner}
use Rattle.wit_well_formed.specs.Passed.wit_resolved_scopes-Texts.{own_members}
use Rattle.wit_graph.specs.Passed.wit_joined-Joined.{IsJoinedWorld, own_state}
use Rattle.wit_plans.specs.declared.moves.MovedWorld.{MovedWorld}
use Rattle.wit_graph.specs.Passed.wit_graph_worlds-Copies.{IsSameWorld}
use Rattle.wit_graph.specs.Passed.wit_graph_worlds-Added.{AreAdded, none_added, one_added}
use Rattle.wit_graph.specs.Passed.wit_graph_worlds-Worlds.{State}
use Rattle.wit_graph.specs.Graph.{Graph, AreWhole}
use Rattle.wit_graph.specs.Push.{IsPushed}
use Rattle.wit_pushed_trees.specs.Found.{TellsNamesApart, NamesOfGraphStand, IsGivenBy}
use Rattle.wit_pushed_trees.specs.Meant.{PackageTexts, IsOfTexts}
use Rattle.wit_pushed_trees.specs.MeantWorlds.{IsBuiltOf, IsWorldMeantBy, AreWorldsMeantBy, EmptyWorldsAreMeant, PushedWorldsAreMeant}
use Rattle.wit_pushed_trees.specs.Owned.{AreOwnersOf, AreOwned, AreOwnedWith, HaveMoreOwners}
use Rattle.wit_pushed_trees.specs.Pushed.{PushedWorldsMeanTheirTexts}
use Rattle.wit_pushed_trees.specs.Whole.{HasTrees, PushedGraphsKeepWhatWas}
use Rattle.wit_pushed_trees.specs.Worlds.{IsTypeWritten, IsOwnFunctionMeant, IsInterfaceListed, IsIncludeMeant, IsWorldMeant}
use Rattle.wit_pushed_trees.proofs.Agreeing.{same_trees}
use Rattle.wit_pushed_trees.proofs.Gates.{written_more}
use Rattle.wit_pushed_trees.proofs.Meant.{tree_still, function_still, grown, same, package_there, by_old, agreed, come_there, come_named}
use Rattle.wit_pushed_trees.proofs.Owned.{worlds_added}
use Rattle.wit_pushed_trees.proofs.Types.{included_grow, all_grow}
use Rattle.std.specs.declared.alloc.Global.{Global}
use Rattle.wit_moves.specs.Moved.{place_of}
use Rattle.wit_moves.specs.Plan.{OwnerPlaces}
use Rattle.wit_graph.specs.Passed.wit_placed-Worlds.{world_places}
use Rattle.wit_plans.specs.Plans.{standing}
use Rattle.wit_graph.specs.Passed.wit_graph_parts-Own.{asked, own_parts}
use Rattle.wit_pushed_trees.proofs.StayingIncludes.{world_from}
use Rattle.wit_pushed_trees.proofs.Texts.{member_kind_same}

-- ---- more types and owners

module _ (kept : Stability → Bool) (given : Owner → Name → Tree) (old new : Owners) (more_owners : HaveMoreOwners old new) (a more : List TypeDef) (same : trees old given a ≡ trees new given a) (c : Context) (ws : List WorldScope) (name : String Global) (stability : Stability) where
  listed_still : (side : Side) (k : WorldKey) (i : ℕ) (gate : Stability) → IsInterfaceListed kept c old ws name stability side k i gate → IsInterfaceListed kept c new ws name stability side k i gate
  listed_still side k i gate l = record {
    text = l.text;
    is_text = l.is_text;
    listed = l.listed;
    there = l.there;
    side_is = l.side_is;
    whose = l.whose;
    listed_as = l.listed_as;
    owner = ap (λ (os : List Owner). slice_get os i) more_owners.interfaces_are ∙ get_kept old.interfaces more_owners.interfaces i l.whose l.owner;
    keyed = l.keyed;
    gates = l.gates;
  }

  include_still : (n : WorldInclude) → IsIncludeMeant kept c old ws name stability n → IsIncludeMeant kept c new ws name stability n
  include_still n i = record {
    text = i.text;
    is_text = i.is_text;
    written = i.written;
    there = i.there;
    owner = ap (λ (os : List Owner). slice_get os n.id) more_owners.worlds_are ∙ get_kept old.worlds more_owners.worlds n.id _ i.owner;
    names = i.names;
    gates = i.gates;
  }

  own_still : (side : Side) (f : Function) → IsOwnFunctionMeant kept given c old a ws name stability side f → IsOwnFunctionMeant kept given c new (a ++ more) ws name stability side f
  own_still side f m = record {
    text = m.text;
    is_text = m.is_text;
    is = function_still given old new a more same c (in_world m.text.name.text) (own_members m.text.members) f m.is;
    giver = m.giver;
    on_side = m.on_side;
    gives = m.gives;
    gates = m.gates;
    resource = member_kind_same (λ (x : Name) (i : ℕ). IsTypeWritten kept a (own_members m.text.members) x i) (λ (x : Name) (i : ℕ). IsTypeWritten kept (a ++ more) (own_members m.text.members) x i)
        (written_more kept a more (own_members m.text.members)) m.is.member.kind f.kind m.resource;
  }

  pub world_still : (imports exports : List (WorldKey × WorldItem)) (includes : List WorldInclude) → IsWorldMeant kept given c old a ws name stability imports exports includes → IsWorldMeant kept given c new (a ++ more) ws name stability imports exports includes
  world_still imports exports includes is = record {
    text = is.text;
    is_text = is.is_text;
    own_types = λ k i span has.
        let t = is.own_types k i span has in
        record {
          text = t.text;
          is_text = t.is_text;
          spelling = t.spelling;
          known_by = t.known_by;
          means = (t.means.0, tree_still given old new a more same i t.means.0 t.means.1, t.means.2);
          written = written_more kept a more (own_members t.text.members) t.spelling i t.written;
        };
    imported_functions = λ k f has. own_still _ f (is.imported_functions k f has);
    exported_functions = λ k f has. own_still _ f (is.exported_functions k f has);
    imported = λ k i gate span has. listed_still _ k i gate (is.imported k i gate span has);
    exported = λ k i gate span has. listed_still _ k i gate (is.exported k i gate span has);
    no_exported_types = is.no_exported_types;
    included = λ n has. include_still n (is.included n has);
  }

built_still : (own : MovedWorld) (number place : ℕ) (worlds more : List World) (types later : List TypeDef) (w : World) → place ≤ length worlds → IsBuiltOf own number place worlds types w → IsBuiltOf own number place (worlds ++ more) (types ++ later) w
built_still own number place worlds more types later w within b = record {
  before = b.before;
  after = b.after;
  later = b.later ++ later;
  grown = ap (λ (ts : List TypeDef). ts ++ later) b.grown ∙ append_assoc b.after b.later later;
  joined = b.joined;
  is_joined = subst (λ (ws : List World). IsJoinedWorld ws place number own b.before b.after b.joined) (sym (take-append-le place worlds more within)) b.is_joined;
  is_listed = b.is_listed;
}

-- ---- worlds that come

pub worlds_grow : (interfaces : List Interface) (uses : Rows) (owner : ℕ) (ms : List MovedWorld) (s t : State) → AreAdded interfaces uses owner ms s t → (more : List World) × (t.worlds.listed ≡ s.worlds.listed ++ more)
worlds_grow interfaces uses owner _ s _ (none_added _) = ([], sym (append-nil s.worlds.listed))
worlds_grow interfaces uses owner _ s u (one_added ms m _ t _ before a) =
    let r = worlds_grow interfaces uses owner ms s t before in
    (r.0 ++ a.listed ∷ [], a.listed_are ∙ ap (λ (ws : List World). ws ++ a.listed ∷ []) r.1 ∙ append_assoc s.worlds.listed r.0 (a.listed ∷ []))

elaborated_grow : (interfaces : List Interface) (uses : Rows) (owner : ℕ) (ms : List MovedWorld) (s t : State) → AreAdded interfaces uses owner ms s t → (more : List World) × (t.worlds.elaborated ≡ s.worlds.elaborated ++ more)
elaborated_grow interfaces uses owner _ s _ (none_added _) = ([], sym (append-nil s.worlds.elaborated))
elaborated_grow interfaces uses owner _ s u (one_added ms m _ t _ before a) =
    let r = elaborated_grow interfaces uses owner ms s t before in
    (r.0 ++ a.elaborated ∷ [], a.elaborated_are ∙ ap (λ (ws : List World). ws ++ a.elaborated ∷ []) r.1 ∙ append_assoc s.worlds.elaborated r.0 (a.elaborated ∷ []))

pub pushed_kept : PushedGraphsKeepWhatWas
pushed_kept package_owners owners eq features old p new id have h o = record {
  trees = λ given i t has.
      let more = all_grow eq features old p new id h in
      subst (λ (b : List TypeDef). HasTree o.all given b i t) (sym more.1) (tree_still given owners o.all old.tables.types more.0 (same_trees owners o.all o.more given old.tables.types (have given)) i t has);
  listed = λ i w at. (let more = worlds_grow _ _ _ _ _ _ h.put.added.parts.own_worlds.added in ap (λ (ws : List World). slice_get ws i) more.1 ∙ get_kept old.tables.worlds.listed more.0 i w at);
  elaborated = λ i w at. (let more = elaborated_grow _ _ _ _ _ _ h.put.added.parts.own_worlds.added in ap (λ (ws : List World). slice_get ws i) more.1 ∙ get_kept old.tables.worlds.elaborated more.0 i w at);
}

-- the world behind the first is one of those that came
record CameAt (owner : ℕ) (ms : List MovedWorld) (s t : State) (k : ℕ) (w : World) : Type 0 where
  own : MovedWorld
  there : slice_get ms k ≡ Some own
  is : IsBuiltOf own owner (length s.worlds.listed + k) t.worlds.listed t.types w

came_at : (interfaces : List Interface) (uses : Rows) (owner : ℕ) (ms : List MovedWorld) (s t : State) → AreAdded interfaces uses owner ms s t → (k : ℕ) (w : World) → slice_get t.worlds.listed (length s.worlds.listed + k) ≡ Some w → CameAt owner ms s t k w
came_at interfaces uses owner _ s _ (none_added _) k w at = absurd (let l : length s.worlds.listed + k < length s.worlds.listed = slice_get_within s.worlds.listed (length s.worlds.listed + k) w at in omega (arith, l))
came_at interfaces uses owner _ s u (one_added ms m _ t _ before a) k w at =
    let place : ℕ = length s.worlds.listed + k in
    let so_many : length t.worlds.listed ≡ length s.worlds.listed + length ms = worlds_added interfaces uses owner ms s t before in
    let sides = a.is_joined.sides in
    let more = included_grow t.worlds.listed (length t.worlds.listed) m.includes.items (own_state t.types m) sides.joined sides.includes in
    let types_are : u.types ≡ t.types ++ more.0 = sides.types_are ∙ more.1 in
    elim (get_more t.worlds.listed a.listed w place (subst (λ (ws : List World). slice_get ws place ≡ Some w) a.listed_are at)) as (λ _. CameAt owner (ms ++ m ∷ []) s u k w) [
      | inl was ↦
          let c = came_at interfaces uses owner ms s t before k w was in
          let within : place < length t.worlds.listed = slice_get_within t.worlds.listed place w was in
          record {
            own = c.own;
            there = get_kept ms (m ∷ []) k c.own c.there;
            is = subst (λ (ts : List TypeDef). IsBuiltOf c.own owner place u.worlds.listed ts w) (sym types_are)
                (subst (λ (ws : List World). IsBuiltOf c.own owner place ws (t.types ++ more.0) w) (sym a.listed_are) (built_still c.own owner place t.worlds.listed (a.listed ∷ []) t.types more.0 w (omega (arith, within)) c.is));
          }
      | inr last ↦
          let number : k ≡ length ms = (let e : place ≡ length t.worlds.listed = last.0 in omega (arith, e, so_many)) in
          record {
            own = m;
            there = ap (slice_get (ms ++ m ∷ [])) number ∙ get_last ms m;
            is = record {
              before = t.types;
              after = u.types;
              later = [];
              grown = sym (append-nil u.types);
              joined = a.joined;
              is_joined = subst (λ (n : ℕ). IsJoinedWorld (take n u.worlds.listed) n owner m t.types u.types a.joined) (sym last.0)
                  (subst (λ (ws : List World). IsJoinedWorld ws (length t.worlds.listed) owner m t.types u.types a.joined) (sym (ap (take (length t.worlds.listed)) a.listed_are ∙ take-append-le (length t.worlds.listed) t.worlds.listed (a.listed ∷ []) (omega arith) ∙ take_all t.worlds.listed))
                  a.is_joined);
              is_listed = subst (λ (v : World). IsSameWorld a.joined v) (sym last.1) a.is_listed;
            };
          }
    ]
  where
    take_all : (ws : List World) → take (length ws) ws ≡ ws
    take_all [] = refl
    take_all (x ∷ ws) = ap (λ (vs : List World). x ∷ vs) (take_all ws)

-- ---- graphs

pub empty_worlds_meant : EmptyWorldsAreMeant
empty_worlds_meant given by k w at = absurd cc

module _ (texts : PackageTexts) (owners : Owners) (eq : PackageName → PackageName → Bool) (features : FeatureSet) (old : Graph) (p : UnresolvedPackage) (new : Graph) (id : ℕ) (tells : TellsNamesApart eq) (stand : NamesOfGraphStand old)
    (owned : AreOwned owners old.tables) (whole : AreWhole old.tables) (have : HasTrees owners old.tables) (are : AreOwnersOf texts.context.owners p) (of_texts : IsOfTexts texts p) (active : texts.features ≡ features)
    (h : IsPushed eq features old p new id) (o : AreOwnedWith texts.context.owners owners eq features old p new id h) (given : Owner → Name → Tree) (by : IsGivenBy given o.all new.tables)
    (worlds_mean : PushedWorldsMeanTheirTexts) (all : List PackageTexts) (meant : AreWorldsMeantBy all owners old.tables)
  where
    types_grown : (more : List TypeDef) × (new.tables.types ≡ old.tables.types ++ more)
    types_grown = grown texts owners eq features old p new id tells stand owned whole have are of_texts h o given by

    all_worlds : (more : List World) × (new.tables.worlds.listed ≡ old.tables.worlds.listed ++ more)
    all_worlds = worlds_grow _ _ _ _ _ _ h.put.added.parts.own_worlds.added

    old_one : (place : ℕ) (w : World) → slice_get old.tables.worlds.listed place ≡ Some w → IsWorldMeantBy (all ++ texts ∷ []) given o.all new.tables place w
    old_one place w at =
        let m = meant given (by_old texts owners eq features old p new id tells stand owned whole have are of_texts h o given by) place w at in
        let same_trees = same texts owners eq features old p new id tells stand owned whole have are of_texts h o given by in
        let within : place < length old.tables.worlds.listed = slice_get_within old.tables.worlds.listed place w at in
        record {
          texts = m.texts;
          are = (m.are.0, get_kept all (texts ∷ []) m.are.0 m.texts m.are.1);
          number = m.number;
          «package» = m.«package»;
          there = package_there texts owners eq features old p new id tells stand owned whole have are of_texts h o given by m.number m.«package» m.there;
          named = m.named;
          own = m.own;
          owner = ap (λ (ws : List Owner). slice_get ws place) o.more.worlds_are ∙ get_kept owners.worlds o.more.worlds place _ m.owner;
          means = subst (λ (b : List TypeDef). IsWorldMeant (stays m.texts.features) given m.texts.context o.all b m.texts.worlds m.own.name m.own.stability m.own.imports.items m.own.exports.items m.own.includes.items) (sym types_grown.1)
              (world_still (stays m.texts.features) given owners o.all o.more old.tables.types types_grown.0 same_trees m.texts.context m.texts.worlds m.own.name m.own.stability m.own.imports.items m.own.exports.items m.own.includes.items m.means);
          is = subst (λ (ts : List TypeDef). IsBuiltOf m.own m.number place new.tables.worlds.listed ts w) (sym types_grown.1)
              (subst (λ (ws : List World). IsBuiltOf m.own m.number place ws (old.tables.types ++ types_grown.0) w) (sym all_worlds.1)
              (built_still m.own m.number place old.tables.worlds.listed all_worlds.0 old.tables.types types_grown.0 w (omega (arith, within)) m.is));
        }

    new_one : (k : ℕ) (w : World) → slice_get new.tables.worlds.listed (length old.tables.worlds.listed + k) ≡ Some w → IsWorldMeantBy (all ++ texts ∷ []) given o.all new.tables (length old.tables.worlds.listed + k) w
    new_one k w at =
        let a = h.put.added.parts.own_worlds in
        let came = came_at _ _ _ _ _ _ a.added k w at in
        let first : ℕ = length old.tables.worlds.listed in
        let from = world_from features (standing h.owners h.places) (record { places = h.foreign.worlds; next = first }) (own_parts p).worlds a.moved a.are_moved k came.own came.there in
        let j : ℕ = (asked p).worlds + from.place in
        let so_many : length h.foreign.worlds ≡ (asked p).worlds = h.are_places.found.worlds_are.all in
        let stands : place_of h.owners.worlds j ≡ Some (first + k) =
        ap (λ (ps : OwnerPlaces). place_of ps.worlds j) h.are_places.planned.owners_are
        ∙ ap (place_of (world_places features h.foreign.worlds first (own_parts p).worlds)) (ap (λ (n : ℕ). n + from.place) (sym so_many)) ∙ from.stands in
        record {
          texts = texts;
          are = has_right all (texts ∷ []) texts (has_here texts []);
          number = length old.tables.packages;
          «package» = h.put.added.q;
          there = come_there texts owners eq features old p new id tells stand owned whole have are of_texts h o given by;
          named = come_named texts owners eq features old p new id tells stand owned whole have are of_texts h o given by;
          own = came.own;
          owner =
              ap (λ (i : Option ℕ). slice_get o.all.worlds (unwrap_or i j)) (sym stands) ∙ o.owners_are (belongs.World j) (ap is_some stands) ∙ are.worlds_are from.place from.old from.was
              ∙ ap (λ (m : PackageText). Some (record { package_text = m; place = in_world (string_bytes from.old.name) })) of_texts.named
              ∙ ap (λ (n : String Global). Some (own_owner texts.context (in_world (string_bytes n)))) (sym from.moved.name);
          means = subst (λ (set : FeatureSet). IsWorldMeant (stays set) given texts.context o.all new.tables.types texts.worlds came.own.name came.own.stability came.own.imports.items came.own.exports.items came.own.includes.items) (sym active)
              (worlds_mean given texts.context texts.interfaces texts.worlds o.all eq features old p new id of_texts.meant h (agreed texts owners eq features old p new id tells stand owned whole have are of_texts h o given by) k came.own came.there);
          is = came.is;
        }

    each : (place : ℕ) (w : World) → slice_get new.tables.worlds.listed place ≡ Some w → IsWorldMeantBy (all ++ texts ∷ []) given o.all new.tables place w
    each place w at =
        elim (get_either old.tables.worlds.listed all_worlds.0 place w (subst (λ (ws : List World). slice_get ws place ≡ Some w) all_worlds.1 at)) as (λ _. IsWorldMeantBy (all ++ texts ∷ []) given o.all new.tables place w) [
          | inl was ↦ old_one place w was
          | inr came ↦ subst (λ (n : ℕ). IsWorldMeantBy (all ++ texts ∷ []) given o.all new.tables n w) (sym came.1) (new_one came.0 w (ap (slice_get new.tables.worlds.listed) (sym came.1) ∙ at))
        ]

pub pushed_worlds_meant : PushedWorldsMeanTheirTexts → PushedWorldsAreMeant
pushed_worlds_meant worlds_mean all texts owners eq features old p new id tells stand owned whole known have are of_texts active h o meant given by place w at =
    each texts owners eq features old p new id tells stand owned whole have are of_texts active h o given by worlds_mean all meant place w at
