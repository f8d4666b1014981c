-- Packages that were pushed mean in the graph what they meant.
use Rattle.std.proofs.Common.{◌≡◌, ℕ, ◌+◌, Bool, true, false, List, [], ◌∷◌, ◌++◌, zero, suc, length, map, Some, String, inl, inr, refl, sym, subst, ap, ◌∙◌, arith, is_some, Option}
use Rattle.std.proofs.lemmas.Bool.{and_parts}
use Rattle.std.proofs.lemmas.Option.{same_Some}
use Rattle.std.specs.Prelude.{if◌then◌else◌, slice_get, string_bytes, unwrap_or}
use Rattle.std.specs.declared.alloc.Global.{Global}
use Rattle.wit_words.specs.declared.source_map.Span.{Span}
use Rattle.wit_types.specs.declared.function.Param.{Param}
use Rattle.wit_types.specs.declared.function.Function.{Function}
use Rattle.wit_types.specs.declared.function.FunctionKind.{FunctionKind}
use Rattle.wit_types.specs.declared.function.FunctionKind.TheVariants as of
use Rattle.wit_types.specs.declared.interface.Interface.{Interface}
use Rattle.wit_types.specs.declared.interface.TypeDef.{TypeDef}
use Rattle.wit_types.specs.declared.interface.TypeOwner.TheVariants as belongs
use Rattle.wit_types.specs.declared.stability.Stability.{Stability}
use Rattle.wit_types.specs.declared.world.World.{World}
use Rattle.wit_types.specs.declared.world.WorldInclude.{WorldInclude}
use Rattle.wit_types.specs.declared.world.WorldItem.{WorldItem}
use Rattle.wit_types.specs.declared.world.WorldItem.TheVariants as item
use Rattle.wit_types.specs.declared.world_key.WorldKey.{WorldKey}
use Rattle.wit_types.specs.declared.world_key.WorldKey.TheVariants as key
use Rattle.wit_types.specs.WorldKey.{spelled, placed, known}
use Rattle.wit_features.specs.Features.{FeatureSet, stays}
use Rattle.wit_scopes.specs.Members.{MemberKind, MemberTree, used, defined, function, method, static, constructor}
use Rattle.wit_scopes.specs.declared.worlds.Side.{Side}
use Rattle.wit_scopes.specs.declared.worlds.Side.TheVariants.{Import, Export}
use Rattle.wit_scopes.specs.Scopes as scope
use Rattle.wit_scopes.specs.Scopes.{WorldScope, ListedTree, ExternKind}
use Rattle.wit_arena.specs.Tree.{Name, Place, in_world, Owner, Tree, Trees}
use Rattle.wit_arena.specs.Unfold.{Owners, trees}
use Rattle.wit_arena.specs.Standing.{Stands}
use Rattle.wit_arena.specs.Meaning.{Has}
use Rattle.wit_arena.proofs.Lists.{has_none, has_here, has_later, has_cases, map_has}
use Rattle.wit_moves.specs.Breaks.{AnyOf, IsKept}
use Rattle.wit_moves.specs.Moved.{moved_function_kind, Places, place_of, is_placed, is_resource_placed, is_signature_placed, resource_of, to, IsMovedFunction}
use Rattle.wit_moves.specs.Interfaces.{AreKept, no_entries, one_goes, one_stays, FunctionsBreak, function_stays, IsMovedInterface}
use Rattle.wit_moves.specs.Worlds.{item_stays, IsMovedItem, moved_interface, moved_function, moved_type, moved_key, moved_entry, IsMovedSide, SideBreaks}
use Rattle.wit_moved_trees.specs.Law.{StandForTheSame, MovedNamesStandForTheSame, MovedFunctionsStandForTheSame}
use Rattle.wit_moved_trees.proofs.Moving.{either}
use Rattle.wit_plans.specs.Checks.{Standing, IncludeBreaks, WorldBreaks}
use Rattle.wit_plans.specs.Moves.{moved_include, AreMovedWorlds, no_worlds, world_goes, world_stays, IsMovedWorld}
use Rattle.wit_plans.specs.Plans.{standing}
use Rattle.wit_plans.specs.declared.moves.MovedWorld.{MovedWorld}
use Rattle.wit_graph.proofs.Passed.wit_placed-Holding.{interface_kept, goes_to}
use Rattle.wit_graph.proofs.Passed.wit_placed-Own.{interface_from}
use Rattle.wit_well_formed.proofs.Passed.wit_readiness-Flat.{in_flat, has_one}
use Rattle.wit_package_types.specs.Stability.{IsStabilityOf}
use Rattle.wit_well_formed.specs.Passed.wit_resolved_scopes-InArena.{Context}
use Rattle.wit_well_formed.specs.Passed.wit_resolved_scopes-Texts.{InterfaceText, own_members}
use Rattle.wit_graph.specs.Passed.wit_graph_parts-Own.{own_parts, asked}
use Rattle.wit_types.specs.declared.«package».PackageName.{PackageName}
use Rattle.wit_types.specs.declared.«package».UnresolvedPackage.{UnresolvedPackage}
use Rattle.wit_graph.specs.Graph.{Graph}
use Rattle.wit_graph.specs.Push.{IsPushed}
use Rattle.wit_pushed_trees.specs.Meaning.{sort_of, IsKindMeant, IsFunctionMeant, IsInterfaceMeant, IsOfText}
use Rattle.wit_pushed_trees.specs.Worlds.{IsTextOf, all_kept, IsTypeWritten, IsTypeMeant, IsOwnFunctionMeant, listed_key, IsInterfaceListed, IsIncludeMeant, IsWorldMeant}
use Rattle.wit_pushed_trees.specs.Packages.{IsPackageMeant}
use Rattle.wit_pushed_trees.specs.Pushed.{AreAgreed, PushedTypesStandForTheSame, PushedInterfacesMeanTheirTexts}
use Rattle.wit_pushed_trees.proofs.Parts.{parts_joined, parts_split}
use Rattle.wit_moves.specs.Plan.{OwnerPlaces}
use Rattle.wit_graph.specs.Passed.wit_placed-Order.{interface_places}

-- ---- lists of which some goes

got_behind : (xs ys : List Interface) (k : ℕ) → slice_get (xs ++ ys) (length xs + k) ≡ slice_get ys k
got_behind [] ys k = ap (slice_get ys) (omega arith)
got_behind (x ∷ xs) ys k = (let e : length (x ∷ xs) + k ≡ suc (length xs + k) = omega arith in ap (slice_get (x ∷ (xs ++ ys))) e ∙ got_behind xs ys k)

-- what stands in a list of which some went was there, and stays
pub kept_was : {K V : Type 0} (stays : V → Bool) (changes : V → V → Type 0) (es fs : List (K × V)) → AreKept stays changes es fs → (x : K) (w : V) → Has fs (x, w) → (v : V) × Has es (x, v) × (stays v ≡ true) × changes v w
kept_was stays changes _ _ no_entries x w has = absurd (has_none (x, w) has)
kept_was stays changes _ _ (one_goes k v es fs st rest) x w has =
    let r = kept_was stays changes es fs rest x w has in
    (r.0, has_later (k, v) es (x, r.0) r.1, r.2, r.3)
kept_was {K} {V} stays changes _ _ (one_stays k v u es fs st change rest) x w has =
    elim (has_cases (k, u) fs (x, w) has) as (λ _. (y : V) × Has ((k, v) ∷ es) (x, y) × (stays y ≡ true) × changes y w) [
      | inl same ↦ (v, subst (λ (z : K). Has ((k, v) ∷ es) (z, v)) (sym (ap (λ (e : K × V). e.0) same)) (has_here (k, v) es), st, subst (changes v) (sym (ap (λ (e : K × V). e.1) same)) change)
      | inr later ↦ (let r = kept_was stays changes es fs rest x w later in (r.0, has_later (k, v) es (x, r.0) r.1, r.2, r.3))
    ]

-- ---- types and functions

pub sort_moved : (goes : ℕ → ℕ) (k : FunctionKind) → sort_of (moved_function_kind goes k) ≡ sort_of k
sort_moved goes of.Freestanding = refl
sort_moved goes of.AsyncFreestanding = refl
sort_moved goes (of.Method r) = refl
sort_moved goes (of.AsyncMethod r) = refl
sort_moved goes (of.Static r) = refl
sort_moved goes (of.AsyncStatic r) = refl
sort_moved goes (of.Constructor r) = refl

-- of a function that stays the gates let it, and the resource does that it is of
gates_stay : (features : FeatureSet) (places : Places) (f : Function) → function_stays features places f ≡ true → stays features f.stability ≡ true
gates_stay features places f h = (and_parts (stays features f.stability) (is_resource_placed places (resource_of f.kind)) h).0

resource_stays : (features : FeatureSet) (places : Places) (f : Function) → function_stays features places f ≡ true → is_resource_placed places (resource_of f.kind) ≡ true
resource_stays features places f h = (and_parts (stays features f.stability) (is_resource_placed places (resource_of f.kind)) h).1

-- the resource that a function is of goes where its name does
module _ (old new : Name → ℕ → Type 0) (places : Places) (goes : (x : Name) (i j : ℕ) → place_of places i ≡ Some j → old x i → new x j) where
  resource_goes : (x : Name) (k l : FunctionKind) (b : Bool) (i : ℕ) (fk : FunctionKind) → resource_of k ≡ Some i → resource_of l ≡ Some i → fk ≡ (if b then k else l) → is_resource_placed places (resource_of fk) ≡ true → old x i → new x (to places i)
  resource_goes x k l true i fk k_of l_of is there was = goes x i (to places i) (goes_to places i (to places i) (ap (is_resource_placed places) (sym (ap resource_of is ∙ k_of)) ∙ there) refl) was
  resource_goes x k l false i fk k_of l_of is there was = goes x i (to places i) (goes_to places i (to places i) (ap (is_resource_placed places) (sym (ap resource_of is ∙ l_of)) ∙ there) refl) was

  moved_if : (b : Bool) (k l fk : FunctionKind) → fk ≡ (if b then k else l) → moved_function_kind (to places) fk ≡ (if b then moved_function_kind (to places) k else moved_function_kind (to places) l)
  moved_if true k l fk is = ap (moved_function_kind (to places)) is
  moved_if false k l fk is = ap (moved_function_kind (to places)) is

  kind_goes : (m : MemberKind) (fk : FunctionKind) → is_resource_placed places (resource_of fk) ≡ true → IsKindMeant old m fk → IsKindMeant new m (moved_function_kind (to places) fk)
  kind_goes (used t n) fk there is = absurd is
  kind_goes (defined t) fk there is = absurd is
  kind_goes (function f) fk there is = moved_if f.is_async of.AsyncFreestanding of.Freestanding fk is
  kind_goes (method r f) fk there is = (to places is.0, resource_goes r.text (of.AsyncMethod is.0) (of.Method is.0) f.is_async is.0 fk refl refl is.2 there is.1, moved_if f.is_async (of.AsyncMethod is.0) (of.Method is.0) fk is.2)
  kind_goes (static r f) fk there is = (to places is.0, resource_goes r.text (of.AsyncStatic is.0) (of.Static is.0) f.is_async is.0 fk refl refl is.2 there is.1, moved_if f.is_async (of.AsyncStatic is.0) (of.Static is.0) fk is.2)
  kind_goes (constructor r ps t) fk there is = (to places is.0, resource_goes r.text (of.Constructor is.0) (of.Constructor is.0) true is.0 fk refl refl is.2 there is.1, ap (moved_function_kind (to places)) is.2)

module _ (given : Owner → Name → Tree) (c : Context) (graph_owners : Owners) (places : Places) (a b : List TypeDef) (stand : StandForTheSame given places c.owners a graph_owners b) where
  type_goes : (o : Place) (x : Name) (i j : ℕ) → place_of places i ≡ Some j → Stands c.me c.scopes given c.owners a o x i → Stands c.me c.scopes given graph_owners b o x j
  type_goes o x i j at means = (means.0, stand i j means.0 at means.1, means.2)

  abbrev function_goes : MovedFunctionsStandForTheSame → (o : Place) (ms : List MemberTree) (f g : Function) → IsMovedFunction (to places) f g → is_resource_placed places (resource_of f.kind) ≡ true → is_signature_placed places f.params.items f.result ≡ true
      → IsFunctionMeant given c c.owners a o ms f
      → IsFunctionMeant given c graph_owners b o ms g
  function_goes functions_stand o ms f g moved resource_placed all_placed is =
      let split = parts_split (trees c.owners given a) (map (λ (q : Param). Some q.ty) f.params.items) f.result is.means.parts is.means.unfolds in
      let there =
      functions_stand given places c.owners graph_owners a b f g (map (λ (q : Param). string_bytes q.name) f.params.items) split.front split.last stand moved all_placed record { names_are = refl; params_are = split.front_is; result_is = split.last_is } in
      record {
        member = is.member;
        written = is.written;
        named = ap (λ (n : String Global). string_bytes n) moved.name ∙ is.named;
        params_named = there.names_are ∙ is.params_named;
        kind = subst (IsKindMeant (λ (x : Name) (i : ℕ). Stands c.me c.scopes given graph_owners b o x i) is.member.kind) (sym moved.kind)
            (kind_goes (λ (x : Name) (i : ℕ). Stands c.me c.scopes given c.owners a o x i) (λ (x : Name) (i : ℕ). Stands c.me c.scopes given graph_owners b o x i) places (λ x i j at means. type_goes o x i j at means) is.member.kind f.kind resource_placed is.kind);
        means = record {
          parts = is.means.parts;
          unfolds = parts_joined (trees graph_owners given b) (map (λ (q : Param). Some q.ty) g.params.items) g.result split.front split.last there.params_are there.result_is ∙ ap (λ (ts : Trees). Some ts) (sym split.are);
          mean = is.means.mean;
        };
      }

-- ---- an interface

module _ (names_stand : MovedNamesStandForTheSame) (functions_stand : MovedFunctionsStandForTheSame) (given : Owner → Name → Tree) (c : Context) (graph_owners : Owners) (features : FeatureSet) (places : Places) (a b : List TypeDef)
    (stand : StandForTheSame given places c.owners a graph_owners b) (t : InterfaceText) (owner : ℕ) (old new : Interface) (is : IsInterfaceMeant given c c.owners a t old) (moved : IsMovedInterface features places owner old new)
    (kept : IsKept (FunctionsBreak features places old.functions.entries))
  where
    name_goes : (x : String Global) (i : ℕ) → Has new.types.entries (x, i) → Stands c.me c.scopes given graph_owners b t.place (string_bytes x) i
    name_goes x i has =
        let was = names_stand given places c.owners graph_owners a b old.types.entries new.types.entries stand moved.types x i has in
        let means = is.names x was.0 was.1 in
        (means.0, was.2 means.0 means.1, means.2)

    all_placed : (k : ℕ) (x : String Global) (f : Function) → slice_get old.functions.entries k ≡ Some (x, f) → function_stays features places f ≡ true → is_signature_placed places f.params.items f.result ≡ true
    all_placed k x f at stays = elim (either (is_signature_placed places f.params.items f.result)) as (λ _. is_signature_placed places f.params.items f.result ≡ true) [
      | inl is_there ↦ is_there
      | inr isnt ↦ absurd (kept f.span (record { place = k; one = (x, f); there = at; stays = stays; unplaced = isnt; stands = refl }))
    ]

    interface_goes : IsInterfaceMeant given c graph_owners b t new
    interface_goes = record {
      placed = λ x named. is.placed x (sym moved.name ∙ named);
      names = name_goes;
      functions = λ x g has.
          let was = kept_was (function_stays features places) (IsMovedFunction (to places)) old.functions.entries new.functions.entries moved.functions x g has in
          function_goes given c graph_owners places a b stand functions_stand t.place t.members was.0 g was.3 (resource_stays features places was.0 was.2) (all_placed was.1.0 x was.0 was.1.1 was.2) (is.functions x was.0 was.1);
    }

-- ---- a world

-- one of some that are kept
any_kept : (features : FeatureSet) (s : Standing) (ns : List WorldInclude) → IsKept (AnyOf (IncludeBreaks features s) ns) → (k : ℕ) (n : WorldInclude) → slice_get ns k ≡ Some n → IsKept (IncludeBreaks features s n)
any_kept features s [] kept k n at = absurd cc
any_kept features s (o ∷ ns) kept zero n at = λ where_ b. kept where_ (inl (subst (λ (x : WorldInclude). IncludeBreaks features s x where_) (sym (same_Some o n at)) b))
any_kept features s (o ∷ ns) kept (suc k) n at = any_kept features s ns (λ where_ b. kept where_ (inr b)) k n at

-- a type
type_from : (places interfaces : Places) (v : WorldItem) (i : ℕ) (span : Span) → IsMovedItem (to places) (to interfaces) v (item.TypeItem i span) → (j : ℕ) × (v ≡ item.TypeItem j span) × (i ≡ to places j)
type_from places interfaces _ _ _ (moved_type j s) = (j, refl, refl)

-- and a function
function_from : (places interfaces : Places) (v : WorldItem) (g : Function) → IsMovedItem (to places) (to interfaces) v (item.Function g) → (f : Function) × (v ≡ item.Function f) × IsMovedFunction (to places) f g
function_from places interfaces _ _ (moved_function f g is) = (f, refl, is)

-- and an interface
interface_from_item : (places interfaces : Places) (v : WorldItem) (i : ℕ) (gate : Stability) (span : Span) → IsMovedItem (to places) (to interfaces) v (item.Interface i gate span) → (j : ℕ) × (v ≡ item.Interface j gate span) × (i ≡ to interfaces j)
interface_from_item places interfaces _ _ _ _ (moved_interface j g s) = (j, refl, refl)

-- a key that is spelled stays
spelled_key : (f : ℕ → ℕ) (k : WorldKey) (x : Name) → known k ≡ spelled x → known (moved_key f k) ≡ spelled x
spelled_key f (key.Name n) x e = e
spelled_key f (key.Interface i) x e = absurd cc

-- and so does one of what a text lists, with what it stands for
listed_key_moves : (f : ℕ → ℕ) (k : WorldKey) (l : ListedTree) (kind : ExternKind) (id : ℕ) → known k ≡ listed_key l kind id → known (moved_key f k) ≡ listed_key l kind (f id)
listed_key_moves f k l (scope.ExternKind.function g) id e = spelled_key f k l.name.text e
listed_key_moves f k l (scope.ExternKind.interface ms) id e = spelled_key f k l.name.text e
listed_key_moves f (key.Name n) l (scope.item t) id e = absurd cc
listed_key_moves f (key.Interface i) l (scope.item t) id e = (let same : i ≡ id = cc in ap (λ (j : ℕ). placed (f j)) same)

-- what stands on a side was there
record Was (features : FeatureSet) (places interfaces : Places) (old : List (WorldKey × WorldItem)) (k : WorldKey) (x : WorldItem) : Type 0 where
  first : WorldKey
  item_was : WorldItem
  there : Has old (first, item_was)
  stayed : item_stays features places item_was ≡ true
  moved : IsMovedItem (to places) (to interfaces) item_was x
  key_is : k ≡ moved_key (to interfaces) first

side_was : (features : FeatureSet) (places interfaces : Places) (old new : List (WorldKey × WorldItem)) → IsMovedSide features places interfaces old new → (k : WorldKey) (x : WorldItem) → Has new (k, x) → Was features places interfaces old k x
side_was features places interfaces old new (kept, are, is) k x has =
    let e = map_has (moved_entry (to interfaces)) kept (k, x) (subst (λ (es : List (WorldKey × WorldItem)). Has es (k, x)) is has) in
    let same : x ≡ e.0.1 = ap (λ (y : WorldKey × WorldItem). y.1) e.2 in
    let was = kept_was (item_stays features places) (IsMovedItem (to places) (to interfaces)) old kept are e.0.0 e.0.1 e.1 in
    record {
      first = e.0.0;
      item_was = was.0;
      there = was.1;
      stayed = was.2;
      moved = subst (IsMovedItem (to places) (to interfaces) was.0) (sym same) was.3;
      key_is = ap (λ (y : WorldKey × WorldItem). y.0) e.2;
    }

-- types of a world's text that have places are such types there, and stay
abbrev pub WrittenGo : FeatureSet → Places → List TypeDef → List TypeDef → Type 0
WrittenGo features places a b = (ms : List MemberTree) (x : Name) (i j : ℕ) → place_of places i ≡ Some j → IsTypeWritten all_kept a ms x i → IsTypeWritten (stays features) b ms x j

module _ (functions_stand : MovedFunctionsStandForTheSame) (given : Owner → Name → Tree) (c : Context) (graph_owners : Owners) (features : FeatureSet) (s : Standing) (a b : List TypeDef) (stand : StandForTheSame given s.types c.owners a graph_owners b) (written_go : WrittenGo features s.types a b) (ws : List WorldScope) (old : World) (m : MovedWorld)
    (is : IsWorldMeant all_kept given c c.owners a ws old.name old.stability old.imports.entries old.exports.entries old.includes.items) (moved : IsMovedWorld features s old m) (still : stays features old.stability ≡ true)
    (interfaces_are : (j : ℕ) → is_placed s.interfaces j ≡ true → slice_get graph_owners.interfaces (to s.interfaces j) ≡ slice_get c.owners.interfaces j)
    (worlds_are : (j : ℕ) → is_placed s.worlds j ≡ true → slice_get graph_owners.worlds (to s.worlds j) ≡ slice_get c.owners.worlds j)
  where
    text_goes : (w : WorldScope) → IsTextOf all_kept ws old.name old.stability w → IsTextOf (stays features) ws m.name m.stability w
    text_goes w t = record {
      there = t.there;
      named = ap (λ (n : String Global). string_bytes n) moved.name ∙ t.named;
      gates = (subst (IsStabilityOf w.attributes) (sym moved.stability) t.gates.0, subst (λ (q : Stability). stays features q ≡ true) (sym moved.stability) still);
    }

    own_type_goes : (k : WorldKey) (i : ℕ) (span : Span) → Has m.imports.items (k, item.TypeItem i span) → IsTypeMeant (stays features) given c graph_owners b ws m.name m.stability k i
    own_type_goes k i span has =
        let was = side_was features s.types s.interfaces old.imports.entries m.imports.items moved.imports k (item.TypeItem i span) has in
        let from = type_from s.types s.interfaces was.item_was i span was.moved in
        let there : Has old.imports.entries (was.first, item.TypeItem from.0 span) = subst (λ (x : WorldItem). Has old.imports.entries (was.first, x)) from.1 was.there in
        let stands : place_of s.types from.0 ≡ Some i = goes_to s.types from.0 i (subst (λ (x : WorldItem). item_stays features s.types x ≡ true) from.1 was.stayed) (sym from.2) in
        let t = is.own_types was.first from.0 span there in
        record {
          text = t.text;
          is_text = text_goes t.text t.is_text;
          spelling = t.spelling;
          known_by = ap known was.key_is ∙ spelled_key (to s.interfaces) was.first t.spelling t.known_by;
          means = type_goes given c graph_owners s.types a b stand (in_world t.text.name.text) t.spelling from.0 i stands t.means;
          written = written_go (own_members t.text.members) t.spelling from.0 i stands t.written;
        }

    all_go : (es : List (WorldKey × WorldItem)) → IsKept (SideBreaks features s.types s.interfaces es) → (n : ℕ) (k : WorldKey) (f : Function) → slice_get es n ≡ Some (k, item.Function f) → item_stays features s.types (item.Function f) ≡ true → is_signature_placed s.types f.params.items f.result ≡ true
    all_go es kept n k f at stays = elim (either (is_signature_placed s.types f.params.items f.result)) as (λ _. is_signature_placed s.types f.params.items f.result ≡ true) [
      | inl is_there ↦ is_there
      | inr isnt ↦ absurd (kept f.span (record { place = n; one = (k, item.Function f); there = at; stays = stays; unplaced = isnt; stands = refl }))
    ]

    own_function_goes : (side : Side) (es fs : List (WorldKey × WorldItem)) → IsMovedSide features s.types s.interfaces es fs → IsKept (SideBreaks features s.types s.interfaces es)
        → ((k : WorldKey) (f : Function) → Has es (k, item.Function f) → IsOwnFunctionMeant all_kept given c c.owners a ws old.name old.stability side f)
        → (k : WorldKey) (g : Function) → Has fs (k, item.Function g) → IsOwnFunctionMeant (stays features) given c graph_owners b ws m.name m.stability side g
    own_function_goes side es fs sides kept meant k g has =
        let was = side_was features s.types s.interfaces es fs sides k (item.Function g) has in
        let from = function_from s.types s.interfaces was.item_was g was.moved in
        let there : Has es (was.first, item.Function from.0) = subst (λ (x : WorldItem). Has es (was.first, x)) from.1 was.there in
        let stays_there = subst (λ (x : WorldItem). item_stays features s.types x ≡ true) from.1 was.stayed in
        let f = meant was.first from.0 there in
        let resource_there = resource_stays features s.types from.0 stays_there in
        let ms : List MemberTree = own_members f.text.members in
        record {
          text = f.text;
          is_text = text_goes f.text f.is_text;
          is = function_goes given c graph_owners s.types a b stand functions_stand (in_world f.text.name.text) ms from.0 g from.2 resource_there (all_go es kept there.0 was.first from.0 there.1 stays_there) f.is;
          giver = f.giver;
          on_side = f.on_side;
          gives = f.gives;
          gates = (subst (IsStabilityOf f.is.member.attributes) (sym from.2.stability) f.gates.0, subst (λ (q : Stability). stays features q ≡ true) (sym from.2.stability) (gates_stay features s.types from.0 stays_there));
          resource = subst (IsKindMeant (λ (x : Name) (i : ℕ). IsTypeWritten (stays features) b ms x i) f.is.member.kind) (sym from.2.kind)
              (kind_goes (λ (x : Name) (i : ℕ). IsTypeWritten all_kept a ms x i) (λ (x : Name) (i : ℕ). IsTypeWritten (stays features) b ms x i) s.types (written_go ms) f.is.member.kind from.0.kind resource_there f.resource);
        }

    interface_placed : (es : List (WorldKey × WorldItem)) → IsKept (SideBreaks features s.types s.interfaces es) → (n : ℕ) (k : WorldKey) (j : ℕ) (gate : Stability) (span : Span) → slice_get es n ≡ Some (k, item.Interface j gate span)
        → item_stays features s.types (item.Interface j gate span) ≡ true → is_placed s.interfaces j ≡ true
    interface_placed es kept n k j gate span at stays = elim (either (is_placed s.interfaces j)) as (λ _. is_placed s.interfaces j ≡ true) [
      | inl is_there ↦ is_there
      | inr isnt ↦ absurd (kept span (record { place = n; one = (k, item.Interface j gate span); there = at; stays = stays; unplaced = isnt; stands = refl }))
    ]

    interface_listed : (side : Side) (es fs : List (WorldKey × WorldItem)) → IsMovedSide features s.types s.interfaces es fs → IsKept (SideBreaks features s.types s.interfaces es)
        → ((k : WorldKey) (i : ℕ) (gate : Stability) (span : Span) → Has es (k, item.Interface i gate span) → IsInterfaceListed all_kept c c.owners ws old.name old.stability side k i gate)
        → (k : WorldKey) (i : ℕ) (gate : Stability) (span : Span) → Has fs (k, item.Interface i gate span) → IsInterfaceListed (stays features) c graph_owners ws m.name m.stability side k i gate
    interface_listed side es fs sides kept listed k i gate span has =
        let was = side_was features s.types s.interfaces es fs sides k (item.Interface i gate span) has in
        let from = interface_from_item s.types s.interfaces was.item_was i gate span was.moved in
        let there : Has es (was.first, item.Interface from.0 gate span) = subst (λ (x : WorldItem). Has es (was.first, x)) from.1 was.there in
        let stays_there = subst (λ (x : WorldItem). item_stays features s.types x ≡ true) from.1 was.stayed in
        let l = listed was.first from.0 gate span there in
        record {
          text = l.text;
          is_text = text_goes l.text l.is_text;
          listed = l.listed;
          there = l.there;
          side_is = l.side_is;
          whose = l.whose;
          listed_as = l.listed_as;
          owner = ap (slice_get graph_owners.interfaces) from.2 ∙ interfaces_are from.0 (interface_placed es kept there.0 was.first from.0 gate span there.1 stays_there) ∙ l.owner;
          keyed = ap known was.key_is ∙ listed_key_moves (to s.interfaces) was.first l.listed l.listed.kind from.0 l.keyed ∙ ap (listed_key l.listed l.listed.kind) (sym from.2);
          gates = (l.gates.0, stays_there);
        }

    include_goes : IsKept (AnyOf (IncludeBreaks features s) old.includes.items) → (n : WorldInclude) → Has m.includes.items n → IsIncludeMeant (stays features) c graph_owners ws m.name m.stability n
    include_goes kept n has =
        let r = in_flat (moved_include features s.worlds) old.includes.items n (subst (λ (ns : List WorldInclude). Has ns n) moved.includes has) in
        of r.0 r.1 (stays features r.0.stability) refl r.2
      where
        of : (o : WorldInclude) → Has old.includes.items o → (b : Bool) → stays features o.stability ≡ b → Has (if b then record o { id = to s.worlds o.id } ∷ [] else []) n → IsIncludeMeant (stays features) c graph_owners ws m.name m.stability n
        of o was false gate h = absurd (has_none n h)
        of o was true gate h =
            let i : IsIncludeMeant all_kept c c.owners ws old.name old.stability o = is.included o was in
            let same : n ≡ record o { id = to s.worlds o.id } = has_one (record o { id = to s.worlds o.id }) n h in
            let placed : is_placed s.worlds o.id ≡ true = elim (either (is_placed s.worlds o.id)) as (λ _. is_placed s.worlds o.id ≡ true) [
              | inl is_there ↦ is_there
              | inr isnt ↦ absurd (any_kept features s old.includes.items kept was.0 o was.1 o.span (gate, isnt, refl))
            ] in
            subst (IsIncludeMeant (stays features) c graph_owners ws m.name m.stability) (sym same) (record { text = i.text; is_text = text_goes i.text i.is_text; written = i.written; there = i.there; owner = worlds_are o.id placed ∙ i.owner; names = i.names; gates = (i.gates.0, gate) })

    world_goes_there : IsKept (AnyOf (IncludeBreaks features s) old.includes.items) → IsKept (SideBreaks features s.types s.interfaces old.imports.entries) → IsKept (SideBreaks features s.types s.interfaces old.exports.entries) → IsWorldMeant (stays features) given c graph_owners b ws m.name m.stability m.imports.items m.exports.items m.includes.items
    world_goes_there includes_kept imports_kept exports_kept = record {
      text = is.text;
      is_text = text_goes is.text is.is_text;
      own_types = own_type_goes;
      imported_functions = own_function_goes Import old.imports.entries m.imports.items moved.imports imports_kept is.imported_functions;
      exported_functions = own_function_goes Export old.exports.entries m.exports.items moved.exports exports_kept is.exported_functions;
      imported = interface_listed Import old.imports.entries m.imports.items moved.imports imports_kept is.imported;
      exported = interface_listed Export old.exports.entries m.exports.items moved.exports exports_kept is.exported;
      no_exported_types = λ k i span has.
          let was = side_was features s.types s.interfaces old.exports.entries m.exports.items moved.exports k (item.TypeItem i span) has in
          let from = type_from s.types s.interfaces was.item_was i span was.moved in
          is.no_exported_types was.first from.0 span (subst (λ (x : WorldItem). Has old.exports.entries (was.first, x)) from.1 was.there);
      included = include_goes includes_kept;
    }

-- ---- all that came

-- a world that stays was one of the package's
record StaysFrom (features : FeatureSet) (s : Standing) (ws : List World) (m : MovedWorld) : Type 0 where
  place : ℕ
  old : World
  was : slice_get ws place ≡ Some old
  gate : stays features old.stability ≡ true
  moved : IsMovedWorld features s old m

from_later : (features : FeatureSet) (s : Standing) (w : World) (ws : List World) (m : MovedWorld) → StaysFrom features s ws m → StaysFrom features s (w ∷ ws) m
from_later features s w ws m f = record { place = suc f.place; old = f.old; was = f.was; gate = f.gate; moved = f.moved }

stays_from : (features : FeatureSet) (s : Standing) (ws : List World) (ms : List MovedWorld) → AreMovedWorlds features s ws ms → (k : ℕ) (m : MovedWorld) → slice_get ms k ≡ Some m → StaysFrom features s ws m
stays_from features s _ _ no_worlds k m at = absurd cc
stays_from features s _ _ (world_goes w ws ms st rest) k m at = from_later features s w ws m (stays_from features s ws ms rest k m at)
stays_from features s _ _ (world_stays w n ws ms st is rest) zero m at = record { place = zero; old = w; was = refl; gate = st; moved = subst (IsMovedWorld features s w) (same_Some n m at) is }
stays_from features s _ _ (world_stays w n ws ms st is rest) (suc k) m at = from_later features s w ws m (stays_from features s ws ms rest k m at)

world_kept : (features : FeatureSet) (s : Standing) (ws : List World) → IsKept (AnyOf (WorldBreaks features s) ws) → (k : ℕ) (w : World) → slice_get ws k ≡ Some w → IsKept (WorldBreaks features s w)
world_kept features s [] kept k w at = absurd cc
world_kept features s (v ∷ ws) kept zero w at = λ where_ b. kept where_ (inl (subst (λ (x : World). WorldBreaks features s x where_) (sym (same_Some v w at)) b))
world_kept features s (v ∷ ws) kept (suc k) w at = world_kept features s ws (λ where_ b. kept where_ (inr b)) k w at

pub interfaces_go : PushedTypesStandForTheSame → MovedNamesStandForTheSame → MovedFunctionsStandForTheSame → PushedInterfacesMeanTheirTexts
interfaces_go typed names_stand functions_stand given c interfaces worlds graph_owners eq features old p new id package_is h agreed k d at =
    let a = h.put.added.parts.own_interfaces in
    let here : slice_get a.moved k ≡ Some d = sym (got_behind old.tables.interfaces.all a.moved k) ∙ subst (λ (ds : List Interface). slice_get ds (length old.tables.interfaces.all + k) ≡ Some d) a.added.all_are at in
    let from = interface_from features (standing h.owners h.places) (length old.tables.packages) h.foreign.interfaces (length old.tables.interfaces.all) (own_parts p).interfaces a.moved a.are_moved k d here in
    let j : ℕ = (asked p).interfaces + from.place in
    let o : IsOfText given c c.owners p.types interfaces j from.old = package_is.each_interface given from.place from.old from.was in
    let so_many : length h.foreign.interfaces ≡ (asked p).interfaces = h.are_places.found.interfaces_are.all in
    let stands : place_of h.owners.interfaces j ≡ Some (length old.tables.interfaces.all + k) =
    ap (λ (o : OwnerPlaces). place_of o.interfaces j) h.are_places.planned.owners_are
    ∙ ap (place_of (interface_places features h.foreign.interfaces (length old.tables.interfaces.all) (own_parts p).interfaces)) (ap (λ (n : ℕ). n + from.place) (sym so_many)) ∙ from.stands in
    let kept : IsKept (FunctionsBreak features h.places from.old.functions.entries) =
    interface_kept features (standing h.owners h.places) (own_parts p).interfaces (λ at b. h.are_places.planned.kept at (inl b)) from.place from.old from.was from.kept in (
      o.0,
      o.1,
      ap (λ (i : Option ℕ). slice_get graph_owners.interfaces (unwrap_or i j)) (sym stands) ∙ agreed.owners_are (belongs.Interface j) (ap is_some stands) ∙ o.2,
      interface_goes names_stand functions_stand given c graph_owners features h.places p.types new.tables.types (typed given c.owners graph_owners eq features old p new id h (package_is.whole given) agreed) o.0 (length old.tables.packages) from.old d o.3
          from.moved kept,
    )

-- wherever its types stand
pub worlds_go_at : MovedFunctionsStandForTheSame → (given : Owner → Name → Tree) (c : Context) (interfaces : List InterfaceText) (worlds : List WorldScope) (graph_owners : Owners) (eq : PackageName → PackageName → Bool) (features : FeatureSet) (old : Graph) (p : UnresolvedPackage) (new : Graph) (id : ℕ)
    → IsPackageMeant c interfaces worlds p → (h : IsPushed eq features old p new id) → AreAgreed given c.owners graph_owners old.tables h.foreign h.owners p → (types : List TypeDef) → StandForTheSame given h.places c.owners p.types graph_owners types → WrittenGo features h.places p.types types
    → (k : ℕ) (m : MovedWorld) → slice_get h.put.added.parts.own_worlds.moved k ≡ Some m → IsWorldMeant (stays features) given c graph_owners types worlds m.name m.stability m.imports.items m.exports.items m.includes.items
worlds_go_at functions_stand given c interfaces worlds graph_owners eq features old p new id package_is h agreed types stand written_go k m at =
    let s : Standing = standing h.owners h.places in
    let from = stays_from features s (own_parts p).worlds h.put.added.parts.own_worlds.moved h.put.added.parts.own_worlds.are_moved k m at in
    let kept : IsKept (WorldBreaks features s from.old) = world_kept features s (own_parts p).worlds (λ at b. h.are_places.planned.kept at (inr b)) from.place from.old from.was in
    world_goes_there functions_stand given c graph_owners features s p.types types stand written_go worlds from.old m
    (package_is.each_world given from.place from.old from.was) from.moved from.gate (λ j placed. agreed.owners_are (belongs.Interface j) placed) (λ j placed. agreed.owners_are (belongs.World j) placed) (λ at b. kept at (from.gate, inr b)) (λ at b. kept at (from.gate, inl (inl b)))
    (λ at b. kept at (from.gate, inl (inr b)))
