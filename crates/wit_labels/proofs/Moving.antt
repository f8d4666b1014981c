-- What is moved has the same names.
use Rattle.std.proofs.Common.{◌≡◌, ℕ, Bool, true, List, [], ◌∷◌, ◌++◌, Option, Some, None, String, map, refl, sym, subst, ap, ◌∙◌}
use Rattle.std.specs.Prelude.{string_bytes, unwrap_or, flat_map}
use Rattle.std.specs.List.{AllByRecursion as Each}
use Rattle.std.specs.Map.{lookup}
use Rattle.std.specs.declared.alloc.Global.{Global}
use Rattle.distinct_names.specs.Names.{all_new}
use Rattle.wit_joined.specs.Passed.wit_types-declared-function-Function.{Function}
use Rattle.wit_joined.specs.Passed.wit_types-declared-function-Param.{Param}
use Rattle.wit_joined.specs.Passed.wit_types-declared-kind-Case.{Case}
use Rattle.wit_joined.specs.Passed.wit_types-declared-kind-Field.{Field}
use Rattle.wit_joined.specs.Passed.wit_types-declared-kind-TypeDefKind.{TypeDefKind}
use Rattle.wit_joined.specs.Passed.wit_types-declared-interface-Interface.{Interface}
use Rattle.wit_joined.specs.Passed.wit_types-declared-interface-TypeDef.{TypeDef}
use Rattle.wit_joined.specs.Passed.wit_types-declared-world-World.{World}
use Rattle.wit_joined.specs.Passed.wit_types-declared-world-WorldItem.{WorldItem}
use Rattle.wit_joined.specs.Passed.wit_types-declared-world_key-WorldKey.{WorldKey}
use Rattle.wit_joined.specs.Passed.wit_types-declared-world_key-WorldKey-TheVariants as key
use Rattle.wit_joined.specs.Passed.wit_types-WorldKey.{key_eq}
use Rattle.wit_joined.specs.Passed.wit_features-Features.{FeatureSet}
use Rattle.wit_joined.specs.Passed.wit_moves-Moved as moves
use Rattle.wit_joined.specs.Passed.wit_moves-Moved.{Places, to, moved_field, moved_case, moved_param, IsMovedKind, IsMovedFunction}
use Rattle.wit_joined.specs.Passed.wit_moves-Plan as plan
use Rattle.wit_joined.specs.Passed.wit_moves-Plan.{OwnerPlaces, AreMovedDefs}
use Rattle.wit_joined.specs.Passed.wit_moves-Interfaces.{AreKept, no_entries, one_goes, one_stays, AreMovedFunctions}
use Rattle.wit_joined.specs.Passed.wit_moves-Worlds as worlds
use Rattle.wit_joined.specs.Passed.wit_moves-Worlds.{IsMovedItem, moved_entry, IsMovedSide}
use Rattle.wit_joined.specs.Passed.wit_plans-Checks.{Standing}
use Rattle.wit_joined.specs.Passed.wit_plans-Moves.{AreMovedInterfaces, no_interfaces, interface_goes, interface_stays, AreMovedWorlds, no_worlds, world_goes, world_stays}
use Rattle.wit_joined.specs.Passed.wit_plans-declared-moves-MovedWorld.{MovedWorld}
use Rattle.wit_placed.specs.Passed.wit_elaborated-Elaborated.{implied, imported, plain, plain_entries, elaborated}
use Rattle.wit_labels.specs.Labels.{labels_of, HasLabelsApart, AreLabelsApart, AreParametersApart, HasParametersApart, HaveParametersApart, functions_in, IsInterfaceApart, IsItemApart, IsSideApart, IsWorldApart}
use Rattle.wit_labels.specs.Moved.{IsMovedWorldApart, MovedTypesHaveLabelsApart, MovedInterfacesAreApart, MovedWorldsAreApart, ElaboratedWorldsAreApart}
use Rattle.wit_labels.proofs.Every.{each_join, each_front, each_behind}

-- a change that keeps what is read
read_kept : {X Z : Type 0} (read : X → Z) (m : X → X) → ((x : X) → read (m x) ≡ read x) → (xs : List X) → map read (map m xs) ≡ map read xs
read_kept read m same [] = refl
read_kept read m same (x ∷ xs) = (let e = same x in let es = read_kept read m same xs in cc)

-- ---- types

labels_moved : (f : ℕ → ℕ) (k l : TypeDefKind) → IsMovedKind f k l → labels_of l ≡ labels_of k
labels_moved f _ _ (moves.moved_record r s e) =
    ap (map (λ (x : Field). string_bytes x.name)) e ∙ read_kept (λ (x : Field). string_bytes x.name) (moved_field f) (λ x. refl) r.fields.items
labels_moved f _ _ moves.moved_resource = refl
labels_moved f _ _ (moves.moved_handle_kind h) = refl
labels_moved f _ _ (moves.moved_flags x) = refl
labels_moved f _ _ (moves.moved_tuple t u e) = refl
labels_moved f _ _ (moves.moved_variant v w e) =
    ap (map (λ (x : Case). string_bytes x.name)) e ∙ read_kept (λ (x : Case). string_bytes x.name) (moved_case f) (λ x. refl) v.cases.items
labels_moved f _ _ (moves.moved_enum e) = refl
labels_moved f _ _ (moves.moved_option r) = refl
labels_moved f _ _ (moves.moved_result r) = refl
labels_moved f _ _ (moves.moved_list r) = refl
labels_moved f _ _ (moves.moved_fixed_length_list r n) = refl
labels_moved f _ _ (moves.moved_future p) = refl
labels_moved f _ _ (moves.moved_stream p) = refl
labels_moved f _ _ (moves.moved_alias r) = refl
labels_moved f _ _ moves.moved_unknown = refl

abbrev IsApart : TypeDef → Type 0
IsApart d = HasLabelsApart d.kind

pub moved_types : MovedTypesHaveLabelsApart
moved_types owners places first _ _ plan.no_defs h = tt
moved_types owners places first _ _ (plan.left_out ds es d more out) h = moved_types owners places first ds es more (each_front IsApart ds (d ∷ []) h)
moved_types owners places first _ _ (plan.moved ds es d e more stands is) h =
    let here : HasLabelsApart d.kind = (each_behind IsApart ds (d ∷ []) h).0 in
    each_join IsApart es (e ∷ []) (moved_types owners places first ds es more (each_front IsApart ds (d ∷ []) h))
    (ap (all_new []) (labels_moved (to places) d.kind e.kind is.kind) ∙ here, tt)

-- ---- functions

pub function_moved : (f : ℕ → ℕ) (old new : Function) → IsMovedFunction f old new → HasParametersApart old → HasParametersApart new
function_moved f old new is h =
    ap (all_new []) (ap (map (λ (p : Param). string_bytes p.name)) is.params ∙ read_kept (λ (p : Param). string_bytes p.name) (moved_param f) (λ p. refl) old.params.items) ∙ h

functions_moved : (features : FeatureSet) (places : Places) (es fs : List (String Global × Function)) → AreMovedFunctions features places es fs → HaveParametersApart (functions_in es) → HaveParametersApart (functions_in fs)
functions_moved features places _ _ no_entries h = tt
functions_moved features places _ _ (one_goes k v es fs goes more) h = functions_moved features places es fs more h.1
functions_moved features places _ _ (one_stays k v w es fs stays is more) h = (function_moved (to places) v w is h.0, functions_moved features places es fs more h.1)

pub moved_interfaces : MovedInterfacesAreApart
moved_interfaces features s owner _ _ no_interfaces h = tt
moved_interfaces features s owner _ _ (interface_goes d ds es goes more) h = moved_interfaces features s owner ds es more h.1
moved_interfaces features s owner _ _ (interface_stays d e ds es stays is more) h =
    (functions_moved features s.types d.functions.entries e.functions.entries is.functions h.0, moved_interfaces features s owner ds es more h.1)

-- ---- worlds

pub item_moved : (types interfaces : ℕ → ℕ) (x y : WorldItem) → IsMovedItem types interfaces x y → IsItemApart x → IsItemApart y
item_moved types interfaces _ _ (worlds.moved_interface id stability span) h = tt
item_moved types interfaces _ _ (worlds.moved_function f g is) h = function_moved types f g is h
item_moved types interfaces _ _ (worlds.moved_type id span) h = tt

items_moved : (stays : WorldItem → Bool) (types interfaces : ℕ → ℕ) (es fs : List (WorldKey × WorldItem)) → AreKept stays (IsMovedItem types interfaces) es fs → IsSideApart es → IsSideApart fs
items_moved stays types interfaces _ _ no_entries h = tt
items_moved stays types interfaces _ _ (one_goes k v es fs goes more) h = items_moved stays types interfaces es fs more h.1
items_moved stays types interfaces _ _ (one_stays k v w es fs st is more) h = (item_moved types interfaces v w is h.0, items_moved stays types interfaces es fs more h.1)

keys_moved : (interfaces : ℕ → ℕ) (es : List (WorldKey × WorldItem)) → IsSideApart es → IsSideApart (map (moved_entry interfaces) es)
keys_moved interfaces [] h = tt
keys_moved interfaces (e ∷ es) h = (h.0, keys_moved interfaces es h.1)

side_moved : (features : FeatureSet) (places interfaces : Places) (old new : List (WorldKey × WorldItem)) → IsMovedSide features places interfaces old new → IsSideApart old → IsSideApart new
side_moved features places interfaces old new (kept, items, is) h = subst IsSideApart (sym is) (keys_moved (to interfaces) kept (items_moved _ (to places) (to interfaces) old kept items h))

pub moved_worlds : MovedWorldsAreApart
moved_worlds features s _ _ no_worlds h = tt
moved_worlds features s _ _ (world_goes w ws ms goes more) h = moved_worlds features s ws ms more h.1
moved_worlds features s _ _ (world_stays w m ws ms stays is more) h = (
  record {
    imports = side_moved features s.types s.interfaces w.imports.entries m.imports.items is.imports h.0.imports;
    exports = side_moved features s.types s.interfaces w.exports.entries m.exports.items is.exports h.0.exports;
  },
  moved_worlds features s ws ms more h.1,
)

-- ---- all that a world imports in the end

found_apart : (is : WorldKey → Bool) (es : List (WorldKey × WorldItem)) (x : WorldItem) → IsSideApart es → IsItemApart x → IsItemApart (unwrap_or (lookup is es) x)
found_apart is [] x h here = here
found_apart is (e ∷ es) x h here = elim (is e.0) as (λ b. IsItemApart (unwrap_or (Rattle.std.specs.Prelude.cond b (Some e.1) (lookup is es)) x)) [ true ↦ h.0 | _ ↦ found_apart is es x h.1 here ]

plain_apart : (es : List (WorldKey × WorldItem)) → IsSideApart es → IsSideApart (plain_entries es)
plain_apart [] h = tt
plain_apart ((key.Name n, x) ∷ es) h = (h.0, plain_apart es h.1)
plain_apart ((key.Interface i, x) ∷ es) h = plain_apart es h.1

imported_apart : (ds : List Interface) (es : List (WorldKey × WorldItem)) (order : List ℕ) → IsSideApart es → IsSideApart (map (λ (i : ℕ). (key.Interface i, imported ds es i)) order)
imported_apart ds es [] h = tt
imported_apart ds es (i ∷ is) h = (found_apart (key_eq (key.Interface i)) es (implied ds i) h tt, imported_apart ds es is h)

pub elaborated_worlds : ElaboratedWorldsAreApart
elaborated_worlds types interfaces uses world found is h =
    let imports : IsSideApart found.imports.entries =
    subst IsSideApart (sym is.imports)
    (each_join (λ (e : WorldKey × WorldItem). IsItemApart e.1) (map (λ (i : ℕ). (key.Interface i, imported interfaces world.imports.entries i)) is.order) (plain_entries world.imports.entries)
    (imported_apart interfaces world.imports.entries is.order h.imports) (plain_apart world.imports.entries h.imports)) in
    let same = ap (λ (w : World). w.exports.entries) is.rest in
    record { imports = imports; exports = subst IsSideApart (sym same) h.exports }
