-- What definitions are made of is what they say, and what they say where their types are moved.
use Rattle.std.proofs.Common.{◌≡◌, ℕ, List, [], ◌∷◌, ◌++◌, Option, None, refl, sym, ap, ◌∙◌, map, flat_map}
use Rattle.wit_types.specs.declared.kind.«Type».{«Type» as Ref}
use Rattle.wit_types.specs.declared.kind.Field.{Field}
use Rattle.wit_types.specs.declared.kind.Case.{Case}
use Rattle.wit_types.specs.declared.kind.TypeDefKind.{TypeDefKind}
use Rattle.wit_types.specs.declared.kind.TypeDefKind.TheVariants as kind
use Rattle.wit_types.specs.declared.interface.TypeDef.{TypeDef}
use Rattle.wit_types.specs.declared.interface.TypeOwner.{TypeOwner}
use Rattle.wit_types.specs.declared.function.Param.{Param}
use Rattle.wit_types.specs.declared.function.Function.{Function}
use Rattle.wit_types.specs.declared.world.WorldItem.{WorldItem}
use Rattle.wit_types.specs.declared.world.WorldItem.TheVariants as item
use Rattle.wit_moves.specs.Moved as moves
use Rattle.wit_moves.specs.Moved.{moved_ref, moved_part, moved_handle, moved_field, moved_case, moved_param, moved_function_kind, IsMovedKind, IsMovedDef, IsMovedFunction}
use Rattle.wit_moves.specs.Worlds as items
use Rattle.wit_moves.specs.Worlds.{IsMovedItem}
use Rattle.wit_reach.specs.Ids.{ref_ids, part_ids, handle_ids, kind_ids, resource_ids, item_ids}
use Rattle.wit_reach.specs.Deps.{ref_id, alias_target}
use Rattle.wit_reach.specs.Lists.{item_type, item_interface}
use Rattle.wit_push_causes.specs.Said
use Rattle.wit_push_causes.specs.Said.{Labelled, SaidKind, SaidType, SaidParam, SaidFunction, SaidItem, field_said, case_said, kind_said, type_said, param_said, function_said, item_said}
use Rattle.wit_push_causes.proofs.Lists.{map_twice, flat_twice}

-- ---- the types of which it is made

abbrev pub said_ids : SaidKind → List ℕ
said_ids (Said.a_record fs) = flat_map (λ (x : Labelled Ref). ref_ids x.of) fs
said_ids Said.a_resource = []
said_ids (Said.a_handle h) = handle_ids h
said_ids (Said.some_flags fs) = []
said_ids (Said.a_tuple ts) = flat_map ref_ids ts
said_ids (Said.a_variant cs) = flat_map (λ (x : Labelled (Option Ref)). part_ids x.of) cs
said_ids (Said.an_enum cs) = []
said_ids (Said.an_option r) = ref_ids r
said_ids (Said.a_result a b) = part_ids a ++ part_ids b
said_ids (Said.a_list r) = ref_ids r
said_ids (Said.a_fixed_length_list r n) = ref_ids r
said_ids (Said.a_future p) = part_ids p
said_ids (Said.a_stream p) = part_ids p
said_ids (Said.an_alias r) = ref_ids r
said_ids Said.an_unknown = []

ids_said : (k : TypeDefKind) → said_ids (kind_said k) ≡ kind_ids k
ids_said (kind.Record r) = flat_twice field_said (λ (x : Labelled Ref). ref_ids x.of) r.fields.items
ids_said kind.Resource = refl
ids_said (kind.Handle h) = refl
ids_said (kind.Flags x) = refl
ids_said (kind.Tuple t) = refl
ids_said (kind.Variant v) = flat_twice case_said (λ (x : Labelled (Option Ref)). part_ids x.of) v.cases.items
ids_said (kind.Enum e) = refl
ids_said (kind.Option r) = refl
ids_said (kind.Result r) = refl
ids_said (kind.List r) = refl
ids_said (kind.FixedLengthList r n) = refl
ids_said (kind.Future p) = refl
ids_said (kind.Stream p) = refl
ids_said (kind.Alias r) = refl
ids_said kind.Unknown = refl

pub same_ids : (d e : TypeDef) → type_said e ≡ type_said d → kind_ids e.kind ≡ kind_ids d.kind
same_ids d e same = sym (ids_said e.kind) ∙ ap (λ (t : SaidType). said_ids t.kind) same ∙ ids_said d.kind

abbrev said_target : SaidKind → Option ℕ
said_target (Said.an_alias r) = ref_id r
said_target _ = None

target_said : (k : TypeDefKind) → said_target (kind_said k) ≡ alias_target k
target_said (kind.Record r) = refl
target_said kind.Resource = refl
target_said (kind.Handle h) = refl
target_said (kind.Flags x) = refl
target_said (kind.Tuple t) = refl
target_said (kind.Variant v) = refl
target_said (kind.Enum e) = refl
target_said (kind.Option r) = refl
target_said (kind.Result r) = refl
target_said (kind.List r) = refl
target_said (kind.FixedLengthList r n) = refl
target_said (kind.Future p) = refl
target_said (kind.Stream p) = refl
target_said (kind.Alias r) = refl
target_said kind.Unknown = refl

pub same_target : (d e : TypeDef) → type_said e ≡ type_said d → alias_target e.kind ≡ alias_target d.kind
same_target d e same = sym (target_said e.kind) ∙ ap (λ (t : SaidType). said_target t.kind) same ∙ target_said d.kind

pub same_owner : (d e : TypeDef) → type_said e ≡ type_said d → e.owner ≡ d.owner
same_owner d e same = ap (λ (t : SaidType). t.owner) same

-- ---- items

params_ids : (ps : List Param) → flat_map (λ (p : SaidParam). ref_ids p.ty) (map param_said ps) ≡ flat_map (λ (p : Param). ref_ids p.ty) ps
params_ids ps = flat_twice param_said (λ (p : SaidParam). ref_ids p.ty) ps

abbrev pub said_item_ids : SaidItem → List ℕ
said_item_ids (Said.an_interface id stability span) = []
said_item_ids (Said.a_function f) = resource_ids f.kind ++ (flat_map (λ (p : SaidParam). ref_ids p.ty) f.params ++ part_ids f.result)
said_item_ids (Said.a_type id span) = id ∷ []

pub item_ids_said : (i : WorldItem) → said_item_ids (item_said i) ≡ item_ids i
item_ids_said (item.Interface id stability span) = refl
item_ids_said (item.Function f) = ap (λ (l : List ℕ). resource_ids f.kind ++ (l ++ part_ids f.result)) (params_ids f.params.items)
item_ids_said (item.TypeItem id span) = refl

abbrev pub said_item_type : SaidItem → List ℕ
said_item_type (Said.an_interface id stability span) = []
said_item_type (Said.a_function f) = []
said_item_type (Said.a_type id span) = id ∷ []

pub item_type_said : (i : WorldItem) → said_item_type (item_said i) ≡ item_type i
item_type_said (item.Interface id stability span) = refl
item_type_said (item.Function f) = refl
item_type_said (item.TypeItem id span) = refl

abbrev pub said_item_interface : SaidItem → List ℕ
said_item_interface (Said.an_interface id stability span) = id ∷ []
said_item_interface (Said.a_function f) = []
said_item_interface (Said.a_type id span) = []

pub item_interface_said : (i : WorldItem) → said_item_interface (item_said i) ≡ item_interface i
item_interface_said (item.Interface id stability span) = refl
item_interface_said (item.Function f) = refl
item_interface_said (item.TypeItem id span) = refl

-- ---- where types are moved

abbrev moved_label : {X : Type 0} → (X → X) → Labelled X → Labelled X
moved_label g x = record x { of = g x.of }

abbrev pub moved_kind : (ℕ → ℕ) → SaidKind → SaidKind
moved_kind f (Said.a_record fs) = Said.a_record (map (moved_label (moved_ref f)) fs)
moved_kind f Said.a_resource = Said.a_resource
moved_kind f (Said.a_handle h) = Said.a_handle (moved_handle f h)
moved_kind f (Said.some_flags fs) = Said.some_flags fs
moved_kind f (Said.a_tuple ts) = Said.a_tuple (map (moved_ref f) ts)
moved_kind f (Said.a_variant cs) = Said.a_variant (map (moved_label (moved_part f)) cs)
moved_kind f (Said.an_enum cs) = Said.an_enum cs
moved_kind f (Said.an_option r) = Said.an_option (moved_ref f r)
moved_kind f (Said.a_result a b) = Said.a_result (moved_part f a) (moved_part f b)
moved_kind f (Said.a_list r) = Said.a_list (moved_ref f r)
moved_kind f (Said.a_fixed_length_list r n) = Said.a_fixed_length_list (moved_ref f r) n
moved_kind f (Said.a_future p) = Said.a_future (moved_part f p)
moved_kind f (Said.a_stream p) = Said.a_stream (moved_part f p)
moved_kind f (Said.an_alias r) = Said.an_alias (moved_ref f r)
moved_kind f Said.an_unknown = Said.an_unknown

fields_said : (f : ℕ → ℕ) (xs ys : List Field) → ys ≡ map (moved_field f) xs → map field_said ys ≡ map (moved_label (moved_ref f)) (map field_said xs)
fields_said f xs ys e = ap (map field_said) e ∙ map_twice (moved_field f) field_said xs ∙ sym (map_twice field_said (moved_label (moved_ref f)) xs)

cases_said : (f : ℕ → ℕ) (xs ys : List Case) → ys ≡ map (moved_case f) xs → map case_said ys ≡ map (moved_label (moved_part f)) (map case_said xs)
cases_said f xs ys e = ap (map case_said) e ∙ map_twice (moved_case f) case_said xs ∙ sym (map_twice case_said (moved_label (moved_part f)) xs)

pub moved_kind_said : (f : ℕ → ℕ) (k l : TypeDefKind) → IsMovedKind f k l → kind_said l ≡ moved_kind f (kind_said k)
moved_kind_said f _ _ (moves.moved_record r s e) = ap Said.a_record (fields_said f r.fields.items s.fields.items e)
moved_kind_said f _ _ moves.moved_resource = refl
moved_kind_said f _ _ (moves.moved_handle_kind h) = refl
moved_kind_said f _ _ (moves.moved_flags x) = refl
moved_kind_said f _ _ (moves.moved_tuple t u e) = ap Said.a_tuple e
moved_kind_said f _ _ (moves.moved_variant v w e) = ap Said.a_variant (cases_said f v.cases.items w.cases.items e)
moved_kind_said f _ _ (moves.moved_enum e) = refl
moved_kind_said f _ _ (moves.moved_option r) = refl
moved_kind_said f _ _ (moves.moved_result r) = refl
moved_kind_said f _ _ (moves.moved_list r) = refl
moved_kind_said f _ _ (moves.moved_fixed_length_list r n) = refl
moved_kind_said f _ _ (moves.moved_future p) = refl
moved_kind_said f _ _ (moves.moved_stream p) = refl
moved_kind_said f _ _ (moves.moved_alias r) = refl
moved_kind_said f _ _ moves.moved_unknown = refl

abbrev pub moved_type : (ℕ → ℕ) → TypeOwner → SaidType → SaidType
moved_type f owner t = record t { kind = moved_kind f t.kind; owner = owner }

pub moved_type_said : (f : ℕ → ℕ) (owner : TypeOwner) (d e : TypeDef) → IsMovedDef f owner d e → type_said e ≡ moved_type f owner (type_said d)
moved_type_said f owner d e h = rw (h.name, moved_kind_said f d.kind e.kind h.kind, h.owner_is, h.docs, h.stability, h.span) refl

abbrev moved_said_param : (ℕ → ℕ) → SaidParam → SaidParam
moved_said_param f p = record p { ty = moved_ref f p.ty }

abbrev pub moved_function : (ℕ → ℕ) → SaidFunction → SaidFunction
moved_function f g = record g { kind = moved_function_kind f g.kind; params = map (moved_said_param f) g.params; result = moved_part f g.result }

pub moved_function_said : (f : ℕ → ℕ) (a b : Function) → IsMovedFunction f a b → function_said b ≡ moved_function f (function_said a)
moved_function_said f a b h =
    let params : map param_said b.params.items ≡ map (moved_said_param f) (map param_said a.params.items) =
    ap (map param_said) h.params ∙ map_twice (moved_param f) param_said a.params.items ∙ sym (map_twice param_said (moved_said_param f) a.params.items) in
    rw (h.name, h.kind, params, h.result, h.docs, h.stability, h.span) refl

abbrev pub moved_item : (ℕ → ℕ) → (ℕ → ℕ) → SaidItem → SaidItem
moved_item types interfaces (Said.an_interface id stability span) = Said.an_interface (interfaces id) stability span
moved_item types interfaces (Said.a_function f) = Said.a_function (moved_function types f)
moved_item types interfaces (Said.a_type id span) = Said.a_type (types id) span

pub moved_item_said : (types interfaces : ℕ → ℕ) (i j : WorldItem) → IsMovedItem types interfaces i j → item_said j ≡ moved_item types interfaces (item_said i)
moved_item_said types interfaces _ _ (items.moved_interface id stability span) = refl
moved_item_said types interfaces _ _ (items.moved_function f g h) = ap Said.a_function (moved_function_said types f g h)
moved_item_said types interfaces _ _ (items.moved_type id span) = refl
