-- Clones say the same.
use Rattle.std.proofs.Common.{◌≡◌, List, [], ◌∷◌, refl, ap, ap₂, map}
use Rattle.std.specs.List.{AllZip}
use Rattle.wit_types.specs.declared.kind.Field.{Field}
use Rattle.wit_types.specs.declared.kind.Case.{Case}
use Rattle.wit_types.specs.declared.kind.Flag.{Flag}
use Rattle.wit_types.specs.declared.kind.EnumCase.{EnumCase}
use Rattle.wit_types.specs.declared.kind.TypeDefKind.{TypeDefKind}
use Rattle.wit_types.specs.declared.stability.Stability.{Stability}
use Rattle.wit_types.specs.declared.interface.TypeDef.{TypeDef}
use Rattle.wit_types.specs.declared.function.Param.{Param}
use Rattle.wit_types.specs.declared.function.Function.{Function}
use Rattle.wit_types.specs.declared.world.World.{World}
use Rattle.wit_types.specs.declared.world.WorldItem.{WorldItem}
use Rattle.wit_types.specs.declared.world_key.WorldKey.{WorldKey}
use Rattle.wit_types.specs.WorldKey.{spelled, known}
use Rattle.wit_copies.specs.Same as same
use Rattle.wit_groups.specs.Passed.wit_graph_worlds-Copies.{AreSameEntries, IsSameWorld}
use Rattle.wit_push_causes.specs.Said
use Rattle.wit_push_causes.specs.Said.{SaidEntry, stability_said, field_said, case_said, flag_said, enum_case_said, kind_said, type_said, param_said, function_said, item_said, entry_said, world_said}

module _ {X Y : Type 0} (R : X → X → Type 0) (f : X → Y) (is : (x y : X) → R x y → f y ≡ f x) where
  zip_said : (xs ys : List X) → AllZip R xs ys → map f ys ≡ map f xs
  zip_said [] [] h = refl
  zip_said [] (y ∷ ys) h = absurd h
  zip_said (x ∷ xs) [] h = absurd h
  zip_said (x ∷ xs) (y ∷ ys) h = ap₂ (λ (z : Y) (zs : List Y). z ∷ zs) (is x y h.0) (zip_said xs ys h.1)

stability_clone : (s t : Stability) → same.IsSameStability s t → stability_said t ≡ stability_said s
stability_clone _ _ same.same_unknown = refl
stability_clone _ _ (same.same_unstable f g d e name version) = ap₂ Said.unstable name version
stability_clone _ _ (same.same_stable v w d e since version) = ap₂ Said.stable since version

field_clone : (x y : Field) → same.IsSameField x y → field_said y ≡ field_said x
field_clone x y h = rw (h.docs, h.name, h.ty, h.span) refl

case_clone : (x y : Case) → same.IsSameCase x y → case_said y ≡ case_said x
case_clone x y h = rw (h.docs, h.name, h.ty, h.span) refl

flag_clone : (x y : Flag) → same.IsSameFlag x y → flag_said y ≡ flag_said x
flag_clone x y h = rw (h.docs, h.name, h.span) refl

enum_case_clone : (x y : EnumCase) → same.IsSameEnumCase x y → enum_case_said y ≡ enum_case_said x
enum_case_clone x y h = rw (h.docs, h.name, h.span) refl

kind_clone : (k l : TypeDefKind) → same.IsSameKind k l → kind_said l ≡ kind_said k
kind_clone _ _ (same.same_record r s h) = ap Said.a_record (zip_said same.IsSameField field_said field_clone r.fields.items s.fields.items h)
kind_clone _ _ same.same_resource = refl
kind_clone _ _ (same.same_handle h) = refl
kind_clone _ _ (same.same_flags x y h) = ap Said.some_flags (zip_said same.IsSameFlag flag_said flag_clone x.flags.items y.flags.items h)
kind_clone _ _ (same.same_tuple t u h) = ap Said.a_tuple h
kind_clone _ _ (same.same_variant v w h) = ap Said.a_variant (zip_said same.IsSameCase case_said case_clone v.cases.items w.cases.items h)
kind_clone _ _ (same.same_enum d e h) = ap Said.an_enum (zip_said same.IsSameEnumCase enum_case_said enum_case_clone d.cases.items e.cases.items h)
kind_clone _ _ (same.same_option r) = refl
kind_clone _ _ (same.same_result r) = refl
kind_clone _ _ (same.same_list r) = refl
kind_clone _ _ (same.same_fixed_length_list r n) = refl
kind_clone _ _ (same.same_future p) = refl
kind_clone _ _ (same.same_stream p) = refl
kind_clone _ _ (same.same_alias r) = refl
kind_clone _ _ same.same_unknown_kind = refl

pub type_clone : (d e : TypeDef) → same.IsSameDef d e → type_said e ≡ type_said d
type_clone d e h = rw (h.name, kind_clone d.kind e.kind h.kind, h.owner_is, h.docs, stability_clone d.stability e.stability h.stability, h.span) refl

param_clone : (x y : Param) → same.IsSameParam x y → param_said y ≡ param_said x
param_clone x y h = rw (h.name, h.ty, h.span) refl

function_clone : (f g : Function) → same.IsSameFunction f g → function_said g ≡ function_said f
function_clone f g h = rw (h.name, h.kind, zip_said same.IsSameParam param_said param_clone f.params.items g.params.items h.params, h.result, h.docs, stability_clone f.stability g.stability h.stability, h.span) refl

pub item_clone : (i j : WorldItem) → same.IsSameItem i j → item_said j ≡ item_said i
item_clone _ _ (same.same_interface id s t span h) = rw (stability_clone s t h) refl
item_clone _ _ (same.same_function f g h) = ap Said.a_function (function_clone f g h)
item_clone _ _ (same.same_type id span) = refl

pub key_clone : (k l : WorldKey) → same.IsSameKey k l → known l ≡ known k
key_clone _ _ (same.same_name x y h) = ap spelled h
key_clone _ _ (same.same_key_interface id) = refl

entries_clone : (es fs : List (WorldKey × WorldItem)) → AreSameEntries es fs → map entry_said fs ≡ map entry_said es
entries_clone [] [] h = refl
entries_clone [] (f ∷ fs) h = absurd h
entries_clone (e ∷ es) [] h = absurd h
entries_clone (e ∷ es) (f ∷ fs) h =
    let one : entry_said f ≡ entry_said e = rw (key_clone e.0 f.0 h.0.0, item_clone e.1 f.1 h.0.1) refl in
    ap₂ (λ (z : SaidEntry) (zs : List SaidEntry). z ∷ zs) one (entries_clone es fs h.1)

pub world_clone : (w v : World) → IsSameWorld w v → world_said v ≡ world_said w
world_clone w v h =
    rw (h.name, entries_clone w.imports.entries v.imports.entries h.imports, entries_clone w.exports.entries v.exports.entries h.exports, h.owner_is, h.docs, stability_clone w.stability v.stability h.stability, h.span) refl
