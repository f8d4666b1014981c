-- What two functions do alike to all places of a thing they do alike to the thing.
use Rattle.std.proofs.Common.{◌≡◌, List, [], ◌∷◌, ◌++◌, map, refl, ap}
use Rattle.std.specs.List.{flat_map}
use Rattle.std.specs.Vec.{with_items}
use Rattle.std.specs.Prelude.{Vec}
use Rattle.std.specs.declared.alloc.Global.{Global}
use Rattle.indexmap.specs.IndexMap.{IndexMap, with_entries, values}
use Rattle.wit_words.specs.declared.source_map.Span.{Span}
use Rattle.wit_types.specs.declared.function.Param.{Param}
use Rattle.wit_types.specs.declared.function.Function.{Function}
use Rattle.wit_types.specs.declared.kind.Field.{Field}
use Rattle.wit_types.specs.declared.kind.Case.{Case}
use Rattle.wit_types.specs.declared.kind.Flag.{Flag}
use Rattle.wit_types.specs.declared.kind.EnumCase.{EnumCase}
use Rattle.wit_types.specs.declared.kind.TypeDefKind.{TypeDefKind}
use Rattle.wit_types.specs.declared.kind.TypeDefKind.TheVariants as kind
use Rattle.wit_types.specs.declared.interface.TypeDef.{TypeDef}
use Rattle.wit_types.specs.declared.interface.Interface.{Interface}
use Rattle.wit_types.specs.declared.world.World.{World}
use Rattle.wit_types.specs.declared.world.WorldInclude.{WorldInclude}
use Rattle.wit_types.specs.declared.world.WorldItem.{WorldItem}
use Rattle.wit_types.specs.declared.world.WorldItem.TheVariants as item
use Rattle.wit_types.specs.declared.«package».UnresolvedPackage.{UnresolvedPackage}
use Rattle.wit_offsets.specs.Offsets as spec

module _ (f g : Span → Span) where
  abbrev pub Agree : List Span → Type 0
  Agree [] = Unit {0}
  Agree (s ∷ ss) = (f s ≡ g s) × Agree ss

  left : (xs ys : List Span) → Agree (xs ++ ys) → Agree xs
  left [] ys a = tt
  left (x ∷ xs) ys a = (a.0, left xs ys a.1)

  right : (xs ys : List Span) → Agree (xs ++ ys) → Agree ys
  right [] ys a = a
  right (x ∷ xs) ys a = right xs ys a.1

  -- places alone, and those of all things of a list, of a vector and of a map
  alone : (ss : List Span) → Agree ss → map f ss ≡ map g ss
  alone [] a = refl
  alone (s ∷ ss) a = rw (a.0, alone ss a.1) refl

  module _ {X : Type 0} (by : (Span → Span) → X → X) (spans : X → List Span) (each : (x : X) → Agree (spans x) → by f x ≡ by g x) where
    all : (xs : List X) → Agree (flat_map spans xs) → map (by f) xs ≡ map (by g) xs
    all [] a = refl
    all (x ∷ xs) a = rw (each x (left (spans x) (flat_map spans xs) a), all xs (right (spans x) (flat_map spans xs) a)) refl

    items : (v : Vec X Global) → Agree (flat_map spans v.items) → spec.items_by (by f) v ≡ spec.items_by (by g) v
    items v a = ap (with_items v) (all v.items a)

    entries : {K : Type 0} (es : List (K × X)) → Agree (flat_map spans (map (λ (e : K × X). e.1) es)) → map {B = K × X} (λ e. (e.0, by f e.1)) es ≡ map {B = K × X} (λ e. (e.0, by g e.1)) es
    entries [] a = refl
    entries (e ∷ es) a =
        let rest = flat_map spans (map (λ e. e.1) es) in
        rw (each e.1 (left (spans e.1) rest a), entries es (right (spans e.1) rest a)) refl

    in_map : {K S : Type 0} (m : IndexMap K X S) → Agree (flat_map spans (values m)) → spec.values_by (by f) m ≡ spec.values_by (by g) m
    in_map m a = ap (with_entries m) (entries m.entries a)

  of_param : (p : Param) → Agree (spec.param_spans p) → spec.param_by f p ≡ spec.param_by g p
  of_param p a = rw a.0 refl

  of_function : (x : Function) → Agree (spec.function_spans x) → spec.function_by f x ≡ spec.function_by g x
  of_function x a = rw (a.0, items spec.param_by spec.param_spans of_param x.params a.1) refl

  of_field : (x : Field) → Agree (spec.field_spans x) → spec.field_by f x ≡ spec.field_by g x
  of_field x a = rw a.0 refl

  of_case : (c : Case) → Agree (spec.case_spans c) → spec.case_by f c ≡ spec.case_by g c
  of_case c a = rw a.0 refl

  of_flag : (x : Flag) → Agree (spec.flag_spans x) → spec.flag_by f x ≡ spec.flag_by g x
  of_flag x a = rw a.0 refl

  of_enum_case : (c : EnumCase) → Agree (spec.enum_case_spans c) → spec.enum_case_by f c ≡ spec.enum_case_by g c
  of_enum_case c a = rw a.0 refl

  of_kind : (k : TypeDefKind) → Agree (spec.kind_spans k) → spec.kind_by f k ≡ spec.kind_by g k
  of_kind (kind.Record r) a = rw (items spec.field_by spec.field_spans of_field r.fields a) refl
  of_kind kind.Resource a = refl
  of_kind (kind.Handle h) a = refl
  of_kind (kind.Flags x) a = rw (items spec.flag_by spec.flag_spans of_flag x.flags a) refl
  of_kind (kind.Tuple t) a = refl
  of_kind (kind.Variant v) a = rw (items spec.case_by spec.case_spans of_case v.cases a) refl
  of_kind (kind.Enum e) a = rw (items spec.enum_case_by spec.enum_case_spans of_enum_case e.cases a) refl
  of_kind (kind.Option r) a = refl
  of_kind (kind.Result r) a = refl
  of_kind (kind.List r) a = refl
  of_kind (kind.FixedLengthList r n) a = refl
  of_kind (kind.Future p) a = refl
  of_kind (kind.Stream p) a = refl
  of_kind (kind.Alias r) a = refl
  of_kind kind.Unknown a = refl

  of_type_def : (d : TypeDef) → Agree (spec.type_def_spans d) → spec.type_def_by f d ≡ spec.type_def_by g d
  of_type_def d a = rw (a.0, of_kind d.kind a.1) refl

  of_interface : (i : Interface) → Agree (spec.interface_spans i) → spec.interface_by f i ≡ spec.interface_by g i
  of_interface i a = rw (a.0, in_map spec.function_by spec.function_spans of_function i.functions a.1) refl

  of_include : (w : WorldInclude) → Agree (spec.include_spans w) → spec.include_by f w ≡ spec.include_by g w
  of_include w a = rw a.0 refl

  of_item : (i : WorldItem) → Agree (spec.item_spans i) → spec.item_by f i ≡ spec.item_by g i
  of_item (item.Interface id stability span) a = rw a.0 refl
  of_item (item.Function x) a = rw (of_function x a) refl
  of_item (item.TypeItem id span) a = rw a.0 refl

  of_world : (w : World) → Agree (spec.world_spans w) → spec.world_by f w ≡ spec.world_by g w
  of_world w a =
      let imports = flat_map spec.item_spans (values w.imports) in
      let exports = flat_map spec.item_spans (values w.exports) in
      let includes = flat_map spec.include_spans w.includes.items in
      let rest = right imports (exports ++ includes) a.1 in
      rw (
        a.0,
        in_map spec.item_by spec.item_spans of_item w.imports (left imports (exports ++ includes) a.1),
        in_map spec.item_by spec.item_spans of_item w.exports (left exports includes rest),
        items spec.include_by spec.include_spans of_include w.includes (right exports includes rest),
      ) refl

  pub of_package : (p : UnresolvedPackage) → Agree (spec.package_spans p) → spec.package_by f p ≡ spec.package_by g p
  of_package p a =
      let deps = p.foreign_dep_spans.items in
      let unknown = p.unknown_type_spans.items in
      let types = flat_map spec.type_def_spans p.types in
      let interfaces = flat_map spec.interface_spans p.interfaces in
      let worlds = flat_map spec.world_spans p.worlds in
      let behind_deps = right deps (unknown ++ (types ++ (interfaces ++ worlds))) a.1 in
      let behind_unknown = right unknown (types ++ (interfaces ++ worlds)) behind_deps in
      let behind_types = right types (interfaces ++ worlds) behind_unknown in
      rw (
        a.0,
        alone deps (left deps (unknown ++ (types ++ (interfaces ++ worlds))) a.1),
        alone unknown (left unknown (types ++ (interfaces ++ worlds)) behind_deps),
        all spec.type_def_by spec.type_def_spans of_type_def p.types (left types (interfaces ++ worlds) behind_unknown),
        all spec.interface_by spec.interface_spans of_interface p.interfaces (left interfaces worlds behind_types),
        all spec.world_by spec.world_spans of_world p.worlds (right interfaces worlds behind_types),
      ) refl
