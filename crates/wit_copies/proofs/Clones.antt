-- Clones say the same.
use Rattle.std.proofs.Common.{◌≡◌, List, [], ◌∷◌, ap, refl, Option, Some, None, String}
use Rattle.std.specs.List.{AllZip, each_same}
use Rattle.std.specs.declared.alloc.Global.{Global}
use Rattle.semver.specs.declared.Version.{Version}
use Rattle.semver.specs.Identifiers.{parts_of, pre_text, build_text}
use Rattle.semver.specs.contracts.PrereleaseClone.TheImpl.{is_clone-value as pre_clone}
use Rattle.semver.specs.contracts.BuildMetadataClone.TheImpl.{is_clone-value as build_clone}
use Rattle.semver.specs.contracts.VersionClone.TheImpl.{is_clone-value as version_clone}
use Rattle.wit_types.specs.declared.stability.Stability.{Stability}
use Rattle.wit_types.specs.declared.stability.Stability.TheVariants as stability
use Rattle.wit_types.specs.declared.kind.«Type».{«Type» as Ref}
use Rattle.wit_types.specs.declared.kind.Field.{Field}
use Rattle.wit_types.specs.declared.kind.Case.{Case}
use Rattle.wit_types.specs.declared.kind.Flag.{Flag}
use Rattle.wit_types.specs.declared.kind.EnumCase.{EnumCase}
use Rattle.wit_types.specs.declared.kind.TypeDefKind.{TypeDefKind}
use Rattle.wit_types.specs.declared.kind.TypeDefKind.TheVariants as kind
use Rattle.wit_types.specs.declared.interface.TypeDef.{TypeDef}
use Rattle.wit_types.specs.declared.function.Param.{Param}
use Rattle.wit_types.specs.declared.function.Function.{Function}
use Rattle.wit_types.specs.contracts.docs.DocsClone.TheImpl.{is_clone-value as docs_clone}
use Rattle.wit_types.specs.contracts.stability.StabilityClone.TheImpl.{is_clone-value as stability_clone}
use Rattle.wit_types.specs.contracts.kind.FieldClone.TheImpl.{is_clone-value as field_clone}
use Rattle.wit_types.specs.contracts.kind.CaseClone.TheImpl.{is_clone-value as case_clone}
use Rattle.wit_types.specs.contracts.kind.FlagClone.TheImpl.{is_clone-value as flag_clone}
use Rattle.wit_types.specs.contracts.kind.EnumCaseClone.TheImpl.{is_clone-value as enum_case_clone}
use Rattle.wit_types.specs.contracts.kind.TypeDefKindClone.TheImpl.{is_clone-value as kind_clone}
use Rattle.wit_types.specs.contracts.interface.TypeDefClone.TheImpl.{is_clone-value as def_clone}
use Rattle.wit_types.specs.contracts.function.ParamClone.TheImpl.{is_clone-value as param_clone}
use Rattle.wit_types.specs.contracts.function.FunctionClone.TheImpl.{is_clone-value as function_clone}
use Rattle.wit_copies.specs.Same as spec

zip_weaker : {X Y : Type 0} {P Q : X → Y → Type 0} → ((x : X) (y : Y) → P x y → Q x y) → (xs : List X) (ys : List Y) → AllZip P xs ys → AllZip Q xs ys
zip_weaker f [] [] h = h
zip_weaker f [] (y ∷ ys) h = h
zip_weaker f (x ∷ xs) [] h = h
zip_weaker f (x ∷ xs) (y ∷ ys) h = (f x y h.0, zip_weaker f xs ys h.1)

same_text : (a b : Option (String Global)) → docs_clone.it (record { contents = a }) (record { contents = b }) → spec.text_of b ≡ spec.text_of a
same_text None None h = refl
same_text (Some x) (Some y) h = ap Some h
same_text _ _ h = absurd h

same_pre : (a b : Option (String Global)) → pre_clone.it (record { identifier = a }) (record { identifier = b }) → pre_text (record { identifier = b }) ≡ pre_text (record { identifier = a })
same_pre None None h = refl
same_pre (Some x) (Some y) h = h
same_pre _ _ h = absurd h

same_build : (a b : Option (String Global)) → build_clone.it (record { identifier = a }) (record { identifier = b }) → build_text (record { identifier = b }) ≡ build_text (record { identifier = a })
same_build None None h = refl
same_build (Some x) (Some y) h = h
same_build _ _ h = absurd h

same_parts : (v w : Version) → version_clone.it v w → parts_of w ≡ parts_of v
same_parts v w h =
    rw (h.0, h.1.0, h.1.1.0, same_pre v.pre.identifier w.pre.identifier h.1.1.1.0, same_build v.build.identifier w.build.identifier h.1.1.1.1) refl

pub same_stability : (s t : Stability) → stability_clone.it s t → spec.IsSameStability s t
same_stability stability.Unknown stability.Unknown h = spec.same_unknown
same_stability (stability.Unstable f None) (stability.Unstable g None) h = spec.same_unstable f g None None h.0 refl
same_stability (stability.Unstable f (Some v)) (stability.Unstable g (Some w)) h = spec.same_unstable f g (Some v) (Some w) h.0 (ap Some (same_parts v w h.1))
same_stability (stability.Unstable f _) (stability.Unstable g _) h = absurd h.1
same_stability (stability.Stable v None) (stability.Stable w None) h = spec.same_stable v w None None (same_parts v w h.0) refl
same_stability (stability.Stable v (Some x)) (stability.Stable w (Some y)) h = spec.same_stable v w (Some x) (Some y) (same_parts v w h.0) (ap Some (same_parts x y h.1))
same_stability (stability.Stable v _) (stability.Stable w _) h = absurd h.1
same_stability _ _ h = absurd h

same_field : (a b : Field) → field_clone.it a b → spec.IsSameField a b
same_field a b h = record { docs = same_text a.docs.contents b.docs.contents h.0; name = h.1.0; ty = h.1.1.0; span = h.1.1.1 }

same_part : (a b : Option Ref) → kind_clone.it (kind.Future a) (kind.Future b) → b ≡ a
same_part None None h = refl
same_part (Some x) (Some y) h = ap Some h
same_part _ _ h = absurd h

same_case : (a b : Case) → case_clone.it a b → spec.IsSameCase a b
same_case a b h = record { docs = same_text a.docs.contents b.docs.contents h.0; name = h.1.0; ty = same_part a.ty b.ty h.1.1.0; span = h.1.1.1 }

same_flag : (a b : Flag) → flag_clone.it a b → spec.IsSameFlag a b
same_flag a b h = record { docs = same_text a.docs.contents b.docs.contents h.0; name = h.1.0; span = h.1.1 }

same_enum_case : (a b : EnumCase) → enum_case_clone.it a b → spec.IsSameEnumCase a b
same_enum_case a b h = record { docs = same_text a.docs.contents b.docs.contents h.0; name = h.1.0; span = h.1.1 }

same_kind : (a b : TypeDefKind) → kind_clone.it a b → spec.IsSameKind a b
same_kind (kind.Record r) (kind.Record s) h = spec.same_record r s (zip_weaker same_field r.fields.items s.fields.items h.0)
same_kind kind.Resource kind.Resource h = spec.same_resource
same_kind (kind.Handle x) (kind.Handle y) h = rw h (spec.same_handle x)
same_kind (kind.Flags r) (kind.Flags s) h = spec.same_flags r s (zip_weaker same_flag r.flags.items s.flags.items h.0)
same_kind (kind.Tuple r) (kind.Tuple s) h = spec.same_tuple r s (each_same r.types.items s.types.items h.0)
same_kind (kind.Variant r) (kind.Variant s) h = spec.same_variant r s (zip_weaker same_case r.cases.items s.cases.items h.0)
same_kind (kind.Enum r) (kind.Enum s) h = spec.same_enum r s (zip_weaker same_enum_case r.cases.items s.cases.items h.0)
same_kind (kind.Option r) (kind.Option s) h = rw h (spec.same_option r)
same_kind (kind.Result r) (kind.Result s) h = rw h (spec.same_result r)
same_kind (kind.List r) (kind.List s) h = rw h (spec.same_list r)
same_kind (kind.FixedLengthList r n) (kind.FixedLengthList s m) h = rw (h.0, h.1) (spec.same_fixed_length_list r n)
same_kind (kind.Future r) (kind.Future s) h = rw (same_part r s h) (spec.same_future r)
same_kind (kind.Stream r) (kind.Stream s) h = rw (same_part r s h) (spec.same_stream r)
same_kind (kind.Alias r) (kind.Alias s) h = rw h (spec.same_alias r)
same_kind kind.Unknown kind.Unknown h = spec.same_unknown_kind
same_kind _ _ h = absurd h

pub same_def : (a b : TypeDef) → def_clone.it a b → spec.IsSameDef a b
same_def a b h = record {
  name = same_text a.name b.name h.0;
  kind = same_kind a.kind b.kind h.1.0;
  owner_is = h.1.1.0;
  docs = same_text a.docs.contents b.docs.contents h.1.1.1.0;
  stability = same_stability a.stability b.stability h.1.1.1.1.0;
  span = h.1.1.1.1.1;
}

same_param : (a b : Param) → param_clone.it a b → spec.IsSameParam a b
same_param a b h = record { name = h.0; ty = h.1.0; span = h.1.1 }

pub same_function : (a b : Function) → function_clone.it a b → spec.IsSameFunction a b
same_function a b h = record {
  name = h.0;
  kind = h.1.0;
  params = zip_weaker same_param a.params.items b.params.items h.1.1.0.0;
  result = same_part a.result b.result h.1.1.1.0;
  docs = same_text a.docs.contents b.docs.contents h.1.1.1.1.0;
  stability = same_stability a.stability b.stability h.1.1.1.1.1.0;
  span = h.1.1.1.1.1.1;
}
