-- The parts of a form are what the kind of a type is made of.
use Rattle.std.proofs.Common.{◌≡◌, ℕ, List, [], ◌++◌, Option, Some, None, sym, ap, ◌∙◌}
use Rattle.std.proofs.lemmas.List.{append-nil}
use Rattle.std.proofs.lemmas.List.Folds.{flat_map-map}
use Rattle.std.specs.Prelude.{flat_map}
use Rattle.linked_types.specs.Passed.wit_types-declared-kind-Type.{«Type» as Ref}
use Rattle.linked_types.specs.Passed.wit_types-declared-kind-TypeDefKind.{TypeDefKind}
use Rattle.linked_types.specs.Passed.wit_types-declared-kind-TypeDefKind-TheVariants as kinds
use Rattle.linked_types.specs.Passed.wit_types-declared-kind-Field.{Field}
use Rattle.linked_types.specs.Passed.wit_types-declared-kind-Case.{Case}
use Rattle.linked_types.specs.Passed.wit_reach-Ids.{ref_ids, part_ids, kind_ids}
use Rattle.type_writing.specs.Unfolding.{FormOf, form_of}

abbrev ids_in : Option FormOf → List ℕ
ids_in None = []
ids_in (Some f) = flat_map part_ids f.parts

pub same_parts : (k : TypeDefKind) (f : FormOf) → form_of k ≡ Some f → flat_map part_ids f.parts ≡ kind_ids k
same_parts (kinds.Record r) f e = sym (ap ids_in e) ∙ flat_map-map part_ids (λ (x : Field). Some x.ty) r.fields.items
same_parts kinds.Resource f e = absurd cc
same_parts (kinds.Handle h) f e = absurd cc
same_parts (kinds.Flags x) f e = sym (ap ids_in e)
same_parts (kinds.Tuple t) f e = sym (ap ids_in e) ∙ flat_map-map part_ids (λ (r : Ref). Some r) t.types.items
same_parts (kinds.Variant v) f e = sym (ap ids_in e) ∙ flat_map-map part_ids (λ (c : Case). c.ty) v.cases.items
same_parts (kinds.Enum x) f e = sym (ap ids_in e)
same_parts (kinds.Option r) f e = sym (ap ids_in e) ∙ append-nil (ref_ids r)
same_parts (kinds.Result r) f e = sym (ap ids_in e) ∙ ap (λ l. part_ids r.ok ++ l) (append-nil (part_ids r.err))
same_parts (kinds.List r) f e = sym (ap ids_in e) ∙ append-nil (ref_ids r)
same_parts (kinds.FixedLengthList r n) f e = sym (ap ids_in e) ∙ append-nil (ref_ids r)
same_parts (kinds.Future x) f e = absurd cc
same_parts (kinds.Stream x) f e = absurd cc
same_parts (kinds.Alias r) f e = absurd cc
same_parts kinds.Unknown f e = absurd cc
