use Rattle.std.proofs.Common.{arith, inl, inr, refl, subst}
use Rattle.std.proofs.lemmas.Result.{err_from_is_err_and}
use Rattle.wasm_types.specs.Entries.{export_value}
use Rattle.wit_core_names.specs.Items.{CoreExport}
use Rattle.link_table.specs.Exports.{missing}
use Rattle.wit_types.specs.declared.mangling.AbiVariant.TheVariants.{GuestExport}
use Rattle.link_table.specs.Linking.{linking_value, types_of}
use Rattle.link_table.specs.Types.{IsOfType, IsMistyped}
use Rattle.link_table.specs.Options.{NamesOf, IsThere, IsPlaceCause}
use Rattle.link_table.proofs.Found.{export_at, place_within}
use Rattle.link_table.proofs.lookup.Lookup.typed_export.Goals as goal

pub returns-in_err-place-clause-cause : goal.returns-in_err-place-clause-cause
returns-in_err-place-clause-cause c =
    let l = linking_value c.args.self.now.linking in
    let moved = err_from_is_err_and c.from_residual.result c.from_residual.ensures.1 in
    rw (moved.1, moved.2)
    (inl (subst (λ (x : CoreExport). IsPlaceCause l (NamesOf l.names x) missing c.in_err-place.field-0.0) c.own_export.ensures c.in_err-place.ensures.cause))

pub index-requires : goal.index-requires
index-requires c =
    let lt = place_within c.args.self.now.linking.main.now.exports.items c.in_ok-place.place c.in_ok-place.ensures.place.one c.in_ok-place.ensures.place.there in
    let size = c.args.self.now.linking.main.now.exports.ok in
    omega (arith, lt, size)

pub returns-then-not-branch-clause-cause : goal.returns-then-not-branch-clause-cause
returns-then-not-branch-clause-cause c =
    let l = linking_value c.args.self.now.linking in
    let at = c.in_ok-place.ensures.place in
    inr (
      refl,
      record {
        place = c.in_ok-place.place;
        is = subst (λ (x : CoreExport). IsThere l (NamesOf l.names x) c.in_ok-place.place) c.own_export.ensures at;
        «export» = export_value c.index.result.now;
        there = export_at c.args.self.now.linking.main.now.exports.items c.in_ok-place.place c.index.result.now at.one at.there c.index.ensures;
        mistyped = subst (λ found. IsMistyped (types_of l) GuestExport c.args.function.now found) c.exported_type-core.ensures (c.in_ok-is_of_type.ensures.is_not c.if-not-branch.true);
      },
    )

pub returns-clause-found : goal.returns-clause-found
returns-clause-found c =
    let l = linking_value c.args.self.now.linking in
    let at = c.in_ok-place.ensures.place in
    record {
      is = subst (λ (x : CoreExport). IsThere l (NamesOf l.names x) c.in_ok-place.place) c.own_export.ensures at;
      «export» = export_value c.index.result.now;
      there = export_at c.args.self.now.linking.main.now.exports.items c.in_ok-place.place c.index.result.now at.one at.there c.index.ensures;
      typed = subst (λ found. IsOfType (types_of l) GuestExport c.args.function.now found) c.exported_type-core.ensures (c.in_ok-is_of_type.ensures.is c.if-not-branch.false);
    }
