use Rattle.std.proofs.Common.{◌≡◌, List, subst, ap, ◌∙◌}
use Rattle.std.specs.Prelude.{IfOk}
use Rattle.wit_types.specs.declared.function.Param.{Param}
use Rattle.flat_types.specs.Signature.{SignatureValue, signature_of}
use Rattle.flat_types.specs.Flats.{FlatValue, part_flat, of_fields, params_flat}
use Rattle.flat_types.specs.View.{flat_value, known_value, signature_value}
use Rattle.flat_types.specs.declared.signature.WasmSignature.{WasmSignature}
use Rattle.flat_types.proofs.Signing.{cut_params}
use Rattle.flat_types.proofs.flat.FlatTypes.signature.Goals as goal

pub returns : goal.returns
returns c =
    let self : List FlatValue = c.args.self.now in
    let ps : List Param = c.args.function.now.params.items in
    let p : flat_value c.in_ok-params.params ≡ of_fields (params_flat self ps) = c.in_ok-params.ensures ∙ ap (λ (qs : List Param). of_fields (params_flat self qs)) c.as_slice.ensures.value in
    let r : known_value c.of_part-result_part.result ≡ part_flat self c.args.function.now.result = c.of_part-result_part.ensures in
    subst (λ (v : SignatureValue). IfOk c.signature_of.result (λ (s : WasmSignature). signature_value s ≡ v))
    ((λ i. signature_of c.args.variant (p i).values (r i).values) ∙ cut_params c.args.variant (params_flat self ps) (part_flat self c.args.function.now.result).values) c.signature_of.ensures
