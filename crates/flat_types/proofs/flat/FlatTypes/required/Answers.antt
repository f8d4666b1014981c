use Rattle.std.proofs.Common.{◌≡◌, ◌∙◌, List, length, not, ap}
use Rattle.std.specs.List.{list_any}
use Rattle.std.specs.Prelude.{nat_le, nat_lt}
use Rattle.wit_types.specs.declared.function.Param.{Param}
use Rattle.flat_types.specs.Signature.{required_of}
use Rattle.flat_types.specs.Flats.{FlatValue, in_order, params_flat, ref_flat, part_flat}
use Rattle.flat_types.specs.View.{known_value}
use Rattle.flat_types.proofs.Signing.{required_is}
use Rattle.flat_types.proofs.flat.FlatTypes.required.Goals as goal

pub returns : goal.returns
returns c =
    let self : List FlatValue = c.args.self.now in
    let same = c.as_slice-params.ensures.value in
    let string = c.params_hold_string.ensures ∙ ap (λ (ps : List Param). list_any (λ (p : Param). (ref_flat self p.ty).holds_string) ps) same in
    let list = c.params_hold_list.ensures ∙ ap (λ (ps : List Param). list_any (λ (p : Param). (ref_flat self p.ty).holds_list) ps) same in
    let many = c.are_many-indirect_params.ensures ∙ ap (λ (ps : List Param). not (nat_le (length (in_order (params_flat self ps))) 16)) same in
    let part : known_value c.of_part-result_part.result ≡ part_flat self c.args.function.now.result = c.of_part-result_part.ensures in
    c.required_of.ensures
    ∙ (λ i. required_of c.args.variant (string i) (list i) (part i).holds_string (part i).holds_list (many i) (nat_lt 1 (length (part i).values)))
    ∙ required_is self c.args.variant c.args.function.now.params.items c.args.function.now.result
