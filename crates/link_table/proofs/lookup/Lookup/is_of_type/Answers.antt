use Rattle.canonical_options.specs.Passed.flat_types-View.{signature_value}
use Rattle.link_table.specs.Linking.{linking_value, types_of}
use Rattle.link_table.proofs.Typed.{is_mistyped}
use Rattle.link_table.proofs.lookup.Lookup.is_of_type.Goals as goal

pub returns-clause-is_not : goal.returns-clause-is_not
returns-clause-is_not c = λ e.
    let l = linking_value c.args.self.now.linking in
    is_mistyped c.law_unfolded_functions_are_flat.ensures (types_of l) c.args.self.now.flat c.args.variant c.args.function.now c.requires.lookup.backward c.requires.lookup.flat_are c.requires.function.0 c.requires.function.1
    (signature_value c.in_ok-signature.signature) _ c.in_ok-signature.ensures (c.has_signature.ensures.is_not e)
