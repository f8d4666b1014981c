use Rattle.std.proofs.Common.{◌∙◌}
use Rattle.wit_reach.specs.Made.{IsMadeOfWithin}
use Rattle.wit_types.specs.declared.interface.TypeOwner.TheVariants as belongs
use Rattle.component_imports.specs.Functions.{functions_of}
use Rattle.component_imports.specs.Interfaces.{ids_of}
use Rattle.component_imports.proofs.Walked.{starts_are, walked_from}
use Rattle.wit_reach.proofs.Local.{sides_there}
use Rattle.component_imports.proofs.interfaces.written_for.Goals as goal

pub made_of_within-requires-clause-there : goal.made_of_within-requires-clause-there
made_of_within-requires-clause-there c =
    let e = starts_are c.args.needed.now (ids_of (functions_of c.args.functions.now)) c.new-starts.result.items c.extend_from_slice.new.self.items c.add_functions.new.ids.items c.new-starts.ensures.items c.in_ok-extend_from_slice.ensures.items c.in_ok-add_functions.ensures in
    sides_there c.args.types.now c.args.needed.now (ids_of (functions_of c.args.functions.now)) c.as_slice.result.now (c.as_slice.ensures.value ∙ e) c.requires.there c.requires.functions_there

pub returns : goal.returns
returns c =
    let e = starts_are c.args.needed.now (ids_of (functions_of c.args.functions.now)) c.new-starts.result.items c.extend_from_slice.new.self.items c.add_functions.new.ids.items c.new-starts.ensures.items c.in_ok-extend_from_slice.ensures.items c.in_ok-add_functions.ensures in
    walked_from (IsMadeOfWithin (belongs.Interface c.args.interface) c.args.types.now) c.as_slice.result.now _ c.made_of_within.result (c.as_slice.ensures.value ∙ e) c.made_of_within.ensures
