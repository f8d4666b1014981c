use Rattle.std.proofs.Common.{◌≡◌, map, ap, sym, subst, ◌∙◌}
use Rattle.component_sections.specs.Passed.component_entries-Entries.{nothing}
use Rattle.component_sections.specs.Component as whole
use Rattle.component_sections.specs.Component.{Follow}
use Rattle.wit_component.specs.Component.{component_of}
use Rattle.wit_component.specs.Written.{written, among}
use Rattle.wit_component.specs.View as view
use Rattle.wit_component.proofs.Follows.{component_follows}
use Rattle.wit_component.proofs.encoder.component_of.Goals as goal

pub returns-in-Ok-clause-found : goal.returns-in-Ok-clause-found
returns-in-Ok-clause-found c =
    let l = view.linking c.args.linking.now in
    let is : map whole.definition_value c.deref.result.now ≡ among (component_of l) = ap written c.deref.ensures.value ∙ c.in_ok-definitions.ensures.found in
    let follow = component_follows l (view.places c.args.table.now) c.requires.places c.requires.fits in
    subst (whole.IsComponent c.in-Ok.bytes.items) is (c.in-Ok.ensures.found (subst (Follow nothing) (sym is) follow))
