use Rattle.std.proofs.Common.{◌≡◌, List, map, ap, ◌∙◌, Option}
use Rattle.std.specs.Prelude.{option_map}
use Rattle.component_audit.specs.declared.spaces.CoreFunction.{CoreFunction}
use Rattle.wit_component.specs.Meaning.{item_at}
use Rattle.component_audit.specs.SpacesView.{core_function}
use Rattle.component_audit.proofs.Named.{entry_found, entry_missing}
use Rattle.component_audit.proofs.spaces.Entries.get.Goals as goal

pub returns-in-Some : goal.returns-in-Some
returns-in-Some c =
    let seen : c.deref.result.now ≡ c.args.self.now.items.items = c.deref.ensures.value in
    let here : option_map core_function c.core_at.result ≡ item_at (map (option_map core_function) c.args.self.now.items.items) c.in-Some.place =
    c.core_at.ensures ∙ ap (λ (xs : List (Option CoreFunction)). item_at (map (option_map core_function) xs) c.in-Some.place) seen in
    entry_found c.args.name.now c.args.self.now.names (map (option_map core_function) c.args.self.now.items.items) c.in-Some.place (option_map core_function c.core_at.result) c.in-Some.ensures here

pub returns-in-None : goal.returns-in-None
returns-in-None c = entry_missing c.args.name.now c.args.self.now.names (map (option_map core_function) c.args.self.now.items.items) c.in-None.ensures
