use Rattle.std.proofs.Common.{◌≡◌, List, ℕ, map, take, arith, ap, ◌∙◌}
use Rattle.std.specs.Prelude.{option_map}
use Rattle.std.proofs.lemmas.List.{take_all}
use Rattle.known_definitions.specs.declared.definition.InlineExport.{InlineExport}
use Rattle.wit_component.specs.Meaning.{item_at}
use Rattle.component_audit.specs.SpacesView.{core_function, core_entries}
use Rattle.component_audit.specs.WalkView.{spaces_of}
use Rattle.component_audit.proofs.Named.{inline_are}
use Rattle.component_audit.proofs.walk.Walk.entries.Goals as goal

pub returns-clause-ok : goal.returns-clause-ok
returns-clause-ok c =
    let whole : take c.loop-export.export-index c.args.exports.now ≡ c.args.exports.now = take_all c.loop-export.export-index c.args.exports.now (omega arith) in
    let names : c.loop-export.names ≡ map (λ (e : InlineExport). e.name.now) c.args.exports.now = c.loop-export.invariant.names ∙ ap (map (λ (e : InlineExport). e.name.now)) whole in
    let items : map (option_map core_function) c.loop-export.items.items ≡ map (λ (e : InlineExport). item_at (spaces_of c.args.self.now).core_functions e.func) c.args.exports.now =
    c.loop-export.invariant.items ∙ ap (map (λ (e : InlineExport). item_at (spaces_of c.args.self.now).core_functions e.func)) whole in
    ap (λ (ns : List (List ℕ)). core_entries ns (map (option_map core_function) c.loop-export.items.items)) names
    ∙ ap (core_entries (map (λ (e : InlineExport). e.name.now) c.args.exports.now)) items ∙ inline_are (spaces_of c.args.self.now) c.args.exports.now
