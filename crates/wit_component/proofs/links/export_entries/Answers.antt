use Rattle.std.proofs.Common.{◌≡◌, ◌++◌, ◌∷◌, [], map}
use Rattle.std.proofs.lemmas.List.{map_push}
use Rattle.wit_component.specs.Places.{export_text, export_lines, lines_of_export}
use Rattle.wit_component.specs.View as view
use Rattle.wit_component.proofs.LinkLines.{one_turn}
use Rattle.wit_component.proofs.links.export_entries.Goals as goal

pub loop-index-preserved : goal.loop-index-preserved
loop-index-preserved c =
    let l = view.linking c.args.linking.now in
    let grown : map export_text c.push.new.self.items ≡ map export_text c.loop-index.found.items ++ export_text c.export_entry.result ∷ [] = rw c.in_ok-push.ensures.items (map_push _ c.loop-index.found.items c.export_entry.result) in
    rw grown (one_turn (lines_of_export l) l.world.exports (map export_text c.loop-index.found.items) c.loop-index.index (export_text c.export_entry.result) (export_lines l) c.loop-index.invariant c.export_entry.ensures)
