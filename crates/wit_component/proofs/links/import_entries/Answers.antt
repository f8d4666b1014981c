use Rattle.std.proofs.Common.{◌≡◌, ◌++◌, ◌∷◌, [], map}
use Rattle.std.proofs.lemmas.List.{map_push}
use Rattle.wit_component.specs.Places.{import_text, import_lines, lines_of_import}
use Rattle.wit_component.specs.View as view
use Rattle.wit_component.proofs.LinkLines.{one_turn}
use Rattle.wit_component.proofs.links.import_entries.Goals as goal

pub loop-index-preserved : goal.loop-index-preserved
loop-index-preserved c =
    let l = view.linking c.args.linking.now in
    let grown : map import_text c.push.new.self.items ≡ map import_text c.loop-index.found.items ++ import_text c.import_entry.result ∷ [] = rw c.in_ok-push.ensures.items (map_push _ c.loop-index.found.items c.import_entry.result) in
    rw grown (one_turn (lines_of_import l) l.main.imports (map import_text c.loop-index.found.items) c.loop-index.index (import_text c.import_entry.result) (import_lines l) c.loop-index.invariant c.import_entry.ensures)
