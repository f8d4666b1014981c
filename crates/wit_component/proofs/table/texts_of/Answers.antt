use Rattle.std.proofs.Common.{arith, refl}
use Rattle.wasm_types.specs.Entries.{ExportValue, export_value}
use Rattle.wit_component.specs.Candidates.{candidates}
use Rattle.wit_component.proofs.PlacesLists.{notes_more, notes_all}
use Rattle.wit_component.proofs.table.texts_of.Goals as goal

pub loop-place-preserved : goal.loop-place-preserved
loop-place-preserved c =
    notes_more export_value (λ (e : ExportValue). e.name) c.args.exports.now c.loop-place.place _ _
    (candidates c.loop-place.texts) (candidates c.note.new.places) (omega arith) refl c.loop-place.invariant c.in_ok-note.ensures

pub returns : goal.returns
returns c = notes_all export_value (λ (e : ExportValue). e.name) c.args.exports.now c.loop-place.place (candidates c.loop-place.texts) (omega arith) c.loop-place.invariant
