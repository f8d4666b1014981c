use Rattle.std.proofs.Common.{arith, rules}
use Rattle.plain_worlds.specs.World.{FunctionItem, function_item}
use Rattle.wit_component.specs.Candidates.{candidates}
use Rattle.wit_component.proofs.PlacesLists.{notes_more, notes_all}
use Rattle.wit_component.proofs.table.places_of.Goals as goal

pub loop-place-preserved : goal.loop-place-preserved
loop-place-preserved c =
    notes_more function_item (λ (f : FunctionItem). f.name) c.args.functions.now c.loop-place.place c.index-functions-place.result c.as_str.result.now
    (candidates c.loop-place.places) (candidates c.note.new.places) (omega arith) (search rules) c.loop-place.invariant c.in_ok-note.ensures

pub returns : goal.returns
returns c = notes_all function_item (λ (f : FunctionItem). f.name) c.args.functions.now c.loop-place.place (candidates c.loop-place.places) (omega arith) c.loop-place.invariant
