use Rattle.std.proofs.Common.{ap, ◌∙◌}
use Rattle.std.proofs.lemmas.Map.Text.{hash_map_updates_str}
use Rattle.wit_component.specs.Candidates.{candidates, with_one}
use Rattle.wit_component.proofs.PlacesLists.{noted}
use Rattle.wit_component.proofs.table.note.Goals as goal

pub returns : goal.returns
returns c = λ q.
    noted (candidates c.args.places.now) _ c.args.text.now q c.with_one-found.result c.args.place
    (c.with_one-found.ensures ∙ ap (λ o. with_one o c.args.place) (c.copied.ensures ∙ c.get.ensures.value))
    (hash_map_updates_str c.args.text.now c.args.places.now c.insert.new.self _ c.in_ok-insert.ensures.updates q)
