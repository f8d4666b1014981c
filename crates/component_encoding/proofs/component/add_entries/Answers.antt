use Rattle.std.proofs.Common.{◌≡◌, ◌++◌, List, map, sym, ap, ◌∙◌}
use Rattle.std.proofs.lemmas.List.{append-nil, map-id}
use Rattle.std.proofs.lemmas.Iterator.Adapters.{YieldsList-from_vec}
use Rattle.std.proofs.lemmas.Iterator.Consumers.{YieldsList-end}
use Rattle.component_entries.specs.Entries.{entry_value}
use Rattle.component_entries.specs.declared.entry.Entry.{Entry}
use Rattle.linked_imports.specs.Passed.type_sinks-Placing.{as_definitions}
use Rattle.component_encoding.proofs.Entries.{entry_next}
use Rattle.component_encoding.proofs.component.add_entries.Goals as goal

pub loop-entry-init : goal.loop-entry-init
loop-entry-init c = sym (append-nil c.args.builder.now)

pub loop-entry-preserved : goal.loop-entry-preserved
loop-entry-preserved c = entry_next c.args.builder.now c.loop-entry.builder c.add.new.self c.loop-entry.yielded c.in-Some.entry c.loop-entry.invariant c.in_ok-add.ensures.added

pub returns : goal.returns
returns c =
    let es = c.args.entries.items in
    let yields = YieldsList-from_vec {s = c.into_iter-entry-iterator.result} es c.into_iter-entry-iterator.ensures.into_iter_gives.0 (c.into_iter-entry-iterator.ensures.into_iter_gives.1 ∙ c.args.entries.ok.0) in
    let over = YieldsList-end yields c.loop-entry.yielded c.loop-entry.entry-iterator c.loop-entry.yielded_by c.next.result c.next.new.self c.in-None.is c.next.ensures.steps in
    let all : c.loop-entry.yielded ≡ es = sym (map-id c.loop-entry.yielded) ∙ over.0 in
    c.loop-entry.invariant ∙ ap (λ (xs : List Entry). c.args.builder.now ++ as_definitions (map entry_value xs)) all
