use Rattle.wit_component.specs.View as view
use Rattle.wit_component.proofs.PlacesCauses.{linked_from}
use Rattle.wit_component.proofs.table.table_of.Goals as goal

pub returns-clause-linkable : goal.returns-clause-linkable
returns-clause-linkable c = record {
  plain = c.in_ok-exports.ensures.plain;
  distinct = c.in_ok-add_imports.ensures.distinct;
  linked = linked_from (view.linking c.args.linking.now) _ _ c.in_ok-add_imports.ensures.imports c.in_ok-exports.ensures.places;
}
