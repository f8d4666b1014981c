use Rattle.std.proofs.Common.{map, take}
use Rattle.link_table.specs.Linking.{linking_value}
use Rattle.link_table.specs.View.{AreExportLinks}
use Rattle.link_table.proofs.lookup.Lookup.export_links.Given as goal

abbrev pub invariant-loop-function : goal.invariant-loop-function
invariant-loop-function l = AreExportLinks (linking_value l.self.linking) (take l.function-index (map (λ f. f.now) l.functions)) l.links.items
