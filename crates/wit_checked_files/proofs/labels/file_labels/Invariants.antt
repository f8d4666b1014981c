use Rattle.std.proofs.Common.{◌≡◌, map, take}
use Rattle.std.specs.Prelude.{flat_map}
use Rattle.wit_syntax.specs.AstView as view
use Rattle.wit_rules.specs.Labels.{file_item_labels}
use Rattle.wit_rules.specs.View as seen
use Rattle.wit_checked_files.proofs.labels.file_labels.Given as goal

abbrev pub invariant-loop-gated : goal.invariant-loop-gated
invariant-loop-gated l = map seen.label l.found.items ≡ flat_map (λ g. file_item_labels g.item) (map (view.gated view.file_item) (take l.gated-index l.file.items.items))
