use Rattle.std.proofs.Common.{refl}
use Rattle.wit_rules.proofs.Places.{label_at}
use Rattle.wit_checked_files.proofs.checked.again.Goals as goal

pub returns : goal.returns
returns c = (_, refl, label_at c.args.labels.now c.args.place c.index-labels-place.result c.requires)
