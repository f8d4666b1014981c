use Rattle.wit_productions.proofs.Extents.{extent_is}
use Rattle.wit_productions.proofs.cursor.extent.Goals as goal

pub returns-in-len2-up : goal.returns-in-len2-up
returns-in-len2-up c = extent_is c.args.tokens.now c.first-item.result c.last-item.result c.in-len2-up.len_at_least c.first-item.is c.last-item.is
