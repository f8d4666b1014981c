use Rattle.std.proofs.Common.{sym, ◌∙◌}
use Rattle.wit_order.proofs.Lists.{row_read}
use Rattle.wit_package_order.proofs.order.row_at.Goals as goal

pub returns : goal.returns
returns c = c.as_slice.ensures.value ∙ sym (row_read c.args.rows.now c.args.place c.index-rows-place.result c.requires c.index-rows-place.is)
