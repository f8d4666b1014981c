-- What the values of the code stand for.
use Rattle.std.specs.Prelude.{map}
use Rattle.wit_type_names.specs.Passed.wit_syntax-AstView as view
use Rattle.wit_orders.specs.declared.order.Entry.{Entry as Named}
use Rattle.wit_orders.specs.Needs.{Entry}

abbrev pub entry : Named → Entry
entry e = record { label = view.id e.label; needs = map view.id e.needs.items }
