-- What is asked for of other packages, as values.
use Rattle.std.specs.Cow.{cow_str_bytes}
use Rattle.wit_checked_lookups.specs.declared.asks.Ask.{Ask}
use Rattle.wit_lookups.specs.Lookups.{AskTree}

abbrev pub ask : Ask → AskTree
ask a = record { text = cow_str_bytes a.text; asked = a.asked; span = a.span }
