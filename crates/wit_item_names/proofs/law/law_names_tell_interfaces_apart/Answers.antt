use Rattle.wit_item_names.proofs.Told.{one_interface}
use Rattle.wit_item_names.proofs.law.law_names_tell_interfaces_apart.Goals as goal

pub returns : goal.returns
returns c = λ packages interfaces i j text apart a b. one_interface packages interfaces apart i j text a b
