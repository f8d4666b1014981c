use Rattle.wit_named_packages.proofs.Used.{used_named}
use Rattle.wit_named_packages.proofs.law.law_used_interfaces_are_named.Goals as goal

pub returns : goal.returns
returns c = used_named
