use Rattle.wit_named_packages.proofs.Whole.{parsed_named}
use Rattle.wit_named_packages.proofs.law.law_parsed_packages_are_named.Goals as goal

pub returns : goal.returns
returns c =
    parsed_named c.law_resolved_interfaces_take_by_use.ensures c.law_resolved_worlds_take_by_use.ensures c.law_used_interfaces_are_named.ensures c.law_interfaces_are_named_apart.ensures c.law_parsed_packages_have_plain_names.ensures
    c.law_worlds_are_under_their_names.ensures
