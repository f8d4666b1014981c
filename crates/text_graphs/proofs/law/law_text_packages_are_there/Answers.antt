use Rattle.text_graphs.proofs.There.{packages_there}
use Rattle.text_graphs.proofs.law.law_text_packages_are_there.Goals as goal

pub returns : goal.returns
returns c = packages_there c.law_resolved_packages_have_their_items.ensures c.law_moved_packages_have_their_items.ensures c.law_pushed_packages_list_their_items.ensures c.law_empty_graphs_have_names_stand.ensures c.law_pushed_graphs_have_names_stand.ensures
