use Rattle.wit_named_graphs.proofs.Pushed.{pushed_named}
use Rattle.wit_named_graphs.proofs.law.law_pushed_graphs_are_named.Goals as goal

pub returns : goal.returns
returns c = λ eq features old p new id whole well h is_new named own.
    pushed_named eq features old p new id whole well h c.law_added_items_are_named.ensures c.law_found_are_there.ensures c.law_found_are_named.ensures c.law_placed_tables_name_named.ensures is_new named own
