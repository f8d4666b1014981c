use Rattle.text_graphs.proofs.law.law_text_names_tell_interfaces_apart.Goals as goal

pub returns : goal.returns
returns c = λ eq r i j text sees come a b.
    c.law_names_tell_interfaces_apart.ensures r.graph.tables.packages r.graph.tables.interfaces.all i j text (c.law_text_graphs_are_named.ensures eq r sees come).named.items.apart a b
