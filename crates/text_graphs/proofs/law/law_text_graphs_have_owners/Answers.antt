use Rattle.text_graphs.proofs.law.law_text_graphs_have_owners.Goals as goal

pub returns : goal.returns
returns c = λ eq r tells sees come. (c.law_text_graphs_mean_their_texts.ensures eq r tells sees come).has
