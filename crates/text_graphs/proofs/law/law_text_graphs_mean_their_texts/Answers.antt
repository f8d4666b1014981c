use Rattle.text_graphs.proofs.Meant.{text_graphs_meant}
use Rattle.text_graphs.proofs.law.law_text_graphs_mean_their_texts.Goals as goal

pub returns : goal.returns
returns c =
    text_graphs_meant (record {
      resolved_of_texts = c.law_resolved_packages_are_of_texts.ensures;
      moved_meant = c.law_moved_packages_mean_their_texts.ensures;
      pushed_packages = c.law_pushed_packages_are_said.ensures;
      empty_meant = c.law_empty_graphs_are_meant.ensures;
      pushed_meant = c.law_pushed_graphs_mean_their_texts.ensures;
      empty_worlds = c.law_empty_worlds_are_meant.ensures;
      pushed_worlds = c.law_pushed_worlds_are_meant.ensures;
      empty_said = c.law_empty_worlds_are_said.ensures;
      pushed_said = c.law_pushed_worlds_are_said.ensures;
      resolved_owners = c.law_resolved_packages_have_owners.ensures;
      moved_owners = c.law_moved_packages_have_owners.ensures;
      resolved_apart = c.law_resolved_worlds_are_named_apart.ensures;
      moved_apart = c.law_moved_worlds_are_named_apart.ensures;
      empty_owned = c.law_empty_graphs_are_owned.ensures;
      pushed_owned = c.law_pushed_graphs_are_owned.ensures;
      pushed_trees = c.law_pushed_graphs_have_trees.ensures;
      give = c.law_graphs_give_their_names.ensures;
      empty_stand = c.law_empty_graphs_have_names_stand.ensures;
      pushed_stand = c.law_pushed_graphs_have_names_stand.ensures;
      resolved_known = c.law_resolved_types_are_known.ensures;
      moved_known = c.law_moved_types_are_known.ensures;
      empty_known = c.law_empty_graphs_have_types_known.ensures;
      pushed_known = c.law_pushed_types_are_known.ensures;
      parsed_read = c.law_parsed_names_read_back.ensures;
      moved_read = c.law_moved_names_read_back.ensures;
      empty_graph_known = c.law_empty_graphs_are_known.ensures;
      pushed_graph_known = c.law_pushed_graphs_are_known.ensures;
    }) c.law_text_graphs_are_named.ensures
