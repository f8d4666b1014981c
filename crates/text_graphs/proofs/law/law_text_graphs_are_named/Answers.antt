use Rattle.text_graphs.proofs.Named.{text_graphs_named}
use Rattle.text_graphs.proofs.law.law_text_graphs_are_named.Goals as goal

pub returns : goal.returns
returns c =
    text_graphs_named (record {
      parsed_well = c.law_parsed_packages_are_well_formed.ensures;
      moved_well = c.law_moved_packages_are_well_formed.ensures;
      parsed_named = c.law_parsed_packages_are_named.ensures;
      moved_named = c.law_moved_packages_are_named.ensures;
      pushed_named = c.law_pushed_graphs_are_named.ensures;
      empty_known = c.law_empty_graphs_are_known.ensures;
      parsed_read = c.law_parsed_names_read_back.ensures;
      moved_read = c.law_moved_names_read_back.ensures;
      pushed_known = c.law_pushed_graphs_are_known.ensures;
      empty_labelled = c.law_empty_graphs_are_labelled.ensures;
      parsed_apart = c.law_parsed_packages_have_names_apart.ensures;
      moved_apart = c.law_moved_packages_have_names_apart.ensures;
      pushed_labelled = c.law_pushed_graphs_are_labelled.ensures;
      empty_worlds = c.law_empty_graphs_have_named_worlds.ensures;
      parsed_worlds = c.law_parsed_packages_have_named_worlds.ensures;
      moved_worlds = c.law_moved_packages_have_named_worlds.ensures;
      pushed_worlds = c.law_pushed_graphs_have_named_worlds.ensures;
    })
