use Rattle.std.proofs.Common.{[], map, ap, ◌∙◌}
use Rattle.std.specs.Prelude.{string_bytes}
use Rattle.core_links.specs.Names.{names_in}
use Rattle.distinct_names.specs.Names.{all_new}
use Rattle.linked_components.proofs.tracks.tracks_are_apart.Goals as goal

pub tracks_of-requires : goal.tracks_of-requires
tracks_of-requires c = c.law_imports_are_there.ensures c.requires.0 c.requires.1 (names_in c.args.names.now) c.requires.2 c.requires.3

pub returns : goal.returns
returns c = c.in_ok-apart.ensures ∙ ap (all_new []) (ap (map string_bytes) c.as_slice.ensures.value ∙ c.in_ok-tracks.ensures)
