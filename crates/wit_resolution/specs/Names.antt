-- What names name in a graph.
use Rattle.wit_core_names.specs.Texts.{Known}
use Rattle.wit_resolve_errors.specs.Passed.wit_graph-declared-tables-Tables.{Tables}

abbrev pub known_of : Tables → Known
known_of t = record { packages = t.packages; interfaces = t.interfaces.all; types = t.types }
