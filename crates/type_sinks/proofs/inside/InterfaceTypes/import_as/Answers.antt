use Rattle.type_sinks.specs.Inside.{IsExported}
use Rattle.type_sinks.specs.Kept.{index_of}
use Rattle.type_sinks.specs.Views.{interface_names, declarator_values, inside}
use Rattle.type_sinks.proofs.Keeping.{each_at}
use Rattle.type_sinks.proofs.Imported.{import_types, import_instances, import_functions, import_names, import_items, import_function, import_type, beside_good}
use Rattle.type_sinks.proofs.PlacedInside.{inside_imported}
use Rattle.type_sinks.proofs.inside.InterfaceTypes.import_as.Goals as goal

pub returns : goal.returns
returns c =
    let t = c.args.self in
    let r = c.import_named.new.self in
    let n = c.args.name.now in
    let ds = declarator_values t in
    let a = c.in_ok-import_named.ensures.ok.1 in
    let w = a.written in
    record {
      imported = a;
      good = λ types. beside_good t.root r n (index_of t.known) t.exports.items ds t.interface types a;
      placed = inside_imported t r n w;
      begins = (import_types t.root r n ds w, import_instances t.root r n ds w);
      same = import_functions t.root r n ds w;
      names = import_names t.root r n ds w;
      items = import_items t r n w;
      functions = λ types of params answer. import_function t r n types of params answer w;
      types = λ types id g given. import_type t r n types id w (each_at (IsExported (interface_names t.root) t.interface types (inside t)) t.exports.items id given g.exported);
      cause = tt;
    }
