use Rattle.std.proofs.Common.{◌≡◌, ap, [], get_or, length, Some}
use Rattle.type_sinks.specs.Kept.{index_of}
use Rattle.type_sinks.specs.Views.{root_scope, interface_names, declarator_values, IsImported}
use Rattle.type_sinks.proofs.Keeping.{each_at}
use Rattle.type_sinks.proofs.Imported.{import_types, import_instances, import_functions, import_names, import_only, import_items, import_function, its_function, import_good}
use Rattle.type_sinks.proofs.PlacedInside.{inside_imported}
use Rattle.type_sinks.proofs.inside.InterfaceTypes.import.Goals as goal

pub returns : goal.returns
returns c =
    let t = c.args.self in
    let r = c.import_instance.new.self in
    let ds = declarator_values t in
    let ids = t.exports.items in
    let n = get_or (interface_names t.root) t.interface [] in
    let k = length (root_scope t.root).instances in
    let a : IsImported t.root r t.interface ds ids = rw c.deref.ensures.value at c.in_ok-import_instance.ensures.ok in
    let w = a.written in
    record {
      imported = a;
      good = λ types. import_good t.root r t.interface (index_of t.known) ids ds types a;
      placed = inside_imported t r n w;
      homes = λ id given. each_at (λ x. index_of r.homes x ≡ Some k) ids id given a.homes.here;
      interfaces = w.names;
      known = ap index_of w.known;
      only = λ types g id k. import_only t.root r t.interface (index_of t.known) ids ds types a g id k;
      others = a.homes.others;
      same = import_functions t.root r n ds w;
      begins = (import_types t.root r n ds w, import_instances t.root r n ds w);
      names = import_names t.root r n ds w;
      items = import_items t r n w;
      functions = λ types name params answer h. its_function r (interface_names t.root) t.interface k _ types name params answer w.names (import_function t r n types name params answer w h);
      cause = tt;
    }
