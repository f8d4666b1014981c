use Rattle.std.proofs.Common.{◌∙◌, ap, map, bytes_eq, refl, List, ℕ}
use Rattle.std.specs.String.{string_eq}
use Rattle.indexmap.specs.IndexMap.{insert_entry}
use Rattle.wit_graph_worlds.specs.Names as spec
use Rattle.wit_graph_worlds.proofs.Named.{inserted}
use Rattle.wit_graph_worlds.proofs.names.add_name.Goals as goal

pub returns : goal.returns
returns g c =
    ap (map spec.by_bytes) c.in_ok-insert.ensures.entries ∙ inserted string_eq (λ a b. refl) c.args.names.now.entries c.in_ok-name.name c.args.id
    ∙ ap (λ (k : List ℕ). insert_entry bytes_eq (map spec.by_bytes c.args.names.now.entries) k c.args.id) c.in_ok-name.ensures.ok
