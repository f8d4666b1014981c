use Rattle.std.proofs.Common.{refl}
use Rattle.wit_graph_worlds.proofs.Clones.{same_docs, same_stability, same_entries}
use Rattle.wit_graph_worlds.proofs.copies.copied_world.Goals as goal

pub returns : goal.returns
returns c =
    let w = c.args.world.now in
    record {
      name = c.in_ok-clone.ensures.cases;
      imports = same_entries w.imports.entries c.in_ok-clone-2.field-0.entries c.in_ok-clone-2.ensures.cases;
      exports = same_entries w.exports.entries c.in_ok-clone-3.field-0.entries c.in_ok-clone-3.ensures.cases;
      owner_is = refl;
      docs = same_docs w.docs c.in_ok-clone-4.field-0 c.in_ok-clone-4.ensures.cases;
      stability = same_stability w.stability c.in_ok-clone-5.field-0 c.in_ok-clone-5.ensures.cases;
      no_includes = c.new.ensures.items;
      span = refl;
    }
