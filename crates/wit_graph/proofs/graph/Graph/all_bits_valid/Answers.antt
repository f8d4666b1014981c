use Rattle.std.proofs.Common.{List, ap, ◌∙◌}
use Rattle.wit_types.specs.declared.interface.TypeDef.{TypeDef}
use Rattle.wit_graph_parts.specs.Passed.wit_arena-Tree.{resource_leaf}
use Rattle.wit_graph_parts.specs.Passed.wit_arena-Unfold.{trees}
use Rattle.wit_graph_parts.specs.Passed.wit_resources-Natures.{ref_nature, natures}
use Rattle.wit_graph_parts.specs.Passed.wit_resources-declared-natures-Nature.{Nature}
use Rattle.wit_graph_parts.proofs.Passed.wit_resources-Agreeing.{value_is_valid, all_agree}
use Rattle.wit_graph.specs.Graph.{Graph}
use Rattle.wit_graph.proofs.graph.Graph.all_bits_valid.Goals as goal

pub returns-clause-value : goal.returns-clause-value
returns-clause-value c =
    c.all_bits_valid.ensures ∙ ap (λ (ns : List Nature). (ref_nature ns c.args.ty.now).all_bits_valid) c.self.invariant.whole.whole.natures_are
    ∙ ap (λ (g : Graph). (ref_nature (natures g.tables.types) c.args.ty.now).all_bits_valid) c.self.view_is

pub returns-clause-tree : goal.returns-clause-tree
returns-clause-tree c owners v is =
    let ds : List TypeDef = c.args.self.now.tables.types in
    c.all_bits_valid.ensures ∙ ap (λ (ns : List Nature). (ref_nature ns c.args.ty.now).all_bits_valid) c.self.invariant.whole.whole.natures_are
    ∙ ap (λ (g : Graph). (ref_nature (natures g.tables.types) c.args.ty.now).all_bits_valid) c.self.view_is
    ∙ value_is_valid (trees owners resource_leaf ds) (natures ds) (all_agree owners ds) c.args.ty.now v is
