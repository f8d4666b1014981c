use Rattle.std.proofs.Common.{[]}
use Rattle.wit_type_names.specs.Passed.wit_productions-NameView.{id}
use Rattle.wit_arena.proofs.Lists.{has_here}
use Rattle.wit_arena.proofs.lowering.id_of.Goals as goal

pub unreachable-requires : goal.unreachable-requires
unreachable-requires c =
    let there = c.requires (id c.args.name.now) (has_here (id c.args.name.now) []) in
    c.in-None.ensures.none there.0 there.1
