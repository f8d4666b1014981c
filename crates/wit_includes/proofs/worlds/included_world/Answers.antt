use Rattle.std.proofs.Common.{subst, sym}
use Rattle.wit_copies.specs.Passed.wit_reach-Types.{AreTypesThere}
use Rattle.wit_includes.proofs.Own.{own_there}
use Rattle.wit_includes.proofs.worlds.included_world.Goals as goal

pub brought-requires-clause-there : goal.brought-requires-clause-there
brought-requires-clause-there c =
    subst (AreTypesThere c.args.types.now) (sym c.as_slice.ensures.value) (own_there c.args.include.now.from c.args.types.now c.args.include.now.world.now c.in_ok-own.own.items c.in_ok-own.ensures)
