use Rattle.wit_joined.specs.Joined.{state}
use Rattle.wit_joined.proofs.Stood.{includes_there, united_there}
use Rattle.wit_joined.proofs.worlds.joined_sides.Goals as goal

pub returns-clause-there : goal.returns-clause-there
returns-clause-there c =
    let new = c.include_all.new.types in
    let r = includes_there c.law_included_types_are_backward.ensures c.law_included_sides_are_there.ensures c.args.worlds.now c.args.id c.args.includes.now (state c.args.types.now c.args.own) (state new c.in_ok-sides.sides)
    c.requires.backward c.requires.there c.requires.imports c.requires.exports c.in_ok-sides.ensures.ok in (
      united_there new c.in_ok-sides.sides.imports.items c.in_ok-imports.imports.entries c.in_ok-imports.ensures.ok.entries r.imports,
      united_there new c.in_ok-sides.sides.exports.items c.in_ok-exports.exports.entries c.in_ok-exports.ensures.ok.entries r.exports,
    )
