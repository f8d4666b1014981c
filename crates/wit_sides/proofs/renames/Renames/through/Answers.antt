use Rattle.std.proofs.Common.{sym, ap, ◌∙◌}
use Rattle.name_places.specs.FirstPlaces.{place_of}
use Rattle.wit_sides.proofs.Places.{stands_at, stays}
use Rattle.wit_sides.proofs.renames.Renames.through.Goals as goal

pub target-requires : goal.target-requires
target-requires c = (stands_at c.args.name.now c.self.inside.names.now c.in-Some.place (ap (place_of c.args.name.now) (sym c.self.invariant) ∙ sym c.first.ensures ∙ c.in-Some.is)).0

pub returns-in-Some : goal.returns-in-Some
returns-in-Some c =
    let at = stands_at c.args.name.now c.self.inside.names.now c.in-Some.place (ap (place_of c.args.name.now) (sym c.self.invariant) ∙ sym c.first.ensures ∙ c.in-Some.is) in
    rw (← c.self.view_is) (c.target.ensures.2 ∙ at.1 c.target.ensures.0 c.target.ensures.1)

pub returns-in-None : goal.returns-in-None
returns-in-None c = rw (← c.self.view_is) (sym (stays c.args.name.now c.self.inside.names.now (ap (place_of c.args.name.now) (sym c.self.invariant) ∙ sym c.first.ensures ∙ c.in-None.is)))
