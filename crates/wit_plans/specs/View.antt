-- What the values of the code stand for.
use Rattle.wit_plans.specs.declared.plans.Parts.{Parts as Lent}
use Rattle.wit_plans.specs.Plans.{Parts}

abbrev pub parts : Lent → Parts
parts p = record { unknown = p.unknown.now; types = p.types.now; interfaces = p.interfaces.now; worlds = p.worlds.now }
