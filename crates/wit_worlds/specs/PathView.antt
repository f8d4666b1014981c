-- What paths of the code stand for.
use Rattle.wit_worlds.specs.declared.paths.Paths.{Paths}
use Rattle.wit_worlds.specs.Paths.{PathsTree}

abbrev pub paths : Paths → PathsTree
paths p = record { interfaces = p.interfaces.now.names; first_interface = p.first_interface; worlds = p.worlds.now; first_world = p.first_world; items = p.items.now }
