-- What the values of the code stand for.
use Rattle.std.specs.Prelude.{List, map}
use Rattle.wit_scopes.specs.declared.worlds.WorldMember.{WorldMember}
use Rattle.wit_scopes.specs.Scopes.{WorldMemberTree}
use Rattle.wit_scopes.specs.View as scope_view

abbrev pub world_members : List WorldMember → List WorldMemberTree
world_members ms = map scope_view.world_member ms
