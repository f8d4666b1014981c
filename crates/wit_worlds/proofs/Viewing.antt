-- Members of worlds by their places.
use Rattle.std.proofs.Common.{◌≡◌, ℕ, ◌<◌, List, length, get_or, Some, map, ap, ◌∙◌}
use Rattle.std.proofs.lemmas.Option.{slice_get-map}
use Rattle.std.proofs.lemmas.List.{length-map}
use Rattle.std.specs.Prelude.{slice_get, option_map}
use Rattle.wit_scopes.specs.declared.worlds.WorldMember.{WorldMember}
use Rattle.wit_scopes.specs.View as scope_view
use Rattle.wit_foreign.proofs.Passed.wit_rules-Places.{read_at}

pub member_at : (ms : List WorldMember) (n : ℕ) (m : WorldMember) → n < length ms → m ≡ get_or ms n m → slice_get (map scope_view.world_member ms) n ≡ Some (scope_view.world_member m)
member_at ms n m within here = slice_get-map scope_view.world_member ms n ∙ ap (option_map scope_view.world_member) (read_at ms n m within here)

pub so_many_members : (ms : List WorldMember) → length (map scope_view.world_member ms) ≡ length ms
so_many_members ms = length-map ms scope_view.world_member
