use Rattle.std.proofs.Common.{◌≡◌, ◌<◌, ℕ, [], ◌∷◌, Some}
use Rattle.std.specs.Prelude.{slice_get}
use Rattle.wit_type_names.specs.Passed.wit_scopes-Members.{MemberTree}
use Rattle.wit_type_names.specs.Passed.wit_scopes-View as scope_view
use Rattle.wit_orders.specs.Needs.{member_type}
use Rattle.wit_orders.proofs.types.are_types.Given as goal

abbrev pub invariant-loop-member : goal.invariant-loop-member
invariant-loop-member l = (i : ℕ) (m : MemberTree) → i < l.member-index → slice_get (scope_view.members l.members) i ≡ Some m → member_type m ≡ m ∷ []
