use Rattle.std.proofs.Common.{ap}
use Rattle.wit_scopes.specs.Scopes.{ExternKind}
use Rattle.wit_file_scopes.proofs.worlds.extern_of.Goals as goal

pub returns-in_ok-add_members-in-Interface-clause-kind : goal.returns-in_ok-add_members-in-Interface-clause-kind
returns-in_ok-add_members-in-Interface-clause-kind c = λ us h.
    let members = rw c.new-members.ensures.items at (c.in_ok-add_members-in-Interface.ensures us h) in
    rw c.in-Interface.is (ap ExternKind.interface members)
