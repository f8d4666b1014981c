use Rattle.wit_copies.specs.Same.{same_name, same_key_interface}
use Rattle.wit_copies.proofs.sides.clone_key.Goals as goal

pub returns-in_ok-clone-in-Name : goal.returns-in_ok-clone-in-Name
returns-in_ok-clone-in-Name c = rw c.in-Name.is (same_name c.in-Name.name c.in_ok-clone-in-Name.field-0 c.in_ok-clone-in-Name.ensures.cases)

pub returns-in-Interface : goal.returns-in-Interface
returns-in-Interface c = rw c.in-Interface.is (same_key_interface c.in-Interface.id)
