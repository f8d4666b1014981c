use Rattle.wit_checked_files.proofs.files.ItemScopeChecked.check.Goals as goal

pub returns-in-Interface-clause-ok : goal.returns-in-Interface-clause-ok
returns-in-Interface-clause-ok c = rw c.in-Interface.is c.check_interface.ensures.ok

pub returns-in-World-clause-ok : goal.returns-in-World-clause-ok
returns-in-World-clause-ok c = rw c.in-World.is c.check_world_item.ensures.ok
