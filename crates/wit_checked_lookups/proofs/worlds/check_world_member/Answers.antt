use Rattle.wit_checked_lookups.proofs.worlds.check_world_member.Goals as goal

pub returns-in-Member-clause-ok : goal.returns-in-Member-clause-ok
returns-in-Member-clause-ok c = rw c.in-Member.is c.check_member.ensures.ok

pub returns-in-Listed-clause-ok : goal.returns-in-Listed-clause-ok
returns-in-Listed-clause-ok c = rw c.in-Listed.is c.check_extern.ensures.ok

pub returns-in-Included-clause-ok : goal.returns-in-Included-clause-ok
returns-in-Included-clause-ok c = rw c.in-Included.is c.check_world_path.ensures.ok
