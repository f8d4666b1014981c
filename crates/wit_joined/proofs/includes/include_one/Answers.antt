use Rattle.wit_joined.proofs.includes.include_one.Goals as goal

pub returns-clause-ok : goal.returns-clause-ok
returns-clause-ok c = (c.in_ok-brought.brought, c.in_ok-brought.ensures.ok, c.in_ok-add_types.ensures.ok, c.in_ok-joined.ensures, c.in_ok-joined-2.ensures)
