use Rattle.std.proofs.Common.{◌∙◌, ap}
use Rattle.wit_core_tables.specs.Tables.{with_one}
use Rattle.wit_core_tables.proofs.Reading.{next_table}
use Rattle.wit_core_tables.proofs.table.NameTable.add.Goals as goal

pub returns-clause-ok : goal.returns-clause-ok
returns-clause-ok g c named t =
    next_table g.K.PartialEq.eq g.met.K.Eq.laws named c.args.name c.args.place c.args.self.now c.insert.new.self.entries c.with_one-meaning.result
    (c.with_one-meaning.ensures ∙ ap (λ (o : _). with_one o c.args.place) c.get.ensures.value) (λ q. rw (← c.self.view_is) (c.in_ok-insert.ensures.updates.0 q)) t
