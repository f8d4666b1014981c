use Rattle.type_writing.proofs.Standing.{begins_on}
use Rattle.type_writing.proofs.types.write_type.Goals as goal

pub returns-clause-outside : goal.returns-clause-outside
returns-clause-outside g c = begins_on (g.S.ValtypeEncoder.outside c.args.sink.now) (g.S.ValtypeEncoder.outside c.write_named.new.sink) (g.S.ValtypeEncoder.outside c.remember.new.self) c.in_ok-index.ensures.outside c.in_ok-remember.ensures.outside

pub returns-in_err-remember-clause-outside : goal.returns-in_err-remember-clause-outside
returns-in_err-remember-clause-outside g c = begins_on (g.S.ValtypeEncoder.outside c.args.sink.now) (g.S.ValtypeEncoder.outside c.write_named.new.sink) (g.S.ValtypeEncoder.outside c.remember.new.self) c.in_ok-index.ensures.outside c.in_err-remember.ensures.outside
