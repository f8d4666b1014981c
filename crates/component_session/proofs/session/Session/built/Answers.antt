use Rattle.component_session.proofs.session.Session.built.Goals as goal

pub wide_build-requires-clause-wide : goal.wide_build-requires-clause-wide
wide_build-requires-clause-wide c = c.in_ok-plain.ensures.wide c.in-None.is
