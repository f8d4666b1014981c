use Rattle.component_session.proofs.session.Session.links.Goals as goal

pub wide_links-requires-clause-wide : goal.wide_links-requires-clause-wide
wide_links-requires-clause-wide c = c.in_ok-plain.ensures.wide c.in-None.is
