use Rattle.component_session.proofs.session.Session.hand_in.Goals as goal

pub returns-in-Err-clause-only : goal.returns-in-Err-clause-only
returns-in-Err-clause-only c = λ m h other known. c.in-Err.ensures.only m h
