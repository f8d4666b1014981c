use Rattle.interface_names.specs.Found.{AreNone, texts_of}
use Rattle.interface_names.proofs.names.no_texts.Given as goal

abbrev pub invariant-loop-id : goal.invariant-loop-id
invariant-loop-id l = AreNone (texts_of l.texts.items) l._id
