use Rattle.std.proofs.Common.{refl}
use Rattle.linked_types.proofs.kinds.kind_fault.Goals as goal

pub returns-in-Variant : goal.returns-in-Variant
returns-in-Variant c = rw (c.if_async.ensures, c.case_is.ensures, c.deref-in-Variant.ensures.value, c.in-Variant.is) refl

pub returns-in-Record : goal.returns-in-Record
returns-in-Record c = rw (c.fields_fault.ensures, c.deref.ensures.value, c.in-Record.is) refl
