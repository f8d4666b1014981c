-- What refusals of the layers below are here.
use Rattle.std.proofs.Common.{◌≡◌, Ok, Err, Result, IfErr, IsErrAnd, inl, sym, subst}
use Rattle.type_writing.specs.Refusals.{IsCause}
use Rattle.type_writing.specs.declared.fault.Fault.{Fault as WritingFault}
use Rattle.type_writing.specs.declared.fault.Fault.TheVariants as writing
use Rattle.encodable_worlds.specs.Passed.link_table-Linking.{Linking}
use Rattle.encodable_worlds.specs.Passed.link_table-Table.{Table, IsTable}
use Rattle.linked_components.specs.Build.{IsComponentCause}
use Rattle.linked_components.specs.Faults.{of_writing}

-- `?` passes an error up as it is
pub moved_up : {T E : Type 0} (r : Result T E) (e : E) (P : E → Type 0) → IsErrAnd r (λ x. x ≡ e) → P e → IfErr r P
moved_up (Ok x) e P is h = absurd is
moved_up (Err x) e P is h = subst P (sym is) h

-- where all can be imported, sizes and memory alone are left
pub writing_cause_is : (l : Linking) (t : Table) → IsTable l t → (fault : WritingFault) → IsCause ⊥ (Unit {0}) fault → IsComponentCause l (of_writing fault)
writing_cause_is l t is writing.NotYet cause = absurd cause
writing_cause_is l t is writing.TooLarge cause = (t, is)
writing_cause_is l t is writing.OutOfMemory cause = inl tt
